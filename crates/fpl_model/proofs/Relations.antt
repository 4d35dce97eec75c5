-- The relations of a sound presentation: there are few of them, and their sides are terms.
use Rattle.std.proofs.Common.{◌≡◌, ◌<◌, ◌≤◌, ◌^◌, ℕ, List, [], ◌∷◌, length, get_or, sym, arith}
use Rattle.std.specs.Prelude.{map, sum, sum_by}
use Rattle.std.proofs.lemmas.List.Sums.{sum-map, sum_by-cons}
use Rattle.fpl_model.specs.declared.presentation.Equation.{Equation}
use Rattle.fpl_model.specs.declared.presentation.Presentation.{Presentation}
use Rattle.fpl_model.specs.Meaning.{plain}
use Rattle.fpl_model.specs.Sound.{IsSound, IsTerm, count_equation}
use Rattle.fpl_model.proofs.Terms.{term_within}

many_by : (qs : List Equation) → length qs ≤ sum_by count_equation qs
many_by [] = omega arith
many_by (x ∷ qs) = let h = many_by qs in rw sum_by-cons (omega (arith, h))

pub few_relations : (p : Presentation) → IsSound p → length p.relations < 2 ^ 32
few_relations p sound =
    let h : length p.relations ≤ sum (map count_equation p.relations) = rw sum-map (many_by p.relations) in
    let s = sound.small in omega arith

pub left_term : (p : Presentation) (at : ℕ) (q : Equation) → IsSound p → at < length p.relations → q ≡ get_or p.relations at q →
    IsTerm p.field (length p.generators) (plain q.left)
left_term p at q sound lt is = (let h = sound.relations at q lt in
    rw (sym is) at (term_within p.field (length p.generators) (plain (get_or p.relations at q).left) h.0.0))

pub right_term : (p : Presentation) (at : ℕ) (q : Equation) → IsSound p → at < length p.relations → q ≡ get_or p.relations at q →
    IsTerm p.field (length p.generators) (plain q.right)
right_term p at q sound lt is = (let h = sound.relations at q lt in
    rw (sym is) at (term_within p.field (length p.generators) (plain (get_or p.relations at q).right) h.1.0))
