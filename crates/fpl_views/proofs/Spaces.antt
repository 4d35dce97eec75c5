-- What the texts of subspaces show, and that they fit over a prime.
use Rattle.std.specs.Prelude.{◌≡◌, ℕ, ◌+◌, ◌<◌, ◌≤◌, ◌^◌, List, [], ◌∷◌, length, get_or, map, sum, All, Result, Ok, Err}
use Rattle.std.proofs.lemmas.List.Elements.{All-map}
use Rattle.std.proofs.lemmas.List.Sums.{get_or-le-sum_by, sum-map}
use mathlib.Core.Path.{refl}
use native.Mathlib.Omega.{arith}
use Rattle.fpl_numbers.specs.declared.number.Kind.TheVariants.{Prime}
use Rattle.fpl_numbers.specs.declared.number.Unfit.{Unfit}
use Rattle.fpl_numbers.specs.Results.{map_ok}
use Rattle.fpl_model.specs.declared.expr.Expr.{Expr}
use Rattle.fpl_model.specs.declared.presentation.Presentation.{Presentation}
use Rattle.fpl_model.specs.Meaning.{plain}
use Rattle.fpl_model.specs.Sound.{IsTerm, IsWithin, IsSound, count_tree}
use Rattle.fpl_model.proofs.Terms.{term_within}
use Rattle.fpl_table.specs.Plain.{PlainTable}
use Rattle.plain_tables.specs.Holds.{Holds}
use Rattle.plain_structure.specs.Plain.{centre_of, lower_central_of, ideal_of}
use Rattle.plain_structure.proofs.Centre.{centre_means}
use Rattle.plain_structure.proofs.Series.{series_means}
use Rattle.plain_structure.proofs.Ideals.{ideal_means}
use Rattle.plain_structure.proofs.Fitting.{centres_fit, all_series_fit, ideals_fit}
use Rattle.fpl_structure.specs.declared.texts.SpaceWord.TheVariants.{Centre, Lcs, Ideal}
use Rattle.fpl_structure.specs.Texts.{space_text}
use Rattle.fpl_reply.specs.declared.view_fault.ViewFault.TheVariants.{Overflow}
use Rattle.fpl_views.specs.Overflows.{in_view}
use Rattle.fpl_views.specs.Centre.{centre_text, ShowsCentre}
use Rattle.fpl_views.specs.Lcs.{lcs_text, ShowsLcs}
use Rattle.fpl_views.specs.Ideal.{elements_of, ideal_text, ShowsIdeal}

-- what a text comes from
text_from : {X : Type 0} (f : X → List ℕ) (r : Result X Unfit) (text : List ℕ) → in_view (map_ok f r) ≡ Ok text → (x : X) × (r ≡ Ok x) × (text ≡ f x)
text_from f (Ok x) text e = (x, refl, (let k : text ≡ f x = cc in k))
text_from f (Err u) text e = absurd (let k : ⊥ = cc in k)

no_fault : {X : Type 0} (f : X → List ℕ) (r : Result X Unfit) (u : Unfit) → (x : X) × (r ≡ Ok x) → in_view (map_ok f r) ≡ Err (Overflow u) → ⊥
no_fault f (Ok x) u h e = (let k : ⊥ = cc in k)
no_fault f (Err w) u h e = (let a = h.1 in let k : ⊥ = cc in k)

pub shows_centre : (p : Presentation) (T : PlainTable) (text : List ℕ) → Holds p T → centre_text T ≡ Ok text → ShowsCentre p T text
shows_centre p T text holds e =
    let r = text_from (λ rows. space_text Centre T (rows ∷ [])) (centre_of T) text e in
    record { rows = r.0; are = centre_means p T holds r.0 r.1; is = r.2 }

pub shows_lcs : (p : Presentation) (T : PlainTable) (text : List ℕ) → Holds p T → lcs_text T ≡ Ok text → ShowsLcs p T text
shows_lcs p T text holds e =
    let r = text_from (λ terms. space_text Lcs T terms) (lower_central_of T) text e in
    record { terms = r.0; are = series_means p T holds r.0 r.1; is = r.2 }

-- the ideal elements
module _ (p : Presentation) (sound : IsSound p) where
  pub elements_within : All (IsWithin p.field (length p.generators)) (elements_of p)
  elements_within = All-map (IsWithin p.field (length p.generators)) plain p.ideals (λ k d l. (sound.ideals k d l).0.0)

  pub element_terms : All (λ e. IsTerm p.field (length p.generators) (plain e)) p.ideals
  element_terms k d l = term_within p.field (length p.generators) (plain (get_or p.ideals k d)) (sound.ideals k d l).0.0

  size_of : Expr → ℕ
  size_of e = count_tree (plain e) + 1

  pub elements_small : All (λ e. count_tree (plain e) < 2 ^ 40) p.ideals
  unfolding size_of
  elements_small k d l =
      let h : size_of (get_or p.ideals k d) ≤ sum (map size_of p.ideals) = (let a = get_or-le-sum_by size_of p.ideals k d l in rw sum-map a) in
      let s = sound.small in
      omega arith

pub shows_ideal : (p : Presentation) (T : PlainTable) (text : List ℕ) → Holds p T → ideal_text p T ≡ Ok text → ShowsIdeal p T text
shows_ideal p T text holds e =
    let r = text_from (λ rows. space_text Ideal T (rows ∷ [])) (ideal_of T (elements_of p)) text e in
    record { rows = r.0; are = ideal_means p T holds (elements_of p) (elements_within p holds.sound) r.0 r.1; is = r.2 }

pub centre_fits : (n : ℕ) (T : PlainTable) (u : Unfit) → T.kind ≡ Prime n → centre_text T ≡ Err (Overflow u) → ⊥
centre_fits n T u prime e = no_fault (λ rows. space_text Centre T (rows ∷ [])) (centre_of T) u (centres_fit n T prime) e

pub lcs_fits : (n : ℕ) (T : PlainTable) (u : Unfit) → T.kind ≡ Prime n → lcs_text T ≡ Err (Overflow u) → ⊥
lcs_fits n T u prime e = no_fault (λ terms. space_text Lcs T terms) (lower_central_of T) u (all_series_fit n T prime) e

pub ideal_fits : (n : ℕ) (p : Presentation) (T : PlainTable) (u : Unfit) → T.kind ≡ Prime n → ideal_text p T ≡ Err (Overflow u) → ⊥
ideal_fits n p T u prime e =
    no_fault (λ rows. space_text Ideal T (rows ∷ [])) (ideal_of T (elements_of p)) u (ideals_fit n T (elements_of p) prime) e
