-- The laws of matrices and relations, from those of their numbers.
use Rattle.std.proofs.Common.{◌≡◌, ◌<◌, ◌+◌, ℕ, length, ap, sym, subst}
use Rattle.fpl_numbers.specs.declared.number.Num.{Num}
use Rattle.math_algebra.specs.Tree.{Tree}
use Rattle.fpl_model.specs.declared.presentation.Presentation.{Presentation}
use Rattle.fpl_model.specs.Sound.{IsTerm}
use Rattle.plain_matrices.specs.Relations.{AreRespected}
use Rattle.plain_matrices.proofs.Respect.{numbers_mean, respect_means, respected_holds}
use Rattle.fpl_matrices.specs.Matrices.{Assigned, numbers_in, prime_in, IsAssignment}
use Rattle.fpl_matrices.specs.Laws.{NoneBroken, MatricesAreMeant, RespectedExactly, DerivedHolds}

pub matrices_are_meant : MatricesAreMeant
matrices_are_meant p a t h term =
    (numbers_mean p.field (prime_in p.field) a.even (a.even + a.odd) h.matrices.field h.matrices.listed (numbers_in a) h.matrices.squares t
    (subst (λ c. IsTerm p.field c t) (sym h.matrices.count) term)).1

to_all : (p : Presentation) (a : Assigned) → NoneBroken p a → AreRespected (prime_in p.field) a.even (a.even + a.odd) (numbers_in a) p
to_all p a h k d l = h k l d

of_all : (p : Presentation) (a : Assigned) → AreRespected (prime_in p.field) a.even (a.even + a.odd) (numbers_in a) p → NoneBroken p a
of_all p a h k l d = h k d l

pub respected_exactly : RespectedExactly
respected_exactly p a sound h =
    let r = respect_means p (prime_in p.field) a.even (a.even + a.odd) (numbers_in a) sound h.matrices in
    ((λ n. r.0 (to_all p a n)), (λ s. of_all p a (r.1 s)))

pub derived_holds : DerivedHolds
derived_holds p a sound h none t u is_t is_u d =
    ap (λ xs. record { prime = prime_in p.field; even = a.even; odd = a.odd; numbers = xs })
    (respected_holds p (prime_in p.field) a.even (a.even + a.odd) (numbers_in a) sound h.matrices (to_all p a none) t u is_t is_u d)
