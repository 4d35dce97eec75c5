-- Over a prime a multiple of a row is always added.
use Rattle.std.proofs.Common.{◌≡◌, List, sym, ◌∙◌, subst}
use Rattle.std.specs.Prelude.{Err}
use Rattle.fpl_numbers.specs.declared.number.Num.{Num}
use Rattle.fpl_numbers.specs.declared.number.Kind.{Kind}
use Rattle.fpl_numbers.specs.declared.number.Unfit.{Unfit}
use Rattle.fpl_scalar.specs.Vectors.{axpy_of}
use Rattle.plain_sources.specs.PrimeLaws.{DoesFit}
use Rattle.plain_sources.proofs.Fitting.{Always, prime_always, axpy_fits}
use Rattle.fpl_envelope.specs.Action.{IsOfResidues}

pub never : (kind : Kind) → IsOfResidues kind → (xs : List Num) (c : Num) (ys : List Num) (u : Unfit) → axpy_of kind xs c ys ≡ Err u → ⊥
never kind residues xs c ys u e = absurd (apart fits)
  where
    fits : DoesFit (axpy_of kind xs c ys)
    fits = axpy_fits kind (subst Always (sym residues.is) (prime_always residues.prime)) xs c ys

    apart : DoesFit (axpy_of kind xs c ys) → ⊥
    apart h = let k = sym h.1 ∙ e in cc
