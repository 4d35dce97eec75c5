-- Computing a weight of a presentation gives one thing, and over a prime its section.
use Rattle.std.specs.Prelude.{◌≡◌, Result, Ok, Err}
use mathlib.Core.Path.{sym, ap, ◌∙◌, subst}
use native.Mathlib.Omega.{arith}
use Rattle.fpl_numbers.specs.declared.number.Unfit.{Unfit}
use Rattle.fpl_numbers.specs.Results.{map_ok}
use Rattle.fpl_log.specs.declared.section.Section.{Section}
use Rattle.plain_tables.proofs.OneRaised.{raised_kind, raised_are_one}
use Rattle.plain_sources.proofs.Fitting.{Always, prime_always}
use Rattle.plain_weights.specs.Section.{section_of, section_after, ComputesOne, ComputesOverPrimes}
use Rattle.plain_weights.proofs.Fitting.{close_weight_fits}

pub computes_one : ComputesOne
computes_one p w r s sound a b =
    let same = raised_are_one p a.table b.table sound a.raised b.raised (let x = a.below in let y = b.below in omega arith) in
    sym a.gives ∙ ap (λ T. section_after T p) same ∙ b.gives

pub computes_over_primes : ComputesOverPrimes
computes_over_primes n p w u kind c =
    let always = subst Always (sym (raised_kind p c.table c.raised ∙ kind)) (prime_always n) in
    let f = close_weight_fits c.table always p in
    no (section_of c.table p f.0) u (sym (ap (map_ok (section_of c.table p)) f.1) ∙ c.gives)
  where
    no : (s : Section) (u : Unfit) → ◌≡◌ {A = Result Section Unfit} (Ok s) (Err u) → ⊥
    no s u e = cc
