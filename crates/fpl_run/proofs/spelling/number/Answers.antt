use Rattle.std.proofs.Common.{◌≡◌, Ok, true}
use Rattle.std.proofs.lemmas.Fmt.{parse-decimal}
use Rattle.std.proofs.lemmas.Slice.Eq.{slice_eq-Decides}
use Rattle.std.proofs.lemmas.Bool.Decides.{Decides-eqb}
use Rattle.fpl_run.proofs.spelling.number.Goals as goal

pub returns-in_default-clause-none : goal.returns-in_default-clause-none
returns-in_default-clause-none c = λ n lt is. c.in_default.not-Ok n (parse-decimal 64 n _ _ lt lt is c.parse.ensures.value.0)

pub returns-else-eq-clause-none : goal.returns-else-eq-clause-none
returns-else-eq-clause-none c = λ n lt is.
    let e : c.parse.result ≡ Ok n = parse-decimal 64 n _ _ lt lt is c.parse.ensures.value.0 in
    let same : c.as_bytes.result.now ≡ c.as_bytes-2.result.now = cc (
      c.format.ensures.text,
      c.as_bytes.ensures.value,
      c.as_bytes-2.ensures.value,
      c.in-Ok.is,
      e,
      is,
    ) in
    let yes : c.eq.result ≡ true = (slice_eq-Decides Decides-eqb _ _ _ c.eq.ensures).1 same in
    cc (yes, c.if-eq.false)
