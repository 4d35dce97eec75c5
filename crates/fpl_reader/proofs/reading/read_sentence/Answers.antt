use Rattle.std.proofs.lemmas.Result.{err_from_is_err_and}
use Rattle.fpl_reader.specs.Reading.{scope_of}
use Rattle.fpl_reader.proofs.Readings.{read_err, sight_is, late_refused, presented, refused_syntax, bare_known, bare_few, bare_weights, parsed_terms}
use Rattle.fpl_reader.proofs.reading.read_sentence.Goals as goal

pub invariant_of-scope-clause-few : goal.invariant_of-scope-clause-few
invariant_of-scope-clause-few c = rw c.as_slice.ensures (bare_few c.args.text.now c.args.p c.requires.bare c.requires.early)

pub invariant_of-scope-clause-known : goal.invariant_of-scope-clause-known
invariant_of-scope-clause-known c = bare_known c.args.text.now c.args.p c.requires.bare c.requires.early

pub late_refusal-requires-clause-weights : goal.late_refusal-requires-clause-weights
late_refusal-requires-clause-weights c = bare_weights c.args.text.now c.args.p c.requires.bare c.requires.early

pub late_refusal-requires-clause-terms : goal.late_refusal-requires-clause-terms
late_refusal-requires-clause-terms c = λ unknown.
    parsed_terms c.args.text.now c.args.p.field c.as_slice.result.now c.args.p.generators c.as_slice-2.result.now c.in_ok-claims.claims.items
    (bare_known c.args.text.now c.args.p c.requires.bare c.requires.early) c.requires.few c.as_slice.ensures c.as_slice-2.ensures.value
    c.in_ok-claims.ensures.claims unknown

pub returns-in_err-claims : goal.returns-in_err-claims
returns-in_err-claims c =
    let p = err_from_is_err_and c.from_residual-in_err-claims.result c.from_residual-in_err-claims.ensures.1 in
    let scope = scope_of c.args.text.now c.args.p.field c.as_slice.result.now in
    rw (p.1, p.2) (read_err c.args.text.now _ (refused_syntax c.args.text.now scope _ c.requires.lexable c.requires.shallow c.in_err-claims.ensures.fault))

pub returns-in-Some : goal.returns-in-Some
returns-in-Some c =
    rw c.refused.ensures
    (late_refused c.args.text.now c.in-Some.place c.in-Some.reason c.requires.lexable c.requires.shallow c.requires.early
    (sight_is c.args.text.now c.args.p c.as_slice.result.now c.requires.bare c.as_slice.ensures) c.requires.bare c.as_slice-2.ensures.value
    c.in_ok-claims.ensures.claims c.in-Some.ensures)

pub returns-in-Ok : goal.returns-in-Ok
returns-in-Ok c =
    presented c.args.text.now c.in-Ok.p c.requires.lexable c.requires.shallow c.requires.early
    (sight_is c.args.text.now c.args.p c.as_slice.result.now c.requires.bare c.as_slice.ensures) c.requires.bare c.as_slice-2.ensures.value
    c.in_ok-claims.ensures.claims c.in_default.ensures c.in-Ok.ensures
