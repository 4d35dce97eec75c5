use Rattle.std.proofs.Common.{◌≡◌, ◌∙◌, ℕ, List, map, refl, sym, ap, ap₂, subst, arith, length}
use Rattle.std.specs.Prelude.{Result, Ok}
use Rattle.fpl_numbers.specs.declared.number.Num.{Num}
use Rattle.fpl_numbers.specs.declared.number.Kind.{Kind}
use Rattle.fpl_numbers.specs.Numbers.{IsField}
use Rattle.fpl_rows.specs.Meaning.{IsRowOf, AreRows}
use Rattle.fpl_log.specs.declared.step.Step.{Step}
use Rattle.fpl_log.specs.declared.section.Section.{Section}
use Rattle.fpl_table.specs.Plain.{PlainTable, symbols_in}
use Rattle.fpl_check.specs.Refusal.{Refusal, passing}
use Rattle.fpl_check.specs.Premises.{IsSectionFor}
use Rattle.fpl_check.specs.ClosedRows.{test_closes, test_forms, stored_row, close_rows, test_conclusions, test_leads, test_apart}
use Rattle.fpl_check.specs.Check.{rows_stored, test_closed}
use Rattle.fpl_check.proofs.Composed.{passed, refused, same_refusal}
use Rattle.fpl_check.proofs.ListedOrigins.{demanded}
use Rattle.fpl_check.proofs.Tested.{all_formed}
use Rattle.fpl_check.proofs.PassedRows.{close_among, close_length, same_count, stored_same}
use Rattle.fpl_check.proofs.closed.closed_rows.Goals as goal

pub test_conclusions-requires-clause-formed : goal.test_conclusions-requires-clause-formed
test_conclusions-requires-clause-formed g c = all_formed c.args.n 1 c.args.section.now.closed c.in-Ok-test_forms.ensures

-- the conclusions of Close steps are rows of the weight
closes_are : (kind from : Kind) (n m : ℕ) (steps : List Step) (conclusions rows : List (List Num)) → from ≡ kind → m ≡ n → AreRows kind n conclusions →
    rows ≡ close_rows steps conclusions → AreRows from m rows
closes_are kind from n m steps conclusions rows e f are is =
    subst (λ k. AreRows k m rows) (sym e)
    (subst (λ l. AreRows kind l rows) (sym f) (subst (AreRows kind n) (sym is) (close_among (IsRowOf kind n) steps conclusions are)))

pub test_conclusions-requires-clause-conclusions : goal.test_conclusions-requires-clause-conclusions
test_conclusions-requires-clause-conclusions g c =
    closes_are c.args.table.now.kind (g.F.Field.kind_of c.field-field.result.now)
    (length (symbols_in c.args.table.now)) c.args.n c.args.section.now.steps c.args.conclusions c.in-Ok-close_rows.rows
    c.field-field.ensures c.requires.symbols c.requires.conclusions (c.in-Ok-close_rows.ensures ∙ ap (close_rows c.args.section.now.steps) c.into_vec.ensures)

pub test_rows-requires-clause-rows : goal.test_rows-requires-clause-rows
test_rows-requires-clause-rows g c =
    closes_are c.args.table.now.kind (g.F.Field.kind_of c.field-field.result.now)
    (length (symbols_in c.args.table.now)) c.args.n c.args.section.now.steps c.args.conclusions c.in-Ok-close_rows.rows
    c.field-field.ensures c.requires.symbols c.requires.conclusions (c.in-Ok-close_rows.ensures ∙ ap (close_rows c.args.section.now.steps) c.into_vec.ensures)

pub test_rows-requires-clause-few : goal.test_rows-requires-clause-few
test_rows-requires-clause-few g c =
    let count = same_count _ _ (demanded _ _ _ c.in-Ok.ensures) in
    let long = ap length (c.in-Ok-close_rows.ensures ∙ ap (close_rows c.args.section.now.steps) c.into_vec.ensures)
    ∙ close_length c.args.section.now.steps c.args.conclusions c.requires.whole in
    let few = c.requires.section.few in
    omega (arith, count, long, few)

-- the closed rows are the conclusions that passed
module _ (T : PlainTable) (listed : IsField T.kind) (s : Section) (section : IsSectionFor T s) (n : ℕ) (conclusions rows : List (List Num))
    (symbols : n ≡ length (symbols_in T))
    (are : AreRows T.kind (length (symbols_in T)) conclusions) (whole : length conclusions ≡ length s.steps) (is : rows ≡ close_rows s.steps conclusions)
    (closes : test_closes s ≡ Ok tt) (forms : test_forms n 1 s.closed ≡ Ok tt) (same : test_conclusions 1 (map (stored_row n) s.closed) rows ≡ Ok tt) where
  same_here : test_conclusions 1 (rows_stored T s) (close_rows s.steps conclusions) ≡ Ok tt
  same_here = ap₂ (λ m r. test_conclusions 1 (map (stored_row m) s.closed) r) (sym symbols) (sym is) ∙ same

  rows_are : rows_stored T s ≡ rows
  rows_are = stored_same T listed s section (rows_stored T s) conclusions refl closes same_here are whole ∙ sym is

  rest_is : test_closed T s conclusions ≡ passing (test_leads 1 0 rows) (test_apart 1 rows rows)
  rest_is =
      passed (test_closes s) _ closes ∙ passed (test_forms (length (symbols_in T)) 1 s.closed) _ (ap (λ m. test_forms m 1 s.closed) (sym symbols) ∙ forms)
      ∙ passed (test_conclusions 1 (rows_stored T s) (close_rows s.steps conclusions)) _ same_here
      ∙ ap (λ (r : List (List Num)). passing (test_leads 1 0 r) (test_apart 1 r r)) rows_are

pub returns-in-Ok-test_rows-clause-value : goal.returns-in-Ok-test_rows-clause-value
returns-in-Ok-test_rows-clause-value g c =
    ap (λ (t : Result (Unit {0}) Refusal). passing t (Ok (rows_stored c.args.table.now c.args.section.now)))
    (rest_is c.args.table.now (subst IsField c.field-field.ensures
    (g.met.F.Field.is_field c.field-field.result.now)) c.args.section.now c.requires.section c.args.n c.args.conclusions c.in-Ok-close_rows.rows
    c.requires.symbols c.requires.conclusions c.requires.whole (c.in-Ok-close_rows.ensures ∙
    ap (close_rows c.args.section.now.steps) c.into_vec.ensures) c.in-Ok.ensures c.in-Ok-test_forms.ensures c.in-Ok-test_conclusions.ensures
    ∙ c.in-Ok-test_rows.ensures.value)
    ∙ ap Ok (rows_are c.args.table.now (subst IsField c.field-field.ensures
    (g.met.F.Field.is_field c.field-field.result.now)) c.args.section.now c.requires.section c.args.n c.args.conclusions c.in-Ok-close_rows.rows
    c.requires.symbols c.requires.conclusions c.requires.whole (c.in-Ok-close_rows.ensures ∙
    ap (close_rows c.args.section.now.steps) c.into_vec.ensures) c.in-Ok.ensures c.in-Ok-test_forms.ensures c.in-Ok-test_conclusions.ensures)

pub returns-in-Err-test_rows-clause-value : goal.returns-in-Err-test_rows-clause-value
returns-in-Err-test_rows-clause-value g c =
    refused c.in-Err-test_rows.fault (test_closed c.args.table.now c.args.section.now c.args.conclusions) (Ok (rows_stored c.args.table.now c.args.section.now))
    (same_refusal c.in-Err-test_rows.fault _ _
    (rest_is c.args.table.now (subst IsField c.field-field.ensures (g.met.F.Field.is_field c.field-field.result.now)) c.args.section.now
    c.requires.section c.args.n c.args.conclusions c.in-Ok-close_rows.rows
    c.requires.symbols c.requires.conclusions c.requires.whole (c.in-Ok-close_rows.ensures ∙
    ap (close_rows c.args.section.now.steps) c.into_vec.ensures) c.in-Ok.ensures c.in-Ok-test_forms.ensures c.in-Ok-test_conclusions.ensures)
    c.in-Err-test_rows.ensures.value)
