use Rattle.std.proofs.Common.{◌≡◌, ◌≤◌, ◌<◌, ◌^◌, ◌∙◌, ◌++◌, ℕ, List, refl, ap, ap₂, sym, subst, arith, length, map, All, rules, ◌+◌}
use Rattle.fpl_numbers.specs.declared.number.Num.{Num}
use Rattle.fpl_numbers.specs.declared.number.Kind.TheVariants.{Prime}
use Rattle.fpl_rows.specs.Meaning.{pivot_of, AreRows}
use Rattle.fpl_model.specs.declared.expr.Expr.{Expr}
use Rattle.fpl_model.specs.declared.presentation.Presentation.{Presentation}
use Rattle.fpl_table.specs.Plain.{symbols_in}
use Rattle.fpl_table.specs.Push.{free_of, push_of}
use Rattle.fpl_table.specs.Standard.{count_of}
use Rattle.plain_tables.specs.Holds.{Holds}
use Rattle.fpl_check.specs.ClosedRows.{stored_row}
use Rattle.fpl_check.specs.Check.{rows_stored}
use Rattle.fpl_forms.specs.Ledgers.{PlainLedger, IsSoundLedger, IsExpr, Grows}
use Rattle.fpl_forms.proofs.Ledgers.{grows_trans}
use Rattle.fpl_facts.specs.Facts.{IsZero}
use Rattle.fpl_prove.specs.Learning.{close_facts, IsWithinRow, free_below, trees_at, AreSolved, AreValues}
use Rattle.fpl_table_facts.proofs.Grown.{grows_known, grows_next}
use Rattle.fpl_prove.proofs.Knowing.{count_next, stored_are, pushed_holds, trees_size, basis_is, basis_over, basis_few, known_next}
use Rattle.fpl_prove.proofs.Learned.{accepted_within, closes_count, closes_zero, closes_solved}
use Rattle.fpl_prove.proofs.learn.learn.Goals as goal

field_after : (K L : PlainLedger) → Grows K L → IsSoundLedger K → L.presentation.field ≡ Prime L.prime
field_after K L g s = ap (λ (p : Presentation). p.field) g.presentation ∙ s.field ∙ ap Prime (sym g.prime)

pub stored_rows-requires-clause-within : goal.stored_rows-requires-clause-within
stored_rows-requires-clause-within c =
    let T = c.args.known.now.table in
    let next = c.in_ok-next.ensures.next c.args.ledger.now c.requires.known in
    subst (λ (n : ℕ). All (All (IsWithinRow n)) c.args.section.now.closed) (sym (c.len.ensures.value ∙ ap length next.symbols))
    (accepted_within c.args.ledger.now.presentation T c.args.section.now (rows_stored T c.args.section.now) c.requires.accepted)

pub push_weight-requires-clause-few : goal.push_weight-requires-clause-few
push_weight-requires-clause-few c = let e = count_next c.args.known.now.table in let l = c.requires.few in omega (arith, e, l)

pub push_weight-requires-clause-rows : goal.push_weight-requires-clause-rows
push_weight-requires-clause-rows c =
    let K = c.args.ledger.now in
    let k = c.args.known.now in
    let T = k.table in
    let s = c.args.section.now in
    let n = c.in_ok-next.next in
    let next = c.in_ok-next.ensures.next K c.requires.known in
    let rows = rows_stored T s in
    let rows_are : c.in_ok-rows.rows ≡ rows = c.in_ok-rows.ensures
    ∙ ap (λ (m : ℕ). map (stored_row m) s.closed) (c.len.ensures.value ∙ ap length next.symbols) in
    subst (λ (rs : List (List Num)). AreRows T.kind (count_of T (T.weight + 1)) rs) (sym rows_are)
    (subst (λ (m : ℕ). AreRows T.kind m rows) (sym (count_next T)) (stored_are K.presentation T s c.requires.known.holds c.requires.section))

few : (m n : ℕ) (es fs : List Expr) → es ≡ fs → length fs ≡ n → n ≤ 2000000 → length es < 2 ^ 32
few m n es fs e size l = let a = ap length e in omega (arith, a, size, l)

pub new_basis-requires : goal.new_basis-requires
new_basis-requires c =
    let next = c.in_ok-next.ensures.next c.args.ledger.now c.requires.known in
    few 0 (length (symbols_in c.args.known.now.table)) c.deref.result.now c.in_ok-next.next.trees.items c.deref.ensures.value
    (trees_size c.args.ledger.now c.args.known.now c.requires.known c.in_ok-next.next next) c.requires.few

pub symbol_values-requires : goal.symbol_values-requires
symbol_values-requires c =
    let K = c.args.ledger.now in
    let k = c.args.known.now in
    let T = k.table in
    let s = c.args.section.now in
    let n = c.in_ok-next.next in
    let next = c.in_ok-next.ensures.next K c.requires.known in
    let rows = rows_stored T s in
    let rows_are : c.in_ok-rows.rows ≡ rows = c.in_ok-rows.ensures
    ∙ ap (λ (m : ℕ). map (stored_row m) s.closed) (c.len.ensures.value ∙ ap length next.symbols) in
    let L = c.conclusions.new.ledger in
    let g = c.in_ok-zeros.ensures.grows in
    let known = grows_known g c.requires.known in
    let after = grows_next g {k = k} {n = n} next in
    let leads : c.in_ok-leads.leads.items ≡ map pivot_of rows = c.in_ok-leads.ensures ∙ ap (map pivot_of) rows_are in
    let made : c.new_basis.new.basis.items ≡ k.basis.items ++ trees_at n.trees.items (free_of T rows) =
    basis_is K k c.requires.known n next rows c.in_ok-leads.leads.items c.new_basis.new.basis.items leads
    (c.in_ok-new_basis.ensures
    ∙ ap₂ (λ (es : List Expr) (ls : List ℕ). k.basis.items ++ trees_at es (free_below ls (length es))) c.deref.ensures.value c.deref-2.ensures.value) in
    let held = subst (λ (p : Presentation). Holds p (push_of T rows)) (sym g.presentation)
    (pushed_holds K.presentation T s c.requires.known.holds c.requires.weight c.requires.few c.requires.section c.requires.accepted) in
    let z = c.in_ok-zeros.ensures.zeros in
    let closed : c.deref-6.result.now ≡ close_facts s.steps c.in_ok-zeros.zeros.items = c.deref-6.ensures.value ∙ c.in_ok-closed.ensures in
    let field = field_after K L g c.sound.ensures in
    let few_new = basis_few L k known n after rows held c.new_basis.new.basis.items made in
    let size = ap length c.deref-3.ensures.value in
    record {
      few = omega (arith, few_new, size);
      symbols = few 0 (length (symbols_in T)) c.deref-4.result.now n.trees.items c.deref-4.ensures.value
          (trees_size K k c.requires.known n next) c.requires.few;
      basis = subst (All (IsExpr L.presentation)) (sym c.deref-3.ensures.value) (basis_over L k known n after rows held c.new_basis.new.basis.items made);
      trees = subst (All (IsExpr L.presentation)) (sym c.deref-4.ensures.value) after.over;
      zeros = subst (λ (es : List Expr). All (IsZero L es) c.deref-6.result.now) (sym c.deref-4.ensures.value)
          (subst (All (IsZero L n.trees.items)) (sym closed)
          (closes_zero K L g.presentation field T n s c.requires.known.holds c.requires.section c.requires.accepted z.0 z.1 c.in_ok-zeros.zeros.items z.2));
      solved = subst (λ (ls : List ℕ). AreSolved L.prime ls c.deref-6.result.now) (sym (c.deref-5.ensures.value ∙ leads))
          (subst (AreSolved L.prime (map pivot_of rows)) (sym closed)
          (closes_solved K L g.presentation field T n s c.requires.known.holds c.requires.section c.requires.accepted z.0 z.1 c.in_ok-zeros.zeros.items z.2));
      count = ap length closed
          ∙ closes_count K L g.presentation field T n s c.requires.known.holds c.requires.section c.requires.accepted z.0 z.1 c.in_ok-zeros.zeros.items z.2
          ∙ ap length (sym (c.deref-5.ensures.value ∙ leads));
      free = search rules;
    }

pub returns : goal.returns
returns c =
    let K = c.args.ledger.now in
    let k = c.args.known.now in
    let T = k.table in
    let s = c.args.section.now in
    let n = c.in_ok-next.next in
    let next = c.in_ok-next.ensures.next K c.requires.known in
    let rows = rows_stored T s in
    let rows_are : c.in_ok-rows.rows ≡ rows = c.in_ok-rows.ensures
    ∙ ap (λ (m : ℕ). map (stored_row m) s.closed) (c.len.ensures.value ∙ ap length next.symbols) in
    let L = c.conclusions.new.ledger in
    let g = c.in_ok-zeros.ensures.grows in
    let known = grows_known g c.requires.known in
    let after = grows_next g {k = k} {n = n} next in
    let leads : c.in_ok-leads.leads.items ≡ map pivot_of rows = c.in_ok-leads.ensures ∙ ap (map pivot_of) rows_are in
    let made : c.new_basis.new.basis.items ≡ k.basis.items ++ trees_at n.trees.items (free_of T rows) =
    basis_is K k c.requires.known n next rows c.in_ok-leads.leads.items c.new_basis.new.basis.items leads
    (c.in_ok-new_basis.ensures
    ∙ ap₂ (λ (es : List Expr) (ls : List ℕ). k.basis.items ++ trees_at es (free_below ls (length es))) c.deref.ensures.value c.deref-2.ensures.value) in
    let held = subst (λ (p : Presentation). Holds p (push_of T rows)) (sym g.presentation)
    (pushed_holds K.presentation T s c.requires.known.holds c.requires.weight c.requires.few c.requires.section c.requires.accepted) in
    let M = c.symbol_values.new.ledger in
    let h = c.in_ok-values.ensures.grows in
    let values = c.in_ok-values.values in
    record {
      grows = grows_trans g h;
      known =
          known_next M k (grows_known h known) n (grows_next h {k = k} {n = n} after) rows
          (subst (λ (p : Presentation). Holds p (push_of T rows)) (sym h.presentation) held) c.new_basis.new.basis.items made
          (record { table = c.push_weight.new.self; basis = c.new_basis.new.basis; levels = c.push.new.self })
          (record { symbols = n.symbols; values = values }) (c.in_ok-push_weight.ensures.value ∙ ap (push_of T) rows_are) refl c.in_ok-push.ensures.items refl
          (c.in_ok-values.ensures.count ∙ ap length c.deref-4.ensures.value)
          (subst (λ (es : List Expr). AreValues M es n.trees.items values.items) c.deref-3.ensures.value
          (subst (λ (es : List Expr). AreValues M c.deref-3.result.now es values.items) c.deref-4.ensures.value c.in_ok-values.ensures.values));
      table = c.in_ok-push_weight.ensures.value ∙ ap (push_of T) rows_are;
    }
