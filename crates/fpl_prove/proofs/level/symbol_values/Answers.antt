use Rattle.std.proofs.Common.{◌≡◌, ◌<◌, ◌+◌, ◌++◌, ◌∷◌, [], ◌∙◌, ℕ, suc, List, refl, ap, sym, arith, subst, length, get_or, false}
use Rattle.std.specs.Prelude.{slice_get}
use Rattle.std.proofs.lemmas.List.{length-append}
use Rattle.std.proofs.lemmas.Option.{slice_get_read}
use Rattle.fpl_rows.proofs.Fits.{none_some}
use Rattle.fpl_model.specs.declared.expr.Expr.{Expr}
use Rattle.fpl_model.specs.declared.expr.Expr.TheVariants.{Zero}
use Rattle.fpl_forms.specs.declared.term.Fact.{Fact}
use Rattle.fpl_forms.proofs.Ledgers.{grows_refl, grows_trans}
use Rattle.fpl_table_facts.specs.Known.{IsFormOf}
use Rattle.fpl_prove.specs.Learning.{is_named, free_below, trees_at, IsSolvedAt, AreSolved, AreValues}
use Rattle.fpl_table_facts.proofs.Grown.{grows_exprs}
use Rattle.fpl_prove.proofs.Reading.{grows_zeros}
use Rattle.fpl_prove.proofs.Leading.{named_some, named_none, free_start, free_named, free_other, element_here}
use Rattle.fpl_prove.proofs.Solving.{grows_values, values_more, one_term}
use Rattle.fpl_prove.proofs.level.symbol_values.Goals.{in-Some+in_ok-value-in-Some, in-None+in_ok-unit-in-None}
use Rattle.fpl_prove.proofs.level.symbol_values.Goals as goal

pub loop-s-init : goal.loop-s-init
loop-s-init c =
    let L = c.args.ledger.now in
    let none : c.new-values.result.items ≡ [] = c.new-values.ensures.items in
    record {
      grows = grows_refl L;
      basis = c.requires.basis;
      trees = c.requires.trees;
      zeros = c.requires.zeros;
      solved = c.requires.solved;
      next = (let e = ap length (free_start c.args.leads.now) in omega (arith, e));
      count = ap length none;
      values = λ s f e. absurd (none_some (sym (ap (λ (fs : List Fact). slice_get fs s) none) ∙ e));
    }

pub solved_value-requires-clause-values : goal.solved_value-requires-clause-values
solved_value-requires-clause-values c =
    subst (AreValues c.loop-s.ledger c.args.basis.now c.args.trees.now) (sym c.deref.ensures.value) c.loop-s.invariant.values

pub solved_value-requires-clause-solved : goal.solved_value-requires-clause-solved
solved_value-requires-clause-solved c =
    let k = c.in-Some.k in
    let item = c.index-closed-k.result in
    let closed = c.args.closed.now in
    let count = c.requires.count in
    let within : k < length c.args.leads.now = c.in-Some.ensures.some.0 in
    subst (λ (s : ℕ). IsSolvedAt c.loop-s.ledger.prime s item.terms.items) c.in-Some.ensures.some.1
    (c.loop-s.invariant.solved k item (slice_get_read closed (length closed) k item refl (omega (arith, within, count)) c.index-closed-k.is))

-- the element that a symbol is which is no lead
here : (old basis trees : List Expr) (leads : List ℕ) (s i before : ℕ) → length old ≡ before → basis ≡ old ++ trees_at trees (free_below leads (length trees)) →
    s < length trees → is_named leads s ≡ false → i ≡ before + length (free_below leads s) → (i < length basis) × (get_or basis i Zero ≡ get_or trees s Zero)
here old basis trees leads s i before e is l none next =
    element_here old basis trees leads s i (length trees) refl is l none (omega (arith, e, next))

pub overflow_cast-i : goal.overflow_cast-i
overflow_cast-i c =
    let none = named_none c.args.leads.now c.loop-s.s (c.in-None.ensures.none refl) in
    let free = c.requires.free in
    let l : c.loop-s.i < length c.args.basis.now =
    (here free.0 c.args.basis.now c.args.trees.now c.args.leads.now c.loop-s.s c.loop-s.i c.args.before free.1 free.2 c.loop-s-test.true none
    c.loop-s.invariant.next).0 in
    let few = c.requires.few in omega (arith, l, few)

pub unit-requires-clause-atom : goal.unit-requires-clause-atom
unit-requires-clause-atom c =
    let none = named_none c.args.leads.now c.loop-s.s (c.in-None.ensures.none refl) in
    let free = c.requires.free in
    (here free.0 c.args.basis.now c.args.trees.now c.args.leads.now c.loop-s.s c.loop-s.i c.args.before free.1 free.2 c.loop-s-test.true none
    c.loop-s.invariant.next).0

pub overflow_add-i : goal.overflow_add-i
overflow_add-i c =
    let none = named_none c.args.leads.now c.loop-s.s (c.in-None.ensures.none refl) in
    let free = c.requires.free in
    let l : c.loop-s.i < length c.args.basis.now =
    (here free.0 c.args.basis.now c.args.trees.now c.args.leads.now c.loop-s.s c.loop-s.i c.args.before free.1 free.2 c.loop-s-test.true none
    c.loop-s.invariant.next).0 in
    let few = c.requires.few in omega (arith, l, few)

pub loop-s-preserved : goal.loop-s-preserved
loop-s-preserved c =
    let i = c.loop-s.invariant in
    let L = c.loop-s.ledger in
    let s = c.loop-s.s in
    let leads = c.args.leads.now in
    let trees = c.args.trees.now in
    let basis = c.args.basis.now in
    let closed = c.args.closed.now in
    let olds = c.loop-s.values.items in
    let f = c.match-lead_at.value in
    let one : s + 1 ≡ suc s = omega arith in
    let more : c.push.new.self.items ≡ olds ++ f ∷ [] = c.in_ok-push.ensures.items in
    let count : length c.push.new.self.items ≡ s + 1 = (let e = ap length more ∙ length-append olds (f ∷ []) in let l = i.count in omega (arith, e, l)) in
    elim c.match-lead_at.branch [
      | in-Some+in_ok-value-in-Some w ↦
          let M = w.solved_value.new.ledger in
          let g = w.in_ok-value-in-Some.ensures.grows in
          let v = w.in_ok-value-in-Some.value in
          let some = named_some leads w.in-Some.k s w.in-Some.ensures.some.0 w.in-Some.ensures.some.1 in
          record {
            grows = rw w.ledger-is (grows_trans i.grows g);
            basis = rw w.ledger-is (grows_exprs g basis i.basis);
            trees = rw w.ledger-is (grows_exprs g trees i.trees);
            zeros = rw w.ledger-is (grows_zeros g trees closed i.zeros);
            solved = rw w.ledger-is (subst (λ (q : ℕ). AreSolved q leads closed) (sym g.prime) i.solved);
            next = w.i-is ∙ i.next ∙ ap (λ (ss : List ℕ). c.args.before + length ss) (sym (free_named leads s (s + 1) one some));
            count = count;
            values = rw w.ledger-is (values_more M basis trees olds c.push.new.self.items f s more i.count (grows_values g basis trees olds i.values)
                (subst (IsFormOf M basis (get_or trees s Zero)) (sym w.value-is) w.in_ok-value-in-Some.ensures.value));
          }
      | in-None+in_ok-unit-in-None w ↦
          let M = w.unit.new.self in
          let g = w.in_ok-unit-in-None.ensures.grows in
          let u = w.in_ok-unit-in-None.unit in
          let none = named_none leads s (w.in-None.ensures.none refl) in
          let free = c.requires.free in
          let at = here free.0 basis trees leads s c.loop-s.i c.args.before free.1 free.2 c.loop-s-test.true none i.next in
          record {
            grows = rw w.ledger-is (grows_trans i.grows g);
            basis = rw w.ledger-is (grows_exprs g basis i.basis);
            trees = rw w.ledger-is (grows_exprs g trees i.trees);
            zeros = rw w.ledger-is (grows_zeros g trees closed i.zeros);
            solved = rw w.ledger-is (subst (λ (q : ℕ). AreSolved q leads closed) (sym g.prime) i.solved);
            next = (let e = w.i-is in let l = i.next in let m = ap length (free_other leads s (s + 1) one none) ∙ length-append (free_below leads s) (s ∷ []) in
                omega (arith, e, l, m));
            count = count;
            values = rw w.ledger-is (values_more M basis trees olds c.push.new.self.items f s more i.count (grows_values g basis trees olds i.values)
                (subst (IsFormOf M basis (get_or trees s Zero)) (sym w.value-is) (record {
                  fact = record { work = w.in_ok-unit-in-None.ensures.work; left = w.in_ok-unit-in-None.ensures.left ∙ at.1 };
                  form = one_term M.prime (length basis) c.loop-s.i u.terms.items w.in_ok-unit-in-None.ensures.terms w.in_ok-unit-in-None.ensures.work.terms;
                })));
          }
    ]
