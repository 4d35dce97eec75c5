-- What the tests of triples and cubes tell.
use Rattle.std.proofs.Common.{◌≡◌, ◌<◌, ◌+◌, ◌-◌, ℕ, suc, length, get_or, sym, subst, ◌∙◌, arith, true}
use Rattle.std.specs.Prelude.{nat_le, ◌&&◌}
use Rattle.math_algebra.specs.Tree.{odd}
use Rattle.math_algebra.specs.Degrees.{HasParity}
use Rattle.fpl_model.specs.declared.expr.Expr.TheVariants.{Zero}
use Rattle.fpl_model.specs.declared.presentation.Parity as code
use Rattle.fpl_model.specs.Meaning.{tree_in, parity_in, presentation_in}
use Rattle.fpl_table.specs.Plain.{PlainTable, plain_basis, table_in}
use Rattle.fpl_rewrite.specs.Origins.{is_three, is_triple, is_cube}
use Rattle.plain_tables.proofs.Trees.{tree_printed}
use Rattle.plain_sources.proofs.Listed.{triple_is, cube_is}
use Rattle.fpl_check.specs.Steps.{is_triple_of, is_cube_of}
use Rattle.fpl_check.proofs.Loops.{both_true, is_most}
use Rattle.fpl_forms.specs.Ledgers.{PlainLedger}
use Rattle.fpl_facts.specs.Axioms.{HasParityIn}
use Rattle.fpl_table_facts.specs.declared.known.Known.{Known}
use Rattle.fpl_table_facts.specs.Known.{IsKnown}
use Rattle.fpl_table_facts.proofs.Levels.{basis_length, atom_tree, whole}

pub record IsTripleNext (T : PlainTable) (i j k n : ℕ) : Type 0 where
  pub first : i - 1 < n
  pub second : j - 1 < n
  pub third : k - 1 < n
  pub sum : (plain_basis T (i - 1)).weight + (plain_basis T (j - 1)).weight + (plain_basis T (k - 1)).weight ≡ suc T.weight

pub triple_next : (T : PlainTable) (i j k n : ℕ) → n ≡ length T.basis → is_triple_of T i j k ≡ true → IsTripleNext T i j k n
triple_next T i j k n same e =
    let a = both_true _ (is_triple T (i - 1) (j - 1) (k - 1)) e in
    let b = both_true _ (nat_le k (length T.basis)) a.0 in
    let c = both_true _ (nat_le j k) b.0 in
    let d = both_true (nat_le 1 i) (nat_le i j) c.0 in
    let one = is_most 1 i d.0 in
    let l = is_most i j d.1 in
    let m = is_most j k c.1 in
    let most = is_most k (length T.basis) b.1 in
    let t = triple_is T (i - 1) (j - 1) (k - 1) (omega (arith, one, l, m, most)) a.1 in
    record {
      first = omega (arith, one, l, m, most, same);
      second = omega (arith, one, l, m, most, same);
      third = omega (arith, one, l, m, most, same);
      sum = t.sum;
    }

pub record IsCubeNext (T : PlainTable) (i n : ℕ) : Type 0 where
  pub within : i - 1 < n
  pub is_odd : (plain_basis T (i - 1)).parity ≡ odd
  pub sum : (plain_basis T (i - 1)).weight + (plain_basis T (i - 1)).weight + (plain_basis T (i - 1)).weight ≡ suc T.weight

pub cube_next : (T : PlainTable) (i n : ℕ) → n ≡ length T.basis → is_cube_of T i ≡ true → IsCubeNext T i n
cube_next T i n same e =
    let a = both_true _ (is_cube T (i - 1)) e in
    let b = both_true (is_three T.kind && nat_le 1 i) (nat_le i (length T.basis)) a.0 in
    let d = both_true (is_three T.kind) (nat_le 1 i) b.0 in
    let one = is_most 1 i d.1 in
    let most = is_most i (length T.basis) b.1 in
    let c = cube_is T (i - 1) a.1 in
    record { within = omega (arith, one, most, same); is_odd = c.0; sum = c.1 }

-- an atom has its parity
pub atom_has : {L : PlainLedger} {k : Known} (h : IsKnown L k) (i : ℕ) → i < length k.basis.items → (s : code.Parity) →
    parity_in s ≡ (plain_basis k.table i).parity → HasParityIn L.presentation (get_or k.basis.items i Zero) s
atom_has {L} {k} h i lt s is =
    let p = L.presentation in
    let within : i < length k.table.basis = (let e = basis_length h in omega (arith, lt, e)) in
    let tree : (whole h).tree i ≡ tree_in p.field (get_or k.basis.items i Zero) =
    tree_printed p.field (presentation_in p) (table_in p.field k.table) (whole h).tree (whole h).standard i within ∙ sym (atom_tree h i lt) in
    subst (HasParity (presentation_in p) (tree_in p.field (get_or k.basis.items i Zero))) (sym is)
    (subst (λ e. HasParity (presentation_in p) e (plain_basis k.table i).parity) tree ((whole h).facts.tree_parity i within))
