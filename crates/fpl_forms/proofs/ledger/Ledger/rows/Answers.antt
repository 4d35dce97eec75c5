use Rattle.std.proofs.Common.{◌≡◌, ◌<◌, ◌++◌, ◌∙◌, [], ◌∷◌, List, subst, sym, ap, ap₂, map, get_or, length, arith, rules, All}
use Rattle.std.proofs.lemmas.List.{get_or_read, get_or-map, length-map, map_more}
use Rattle.fpl_model.specs.declared.expr.Expr.TheVariants.{Br}
use Rattle.fpl_forms.specs.declared.term.Term.{Term}
use Rattle.fpl_forms.specs.declared.term.Fact.{Fact}
use Rattle.fpl_forms.specs.Forms.{IsWork, IsTermOf, no_term, term_expr, sum_expr}
use Rattle.fpl_forms.specs.Combining.{lefts, atom_of, pair_of, multiplied, row_terms, times_row}
use Rattle.fpl_forms.proofs.Ledgers.{grows_trans}
use Rattle.fpl_forms.proofs.Moves.{grows_atoms, grows_terms}
use Rattle.fpl_forms.proofs.Gathering.{members_same, lengths_same, facts_next, zip2_more}
use Rattle.fpl_forms.proofs.Rows.{grows_rows}
use Rattle.fpl_forms.proofs.ledger.Ledger.rows.Goals as goal

pub row-requires-clause-row : goal.row-requires-clause-row
row-requires-clause-row c =
    let i = c.loop-i.invariant in
    let L = c.loop-i.self in
    let ss = c.args.first.now.terms.items in
    let ts = c.args.second.now.terms.items in
    let rs : List (List Fact) = map (λ r. r.items) c.args.rows.now in
    let atoms = c.args.atoms.now in
    let k = c.loop-i.i in
    let r : List Fact = c.index-rows-i.result.items in
    let long : length rs ≡ length ss = lengths_same (lefts L) (λ s. map (pair_of atoms (atom_of atoms s)) ts) rs ss i.rows.lefts_are in
    let lt : k < length ss = search rules in
    let lr : k < length rs = omega (arith, lt, long) in
    let same : length rs ≡ length c.args.rows.now = length-map c.args.rows.now (λ r. r.items) in
    let is : r ≡ get_or rs k r =
    ap (λ r. r.items) c.index-rows-i.is ∙ sym (get_or-map (λ r. r.items) c.args.rows.now k c.index-rows-i.result r (omega (arith, lr, same))) in
    subst (All (IsWork L c.args.values.now)) (sym (c.deref.ensures.value ∙ is)) (i.rows.works k r lr)

pub row-requires-clause-lefts : goal.row-requires-clause-lefts
row-requires-clause-lefts c =
    let i = c.loop-i.invariant in
    let L = c.loop-i.self in
    let ss = c.args.first.now.terms.items in
    let ts = c.args.second.now.terms.items in
    let rs : List (List Fact) = map (λ r. r.items) c.args.rows.now in
    let atoms = c.args.atoms.now in
    let k = c.loop-i.i in
    let r : List Fact = c.index-rows-i.result.items in
    let long : length rs ≡ length ss = lengths_same (lefts L) (λ s. map (pair_of atoms (atom_of atoms s)) ts) rs ss i.rows.lefts_are in
    let lt : k < length ss = search rules in
    let lr : k < length rs = omega (arith, lt, long) in
    let same : length rs ≡ length c.args.rows.now = length-map c.args.rows.now (λ r. r.items) in
    let is : r ≡ get_or rs k r =
    ap (λ r. r.items) c.index-rows-i.is ∙ sym (get_or-map (λ r. r.items) c.args.rows.now k c.index-rows-i.result r (omega (arith, lr, same))) in
    let item : c.index.result.now ≡ get_or ss k no_term = get_or_read ss k _ lt c.index.ensures no_term in
    ap (lefts L) (c.deref.ensures.value ∙ is) ∙
    members_same (lefts L) (λ s. map (pair_of atoms (atom_of atoms s)) ts) rs ss k r no_term lr lt i.rows.lefts_are ∙
    ap (λ (s : Term). map (pair_of atoms (atom_of atoms s)) ts) (sym item)

pub loop-i-preserved : goal.loop-i-preserved
loop-i-preserved c =
    let i = c.loop-i.invariant in
    let g = c.in_ok-next.ensures.grows in
    let L = c.loop-i.self in
    let M = c.row.new.self in
    let q = c.args.self.now.prime in
    let ss = c.args.first.now.terms.items in
    let ts = c.args.second.now.terms.items in
    let rs : List (List Fact) = map (λ r. r.items) c.args.rows.now in
    let atoms = c.args.atoms.now in
    let values = c.args.values.now in
    let olds = c.loop-i.all.items in
    let k = c.loop-i.i in
    let r : List Fact = c.index-rows-i.result.items in
    let s : Term = get_or ss k no_term in
    let long : length rs ≡ length ss = lengths_same (lefts L) (λ s. map (pair_of atoms (atom_of atoms s)) ts) rs ss i.rows.lefts_are in
    let lt : k < length ss = search rules in
    let lr : k < length rs = omega (arith, lt, long) in
    let same : length rs ≡ length c.args.rows.now = length-map c.args.rows.now (λ r. r.items) in
    let is : r ≡ get_or rs k r =
    ap (λ r. r.items) c.index-rows-i.is ∙ sym (get_or-map (λ r. r.items) c.args.rows.now k c.index-rows-i.result r (omega (arith, lr, same))) in
    let item : c.index.result.now ≡ s = get_or_read ss k _ lt c.index.ensures no_term in
    let items : c.push.new.self.items ≡ olds ++ c.in_ok-next.next ∷ [] = c.in_ok-push.ensures.items in
    record {
      grows = grows_trans i.grows g;
      atoms = grows_atoms g atoms i.atoms;
      values = grows_atoms g values i.values;
      firsts = grows_terms g (length atoms) ss i.firsts;
      terms = grows_terms g (length atoms) ts i.terms;
      rows = grows_rows g values atoms ss ts rs i.rows;
      made = facts_next g values _ _ _ _ olds _ c.in_ok-next.next (Br (term_expr atoms s) (sum_expr atoms ts)) (times_row q ts s (get_or rs k r))
          (map_more (λ s. Br (term_expr atoms s) (sum_expr atoms ts)) ss k no_term lt)
          (zip2_more (times_row q ts) ss rs k no_term r lt lr) items i.made
          c.in_ok-next.ensures.work (c.in_ok-next.ensures.left ∙ ap (λ (s : Term). Br (term_expr atoms s) (sum_expr atoms ts)) item)
          (c.in_ok-next.ensures.terms ∙
          ap (λ p. multiplied p c.index.result.now.number (row_terms p ts c.deref.result.now)) i.grows.prime ∙
          ap₂ (λ (s : Term) (r : List Fact). times_row q ts s r) item (c.deref.ensures.value ∙ is));
    }
