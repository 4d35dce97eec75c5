use Rattle.std.proofs.Common.{◌≡◌, ◌<◌, ◌+◌, ◌++◌, ◌∷◌, [], ◌∙◌, refl, ap, ap₂, sym, subst, length, get_or, All}
use Rattle.std.proofs.lemmas.List.{map_more, map-append}
use Rattle.std.proofs.lemmas.Option.{slice_get_read}
use Rattle.fpl_rows.proofs.Fits.{all_more}
use Rattle.fpl_forms.specs.declared.term.Fact.{Fact}
use Rattle.fpl_forms.specs.Ledgers.{left_of}
use Rattle.fpl_forms.specs.Forms.{IsWork, no_term}
use Rattle.fpl_forms.specs.Combining.{lefts, atom_of}
use Rattle.fpl_facts.proofs.Copies.{same_work}
use Rattle.fpl_prove.proofs.level.values_of.Goals as goal

pub loop-t-preserved : goal.loop-t-preserved
loop-t-preserved c =
    let L = c.args.ledger.now in
    let ts = c.args.terms.now in
    let basis = c.args.basis.now in
    let trees = c.args.trees.now in
    let values = c.args.values.now in
    let i = c.loop-t.t-index in
    let olds = c.loop-t.facts.items in
    let item = c.index-values-t.result in
    let f = c.in_ok-copy.field-0 in
    let lt : i < length ts = c.loop-t-test.true in
    let t = get_or ts i no_term in
    let small : t.atom < length values = c.requires.terms i no_term lt in
    let got = slice_get_read values (length values) t.atom item refl small c.index-values-t.is in
    let is = c.requires.values t.atom item got in
    let more : c.push.new.self.items ≡ olds ++ f ∷ [] = c.in_ok-push.ensures.items in
    record {
      works = subst (All (IsWork L basis)) (sym more)
          (all_more (IsWork L basis) olds f c.loop-t.invariant.works (same_work c.in_ok-copy.ensures.line c.in_ok-copy.ensures.terms is.fact.work));
      lefts = ap (lefts L) more ∙ map-append (λ (f : Fact). left_of L f.line) olds (f ∷ [])
          ∙ ap₂ (λ xs x. xs ++ x ∷ []) c.loop-t.invariant.lefts (ap (left_of L) c.in_ok-copy.ensures.line ∙ is.fact.left)
          ∙ sym (map_more (atom_of trees) ts i no_term lt);
    }
