-- What is known through weight 0.
use Rattle.std.proofs.Common.{◌≡◌, ℕ, List, [], length, map, All, None, Some, refl, sym, ap, subst, ◌∙◌}
use Rattle.std.specs.Prelude.{slice_get}
use Rattle.std.proofs.lemmas.List.Elements.{All-nil}
use Rattle.fpl_model.specs.declared.presentation.Presentation.{Presentation}
use Rattle.fpl_model.specs.Meaning.{plain}
use Rattle.fpl_model.specs.Sound.{IsSound}
use Rattle.fpl_table.specs.Plain.{PlainTable}
use Rattle.fpl_table.specs.Shape.{basis_trees, grown}
use Rattle.fpl_table.specs.Standard.{start_of}
use Rattle.plain_tables.specs.Holds.{Holds}
use Rattle.plain_tables.proofs.Holding.{start_holds}
use Rattle.fpl_forms.specs.Ledgers.{PlainLedger, IsExpr}
use Rattle.fpl_table_facts.specs.declared.known.Level.{Level}
use Rattle.fpl_table_facts.specs.declared.known.Known.{Known}
use Rattle.fpl_table_facts.specs.Known.{IsKnown}

no_trees : (p : Presentation) → basis_trees (start_of p) ≡ []
unfolding grown
no_trees p = refl

no_level : (ls : List Level) (v : ℕ) (l : Level) → ls ≡ [] → slice_get ls v ≡ Some l → ⊥
no_level ls v l e h = let no : None ≡ Some l = sym (ap (λ xs. slice_get xs v) e) ∙ h in cc

pub start_known : (p : Presentation) → IsSound p → (k : Known) → k.table ≡ start_of p → k.basis.items ≡ [] → k.levels.items ≡ [] →
    (L : PlainLedger) → L.presentation ≡ p → IsKnown L k
start_known p sound k t b l L e = record {
  holds = subst (λ q. Holds q k.table) (sym e) (subst (Holds p) (sym t) (start_holds p sound));
  basis = ap (map plain) b ∙ sym (ap basis_trees t ∙ no_trees p);
  over = subst (All (IsExpr L.presentation)) (sym b) (All-nil (IsExpr L.presentation));
  count = ap length l ∙ sym (ap (λ (T : PlainTable). T.weight) t);
  levels = λ v x h. absurd (no_level k.levels.items v x l h);
}
