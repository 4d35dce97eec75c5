-- What is known of a table after a weight is pushed.
use Rattle.std.proofs.Common.{◌≡◌, ◌≤◌, ◌<◌, ◌+◌, ◌-◌, ◌++◌, ℕ, zero, suc, List, [], ◌∷◌, length, map, get_or, refl, ap, ap₂, sym, subst, ◌∙◌, arith, All}
use native.Mathlib.Decide.{dec_lt}
use Rattle.std.proofs.lemmas.List.{length-append, length-map, get_or_append_left, get_or-map, get_or-append-add, map-append}
use Rattle.std.proofs.lemmas.List.Elements.{All-append}
use Rattle.std.proofs.lemmas.Option.{slice_get_within}
use Rattle.math_fields.specs.Field.{Field}
use Rattle.math_linear.specs.Vector.{vzero}
use Rattle.fpl_numbers.specs.declared.number.Num.{Num}
use Rattle.fpl_numbers.specs.Numbers.{residue}
use Rattle.fpl_numbers.specs.Kinds.{field_of}
use Rattle.math_algebra.specs.Table.{Symbol, of_generator, of_pair, Table, no_basis}
use Rattle.math_algebra.specs.Symbols.{no_symbol, symbols_of}
use Rattle.math_algebra.specs.Extending.{IsLower}
use Rattle.math_standard.proofs.Standing.{symbols_lower}
use Rattle.fpl_model.specs.declared.expr.Expr.{Expr}
use Rattle.fpl_model.specs.declared.expr.Expr.TheVariants.{Zero, Br, Sum, Times}
use Rattle.fpl_model.specs.declared.presentation.Presentation.{Presentation}
use Rattle.fpl_model.specs.Meaning.{plain}
use Rattle.fpl_table.specs.Plain.{PlainTable, plain_basis, table_in, shell_in, symbols_in}
use Rattle.fpl_table.specs.Push.{free_of, new_basis, push_of}
use Rattle.fpl_table.specs.Leads.{trees_of}
use Rattle.fpl_table.specs.Shape.{HasShape, IsBefore, basis_trees, symbol_tree_in}
use Rattle.fpl_table.proofs.Leads as leads
use Rattle.fpl_table.proofs.PushedTrees.{push_trees}
use Rattle.plain_tables.proofs.Places.{basis_old}
use Rattle.fpl_forms.specs.declared.term.Term.{Term}
use Rattle.fpl_forms.specs.declared.term.Fact.{Fact}
use Rattle.fpl_forms.specs.Ledgers.{PlainLedger, IsExpr}
use Rattle.fpl_forms.specs.Forms.{IsTermOf, AreTermsOf, term_expr}
use Rattle.fpl_forms.proofs.Gathering.{all_as, all_mapped}
use Rattle.fpl_forms.proofs.Tidied.{head_of, tail_of}
use Rattle.fpl_table_facts.specs.declared.known.Level.{Level}
use Rattle.fpl_table_facts.specs.Known.{symbol_expr, IsFormOf, IsLevel}
use Rattle.fpl_prove.specs.Learning.{trees_at}
use Rattle.fpl_table_facts.proofs.Nexts.{symbols_before, symbol_plain}

-- facts over more atoms
module _ (L : PlainLedger) (atoms more : List Expr) where
  size : length (atoms ++ more) ≡ length atoms + length more
  size = length-append atoms more

  terms_same : (ts : List Term) → AreTermsOf L.prime (length atoms) ts → map (term_expr (atoms ++ more)) ts ≡ map (term_expr atoms) ts
  terms_same [] h = refl
  terms_same (t ∷ ts) h =
      ap₂ (λ e es. e ∷ es) (ap (Times (residue t.number)) (get_or_append_left atoms more Zero t.atom (head_of (IsTermOf L.prime (length atoms)) t ts h).0))
      (terms_same ts (tail_of (IsTermOf L.prime (length atoms)) t ts h))

  terms_more : (ts : List Term) → AreTermsOf L.prime (length atoms) ts → AreTermsOf L.prime (length (atoms ++ more)) ts
  terms_more ts h = all_as (IsTermOf L.prime (length atoms)) (IsTermOf L.prime (length (atoms ++ more)))
      (λ t g. ((let l = g.0 in omega (arith, l, size)), g.1)) ts h

  pub form_more : (e : Expr) (f : Fact) → IsFormOf L atoms e f → IsFormOf L (atoms ++ more) e f
  form_more e f h = record {
    fact = record {
      work = record {
        within = h.fact.work.within;
        right = h.fact.work.right ∙ ap Sum (sym (terms_same f.terms.items h.fact.work.terms));
        terms = terms_more f.terms.items h.fact.work.terms;
      };
      left = h.fact.left;
    };
    form = record { terms = terms_more f.terms.items h.form.terms; ascending = h.form.ascending; not_nought = h.form.not_nought };
  }

  pub symbol_more : (x : Symbol) → IsBefore (length atoms) x → symbol_expr (atoms ++ more) x ≡ symbol_expr atoms x
  symbol_more (of_generator g) h = refl
  symbol_more (of_pair i j) h = ap₂ Br (get_or_append_left atoms more Zero i h.0) (get_or_append_left atoms more Zero j h.1)

-- the symbols of the weights through the next stay
module _ (T : PlainTable) (shape : HasShape T) (rows : List (List Num)) where
  abbrev K : Field
  K = field_of T.kind

  -- symbols depend on the basis alone, so images and entries are left out
  abbrev bare : PlainTable → Table K
  bare S = record { weight = S.weight; basis = S.basis; image = λ g. vzero K; entry = λ i j. vzero K }

  bare_symbols : (S : PlainTable) (w : ℕ) → symbols_of (shell_in T.kind T) (table_in T.kind S) w ≡ symbols_of (shell_in T.kind T) (bare S) w
  unfolding symbols_of
  bare_symbols S w = refl

  more_is : length (push_of T rows).basis ≡ length T.basis + length (free_of T rows)
  more_is = length-append T.basis (map (new_basis T) (free_of T rows)) ∙ ap (λ w. length T.basis + w) (length-map (free_of T rows) (new_basis T))

  weight_new : (i : ℕ) → length T.basis ≤ i → i < length (push_of T rows).basis → (plain_basis (push_of T rows) i).weight ≡ suc T.weight
  weight_new i l h =
      let e : length T.basis + (i - length T.basis) ≡ i = omega arith in
      ap (λ w. (plain_basis (push_of T rows) w).weight) (sym e)
      ∙ ap (λ b. b.weight) (get_or-append-add T.basis (map (new_basis T) (free_of T rows)) (i - length T.basis) no_basis)
      ∙ ap (λ b. b.weight) (get_or-map (new_basis T) (free_of T rows) (i - length T.basis) 0 no_basis (omega (arith, l, h, more_is)))

  lower : IsLower K (shell_in T.kind T) (bare (push_of T rows)) (bare T)
  lower = record {
    less = omega arith;
    fewer = omega (arith, more_is);
    basis = λ i l. basis_old T shape rows i l;
    heavier = λ i l h. omega (arith, weight_new i l h);
    lighter = shape.light;
    images = λ g l w. refl;
    past = λ g l w. refl;
    entries = λ i j l k r w. refl;
  }

  positive : (i : ℕ) → i < length (push_of T rows).basis → 0 < (plain_basis (push_of T rows) i).weight
  positive i l = go (dec_lt i (length T.basis))
    where
      go : Dec (i < length T.basis) → 0 < (plain_basis (push_of T rows) i).weight
      go (yes h) = omega (arith, ap (λ b. b.weight) (basis_old T shape rows i h), shape.heavy i h)
      go (no h) = omega (arith, weight_new i (omega (arith, h)) l)

  pub symbols_pushed : (w : ℕ) → w ≤ suc T.weight →
      symbols_of (shell_in (push_of T rows).kind (push_of T rows)) (table_in (push_of T rows).kind (push_of T rows)) w
      ≡ symbols_of (shell_in T.kind T) (table_in T.kind T) w
  symbols_pushed w l =
      bare_symbols (push_of T rows) w ∙ symbols_lower K (shell_in T.kind T) (bare (push_of T rows)) (bare T) lower positive w l ∙ sym (bare_symbols T w)

  -- a level of the table before
  pub level_more : (L : PlainLedger) (basis more : List Expr) (v : ℕ) (l : Level) → length basis ≡ length T.basis → v ≤ T.weight → IsLevel L T basis v l →
      IsLevel L (push_of T rows) (basis ++ more) v l
  level_more L basis more v l size within h = record {
    weight = h.weight;
    symbols = h.symbols ∙ sym (symbols_pushed v (omega (arith, within)));
    count = h.count;
    values = λ s f e.
        let short : s < length l.symbols.symbols = (let a = slice_get_within l.values.items s f e in let b = h.count in omega (arith, a, b)) in
        let before = subst (λ (n : ℕ). All (IsBefore n) l.symbols.symbols) (sym size)
        (subst (All (IsBefore (length T.basis))) (sym h.symbols) (symbols_before T v)) in
        subst (λ (e : Expr). IsFormOf L (basis ++ more) e f) (sym (symbol_more L basis more (get_or l.symbols.symbols s no_symbol) (before s no_symbol short)))
        (form_more L basis more _ f (h.values s f e));
  }

  -- the basis after it
  module _ (p : Presentation) (basis trees : List Expr) (plains : map plain basis ≡ basis_trees T)
      (are : trees ≡ map (symbol_expr basis) (symbols_in T)) where
    abbrev n : ℕ
    n = length (symbols_in T)

    tree_plain : (s : ℕ) → s < n → plain (get_or trees s Zero) ≡ symbol_tree_in (basis_trees T) (get_or (symbols_in T) s no_symbol)
    tree_plain s l =
        ap (λ es. plain (get_or es s Zero)) are ∙ ap plain (get_or-map (symbol_expr basis) (symbols_in T) s no_symbol Zero l)
        ∙ symbol_plain basis (basis_trees T) plains (get_or (symbols_in T) s no_symbol)

    trees_plain : (ss : List ℕ) → All (λ s. s < n) ss → map plain (trees_at trees ss) ≡ trees_of T ss
    trees_plain [] h = refl
    trees_plain (s ∷ ss) h =
        ap₂ (λ e es. e ∷ es) (tree_plain s (head (λ (s : ℕ). s < n) s ss h)) (trees_plain ss (tail (λ (s : ℕ). s < n) s ss h))
      where
        head : (P : ℕ → Type 0) (s : ℕ) (ss : List ℕ) → All P (s ∷ ss) → P s
        head P s ss h = h zero s (omega arith)

        tail : (P : ℕ → Type 0) (s : ℕ) (ss : List ℕ) → All P (s ∷ ss) → All P ss
        tail P s ss h i d l = h (suc i) d (omega (arith, l))

    below : All (λ s. s < n) (free_of T rows)
    below i d l = leads.free_below rows n i d l

    pub basis_pushed : map plain (basis ++ trees_at trees (free_of T rows)) ≡ basis_trees (push_of T rows)
    basis_pushed =
        map-append plain basis (trees_at trees (free_of T rows)) ∙ ap₂ (λ xs ys. xs ++ ys) plains (trees_plain (free_of T rows) below)
        ∙ sym (push_trees T rows)

    pub over_pushed : All (IsExpr p) basis → All (IsExpr p) trees → All (IsExpr p) (basis ++ trees_at trees (free_of T rows))
    over_pushed old new =
        let size : length trees ≡ n = ap length are ∙ length-map (symbols_in T) (symbol_expr basis) in
        All-append (IsExpr p) basis (trees_at trees (free_of T rows)) old
        (all_mapped (IsExpr p) (λ s. get_or trees s Zero) (free_of T rows)
        (all_as (λ s. s < n) (λ s. IsExpr p (get_or trees s Zero)) (λ s l. new s Zero (omega (arith, l, size))) (free_of T rows) below))
