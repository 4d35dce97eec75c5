-- Outermost brackets of basis elements, as vectors and as facts over the symbols of the next weight.
use Rattle.std.proofs.Common.{◌≡◌, ◌≢◌, ◌<◌, ◌+◌, inl, inr, ℕ, suc, List, [], ◌∷◌, Bool, true, false, length, map, cond, get_or, refl, ap, ap₂, sym, subst, ◌∙◌, arith}
use Rattle.std.proofs.lemmas.List.{get_or-map, length-map}
use Rattle.math_fields.specs.Field.{Field}
use Rattle.math_linear.specs.Vector.{Vector, vzero, scale, place}
use Rattle.math_linear.proofs.Numbers.{unit-times}
use Rattle.fpl_numbers.specs.Numbers.{residue}
use Rattle.fpl_numbers.specs.Kinds.{field_of, number_of}
use Rattle.fpl_numbers.proofs.KindReads.{listed_prime}
use Rattle.math_algebra.specs.Tree.{even}
use Rattle.math_algebra.specs.Degrees.{HasParity}
use Rattle.math_algebra.specs.Derives.{sign}
use Rattle.math_algebra.specs.Table.{Symbol, of_generator, of_pair, parity_at, signed, with_itself, IsRegular}
use Rattle.math_algebra.specs.Symbols.{no_symbol, symbols, same_symbol, place_of, pair_number}
use Rattle.math_values.proofs.Steps.{signed_below, signed_above, signed_itself, outer_within}
use Rattle.fpl_model.specs.declared.expr.Expr.{Expr}
use Rattle.fpl_model.specs.declared.expr.Expr.TheVariants.{Zero, Br}
use Rattle.fpl_model.specs.declared.presentation.Presentation.{Presentation}
use Rattle.fpl_model.specs.declared.presentation.Parity as code
use Rattle.fpl_model.specs.Meaning.{tree_in, parity_in, presentation_in}
use Rattle.fpl_table.specs.Plain.{PlainTable, plain_basis, table_in, symbols_in}
use Rattle.plain_tables.specs.Holds.{Holds}
use Rattle.plain_tables.proofs.Holding.{symbols_are_same}
use Rattle.plain_tables.proofs.Trees.{tree_printed}
use Rattle.fpl_forms.specs.declared.term.Term.{Term}
use Rattle.fpl_forms.specs.declared.term.Fact.{Fact}
use Rattle.fpl_forms.specs.Ledgers.{PlainLedger, IsSoundLedger, left_of}
use Rattle.fpl_forms.specs.Forms.{IsWork, IsTermOf}
use Rattle.fpl_forms.specs.Combining.{multiplied}
use Rattle.fpl_forms.specs.Laws.{number_in, IsForm}
use Rattle.fpl_forms.proofs.Values.{multiplied_is_form}
use Rattle.fpl_forms.proofs.Ledgers.{all_one}
use Rattle.fpl_facts.specs.Axioms.{swap_number}
use Rattle.fpl_facts.specs.Facts.{IsFact}
use Rattle.fpl_facts.proofs.NextAxioms.{one_is, swap_is, swap_below}
use Rattle.fpl_table_facts.specs.declared.known.Known.{Known}
use Rattle.fpl_table_facts.specs.declared.known.Next.{Next}
use Rattle.fpl_table_facts.specs.Known.{IsKnown, IsNext, symbol_expr}
use Rattle.fpl_table_facts.specs.Rows.{IsRow, pair_leaf}
use Rattle.fpl_table_facts.proofs.TermTotals.{number_is}
use Rattle.fpl_table_facts.proofs.Listed.{pair_listed}
use Rattle.fpl_table_facts.proofs.Levels.{basis_length, atom_tree, whole}

-- as vectors
module _ (p : Presentation) (T : PlainTable) (h : Holds p T) where
  abbrev K : Field
  K = field_of p.field

  abbrev weights : ℕ → ℕ → Type 0
  weights i j = (plain_basis T i).weight + (plain_basis T j).weight ≡ suc T.weight

  abbrev at_pair : ℕ → ℕ → Vector K
  at_pair i j = place K (pair_number (presentation_in p) (table_in p.field T) i j)

  number_here : (i j : ℕ) → pair_number (presentation_in p) (table_in p.field T) i j ≡ place_of (of_pair i j) (symbols_in T)
  number_here i j = ap (place_of (of_pair i j)) (sym (symbols_are_same p T h.kind h.generators).0)

  pub leaf_regular : (i j : ℕ) → weights i j → IsRegular (table_in T.kind T) i j → pair_leaf p T i j ≡ place K (place_of (of_pair i j) (symbols_in T))
  leaf_regular i j w (inl l) =
      outer_within K (table_in p.field T) (pair_number (presentation_in p) (table_in p.field T)) i j w
      ∙ signed_below K (parity_at (table_in p.field T)) at_pair i j l ∙ ap (place K) (number_here i j)
  leaf_regular i j w (inr r) =
      outer_within K (table_in p.field T) (pair_number (presentation_in p) (table_in p.field T)) i j w
      ∙ subst (λ j. signed K (parity_at (table_in p.field T)) at_pair i j ≡ at_pair i j) r.0
      (signed_itself K (parity_at (table_in p.field T)) at_pair i ∙ ap (λ s. with_itself K s (at_pair i i)) r.1)
      ∙ ap (place K) (number_here i j)

  pub leaf_exchanged : (i j : ℕ) → weights i j → j < i →
      pair_leaf p T i j ≡ scale K (K.minus (sign K (plain_basis T i).parity (plain_basis T j).parity)) (pair_leaf p T j i)
  leaf_exchanged i j w l =
      let turned : weights j i = omega (arith, w) in
      outer_within K (table_in p.field T) (pair_number (presentation_in p) (table_in p.field T)) i j w
      ∙ signed_above K (parity_at (table_in p.field T)) at_pair i j l
      ∙ ap (scale K (K.minus (sign K (plain_basis T i).parity (plain_basis T j).parity)))
      (sym (leaf_regular j i turned (inl l) ∙ sym (ap (place K) (number_here j i))))

  pub leaf_even : (i : ℕ) → weights i i → (plain_basis T i).parity ≡ even → pair_leaf p T i i ≡ vzero K
  leaf_even i w e =
      outer_within K (table_in p.field T) (pair_number (presentation_in p) (table_in p.field T)) i i w
      ∙ signed_itself K (parity_at (table_in p.field T)) at_pair i ∙ ap (λ s. with_itself K s (at_pair i i)) e

module _ {L : PlainLedger} {k : Known} (h : IsKnown L k) where
  -- the parity of an atom is that of its basis element
  pub parity_there : (i : ℕ) → i < length k.basis.items →
      HasParity (presentation_in L.presentation) (tree_in L.presentation.field (get_or k.basis.items i Zero)) (plain_basis k.table i).parity
  parity_there i lt =
      let p = L.presentation in
      let within : i < length k.table.basis = (let e = basis_length h in omega (arith, lt, e)) in
      let tree : (whole h).tree i ≡ tree_in p.field (get_or k.basis.items i Zero) =
      tree_printed p.field (presentation_in p) (table_in p.field k.table) (whole h).tree (whole h).standard i within ∙ sym (atom_tree h i lt) in
      subst (λ e. HasParity (presentation_in p) e (plain_basis k.table i).parity) tree ((whole h).facts.tree_parity i within)

-- the place of a regular pair among the symbols
pub pair_next : (T : PlainTable) (i j : ℕ) → i < length T.basis → j < length T.basis → (plain_basis T i).weight + (plain_basis T j).weight ≡ suc T.weight →
    IsRegular (table_in T.kind T) i j → place_of (of_pair i j) (symbols_in T) < length (symbols_in T)
unfolding symbols
pair_next T i j l k w r = pair_listed T i j (suc T.weight) l k w (omega arith) r

-- as facts
module _ (L : PlainLedger) (s : IsSoundLedger L) where
  abbrev F : Field
  F = field_of L.presentation.field

  abbrev pub once_at : ℕ → List Term
  once_at a = record { atom = a; number = 1 } ∷ []

  pub unit_numbers : (a i : ℕ) → number_in L.presentation.field (once_at a) i ≡ place F a i
  unit_numbers a i =
      F.plus-nought _ ∙ number_is L.presentation.field (record { atom = a; number = 1 }) i
      ∙ ap (λ c. F.times c (place F a i)) (one_is L s) ∙ unit-times F (place F a i)

  pub unit_form : (n a : ℕ) → a < n → IsForm L.prime n (once_at a)
  unit_form n a lt =
      let past = (listed_prime L.prime s.listed).1 in
      let t : Term = record { atom = a; number = 1 } in
      record {
        terms = all_one (IsTermOf L.prime n) t (lt, omega (arith, past));
        ascending = ((λ i d l. absurd (omega (arith, l))), tt);
        not_nought = all_one (λ (t : Term). t.number ≢ 0) t (λ e. absurd (let g : 1 ≡ 0 = e in omega (arith, g)));
      }

  pub multiplied_numbers : (n c : ℕ) (ts : List Term) → c < L.prime → IsForm L.prime n ts → (i : ℕ) →
      number_in L.presentation.field (multiplied L.prime c ts) i ≡ F.times (number_of L.presentation.field (residue c)) (number_in L.presentation.field ts i)
  multiplied_numbers n c ts lt h i =
      subst (λ k. number_in k (multiplied L.prime c ts) i ≡ (field_of k).times (number_of k (residue c)) (number_in k ts i)) (sym s.field)
      ((multiplied_is_form L.prime n c ts s.listed lt h.terms).3 i)

  pub multiplied_form : (n c : ℕ) (ts : List Term) → c < L.prime → IsForm L.prime n ts → IsForm L.prime n (multiplied L.prime c ts)
  multiplied_form n c ts lt h =
      let m = multiplied_is_form L.prime n c ts s.listed lt h.terms in
      record { terms = m.0; ascending = m.1 h.ascending; not_nought = m.2 }

  pub empty_form : (n : ℕ) → IsForm L.prime n []
  empty_form n = record { terms = λ i d l. absurd (omega (arith, l)); ascending = tt; not_nought = λ i d l. absurd (omega (arith, l)) }

same_symbol_is : (x y : Symbol) → same_symbol x y ≡ true → x ≡ y
same_symbol_is (of_generator g) (of_generator h) e = ap of_generator (grind arith)
same_symbol_is (of_generator g) (of_pair i j) e = grind arith
same_symbol_is (of_pair i j) (of_generator g) e = grind arith
same_symbol_is (of_pair i j) (of_pair k l) e = ap₂ of_pair (grind arith) (grind arith)

-- what stands at the place of a symbol that is one of a list
pub stands_there : (x : Symbol) (xs : List Symbol) → place_of x xs < length xs → get_or xs (place_of x xs) no_symbol ≡ x
unfolding place_of
stands_there x [] l = absurd (omega (arith, l))
stands_there x (y ∷ ys) l = go (same_symbol x y) refl l (stands_there x ys)
  where
    go : (b : Bool) → same_symbol x y ≡ b → cond b 0 (suc (place_of x ys)) < length (y ∷ ys) →
        (place_of x ys < length ys → get_or ys (place_of x ys) no_symbol ≡ x) → get_or (y ∷ ys) (cond b 0 (suc (place_of x ys))) no_symbol ≡ x
    go true e l t = sym (same_symbol_is x y e)
    go false e l t = t (omega (arith, l))

module _ (L : PlainLedger) (s : IsSoundLedger L) (k : Known) (n : Next) (h : IsNext L k n) where
  pub symbol_row : (x : Symbol) (f : Fact) → place_of x (symbols_in k.table) < length (symbols_in k.table) → IsWork L n.trees.items f →
      left_of L f.line ≡ get_or n.trees.items (place_of x (symbols_in k.table)) Zero → f.terms.items ≡ once_at L s (place_of x (symbols_in k.table)) →
      IsRow L n (symbol_expr k.basis.items x) (place (F L s) (place_of x (symbols_in k.table))) f
  symbol_row x f at work left terms =
      let a = place_of x (symbols_in k.table) in
      let trees : n.trees.items ≡ map (symbol_expr k.basis.items) (symbols_in k.table) = h.trees ∙ ap (map (symbol_expr k.basis.items)) h.symbols in
      let long : length n.trees.items ≡ length (symbols_in k.table) = ap length trees ∙ length-map (symbols_in k.table) (symbol_expr k.basis.items) in
      record {
        fact = record {
          work = work;
          left = left ∙ ap (λ es. get_or es a Zero) trees ∙ get_or-map (symbol_expr k.basis.items) (symbols_in k.table) a no_symbol Zero at
              ∙ ap (symbol_expr k.basis.items) (stands_there x (symbols_in k.table) at);
        };
        form = subst (IsForm L.prime (length n.trees.items)) (sym terms) (unit_form L s (length n.trees.items) a (omega (arith, at, long)));
        numbers = λ i. ap (λ ts. number_in L.presentation.field ts i) terms ∙ unit_numbers L s a i;
      }

module _ (L : PlainLedger) (k : Known) (n : Next) where
  pub row_as : (e e' : Expr) (v v' : Vector (field_of L.presentation.field)) (f : Fact) → e ≡ e' → v ≡ v' → IsRow L n e v f → IsRow L n e' v' f
  row_as e e' v v' f p q h = subst (λ v. IsRow L n e' v f) q (subst (λ e. IsRow L n e v f) p h)

  pub regular_row : Holds L.presentation k.table → (i j : ℕ) → (plain_basis k.table i).weight + (plain_basis k.table j).weight ≡ suc k.table.weight →
      IsRegular (table_in k.table.kind k.table) i j → (a b : ℕ) → a ≡ i → b ≡ j → (f : Fact) →
      IsRow L n (symbol_expr k.basis.items (of_pair a b)) (place (field_of L.presentation.field) (place_of (of_pair a b) (symbols_in k.table))) f →
      IsRow L n (Br (get_or k.basis.items i Zero) (get_or k.basis.items j Zero)) (pair_leaf L.presentation k.table i j) f
  regular_row h i j w r a b p q f x =
      row_as _ (Br (get_or k.basis.items i Zero) (get_or k.basis.items j Zero)) _ (pair_leaf L.presentation k.table i j) f
      (ap₂ (λ a b. symbol_expr k.basis.items (of_pair a b)) p q)
      (ap₂ (λ a b. place (field_of L.presentation.field) (place_of (of_pair a b) (symbols_in k.table))) p q
      ∙ sym (leaf_regular L.presentation k.table h i j w r)) x

  -- minus or plus what stands for the pair turned
  pub turned_row : (s : IsSoundLedger L) → Holds L.presentation k.table → (i j : ℕ) →
      (plain_basis k.table i).weight + (plain_basis k.table j).weight ≡ suc k.table.weight → j < i → (t u : code.Parity) →
      parity_in t ≡ (plain_basis k.table i).parity → parity_in u ≡ (plain_basis k.table j).parity → (e e' : Expr) (g f : Fact) →
      IsRow L n e (pair_leaf L.presentation k.table j i) g → IsFact L n.trees.items e' f →
      f.terms.items ≡ multiplied L.prime (swap_number L.prime t u) g.terms.items → IsRow L n e' (pair_leaf L.presentation k.table i j) f
  unfolding scale
  turned_row s h i j w l t u x y e e' g f a b terms =
      let c = swap_number L.prime t u in
      let size = length n.trees.items in
      let below = swap_below L.prime s.listed t u in
      let K = field_of L.presentation.field in
      let is : number_of L.presentation.field (residue c) ≡ K.minus (sign K (plain_basis k.table i).parity (plain_basis k.table j).parity) =
      swap_is L s t u ∙ ap₂ (λ s t. K.minus (sign K s t)) x y in
      record {
        fact = b;
        form = subst (IsForm L.prime size) (sym terms) (multiplied_form L s size c g.terms.items below a.form);
        numbers = λ m. ap (λ ts. number_in L.presentation.field ts m) terms ∙ multiplied_numbers L s size c g.terms.items below a.form m
            ∙ ap₂ K.times is (a.numbers m) ∙ sym (ap (λ v. v m) (leaf_exchanged L.presentation k.table h i j w l));
      }

  pub nothing_row : (s : IsSoundLedger L) → (e : Expr) (f : Fact) (v : Vector (field_of L.presentation.field)) → v ≡ vzero (field_of L.presentation.field) →
      IsFact L n.trees.items e f → f.terms.items ≡ [] → IsRow L n e v f
  unfolding vzero
  nothing_row s e f v is a terms = record {
    fact = a;
    form = subst (IsForm L.prime (length n.trees.items)) (sym terms) (empty_form L s (length n.trees.items));
    numbers = λ m. ap (λ ts. number_in L.presentation.field ts m) terms ∙ sym (ap (λ v. v m) is);
  }
