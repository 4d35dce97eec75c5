-- Tables that hold the same have one text.
use Rattle.std.proofs.Common.{◌≡◌, ℕ, ◌+◌, ◌<◌, ◌≤◌, List, [], ◌∷◌, ◌++◌, Bool, true, if◌then◌else◌, length, get_or, zero, suc, refl, sym, ap, ◌∙◌, arith, cond, codes}
use Rattle.std.specs.Prelude.{All, filter, count_by, is_some, Some}
use mathlib.Core.Path.{ap₂}
use Rattle.std.proofs.lemmas.List.Elements.{All-append, All-filter}
use Rattle.std.proofs.lemmas.List.{get_or_past}
use Rattle.fpl_numbers.specs.declared.number.Num.{Num}
use Rattle.fpl_numbers.specs.Numbers.{is_nought, residue}
use Rattle.fpl_rows.specs.Positions.{lead_of, lead_below}
use Rattle.math_algebra.specs.Table.{Symbol, of_generator, of_pair}
use Rattle.math_algebra.specs.Symbols.{symbols_of}
use Rattle.fpl_table.specs.Plain.{PlainTable, plain_basis, first_partner, image_row, entry_row, table_in, shell_in}
use Rattle.fpl_print.specs.Combinations.{terms_text, term_or_nothing, none_after}
use Rattle.fpl_print.specs.TableText.{text_of, basis_name, basis_line, image_line, is_within, symbols_through, has_value, brackets_of, bracket_line, bracket_lines, head_text, table_text}
use Rattle.fpl_print.specs.Lines.{count_line}
use Rattle.fpl_print.proofs.Entries.{IsWithin, symbols_within}

-- rows with the same number at each place
abbrev pub AreSame : List Num → List Num → Type 0
AreSame xs ys = (s : ℕ) → get_or xs s (residue 0) ≡ get_or ys s (residue 0)

nothing_text : (name : ℕ → List ℕ) (first : Bool) (s : ℕ) (c : Num) → c ≡ residue 0 → (term_or_nothing name first s c ≡ []) × (none_after first c ≡ first)
nothing_text name first s c e = rw e (refl, refl)

terms_none : (name : ℕ → List ℕ) (first : Bool) (s : ℕ) (xs : List Num) → AreSame xs [] → terms_text name first s xs ≡ terms_text name first s []
terms_none name first s [] h = refl
terms_none name first s (c ∷ cs) h =
    let e = nothing_text name first s c (h 0) in
    rw (e.0, e.1) (terms_none name first (s + 1) cs (λ k. h (suc k)) ∙ refl)

pub terms_same : (name : ℕ → List ℕ) (first : Bool) (s : ℕ) (xs ys : List Num) → AreSame xs ys → terms_text name first s xs ≡ terms_text name first s ys
terms_same name first s [] ys h = sym (terms_none name first s ys (λ k. sym (h k)))
terms_same name first s (c ∷ cs) [] h = terms_none name first s (c ∷ cs) h
terms_same name first s (c ∷ cs) (d ∷ ds) h =
    let e : c ≡ d = h 0 in
    rw e (ap (λ w. term_or_nothing name first s d ++ w) (terms_same name (none_after first d) (s + 1) cs ds (λ k. h (suc k))))

lead_same_below : (xs ys : List Num) (n : ℕ) → AreSame xs ys → lead_below xs n ≡ lead_below ys n
lead_same_below xs ys zero h = refl
lead_same_below xs ys (suc n) h = ap₂ (λ c r. if is_nought c then r else Some (suc n)) (h n) (lead_same_below xs ys n h)

lead_past : (xs : List Num) (k : ℕ) → lead_below xs (length xs + k) ≡ lead_of xs
lead_past xs zero = let e : length xs + zero ≡ length xs = omega arith in ap (lead_below xs) e
lead_past xs (suc k) =
    let e : length xs + suc k ≡ suc (length xs + k) = omega arith in
    ap (lead_below xs) e ∙ ap (λ c. if is_nought c then lead_below xs (length xs + k) else Some (suc (length xs + k)))
    (get_or_past xs (length xs + k) (residue 0) (omega arith)) ∙ lead_past xs k

lead_same : (xs ys : List Num) → AreSame xs ys → lead_of xs ≡ lead_of ys
lead_same xs ys h =
    let e : length ys + length xs ≡ length xs + length ys = omega arith in
    sym (lead_past xs (length ys)) ∙ lead_same_below xs ys (length xs + length ys) h ∙ ap (lead_below ys) (sym e) ∙ lead_past ys (length xs)

text_same : (n : ℕ) (f g : ℕ → List ℕ) → ((i : ℕ) → i < n → f i ≡ g i) → text_of n f ≡ text_of n g
text_same zero f g h = refl
text_same (suc n) f g h = ap₂ (λ a b. a ++ b) (text_same n f g (λ i l. h i (omega (arith, l)))) (h n (omega arith))

filter_same : {X : Type 0} (p q : X → Bool) (xs : List X) → All (λ x. p x ≡ q x) xs → filter p xs ≡ filter q xs
filter_same p q [] h = refl
filter_same p q (x ∷ xs) h =
    let rest : filter p xs ≡ filter q xs = filter_same p q xs (λ k d l. h (suc k) d (omega (arith, l))) in
    let here : p x ≡ q x = h 0 x (omega arith) in
    ap₂ (λ b ys. cond b (x ∷ ys) ys) here rest

module _ (names : List (List ℕ)) (T S : PlainTable) (kind : T.kind ≡ S.kind) (weight : T.weight ≡ S.weight) (generators : T.generators ≡ S.generators)
    (basis : T.basis ≡ S.basis) (images : (g : ℕ) → g < length T.generators → AreSame (image_row T g) (image_row S g))
    (entries : (i j : ℕ) → i < length T.basis → j < length T.basis → first_partner T i ≤ j →
    (plain_basis T i).weight + (plain_basis T j).weight ≤ T.weight → AreSame (entry_row T i j) (entry_row S i j)) where
  abbrev Symbols : ℕ → List Symbol
  Symbols w = symbols_of (shell_in T.kind T) (table_in T.kind T) w

  symbols_same : (w : ℕ) → Symbols w ≡ symbols_of (shell_in S.kind S) (table_in S.kind S) w
  unfolding symbols_of
  symbols_same w = rw (generators, basis) refl

  through_same : (w : ℕ) → symbols_through T w ≡ symbols_through S w
  through_same zero = refl
  through_same (suc w) = ap₂ (λ a b. a ++ b) (through_same w) (symbols_same (suc w))

  all_within : (w : ℕ) → w ≤ T.weight → All (IsWithin T) (symbols_through T w)
  all_within zero l = λ k d m. absurd (omega (arith, m))
  all_within (suc w) l = All-append (IsWithin T) (symbols_through T w) (Symbols (suc w)) (all_within w (omega (arith, l))) (symbols_within T (suc w) l)

  value_same : (x : Symbol) → IsWithin T x → has_value T x ≡ has_value S x
  value_same (of_generator g) h = refl
  value_same (of_pair i j) h = ap is_some (lead_same (entry_row T i j) (entry_row S i j) (entries i j h.0 h.1 h.2 h.3))

  line_same : (x : Symbol) → IsWithin T x → bracket_line T x ≡ bracket_line S x
  line_same (of_generator g) h = refl
  line_same (of_pair i j) h = rw (terms_same basis_name true 0 (entry_row T i j) (entry_row S i j) (entries i j h.0 h.1 h.2 h.3)) refl

  lines_same : (xs : List Symbol) → All (IsWithin T) xs → bracket_lines T xs ≡ bracket_lines S xs
  lines_same [] h = refl
  lines_same (x ∷ xs) h = ap₂ (λ a b. a ++ b) (line_same x (h 0 x (omega arith))) (lines_same xs (λ k d l. h (suc k) d (omega (arith, l))))

  within : All (IsWithin T) (symbols_through T T.weight)
  within = all_within T.weight (omega arith)

  brackets_same : brackets_of T ≡ brackets_of S
  brackets_same =
      filter_same (has_value T) (has_value S) (symbols_through T T.weight) (λ k d l. value_same (get_or (symbols_through T T.weight) k d) (within k d l))
      ∙ ap (filter (has_value S)) (through_same T.weight ∙ ap (symbols_through S) weight)

  basis_line_same : (i : ℕ) → basis_line names T i ≡ basis_line names S i
  basis_line_same i = rw basis refl

  image_line_same : (g : ℕ) → g < length T.generators → image_line names T g ≡ image_line names S g
  image_line_same g l = rw (terms_same basis_name true 0 (image_row T g) (image_row S g) (images g l), weight, generators) refl

  head_same : head_text T ≡ head_text S
  head_same = rw (kind, weight, basis) refl

  count_same : count_by (is_within T) T.generators ≡ count_by (is_within S) S.generators
  count_same = rw (weight, generators) refl

  basis_same : text_of (length T.basis) (basis_line names T) ≡ text_of (length S.basis) (basis_line names S)
  basis_same = text_same (length T.basis) _ _ (λ i l. basis_line_same i) ∙ ap (λ n. text_of n (basis_line names S)) (ap length basis)

  images_same : text_of (length T.generators) (image_line names T) ≡ text_of (length S.generators) (image_line names S)
  images_same = text_same (length T.generators) _ _ image_line_same ∙ ap (λ n. text_of n (image_line names S)) (ap length generators)

  bracket_lines_same : bracket_lines T (brackets_of T) ≡ bracket_lines S (brackets_of S)
  bracket_lines_same = lines_same (brackets_of T) (All-filter (has_value T) (IsWithin T) (symbols_through T T.weight) within) ∙
      ap (bracket_lines S) brackets_same

  pub one_text : table_text names T ≡ table_text names S
  one_text =
      ap₂ (λ a b. a ++ b)
      (ap₂ (λ a b. a ++ b)
      (ap₂ (λ a b. a ++ b)
      (ap₂ (λ a b. a ++ b) (ap₂ (λ a b. a ++ b) head_same basis_same) (ap (count_line (codes "images ")) count_same))
      images_same)
      (ap₂ (λ a b. a ++ b) (ap (λ xs. count_line (codes "brackets ") (length xs)) brackets_same) bracket_lines_same))
      refl
