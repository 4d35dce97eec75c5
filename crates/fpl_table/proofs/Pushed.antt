-- A table with one weight more has its shape.
use Rattle.std.proofs.Common.{◌≡◌, ◌≤◌, ◌<◌, ◌+◌, ◌-◌, ◌*◌, ◌++◌, ◌⊎◌, inl, inr, ℕ, zero, suc, max, List, [], ◌∷◌, length, map, get_or, cond, All, refl, ap, ap₂, sym, subst, ◌∙◌, arith, length-append}
use Rattle.std.proofs.lemmas.List.{get_or_append_left, get_or-append-add, length-map}
use Rattle.fpl_numbers.specs.declared.number.Num.{Num}
use Rattle.math_algebra.specs.Tree.{Generator}
use Rattle.math_algebra.specs.Table.{Symbol, of_generator, of_pair, Basis, no_basis}
use Rattle.math_algebra.specs.Symbols.{no_symbol, is_odd, symbols, symbols_of}
use Rattle.fpl_table.specs.Plain.{PlainTable, through, plain_basis, first_partner, symbols_in, shell_in, table_in}
use Rattle.fpl_table.specs.Shape.{HasShape, IsRowUpTo, IsOfTable, IsBefore, partners, images_at, entries_at}
use Rattle.fpl_table.specs.Push.{free_of, new_basis, new_images, new_entries, new_partners, push_of}
use Rattle.fpl_table.proofs.Lists.{nat_split, at_middle}
use Rattle.fpl_table.proofs.Leads.{free_few, free_below}
use Rattle.fpl_table.proofs.Places.{symbol_of_table}
use Rattle.fpl_table.proofs.NewRows.{partners_length}
use Rattle.fpl_table.proofs.Weights.{leading_within, leading_front, leading_all}

length-images : (T : PlainTable) (rows : List (List Num)) (g : ℕ) (gs : List Generator) → length (new_images T rows g gs) ≡ length gs
length-images T rows g [] = refl
length-images T rows g (x ∷ xs) = ap suc (length-images T rows (g + 1) xs)

length-entries : (T : PlainTable) (rows : List (List Num)) (i : ℕ) (bs : List Basis) → length (new_entries T rows i bs) ≡ length bs
length-entries T rows i [] = refl
length-entries T rows i (b ∷ bs) = ap suc (length-entries T rows (i + 1) bs)

entries_at_place : (T : PlainTable) (rows : List (List Num)) (k : ℕ) (bs : List Basis) (i : ℕ) → i < length bs →
    get_or (new_entries T rows k bs) i [] ≡ new_partners T rows (k + i) 0 T.basis
entries_at_place T rows k [] i lt = absurd (omega (arith, lt))
entries_at_place T rows k (b ∷ bs) zero lt = let same : k ≡ k + 0 = omega arith in ap (λ j. new_partners T rows j 0 T.basis) same
entries_at_place T rows k (b ∷ bs) (suc i) lt =
    let same : k + 1 + i ≡ k + suc i = omega arith in
    entries_at_place T rows (k + 1) bs i (omega (arith, lt)) ∙ ap (λ j. new_partners T rows j 0 T.basis) same

pub map_place : (T : PlainTable) (free : List ℕ) (q : ℕ) → q < length free → get_or (map (new_basis T) free) q no_basis ≡ new_basis T (get_or free q 0)
map_place T [] q lt = absurd (omega (arith, lt))
map_place T (t ∷ ts) zero lt = refl
map_place T (t ∷ ts) (suc q) lt = map_place T ts q (omega (arith, lt))

length-partners : (T : PlainTable) → HasShape T → (rows : List (List Num)) (i : ℕ) → i < length T.basis →
    length (new_partners T rows i 0 T.basis) ≡ partners T i (suc T.weight)
length-partners T shape rows i lt = partners_length T rows shape i lt

module _ (T : PlainTable) (rows : List (List Num)) (shape : HasShape T) (below : T.weight < 1000) (few : length (symbols_in T) ≤ 2000000) where
  pub fresh_length : length (map (new_basis T) (free_of T rows)) ≡ length (free_of T rows)
  fresh_length = length-map (free_of T rows) (new_basis T)

  basis_length : length (push_of T rows).basis ≡ length T.basis + length (free_of T rows)
  basis_length = length-append T.basis (map (new_basis T) (free_of T rows)) ∙ ap (λ n. length T.basis + n) fresh_length

  old_basis : (i : ℕ) → i < length T.basis → plain_basis (push_of T rows) i ≡ plain_basis T i
  old_basis i lt = get_or_append_left T.basis (map (new_basis T) (free_of T rows)) no_basis i lt

  fresh_basis : (q : ℕ) → q < length (free_of T rows) → plain_basis (push_of T rows) (length T.basis + q) ≡ new_basis T (get_or (free_of T rows) q 0)
  fresh_basis q lt = get_or-append-add T.basis (map (new_basis T) (free_of T rows)) q no_basis ∙ map_place T (free_of T rows) q lt

  fresh_heavy : (w : ℕ) → w < suc T.weight → (i : ℕ) → i < length (map (new_basis T) (free_of T rows)) →
      w < (get_or (map (new_basis T) (free_of T rows)) i no_basis).weight
  fresh_heavy w lt i within = let h : (get_or (map (new_basis T) (free_of T rows)) i no_basis).weight ≡ suc T.weight =
      ap (λ b. b.weight) (map_place T (free_of T rows) i (rw (← fresh_length) within)) in omega arith

  -- where a basis element stands
  data Place (i : ℕ) : Type 0 where
    old : i < length T.basis → Place i
    new : (q : ℕ) → q < length (free_of T rows) → length T.basis + q ≡ i → Place i

  place : (i : ℕ) → i < length (push_of T rows).basis → Place i
  place i lt =
      elim (nat_split i (length T.basis)) [
        | inl within ↦ old within
        | inr above ↦ let h : i < length T.basis + length (free_of T rows) = rw (← basis_length) lt in new (i - length T.basis) (omega arith) (omega arith)
      ]

  new_weight : (q i : ℕ) → q < length (free_of T rows) → length T.basis + q ≡ i → (plain_basis (push_of T rows) i).weight ≡ suc T.weight
  new_weight q i lt is = ap (λ k. (plain_basis (push_of T rows) k).weight) (sym is) ∙ ap (λ b. b.weight) (fresh_basis q lt)

  old_weight : (i : ℕ) → i < length T.basis → (plain_basis (push_of T rows) i).weight ≡ (plain_basis T i).weight
  old_weight i lt = ap (λ b. b.weight) (old_basis i lt)

  pub through_old : (w : ℕ) → w ≤ T.weight → through (push_of T rows) w ≡ through T w
  through_old w le = leading_front T.basis (map (new_basis T) (free_of T rows)) w (fresh_heavy w (omega arith))

  pub through_weight : through T T.weight ≡ length T.basis
  through_weight = leading_all T.basis T.weight (λ i lt. shape.light i lt)

  weight_up : (i : ℕ) → i < length (push_of T rows).basis → (plain_basis (push_of T rows) i).weight ≤ suc T.weight
  weight_up i lt = go (place i lt)
    where
      go : Place i → (plain_basis (push_of T rows) i).weight ≤ suc T.weight
      go (old within) = let h : (plain_basis T i).weight ≤ T.weight = shape.light i within in
          let e : (plain_basis (push_of T rows) i).weight ≡ (plain_basis T i).weight = old_weight i within in omega arith
      go (new q ltq is) = let e : (plain_basis (push_of T rows) i).weight ≡ suc T.weight = new_weight q i ltq is in omega arith

  pub through_new : through (push_of T rows) (suc T.weight) ≡ length T.basis + length (free_of T rows)
  through_new = leading_all (push_of T rows).basis (suc T.weight) weight_up ∙ basis_length

  weight_positive : (i : ℕ) → i < length (push_of T rows).basis → 1 ≤ (plain_basis (push_of T rows) i).weight
  weight_positive i lt = go (place i lt)
    where
      go : Place i → 1 ≤ (plain_basis (push_of T rows) i).weight
      go (old within) = rw (old_weight i within) (shape.heavy i within)
      go (new q ltq is) = rw (new_weight q i ltq is) (omega arith)

  weights_ascend : (i j : ℕ) → i ≤ j → j < length (push_of T rows).basis → (plain_basis (push_of T rows) i).weight ≤ (plain_basis (push_of T rows) j).weight
  weights_ascend i j le lt = go (place j lt)
    where
      go : Place j → (plain_basis (push_of T rows) i).weight ≤ (plain_basis (push_of T rows) j).weight
      go (old within) = let h : (plain_basis T i).weight ≤ (plain_basis T j).weight = shape.ascend i j le within in
          rw (old_weight i (omega arith), old_weight j within) h
      go (new q ltq is) = rw (new_weight q j ltq is) (weight_up i (omega arith))

  grows : (x : Symbol) → IsOfTable T x → IsOfTable (push_of T rows) x
  grows (of_generator g) h = h
  grows (of_pair i j) h = rw basis_length (omega (arith, h.0), omega (arith, h.1))

  symbols_of_table : (i : ℕ) → i < length (push_of T rows).basis → IsOfTable (push_of T rows) (plain_basis (push_of T rows) i).symbol
  symbols_of_table i lt = go (place i lt)
    where
      go : Place i → IsOfTable (push_of T rows) (plain_basis (push_of T rows) i).symbol
      go (old within) = grows (plain_basis (push_of T rows) i).symbol (subst (λ b. IsOfTable T b.symbol) (sym (old_basis i within)) (shape.symbols i within))
      go (new q ltq is) =
          let at : get_or (free_of T rows) q 0 < length (symbols_in T) = free_below rows (length (symbols_in T)) q 0 ltq in
          grows (plain_basis (push_of T rows) i).symbol
          (subst (λ b. IsOfTable T b.symbol) (sym (ap (plain_basis (push_of T rows)) (sym is) ∙ fresh_basis q ltq))
          (symbol_of_table T (get_or (free_of T rows) q 0) at))

  before_more : (m n : ℕ) (x : Symbol) → m ≤ n → IsBefore m x → IsBefore n x
  before_more m n (of_generator g) le h = tt
  before_more m n (of_pair i j) le h = (omega (arith, h.0, le), omega (arith, h.1, le))

  of_table_before : (x : Symbol) → IsOfTable T x → IsBefore (length T.basis) x
  of_table_before (of_generator g) h = tt
  of_table_before (of_pair i j) h = h

  members_earlier : (i : ℕ) → i < length (push_of T rows).basis → IsBefore i (plain_basis (push_of T rows) i).symbol
  members_earlier i lt = go (place i lt)
    where
      go : Place i → IsBefore i (plain_basis (push_of T rows) i).symbol
      go (old within) = subst (λ b. IsBefore i b.symbol) (sym (old_basis i within)) (shape.earlier i within)
      go (new q ltq is) =
          let at : get_or (free_of T rows) q 0 < length (symbols_in T) = free_below rows (length (symbols_in T)) q 0 ltq in
          before_more (length T.basis) i (plain_basis (push_of T rows) i).symbol (omega arith)
          (subst (λ b. IsBefore (length T.basis) b.symbol) (sym (ap (plain_basis (push_of T rows)) (sym is) ∙ fresh_basis q ltq))
          (of_table_before (get_or (symbols_in T) (get_or (free_of T rows) q 0) no_symbol) (symbol_of_table T (get_or (free_of T rows) q 0) at)))

  first_old : (i : ℕ) → i < length T.basis → first_partner (push_of T rows) i ≡ first_partner T i
  first_old i lt = ap (λ b. cond (is_odd b.parity) i (i + 1)) (old_basis i lt)

  pub partners_old : (i v : ℕ) → i < length T.basis → v ≤ suc T.weight → 1 ≤ v → partners (push_of T rows) i v ≡ partners T i v
  partners_old i v lt le positive =
      let heavy : 1 ≤ (plain_basis T i).weight = shape.heavy i lt in
      let w : (plain_basis (push_of T rows) i).weight ≡ (plain_basis T i).weight = old_weight i lt in
      let here : through (push_of T rows) (v - (plain_basis (push_of T rows) i).weight) ≡ through T (v - (plain_basis T i).weight) =
      ap (λ u. through (push_of T rows) (v - u)) w ∙ through_old (v - (plain_basis T i).weight) (omega arith) in
      let less : through (push_of T rows) (v - (plain_basis (push_of T rows) i).weight - 1) ≡ through T (v - (plain_basis T i).weight - 1) =
      ap (λ u. through (push_of T rows) (v - u - 1)) w ∙ through_old (v - (plain_basis T i).weight - 1) (omega arith) in
      ap₂ (λ a b. a - b) here (ap₂ max (first_old i lt) less)

  -- what stands at a weight of the table, and at the new one
  level_old : {A : Type 0} (levels : List (List A)) (l : List A) (v : ℕ) → length levels ≡ T.weight → v < T.weight →
      get_or (levels ++ l ∷ []) v [] ≡ get_or levels v []
  level_old levels l v is lt = get_or_append_left levels (l ∷ []) [] v (omega arith)

  level_new : {A : Type 0} (levels : List (List A)) (l : List A) (v : ℕ) → length levels ≡ T.weight → T.weight ≡ v → get_or (levels ++ l ∷ []) v [] ≡ l
  level_new levels l v is at = ap (λ k. get_or (levels ++ l ∷ []) k []) (sym (is ∙ at)) ∙ at_middle levels l [] []

  weight_split : (v : ℕ) → v < suc T.weight → (v < T.weight) ⊎ (T.weight ≡ v)
  weight_split v lt = elim (nat_split v T.weight) [ inl below ↦ inl below | inr above ↦ inr (omega arith) ]

  wider : (m n : ℕ) (row : List Num) → m ≡ n → IsRowUpTo T.kind m row → IsRowUpTo T.kind n row
  wider m n row is whole = subst (λ k. IsRowUpTo T.kind k row) is whole

  through_at : (v : ℕ) → v < T.weight → through T (suc v) ≡ through (push_of T rows) (suc v)
  through_at v lt = sym (through_old (suc v) (omega arith))

  image_count : (v : ℕ) → v < suc T.weight → length (images_at (push_of T rows) v) ≡ length T.generators
  image_count v lt =
      elim (weight_split v lt) [
        | inl below ↦ ap length (level_old T.images (new_images T rows 0 T.generators) v shape.images_length below) ∙ shape.image_lengths v below
        | inr here ↦ ap length (level_new T.images (new_images T rows 0 T.generators) v shape.images_length here) ∙ length-images T rows 0 T.generators
      ]

  image_whole : All (IsRowUpTo T.kind (length T.basis + length (free_of T rows))) (new_images T rows 0 T.generators) → (v g : ℕ) → v < suc T.weight →
      g < length T.generators →
      IsRowUpTo T.kind (through (push_of T rows) (suc v)) (get_or (images_at (push_of T rows) v) g [])
  image_whole whole v g lt ltg =
      elim (weight_split v lt) [
        | inl below ↦
            subst (λ l. IsRowUpTo T.kind (through (push_of T rows) (suc v)) (get_or l g []))
            (sym (level_old T.images (new_images T rows 0 T.generators) v shape.images_length below))
            (wider _ _ (get_or (images_at T v) g []) (through_at v below) (shape.image_rows v g below ltg))
        | inr here ↦
            subst (λ l. IsRowUpTo T.kind (through (push_of T rows) (suc v)) (get_or l g []))
            (sym (level_new T.images (new_images T rows 0 T.generators) v shape.images_length here))
            (wider _ _ (get_or (new_images T rows 0 T.generators) g []) (sym through_new ∙ ap (λ k. through (push_of T rows) (suc k)) here)
            (whole g [] (let many : length (new_images T rows 0 T.generators) ≡ length T.generators = length-images T rows 0 T.generators in omega arith)))
      ]

  entry_count : (v : ℕ) → v < suc T.weight → length (entries_at (push_of T rows) v) ≡ through (push_of T rows) v
  entry_count v lt =
      elim (weight_split v lt) [
        | inl below ↦ ap length (level_old T.entries (new_entries T rows 0 T.basis) v shape.entries_length below) ∙ shape.entry_lengths v below ∙
            sym (through_old v (omega arith))
        | inr here ↦
            ap length (level_new T.entries (new_entries T rows 0 T.basis) v shape.entries_length here) ∙ length-entries T rows 0 T.basis ∙
            sym through_weight ∙ ap (through T) here ∙ sym (through_old v (omega arith))
      ]

  old_place : (v i : ℕ) → v ≤ T.weight → i < through (push_of T rows) v → i < length T.basis
  old_place v i le lt = let h : through (push_of T rows) v ≡ through T v = through_old v le in let k : through T v ≤ length T.basis =
      leading_within T.basis v in omega arith

  entries_new : (v i : ℕ) → T.weight ≡ v → i < length T.basis → get_or (entries_at (push_of T rows) v) i [] ≡ new_partners T rows i 0 T.basis
  entries_new v i here lt =
      let same : 0 + i ≡ i = omega arith in
      ap (λ l. get_or l i []) (level_new T.entries (new_entries T rows 0 T.basis) v shape.entries_length here) ∙
      entries_at_place T rows 0 T.basis i lt ∙ ap (λ k. new_partners T rows k 0 T.basis) same

  partner_count : (v i : ℕ) → v < suc T.weight → i < through (push_of T rows) v → length (get_or (entries_at (push_of T rows) v) i []) ≡
      partners (push_of T rows) i (suc v)
  partner_count v i lt lti =
      let within : i < length T.basis = old_place v i (omega arith) lti in
      let same : partners (push_of T rows) i (suc v) ≡ partners T i (suc v) = partners_old i (suc v) within (omega arith) (omega arith) in
      elim (weight_split v lt) [
        | inl below ↦
            let h : through (push_of T rows) v ≡ through T v = through_old v (omega arith) in
            ap (λ l. length (get_or l i [])) (level_old T.entries (new_entries T rows 0 T.basis) v shape.entries_length below) ∙
            shape.partner_lengths v i below (omega arith) ∙ sym same
        | inr here ↦ ap length (entries_new v i here within) ∙ length-partners T shape rows i within ∙ ap (λ w. partners T i (suc w)) here ∙ sym same
      ]

  entry_whole : All (λ l. All (IsRowUpTo T.kind (length T.basis + length (free_of T rows))) l) (new_entries T rows 0 T.basis) → (v i q : ℕ) →
      v < suc T.weight → i < through (push_of T rows) v →
      q < partners (push_of T rows) i (suc v) → IsRowUpTo T.kind (through (push_of T rows) (suc v)) (get_or (get_or (entries_at (push_of T rows) v) i []) q [])
  entry_whole whole v i q lt lti ltq =
      let within : i < length T.basis = old_place v i (omega arith) lti in
      let same : partners (push_of T rows) i (suc v) ≡ partners T i (suc v) = partners_old i (suc v) within (omega arith) (omega arith) in
      let count : length (get_or (entries_at (push_of T rows) v) i []) ≡ partners (push_of T rows) i (suc v) = partner_count v i lt lti in
      elim (weight_split v lt) [
        | inl below ↦
            let h : through (push_of T rows) v ≡ through T v = through_old v (omega arith) in
            subst (λ l. IsRowUpTo T.kind (through (push_of T rows) (suc v)) (get_or (get_or l i []) q []))
            (sym (level_old T.entries (new_entries T rows 0 T.basis) v shape.entries_length below))
            (wider _ _ (get_or (get_or (entries_at T v) i []) q []) (through_at v below) (shape.entry_rows v i q below (omega arith) (omega arith)))
        | inr here ↦
            let level : entries_at (push_of T rows) v ≡ new_entries T rows 0 T.basis = level_new T.entries
            (new_entries T rows 0 T.basis) v shape.entries_length here in
            let many : length (new_entries T rows 0 T.basis) ≡ length T.basis = length-entries T rows 0 T.basis in
            let long : length (get_or (new_entries T rows 0 T.basis) i []) ≡ partners (push_of T rows) i (suc v) =
            ap (λ l. length (get_or l i [])) (sym level) ∙ count in
            subst (λ l. IsRowUpTo T.kind (through (push_of T rows) (suc v)) (get_or (get_or l i []) q [])) (sym level)
            (wider _ _ (get_or (get_or (new_entries T rows 0 T.basis) i []) q []) (sym through_new ∙ ap (λ k. through (push_of T rows) (suc k)) here)
            (whole i [] (omega arith) q [] (omega arith)))
      ]

  small_enough : length (push_of T rows).basis ≤ 2000000 * suc T.weight
  small_enough =
      let h : length (free_of T rows) ≤ length (symbols_in T) = free_few rows (length (symbols_in T)) in
      let k : length T.basis ≤ 2000000 * T.weight = shape.small in
      rw basis_length (omega arith)

  small_through : (w : ℕ) → w ≤ suc T.weight → through (push_of T rows) w ≤ 2000000 * w
  small_through w le =
      elim (nat_split T.weight w) [
        | inl above ↦
            let here : w ≡ suc T.weight = omega arith in
            subst (λ v. through (push_of T rows) v ≤ 2000000 * v) (sym here) (let h : through (push_of T rows) (suc T.weight) ≡
            length (push_of T rows).basis = through_new ∙ sym basis_length in
            omega (arith, h, small_enough))
        | inr within ↦ let h : through (push_of T rows) w ≡ through T w = through_old w within in let k : through T w ≤ 2000000 * w =
            shape.small_parts w within in omega arith
      ]

  pub push_shape : All (IsRowUpTo T.kind (length T.basis + length (free_of T rows))) (new_images T rows 0 T.generators) →
      All (λ l. All (IsRowUpTo T.kind (length T.basis + length (free_of T rows))) l) (new_entries T rows 0 T.basis) → HasShape (push_of T rows)
  push_shape images entries = record {
    field = shape.field;
    few = shape.few;
    weights = shape.weights;
    weight = omega arith;
    small = small_enough;
    small_parts = small_through;
    heavy = weight_positive;
    light = weight_up;
    ascend = weights_ascend;
    symbols = symbols_of_table;
    earlier = members_earlier;
    images_length = rw (length-append, shape.images_length) (omega arith);
    image_lengths = image_count;
    image_rows = image_whole images;
    entries_length = rw (length-append, shape.entries_length) (omega arith);
    entry_lengths = entry_count;
    partner_lengths = partner_count;
    entry_rows = entry_whole entries;
  }

pub symbols_next : (T : PlainTable) → symbols_of (shell_in T.kind T) (table_in T.kind T) (suc T.weight) ≡ symbols_in T
unfolding symbols symbols_of
symbols_next T = refl
