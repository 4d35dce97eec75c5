-- Where the pushed table holds what it held, and where it holds what is new.
use Rattle.std.specs.Prelude.{ℕ, zero, suc, ◌≡◌, ◌≢◌, ◌⊎◌, ◌<◌, ◌≤◌, ◌+◌, ◌-◌, List, [], ◌∷◌, ◌++◌, length, map, get_or, max, cond, nat_eq, nat_lt}
use mathlib.Core.Path.{ap, ap₂, ◌∙◌, subst}
use mathlib.Core.Logic.{inl, inr}
use native.Mathlib.Omega.{arith}
use native.Mathlib.Decide.{ℕ_discrete, dec_lt, dec_le}
use Rattle.std.proofs.lemmas.List.{length-append, get_or_append_left, get_or-append-add, get_or_past}
use Rattle.fpl_numbers.specs.declared.number.Num.{Num}
use Rattle.math_algebra.specs.Tree.{Generator, no_generator}
use Rattle.math_algebra.specs.Symbols.{is_odd}
use Rattle.math_algebra.specs.Table.{Basis, no_basis, of_generator, of_pair}
use Rattle.math_standard.proofs.NextTables.{length_map, get_or_map}
use Rattle.fpl_table.specs.Plain.{PlainTable, plain_basis, through, first_partner, partner_from, generator_at, image_row, entry_row}
use Rattle.fpl_table.specs.Push.{free_of, new_basis, row_of_symbol, new_images, new_partners, new_entries, push_of}
use Rattle.fpl_table.specs.Shape.{HasShape}
use Rattle.fpl_table.proofs.Weights.{through_above, through_below, through_heavier, leading_front}

module _ (T : PlainTable) (shape : HasShape T) (rows : List (List Num)) where
  abbrev pub T' : PlainTable
  T' = push_of T rows

  pub basis_old : (i : ℕ) → i < length T.basis → plain_basis (push_of T rows) i ≡ plain_basis T i
  basis_old i l = get_or_append_left T.basis (map (new_basis T) (free_of T rows)) no_basis i l

  pub through_old : (w : ℕ) → w ≤ T.weight → through (push_of T rows) w ≡ through T w
  through_old w l = leading_front T.basis (map (new_basis T) (free_of T rows)) w heavy
    where
      heavy : (i : ℕ) → i < length (map (new_basis T) (free_of T rows)) → w < (get_or (map (new_basis T) (free_of T rows)) i no_basis).weight
      heavy i h =
          let e = ap (λ b. b.weight) (get_or_map (new_basis T) (free_of T rows) i 0 no_basis (omega (arith, h, length_map (new_basis T) (free_of T rows)))) in
          omega (arith, e, l)

  pub partner_old : (i w : ℕ) → i < length T.basis → w ≤ suc T.weight → 1 ≤ (plain_basis T i).weight → partner_from (push_of T rows) i w ≡ partner_from T i w
  partner_old i w l h p =
      ap (λ b. max (cond (is_odd b.parity) i (i + 1)) (through (push_of T rows) (w - b.weight - 1))) (basis_old i l)
      ∙ ap (max (first_partner T i)) (through_old (w - (plain_basis T i).weight - 1) (omega (arith, h, p)))

  -- images
  new_images_at : (gs : List Generator) (g i : ℕ) → i < length gs →
      get_or (new_images T rows g gs) i [] ≡ cond (nat_eq (get_or gs i no_generator).weight (suc T.weight)) (row_of_symbol T rows (of_generator (g + i))) []
  new_images_at [] g i l = absurd (omega arith)
  new_images_at (x ∷ xs) g zero l =
      let e : g ≡ g + 0 = omega arith in ap (λ h. cond (nat_eq x.weight (suc T.weight)) (row_of_symbol T rows (of_generator h)) []) e
  new_images_at (x ∷ xs) g (suc i) l =
      let e : g + 1 + i ≡ g + suc i = omega arith in
      new_images_at xs (g + 1) i (omega arith) ∙
      ap (λ h. cond (nat_eq (get_or xs i no_generator).weight (suc T.weight)) (row_of_symbol T rows (of_generator h)) []) e

  pub image_old : (g : ℕ) → g < length T.generators → (generator_at T g).weight ≤ T.weight → image_row (push_of T rows) g ≡ image_row T g
  image_old g l w =
      ap (λ r. get_or r g [])
      (get_or_append_left T.images (new_images T rows 0 T.generators ∷ []) [] ((generator_at T g).weight - 1)
      (omega (arith, (shape.weights g l).0, w, shape.images_length)))

  pub image_new : (g : ℕ) → g < length T.generators → (generator_at T g).weight ≡ suc T.weight →
      image_row (push_of T rows) g ≡ row_of_symbol T rows (of_generator g)
  image_new g l w =
      ap (λ r. get_or r g [])
      (ap (λ v. get_or (T.images ++ new_images T rows 0 T.generators ∷ []) v []) (let e : (generator_at T g).weight - 1 ≡ length T.images + 0 =
      omega (arith, w, shape.images_length) in e)
      ∙ get_or-append-add T.images (new_images T rows 0 T.generators ∷ []) 0 [])
      ∙ new_images_at T.generators 0 g l
      ∙ (let e : 0 + g ≡ g = omega arith in ap (λ h. cond (nat_eq (generator_at T g).weight (suc T.weight)) (row_of_symbol T rows (of_generator h)) []) e)
      ∙ (let t : cond (nat_eq (generator_at T g).weight (suc T.weight)) (row_of_symbol T rows (of_generator g)) [] ≡
      row_of_symbol T rows (of_generator g) = grind arith in t)

  pub image_past : (g : ℕ) → suc T.weight < (generator_at T g).weight → image_row (push_of T rows) g ≡ []
  image_past g w =
      ap (λ r. get_or r g [])
      (get_or_past (T.images ++ new_images T rows 0 T.generators ∷ []) ((generator_at T g).weight - 1) []
      (omega (arith, w, shape.images_length, length-append T.images (new_images T rows 0 T.generators ∷ []))))

  -- entries
  pub new_entries_at : (bs : List Basis) (i j : ℕ) → j < length bs → get_or (new_entries T rows i bs) j [] ≡ new_partners T rows (i + j) 0 T.basis
  new_entries_at [] i j l = absurd (omega arith)
  new_entries_at (b ∷ bs) i zero l = let e : i ≡ i + 0 = omega arith in ap (λ k. new_partners T rows k 0 T.basis) e
  new_entries_at (b ∷ bs) i (suc j) l =
      let e : i + 1 + j ≡ i + suc j = omega arith in new_entries_at bs (i + 1) j (omega arith) ∙ ap (λ k. new_partners T rows k 0 T.basis) e

  -- the partners of i from lo on, up to j, are those of the new weight
  module _ (i j lo : ℕ) (from : lo ≤ j) where
    abbrev Sorted : ℕ → Basis → Type 0
    Sorted q b = (lo ≤ q → ((plain_basis T i).weight + b.weight ≡ suc T.weight) × (first_partner T i ≤ q)) ×
        (q < lo → ((plain_basis T i).weight + b.weight ≢ suc T.weight) ⊎ (q < first_partner T i))

    abbrev head_of : ℕ → Basis → List (List Num)
    head_of q b = cond (nat_eq ((plain_basis T i).weight + b.weight) (suc T.weight)) (cond (nat_lt q (first_partner T i)) []
        (row_of_symbol T rows (of_pair i q) ∷ [])) []

    head_there : (q : ℕ) (b : Basis) → (plain_basis T i).weight + b.weight ≡ suc T.weight → first_partner T i ≤ q →
        head_of q b ≡ row_of_symbol T rows (of_pair i q) ∷ []
    head_there q b e l = grind arith

    head_missing : (q : ℕ) (b : Basis) → ((plain_basis T i).weight + b.weight ≢ suc T.weight) ⊎ (q < first_partner T i) → head_of q b ≡ []
    head_missing q b (inl n) = grind arith
    head_missing q b (inr l) = go (ℕ_discrete ((plain_basis T i).weight + b.weight) (suc T.weight))
      where
        go : Dec ((plain_basis T i).weight + b.weight ≡ suc T.weight) → head_of q b ≡ []
        go (yes e) = grind arith
        go (no n) = grind arith

    partners_at : (bs : List Basis) (q : ℕ) → q ≤ j → j < q + length bs → ((r : ℕ) → r < length bs → q + r ≤ j → Sorted (q + r) (get_or bs r no_basis)) →
        get_or (new_partners T rows i q bs) (j - max lo q) [] ≡ row_of_symbol T rows (of_pair i j)
    partners_at [] q l h s = absurd (omega (arith, l, h))
    partners_at (b ∷ bs) q l h s = go (dec_lt q lo) (ℕ_discrete q j) (λ o. partners_at bs (q + 1) o (omega (arith, h))
        (λ r k m. subst (λ w. Sorted w (get_or bs r no_basis)) (let e : q + suc r ≡ q + 1 + r = omega arith in e)
        (s (suc r) (omega (arith, k)) (omega (arith, m)))))
      where
        first : Sorted q b
        first = subst (λ w. Sorted w b) (let e : q + 0 ≡ q = omega arith in e) (s 0 (omega arith) (omega (arith, l)))

        go : Dec (q < lo) → Dec (q ≡ j) → (q + 1 ≤ j → get_or (new_partners T rows i (q + 1) bs) (j - max lo (q + 1)) [] ≡ row_of_symbol T rows (of_pair i j)) →
            get_or (head_of q b ++ new_partners T rows i (q + 1) bs) (j - max lo q) [] ≡ row_of_symbol T rows (of_pair i j)
        go (yes o) d rest =
            let e : j - max lo q ≡ j - max lo (q + 1) = omega (arith, o) in
            ap₂ (λ a b. get_or (a ++ new_partners T rows i (q + 1) bs) b []) (head_missing q b (first.1 o)) e ∙ rest (omega (arith, o, from))
        go (no o) (yes d) rest =
            let k = first.0 (omega (arith, o)) in
            let e : j - max lo q ≡ 0 = omega (arith, o, d) in
            ap₂ (λ a b. get_or (a ++ new_partners T rows i (q + 1) bs) b []) (head_there q b k.0 k.1) e ∙ ap (λ w. row_of_symbol T rows (of_pair i w)) d
        go (no o) (no d) rest =
            let k = first.0 (omega (arith, o)) in
            let e : j - max lo q ≡ suc (j - max lo (q + 1)) = omega (arith, o, d, l) in
            ap₂ (λ a b. get_or (a ++ new_partners T rows i (q + 1) bs) b []) (head_there q b k.0 k.1) e ∙ rest (omega (arith, d, l))

  abbrev pair_weight : ℕ → ℕ → ℕ
  pair_weight i j = (plain_basis T i).weight + (plain_basis T j).weight

  -- what stands at a level
  abbrev at_level : PlainTable → ℕ → ℕ → ℕ → List Num
  at_level S i j w = get_or (get_or (get_or S.entries (w - 1) []) i []) (j - partner_from S i w) []

  pair_same : (i j : ℕ) → i < length T.basis → j < length T.basis → (plain_basis (push_of T rows) i).weight + (plain_basis (push_of T rows) j).weight
      ≡ pair_weight i j
  pair_same i j l k = ap₂ (λ a b. a.weight + b.weight) (basis_old i l) (basis_old j k)

  -- the entry of a pair of the new weight
  pub entry_new : (i j : ℕ) → i < length T.basis → j < length T.basis → first_partner T i ≤ j → pair_weight i j ≡ suc T.weight →
      entry_row (push_of T rows) i j ≡ row_of_symbol T rows (of_pair i j)
  entry_new i j l k f w =
      ap (at_level (push_of T rows) i j) (pair_same i j l k ∙ w)
      ∙ ap₂ (λ a b. get_or (get_or a i []) (j - b) []) level (partner_old i (suc T.weight) l (omega arith) (shape.heavy i l))
      ∙ ap (λ r. get_or r (j - lo) []) (new_entries_at T.basis 0 i l ∙ (let e : 0 + i ≡ i = omega arith in ap (λ k. new_partners T rows k 0 T.basis) e))
      ∙ (let e : j - lo ≡ j - max lo 0 = omega arith in ap (λ b. get_or (new_partners T rows i 0 T.basis) b []) e)
      ∙ partners_at i j lo from T.basis 0 (omega arith) (omega (arith, k)) (λ r o m. sorted r o (omega (arith, m)))
    where
      v : ℕ
      v = suc T.weight - (plain_basis T i).weight - 1

      lo : ℕ
      lo = partner_from T i (suc T.weight)

      reach : through T (suc T.weight - (plain_basis T i).weight - 1) ≤ j
      reach = through_heavier T shape (suc T.weight - (plain_basis T i).weight - 1) j (omega (arith, w, shape.heavy j k))

      from : partner_from T i (suc T.weight) ≤ j
      from = omega (arith, f, reach)

      level : get_or (T.entries ++ new_entries T rows 0 T.basis ∷ []) (suc T.weight - 1) [] ≡ new_entries T rows 0 T.basis
      level =
          ap (λ b. get_or (T.entries ++ new_entries T rows 0 T.basis ∷ []) b []) (let e : suc T.weight - 1 ≡ length T.entries + 0 =
          omega (arith, shape.entries_length) in e)
          ∙ get_or-append-add T.entries (new_entries T rows 0 T.basis ∷ []) 0 []

      sorted : (r : ℕ) → r < length T.basis → r ≤ j → Sorted i j (partner_from T i (suc T.weight)) from (0 + r) (get_or T.basis r no_basis)
      sorted r o m = subst (λ q. Sorted i j (partner_from T i (suc T.weight)) from q (get_or T.basis r no_basis))
          (let e : r ≡ 0 + r = omega arith in e) (inside, outside)
        where
          inside : partner_from T i (suc T.weight) ≤ r → ((plain_basis T i).weight + (plain_basis T r).weight ≡ suc T.weight) × (first_partner T i ≤ r)
          inside h = go (dec_le (plain_basis T r).weight (suc T.weight - (plain_basis T i).weight - 1))
            where
              go : Dec ((plain_basis T r).weight ≤ suc T.weight - (plain_basis T i).weight - 1) →
                  ((plain_basis T i).weight + (plain_basis T r).weight ≡ suc T.weight) × (first_partner T i ≤ r)
              go (yes d) = let a = through_above T shape (suc T.weight - (plain_basis T i).weight - 1) r o d in absurd (omega (arith, a, h))
              go (no d) = let u = shape.ascend r j m k in (omega (arith, d, u, w), omega (arith, h))

          outside : r < partner_from T i (suc T.weight) → ((plain_basis T i).weight + (plain_basis T r).weight ≢ suc T.weight) ⊎ (r < first_partner T i)
          outside h = go (dec_lt r (first_partner T i))
            where
              go : Dec (r < first_partner T i) → ((plain_basis T i).weight + (plain_basis T r).weight ≢ suc T.weight) ⊎ (r < first_partner T i)
              go (yes d) = inr d
              go (no d) =
                  let below : (plain_basis T r).weight ≤ suc T.weight - (plain_basis T i).weight - 1 =
                  through_below T shape (suc T.weight - (plain_basis T i).weight - 1) r (omega (arith, h, d)) in
                  inl (λ e. absurd (omega (arith, below, e, shape.heavy r o)))

  pub entry_old : (i j : ℕ) → i < length T.basis → j < length T.basis → pair_weight i j ≤ T.weight → entry_row (push_of T rows) i j ≡ entry_row T i j
  entry_old i j l k w =
      ap (at_level (push_of T rows) i j) (pair_same i j l k)
      ∙ ap₂ (λ a b. get_or (get_or a i []) (j - b) [])
      (get_or_append_left T.entries (new_entries T rows 0 T.basis ∷ []) [] (pair_weight i j - 1) (omega (arith, w, shape.entries_length, shape.heavy i l)))
      (partner_old i (pair_weight i j) l (omega (arith, w)) (shape.heavy i l))
