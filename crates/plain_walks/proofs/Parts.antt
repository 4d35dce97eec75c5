-- The part of a standard table through a lower weight, and the numbers of symbols that it shares with the whole.
use Rattle.std.specs.Prelude.{ℕ, zero, suc, ◌≡◌, ◌<◌, ◌≤◌, ◌+◌, ◌-◌, length}
use mathlib.Core.Path.{sym, refl, ap, ap₂, ◌∙◌}
use mathlib.Core.Logic.{inl, inr}
use native.Mathlib.Omega.{arith}
use native.Mathlib.Decide.{ℕ_discrete, dec_lt}
use Rattle.math_fields.specs.Field.{Field}
use Rattle.math_linear.specs.Vector.{vzero}
use Rattle.fpl_numbers.specs.Kinds.{field_of}
use Rattle.math_algebra.specs.Tree.{Presentation, generator}
use Rattle.math_algebra.specs.Derives.{Expression}
use Rattle.math_algebra.specs.Table.{Table, no_basis, weight_at, IsRegular}
use Rattle.math_algebra.specs.Symbols.{symbols_of}
use Rattle.math_algebra.specs.Extending.{AddsBasis, IsLower, Agree}
use Rattle.math_algebra.specs.Standard.{IsStandard, IsStandardNext}
use Rattle.math_algebra.specs.Standard.IsStandard.{standard_start, standard_next}
use Rattle.math_standard.proofs.Standing.{symbols_lower}
use Rattle.math_theorems.proofs.StandardLaws.{one_standard}
use Rattle.fpl_model.specs.declared.presentation.Presentation as declared
use Rattle.fpl_model.specs.Meaning.{presentation_in}
use Rattle.fpl_model.specs.Sound.{IsSound}
use Rattle.fpl_table.specs.Plain.{PlainTable, table_in, shell_in}
use Rattle.fpl_table.specs.Standard.{IsTableOf, printed_tree, count_of, count_through}
use Rattle.plain_tables.proofs.Holding.{sound_is_sound, symbols_are_same}
use Rattle.plain_tables.proofs.One.{list_same}
use Rattle.plain_walks.specs.Laws.{symbols_through, WithinNeverPasses, StandardIsWithin}

module _ (K : Field) (P : Presentation K.Carrier) where
  record IsRanked (T : Table K) : Type 0 where
    positive : (i : ℕ) → i < length T.basis → 0 < weight_at T i
    light : (i : ℕ) → i < length T.basis → weight_at T i ≤ T.weight
    past : (g : ℕ) → g < length P.generators → T.weight < (generator P g).weight → T.image g ≡ vzero K

  weight_of_new : (T T' : Table K) (count : ℕ) (slot : ℕ → ℕ) → AddsBasis K P T T' count slot → (i : ℕ) → length T.basis ≤ i → i < length T'.basis →
      weight_at T' i ≡ suc T.weight
  weight_of_new T T' count slot adds i l m =
      let e : i ≡ length T.basis + (i - length T.basis) = omega arith in
      ap (weight_at T') e ∙ ap (λ b. b.weight) (adds.added (i - length T.basis) (omega (arith, adds.more, m)))

  weight_of_old : (T T' : Table K) (count : ℕ) (slot : ℕ → ℕ) → AddsBasis K P T T' count slot → (i : ℕ) → i < length T.basis → weight_at T' i ≡ weight_at T i
  weight_of_old T T' count slot adds i l = ap (λ b. b.weight) (adds.old i l)

  ranked : (T : Table K) (tree : ℕ → Expression K) → IsStandard K P T tree → IsRanked T
  ranked _ _ (standard_start {T = T} tree e) = record {
    positive = λ i l. absurd (omega (arith, l, e.basis));
    light = λ i l. absurd (omega (arith, l, e.basis));
    past = λ g l m. e.images g l;
  }
  ranked _ _ (standard_next {T = T} {T' = T'} {tree = tree} {tree' = tree'} std next) =
      let before : IsRanked T = ranked T tree std in
      record {
        positive = λ i l. elim (dec_lt i (length T.basis)) [
          | yes m ↦ omega (arith, weight_of_old T T' next.count next.slot next.basis i m, before.positive i m)
          | no m ↦ omega (arith, weight_of_new T T' next.count next.slot next.basis i (omega (arith, m)) l)
        ];
        light = λ i l. elim (dec_lt i (length T.basis)) [
          | yes m ↦ omega (arith, next.basis.weight, weight_of_old T T' next.count next.slot next.basis i m, before.light i m)
          | no m ↦ omega (arith, next.basis.weight, weight_of_new T T' next.count next.slot next.basis i (omega (arith, m)) l)
        ];
        past = λ g l m. next.keeps.past g l (omega (arith, m, next.basis.weight));
      }

  lower_itself : (T : Table K) → IsRanked T → IsLower K P T T
  lower_itself T r = record {
    less = omega arith;
    fewer = omega arith;
    basis = λ i l. refl;
    heavier = λ i l m. absurd (omega (arith, l, m));
    lighter = r.light;
    images = λ g l m. refl;
    past = r.past;
    entries = λ i j l m o w. refl;
  }

  lower_next : (T T' S : Table K) (tree tree' : ℕ → Expression K) → IsLower K P T S → IsStandardNext K P T T' tree tree' → IsLower K P T' S
  lower_next T T' S tree tree' low next = record {
    less = omega (arith, low.less, next.basis.weight);
    fewer = omega (arith, low.fewer, next.basis.more);
    basis = λ i l. next.basis.old i (omega (arith, l, low.fewer)) ∙ low.basis i l;
    heavier = λ i l m. elim (dec_lt i (length T.basis)) [
      | yes o ↦ omega (arith, weight_of_old T T' next.count next.slot next.basis i o, low.heavier i l o)
      | no o ↦ omega (arith, low.less, weight_of_new T T' next.count next.slot next.basis i (omega (arith, o)) m)
    ];
    lighter = low.lighter;
    images = λ g l m. next.keeps.images g l (omega (arith, m, low.less)) ∙ low.images g l m;
    past = low.past;
    entries = λ i j l m o w.
        next.keeps.entries i j (omega (arith, l, low.fewer)) (omega (arith, m, low.fewer)) (regular i j l o)
        (omega (arith, w, low.less, ap (λ b. b.weight) (low.basis i l), ap (λ b. b.weight) (low.basis j m)))
        ∙ low.entries i j l m o w;
  }
    where
      regular : (i j : ℕ) → i < length S.basis → IsRegular S i j → IsRegular T i j
      regular i j l (inl o) = inl o
      regular i j l (inr o) = inr (o.0, ap (λ b. b.parity) (low.basis i l) ∙ o.1)

  record IsPart (T : Table K) (a : ℕ) : Type 0 where
    part : Table K
    tree : ℕ → Expression K
    standard : IsStandard K P part tree
    through : part.weight ≡ a
    low : IsLower K P T part

  -- a standard table has a part through each lower weight
  part_of : (T : Table K) (tree : ℕ → Expression K) → IsStandard K P T tree → (a : ℕ) → a ≤ T.weight → IsPart T a
  part_of _ _ (standard_start {T = T} tree e) a l =
      record {
        part = T;
        tree = tree;
        standard = standard_start tree e;
        through = omega (arith, l, e.weight);
        low = lower_itself T (ranked T tree (standard_start tree e));
      }
  part_of _ _ (standard_next {T = T} {T' = T'} {tree = tree} {tree' = tree'} std next) a l = go (ℕ_discrete a T'.weight) (λ m. part_of T tree std a m)
    where
      go : Dec (a ≡ T'.weight) → (a ≤ T.weight → IsPart T a) → IsPart T' a
      go (yes e) below = record {
        part = T';
        tree = tree';
        standard = standard_next std next;
        through = sym e;
        low = lower_itself T' (ranked T' tree' (standard_next std next));
      }
      go (no d) below =
          let b : IsPart T a = below (omega (arith, l, d, next.basis.weight)) in
          record { part = b.part; tree = b.tree; standard = b.standard; through = b.through; low = lower_next T T' b.part tree tree' b.low next }

agreed_symbols : (K : Field) (P : Presentation K.Carrier) (T S : Table K) → T.basis ≡ S.basis → (w : ℕ) → symbols_of P T w ≡ symbols_of P S w
unfolding symbols_of
agreed_symbols K P T S e w = rw e refl

-- a table through a weight numbers the symbols of weights up to the next as every standard table through a higher weight does
counts_of : (p : declared.Presentation) (a : ℕ) (T : PlainTable) (S : Table (field_of p.field)) (tree : ℕ → Expression (field_of p.field)) →
    IsSound p → IsTableOf p a T →
    IsStandard (field_of p.field) (presentation_in p) S tree → a ≤ S.weight → (w : ℕ) → w ≤ suc a → count_of T w ≡ length (symbols_of (presentation_in p) S w)
counts_of p a T S tree sound t s l w m = ap length (names_T ∙ same ∙ sym whole)
  where
    K : Field
    K = field_of p.field

    P : Presentation K.Carrier
    P = presentation_in p

    lower : IsPart K P S a
    lower = part_of K P S tree s a l

    agree : Agree K P (table_in p.field T) lower.part
    agree = (one_standard K P (sound_is_sound p sound) (table_in p.field T) lower.part (printed_tree p T) lower.tree t.standard lower.standard
        (t.weight ∙ sym lower.through)).0

    same : symbols_of P (table_in p.field T) w ≡ symbols_of P lower.part w
    same = agreed_symbols K P (table_in p.field T) lower.part (list_same (table_in p.field T).basis lower.part.basis no_basis agree.more agree.basis) w

    whole : symbols_of P S w ≡ symbols_of P lower.part w
    whole = symbols_lower K P S lower.part lower.low (ranked K P S tree s).positive w (omega (arith, m, lower.through))

    names_T : symbols_of (shell_in T.kind T) (table_in T.kind T) w ≡ symbols_of P (table_in p.field T) w
    names_T = (symbols_are_same p T t.kind t.generators).1 w

pub counts_through : (p : declared.Presentation) (a : ℕ) (T : PlainTable) (S : Table (field_of p.field)) (tree : ℕ → Expression (field_of p.field)) →
    IsSound p → IsTableOf p a T →
    IsStandard (field_of p.field) (presentation_in p) S tree → a ≤ S.weight → (w : ℕ) → w ≤ suc a → count_through T w ≡ symbols_through (presentation_in p) S w
counts_through p a T S tree sound t s l zero m = refl
counts_through p a T S tree sound t s l (suc w) m =
    ap₂ (λ x y. x + y) (counts_through p a T S tree sound t s l w (omega (arith, m))) (counts_of p a T S tree sound t s l (suc w) m)

pub within_never_passes : WithinNeverPasses
within_never_passes p limit entries w count sound h passes =
    let one = passes.from_one in
    let end = passes.to_end in
    let same : count_through passes.table w ≡ symbols_through (presentation_in p) h.table w =
    counts_through p (w - 1) passes.table h.table h.tree sound passes.below h.standard (omega (arith, end, h.weight)) w (omega (arith, one)) in
    omega (arith, same, passes.number, passes.passes, h.within w end)

-- the symbols that a table names are those of its presentation
through_same : (p : declared.Presentation) (d : ℕ) (T : PlainTable) → IsTableOf p d T → (w : ℕ) →
    count_through T w ≡ symbols_through (presentation_in p) (table_in p.field T) w
through_same p d T t zero = refl
through_same p d T t (suc w) = ap₂ (λ x y. x + y) (through_same p d T t w) (ap length ((symbols_are_same p T t.kind t.generators).1 (suc w)))

pub standard_is_within : StandardIsWithin
standard_is_within p limit entries T t few = record {
  table = table_in p.field T;
  tree = printed_tree p T;
  standard = t.standard;
  weight = t.weight;
  within = λ w l. omega (arith, through_same p limit T t w, few w l);
}
