-- A state with a weight more.
use Rattle.std.specs.Prelude.{ℕ, zero, suc, ◌+◌, ◌-◌, ◌*◌, ◌≡◌, ◌≤◌, ◌<◌, List, [], ◌∷◌, ◌++◌, length, get_or, Result, Ok, Err, Bool, true, false, cond, nat_eq, nat_lt}
use mathlib.Core.Path.{refl, sym, subst, ap, ◌∙◌}
use Rattle.std.proofs.Common.{length-append}
use native.Mathlib.Omega.{arith}
use native.Mathlib.Decide.{dec_le}
use Rattle.std.proofs.lemmas.List.{get_or_append_left, get_or_push}
use Rattle.fpl_numbers.specs.declared.number.Num.{Num}
use Rattle.fpl_numbers.specs.declared.number.Kind.{Kind}
use Rattle.fpl_numbers.specs.declared.number.Kind.TheVariants.{Rational, Prime}
use Rattle.fpl_numbers.specs.declared.number.Unfit.{Unfit}
use Rattle.math_linear.specs.Span.{SpansKind}
use Rattle.fpl_numbers.specs.Kinds.{field_of}
use Rattle.fpl_numbers.specs.Results.{map_ok}
use Rattle.fpl_rows.specs.Meaning.{row_in, IsClosedList}
use Rattle.math_algebra.specs.SourceRows.{IsSource}
use Rattle.fpl_model.specs.Meaning.{presentation_in}
use Rattle.fpl_log.specs.declared.section.Section.{Section}
use Rattle.plain_elimination.specs.Plain.{Held, rows_of}
use Rattle.fpl_model.specs.declared.presentation.Presentation.{Presentation}
use Rattle.math_algebra.specs.Tree.{no_generator}
use Rattle.math_algebra.specs.Table.{Symbol, of_generator, of_pair}
use Rattle.math_linear.specs.Lists.{joined}
use Rattle.math_algebra.specs.Symbols.{symbols_of, is_odd}
use Rattle.fpl_table.specs.Plain.{PlainTable, plain_basis, symbols_in, table_in}
use Rattle.fpl_table.specs.Shape.{HasShape}
use Rattle.fpl_table.specs.Push.{push_of}
use Rattle.fpl_table.specs.Standard.{count_of, count_through}
use Rattle.plain_tables.specs.Holds.{Holds}
use Rattle.plain_tables.specs.Raised.{IsRaised}
use Rattle.plain_tables.specs.Raised.IsRaised.{pushed}
use Rattle.plain_tables.proofs.Holding.{push_holds}
use Rattle.fpl_rewrite.proofs.SymbolCounts.{symbols_counted}
use Rattle.plain_sources.proofs.Fitting.{Always, prime_always}
use Rattle.plain_weights.specs.Weight.{close_weight}
use Rattle.plain_weights.specs.Section.{slimmed, section_of}
use Rattle.plain_weights.proofs.Fitting.{close_weight_fits}
use Rattle.plain_weights.proofs.Completed.{next_holds, next_raised}
use Rattle.plain_weights.proofs.Counts.{counts_pushed}
use Rattle.fpl_section_bytes.specs.Stored.{IsWritable}
use Rattle.fpl_check.specs.Premises.{IsSectionFor}
use Rattle.fpl_check.specs.Check.{Accepts}
use Rattle.plain_sections.proofs.Held.{slim_is_accepted, slim_is_for, held_is_accepted, section_is_for}
use Rattle.fpl_complete.specs.State.{section_at, no_section, AreOfWeights, PlainState, IsStorable, IsState, PlainWeighed, weighed_as}
use Rattle.fpl_complete.specs.State.AreAccepted.{one_more}
use Rattle.fpl_complete.proofs.Weighing.{weighed}
use Rattle.fpl_complete.proofs.WritableSections.{section_writable, slimmed_writable}
use Rattle.fpl_rows.proofs.Fits.{part_fits, all_more}

pub no_sections : AreOfWeights 0 []
no_sections = record { count = refl; weights = λ w one end. absurd (omega arith) }

-- one section more
pub section_old : (sections : List Section) (x : Section) (w : ℕ) → 1 ≤ w → w ≤ length sections → section_at (sections ++ x ∷ []) w ≡ section_at sections w
section_old sections x w one end = get_or_append_left sections (x ∷ []) no_section (w - 1) (omega arith)

pub section_last : (sections : List Section) (x : Section) (w : ℕ) → w ≡ suc (length sections) → section_at (sections ++ x ∷ []) w ≡ x
section_last sections x w e = get_or_push sections x no_section (w - 1) (omega arith)

pub weights_more : (d : ℕ) (sections : List Section) (x : Section) → AreOfWeights d sections → x.weight ≡ suc d → AreOfWeights (suc d) (sections ++ x ∷ [])
weights_more d sections x h e = record {
  count = (let a = length-append sections (x ∷ []) in let b = h.count in omega arith);
  weights = λ w one end. at w one end (dec_le w d);
}
  where
    at : (w : ℕ) → 1 ≤ w → w ≤ suc d → Dec (w ≤ d) → (section_at (sections ++ x ∷ []) w).weight ≡ w
    at w one end (yes l) = ap (λ (s : Section). s.weight) (section_old sections x w one (let b = h.count in omega arith)) ∙ h.weights w one l
    at w one end (no l) = ap (λ (s : Section). s.weight) (section_last sections x w (let b = h.count in omega arith)) ∙ e
        ∙ (let q : suc d ≡ w = omega arith in q)

module _ (T : PlainTable) (p : Presentation) where
  -- rows and a section that the weight's run gives
  pub record Weighs (rows : List (List Num)) (section : Section) : Type 0 where
    pub held : Held
    pub run : close_weight T p ≡ Ok held
    pub rows_are : rows ≡ rows_of held.pivots
    pub section_is : section ≡ section_of T p held

  pub weighs : (rows : List (List Num)) (section : Section) → map_ok (weighed T p) (close_weight T p) ≡ Ok (weighed_as rows section) → Weighs rows section
  weighs rows section k =
      let r = part_fits (weighed T p) (close_weight T p) (weighed_as rows section) k in
      record { held = r.0; run = r.1.0; rows_are = ap (λ (z : PlainWeighed). z.rows) r.1.1; section_is = ap (λ (z : PlainWeighed). z.section) r.1.1 }

  pub part_unfit : (r : Result Held Unfit) (u : Unfit) → map_ok (weighed T p) r ≡ Err u → r ≡ Err u
  part_unfit (Ok h) u e = absurd (let k : ⊥ = cc in k)
  part_unfit (Err v) u e = unfit v u e
    where
      unfit : (v u : Unfit) → ◌≡◌ {A = Result PlainWeighed Unfit} (Err v) (Err u) → ◌≡◌ {A = Result Held Unfit} (Err v) (Err u)
      unfit v u e = cc

  pub unfit_fractions : (k : Kind) (u : Unfit) → T.kind ≡ k → map_ok (weighed T p) (close_weight T p) ≡ Err u → k ≡ Rational
  unfit_fractions Rational u e r = refl
  unfit_fractions (Prime n) u e r = absurd (no (close_weight_fits T (subst Always (sym e) (prime_always n)) p) (part_unfit (close_weight T p) u r))
    where
      no : (h : Held) × (close_weight T p ≡ Ok h) → close_weight T p ≡ Err u → ⊥
      no f k = let z : ◌≡◌ {A = Result Held Unfit} (Ok f.0) (Err u) = sym f.1 ∙ k in cc

-- a state with a weight more, and with its section
few_symbols_of : (T : PlainTable) (m : ℕ) → m ≡ count_through T (T.weight + 1) → m ≤ 2000000 → count_of T (suc T.weight) ≤ 2000000
few_symbols_of T m whole few = let q = ap (count_through T) (let s : T.weight + 1 ≡ suc T.weight = omega arith in s) in omega arith

pub few_symbols : (T : PlainTable) (m : ℕ) → m ≡ count_through T (T.weight + 1) → m ≤ 2000000 → length (symbols_in T) ≤ 2000000
few_symbols T m whole few = subst (λ (x : ℕ). x ≤ 2000000) (sym (symbols_counted T)) (few_symbols_of T m whole few)

module _ (T : PlainTable) (p : Presentation) (n m : ℕ) (sections : List Section) (rows : List (List Num)) (section : Section)
    (state : IsState p T n sections) (whole : m ≡ count_through T (T.weight + 1)) (few : m ≤ 2000000) where
  pub state_more : IsSectionFor T section → Accepts T p section rows → IsWritable p.field section → Holds p (push_of T rows) →
      IsRaised p (push_of T rows) → IsState p (push_of T rows) m (sections ++ section ∷ [])
  state_more is accepts writable holds raised = record {
    holds = holds;
    raised = raised;
    number = counts_pushed T state.holds.shape rows (suc T.weight) (omega arith)
        ∙ ap (count_through T) (let s : suc T.weight ≡ T.weight + 1 = omega arith in s) ∙ sym whole;
    few = few;
    sections_are = weights_more T.weight sections section state.sections_are is.weight;
    accepted = one_more T sections section rows state.accepted state.holds is accepts;
    writable = all_more (IsWritable p.field) sections section state.writable writable;
  }

  pub state_weighed : T.weight < 1000 → Weighs T p rows section → IsState p (push_of T rows) m (sections ++ section ∷ [])
  state_weighed below c =
      state_more (subst (IsSectionFor T) (sym c.section_is) (section_is_for p T (section_of T p c.held) state.holds (few_symbols T m whole few)
      (ap (map_ok (section_of T p)) c.run)))
      (subst (λ (x : Section). Accepts T p x rows) (sym c.section_is)
      (subst (Accepts T p (section_of T p c.held)) (sym c.rows_are) (held_is_accepted p T c.held state.holds c.run)))
      (subst (IsWritable p.field) (sym c.section_is) (section_writable p T state.holds (few_symbols T m whole few) c.held c.run))
      (subst (λ (rows : List (List Num)). Holds p (push_of T rows)) (sym c.rows_are)
      (next_holds p T state.holds c.held c.run below (few_symbols T m whole few)))
      (subst (λ (rows : List (List Num)). IsRaised p (push_of T rows)) (sym c.rows_are) (next_raised p T state.holds c.held c.run state.raised))

  pub state_adopted : T.weight < 1000 → (x : Section) → IsSectionFor T x → IsStorable T.kind x → Accepts T p x rows → section ≡ slimmed T p x →
      IsClosedList T.kind (length (symbols_in T)) rows →
      SpansKind (field_of p.field) (IsSource (field_of p.field) (presentation_in p) (table_in p.field T)) (length rows) (row_in p.field rows) →
      IsState p (push_of T rows) m (sections ++ section ∷ [])
  state_adopted below x is storable accepts same closed spans =
      state_more (subst (IsSectionFor T) (sym same) (slim_is_for p T x is))
      (subst (λ (y : Section). Accepts T p y rows) (sym same) (slim_is_accepted p T x rows state.holds is accepts))
      (subst (λ k. IsWritable k section) state.holds.kind (subst (IsWritable T.kind) (sym same) (slimmed_writable T.kind T p x storable is.few)))
      (push_holds p T rows state.holds below (few_symbols T m whole few) closed spans) (pushed T rows state.raised closed spans)

-- what a weight's run gives, and a state keeps
abbrev pub Keeps : PlainState → PlainTable → List Section → Type 0
Keeps s T sections =
    (h : Held) × (close_weight s.table s.presentation ≡ Ok h) × (T ≡ push_of s.table (rows_of h.pivots)) ×
    (sections ≡ s.sections ++ section_of s.table s.presentation h ∷ [])

pub keeps : (s : PlainState) (T : PlainTable) (sections : List Section) (rows : List (List Num)) (section : Section) →
    Weighs s.table s.presentation rows section →
    T ≡ push_of s.table rows → sections ≡ s.sections ++ section ∷ [] → Keeps s T sections
keeps s T sections rows section c e f = (c.held, c.run, e ∙ ap (push_of s.table) c.rows_are, f ∙ ap (λ (x : Section). s.sections ++ x ∷ []) c.section_is)

-- the counts of a table with a weight more
counts_more : (T : PlainTable) → HasShape T → (rows : List (List Num)) (v : ℕ) → v ≤ T.weight + 1 → count_through (push_of T rows) v ≡ count_through T v
counts_more T shape rows v l = counts_pushed T shape rows v (omega arith)

whole_within : (T : PlainTable) → HasShape T → (rows : List (List Num)) (m e : ℕ) → m ≡ count_through T (T.weight + 1) → m ≤ e →
    count_through (push_of T rows) (push_of T rows).weight ≤ e
whole_within T shape rows m e whole few =
    let a = counts_more T shape rows (suc T.weight) (omega arith) in
    let q = ap (count_through T) (let s : T.weight + 1 ≡ suc T.weight = omega arith in s) in omega arith

-- the same, of the table that a state had and of the one that it has then
pub whole_here : (T old : PlainTable) (m : ℕ) → T ≡ old → m ≡ count_through old (old.weight + 1) → m ≡ count_through T (T.weight + 1)
whole_here T old m same whole = subst (λ (S : PlainTable). m ≡ count_through S (S.weight + 1)) (sym same) whole

pub within_then : (T old new : PlainTable) (rows : List (List Num)) (m e : ℕ) → HasShape T → T ≡ old → new ≡ push_of T rows →
    m ≡ count_through old (old.weight + 1) → m ≤ e → count_through new new.weight ≤ e
within_then T old new rows m e shape same is whole few =
    subst (λ (S : PlainTable). count_through S S.weight ≤ e) (sym is) (whole_within T shape rows m e (whole_here T old m same whole) few)

pub counts_then : (T old new : PlainTable) (rows : List (List Num)) → HasShape T → T ≡ old → new ≡ push_of T rows → (v : ℕ) → v ≤ old.weight + 1 →
    count_through new v ≡ count_through old v
counts_then T old new rows shape same is v l =
    ap (λ (S : PlainTable). count_through S v) is ∙ counts_more T shape rows v (subst (λ (S : PlainTable). v ≤ S.weight + 1) (sym same) l)
    ∙ ap (λ (S : PlainTable). count_through S v) same

-- symbols of a weight are at most as many as generators and pairs
joined_small : (b : ℕ) (f : ℕ → List Symbol) → ((i : ℕ) → length (f i) ≤ b) → (n : ℕ) → length (joined n f) ≤ n * b
unfolding joined
joined_small b f h zero = omega arith
joined_small b f h (suc n) = omega (arith, length-append (joined n f) (f n), joined_small b f h n, h n)

one_small : (t : Bool) (x : Symbol) → length (cond t (x ∷ []) []) ≤ 1
one_small true x = omega arith
one_small false x = omega arith

pub count_small : (T : PlainTable) → HasShape T → (w : ℕ) → count_of T w ≤ 64 + 2000000000 * 2000000000
unfolding symbols_of
count_small T shape w =
    let basis : length T.basis ≤ 2000000000 = omega (arith, shape.small, shape.weight) in
    let few = joined_small 1 generators (λ g. one_small (nat_eq (get_or T.generators g no_generator).weight w) (of_generator g)) (length T.generators) in
    let many = joined_small 2000000000 (λ i. joined (length T.basis) (pairs i))
    (λ i. omega (arith, joined_small 1 (pairs i) (λ j. one_small (regular i j) (of_pair i j)) (length T.basis), basis)) (length T.basis) in
    omega (
      arith,
      length-append (joined (length T.generators) generators)
          (joined (length T.basis) (λ i. joined (length T.basis) (pairs i))),
      few,
      many,
      shape.few,
      basis,
    )
  where
    generators : ℕ → List Symbol
    generators g = cond (nat_eq (get_or T.generators g no_generator).weight w) (of_generator g ∷ []) []

    regular : ℕ → ℕ → Bool
    regular i j = cond (nat_eq ((plain_basis T i).weight + (plain_basis T j).weight) w)
        (cond (nat_lt i j) true (cond (nat_eq i j) (is_odd (plain_basis T i).parity) false)) false

    pairs : ℕ → ℕ → List Symbol
    pairs i j = cond (regular i j) (of_pair i j ∷ []) []
