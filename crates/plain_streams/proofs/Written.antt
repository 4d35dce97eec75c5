-- What a run keeps for a presentation is what a stream of the second version holds, and it has bytes.
use Rattle.std.proofs.Common.{◌≡◌, ℕ, zero, suc, ◌+◌, ◌^◌, ◌<◌, ◌≤◌, Bool, true, false, List, [], ◌∷◌, ◌++◌, length, take, All, Ok, Err, refl, sym, ap, subst, ◌∙◌, append_assoc, arith}
use Rattle.std.specs.Prelude.{nat_lt, if◌then◌else◌}
use Rattle.std.specs.declared.result.Result.{Result}
use Rattle.std.proofs.lemmas.Bool.{ltb-false}
use Rattle.std.proofs.lemmas.List.{append-nil}
use Rattle.fpl_numbers.specs.declared.number.Unfit.{Unfit}
use Rattle.fpl_rows.proofs.Fits.{all_cons, all_head, all_tail}
use Rattle.fpl_log.specs.declared.section.Section.{Section}
use Rattle.plain_elimination.specs.Plain.{Held, rows_of}
use Rattle.fpl_model.specs.declared.presentation.Presentation.{Presentation}
use Rattle.fpl_model.specs.Sound.{IsSound}
use Rattle.fpl_canonical.specs.Canonical.{canonical_of}
use Rattle.fpl_table.specs.Plain.{PlainTable, symbols_in}
use Rattle.fpl_table.specs.Push.{push_of}
use Rattle.fpl_table.specs.Standard.{start_of, count_of, count_through}
use Rattle.plain_tables.specs.Holds.{Holds}
use Rattle.plain_tables.proofs.Holding.{start_holds}
use Rattle.plain_weights.specs.Weight.{close_weight}
use Rattle.plain_weights.specs.Section.{section_of}
use Rattle.plain_weights.proofs.Completed.{next_holds}
use Rattle.fpl_bytes.specs.declared.version.Version.{Version}
use Rattle.fpl_bytes.specs.declared.version.Version.TheVariants.{One, Two}
use Rattle.fpl_checkpoint.specs.Heads.{head_bytes_of}
use Rattle.fpl_walk.specs.Walk.{Stage, Stop, failed, too_many, Walked, computed_as, walk_on, walk_of}
use Rattle.plain_streams.specs.Streams.{nothing, plain_walk, version_number, section_in, sections_on, sections_in, stream_of, HasBytes, IsSmallSection, IsStreamOf}
use Rattle.plain_streams.specs.Laws.{RunsKeepSections, RunsWriteStreams, SmallStreams}
use Rattle.fpl_rewrite.proofs.SymbolCounts.{symbols_counted}
use Rattle.plain_streams.proofs.OriginCounts.{IsFew, few_pushed}
use Rattle.plain_streams.proofs.StoredParts.{section_has_bytes, whole_has_bytes}
use Rattle.plain_streams.proofs.Walking.{here}

module _ (entries : ℕ) (p : Presentation) where
  -- a run has come some weights further, and has kept their sections
  record Keeps (T : PlainTable) (sections : List Section) (w : Walked) : Type 0 where
    many : ℕ
    weight : w.stage.table.weight ≡ T.weight + many
    kept : w.stage.sections ≡ sections ++ sections_in Two p many T

  stays : (T : PlainTable) (sections : List Section) (w : Walked) → w.stage.table ≡ T → w.stage.sections ≡ sections → Keeps T sections w
  stays T sections w e f = record { many = 0; weight = ap (λ (S : PlainTable). S.weight) e ∙ omega arith; kept = f ∙ sym (append-nil sections) }

  one_more : (W : Stage → Walked) (T : PlainTable) (sections : List Section) →
      ((S : PlainTable) (more : List Section) → Keeps S more (W (here S more 0 false))) → (r : Result Held Unfit) → close_weight T p ≡ r →
      Keeps T sections (walk_on W (here T sections 0 false) (computed_as (here T sections 0 false) p r))
  one_more W T sections again (Err u) run = stays T sections _ refl refl
  one_more W T sections again (Ok h) run =
      let S = push_of T (rows_of h.pivots) in
      let k = again S (sections ++ section_of T p h ∷ []) in
      let listed : section_of T p h ∷ sections_in Two p k.many S ≡ sections_in Two p (suc k.many) T =
      ap (sections_on (section_in Two T p) (λ (g : Held). sections_in Two p k.many (push_of T (rows_of g.pivots)))) (sym run) in
      record {
        many = suc k.many;
        weight = k.weight ∙ omega arith;
        kept = k.kept ∙ append_assoc sections (section_of T p h ∷ []) (sections_in Two p k.many S) ∙ ap (λ (l : List Section). sections ++ l) listed;
      }

  tested : (W : Stage → Walked) (T : PlainTable) (sections : List Section) (stop : Stop) (r : Result Stage Stop) (t : Bool) →
      Keeps T sections (walk_on W (here T sections 0 false) r) →
      Keeps T sections (walk_on W (here T sections 0 false) (if t then Err stop else r))
  tested W T sections stop r true k = stays T sections _ refl refl
  tested W T sections stop r false k = k

  keeps : (n : ℕ) (T : PlainTable) (sections : List Section) → Keeps T sections (walk_of true entries p nothing n (here T sections 0 false))
  keeps zero T sections = stays T sections _ refl refl
  keeps (suc n) T sections =
      let W = walk_of true entries p nothing n in
      tested W T sections (failed (too_many (suc T.weight) (count_through T (suc T.weight))))
      (computed_as (here T sections 0 false) p (close_weight T p)) (nat_lt entries (count_through T (suc T.weight)))
      (one_more W T sections (λ S more. keeps n S more) (close_weight T p) refl)

pub runs_keep_sections : RunsKeepSections
runs_keep_sections p entries limit =
    let k = keeps entries p limit (start_of p) [] in
    k.kept ∙ ap (λ (m : ℕ). sections_in Two p m (start_of p)) (let q : k.many ≡ (plain_walk entries p limit).stage.table.weight = omega (arith, k.weight) in q)

-- ---- and the sections of a version have bytes, where each does that may stand in the stream

module _ (version : Version) (p : Presentation) (May : Section → Type 0)
    (has : (T : PlainTable) (h : Held) → Holds p T → close_weight T p ≡ Ok h → length (symbols_in T) ≤ 2000000 → length T.basis ≤ 2000000 →
    May (section_in version T p h) → HasBytes version p.field (section_in version T p h)) where
  abbrev HaveBytes : List Section → Type 0
  HaveBytes sections = All (HasBytes version p.field) sections

  no_sections : HaveBytes []
  no_sections i d l = absurd (omega (arith, l))

  abbrev listed : ℕ → PlainTable → Result Held Unfit → List Section
  listed m T r = sections_on (section_in version T p) (λ h. sections_in version p m (push_of T (rows_of h.pivots))) r

  -- as many sections after T's weight as a run has come further
  abbrev CameTo : PlainTable → Walked → Type 0
  CameTo T w = (m : ℕ) → w.stage.table.weight ≡ T.weight + m → All May (sections_in version p m T) → HaveBytes (sections_in version p m T)

  one_has : (W : Stage → Walked) (T : PlainTable) (sections : List Section) (m : ℕ) → Holds p T → length (symbols_in T) ≤ 2000000 → length T.basis ≤ 2000000 →
      ((h : Held) → close_weight T p ≡ Ok h → CameTo (push_of T (rows_of h.pivots))
      (W (here (push_of T (rows_of h.pivots)) (sections ++ section_of T p h ∷ []) 0 false))) →
      (r : Result Held Unfit) → close_weight T p ≡ r →
      (walk_on W (here T sections 0 false) (computed_as (here T sections 0 false) p r)).stage.table.weight ≡ T.weight + suc m →
      All May (listed m T r) → HaveBytes (listed m T r)
  one_has W T sections m holds few basis again (Err u) run f may = no_sections
  one_has W T sections m holds few basis again (Ok h) run f may =
      let rest = sections_in version p m (push_of T (rows_of h.pivots)) in
      all_cons (HasBytes version p.field) (section_in version T p h) rest (has T h holds run few basis (all_head May (section_in version T p h) rest may))
      (again h run m (omega (arith, f)) (all_tail May (section_in version T p h) rest may))

  tested_has : (W : Stage → Walked) (T : PlainTable) (sections : List Section) (m : ℕ) (stop : Stop) (r : Result Stage Stop) (t : Bool) →
      (t ≡ false → (walk_on W (here T sections 0 false) r).stage.table.weight ≡ T.weight + suc m → HaveBytes (sections_in version p (suc m) T)) →
      (walk_on W (here T sections 0 false) (if t then Err stop else r)).stage.table.weight ≡ T.weight + suc m → HaveBytes (sections_in version p (suc m) T)
  tested_has W T sections m stop r true have f = absurd (omega (arith, f))
  tested_has W T sections m stop r false have f = have refl f

  module _ (entries : ℕ) (most : entries ≤ 2000000) where
    have_bytes : (n : ℕ) (T : PlainTable) (sections : List Section) → Holds p T → IsFew T → T.weight + n ≤ 1000 →
        CameTo T (walk_of true entries p nothing n (here T sections 0 false))
    have_bytes n T sections holds few range zero f may = no_sections
    have_bytes zero T sections holds few range (suc m) f may = absurd (omega (arith, f))
    have_bytes (suc n) T sections holds few range (suc m) f may =
        let W = walk_of true entries p nothing n in
        tested_has W T sections m (failed (too_many (suc T.weight) (count_through T (suc T.weight))))
        (computed_as (here T sections 0 false) p (close_weight T p)) (nat_lt entries (count_through T (suc T.weight)))
        (λ within g.
        let count : count_through T T.weight + count_of T (suc T.weight) ≤ entries = ltb-false _ _ within in
        let symbols : length (symbols_in T) ≤ 2000000 = omega (arith, count, most, symbols_counted T) in
        one_has W T sections m holds symbols (omega (arith, count, most, few))
        (λ h run. have_bytes n (push_of T (rows_of h.pivots)) (sections ++ section_of T p h ∷ []) (next_holds p T holds h run (omega (arith, range)) symbols)
        (few_pushed T (rows_of h.pivots) holds.shape few) (omega (arith, range)))
        (close_weight T p) refl g may)
        f

    abbrev came_to : ℕ → ℕ
    came_to limit = (plain_walk entries p limit).stage.table.weight

    pub streams : (limit end : ℕ) → IsSound p → length (canonical_of p) < 2 ^ 32 → limit ≤ 1000 →
        All May (sections_in version p (came_to limit) (start_of p)) → length (head_bytes_of (version_number version) p) ≤ end →
        IsStreamOf p (take end (stream_of version p (sections_in version p (came_to limit) (start_of p))))
    streams limit end sound text range may head = record {
      sound = sound;
      text = text;
      version = version;
      through = came_to limit;
      sections = have_bytes limit (start_of p) [] (start_holds p sound) (omega arith) (omega (arith, range)) (came_to limit) (omega arith) may;
      end = end;
      head = head;
      front = refl;
    }

abbrev any_section : Section → Type 0
any_section s = Unit {0}

pub runs_write_streams : RunsWriteStreams
runs_write_streams p entries limit end sound text most range head =
    let kept = runs_keep_sections p entries limit in
    let stream = streams Two p any_section
    (λ T h holds run few basis may. section_has_bytes T p holds h run few basis) entries most limit end sound text range (λ i d l. tt) head in
    subst (λ (s : List Section). IsStreamOf p (take end (stream_of Two p s))) (sym kept) stream

pub small_streams : SmallStreams
small_streams p entries limit end sound text most range small head =
    streams One p (IsSmallSection p.field)
    (λ T h holds run few basis fits. whole_has_bytes T p holds h run few basis fits) entries most limit end sound text range small head
