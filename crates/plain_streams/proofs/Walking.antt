-- A run over a stream goes as the run for its presentation does: as long as sections stand whole they are adopted, and give what is computed; after
-- the last one both compute.
use Rattle.std.proofs.Common.{◌≡◌, ℕ, zero, suc, ◌+◌, ◌-◌, ◌^◌, ◌<◌, ◌≤◌, ◌⊎◌, inl, inr, Bool, true, false, List, [], ◌∷◌, ◌++◌, length, take, All, Ok, Err, refl, sym, ap, ap₂, subst, ◌∙◌, append_assoc, arith}
use Rattle.std.specs.Prelude.{nat_lt, slice_range, if◌then◌else◌}
use Rattle.std.specs.List.{flat_map}
use Rattle.std.specs.declared.result.Result.{Result}
use Rattle.std.proofs.lemmas.Bool.{cases_lt, ltb-false}
use Rattle.std.proofs.lemmas.List.{take_all, take-append-le, length-append}
use Rattle.fpl_numbers.specs.declared.number.Unfit.{Unfit}
use Rattle.fpl_rows.proofs.Fits.{all_head, all_tail}
use Rattle.fpl_log.specs.declared.section.Section.{Section}
use Rattle.plain_elimination.specs.Plain.{Held, rows_of}
use Rattle.fpl_model.specs.declared.presentation.Presentation.{Presentation}
use Rattle.fpl_table.specs.Plain.{PlainTable, symbols_in}
use Rattle.fpl_table.specs.Push.{push_of}
use Rattle.fpl_table.specs.Standard.{count_of, count_through}
use Rattle.plain_tables.specs.Holds.{Holds}
use Rattle.plain_weights.specs.Weight.{close_weight}
use Rattle.plain_weights.specs.Section.{section_of}
use Rattle.plain_weights.proofs.Completed.{next_holds}
use Rattle.fpl_bytes.specs.declared.version.Version.{Version}
use Rattle.fpl_bytes.specs.declared.version.Version.TheVariants.{One, Two}
use Rattle.fpl_bytes.specs.Numbers.{version_of}
use Rattle.fpl_section_bytes.specs.declared.frame.Frame.TheVariants.{Whole, Tail}
use Rattle.fpl_section_bytes.specs.Frames.{frame_of}
use Rattle.fpl_section_bytes.specs.Reading.{payload_at}
use Rattle.fpl_section_bytes.specs.Spelling.{payload_bytes, frame_bytes, section_bytes_of}
use Rattle.fpl_section_bytes.proofs.Framed.{frame_found}
use Rattle.fpl_section_bytes.proofs.Bodies.{payload_again}
use Rattle.fpl_walk.specs.Walk.{Stored, Stage, Stop, failed, too_many, Walked, adopted, formed, framed, weighed, computed_as, walk_on, walk_of}
use Rattle.plain_streams.specs.Streams.{nothing, version_number, section_in, sections_on, sections_in, HasBytes}
use Rattle.plain_streams.specs.Laws.{GiveSame, PassesWith}
use Rattle.fpl_rewrite.proofs.SymbolCounts.{symbols_counted}
use Rattle.plain_streams.proofs.CutFrames.{take_past, frame_cut, frame_none, payload_there}
use Rattle.plain_streams.proofs.Sections.{StandsFor, section_stands}

abbrev pub here : PlainTable → List Section → ℕ → Bool → Stage
here T sections place stored = record { table = T; sections = sections; place = place; stored = stored }

version_again : (version : Version) → version_of (version_number version) ≡ version
version_again One = refl
version_again Two = refl

-- ---- where both compute

-- a weight that both compute
computed_same : (V W : Stage → Walked) (p : Presentation) (T : PlainTable) (sections : List Section) (a b : ℕ) (c d : Bool) →
    ((S : PlainTable) (more : List Section) → GiveSame (V (here S more a false)) (W (here S more b false))) → (r : Result Held Unfit) →
    GiveSame (walk_on V (here T sections a c) (computed_as (here T sections a c) p r)) (walk_on W (here T sections b d) (computed_as (here T sections b d) p r))
computed_same V W p T sections a b c d again (Ok h) = again (push_of T (rows_of h.pivots)) (sections ++ section_of T p h ∷ [])
computed_same V W p T sections a b c d again (Err u) = record { stop = refl; table = refl; sections = refl }

-- a weight of which both first test the number of symbols
tested_same : (V W : Stage → Walked) (T : PlainTable) (sections : List Section) (a b : ℕ) (c d : Bool) (stop : Stop) (r s : Result Stage Stop) (t : Bool) →
    (t ≡ false → GiveSame (walk_on V (here T sections a c) r) (walk_on W (here T sections b d) s)) →
    GiveSame (walk_on V (here T sections a c) (if t then Err stop else r)) (walk_on W (here T sections b d) (if t then Err stop else s))
tested_same V W T sections a b c d stop r s true same = record { stop = refl; table = refl; sections = refl }
tested_same V W T sections a b c d stop r s false same = same refl

pub same_after : (entries : ℕ) (p : Presentation) (v w : Stored) (n : ℕ) (T : PlainTable) (sections : List Section) (a b : ℕ) →
    GiveSame (walk_of true entries p v n (here T sections a false)) (walk_of true entries p w n (here T sections b false))
same_after entries p v w zero T sections a b = record { stop = refl; table = refl; sections = refl }
same_after entries p v w (suc n) T sections a b =
    let count = count_through T (suc T.weight) in
    tested_same (walk_of true entries p v n) (walk_of true entries p w n) T sections a b false false (failed (too_many (suc T.weight) count))
    (computed_as (here T sections a false) p (close_weight T p)) (computed_as (here T sections b false) p (close_weight T p)) (nat_lt entries count)
    (λ within. computed_same (walk_of true entries p v n) (walk_of true entries p w n) p T sections a b false false
    (λ S more. same_after entries p v w n S more a b) (close_weight T p))

-- a weight of which a check first tests the number of symbols
tested_passes : (V : Stage → Walked) (stage : Stage) (w count : ℕ) (r : Result Stage Stop) (t : Bool) → (t ≡ false → PassesWith (walk_on V stage r).stop) →
    PassesWith (walk_on V stage (if t then Err (failed (too_many w count)) else r)).stop
tested_passes V stage w count r true passes = tt
tested_passes V stage w count r false passes = passes refl

module _ (version : Version) (p : Presentation) (bytes : List ℕ) where
  abbrev pub stream : Stored
  stream = record { version = version_number version; bytes = bytes }

  abbrev spelled : List Section → List ℕ
  spelled sections = flat_map (section_bytes_of version p.field) sections

  -- from a place on stand these sections, or a front of their bytes
  pub record Follow (place : ℕ) (sections : List Section) : Type 0 where
    pub before : List ℕ
    pub left : ℕ
    pub at : place ≡ length before
    pub are : bytes ≡ before ++ take left (spelled sections)

  -- a section that stands whole gives the weight that is computed
  whole_step : (computes : Bool) (T : PlainTable) (sections : List Section) (place : ℕ) (h : Held) (s : Section) (before after : List ℕ) →
      StandsFor p T h s → HasBytes version p.field s → suc T.weight < 2 ^ 32 → place ≡ length before →
      bytes ≡ before ++ (section_bytes_of version p.field s ++ after) →
      weighed computes p stream (here T sections place true)
      ≡ Ok (here (push_of T (rows_of h.pivots)) (sections ++ section_of T p h ∷ []) (length before + 12 + length (payload_bytes version p.field s)) true)
  whole_step computes T sections place h s before after stands fits small there are =
      let w = suc T.weight in
      let payload = payload_bytes version p.field s in
      let from = length before + 12 in
      let to = length before + 12 + length payload in
      let stage = here T sections place true in
      let whole : bytes ≡ before ++ (frame_bytes w payload ++ after) = are ∙ ap (λ (v : ℕ). before ++ (frame_bytes v payload ++ after)) stands.weight in
      let found : frame_of bytes place w ≡ Ok (Whole from to) =
      ap₂ (λ (b : List ℕ) (n : ℕ). frame_of b n w) whole there ∙ frame_found before payload after w small fits.payload in
      let range : slice_range bytes from to ≡ payload = ap (λ (b : List ℕ). slice_range b from to) whole ∙ payload_there before payload after w in
      let read : payload_at (version_of (version_number version)) p.field w to (slice_range bytes from to) ≡ Ok s =
      ap₂ (λ (v : Version) (b : List ℕ). payload_at v p.field w to b) (version_again version) range
      ∙ payload_again version p.field w to s fits.parts stands.weight in
      ap (framed computes p stream stage) found ∙ ap (formed stage p to) read ∙ ap (adopted stage p s to) stands.accepted
      ∙ ap₂ (λ (S : PlainTable) (x : Section). Ok (here S (sections ++ x ∷ []) to true)) stands.table stands.kept

  -- a weight whose section stands whole, and what follows it
  pub record Next (computes : Bool) (T : PlainTable) (sections : List Section) (place : ℕ) : Type 0 where
    pub held : Held
    pub run : close_weight T p ≡ Ok held
    pub to : ℕ
    pub step : weighed computes p stream (here T sections place true) ≡ Ok
        (here (push_of T (rows_of held.pivots)) (sections ++ section_of T p held ∷ []) to true)
    pub through : ℕ
    pub have : All (HasBytes version p.field) (sections_in version p through (push_of T (rows_of held.pivots)))
    pub follow : Follow to (sections_in version p through (push_of T (rows_of held.pivots)))

  abbrev IsTail : PlainTable → ℕ → Type 0
  IsTail T place = frame_of bytes place (suc T.weight) ≡ Ok Tail

  none_follow : (T : PlainTable) (place : ℕ) → Follow place [] → IsTail T place
  none_follow T place f =
      ap₂ (λ (b : List ℕ) (n : ℕ). frame_of b n (suc T.weight)) (f.are ∙ ap (λ (l : List ℕ). f.before ++ l) (take_all f.left [] (omega arith))) f.at
      ∙ frame_none f.before (suc T.weight)

  one_follows : (computes : Bool) (T : PlainTable) (sections : List Section) (place m : ℕ) (h : Held) → Holds p T → suc T.weight < 2 ^ 32 →
      close_weight T p ≡ Ok h →
      All (HasBytes version p.field) (section_in version T p h ∷ sections_in version p m (push_of T (rows_of h.pivots))) →
      Follow place (section_in version T p h ∷ sections_in version p m (push_of T (rows_of h.pivots))) → IsTail T place ⊎ Next computes T sections place
  one_follows computes T sections place m h holds small run have f =
      let s = section_in version T p h in
      let rest = sections_in version p m (push_of T (rows_of h.pivots)) in
      let payload = payload_bytes version p.field s in
      let text = section_bytes_of version p.field s in
      let stands = section_stands version p T h holds run in
      let fits = all_head (HasBytes version p.field) s rest have in
      elim (cases_lt f.left (12 + length payload)) [
        | inl l ↦
            let cut : bytes ≡ f.before ++ take f.left (frame_bytes (suc T.weight) payload) =
            f.are ∙ ap (λ (b : List ℕ). f.before ++ b) (take-append-le f.left text (spelled rest) (omega (arith, l)))
            ∙ ap (λ (v : ℕ). f.before ++ take f.left (frame_bytes v payload)) stands.weight in
            inl (ap₂ (λ (b : List ℕ) (n : ℕ). frame_of b n (suc T.weight)) cut f.at ∙ frame_cut f.before payload (suc T.weight) f.left small fits.payload l)
        | inr l ↦
            let after = take (f.left - length text) (spelled rest) in
            let whole : bytes ≡ f.before ++ (text ++ after) =
            f.are ∙ ap (λ (b : List ℕ). f.before ++ b) (take_past text (spelled rest) f.left (omega (arith, l))) in
            inr (record {
              held = h;
              run = run;
              to = length f.before + 12 + length payload;
              step = whole_step computes T sections place h s f.before after stands fits small f.at whole;
              through = m;
              have = all_tail (HasBytes version p.field) s rest have;
              follow = record {
                before = f.before ++ text;
                left = f.left - length text;
                at = omega (arith, length-append f.before text);
                are = whole ∙ sym (append_assoc f.before text after);
              };
            })
      ]

  next_follows : (computes : Bool) (m : ℕ) (T : PlainTable) (sections : List Section) (place : ℕ) → Holds p T → suc T.weight < 2 ^ 32 →
      All (HasBytes version p.field) (sections_in version p m T) →
      Follow place (sections_in version p m T) → IsTail T place ⊎ Next computes T sections place
  next_follows computes zero T sections place holds small have f = inl (none_follow T place f)
  next_follows computes (suc m) T sections place holds small have f = go (close_weight T p) refl have f
    where
      go : (r : Result Held Unfit) → close_weight T p ≡ r →
          All (HasBytes version p.field) (sections_on (section_in version T p) (λ h. sections_in version p m (push_of T (rows_of h.pivots))) r) →
          Follow place (sections_on (section_in version T p) (λ h. sections_in version p m (push_of T (rows_of h.pivots))) r) → IsTail T place ⊎
          Next computes T sections place
      go (Ok h) run have f = one_follows computes T sections place m h holds small run have f
      go (Err u) run have f = inl (none_follow T place f)

  module _ (entries : ℕ) (most : entries ≤ 2000000) where
    few_symbols : (T : PlainTable) → nat_lt entries (count_through T (suc T.weight)) ≡ false → length (symbols_in T) ≤ 2000000
    few_symbols T within =
        let l : count_through T T.weight + count_of T (suc T.weight) ≤ entries = ltb-false _ _ within in
        omega (arith, l, symbols_counted T)

    pub gives : (n m : ℕ) (T : PlainTable) (sections : List Section) (place : ℕ) → Holds p T → T.weight + n ≤ 1000 →
        All (HasBytes version p.field) (sections_in version p m T) →
        Follow place (sections_in version p m T) →
        GiveSame (walk_of true entries p stream n (here T sections place true)) (walk_of true entries p nothing n (here T sections 0 false))
    gives zero m T sections place holds range have f = record { stop = refl; table = refl; sections = refl }
    gives (suc n) m T sections place holds range have f =
        let V = walk_of true entries p stream n in
        let W = walk_of true entries p nothing n in
        let stage = here T sections place true in
        let plain = here T sections 0 false in
        let count = count_through T (suc T.weight) in
        tested_same V W T sections place 0 true false (failed (too_many (suc T.weight) count)) (weighed true p stream stage)
        (computed_as plain p (close_weight T p)) (nat_lt entries count) (λ within.
        elim (next_follows true m T sections place holds (omega (arith, range)) have f) [
          | inl tail ↦
              let P : Result Stage Stop → Type 0 = λ r. GiveSame (walk_on V stage r) (walk_on W plain (computed_as plain p (close_weight T p))) in
              subst P (sym (ap (framed true p stream stage) tail))
              (computed_same V W p T sections place 0 true false (λ S more. same_after entries p stream nothing n S more place 0) (close_weight T p))
          | inr x ↦
              let S = push_of T (rows_of x.held.pivots) in
              let P : Result Stage Stop → Type 0 = λ r. GiveSame (walk_on V stage r) (walk_on W plain (computed_as plain p (close_weight T p))) in
              let Q : Result Held Unfit → Type 0 =
              λ r. GiveSame (V (here S (sections ++ section_of T p x.held ∷ []) x.to true)) (walk_on W plain (computed_as plain p r)) in
              let low : T.weight < 1000 = omega (arith, range) in
              let on = gives n x.through S (sections ++ section_of T p x.held ∷ []) x.to (next_holds p T holds x.held x.run low (few_symbols T within))
              (omega (arith, range)) x.have x.follow in
              subst P (sym x.step) (subst Q (sym x.run) on)
        ])

    pub passes : (n m : ℕ) (T : PlainTable) (sections : List Section) (place : ℕ) → Holds p T → T.weight + n ≤ 1000 →
        All (HasBytes version p.field) (sections_in version p m T) →
        Follow place (sections_in version p m T) → PassesWith (walk_of false entries p stream n (here T sections place true)).stop
    passes zero m T sections place holds range have f = tt
    passes (suc n) m T sections place holds range have f =
        let V = walk_of false entries p stream n in
        let stage = here T sections place true in
        let count = count_through T (suc T.weight) in
        let P : Result Stage Stop → Type 0 = λ r. PassesWith (walk_on V stage r).stop in
        tested_passes V stage (suc T.weight) count (weighed false p stream stage) (nat_lt entries count) (λ within.
        elim (next_follows false m T sections place holds (omega (arith, range)) have f) [
          | inl tail ↦ subst P (sym (ap (framed false p stream stage) tail)) tt
          | inr x ↦
              let low : T.weight < 1000 = omega (arith, range) in
              subst P (sym x.step)
              (passes n x.through (push_of T (rows_of x.held.pivots)) (sections ++ section_of T p x.held ∷ []) x.to
              (next_holds p T holds x.held x.run low (few_symbols T within)) (omega (arith, range)) x.have x.follow)
        ])
