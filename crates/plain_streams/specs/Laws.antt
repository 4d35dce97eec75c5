-- Laws of own streams.
--
--   GiveSame v w          two runs stop for the same reason, or neither stops, with the same table and the same sections
--   HaveHeads             a stream of p has a head
--   HeadsAreOf            and its head holds p
--   walk_from .. h n      the run through n weights from the head of a checkpoint
--   OwnStreamsGive        a run that computes gives over a stream of p what it gives for p alone, for every number of entries and every limit of a command
--   PassesWith stop       a run came to its limit; or nothing more was stored; or there were too many symbols
--   OwnStreamsPass        a run that only checks never refuses a stream of p
--   RunsKeepSections      what a run keeps for a presentation are its sections in the second version, through the weight that it came to
--   RunsWriteStreams      these have bytes: so the head of the second version and they are a stream of the presentation, whole or cut anywhere after the head
--   SmallStreams          so are the head and the sections of the first version, where these are small
use Rattle.std.specs.Prelude.{ℕ, ◌≡◌, ◌≤◌, ◌<◌, ◌^◌, List, length, take, All, Bool, true, false, Option, Some, None}
use Rattle.fpl_model.specs.declared.presentation.Presentation.{Presentation}
use Rattle.fpl_model.specs.Sound.{IsSound}
use Rattle.fpl_canonical.specs.Canonical.{canonical_of}
use Rattle.fpl_table.specs.Standard.{start_of}
use Rattle.fpl_bytes.specs.declared.version.Version.TheVariants.{One, Two}
use Rattle.fpl_checkpoint.specs.declared.head.Head.{Head}
use Rattle.fpl_checkpoint.specs.Heads.{head_bytes_of}
use Rattle.fpl_checkpoint.specs.Scans.{HasHead}
use Rattle.fpl_walk.specs.Walk.{Stop, ended, failed, too_many, bad_bytes, bad_section, overflow, Walked, begun, walk_of}
use Rattle.plain_streams.specs.Streams.{plain_walk, sections_in, stream_of, IsSmallSection, IsStreamOf}

pub record GiveSame (v w : Walked) : Type 0 where
  pub stop : v.stop ≡ w.stop
  pub table : v.stage.table ≡ w.stage.table
  pub sections : v.stage.sections ≡ w.stage.sections

abbrev pub HaveHeads : Type 0
HaveHeads = (p : Presentation) (bytes : List ℕ) → IsStreamOf p bytes → (h : Head) × HasHead bytes h

abbrev pub HeadsAreOf : Type 0
HeadsAreOf = (p : Presentation) (bytes : List ℕ) (h : Head) → IsStreamOf p bytes → HasHead bytes h → h.presentation ≡ p

abbrev pub walk_from : (computes : Bool) → (entries : ℕ) → List ℕ → Head → ℕ → Walked
walk_from computes entries bytes h n =
    walk_of computes entries h.presentation (record { version = h.version; bytes = bytes }) n (begun h.presentation h.end true)

abbrev pub OwnStreamsGive : Type 0
OwnStreamsGive =
    (p : Presentation) (bytes : List ℕ) (h : Head) (entries limit : ℕ) → IsStreamOf p bytes → HasHead bytes h → entries ≤ 2000000 → limit ≤ 1000 →
    GiveSame (walk_from true entries bytes h limit) (plain_walk entries p limit)

abbrev pub PassesWith : Option Stop → Type 0
PassesWith None = Unit {0}
PassesWith (Some ended) = Unit {0}
PassesWith (Some (failed (too_many w c))) = Unit {0}
PassesWith (Some (failed (bad_bytes b))) = ⊥
PassesWith (Some (failed (bad_section w spot why))) = ⊥
PassesWith (Some (failed (overflow w u))) = ⊥

abbrev pub OwnStreamsPass : Type 0
OwnStreamsPass =
    (p : Presentation) (bytes : List ℕ) (h : Head) (entries limit : ℕ) → IsStreamOf p bytes → HasHead bytes h → entries ≤ 2000000 → limit ≤ 1000 →
    PassesWith (walk_from false entries bytes h limit).stop

abbrev pub RunsKeepSections : Type 0
RunsKeepSections =
    (p : Presentation) (entries limit : ℕ) →
    (plain_walk entries p limit).stage.sections ≡ sections_in Two p (plain_walk entries p limit).stage.table.weight (start_of p)

abbrev pub RunsWriteStreams : Type 0
RunsWriteStreams =
    (p : Presentation) (entries limit end : ℕ) → IsSound p → length (canonical_of p) < 2 ^ 32 → entries ≤ 2000000 → limit ≤ 1000 →
    length (head_bytes_of 2 p) ≤ end →
    IsStreamOf p (take end (stream_of Two p (plain_walk entries p limit).stage.sections))

abbrev pub SmallStreams : Type 0
SmallStreams =
    (p : Presentation) (entries limit end : ℕ) → IsSound p → length (canonical_of p) < 2 ^ 32 → entries ≤ 2000000 → limit ≤ 1000 →
    let sections = sections_in One p (plain_walk entries p limit).stage.table.weight (start_of p) in
    All (IsSmallSection p.field) sections → length (head_bytes_of 1 p) ≤ end → IsStreamOf p (take end (stream_of One p sections))
