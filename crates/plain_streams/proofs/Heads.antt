-- The head of a stream, what follows it, and the laws of own streams.
use Rattle.std.proofs.Common.{◌≡◌, ℕ, ◌+◌, ◌-◌, ◌≤◌, ◌⊎◌, inl, inr, true, false, List, [], ◌++◌, length, take, refl, sym, ap, subst, ◌∙◌, arith}
use Rattle.std.specs.List.{flat_map}
use Rattle.fpl_model.specs.declared.presentation.Presentation.{Presentation}
use Rattle.fpl_canonical.specs.Canonical.{canonical_of}
use Rattle.plain_texts.proofs.CanonicalTexts.{has_presentation}
use Rattle.fpl_table.specs.Standard.{start_of}
use Rattle.plain_tables.proofs.Holding.{start_holds}
use Rattle.fpl_bytes.specs.declared.version.Version.{Version}
use Rattle.fpl_bytes.specs.declared.version.Version.TheVariants.{One, Two}
use Rattle.fpl_section_bytes.specs.Spelling.{section_bytes_of}
use Rattle.fpl_checkpoint.specs.declared.head.Head.{Head}
use Rattle.fpl_checkpoint.specs.Heads.{head_bytes_of}
use Rattle.fpl_checkpoint.specs.Scans.{HasHead}
use Rattle.fpl_checkpoint.proofs.OneHead.{head_again, one_head}
use Rattle.plain_streams.specs.Streams.{plain_walk, version_number, sections_in, IsStreamOf}
use Rattle.plain_streams.specs.Laws.{GiveSame, HaveHeads, HeadsAreOf, walk_from, OwnStreamsGive, PassesWith, OwnStreamsPass}
use Rattle.plain_streams.proofs.CutFrames.{take_past}
use Rattle.plain_streams.proofs.Walking.{Follow, gives, passes}

known : (version : Version) → (version_number version ≡ 1) ⊎ (version_number version ≡ 2)
known One = inl refl
known Two = inr refl

module _ (p : Presentation) (bytes : List ℕ) (s : IsStreamOf p bytes) where
  abbrev the_head : List ℕ
  the_head = head_bytes_of (version_number s.version) p

  abbrev after : List ℕ
  after = take (s.end - length the_head) (flat_map (section_bytes_of s.version p.field) (sections_in s.version p s.through (start_of p)))

  abbrev head_of : Head
  head_of = record { presentation = p; version = version_number s.version; end = 9 + length (canonical_of p) }

  split : bytes ≡ the_head ++ after
  split = s.front ∙ take_past the_head (flat_map (section_bytes_of s.version p.field) (sections_in s.version p s.through (start_of p))) s.end s.head

  pub has_head : HasHead bytes head_of
  has_head = subst (λ (b : List ℕ). HasHead b head_of) (sym split)
      (head_again (version_number s.version) p after (known s.version) (has_presentation p s.sound) s.text)

  pub head_is : (h : Head) → HasHead bytes h → head_of ≡ h
  head_is h is = one_head bytes head_of h has_head is

  follow : Follow s.version p bytes (9 + length (canonical_of p)) (sections_in s.version p s.through (start_of p))
  follow = record { before = the_head; left = s.end - length the_head; at = omega arith; are = split }

  pub stream_gives : (h : Head) (entries limit : ℕ) → HasHead bytes h → entries ≤ 2000000 → limit ≤ 1000 →
      GiveSame (walk_from true entries bytes h limit) (plain_walk entries p limit)
  stream_gives h entries limit is most range =
      subst (λ (g : Head). GiveSame (walk_from true entries bytes g limit) (plain_walk entries p limit)) (head_is h is)
      (gives s.version p bytes entries most limit s.through (start_of p) [] (9 + length (canonical_of p)) (start_holds p s.sound)
      (omega (arith, range)) s.sections follow)

  pub stream_passes : (h : Head) (entries limit : ℕ) → HasHead bytes h → entries ≤ 2000000 → limit ≤ 1000 →
      PassesWith (walk_from false entries bytes h limit).stop
  stream_passes h entries limit is most range =
      subst (λ (g : Head). PassesWith (walk_from false entries bytes g limit).stop) (head_is h is)
      (passes s.version p bytes entries most limit s.through (start_of p) [] (9 + length (canonical_of p)) (start_holds p s.sound)
      (omega (arith, range)) s.sections follow)

pub have_heads : HaveHeads
have_heads p bytes s = (head_of p bytes s, has_head p bytes s)

pub heads_are_of : HeadsAreOf
heads_are_of p bytes h s is = sym (ap (λ (g : Head). g.presentation) (head_is p bytes s h is))

pub own_streams_give : OwnStreamsGive
own_streams_give p bytes h entries limit s is most range = stream_gives p bytes s h entries limit is most range

pub own_streams_pass : OwnStreamsPass
own_streams_pass p bytes h entries limit s is most range = stream_passes p bytes s h entries limit is most range
