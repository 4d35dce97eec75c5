-- The bytes of a checkpoint, piece by piece.
use Rattle.std.proofs.Common.{◌≡◌, List, ℕ, [], ◌∷◌, ◌++◌, length, take, sym, ap, ◌∙◌, subst, append_assoc}
use Rattle.std.specs.List.{flat_map}
use Rattle.std.specs.declared.option.Option.{Option}
use Rattle.std.proofs.lemmas.List.{append-nil, flat_map_more}
use Rattle.std.proofs.lemmas.Grind.{flat_map-append}
use Rattle.std.proofs.Math.Seq.{take-append_seam}
use Rattle.fpl_log.specs.declared.section.Section.{Section}
use Rattle.fpl_model.specs.declared.presentation.Presentation.{Presentation}
use Rattle.fpl_bytes.specs.declared.version.Version.TheVariants.{Two}
use Rattle.fpl_section_bytes.specs.Spelling.{section_bytes_of}
use Rattle.fpl_checkpoint.specs.Heads.{VERSION, head_bytes_of}
use Rattle.fpl_outside.specs.Outside.{Takes}
use Rattle.fpl_outside.specs.Whole.{WrotePrefix}
use Rattle.fpl_outside.proofs.Pieces.{takes_more, wrote_front, wrote_after}
use Rattle.fpl_run.specs.Stream.{stream_text}

module _ (p : Presentation) where
  abbrev bytes_of : Section → List ℕ
  bytes_of = section_bytes_of Two p.field

  pub stream_none : stream_text p [] ≡ head_bytes_of VERSION p
  unfolding stream_text
  stream_none = append-nil (head_bytes_of VERSION p)

  pub stream_more : (ss : List Section) (s : Section) → stream_text p ss ++ section_bytes_of Two p.field s ≡ stream_text p (ss ++ s ∷ [])
  unfolding stream_text
  stream_more ss s = flat_map_more bytes_of (head_bytes_of VERSION p) ss s

  stream_on : (ss rest : List Section) → stream_text p (ss ++ rest) ≡ stream_text p ss ++ flat_map bytes_of rest
  unfolding stream_text
  stream_on ss rest = ap (λ x. head_bytes_of VERSION p ++ x) (flat_map-append bytes_of ss rest) ∙
      sym (append_assoc (head_bytes_of VERSION p) (flat_map bytes_of ss) (flat_map bytes_of rest))

  -- it begins with the mark
  pub stream_put : (ss : List Section) → stream_text p ss ≡ [] → ⊥
  unfolding stream_text
  stream_put ss e = cc

  -- the sections of the first weights
  pub front_of : (ss rest all : List Section) → all ≡ ss ++ rest → stream_text p ss ≡ stream_text p (take (length ss) all)
  front_of ss rest all e = ap (stream_text p) (sym (ap (take (length ss)) e ∙ take-append_seam ss rest))

  module _ (a b : Option (List ℕ)) where
    pub head_taken : (ss : List Section) → ss ≡ [] → Takes a b (head_bytes_of VERSION p) → Takes a b (stream_text p ss)
    head_taken ss e t = subst (λ x. Takes a b x) (sym (ap (stream_text p) e ∙ stream_none)) t

    pub part_within : (ss rest all : List Section) → all ≡ ss ++ rest → WrotePrefix a b (stream_text p ss) → WrotePrefix a b (stream_text p all)
    part_within ss rest all e t = subst (λ x. WrotePrefix a b x) (sym (ap (stream_text p) e ∙ stream_on ss rest))
        (wrote_front a b (stream_text p ss) (flat_map bytes_of rest) t)

    pub head_part : WrotePrefix a b (head_bytes_of VERSION p) → WrotePrefix a b (stream_text p [])
    head_part t = subst (λ x. WrotePrefix a b x) (sym stream_none) t

  module _ (a b c : Option (List ℕ)) (ss : List Section) (s : Section) (t : Takes a b (stream_text p ss)) where
    pub section_taken : Takes b c (section_bytes_of Two p.field s) → Takes a c (stream_text p (ss ++ s ∷ []))
    section_taken h = subst (λ x. Takes a c x) (stream_more ss s) (takes_more a b c (stream_text p ss) (bytes_of s) t h)

    pub section_part : WrotePrefix b c (section_bytes_of Two p.field s) → WrotePrefix a c (stream_text p (ss ++ s ∷ []))
    section_part h = subst (λ x. WrotePrefix a c x) (stream_more ss s) (wrote_after a b c (stream_text p ss) (bytes_of s) t h)
