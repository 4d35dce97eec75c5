-- Bytes have one head, or one refusal of it.
use Rattle.std.proofs.Common.{◌≡◌, ℕ, ◌+◌, ◌^◌, ◌<◌, true, List, ◌++◌, length, drop, Result, Ok, Err, refl, sym, ap, subst, ◌∙◌, ◌⊎◌, inl, inr}
use Rattle.std.specs.Prelude.{◌==◌, ◌||◌}
use Rattle.fpl_model.specs.declared.presentation.Presentation.{Presentation}
use Rattle.fpl_reader.specs.Reading.{HasPresentation}
use Rattle.fpl_reader.proofs.OneAnswer.{one_presentation, some_answer}
use Rattle.fpl_canonical.specs.Canonical.{canonical_of}
use Rattle.fpl_bytes.specs.declared.fault.ByteWhy.TheVariants.{HeadText}
use Rattle.fpl_bytes.specs.declared.fault.BadBytes.{BadBytes}
use Rattle.fpl_bytes.specs.Codes.{IsBytes}
use Rattle.fpl_checkpoint.specs.declared.head.Head.{Head}
use Rattle.fpl_checkpoint.specs.Heads.{with_text, head_bytes_of, head_text}
use Rattle.fpl_checkpoint.specs.Scans.{HasHead, IsBadHead, for_bytes, for_text}
use Rattle.fpl_checkpoint.proofs.Texts.{HasNone, not_canonical, not_read, is_same}
use Rattle.fpl_checkpoint.proofs.Framing.{found, found_is, text_framed, text_held}

abbrev refused : BadBytes → Result (ℕ × List ℕ) BadBytes
refused f = Err f

refused_is : (f g : BadBytes) → refused f ≡ refused g → f ≡ g
refused_is f g e = cc

not_both : (a : ℕ) (x : List ℕ) (f : BadBytes) → found a x ≡ refused f → ⊥
not_both a x f e = let k : ⊥ = cc in k

head_is : (p q : Presentation) (v w m n : ℕ) → p ≡ q → v ≡ w → m ≡ n →
    ◌≡◌ {A = Head} (record { presentation = p; version = v; end = m }) (record { presentation = q; version = w; end = n })
head_is p q v w m n e f g i = record { presentation = e i; version = f i; end = g i }

pub one_head : (bytes : List ℕ) (h g : Head) → HasHead bytes h → HasHead bytes g → h ≡ g
one_head bytes h g x y =
    let same = found_is h.version g.version x.text y.text (sym x.framed ∙ y.framed) in
    let p : h.presentation ≡ g.presentation =
    one_presentation x.text h.presentation g.presentation x.reading (subst (λ (t : List ℕ). HasPresentation t g.presentation) (sym same.1) y.reading) in
    head_is h.presentation g.presentation h.version g.version h.end g.end p same.0 (x.end ∙ ap (λ (t : List ℕ). 9 + length t) same.1 ∙ sym y.end)

pub not_bad : (bytes : List ℕ) (h : Head) (f : BadBytes) → HasHead bytes h → IsBadHead bytes f → ⊥
not_bad bytes h f x (for_bytes e) = not_both h.version x.text f (sym x.framed ∙ e)
not_bad bytes h f x (for_text version text e none is) =
    let same = found_is h.version version x.text text (sym x.framed ∙ e) in
    none h.presentation (subst (λ (t : List ℕ). HasPresentation t h.presentation) same.1 x.reading) (sym same.1 ∙ x.canonical)

pub one_refusal : (bytes : List ℕ) (f g : BadBytes) → IsBadHead bytes f → IsBadHead bytes g → f ≡ g
one_refusal bytes f g (for_bytes e) (for_bytes e') = refused_is f g (sym e ∙ e')
one_refusal bytes f g (for_bytes e) (for_text version text e' none is) = absurd (not_both version text f (sym e' ∙ e))
one_refusal bytes f g (for_text version text e none is) (for_bytes e') = absurd (not_both version text g (sym e ∙ e'))
one_refusal bytes f g (for_text version text e none is) (for_text version' text' e' none' is') = is ∙ sym is'

abbrev Answer : List ℕ → Type 0
Answer bytes = ((h : Head) × HasHead bytes h) ⊎ ((f : BadBytes) × IsBadHead bytes f)

bad_text : (bytes : List ℕ) (version : ℕ) (text : List ℕ) → head_text bytes ≡ Ok (version, text) → HasNone text → Answer bytes
bad_text bytes version text e none = inr (record { place = 9; why = HeadText }, for_text version text e none refl)

of_text : (bytes : List ℕ) (version : ℕ) (text : List ℕ) → head_text bytes ≡ Ok (version, text) → Answer bytes
of_text bytes version text e =
    elim (some_answer text) [
      | inl p ↦
          elim (is_same (canonical_of p.0) text) [
            | inl same ↦ inl (
              record { presentation = p.0; version = version; end = 9 + length text },
              record {
                text = text;
                framed = e;
                reading = p.1;
                canonical = sym same;
                end = refl;
              },
            )
            | inr other ↦ bad_text bytes version text e (not_canonical text (canonical_of p.0) p.0 p.1 refl other)
          ]
      | inr r ↦ bad_text bytes version text e (not_read text r.0 r.1 r.2)
    ]

pub some_head : (bytes : List ℕ) → Answer bytes
some_head bytes = go (head_text bytes) refl
  where
    go : (r : Result (ℕ × List ℕ) BadBytes) → head_text bytes ≡ r → Answer bytes
    go (Ok x) e = of_text bytes x.0 x.1 e
    go (Err f) e = inr (f, for_bytes e)

known_is : (n : ℕ) → (n ≡ 1) ⊎ (n ≡ 2) → (n == 1 || n == 2) ≡ true
known_is n (inl e) = ap (λ (m : ℕ). m == 1 || m == 2) e
known_is n (inr e) = ap (λ (m : ℕ). m == 1 || m == 2) e

pub head_again : (version : ℕ) (p : Presentation) (rest : List ℕ) → (version ≡ 1) ⊎ (version ≡ 2) → HasPresentation (canonical_of p) p →
    length (canonical_of p) < 2 ^ 32 →
    HasHead (head_bytes_of version p ++ rest) (record { presentation = p; version = version; end = 9 + length (canonical_of p) })
head_again version p rest known reads short =
    record {
      text = canonical_of p;
      framed = text_framed version (canonical_of p) rest (known_is version known) short;
      reading = reads;
      canonical = refl;
      end = refl;
    }

pub head_taken : (bytes : List ℕ) (h : Head) → IsBytes bytes → HasHead bytes h → ((h.version ≡ 1) ⊎ (h.version ≡ 2)) ×
    (bytes ≡ head_bytes_of h.version h.presentation ++ drop h.end bytes)
head_taken bytes h fits x =
    let held = text_held bytes h.version x.text fits x.framed in (
      held.known,
      held.parts ∙ ap (λ (t : List ℕ). with_text h.version t ++ drop (9 + length x.text) bytes) x.canonical
          ∙ ap (λ (n : ℕ). head_bytes_of h.version h.presentation ++ drop n bytes) (sym x.end),
    )
