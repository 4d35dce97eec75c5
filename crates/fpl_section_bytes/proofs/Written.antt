-- Items that are written one after another, as a loop does.
use Rattle.std.proofs.Common.{◌≡◌, ℕ, ◌+◌, ◌<◌, List, [], ◌∷◌, ◌++◌, length, take, Some, All, sym, ap, subst, ◌∙◌, append_assoc}
use Rattle.std.specs.Prelude.{slice_get}
use Rattle.std.specs.List.{flat_map}
use Rattle.std.proofs.lemmas.List.{flat_map_more, take_more}
use Rattle.std.proofs.lemmas.Option.{slice_get_within, get_or_from_slice_get}
use Rattle.fpl_rows.proofs.Fits.{all_more}

-- what a loop has written of the items xs after what stood before and a head, and that what it has read of them holds
pub record Wrote {A : Type 0} (spell : A → List ℕ) (P : A → Type 0) (old head new : List ℕ) (xs : List A) : Type 0 where
  pub bytes : new ≡ old ++ (head ++ flat_map spell xs)
  pub stored : All P xs

pub wrote_more : {A : Type 0} (spell : A → List ℕ) (P : A → Type 0) (xs : List A) (i : ℕ) (x : A) (old head before new : List ℕ) → Some x ≡ slice_get xs i →
    Wrote spell P old head before (take i xs) → new ≡ before ++ spell x → P x → Wrote spell P old head new (take (i + 1) xs)
wrote_more spell P xs i x old head before new found h next is =
    let within : i < length xs = slice_get_within xs i x (sym found) in
    let one : take (i + 1) xs ≡ take i xs ++ x ∷ [] = take_more xs i x within ∙ ap (λ y. take i xs ++ y ∷ []) (get_or_from_slice_get xs i x x (sym found)) in
    record {
      bytes = next ∙ ap (λ (l : List ℕ). l ++ spell x) h.bytes ∙ append_assoc old (head ++ flat_map spell (take i xs)) (spell x)
          ∙ ap (λ (l : List ℕ). old ++ l) (flat_map_more spell head (take i xs) x ∙ ap (λ ys. head ++ flat_map spell ys) (sym one));
      stored = subst (All P) (sym one) (all_more P (take i xs) x h.stored is);
    }

-- a tag and two fields
pub tag_and_two : (old first second new : List ℕ) (tag : ℕ) (ys zs : List ℕ) → first ≡ old ++ tag ∷ [] → second ≡ first ++ ys → new ≡ second ++ zs →
    new ≡ old ++ (tag ∷ (ys ++ zs))
tag_and_two old first second new tag ys zs p q r =
    r ∙ ap (λ (l : List ℕ). l ++ zs) (q ∙ ap (λ (l : List ℕ). l ++ ys) p) ∙ append_assoc (old ++ tag ∷ []) ys zs ∙ append_assoc old (tag ∷ []) (ys ++ zs)
