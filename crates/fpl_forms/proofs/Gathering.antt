-- Facts that are gathered one by one, while the ledger grows.
use Rattle.std.proofs.Common.{◌≡◌, ◌<◌, ◌+◌, ◌++◌, ℕ, zero, suc, List, [], ◌∷◌, length, map, flat_map, take, get_or, refl, ap, ap₂, sym, subst, ◌∙◌, arith, All}
use Rattle.std.specs.Simd.Lanes.{zip2}
use Rattle.std.proofs.lemmas.List.{map-append, append-nil, get_or-map, length-map}
use Rattle.std.proofs.lemmas.List.Concat.{flat_map-append}
use Rattle.std.proofs.lemmas.List.Elements.{All-append}
use Rattle.fpl_model.specs.declared.expr.Expr.{Expr}
use Rattle.fpl_forms.specs.declared.term.Term.{Term}
use Rattle.fpl_forms.specs.declared.term.Fact.{Fact}
use Rattle.fpl_forms.specs.Ledgers.{PlainLedger, Grows, IsWithin, AreWithin, left_of, right_of}
use Rattle.fpl_forms.specs.Forms.{IsWork, AreTermsOf, sum_expr}
use Rattle.fpl_forms.specs.Combining.{terms_of, joined, lefts, AreFacts}
use Rattle.fpl_forms.proofs.Ledgers.{all_one, grows_within, grows_left, grows_right}
use Rattle.fpl_forms.proofs.Moves.{grows_terms}

pub first_of : {A : Type 0} (P : A → Type 0) (x : A) (xs : List A) → All P (x ∷ xs) → P x
first_of P x xs h = h zero x (omega arith)

pub others_of : {A : Type 0} (P : A → Type 0) (x : A) (xs : List A) → All P (x ∷ xs) → All P xs
others_of P x xs h i d lt = h (suc i) d (omega (arith, lt))

pub all_as : {A : Type 0} (P Q : A → Type 0) → ((x : A) → P x → Q x) → (xs : List A) → All P xs → All Q xs
all_as P Q goes xs h i d lt = goes (get_or xs i d) (h i d lt)

pub all_mapped : {A B : Type 0} (P : B → Type 0) (f : A → B) → (xs : List A) → All (λ x. P (f x)) xs → All P (map f xs)
all_mapped P f [] h i d lt = absurd (omega (arith, lt))
all_mapped P f (x ∷ xs) h zero d lt = h zero x (omega arith)
all_mapped P f (x ∷ xs) h (suc i) d lt = all_mapped P f xs (λ j e l. h (suc j) e (omega (arith, l))) i d (omega (arith, lt))

pub zip2_more : {A B C : Type 0} (f : A → B → C) (xs : List A) (ys : List B) (i : ℕ) (d : A) (e : B) → i < length xs → i < length ys →
    zip2 f (take (i + 1) xs) (take (i + 1) ys) ≡ zip2 f (take i xs) (take i ys) ++ f (get_or xs i d) (get_or ys i e) ∷ []
zip2_more f [] ys i d e lt l = absurd (omega (arith, lt))
zip2_more f (x ∷ xs) [] i d e lt l = absurd (omega (arith, l))
zip2_more f (x ∷ xs) (y ∷ ys) zero d e lt l = refl
zip2_more f (x ∷ xs) (y ∷ ys) (suc i) d e lt l =
    let next : suc i + 1 ≡ suc (i + 1) = omega arith in
    ap (λ m. zip2 f (take m (x ∷ xs)) (take m (y ∷ ys))) next ∙ ap (λ r. f x y ∷ r) (zip2_more f xs ys i d e (omega (arith, lt)) (omega (arith, l)))

-- two lists with equal images, member by member
pub members_same : {A B C : Type 0} (f : A → C) (h : B → C) (xs : List A) (ys : List B) (i : ℕ) (a : A) (b : B) → i < length xs → i < length ys →
    map f xs ≡ map h ys → f (get_or xs i a) ≡ h (get_or ys i b)
members_same f h xs ys i a b lx ly e = sym (get_or-map f xs i a (f a) lx) ∙ ap (λ zs. get_or zs i (f a)) e ∙ get_or-map h ys i b (f a) ly

pub lengths_same : {A B C : Type 0} (f : A → C) (h : B → C) (xs : List A) (ys : List B) → map f xs ≡ map h ys → length xs ≡ length ys
lengths_same f h xs ys e = sym (length-map xs f) ∙ ap length e ∙ length-map ys h

module _ {L M : PlainLedger} (g : Grows L M) where
  pub grows_work : (atoms : List Expr) (f : Fact) → IsWork L atoms f → IsWork M atoms f
  grows_work atoms f w = record {
    within = grows_within g f.line w.within;
    right = grows_right g f.line w.within ∙ w.right;
    terms = grows_terms g (length atoms) f.terms.items w.terms;
  }

  pub grows_works : (atoms : List Expr) (fs : List Fact) → All (IsWork L atoms) fs → All (IsWork M atoms) fs
  grows_works atoms fs h = all_as (IsWork L atoms) (IsWork M atoms) (grows_work atoms) fs h

  pub grows_lefts_of : (atoms : List Expr) (fs : List Fact) → All (IsWork L atoms) fs → lefts M fs ≡ lefts L fs
  grows_lefts_of atoms [] h = refl
  grows_lefts_of atoms (f ∷ fs) h =
      ap₂ (λ x xs. x ∷ xs) (grows_left g f.line (first_of (IsWork L atoms) f fs h).within)
      (grows_lefts_of atoms fs (others_of (IsWork L atoms) f fs h))

  pub works_more : (atoms : List Expr) (fs : List Fact) (f : Fact) → All (IsWork L atoms) fs → IsWork M atoms f → All (IsWork M atoms) (fs ++ f ∷ [])
  works_more atoms fs f h w = All-append (IsWork M atoms) fs (f ∷ []) (grows_works atoms fs h) (all_one (IsWork M atoms) f w)

  pub lefts_more : (atoms : List Expr) (fs : List Fact) (f : Fact) → All (IsWork L atoms) fs → lefts M (fs ++ f ∷ []) ≡ lefts L fs ++ left_of M f.line ∷ []
  lefts_more atoms fs f h =
      map-append (λ (f : Fact). left_of M f.line) fs (f ∷ []) ∙ ap (λ xs. xs ++ left_of M f.line ∷ []) (grows_lefts_of atoms fs h)

  pub facts_more : (values es : List Expr) (tss : List (List Term)) (fs : List Fact) (f : Fact) (e : Expr) (ts : List Term) →
      AreFacts L values es tss fs → IsWork M values f → left_of M f.line ≡ e → terms_of f ≡ ts →
      AreFacts M values (es ++ e ∷ []) (tss ++ ts ∷ []) (fs ++ f ∷ [])
  facts_more values es tss fs f e ts h w left terms = record {
    works = works_more values fs f h.works w;
    lefts_are = lefts_more values fs f h.works ∙ ap₂ (λ xs x. xs ++ x ∷ []) h.lefts_are left;
    terms_are = map-append terms_of fs (f ∷ []) ∙ ap₂ (λ xs x. xs ++ x ∷ []) h.terms_are terms;
  }

  pub facts_next : (values es es' : List Expr) (tss tss' : List (List Term)) (fs fs' : List Fact) (f : Fact) (e : Expr) (ts : List Term) →
      es' ≡ es ++ e ∷ [] → tss' ≡ tss ++ ts ∷ [] → fs' ≡ fs ++ f ∷ [] → AreFacts L values es tss fs → IsWork M values f → left_of M f.line ≡ e →
      terms_of f ≡ ts → AreFacts M values es' tss' fs'
  facts_next values es es' tss tss' fs fs' f e ts p r t h w left terms =
      subst (λ fs. AreFacts M values es' tss' fs) (sym t)
      (subst (λ tss. AreFacts M values es' tss (fs ++ f ∷ [])) (sym r)
      (subst (λ es. AreFacts M values es (tss ++ ts ∷ []) (fs ++ f ∷ [])) (sym p) (facts_more values es tss fs f e ts h w left terms)))

-- the lines of facts
module _ (L : PlainLedger) (atoms : List Expr) where
  pub lines_within : (fs : List Fact) → All (IsWork L atoms) fs → AreWithin L (map (λ f. f.line) fs)
  lines_within fs h = all_mapped (IsWithin L) (λ (f : Fact). f.line) fs (all_as (IsWork L atoms) (λ f. IsWithin L f.line) (λ f w. w.within) fs h)

  pub lines_left : (fs : List Fact) → map (left_of L) (map (λ f. f.line) fs) ≡ lefts L fs
  lines_left [] = refl
  lines_left (f ∷ fs) = ap (λ es. left_of L f.line ∷ es) (lines_left fs)

  pub lines_right : (fs : List Fact) → All (IsWork L atoms) fs → map (right_of L) (map (λ f. f.line) fs) ≡ map (λ f. sum_expr atoms (terms_of f)) fs
  lines_right [] h = refl
  lines_right (f ∷ fs) h =
      ap₂ (λ e es. e ∷ es) (first_of (IsWork L atoms) f fs h).right (lines_right fs (others_of (IsWork L atoms) f fs h))

  pub all_terms : (fs : List Fact) → All (IsWork L atoms) fs → All (λ f. AreTermsOf L.prime (length atoms) (terms_of f)) fs
  all_terms fs h = all_as (IsWork L atoms) (λ f. AreTermsOf L.prime (length atoms) (terms_of f)) (λ f w. w.terms) fs h

pub joined_last : (fs : List Fact) (f : Fact) → joined (fs ++ f ∷ []) ≡ joined fs ++ terms_of f
joined_last fs f =
    ap (flat_map (λ ts. ts)) (map-append terms_of fs (f ∷ [])) ∙ flat_map-append (λ ts. ts) (map terms_of fs) (terms_of f ∷ []) ∙
    ap (λ ts. joined fs ++ ts) (append-nil (terms_of f))
