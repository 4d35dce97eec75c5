-- A line more at the end of a proof.
use Rattle.std.proofs.Common.{◌≡◌, ◌<◌, ◌≤◌, ◌+◌, ◌++◌, ℕ, List, [], ◌∷◌, length, take, refl, ap, sym, subst, ◌∙◌, arith, All}
use native.Mathlib.Decide.{dec_lt}
use Rattle.std.proofs.lemmas.List.{get_or_append_left, get_or-take, length-append, length-take-le, map-id}
use Rattle.std.proofs.Math.Seq.{get_or-append_seam}
use Rattle.math_fields.specs.Field.{Field}
use Rattle.math_algebra.specs.Tree.{Presentation}
use Rattle.math_algebra.specs.Derives.{Expression}
use Rattle.math_proofs.specs.Rules.{Rule, same, empty, single, multiply, one, nought, spread, left_sum, right_sum, left_times, right_times, cube, turn, factor, exchange, flat, drop as drop_member, collect, relation, chain, members, parts, swap, jacobi, Line, IsInstance, IsProof, no_line, line_at, Cites}
use Rattle.math_proofs.specs.Renumbering.{renumbered, RenumberedStays}

same_rule : (r : Rule) → renumbered (λ n. n) r ≡ r
same_rule same = refl
same_rule empty = refl
same_rule single = refl
same_rule multiply = refl
same_rule one = refl
same_rule nought = refl
same_rule spread = refl
same_rule left_sum = refl
same_rule right_sum = refl
same_rule left_times = refl
same_rule right_times = refl
same_rule cube = refl
same_rule (turn n) = refl
same_rule (factor n) = refl
same_rule (exchange k) = refl
same_rule (flat k) = refl
same_rule (drop_member k) = refl
same_rule (collect k) = refl
same_rule (relation k) = refl
same_rule (chain n m) = refl
same_rule (members n m) = refl
same_rule (parts ns) = ap parts (map-id ns)
same_rule (swap s t) = refl
same_rule (jacobi s t) = refl

module _ (K : Field) (P : Presentation K.Carrier) where
  line_more : (lines more : List (Line K)) (i : ℕ) → i < length lines → line_at K (lines ++ more) i ≡ line_at K lines i
  line_more lines more i lt = get_or_append_left lines more (no_line K) i lt

  pub cites_more : (lines more : List (Line K)) (n c : ℕ) (e f : Expression K) → n ≤ length lines → Cites K lines n c e f → Cites K (lines ++ more) n c e f
  cites_more lines more n c e f le h =
      let before = h.before in
      let lt : h.which < length lines = omega (arith, before, le) in
      record {
        which = h.which;
        counts = h.counts;
        before = before;
        its_left = ap (λ l. l.left_side) (line_more lines more h.which lt) ∙ h.its_left;
        its_right = ap (λ l. l.right_side) (line_more lines more h.which lt) ∙ h.its_right;
      }

  instance_more : RenumberedStays K → (lines more : List (Line K)) (n : ℕ) (l : Line K) → n ≤ length lines →
      IsInstance K P (Cites K lines n) l.why l.left_side l.right_side →
      IsInstance K P (Cites K (lines ++ more) n) l.why l.left_side l.right_side
  instance_more stays lines more n l le i =
      subst (λ r. IsInstance K P (Cites K (lines ++ more) n) r l.left_side l.right_side) (same_rule l.why)
      (stays P lines (lines ++ more) n n (λ n. n) (λ c e f h. cites_more lines more n c e f le h) l.why l.left_side l.right_side i)

  pub proof_more : RenumberedStays K → (lines : List (Line K)) (l : Line K) → IsProof K P lines →
      IsInstance K P (Cites K lines (length lines)) l.why l.left_side l.right_side → IsProof K P (lines ++ l ∷ [])
  proof_more stays lines l h i n lt = go (dec_lt n (length lines))
    where
      one_longer : length (lines ++ l ∷ []) ≡ length lines + 1
      one_longer = length-append lines (l ∷ [])

      Goal : ℕ → Line K → Type 0
      Goal n x = IsInstance K P (Cites K (lines ++ l ∷ []) n) x.why x.left_side x.right_side

      go : Dec (n < length lines) → Goal n (line_at K (lines ++ l ∷ []) n)
      go (yes before) = subst (Goal n) (sym (line_more lines (l ∷ []) n before))
          (instance_more stays lines (l ∷ []) n (line_at K lines n) (omega (arith, before)) (h n before))
      go (no past) =
          let last : length lines ≡ n = omega (arith, one_longer, lt, past) in
          subst (λ m. Goal m (line_at K (lines ++ l ∷ []) m)) last
          (subst (Goal (length lines)) (sym (get_or-append_seam lines l [] (no_line K)))
          (instance_more stays lines (l ∷ []) (length lines) l (omega arith) i))

  pub proof_first : RenumberedStays K → (lines : List (Line K)) (n : ℕ) → n ≤ length lines → IsProof K P lines → IsProof K P (take n lines)
  proof_first stays lines n le h i lt =
      let count = length-take-le n lines le in
      let small : i < n = omega (arith, lt, count) in
      let l = line_at K lines i in
      subst (λ (l : Line K). IsInstance K P (Cites K (take n lines) i) l.why l.left_side l.right_side) (sym (get_or-take n lines i (no_line K) small))
      (subst (λ r. IsInstance K P (Cites K (take n lines) i) r l.left_side l.right_side) (same_rule l.why)
      (stays P lines (take n lines) i i (λ m. m) (λ c e f x. cites_first c e f x small) l.why l.left_side l.right_side (h i (omega (arith, small, le)))))
    where
      cites_first : (c : ℕ) (e f : Expression K) → Cites K lines i c e f → i < n → Cites K (take n lines) i c e f
      cites_first c e f x small =
          let before = x.before in
          let same = get_or-take n lines x.which (no_line K) (omega (arith, before, small)) in
          record {
            which = x.which;
            counts = x.counts;
            before = before;
            its_left = ap (λ l. l.left_side) same ∙ x.its_left;
            its_right = ap (λ l. l.right_side) same ∙ x.its_right;
          }

pub all_first : {A : Type 0} (P : A → Type 0) (xs : List A) (n : ℕ) → n ≤ length xs → All P xs → All P (take n xs)
all_first P xs n le h i d lt =
    let count = length-take-le n xs le in
    subst P (sym (get_or-take n xs i d (omega (arith, lt, count)))) (h i d (omega (arith, lt, count, le)))
