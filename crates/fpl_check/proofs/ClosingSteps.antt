-- Steps that close others, one after the other.
use Rattle.std.specs.Prelude.{◌≡◌, ℕ, zero, suc, ◌+◌, ◌-◌, ◌<◌, ◌≤◌, List, [], ◌∷◌, length, drop, slice_get, slice_index_or, Some, Bool, true, false, ◌&&◌, ◌||◌}
use mathlib.Core.Path.{refl, sym, ap, ◌∙◌, subst}
use native.Mathlib.Omega.{arith}
use Rattle.fpl_log.specs.declared.step.Step.{Step}
use Rattle.fpl_check.specs.Leads.{marked}
use Rattle.fpl_check.specs.Closing.{closes, is_closed, needs_no_more, are_closed, AreMarked}
use Rattle.fpl_check.proofs.Composed.{rest_at}

-- one step more is marked
pub marked_closed : (n j k : ℕ) (steps : List Step) (s : Step) (marks new : List Bool) → j ≡ suc k → Some s ≡ slice_get steps k →
    AreMarked n (drop j steps) marks → length new ≡ length marks →
    ((m : ℕ) → 1 ≤ m → m ≤ length marks → marked new m ≡ (closes s m || marked marks m)) → AreMarked n (drop k steps) new
marked_closed n j k steps s marks new next got is long h =
    subst (λ (ss : List Step). AreMarked n ss new) (sym (rest_at steps j k s next got))
    (record {
      length_is = long ∙ is.length_is;
      marks_closed = λ m a b. h m a (let l = is.length_is in omega (arith, l, b)) ∙ ap (λ b. closes s m || b) (is.marks_closed m a b);
    })

-- a step at place k, and those after it
module _ (all steps : List Step) (k : ℕ) (s : Step) (closed : Bool) (got : Some s ≡ slice_get steps k) (is : closed ≡ is_closed all (k + 1)) where
  here : are_closed all (k + 1) (drop k steps) ≡ (needs_no_more s closed && are_closed all (k + 1 + 1) (drop (k + 1) steps))
  here = ap (are_closed all (k + 1)) (rest_at steps (k + 1) k s (omega arith) got)
      ∙ ap (λ b. needs_no_more s b && are_closed all (k + 1 + 1) (drop (k + 1) steps)) (sym is)

  pub closed_next : needs_no_more s closed ≡ true → are_closed all (k + 1) (drop k steps) ≡ are_closed all (k + 1 + 1) (drop (k + 1) steps)
  closed_next e = here ∙ ap (λ b. b && are_closed all (k + 1 + 1) (drop (k + 1) steps)) e

  pub closed_stops : needs_no_more s closed ≡ false → are_closed all (k + 1) (drop k steps) ≡ false
  closed_stops e = here ∙ ap (λ b. b && are_closed all (k + 1 + 1) (drop (k + 1) steps)) e

same_at : (bs : List Bool) (k : ℕ) (a b : Bool) → k < length bs → slice_index_or bs k a ≡ slice_index_or bs k b
same_at [] k a b l = absurd (omega (arith, l))
same_at (x ∷ bs) zero a b l = refl
same_at (x ∷ bs) (suc k) a b l = same_at bs k a b (omega (arith, l))

-- the mark of the step at place k
pub mark_is : (all : List Step) (marks : List Bool) (k : ℕ) (b : Bool) → AreMarked (length all) all marks → k < length all →
    b ≡ slice_index_or marks k b → b ≡ is_closed all (k + 1)
mark_is all marks k b is l e =
    let at : k ≡ k + 1 - 1 = omega arith in
    e ∙ same_at marks k b false (let w = is.length_is in omega (arith, w, l)) ∙ ap (λ i. slice_index_or marks i false) at
    ∙ is.marks_closed (k + 1) (omega arith) (omega (arith, l))
