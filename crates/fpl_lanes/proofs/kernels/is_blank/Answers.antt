use Rattle.std.proofs.Common.{◌≡◌, ℕ, ◌<◌, ◌≤◌, ◌+◌, nat_eq, IsTrue, get_or, ap₂, subst, ◌∙◌, arith, inl, inr}
use Rattle.std.proofs.lemmas.Bool.{cases_lt}
use Rattle.std.proofs.lemmas.List.{get_or_default}
use Rattle.std.proofs.lemmas.Nat.{le_or_l, le_or_r}
use Rattle.std.specs.Int.RustNames.{bit_or}
use Rattle.fpl_lanes.proofs.kernels.is_blank.Goals as goal

is_nought : (n : ℕ) → IsTrue (nat_eq n 0) → n ≡ 0
is_nought n e = grind arith

nought_is : (n : ℕ) → n ≡ 0 → IsTrue (nat_eq n 0)
nought_is n e = grind arith

above_more : (f : ℕ → ℕ) (i a b : ℕ) → ((k : ℕ) → k < i → f k ≤ a) → a ≤ b → f i ≤ b → (k : ℕ) → k < i + 1 → f k ≤ b
above_more f i a b h l here k m = elim (cases_lt k i) [
  | inl lt ↦ (let q = h k lt in omega arith)
  | inr ge ↦ subst (λ j. f j ≤ b) (let e : i ≡ k = omega arith in e) here
]

pub loop-x-preserved : goal.loop-x-preserved
loop-x-preserved c =
    let i = c.loop-x.x-index in
    let bits = c.loop-x.bits in
    let x = get_or c.args.block.now i 0 in
    record {
      above = above_more (λ k. get_or c.args.block.now k 0) i bits (bit_or bits x) c.loop-x.invariant.above (le_or_l bits x) (le_or_r bits x);
      blank = λ h. ap₂ bit_or (c.loop-x.invariant.blank (λ k l. h k (omega arith))) (h i (omega arith));
    }

pub returns : goal.returns
returns c =
    let end = c.loop-x-test.false in (
      λ e k d l. get_or_default c.args.block.now k d 0 l ∙ (let z = is_nought c.loop-x.bits e in let a = c.loop-x.invariant.above k (omega arith) in
          omega arith),
      λ h. nought_is c.loop-x.bits (c.loop-x.invariant.blank (λ k l. h k 0 (let t = c.loop-x.auto in omega arith))),
    )
