use Rattle.std.proofs.Common.{◌≡◌, ◌-◌, ◌++◌, ◌∙◌, ℕ, zero, suc, List, [], ◌∷◌, refl, ap, ap₂, sym, arith, length, map, take, drop, replicate}
use Rattle.fpl_numbers.specs.Numbers.{residue}
use Rattle.fpl_check.specs.ClosedRows.{stored_in}
use Rattle.fpl_prove.proofs.closed.stored_row.Goals as goal

whole : (xs ys : List ℕ) (n : ℕ) → length xs ≡ n → length ys ≡ length xs → take n (xs ++ drop (length xs) ys) ≡ xs
whole [] [] zero e l = refl
whole [] [] (suc n) e l = absurd (omega (arith, e))
whole [] (y ∷ ys) n e l = absurd (omega (arith, l))
whole (x ∷ xs) [] n e l = absurd (omega (arith, l))
whole (x ∷ xs) (y ∷ ys) zero e l = absurd (omega (arith, e))
whole (x ∷ xs) (y ∷ ys) (suc n) e l = ap (λ zs. x ∷ zs) (whole xs ys n (omega (arith, e)) (omega (arith, l)))

noughts : (n : ℕ) → map residue (replicate n 0) ≡ replicate n (residue 0)
noughts zero = refl
noughts (suc n) = ap (λ zs. residue 0 ∷ zs) (noughts n)

started : (n m : ℕ) (xs : List ℕ) → xs ≡ [] → m ≡ 0 → ◌++◌ {A = ℕ} (take n xs) (replicate (n - m) 0) ≡ replicate n 0
started n m xs e f = ap₂ (λ (ys : List ℕ) (k : ℕ). ◌++◌ {A = ℕ} (take n ys) (replicate (n - k) 0)) e f ∙ go n
  where
    go : (n : ℕ) → ◌++◌ {A = ℕ} (take n []) (replicate (n - 0) 0) ≡ replicate n 0
    go zero = refl
    go (suc n) = let e : suc n - 0 ≡ suc n = omega arith in ap (λ (k : ℕ). replicate {A = ℕ} k 0) e

pub returns : goal.returns
returns c =
    let r = c.in_ok-resize.ensures in
    let d = c.deref_mut.ensures in
    let long : length c.put_numbers.new.numbers ≡ length c.deref_mut.result.now = c.put_numbers.auto.numbers in
    let items : length c.resize.new.self.items ≡ length c.deref_mut.result.now = ap length (sym d.value) in
    let size : length c.put_numbers.new.numbers ≡ c.resize.new.self.len = long ∙ d.len in
    c.from_vec.ensures ∙ ap (map residue) (whole c.put_numbers.new.numbers c.resize.new.self.items c.resize.new.self.len size (items ∙ sym long))
    ∙ c.put_numbers.ensures
    ∙ ap (λ (ns : List ℕ). stored_in (map residue ns) c.args.row.now)
    (d.value ∙ r.items ∙ started c.args.n _ c.new-numbers.result.items c.new-numbers.ensures.items c.new-numbers.ensures.len)
    ∙ ap (λ ns. stored_in ns c.args.row.now) (noughts c.args.n)
