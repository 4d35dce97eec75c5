-- Over a prime no operation of a span or of a kernel is refused.
use Rattle.std.specs.Prelude.{◌≡◌, ℕ, zero, suc, ◌+◌, ◌-◌, List, [], ◌∷◌, ◌++◌, map, Option, Some, None, Result, Ok, Err}
use Rattle.std.specs.List.{find}
use mathlib.Core.Path.{refl, sym, subst}
use Rattle.math_linear.specs.Lists.{joined}
use Rattle.fpl_numbers.specs.declared.number.Num.{Num}
use Rattle.fpl_numbers.specs.declared.number.Kind.{Kind}
use Rattle.fpl_numbers.specs.declared.number.Kind.TheVariants.{Prime}
use Rattle.fpl_numbers.specs.declared.number.Unfit.{Unfit}
use Rattle.fpl_numbers.specs.Results.{and_then, map_ok}
use Rattle.fpl_log.specs.declared.step.Origin.TheVariants.{Row}
use Rattle.plain_elimination.specs.Plain.{PivotRow, stands_at, Held, Elimination, close_of, rows_of}
use Rattle.plain_spans.specs.Plain.{with_held, put_rows, closed_of, closed_span, span_of, free_at, free_rows, kernel_by, kernel_of}
use Rattle.plain_elimination.specs.Fitting.{DoesFit}
use Rattle.plain_elimination.proofs.Fitting.{then_fits, map_fits, Always, prime_always, insert_fits, close_fits}
use Rattle.plain_spans.specs.Means.{AreAllFormed, SpanFits, KernelFits}

-- rows that can all be formed
pub all_append : (rs ss : List (Result (List Num) Unfit)) → AreAllFormed rs → AreAllFormed ss → AreAllFormed (rs ++ ss)
all_append [] ss h k = k
all_append (Ok row ∷ rs) ss h k = all_append rs ss h k
all_append (Err u ∷ rs) ss h k = absurd h

pub all_formed_map : {X : Type 0} (f : X → Result (List Num) Unfit) (xs : List X) → ((x : X) → (row : List Num) × (f x ≡ Ok row)) → AreAllFormed (map f xs)
all_formed_map f [] h = tt
all_formed_map f (x ∷ xs) h =
    let r = h x in subst (λ y. AreAllFormed (y ∷ map f xs)) (sym r.1) (all_formed_map f xs h)

pub all_formed_joined : (n : ℕ) (f : ℕ → List (Result (List Num) Unfit)) → ((i : ℕ) → AreAllFormed (f i)) → AreAllFormed (joined n f)
unfolding joined
all_formed_joined zero f h = tt
all_formed_joined (suc n) f h = all_append (joined n f) (f n) (all_formed_joined n f h) (h n)

module _ (kind : Kind) (always : Always kind) where
  abbrev over : ℕ → Held → Elimination
  over n h = record { kind = kind; size = n; held = h }

  puts_fit : (n : ℕ) (rs : List (Result (List Num) Unfit)) (h : Held) → AreAllFormed rs → (g : Held) × (put_rows rs (over n h) ≡ Ok (over n g))
  puts_fit n [] h f = (h, refl)
  puts_fit n (Ok row ∷ rs) h f =
      let i = insert_fits kind always n h row (Row 0) in
      let b = puts_fit n rs i.0.held f in
      (b.0, subst (λ r. and_then (put_rows rs) (map_ok (λ x. with_held (over n h) x.held) r) ≡ Ok (over n b.0)) (sym i.1) b.1)
  puts_fit n (Err u ∷ rs) h f = absurd f

  closed_of_fits : (n : ℕ) (h : Held) → DoesFit (closed_of (over n h))
  closed_of_fits n h = map_fits (λ h. h.pivots) (close_of (over n h)) (close_fits kind always h.pivots n (record { pivots = []; steps = h.steps }))

  closed_fits : (n : ℕ) (rs : List (Result (List Num) Unfit)) → AreAllFormed rs → DoesFit (closed_span kind n rs)
  closed_fits n rs f =
      let a = puts_fit n rs (record { pivots = []; steps = [] }) f in
      subst (λ e. DoesFit (and_then closed_of e)) (sym a.1) (closed_of_fits n a.0)

  span_fits : (n : ℕ) (rs : List (Result (List Num) Unfit)) → AreAllFormed rs → DoesFit (span_of kind n rs)
  span_fits n rs f = map_fits rows_of (closed_span kind n rs) (closed_fits n rs f)

  frees_fit : (n : ℕ) (pivots : List PivotRow) → AreAllFormed (free_rows kind n pivots n)
  frees_fit n pivots = all_formed_joined n (λ f. free_at kind n pivots f (find (stands_at (f + 1)) pivots)) (λ f. go f (find (stands_at (f + 1)) pivots))
    where
      go : (f : ℕ) (o : Option PivotRow) → AreAllFormed (free_at kind n pivots f o)
      go f None = tt
      go f (Some p) = tt

  kernel_fits : (n : ℕ) (rs : List (Result (List Num) Unfit)) → AreAllFormed rs → DoesFit (kernel_of kind n rs)
  kernel_fits n rs f =
      let a = puts_fit n rs (record { pivots = []; steps = [] }) f in
      subst (λ e. DoesFit (and_then kernel_by e)) (sym a.1)
      (then_fits (λ pivots. span_of kind n (free_rows kind n pivots n)) (closed_of (over n a.0)) (closed_of_fits n a.0)
      (λ pivots. span_fits n (free_rows kind n pivots n) (frees_fit n pivots)))

pub spans_fit : (p : ℕ) → SpanFits p
spans_fit p n rows f = span_fits (Prime p) (prime_always p) n rows f

pub kernels_fit : (p : ℕ) → KernelFits p
kernels_fit p n rows f = kernel_fits (Prime p) (prime_always p) n rows f
