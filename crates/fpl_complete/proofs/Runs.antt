-- What origins that are still to come make of an elimination, or of a sweep, as each is done.
use Rattle.std.specs.Prelude.{ℕ, ◌≡◌, List, [], ◌∷◌, ◌++◌, length, Result, Ok, Err}
use mathlib.Core.Path.{refl, sym, ap, ap₂, subst, ◌∙◌}
use Rattle.std.proofs.lemmas.List.{append_assoc}
use Rattle.fpl_rows.proofs.Fits.{ok_same, first_fits}
use Rattle.fpl_rewrite.specs.Origins.{origins_of}
use Rattle.fpl_numbers.specs.declared.number.Num.{Num}
use Rattle.fpl_numbers.specs.declared.number.Unfit.{Unfit}
use Rattle.fpl_numbers.specs.declared.number.Fault.{Fault}
use Rattle.fpl_numbers.specs.declared.number.Fault.TheVariants.{NoMemory}
use Rattle.fpl_numbers.specs.declared.number.Fault.TheVariants.{Unfit as Unfits}
use Rattle.fpl_numbers.specs.Results.{and_then, IsFault}
use Rattle.fpl_log.specs.declared.step.Origin.{Origin}
use Rattle.plain_elimination.specs.Plain.{Elimination, Held, sweep_rows}
use Rattle.fpl_model.specs.declared.presentation.Presentation.{Presentation}
use Rattle.fpl_table.specs.Plain.{PlainTable, symbols_in}
use Rattle.fpl_numbers.specs.declared.number.Kind.{Kind}
use Rattle.fpl_rewrite.specs.Rows.{row_of_origin}
use Rattle.plain_weights.specs.Weight.{begun, again}
use Rattle.plain_weights.specs.Lean.{put_lean, gather_lean}

module _ (T : PlainTable) (p : Presentation) where
  pub gather_next : (os rest : List Origin) (o : Origin) (e f : Elimination) (all : Result Elimination Unfit) → os ≡ o ∷ rest → put_lean T p o e ≡ Ok f →
      gather_lean T p os e ≡ all → gather_lean T p rest f ≡ all
  gather_next os rest o e f all list put run =
      sym (subst (λ w. and_then (λ f. gather_lean T p rest f) w ≡ gather_lean T p rest f) (sym put) refl) ∙ subst (λ os. gather_lean T p os e ≡ all) list run

  -- a fault at one stops all
  pub gather_stops : (os rest : List Origin) (o : Origin) (e : Elimination) (fault : Fault) (all : Result Elimination Unfit) → os ≡ o ∷ rest →
      IsFault fault (put_lean T p o e) → gather_lean T p os e ≡ all → IsFault fault all
  gather_stops os rest o e (Unfits u) all list put run =
      sym (subst (λ (os : List Origin). gather_lean T p os e ≡ all) list run) ∙ stops (put_lean T p o e) put
    where
      stops : (r : Result Elimination Unfit) → r ≡ Err u → and_then (λ f. gather_lean T p rest f) r ≡ Err u
      stops (Ok x) k = absurd (let z : ⊥ = cc in z)
      stops (Err v) k = ap Err (let z : v ≡ u = cc in z)
  gather_stops os rest o e NoMemory all list put run = tt

  -- an elimination with no row
  pub started : (k : Kind) (n : ℕ) → k ≡ T.kind → n ≡ length (symbols_in T) →
      record { kind = k; size = n; held = record { pivots = []; steps = [] } } ≡ begun T
  started k n e f = ap₂ (λ (k : Kind) (n : ℕ). bare k n) e f
    where
      bare : Kind → ℕ → Elimination
      bare k n = record { kind = k; size = n; held = record { pivots = []; steps = [] } }

  -- one more that is gathered
  pub gathered_more : (done os rest : List Origin) (o : Origin) (e f : Elimination) → os ≡ o ∷ rest → done ++ os ≡ origins_of T p →
      gather_lean T p done (begun T) ≡ Ok e → put_lean T p o e ≡ Ok f →
      (more : List Origin) × (more ++ rest ≡ origins_of T p) × (gather_lean T p more (begun T) ≡ Ok f)
  gathered_more done os rest o e f list all run put = (
    done ++ o ∷ [],
    append_assoc done (o ∷ []) rest ∙ sym (ap (λ (xs : List Origin). done ++ xs) list) ∙ all,
    go done (begun T) run,
  )
    where
      go : (xs : List Origin) (d : Elimination) → gather_lean T p xs d ≡ Ok e → gather_lean T p (xs ++ o ∷ []) d ≡ Ok f
      go [] d k = subst (λ w. and_then (λ g. gather_lean T p [] g) w ≡ Ok f) (sym (ap (put_lean T p o) (ok_same k) ∙ put)) refl
      go (x ∷ xs) d k =
          let h = first_fits {T = Elimination} (λ g. gather_lean T p xs g) (put_lean T p x d) e k in
          subst (λ w. and_then (λ g. gather_lean T p (xs ++ o ∷ []) g) w ≡ Ok f) (sym h.1.0) (go xs h.0 h.1.1)

  -- the row of an origin formed again, and swept
  abbrev swept_again : List (List Num) → Origin → Held → Result Held Unfit
  swept_again rows o h = and_then (λ row. and_then (λ left. Ok h) (sweep_rows T.kind rows row)) (row_of_origin T p o)

  twice : (rows : List (List Num)) (os : List Origin) (h : Held) (r : Result (List Num) Unfit) →
      and_then (λ row. and_then (λ left. Ok h) (sweep_rows T.kind rows row)) r ≡ Ok h →
      and_then (λ row. and_then (λ left. again T p rows os h) (sweep_rows T.kind rows row)) r ≡ again T p rows os h
  twice rows os h (Ok row) e = once (sweep_rows T.kind rows row) e
    where
      once : (s : Result (List Num) Unfit) → and_then (λ left. Ok h) s ≡ Ok h → and_then (λ left. again T p rows os h) s ≡ again T p rows os h
      once (Ok left) e = refl
      once (Err u) e = absurd (let k : ⊥ = cc in k)
  twice rows os h (Err u) e = absurd (let k : ⊥ = cc in k)

  stopped : (rows : List (List Num)) (os : List Origin) (h : Held) (u : Unfit) (r : Result (List Num) Unfit) →
      and_then (λ row. and_then (λ left. Ok h) (sweep_rows T.kind rows row)) r ≡ Err u →
      and_then (λ row. and_then (λ left. again T p rows os h) (sweep_rows T.kind rows row)) r ≡ Err u
  stopped rows os h u (Ok row) e = once (sweep_rows T.kind rows row) e
    where
      once : (s : Result (List Num) Unfit) → and_then (λ left. Ok h) s ≡ Err u → and_then (λ left. again T p rows os h) s ≡ Err u
      once (Ok left) e = absurd (let k : ⊥ = cc in k)
      once (Err v) e = e
  stopped rows os h u (Err v) e = e

  pub again_next : (rows : List (List Num)) (os rest : List Origin) (o : Origin) (h : Held) (all : Result Held Unfit) → os ≡ o ∷ rest →
      swept_again rows o h ≡ Ok h → again T p rows os h ≡ all → again T p rows rest h ≡ all
  again_next rows os rest o h all list put run = sym (twice rows rest h (row_of_origin T p o) put) ∙ subst (λ os. again T p rows os h ≡ all) list run

  pub again_stops : (rows : List (List Num)) (os rest : List Origin) (o : Origin) (h : Held) (fault : Fault) (all : Result Held Unfit) →
      os ≡ o ∷ rest → IsFault fault (swept_again rows o h) → again T p rows os h ≡ all → IsFault fault all
  again_stops rows os rest o h (Unfits u) all list put run = sym (subst (λ os. again T p rows os h ≡ all) list run)
      ∙ stopped rows rest h u (row_of_origin T p o) put
  again_stops rows os rest o h NoMemory all list put run = tt
