-- Over a prime the plain run of a weight is never refused.
use Rattle.std.specs.Prelude.{ℕ, ◌-◌, ◌≡◌, List, [], ◌∷◌, Ok}
use mathlib.Core.Path.{refl, sym, subst}
use Rattle.fpl_numbers.specs.declared.number.Num.{Num}
use Rattle.fpl_numbers.specs.Results.{and_then, map_ok}
use Rattle.fpl_log.specs.declared.step.Origin.{Origin}
use Rattle.plain_elimination.specs.Plain.{Held, Elimination, insert_of, close_to, close_of, rows_of, sweep_rows}
use Rattle.fpl_model.specs.declared.presentation.Presentation.{Presentation}
use Rattle.fpl_table.specs.Plain.{PlainTable}
use Rattle.fpl_rewrite.specs.Origins.{origins_of}
use Rattle.fpl_rewrite.specs.Rows.{row_of_origin}
use Rattle.plain_elimination.specs.Fitting.{DoesFit}
pub use Rattle.plain_elimination.proofs.Fitting.{insert_fits, close_fits}
use Rattle.plain_elimination.proofs.Fitting.{then_fits, Always, sweep_rows_fits}
use Rattle.plain_sources.proofs.Fitting.{origin_fits}
use Rattle.plain_weights.specs.Weight.{begun, with_held, put_of, gather, again, close_weight}

module _ (T : PlainTable) (always : Always T.kind) (p : Presentation) where
  -- all is gathered, and the kind stays the table's
  abbrev pub Gathers : List Origin → ℕ → Held → Type 0
  Gathers os n h = (e : Elimination) × ((gather T p os (record { kind = T.kind; size = n; held = h }) ≡ Ok e) × (e.kind ≡ T.kind))

  pub gather_fits : (os : List Origin) (n : ℕ) (h : Held) → Gathers os n h
  gather_fits [] n h = (_, (refl, refl))
  gather_fits (o ∷ os) n h = step o os n h (λ g. gather_fits os n g)
    where
      step : (o : Origin) (os : List Origin) (n : ℕ) (h : Held) → ((g : Held) → Gathers os n g) → Gathers (o ∷ os) n h
      step o os n h later =
          let e : Elimination = record { kind = T.kind; size = n; held = h } in
          let f = origin_fits T always p o in
          let i = insert_fits T.kind always n h f.0 o in
          let r = later i.0.held in
          let put : put_of T p o e ≡ Ok (with_held e i.0.held) =
          subst (λ w. and_then (λ row. map_ok (λ x. with_held e x.held) (insert_of e row o)) w ≡ Ok (with_held e i.0.held)) (sym f.1)
          (subst (λ w. map_ok (λ x. with_held e x.held) w ≡ Ok (with_held e i.0.held)) (sym i.1) refl) in
          (r.0, (subst (λ w. and_then (λ f. gather T p os f) w ≡ Ok r.0) (sym put) r.1.0, r.1.1))

  again_fits : {A : Type 0} (rows : List (List Num)) (os : List Origin) (x : A) → DoesFit (again T p rows os x)
  again_fits rows [] x = (x, refl)
  again_fits rows (o ∷ os) x =
      then_fits (λ row. and_then (λ left. again T p rows os x) (sweep_rows T.kind rows row)) (row_of_origin T p o) (origin_fits T always p o)
      (λ row. then_fits (λ left. again T p rows os x) (sweep_rows T.kind rows row) (sweep_rows_fits T.kind always rows row) (λ left. again_fits rows os x))

  pub close_weight_fits : DoesFit (close_weight T p)
  close_weight_fits =
      let g = gather_fits (origins_of T p) (begun T).size (begun T).held in
      subst (λ w. DoesFit (and_then (λ e. and_then (λ h. again T p (rows_of h.pivots) (origins_of T p) h) (close_of e)) w)) (sym g.1.0)
      (then_fits (λ h. again T p (rows_of h.pivots) (origins_of T p) h) (close_of g.0)
      (subst (λ k. DoesFit (close_to k g.0.held.pivots g.0.size (record { pivots = []; steps = g.0.held.steps }))) (sym g.1.1)
      (close_fits T.kind always g.0.held.pivots g.0.size (record { pivots = []; steps = g.0.held.steps })))
      (λ h. again_fits (rows_of h.pivots) (origins_of T p) h))
