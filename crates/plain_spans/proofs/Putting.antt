-- Rows put in one after another: a list more, and where putting stops.
use Rattle.std.specs.Prelude.{◌≡◌, ℕ, zero, suc, ◌+◌, ◌<◌, ◌↔◌, List, [], ◌∷◌, ◌++◌, length, map, drop, get_or, slice_get, Some, Result, Ok, Err}
use Rattle.std.proofs.Common.{add-one}
use mathlib.Core.Path.{sym, refl, ap, ◌∙◌, subst}
use native.Mathlib.Omega.{arith}
use native.Mathlib.Decide.{ℕ_discrete}
use Rattle.math_linear.specs.Vector.{Vector}
use Rattle.math_linear.specs.Lists.{joined}
use Rattle.math_linear.specs.Span.{IsRowOf as IsAmong}
use Rattle.fpl_numbers.specs.declared.number.Num.{Num}
use Rattle.fpl_numbers.specs.declared.number.Kind.{Kind}
use Rattle.fpl_numbers.specs.declared.number.Unfit.{Unfit}
use Rattle.fpl_numbers.specs.declared.number.Fault.{Fault}
use Rattle.fpl_numbers.specs.declared.number.Fault.TheVariants.{NoMemory}
use Rattle.fpl_numbers.specs.declared.number.Fault.TheVariants.{Unfit as Unfits}
use Rattle.fpl_numbers.specs.Kinds.{field_of}
use Rattle.fpl_numbers.specs.Results.{and_then, map_ok, IsFault}
use Rattle.fpl_rows.specs.Meaning.{vector_in, row_in, IsRowOf as IsRowOfKind, AreRows}
use Rattle.fpl_rows.proofs.Fits.{ok_same}
use Rattle.fpl_log.proofs.TermsTaken.{drop_next}
use Rattle.plain_elimination.specs.Plain.{Elimination}
use Rattle.plain_spans.specs.Plain.{put_row, put_rows}
use Rattle.plain_spans.specs.Means.{IsFormed, AreFormed}
use Rattle.plain_spans.proofs.Among.{Formed, formed_is, is_formed, are_formed, among_map, map_among}

-- a fault of a part is one of the whole
pub fault_part : {T U : Type 0} (f : T → U) (fault : Fault) (r : Result T Unfit) → IsFault fault r → IsFault fault (map_ok f r)
fault_part f (Unfits u) r h = ap (map_ok f) h
fault_part f NoMemory r h = tt

pub fault_first : {T U : Type 0} (f : T → Result U Unfit) (fault : Fault) (r : Result T Unfit) → IsFault fault r → IsFault fault (and_then f r)
fault_first f (Unfits u) r h = ap (and_then f) h
fault_first f NoMemory r h = tt

pub fault_then : {T U : Type 0} (f : T → Result U Unfit) (fault : Fault) (r : Result T Unfit) (x : T) → r ≡ Ok x → IsFault fault (f x) →
    IsFault fault (and_then f r)
fault_then f fault r x e h = subst (λ q. IsFault fault (and_then f q)) (sym e) h

pub put_more : (rs ss : Formed) (e : Elimination) → put_rows (rs ++ ss) e ≡ and_then (put_rows ss) (put_rows rs e)
put_more [] ss e = refl
put_more (r ∷ rs) ss e = go (λ y. put_more rs ss y) (put_row r e)
  where
    go : ((y : Elimination) → put_rows (rs ++ ss) y ≡ and_then (put_rows ss) (put_rows rs y)) → (x : Result Elimination Unfit) →
        and_then (put_rows (rs ++ ss)) x ≡ and_then (put_rows ss) (and_then (put_rows rs) x)
    go more (Ok y) = more y
    go more (Err u) = refl

pub put_then : (rs ss : Formed) (b e new : Elimination) → put_rows rs b ≡ Ok e → put_rows ss e ≡ Ok new → put_rows (rs ++ ss) b ≡ Ok new
put_then rs ss b e new h k = put_more rs ss b ∙ ap (and_then (put_rows ss)) h ∙ k

pub put_stops : (rs ss : Formed) (b e : Elimination) (fault : Fault) → put_rows rs b ≡ Ok e → IsFault fault (put_rows ss e) →
    IsFault fault (put_rows (rs ++ ss) b)
put_stops rs ss b e fault h k = subst (IsFault fault) (sym (put_more rs ss b)) (fault_then (put_rows ss) fault (put_rows rs b) e h k)

-- lists that are put in one after another
module _ (f : ℕ → Formed) (b : Elimination) where
  pub put_joined : (i : ℕ) (e new : Elimination) → put_rows (joined i f) b ≡ Ok e → put_rows (f i) e ≡ Ok new → put_rows (joined (i + 1) f) b ≡ Ok new
  unfolding joined
  put_joined i e new h k = ap (λ n. put_rows (joined n f) b) (add-one i) ∙ put_then (joined i f) (f i) b e new h k

  pub joined_stops : (n i : ℕ) (e : Elimination) (fault : Fault) → i < n → put_rows (joined i f) b ≡ Ok e → IsFault fault (put_rows (f i) e) →
      IsFault fault (put_rows (joined n f) b)
  unfolding joined
  joined_stops zero i e fault l h k = absurd (omega arith)
  joined_stops (suc n) i e fault l h k = go (ℕ_discrete i n) (λ m. joined_stops n i e fault m h k)
    where
      go : Dec (i ≡ n) → (i < n → IsFault fault (put_rows (joined n f) b)) → IsFault fault (put_rows (joined n f ++ f n) b)
      go (yes d) m = subst (λ n. IsFault fault (put_rows (joined n f ++ f n) b)) d (put_stops (joined i f) (f i) b e fault h k)
      go (no d) m = subst (IsFault fault) (sym (put_more (joined n f) (f n) b)) (fault_first (put_rows (f n)) fault (put_rows (joined n f) b) (m (omega arith)))

-- the next of rows that are put in
pub formed_next : (rows : List (List Num)) (k : ℕ) (row : List Num) (e : Elimination) → Some row ≡ slice_get rows k →
    put_rows (map Ok (drop k rows)) e ≡ and_then (put_rows (map Ok (drop (k + 1) rows))) (put_row (Ok row) e)
formed_next rows k row e is =
    ap (λ rs. put_rows (map Ok rs) e) (drop_next rows k row is)
    ∙ ap (λ j. and_then (put_rows (map Ok (drop j rows))) (put_row (Ok row) e)) (sym (add-one k))

-- rows as they are
pub formed_rows : (kind : Kind) (n : ℕ) (rows : List (List Num)) → AreRows kind n rows → AreFormed kind n (map Ok rows)
formed_rows kind n rows are =
    are_formed kind n (map Ok rows)
    (λ row h. let r = among_map {Y = Result (List Num) Unfit} Ok rows [] (Ok row) h in subst (IsRowOfKind kind n) (ok_same r.2) (are r.0 [] r.1))

pub formed_row : (kind : Kind) (rows : List (List Num)) (v : Vector (field_of kind)) → IsFormed kind (map Ok rows) v ↔
    IsAmong (field_of kind) (length rows) (row_in kind rows) v
formed_row kind rows v = (
  (λ h.
      let f = formed_is kind (map Ok rows) v h in
      let r = among_map {Y = Result (List Num) Unfit} Ok rows [] (Ok f.0) f.1 in
      (r.0, r.1, f.2 ∙ ap (vector_in kind) (sym (ok_same r.2)))),
  (λ h. subst (IsFormed kind (map Ok rows)) (sym h.2) (is_formed kind (map Ok rows) (get_or rows h.0 []) (map_among Ok rows [] h.0 h.1))),
)
