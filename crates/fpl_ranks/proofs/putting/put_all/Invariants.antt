use Rattle.std.proofs.Common.{◌≡◌, ◌≤◌, ℕ, Ok, take, get_or, false}
use Rattle.std.specs.Prelude.{map}
use Rattle.plain_spans.specs.Plain.{begin, put_rows}
use Rattle.fpl_ranks.proofs.Stops.{IsSettled}
use Rattle.fpl_ranks.proofs.putting.put_all.Given as goal

abbrev pub invariant-loop-k : goal.invariant-loop-k
invariant-loop-k g l = record {
  made : put_rows (map Ok (take l.k l.rows)) (begin l.initial.echelon.kind l.initial.echelon.size) ≡ Ok l.echelon;
  settled : (s : ℕ) → get_or l.flags.items s false ≡ false → IsSettled l.initial.echelon.kind l.rows l.echelon.held.pivots s;
  kind : l.echelon.kind ≡ l.initial.echelon.kind;
  size : l.echelon.size ≡ l.initial.echelon.size;
  rises : l.initial.steps ≤ l.steps;
}
