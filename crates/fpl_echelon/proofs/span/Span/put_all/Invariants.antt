use Rattle.std.proofs.Common.{◌≡◌, ◌≤◌, Ok, take, drop}
use Rattle.std.specs.Prelude.{map}
use Rattle.plain_spans.specs.Plain.{put_rows}
use Rattle.fpl_echelon.proofs.span.Span.put_all.Given as goal

abbrev pub invariant-loop-k : goal.invariant-loop-k
invariant-loop-k g l = record {
  left : put_rows (map Ok l.rows) l.initial.self ≡ put_rows (map Ok (drop l.k l.rows)) l.self;
  held : put_rows (map Ok (take l.k l.rows)) l.initial.self ≡ Ok l.self;
  kind : l.self.kind ≡ l.initial.self.kind;
  size : l.self.size ≡ l.initial.self.size;
  rises : l.initial.steps ≤ l.steps;
}
