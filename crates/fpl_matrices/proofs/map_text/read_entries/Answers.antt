use Rattle.std.proofs.Common.{◌≡◌, ◌<◌, ◌≤◌, ◌+◌, ◌-◌, ◌*◌, [], ◌∷◌, ◌++◌, Ok, length, ap, ◌∙◌, arith}
use Rattle.std.proofs.Common.{rules}
use Rattle.std.proofs.lemmas.Grind.{common_steps}
use Rattle.std.proofs.lemmas.List.{length-append}
use Rattle.fpl_model.specs.Meaning.{parity_in}
use Rattle.fpl_matrices.specs.declared.pieces.Number.{Number}
use Rattle.fpl_matrices.specs.declared.map_text.Entries.{Entries}
use Rattle.fpl_matrices.specs.MapText.{read_as, read_entry, read_entries}
use Rattle.fpl_matrices.proofs.Entries.{entries_step, entries_fault}
use Rattle.fpl_matrices.proofs.map_text.read_entries.Goals as goal

pub returns-in-Err-clause-value : goal.returns-in-Err-clause-value
returns-in-Err-clause-value c =
    let n = c.args.layout.shape.even + c.args.layout.shape.odd in
    let p = c.args.layout.prime in
    let m = c.args.layout.shape.even in
    let t = parity_in c.args.parity in
    let less : c.loop-s.s < n * n = first_of (omega arith, grind (arith, common_steps)) in
    entries_fault c.args.bytes.now p m n t c.loop-s.numbers.items (n * n) c.loop-s.s c.loop-s.next
    (read_entries c.args.bytes.now p m n t [] (n * n) c.args.at) less c.loop-s.invariant.count c.loop-s.invariant.left
    {A = Number} {B = Entries} (λ x. read_as x.value x.next) (λ x. read_as x.numbers.items x.next) c.in-Err.error c.in-Err.ensures.value

pub loop-s-preserved : goal.loop-s-preserved
loop-s-preserved c =
    let n = c.args.layout.shape.even + c.args.layout.shape.odd in
    let p = c.args.layout.prime in
    let m = c.args.layout.shape.even in
    let t = parity_in c.args.parity in
    let pushed : c.push.new.self.items ≡ c.loop-s.numbers.items ++ c.in-Ok.entry.value ∷ [] = first_of (search rules, grind (arith, common_steps)) in
    let entry : read_entry c.args.bytes.now p m n t c.loop-s.s c.loop-s.next ≡ Ok (read_as c.in-Ok.entry.value c.in-Ok.entry.next) =
    first_of (search rules, grind (arith, common_steps)) in
    let within : c.in-Ok.entry.next ≤ length c.args.bytes.now = first_of (search rules, grind (arith, common_steps)) in
    let less : c.loop-s.s < n * n = first_of (omega arith, grind (arith, common_steps)) in
    record {
      within = within;
      count = ap length pushed ∙ length-append c.loop-s.numbers.items (c.in-Ok.entry.value ∷ []) ∙ ap (λ w. w + 1) c.loop-s.invariant.count;
      left =
          ap (λ xs. read_entries c.args.bytes.now p m n t xs (n * n - (c.loop-s.s + 1)) c.in-Ok.entry.next) pushed
          ∙ entries_step c.args.bytes.now p m n t c.loop-s.numbers.items (n * n) c.loop-s.s c.loop-s.next
          (read_entries c.args.bytes.now p m n t [] (n * n) c.args.at) less c.loop-s.invariant.count c.loop-s.invariant.left
          (read_as c.in-Ok.entry.value c.in-Ok.entry.next) entry;
    }
