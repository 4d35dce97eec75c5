use Rattle.std.proofs.Common.{◌≡◌, Ok, rules, subst, arith}
use Rattle.std.proofs.lemmas.Grind.{common_steps}
use Rattle.fpl_numbers.specs.Numbers.{IsField}
use Rattle.fpl_matrices.specs.MapText.{map_of}
use Rattle.fpl_matrices.proofs.Assigned.{map_gives}
use Rattle.fpl_matrices.proofs.map_text.read_map.Goals as goal

pub returns-clause-assignment : goal.returns-clause-assignment
returns-clause-assignment c =
    let given : map_of c.args.p.now c.args.bytes.now c.args.from
    ≡ Ok (record { even = c.in_ok-even.even.value; odd = c.in_ok-odd.odd.value; matrices = c.in_ok-all.all.matrices }) =
    first_of (search rules, grind (arith, common_steps)) in
    map_gives c.args.p.now c.args.bytes.now c.args.from (record {
      even = c.in_ok-even.even.value;
      odd = c.in_ok-odd.odd.value;
      matrices =
          c.in_ok-all.all.matrices;
    })
    c.requires.prime (subst IsField c.requires.prime c.requires.sound.field) given
