use Rattle.std.proofs.Common.{◌≡◌, ap, true, sym, ◌∙◌, arith}
use Rattle.fpl_model.specs.Meaning.{plain}
use Rattle.fpl_model.proofs.Plain.{plain-Gen}
use Rattle.math_algebra.specs.Tree.{gen}
use Rattle.fpl_table.specs.Value.{is_light}
use Rattle.fpl_table.proofs.Light.{light_generator}
use Rattle.fpl_table.proofs.table.Table.+valuing.Goals as goal

pub value-image-requires-clause-reached : goal.value-image-requires-clause-reached
value-image-requires-clause-reached g t c =
    let here : plain c.args.e.now ≡ gen c.in-Gen.g = ap plain c.in-Gen.is ∙ plain-Gen c.in-Gen.g in
    let lit : c.is_light.result ≡ true = grind arith in
    light_generator c.args.self.now c.in-Gen.g (ap (is_light c.args.self.now) (sym here) ∙ sym c.is_light.ensures ∙ lit)
