use Rattle.std.proofs.Common.{refl, arith}
use Rattle.math_algebra.specs.Degrees.{weight_of}
use Rattle.fpl_model.specs.Meaning.{plain, presentation_in}
use Rattle.fpl_model.proofs.Degrees.{shape_at, up_to}
use Rattle.fpl_model.proofs.Plain.{plain_forms}
use Rattle.fpl_model.proofs.presentation.Presentation.+weighing.Goals as goal

pub weight_of-bracket-requires-clause-left : goal.weight_of-bracket-requires-clause-left
weight_of-bracket-requires-clause-left t c =
    up_to c.args.self.now.field (presentation_in c.args.self.now) c.args.self.now.generators refl c.requires.weights
    (plain c.get-in-Br.result.now) c.weight_of-left.result c.weight_of-left.ensures
    (grind (arith, plain_forms))

pub weight_of-bracket-requires-clause-right : goal.weight_of-bracket-requires-clause-right
weight_of-bracket-requires-clause-right t c =
    up_to c.args.self.now.field (presentation_in c.args.self.now) c.args.self.now.generators refl c.requires.weights
    (plain c.get-in-Br-2.result.now) c.weight_of-right.result c.weight_of-right.ensures
    (grind (arith, plain_forms))

pub weight_of-returns-in-Gen : goal.weight_of-returns-in-Gen
unfolding weight_of
weight_of-returns-in-Gen t c = grind (arith, plain_forms, shape_at)
