use Rattle.std.proofs.Common.{[]}
use Rattle.fpl_numbers.specs.declared.number.Kind.TheVariants.{Rational}
use Rattle.fpl_reader.specs.Reading.{scope_of}
use Rattle.fpl_reader.proofs.Readings.{refused_early, refused_syntax}
use Rattle.fpl_reader.proofs.reading.refuse_sentence.Goals as goal

pub returns-in-Ok-parse_text : goal.returns-in-Ok-parse_text
returns-in-Ok-parse_text c =
    rw c.refused.ensures
    (refused_early c.args.text.now (scope_of c.args.text.now Rational []) _ c.args.place c.args.reason c.requires.lexable c.requires.shallow
    c.requires.early c.in-Ok-parse_text.ensures.claims)

pub returns : goal.returns
returns c = refused_syntax c.args.text.now (scope_of c.args.text.now Rational []) _ c.requires.lexable c.requires.shallow c.in-Err.ensures.fault
