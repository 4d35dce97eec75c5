-- What stands in a sentence, in order: the fields, the declarations, and in expressions the names and the denominators.
--
--   Event                   one of these
--   events_sum, events_of   those of an expression, and of a sentence
--   fields_in, declared_in  the fields and the declarations among them
use Rattle.std.specs.Prelude.{List, [], ◌∷◌, ◌++◌}
use Rattle.fpl_model.specs.declared.presentation.Parity.{Parity}
use Rattle.fpl_syntax.specs.declared.expression.Scale.{Scale}
use Rattle.fpl_syntax.specs.declared.expression.Scale.TheVariants.{One, Whole, Quotient}
use Rattle.fpl_syntax.specs.Grammar.{Sum, sum, Terms, end, further, term, Factor, name, zero, bracket, group, Statement, field, declare, relation, equation, ideal, equal, Naming, rationals, prime, Declaration, plainly, weighted}
use Rattle.fpl_reader.specs.declared.survey.Event.{Event}
use Rattle.fpl_reader.specs.declared.survey.Event.TheVariants.{FieldNamed, Declared, Used, Divided}
use Rattle.fpl_reader.specs.declared.survey.FieldName.{FieldName}
use Rattle.fpl_reader.specs.declared.survey.FieldName.TheVariants as field_name
use Rattle.fpl_reader.specs.declared.survey.FieldStatement.{FieldStatement}
use Rattle.fpl_reader.specs.declared.survey.DeclaredName.{DeclaredName}
use Rattle.std.specs.Prelude.{None, Some}

abbrev pub events_scale : Scale → List Event
events_scale One = []
events_scale (Whole n) = []
events_scale (Quotient n d) = Divided d ∷ []

abbrev mutual
  pub events_sum : Sum → List Event
  events_sum (sum plus (term negative scale f) ts) = events_scale scale ++ (events_factor f ++ events_terms ts)

  pub events_terms : Terms → List Event
  events_terms end = []
  events_terms (further (term negative scale f) ts) = events_scale scale ++ (events_factor f ++ events_terms ts)

  pub events_factor : Factor → List Event
  events_factor (name w) = Used w ∷ []
  events_factor (zero place) = []
  events_factor (bracket a b) = events_sum a ++ events_sum b
  events_factor (group a) = events_sum a

abbrev pub field_name_of : Naming → FieldName
field_name_of (rationals start stop) = field_name.Rationals
field_name_of (prime n) = field_name.Prime n

abbrev pub declared_name : Parity → Declaration → DeclaredName
declared_name parity (plainly w) = record { word = w; parity = parity; weight = None }
declared_name parity (weighted w n) = record { word = w; parity = parity; weight = Some n }

abbrev pub events_declared : Parity → List Declaration → List Event
events_declared parity [] = []
events_declared parity (d ∷ ds) = Declared (declared_name parity d) ∷ events_declared parity ds

abbrev pub events_statement : Statement → List Event
events_statement (field place naming) = FieldNamed (record { place = place; name = field_name_of naming }) ∷ []
events_statement (declare parity d ds) = events_declared parity (d ∷ ds)
events_statement (relation place a) = events_sum a
events_statement (equation place a b) = events_sum a ++ events_sum b
events_statement (ideal place a) = events_sum a
events_statement (equal place a b) = events_sum a ++ events_sum b

abbrev pub events_of : List Statement → List Event
events_of [] = []
events_of (s ∷ ss) = events_statement s ++ events_of ss

abbrev pub field_in : Event → List FieldStatement
field_in (FieldNamed f) = f ∷ []
field_in _ = []

abbrev pub fields_in : List Event → List FieldStatement
fields_in [] = []
fields_in (e ∷ es) = field_in e ++ fields_in es

abbrev pub name_in : Event → List DeclaredName
name_in (Declared d) = d ∷ []
name_in _ = []

abbrev pub declared_in : List Event → List DeclaredName
declared_in [] = []
declared_in (e ∷ es) = name_in e ++ declared_in es
