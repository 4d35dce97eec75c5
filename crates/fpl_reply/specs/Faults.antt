-- What is wrong with a checkpoint, in words.
--   origin_text: an origin by its letter and numbers
--   spot_text: where a section is wrong, after its weight
--   why_text: what is wrong there
use Rattle.std.specs.Prelude.{ℕ, List, [], ◌++◌, codes, decimal}
use Rattle.fpl_log.specs.declared.step.Origin as log
use Rattle.fpl_log.specs.declared.step.Origin.TheVariants.{Relation, Jacobi, Cube, Row}
use Rattle.fpl_check.specs.declared.fault.Spot.{Spot}
use Rattle.fpl_check.specs.declared.fault.Spot.TheVariants.{Step, Whole, Closed, Origin}
use Rattle.fpl_check.specs.declared.fault.Why.{Why}
use Rattle.fpl_check.specs.declared.fault.Why.TheVariants.{BadOrigin, BadCite, Remainder, Count, OriginCount, RowForm, Differs, NotClosed}
use Rattle.fpl_spelling.specs.Spelling.{number_text}

-- an origin that a checkpoint names is no row of another list
abbrev pub origin_text : log.Origin → List ℕ
origin_text (Relation r) = codes "R" ++ decimal r
origin_text (Jacobi i j k) = codes "J(" ++ decimal i ++ codes "," ++ decimal j ++ codes "," ++ decimal k ++ codes ")"
origin_text (Cube i) = codes "C(" ++ decimal i ++ codes ")"
origin_text (Row n) = codes "row " ++ decimal n

abbrev pub spot_text : Spot → List ℕ
spot_text (Step n) = codes ", step " ++ decimal n
spot_text Whole = []
spot_text (Closed k) = codes ", closed row " ++ decimal k
spot_text (Origin o) = codes ", origin " ++ origin_text o

abbrev pub why_text : Why → List ℕ
why_text BadOrigin = codes "bad origin"
why_text (BadCite m) = codes "bad citation of step " ++ decimal m
why_text (Remainder s c) = codes "remainder " ++ number_text c ++ codes " at symbol " ++ decimal s
why_text (Count closes rows) = decimal closes ++ codes " close steps, " ++ decimal rows ++ codes " closed rows"
why_text (OriginCount stored found) = decimal stored ++ codes " origins stored, " ++ decimal found ++ codes " found"
why_text RowForm = codes "row form"
why_text (Differs s stored concluded) = codes "stored " ++ number_text stored ++ codes ", concluded " ++ number_text concluded ++ codes " at symbol "
    ++ decimal s
why_text (NotClosed s) = codes "not closed at symbol " ++ decimal s
