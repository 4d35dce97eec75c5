-- Which words are a command.
--   spelled: the bytes of each word
--   view_name: the word for a view
--   most_limit: the greatest weight limit of a view
--   IsSpelled: the words are this view and limit, and then nothing or these entries
--   IsCommand: the words spell this command, and its numbers are in their ranges
--   IsNoCommand: the words spell no command
--   IsInRange: the limit and the entries of any command
-- A number is spelled in decimal, without a sign or a leading zero.
use Rattle.std.specs.Prelude.{◌≡◌, ℕ, ◌≤◌, List, [], ◌∷◌, ◌⊎◌, codes, decimal, map, string_bytes, String}
use Rattle.fpl_run.specs.declared.words.View.{View}
use Rattle.fpl_run.specs.declared.words.View.TheVariants.{Table, Series, Gap, Log, Checkpoint, Centre, Lcs, Ideal, Cohomology, Equal, Check, Map, Sample, Envelope, Why}
use Rattle.fpl_run.specs.declared.words.Command.{Command}

abbrev pub spelled : {Z : Type 0} → List (String Z) → List (List ℕ)
spelled words = map string_bytes words

abbrev pub view_name : View → List ℕ
view_name Table = codes "table"
view_name Series = codes "series"
view_name Gap = codes "gap"
view_name Log = codes "log"
view_name Checkpoint = codes "checkpoint"
view_name Centre = codes "centre"
view_name Lcs = codes "lcs"
view_name Ideal = codes "ideal"
view_name Cohomology = codes "cohomology"
view_name Equal = codes "equal"
view_name Check = codes "check"
view_name Map = codes "map"
view_name Sample = codes "sample"
view_name Envelope = codes "envelope"
view_name Why = codes "why"

abbrev pub most_limit : View → ℕ
most_limit Sample = 64
most_limit _ = 1000

-- without a word for them the entries are 200000
abbrev pub IsSpelled : List (List ℕ) → Command → Type 0
IsSpelled words c =
    ((words ≡ view_name c.view ∷ decimal c.limit ∷ []) × (c.entries ≡ 200000))
    ⊎ ((words ≡ view_name c.view ∷ decimal c.limit ∷ decimal c.entries ∷ []) × (1 ≤ c.entries) × (c.entries ≤ 2000000))

pub record IsCommand (words : List (List ℕ)) (c : Command) : Type 0 where
  pub spelled : IsSpelled words c
  pub least : 1 ≤ c.limit
  pub most : c.limit ≤ most_limit c.view

abbrev pub IsNoCommand : List (List ℕ) → Type 0
IsNoCommand words = (c : Command) → IsCommand words c → ⊥

abbrev pub IsInRange : (limit entries : ℕ) → Type 0
IsInRange limit entries = (1 ≤ limit) × (limit ≤ 1000) × (entries ≤ 2000000)
