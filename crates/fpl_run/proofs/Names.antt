-- No two views have one name, and no two numbers one text, so words spell at most one view and limit.
use Rattle.std.proofs.Common.{◌≡◌, ℕ, ◌<◌, ◌≤◌, ◌^◌, refl, arith, decimal, List, [], ◌∷◌, ◌⊎◌, inl, inr, Some, None, ap, sym, ◌∙◌, if◌then◌else◌, codes}
use Rattle.std.specs.declared.option.Option.{Option}
use Rattle.std.specs.Str.{bytes_eq}
use Rattle.std.proofs.lemmas.Fmt.{decimal_injective}
use Rattle.fpl_run.specs.declared.words.View.{View}
use Rattle.fpl_run.specs.declared.words.View.TheVariants.{Table, Series, Gap, Log, Checkpoint, Centre, Lcs, Ideal, Cohomology, Equal, Check, Map, Sample, Envelope, Why}
use Rattle.fpl_run.specs.declared.words.Command.{Command}
use Rattle.fpl_run.specs.Words.{view_name, most_limit, IsCommand}

abbrev view_of : List ℕ → Option View
view_of text =
    if bytes_eq text (codes "table") then Some Table else
    if bytes_eq text (codes "series") then Some Series else
    if bytes_eq text (codes "gap") then Some Gap else
    if bytes_eq text (codes "log") then Some Log else
    if bytes_eq text (codes "checkpoint") then Some Checkpoint else
    if bytes_eq text (codes "centre") then Some Centre else
    if bytes_eq text (codes "lcs") then Some Lcs else
    if bytes_eq text (codes "ideal") then Some Ideal else
    if bytes_eq text (codes "cohomology") then Some Cohomology else
    if bytes_eq text (codes "equal") then Some Equal else
    if bytes_eq text (codes "check") then Some Check else
    if bytes_eq text (codes "map") then Some Map else
    if bytes_eq text (codes "sample") then Some Sample else
    if bytes_eq text (codes "envelope") then Some Envelope else
    if bytes_eq text (codes "why") then Some Why else None

view_of_name : (v : View) → view_of (view_name v) ≡ Some v
view_of_name Table = refl
view_of_name Series = refl
view_of_name Gap = refl
view_of_name Log = refl
view_of_name Checkpoint = refl
view_of_name Centre = refl
view_of_name Lcs = refl
view_of_name Ideal = refl
view_of_name Cohomology = refl
view_of_name Equal = refl
view_of_name Check = refl
view_of_name Map = refl
view_of_name Sample = refl
view_of_name Envelope = refl
view_of_name Why = refl

pub view_name_injective : (v w : View) → view_name v ≡ view_name w → v ≡ w
view_name_injective v w e = let s : Some v ≡ Some w = sym (view_of_name v) ∙ ap view_of e ∙ view_of_name w in cc

pub number_injective : (k n : ℕ) → decimal k ≡ decimal n → k < 2 ^ 64 → n < 2 ^ 32 → k ≡ n
number_injective k n e a b = decimal_injective k n a (omega arith) e

abbrev IsRest : List (List ℕ) → ℕ → Type 0
IsRest rest entries = ((rest ≡ []) × (entries ≡ 200000)) ⊎ ((rest ≡ decimal entries ∷ []) × (entries ≤ 2000000))

most_is_small : (v : View) → most_limit v ≤ 1000
most_is_small Sample = omega arith
most_is_small _ = omega arith

-- what the words spell, with the entries as the words after the view and the limit say them
starts : (words : List (List ℕ)) (c : Command) → IsCommand words c → (rest : List (List ℕ)) × (words ≡ view_name c.view ∷ decimal c.limit ∷ rest) ×
    (c.limit ≤ 1000) × IsRest rest c.entries
starts words c is =
    let small : c.limit ≤ 1000 = omega (arith, most_is_small c.view, is.most) in
    elim is.spelled [ inl two ↦ ([], two.0, small, inl (refl, two.1)) | inr three ↦ (decimal c.entries ∷ [], three.0, small, inr (refl, three.2)) ]

entries_small : (rest : List (List ℕ)) (n : ℕ) → IsRest rest n → n ≤ 2000000
entries_small rest n (inl a) = omega (arith, a.1)
entries_small rest n (inr a) = a.1

entries_same : (rest : List (List ℕ)) (m n : ℕ) → IsRest rest m → IsRest rest n → m ≡ n
entries_same rest m n (inl a) (inl b) = cc
entries_same rest m n (inl a) (inr b) = let no : decimal n ∷ [] ≡ [] = sym b.0 ∙ a.0 in cc
entries_same rest m n (inr a) (inl b) = let no : decimal m ∷ [] ≡ [] = sym a.0 ∙ b.0 in cc
entries_same rest m n (inr a) (inr b) =
    let same : decimal m ∷ [] ≡ decimal n ∷ [] = sym a.0 ∙ b.0 in
    let texts : decimal m ≡ decimal n = cc in
    number_injective m n texts (omega arith) (omega arith)

abbrev command_of : View → ℕ → ℕ → Command
command_of view limit entries = record { view = view; limit = limit; entries = entries }

command_same : (v w : View) (k l m n : ℕ) → v ≡ w → k ≡ l → m ≡ n → command_of v k m ≡ command_of w l n
command_same v w k l m n a b c = rw (a, b, c) refl

-- words spell at most one command
pub one_command : (words : List (List ℕ)) (c d : Command) → IsCommand words c → IsCommand words d → c ≡ d
one_command words c d isc isd =
    let a = starts words c isc in
    let b = starts words d isd in
    let same : view_name c.view ∷ decimal c.limit ∷ a.0 ≡ view_name d.view ∷ decimal d.limit ∷ b.0 = sym a.1 ∙ b.1 in
    let names : view_name c.view ≡ view_name d.view = cc in
    let limits : decimal c.limit ≡ decimal d.limit = cc in
    let rests : a.0 ≡ b.0 = cc in
    let views : c.view ≡ d.view = view_name_injective c.view d.view names in
    let numbers : c.limit ≡ d.limit = number_injective c.limit d.limit limits (omega arith) (omega arith) in
    let entries : c.entries ≡ d.entries = entries_same b.0 c.entries d.entries (rw rests at a.3) b.3 in
    command_same c.view d.view c.limit d.limit c.entries d.entries views numbers entries

-- the numbers of a command
pub command_in_range : (words : List (List ℕ)) (c : Command) → IsCommand words c → (c.limit ≤ 1000) × (c.entries ≤ 2000000)
command_in_range words c is =
    let s = starts words c is in
    (s.2, entries_small s.0 c.entries s.3)

pub ruleset names = (view_name_injective, number_injective, one_command)
