-- The text of a check: how many sections stood whole and passed, and how many bytes stand after them.
use Rattle.std.specs.Prelude.{ℕ, List, ◌++◌, codes, decimal}
use Rattle.fpl_numbers.specs.declared.number.Kind.{Kind}
use Rattle.fpl_spelling.specs.Spelling.{field_text}

abbrev pub check_text : Kind → (limit sections rest : ℕ) → List ℕ
check_text field limit sections rest =
    codes "check " ++ field_text field ++ codes " through " ++ decimal limit ++ codes "\nsections " ++ decimal sections ++ codes "\nrest " ++
    decimal rest ++ codes "\nend\n"
