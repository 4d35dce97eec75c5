-- A symbol that stands at a place is the one whose number that is, since no symbol stands twice.
use Rattle.std.proofs.Common.{ℕ, ◌≡◌, ◌≤◌, ◌-◌, List, length, get_or, sym, ap, subst, ◌∙◌, arith}
use Rattle.std.specs.Prelude.{Some}
use Rattle.fpl_numbers.specs.Kinds.{field_of}
use Rattle.math_algebra.specs.Table.{Symbol}
use Rattle.math_algebra.specs.Symbols.{place_of, no_symbol}
use Rattle.math_values.proofs.SymbolLists.{place_number}
use Rattle.fpl_table.specs.Plain.{PlainTable, symbols_in, shell_in, table_in}
use Rattle.fpl_table.specs.Numbering.{IsNumberOf}

pub stands_at : (T : PlainTable) (symbols : List Symbol) (x : Symbol) (s : ℕ) → symbols ≡ symbols_in T → 1 ≤ s → s ≤ length symbols →
    get_or symbols (s - 1) no_symbol ≡ x → IsNumberOf symbols x (Some s)
stands_at T symbols x s same from to here = (
  from,
  to,
  subst (λ (ss : List Symbol). s ≤ length ss → get_or ss (s - 1) no_symbol ≡ x → place_of x ss ≡ s - 1) (sym same)
      (λ to here. ap (λ y. place_of y (symbols_in T)) (sym here)
      ∙ place_number (field_of T.kind) (shell_in T.kind T) (table_in T.kind T) (s - 1) (omega (arith, from, to))) to here,
)
