use Rattle.std.proofs.Common.{◌≡◌, ◌≤◌, ◌++◌, ℤ, false, List, length}
use Rattle.json.specs.Token.{Token}
use Rattle.json.specs.Lex.{between, lex}
use Rattle.json_tokens.specs.Lexemes.{tokens_from, Begins}
use Rattle.json_tokens.specs.Rows.{row_text, joined}
use Rattle.json_tokens.proofs.ItemTurns.{ItemsRead}
use Rattle.json_tokens.proofs.rows.rows_at.Given as goal

abbrev pub invariant-rows : goal.invariant-rows
invariant-rows l =
    (ts : List Token) × (rows : List (List ℤ)) × Begins ts l.item × ItemsRead (row_text l.width) l.depth (tokens_from false l.text) rows ts × (l.cells.items ≡ l.initial.cells.items ++ joined rows)
    × (length l.initial.cells.items ≤ l.most → length l.cells.items ≤ l.most)

abbrev pub decreases-rows : goal.decreases-rows
decreases-rows l = length (lex between l.item)
