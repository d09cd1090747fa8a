use Rattle.std.proofs.Common.{◌≡◌, ◌≤◌, ◌+◌, ◌++◌, ℤ, false, List, length}
use Rattle.std.specs.Vec.{vec_len, vec_capacity}
use Rattle.json.specs.Token.{Token}
use Rattle.json.specs.Lex.{between, lex}
use Rattle.json_parts.specs.Parts.{whole}
use Rattle.json_tokens.specs.Lexemes.{tokens_from, Begins}
use Rattle.json_tokens.proofs.ItemTurns.{ItemsRead}
use Rattle.json_tokens.proofs.rows.cells_at.Given as goal

abbrev pub invariant-loop : goal.invariant-loop
invariant-loop l =
    (ts : List Token) × (row : List ℤ) × Begins ts l.left × ItemsRead whole l.depth (tokens_from false l.text) row ts × (l.cells.items ≡ l.fn.cells.items ++ row)
    × (length (lex between l.left) ≤ length (lex between l.text)) × (vec_len l.cells + 1 ≡ vec_len l.fn.cells + l.counter) × (vec_capacity l.cells ≡ vec_capacity l.fn.cells) × (length row + 1 ≡ l.counter)
