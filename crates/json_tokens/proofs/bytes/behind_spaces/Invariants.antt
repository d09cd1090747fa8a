use Rattle.std.proofs.Common.{◌≡◌, ◌-◌, ◌≤◌, length, drop}
use Rattle.json.specs.Lex.{between, lex}
use Rattle.json_tokens.proofs.bytes.behind_spaces.Given as goal

abbrev pub invariant-spaces : goal.invariant-spaces
invariant-spaces l = (lex between (drop l.at l.text) ≡ lex between l.text) × (l.at ≤ length l.text)

abbrev pub decreases-spaces : goal.decreases-spaces
decreases-spaces l = length l.text - l.at
