use Rattle.std.proofs.Common.{◌≡◌, ◌≤◌, ◌++◌, map, length, All}
use Rattle.json.specs.Lex.{tokens}
use Rattle.json.specs.Reads.{token_of}
use Rattle.text_places.proofs.spot.spots_of.Given as goal

abbrev pub invariant-tokens : goal.invariant-tokens
invariant-tokens l = record {
  read : map (λ s. token_of s.token) l.spots.items ++ l.reader ≡ tokens l.text;
  inside : All (λ s. s.offset ≤ length l.text) l.spots.items;
}

abbrev pub decreases-tokens : goal.decreases-tokens
decreases-tokens l = length l.reader
