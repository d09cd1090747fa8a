use Rattle.std.proofs.Common.{◌≡◌, ◌++◌, ◌∷◌, take, string_bytes}
use Rattle.std.specs.List.{flat_map}
use Rattle.job_texts.proofs.number.push_numbers.Given as goal

abbrev pub invariant-loop-number : goal.invariant-loop-number
invariant-loop-number g l = string_bytes l.text ≡ string_bytes l.fn.text ++ flat_map (λ number. 32 ∷ g.I.Integer.text number) (take l.number-index l.numbers)
