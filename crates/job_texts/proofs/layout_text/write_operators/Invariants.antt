use Rattle.std.proofs.Common.{◌≡◌, ◌++◌, ◌∷◌, take, string_bytes}
use Rattle.std.specs.List.{flat_map}
use Rattle.job_texts.specs.LayoutText.{name_of}
use Rattle.job_texts.proofs.layout_text.write_operators.Given as goal

abbrev pub invariant-loop-operator : goal.invariant-loop-operator
invariant-loop-operator l = string_bytes l.text ≡ string_bytes l.fn.text ++ flat_map (λ o. 32 ∷ name_of l.plan o) (take l.operator-index l.operators)
