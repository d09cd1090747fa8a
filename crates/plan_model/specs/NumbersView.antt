-- What contracts see of the numbers of a row.
use Rattle.std.specs.Prelude.{◌≡◌, ℤ, true, false, List}
use Rattle.plan_model.specs.Numbers.{are_narrow}
use Rattle.plan_model.specs.declared.numbers.Held.{Held}
use Rattle.plan_model.specs.declared.numbers.Held.TheVariants.{Narrow, Wide}

abbrev pub numbers_in : Held → List ℤ
numbers_in (Narrow numbers) = numbers.items
numbers_in (Wide numbers) = numbers.items

-- numbers stand in a list just where they must
abbrev pub IsHeld : Held → Type 0
IsHeld (Narrow numbers) = are_narrow numbers.items ≡ true
IsHeld (Wide numbers) = are_narrow numbers.items ≡ false
