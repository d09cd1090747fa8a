-- Numbers of 64 bits and of 128 as one kind of list.
use Rattle.std.specs.Prelude.{ℤ, Bool, List}
use Rattle.std.specs.List.{list_all}
use Rattle.byte_fields.specs.Fields.{is_i64}
use Rattle.savepoint_codec.specs.declared.numbers.Numbers.{Numbers}
use Rattle.savepoint_codec.specs.declared.numbers.Numbers.TheVariants as lent
use Rattle.savepoint_codec.specs.declared.numbers.NumberList.{NumberList}
use Rattle.savepoint_codec.specs.declared.numbers.NumberList.TheVariants as kept

abbrev pub numbers_of : Numbers → List ℤ
numbers_of (lent.Narrow numbers) = numbers.now
numbers_of (lent.Wide numbers) = numbers.now

abbrev pub list_of : NumberList → List ℤ
list_of (kept.Narrow numbers) = numbers.items
list_of (kept.Wide numbers) = numbers.items

-- each fits in 64 bits
abbrev pub are_narrow : List ℤ → Bool
are_narrow numbers = list_all is_i64 numbers
