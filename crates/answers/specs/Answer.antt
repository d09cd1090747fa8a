-- What is answered of a text or a savepoint: its value, or the fault of the first requirement that it does not meet.
use Rattle.std.specs.Prelude.{◌≡◌, Bool, true, false, List, [], ◌∷◌, Option, Some, None, Result, Ok, Err, if◌then◌else◌}
use Rattle.std.specs.Option.{option_or, option_map_or}

abbrev pub unless : Bool → Type 0 → Type 0
unless true P = Unit {0}
unless false P = P

-- the fault is the one that was to be answered, unless memory ran out
abbrev pub Fails : {F Y : Type 0} → (F → Bool) → F → Result Y F → Type 0
Fails is_memory fault said = unless (is_memory fault) (said ≡ Err fault)

-- so is what was answered
abbrev pub Gives : {F X Y : Type 0} → (F → Bool) → (X → Y) → Result X F → Result Y F → Type 0
Gives is_memory view (Ok x) said = said ≡ Ok (view x)
Gives is_memory view (Err fault) said = Fails is_memory fault said

-- the fault of a text that does not pass the test
abbrev pub otherwise : {T F : Type 0} → F → (T → Bool) → T → Option F
otherwise fault test text = if test text then None else Some fault

-- of requirements in their order, each with its fault, the fault of the first that is not met
abbrev pub first_unmet : {T F : Type 0} → List (T → Option F) → T → Option F
first_unmet [] text = None
first_unmet (r ∷ rs) text = option_or (r text) (first_unmet rs text)

-- what a text stands for, or that fault
abbrev pub value_or_fault : {T F Y : Type 0} → List (T → Option F) → (T → Y) → T → Result Y F
value_or_fault requirements value_of text = option_map_or Err (first_unmet requirements text) (Ok (value_of text))
