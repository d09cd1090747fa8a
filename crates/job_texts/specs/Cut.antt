-- The cut that a word of the command line spells.
use Rattle.std.specs.Option.{option_and_then}
use Rattle.std.specs.Prelude.{◌≡◌, ℕ, ◌^◌, ◌-◌, ◌==◌, List, [], ◌∷◌, Option, Some, None, option_map, Result, Ok, Err}
use Rattle.std.specs.List.{slice_split}
use Rattle.legs.specs.declared.cut.Cut.{Cut}
use Rattle.job_texts.specs.declared.fault.JobFault.{JobFault}
use Rattle.job_texts.specs.declared.fault.JobFault.TheVariants as fault
use Rattle.job_texts.specs.Group.{number_said}

-- what each part says, in order
abbrev pub each_said : {X : Type 0} → (List ℕ → Option X) → List (List ℕ) → Option (List X)
each_said f [] = Some []
each_said f (part ∷ parts) = option_and_then (λ x. option_map (λ xs. x ∷ xs) (each_said f parts)) (f part)

-- 1 to 20 digits of a number below 2^64
abbrev pub word_count : List ℕ → Option ℕ
word_count text = number_said 20 0 (2 ^ 64 - 1) text

-- counts with commas between them
unfoldable pub source_said : List ℕ → Option (List ℕ)
source_said text = each_said word_count (slice_split (λ b. b == 44) text)

-- such sources with slashes between them
unfoldable pub cut_said : List ℕ → Option Cut
cut_said word = option_map (λ counts. record { counts = counts }) (each_said source_said (slice_split (λ b. b == 47) word))

-- such cuts with pluses between them
unfoldable pub cuts_said : List ℕ → Option (List Cut)
cuts_said word = each_said cut_said (slice_split (λ b. b == 43) word)

-- what was read of a word, seen by view, is what it says, or it says none, or memory ran out
abbrev pub TellsCut : {X Y : Type 0} → (X → Y) → Result X JobFault → Option Y → Type 0
TellsCut view (Ok x) said = said ≡ Some (view x)
TellsCut view (Err fault.Cut) said = said ≡ None
TellsCut view (Err fault.Memory) said = Unit {0}
TellsCut view (Err _) said = ⊥
