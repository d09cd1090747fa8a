-- What the words of a question for a key's group say, and the line that answers it; and what the word of a key group
-- says.
use Rattle.std.specs.Option.{option_and_then}
use Rattle.std.specs.Prelude.{option_map, ◌≡◌, ℕ, ℤ, ◌^◌, ◌-◌, min, pos, neg_ℤ, nat_le, Bool, ◌&&◌, List, [], ◌∷◌, ◌++◌, drop, length, Option, Some, None, Result, Ok, Err, IsSome, if◌then◌else◌}
use Rattle.std.specs.Fmt.{decimal}
use Rattle.std.specs.Char.{is_ascii_digit}
use Rattle.std.specs.List.{list_all}
use Rattle.std.specs.Str.Parse.{digits_value, starts_with_minus}
use Rattle.std.specs.Io.KnownBytes.{Appends}
use Rattle.key_groups.specs.Groups.{key_group}
use Rattle.key_groups.specs.Ranges.{group_owner}
use Rattle.key_groups.specs.declared.limits.TheConstants.{MOST_GROUPS, MOST_SUBTASKS}
use Rattle.job_texts.specs.declared.fault.JobFault.{JobFault}
use Rattle.job_texts.specs.declared.fault.JobFault.TheVariants.{Number, Write, Memory}

-- 1 to `most` decimal digits
unfoldable pub are_digits : ℕ → List ℕ → Bool
are_digits most text = nat_le 1 (length text) && nat_le (length text) most && list_all is_ascii_digit text

-- the number that 1 to `digits` digits write, where it is from `least` to `most`
unfoldable pub number_said : ℕ → ℕ → ℕ → List ℕ → Option ℕ
number_said digits least most text = if are_digits digits text && (nat_le least (digits_value 10 text) && nat_le (digits_value 10 text) most) then Some (digits_value 10 text) else None

-- 1 to 5 digits of a number from 1 to `most`
abbrev pub count_said : ℕ → List ℕ → Option ℕ
count_said most text = number_said 5 1 most text

-- 1 to 5 digits of a number below the most key groups that there are
abbrev pub group_number_said : List ℕ → Option ℕ
group_number_said text = number_said 5 0 (MOST_GROUPS - 1) text

abbrev pub without_hyphen : List ℕ → List ℕ
without_hyphen text = if starts_with_minus text then drop 1 text else text

-- a hyphen or none, and 1 to 19 digits of a number that 64 bits hold
unfoldable pub key_said : List ℕ → Option ℤ
key_said text =
    if starts_with_minus text then option_map (λ n. neg_ℤ (pos n)) (number_said 19 0 (2 ^ 63) (drop 1 text))
    else option_map pos (number_said 19 0 (2 ^ 63 - 1) text)

-- a group and its owner with a space, ended by a line feed
abbrev pub group_line : ℕ → ℕ → List ℕ
group_line group owner = decimal group ++ (32 ∷ (decimal owner ++ (10 ∷ [])))

-- the line of a key's group and of its owner
unfoldable pub answer_line : ℕ → ℕ → ℤ → List ℕ
answer_line max par key = group_line (key_group max key) (group_owner max par (key_group max key))

-- the line for three words, where they are a key, a number of groups up to 32768 and a number of subtasks up to 64 and
-- the groups
unfoldable pub group_said : List ℕ → List ℕ → List ℕ → Option (List ℕ)
group_said key max par = option_and_then (λ k. option_and_then (λ m. option_map (λ p. answer_line m p k) (count_said (min m MOST_SUBTASKS) par)) (count_said MOST_GROUPS max)) (key_said key)

-- Ok and the line written, the refusal of a word, or a line that could not be written
abbrev pub TellsGroup : Option (List ℕ) → Result (Unit {0}) JobFault → Option (List ℕ) → Option (List ℕ) → Type 0
TellsGroup (Some line) (Ok _) old new = Appends old new line
TellsGroup None (Ok _) old new = ⊥
TellsGroup said (Err Number) old new = said ≡ None
TellsGroup said (Err Memory) old new = IsSome said
TellsGroup said (Err Write) old new = IsSome said
TellsGroup said (Err fault) old new = ⊥
