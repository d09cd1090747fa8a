-- What an import is refused for.
use Rattle.std.specs.Prelude.{◌≡◌, Option, Some, None, option_map, Result, Ok, Err}
use Rattle.import_words.specs.Judging.{IsRefusal}
use Rattle.import_words.specs.declared.refusal.ImportCode.{ImportCode}
use Rattle.import_words.specs.declared.refusal.ImportFault.{ImportFault}
use Rattle.import_words.specs.declared.refusal.ImportFault.TheVariants.{Refused, Write, Memory}
use Rattle.import_copies.specs.declared.refusals.Refusals.{Refusals}

-- the code of the first place, if there is one
abbrev pub first_code : Refusals → Option ImportCode
first_code refusals = option_map (λ told. told.0) refusals.told

-- the code of the first of two places
abbrev pub first_of_two : Option ImportCode → ImportCode → Option ImportCode
first_of_two None code = Some code
first_of_two (Some first) code = Some first

-- one more refusal leaves the first one first; what is none is the answer
abbrev pub WithRefusal : Option ImportCode → ImportFault → Option ImportCode → Result (Unit {0}) ImportFault → Type 0
WithRefusal old (Refused code sentence) new (Ok done) = new ≡ first_of_two old code
WithRefusal old (Refused code sentence) new (Err fault) = fault ≡ Memory
WithRefusal old Write new answer = answer ≡ Err Write
WithRefusal old Memory new answer = answer ≡ Err Memory

-- Ok just where there is no place, and else a refusal with the code of the first
abbrev pub IsAnswered : Option ImportCode → Result (Unit {0}) ImportFault → Type 0
IsAnswered None answer = answer ≡ Ok tt
IsAnswered (Some code) (Ok done) = ⊥
IsAnswered (Some code) (Err fault) = IsRefusal code fault
