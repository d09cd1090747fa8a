-- Refusals, and what they are told for.
use Rattle.std.specs.Prelude.{◌≡◌, Bool, true, false, Result, Ok, Err}
use Rattle.import_words.specs.declared.refusal.ImportCode.{ImportCode}
use Rattle.import_words.specs.declared.refusal.ImportFault.{ImportFault}
use Rattle.import_words.specs.declared.refusal.ImportFault.TheVariants.{Refused, Write, Memory}

-- a refusal with a code, or that there was no memory for its sentence
abbrev pub IsRefusal : ImportCode → ImportFault → Type 0
IsRefusal code (Refused other sentence) = other ≡ code
IsRefusal code Write = ⊥
IsRefusal code Memory = Unit {0}

-- Ok just where something holds, and else a refusal with a code
abbrev pub Judges : Bool → ImportCode → Result (Unit {0}) ImportFault → Type 0
Judges holds code (Ok done) = holds ≡ true
Judges holds code (Err fault) = (holds ≡ false) × IsRefusal code fault
