-- A record that was read, and what is left.
use Rattle.std.proofs.Common.{◌≡◌, ◌∙◌, true, false, Bool, ℕ, List, [], Option, Some, None, refl, arith}
use Rattle.csv.specs.Machine.{Read, next_record}
use Rattle.csv.specs.Reading.{NextIs, ReadRecord, ReadsNext, ReadsOn, source_of, pending_of, reader_state}
use Rattle.csv.specs.declared.parser.Config.{Config}
use Rattle.csv.specs.declared.parser.State.{State}
use Rattle.csv.specs.declared.reader.Reader.{Reader}
use Rattle.imports.specs.Reading.{StandsIn, ReadsRow, reader_in}
use Rattle.imports.specs.declared.reader.CsvReader.{CsvReader}

-- what was read, where it is known
abbrev pub Found : Option Read → Bool → List (List ℕ) → State → List ℕ → Type 0
Found read false fields state rest = read ≡ None
Found read true fields state rest = read ≡ Some (fields, state, rest)

found : (read : Option Read) (is_there : Bool) (fields : List (List ℕ)) (state : State) (rest : List ℕ) → NextIs read is_there fields state rest → Found read is_there fields state rest
found None false fields state rest is = refl
found None true fields state rest is = grind (arith, is)
found (Some read) false fields state rest is = grind (arith, is)
found (Some read) true fields state rest is = rw (is.1, is.2, is.3) refl

known : (config : Config) (state : State) (text : List ℕ) (after : Option (List ℕ)) (is_there : Bool) (fields : List (List ℕ)) (later : State)
    → ReadsNext config state (Some text) after is_there fields later → (rest : List ℕ) × (after ≡ Some rest) × NextIs (next_record config state [] [] text) is_there fields later rest
known config state text None is_there fields later is = absurd is
known config state text (Some rest) is_there fields later is = (rest, refl, is)

-- what a reader has left that has looked for a byte order mark
known_source : {R : Type 0} (remaining : R → Option (List ℕ)) (new : Reader R) → new.bom_checked ≡ true → source_of remaining new ≡ pending_of (remaining new.rdr) new
known_source remaining new is = rw is refl

pub read_row : {R : Type 0} (remaining : R → Option (List ℕ)) (old new : CsvReader R) (is_there : Bool) (fields : List (List ℕ)) (separator : ℕ) (state : State) (text : List ℕ)
    → StandsIn remaining separator old state text → ReadRecord remaining (reader_in old) (reader_in new) is_there fields → (is_there ≡ true → ReadsOn (reader_in old) (reader_in new))
    → ReadsRow remaining separator state text new is_there fields
read_row remaining old new false fields separator state text stands read on =
    let next = known _ _ _ _ _ _ _ (rw (stands.config, stands.state_is, stands.source) at read.0) in
    found _ false fields _ _ next.2
read_row remaining old new true fields separator state text stands read on =
    let next = known _ _ _ _ _ _ _ (rw (stands.config, stands.state_is, stands.source) at read.0) in
    let goes = on refl in (
      reader_state (reader_in new),
      next.0,
      found _ true fields _ _ next.2,
      record {
        ready = (goes.4 stands.ready).0;
        trim = read.3 ∙ stands.trim;
        config = read.2 ∙ stands.config;
        state_is = refl;
        source = known_source remaining (reader_in new) read.1 ∙ next.1;
      },
    )
