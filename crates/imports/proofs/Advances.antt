-- The next record of a file.
use Rattle.std.proofs.Common.{◌≡◌, ◌==◌, ◌∙◌, true, false, Bool, ℕ, List, [], ◌∷◌, map, length, Option, Some, None, option_map, Result, Ok, Err, ap, sym, refl, arith}
use Rattle.std.proofs.lemmas.Bool.Decides.{nat_tests}
use Rattle.std.specs.Prelude.{OnOk}
use Rattle.asked_fields.specs.declared.asked.AskedField.{AskedField}
use Rattle.csv.specs.Machine.{Read as ReadRow}
use Rattle.csv.specs.Records.{fields_of}
use Rattle.csv.specs.declared.parser.State.{State}
use Rattle.object_lines.specs.Lines.{AdvancesLine, lines_left, line_in}
use Rattle.object_lines.specs.declared.fault.LineFault.{LineFault}
use Rattle.object_lines.specs.declared.fault.LineFault.TheVariants as line
use Rattle.object_lines.specs.declared.lines.ObjectLines.{ObjectLines}
use Rattle.imports.specs.Faults.{fault_said}
use Rattle.imports.specs.Reading.{Rest, Csv, Lines, Fields, Line, StandsIn, ReadsRow, RowsStandAt, StandsAt, ChecksWidth, Advances, AdvancesRow, width_with, width_left, next_of, taken_in, RecordText, GivesFields, IsBegun}
use Rattle.imports.specs.Picks.{pick_text, picked}
use Rattle.imports.specs.declared.picking.Pick.{Pick}
use Rattle.imports.specs.declared.fault.RowFault.{RowFault}
use Rattle.imports.specs.declared.fault.RowFault.TheVariants.{Read, NoField, FieldTwice, OtherHeader, Width, NoObject, Member, Value, NoText, Place, Write, Memory}
use Rattle.imports.specs.declared.kinds.Records.TheVariants.{Objects}
use Rattle.imports.specs.declared.records.CsvRows.{CsvRows}

pub no_row : {R : Type 0} (remaining : R → Option (List ℕ)) (asked : List AskedField) (rest : Rest) (old new : CsvRows R)
    → RowsStandAt remaining old rest
    → ((separator : ℕ) (state : State) (text : List ℕ) → StandsIn (λ watched. remaining watched.reader) separator old.reader state text
    → ReadsRow (λ watched. remaining watched.reader) separator state text new.reader false (fields_of new.record))
    → AdvancesRow remaining asked [] rest new (Ok false)
no_row remaining asked (Csv separator width state text) old new stands reads = rw (reads separator state text stands.1) refl
no_row remaining asked (Lines lines) old new stands reads = absurd stands

pub one_row : {R : Type 0} (remaining : R → Option (List ℕ)) (asked : List AskedField) (rest : Rest) (old mid new : CsvRows R) (answer : Result Bool RowFault)
    → RowsStandAt remaining old rest → mid.width ≡ old.width → mid.is_picked ≡ false
    → ((separator : ℕ) (state : State) (text : List ℕ) → StandsIn (λ watched. remaining watched.reader) separator old.reader state text
    → ReadsRow (λ watched. remaining watched.reader) separator state text mid.reader true (fields_of mid.record))
    → ChecksWidth mid new answer → AdvancesRow remaining asked [] rest new answer
one_row remaining asked (Lines lines) old mid new answer stands kept plain reads checks = absurd stands
one_row remaining asked (Csv separator width state text) old mid new (Ok false) stands kept plain reads checks = grind (arith, checks.0)
one_row remaining asked (Csv separator width state text) old mid new (Ok true) stands kept plain reads checks =
    let read = reads separator state text stands.1 in
    let same : mid.width ≡ width = kept ∙ stands.0 in
    let said : new.width ≡ width_with width (length (fields_of mid.record)) = ap (λ (rows : CsvRows _). rows.width) checks.1 ∙ rw same refl in
    let taken : taken_in new ≡ mid.record = ap taken_in checks.1 ∙ rw plain refl in
    record {
      text = Fields (fields_of mid.record);
      more = Csv separator (width_with width (length (fields_of mid.record))) read.0 read.1;
      next = rw read.2 refl;
      stands = (said, rw checks.1 read.3);
      gives = (ap fields_of taken, rw (← same) checks.2);
    }
one_row remaining asked (Csv separator width state text) old mid new (Err (Width count wanted)) stands kept plain reads checks = λ other.
    let read = reads separator state text stands.1 in
    let same : width ≡ Some wanted = sym stands.0 ∙ sym kept ∙ checks.2 in
    let said : new.width ≡ width_with width (length (fields_of mid.record)) = ap (λ (rows : CsvRows _). rows.width) checks.0 ∙ checks.2 ∙ rw same refl in
    let taken : taken_in new ≡ mid.record = ap taken_in checks.0 ∙ rw plain refl in
    record {
      text = Fields (fields_of mid.record);
      more = Csv separator (width_with width (length (fields_of mid.record))) read.0 read.1;
      next = rw read.2 refl;
      stands = (said, rw checks.0 read.3);
      gives = (ap fields_of taken, checks.1, same, checks.3);
    }
one_row remaining asked (Csv separator width state text) old mid new (Err Read) stands kept plain reads checks = λ other. absurd checks
one_row remaining asked (Csv separator width state text) old mid new (Err (NoField column)) stands kept plain reads checks = λ other. absurd checks
one_row remaining asked (Csv separator width state text) old mid new (Err (FieldTwice column)) stands kept plain reads checks = λ other. absurd checks
one_row remaining asked (Csv separator width state text) old mid new (Err OtherHeader) stands kept plain reads checks = λ other. absurd checks
one_row remaining asked (Csv separator width state text) old mid new (Err NoObject) stands kept plain reads checks = λ other. absurd checks
one_row remaining asked (Csv separator width state text) old mid new (Err (Member column why)) stands kept plain reads checks = λ other. absurd checks
one_row remaining asked (Csv separator width state text) old mid new (Err (Value column place why)) stands kept plain reads checks = λ other. absurd checks
one_row remaining asked (Csv separator width state text) old mid new (Err (NoText column)) stands kept plain reads checks = λ other. absurd checks
one_row remaining asked (Csv separator width state text) old mid new (Err (Place why)) stands kept plain reads checks = λ other. absurd checks
one_row remaining asked (Csv separator width state text) old mid new (Err Write) stands kept plain reads checks = λ other. absurd checks
one_row remaining asked (Csv separator width state text) old mid new (Err Memory) stands kept plain reads checks = λ other. absurd checks

gives_kept : (asked : List AskedField) (picks : List Pick) (width : Option ℕ) (text : RecordText) (fields : List (List ℕ)) (fault : RowFault)
    → GivesFields asked [] width text fields (Err fault) → GivesFields asked picks width text fields (Err fault)
gives_kept asked picks width (Fields said) fields fault gives = gives
gives_kept asked picks width (Line said) fields fault gives = gives

-- a record that gives no row gives none, whatever is picked
pub fault_kept : {R : Type 0} (remaining : R → Option (List ℕ)) (asked : List AskedField) (picks : List Pick) (rest : Rest) (new : CsvRows R) (fault : RowFault)
    → AdvancesRow remaining asked [] rest new (Err fault) → AdvancesRow remaining asked picks rest new (Err fault)
fault_kept remaining asked picks rest new fault advances = λ other.
    let next = advances other in
    record { text = next.text; more = next.more; next = next.next; stands = next.stands; gives = gives_kept asked picks (width_left rest) next.text (fields_of (taken_in new)) fault next.gives }

-- nothing is picked
pub at_once : {R : Type 0} (remaining : R → Option (List ℕ)) (asked : List AskedField) (picks : List Pick) (rest : Rest) (new : CsvRows R)
    → true ≡ (length picks == 0) → AdvancesRow remaining asked [] rest new (Ok true) → AdvancesRow remaining asked picks rest new (Ok true)
at_once remaining asked [] rest new none advances = advances
at_once remaining asked (pick ∷ picks) rest new none advances = grind (arith, nat_tests, none)

pub some_there : (picks : List Pick) → false ≡ (length picks == 0) → picks ≡ [] → ⊥
some_there [] some none = grind (arith, nat_tests, some)
some_there (pick ∷ picks) some none = grind (arith, none)

picked_some : (picks : List Pick) (row : List (List ℕ)) → (picks ≡ [] → ⊥) → map (pick_text row) picks ≡ picked picks row
picked_some [] row some = absurd (some refl)
picked_some (pick ∷ picks) row some = refl

of_csv : (read : Option ReadRow) (rest : ReadRow → Rest) (said : List ℕ) (more : Rest) → option_map {U = RecordText × Rest} (λ r. (Fields r.0, rest r)) read ≡ Some (Line said, more) → ⊥
of_csv None rest said more is = grind (arith, is)
of_csv (Some read) rest said more is = grind (arith, is)

gives_picked : (asked : List AskedField) (picks : List Pick) (rest more : Rest) (text : RecordText) (row fields : List (List ℕ)) → (picks ≡ [] → ⊥) → ((lines : List (List ℕ)) → rest ≡ Lines lines → ⊥)
    → next_of rest ≡ Some (text, more) → GivesFields asked [] (width_left rest) text row (Ok tt) → fields ≡ map (pick_text row) picks → GivesFields asked picks (width_left rest) text fields (Ok tt)
gives_picked asked picks (Lines lines) more text row fields some csv next gives is = absurd (csv lines refl)
gives_picked asked picks (Csv separator width state source) more (Line said) row fields some csv next gives is = absurd (of_csv _ _ said more next)
gives_picked asked picks (Csv separator width state source) more (Fields said) row fields some csv next gives is =
    (is ∙ picked_some picks row some ∙ ap (picked picks) gives.0, gives.1)

not_lines : {R : Type 0} (remaining : R → Option (List ℕ)) (rest : Rest) (old : CsvRows R) → RowsStandAt remaining old rest → (lines : List (List ℕ)) → rest ≡ Lines lines → ⊥
not_lines remaining (Csv separator width state text) old stands lines is = grind (arith, is)
not_lines remaining (Lines lines) old stands others is = stands

stands_kept : {R : Type 0} (remaining : R → Option (List ℕ)) (rest : Rest) (mid new : CsvRows R) → new.width ≡ mid.width → new.reader ≡ mid.reader → RowsStandAt remaining mid rest → RowsStandAt remaining new rest
stands_kept remaining (Csv separator width state text) mid new width_is reader_is stands = (width_is ∙ stands.0, rw reader_is stands.1)
stands_kept remaining (Lines lines) mid new width_is reader_is stands = absurd stands

-- the texts of columns were picked out of a row
pub one_picked : {R : Type 0} (remaining : R → Option (List ℕ)) (asked : List AskedField) (picks : List Pick) (rest : Rest) (old mid new : CsvRows R)
    → RowsStandAt remaining old rest → AdvancesRow remaining asked [] rest mid (Ok true) → mid.is_picked ≡ false → (picks ≡ [] → ⊥)
    → new.width ≡ mid.width → new.reader ≡ mid.reader → new.is_picked ≡ true → fields_of new.picked ≡ map (pick_text (fields_of mid.record)) picks
    → AdvancesRow remaining asked picks rest new (Ok true)
one_picked remaining asked picks rest old mid new stands advances plain some width_is reader_is is_picked fields_are =
    let row : fields_of (taken_in mid) ≡ fields_of mid.record = rw plain refl in
    let fields : fields_of (taken_in new) ≡ map (pick_text (fields_of (taken_in mid))) picks = rw (is_picked, plain) fields_are in
    record {
      text = advances.text;
      more = advances.more;
      next = advances.next;
      stands = stands_kept remaining advances.more mid new width_is reader_is advances.stands;
      gives = gives_picked asked picks rest advances.more advances.text (fields_of (taken_in mid)) (fields_of (taken_in new)) some (not_lines remaining rest old stands) advances.next advances.gives fields;
    }

pub a_line : {R : Type 0} (remaining : R → Option (List ℕ)) (asked : List AskedField) (picks : List Pick) (rest : Rest) (old new : ObjectLines R) (is_there : Bool)
    → StandsAt remaining (Objects old) rest
    → ((left : List (List ℕ)) → lines_left remaining old ≡ Some left → AdvancesLine remaining asked left new (Ok is_there))
    → Advances remaining asked picks rest (Objects new) (Ok is_there)
a_line remaining asked picks (Csv separator width state text) old new is_there stands advances = absurd stands
a_line remaining asked picks (Lines lines) old new false stands advances = rw (advances lines stands) refl
a_line remaining asked picks (Lines lines) old new true stands advances =
    let read = advances lines stands in
    record { text = Line (line_in new); more = Lines read.more; next = rw read.next refl; stands = read.rest; gives = read.read }

pub no_object : {R : Type 0} (remaining : R → Option (List ℕ)) (asked : List AskedField) (picks : List Pick) (rest : Rest) (old new : ObjectLines R) (fault : LineFault)
    → StandsAt remaining (Objects old) rest
    → ((left : List (List ℕ)) → lines_left remaining old ≡ Some left → AdvancesLine remaining asked left new (Err fault))
    → Advances remaining asked picks rest (Objects new) (Err (fault_said fault))
no_object remaining asked picks (Csv separator width state text) old new fault stands advances = absurd stands
no_object remaining asked picks (Lines lines) old new line.Read stands advances = λ other. grind (arith, other)
no_object remaining asked picks (Lines lines) old new line.Memory stands advances = λ other. grind (arith, other)
no_object remaining asked picks (Lines lines) old new line.NoObject stands advances = λ other.
    let read = advances lines stands in
    record { text = Line (line_in new); more = Lines read.more; next = rw read.next refl; stands = read.rest; gives = read.read }
no_object remaining asked picks (Lines lines) old new (line.Member column why) stands advances = λ other.
    let read = advances lines stands in
    record { text = Line (line_in new); more = Lines read.more; next = rw read.next refl; stands = read.rest; gives = read.read }

-- whatever comes of what follows
pub always : {A E : Type 0} (answer : Result A E) (P : Type 0) → P → OnOk answer P
always (Ok a) P p = p
always (Err e) P p = tt

pub begun : {R : Type 0} (remaining : R → Option (List ℕ)) (asked : List AskedField) (rest more : Rest) (old new : CsvRows R) (is_there : Bool)
    → RowsStandAt remaining old rest → IsBegun rest more → AdvancesRow remaining asked [] rest new (Ok is_there) → RowsStandAt remaining new more
begun remaining asked (Lines lines) more old new is_there stands is advances = absurd stands
begun remaining asked (Csv separator width state text) more old new false stands is advances = grind (arith, is.1, advances)
begun remaining asked (Csv separator width state text) more old new true stands is advances =
    let same : advances.more ≡ more = grind (arith, is.1, advances.next) in
    rw (← same) advances.stands
