-- A writer of CSV, from one field to the next.
use Rattle.std.proofs.Common.{◌≡◌, ◌≢◌, ◌==◌, ◌+◌, ◌-◌, ◌^◌, ◌++◌, ◌∷◌, [], ◌∙◌, ℕ, zero, suc, Bool, true, false, List, Option, Some, None, length, arith, refl, sym, ap, subst, append_assoc, append-nil, length-append}
use Rattle.std.specs.Prelude.{◌||◌, ◌&&◌, not, min, if◌then◌else◌}
use Rattle.std.specs.Io.KnownBytes.{Appends, append_known}
use Rattle.std.proofs.lemmas.Bool.{ne_eqb}
use Rattle.std.proofs.lemmas.Grind.{flat_map-append}
use Rattle.csv.proofs.WriteFacts.{appends-more, blank-more, row-more}
use Rattle.csv.specs.Writing.{default_writer, end_text, field_text, fields_written, has_written, is_blank, next_sep, quote_mark, row_body, row_text, tail_text, text_written, writer_pending, writer_setup, writer_under}
use Rattle.csv.specs.declared.writer.QuoteStyle.TheVariants as style
use Rattle.csv.specs.declared.writer.Writer.{Writer}
use Rattle.csv.specs.declared.writer.WriterBuilder.{WriterBuilder}
use Rattle.import_asides.specs.declared.writer.CsvWriter.{CsvWriter}
use Rattle.import_asides.specs.Written.{HasRecords, IsBehindFields, csv_text}

-- what is said of a writer, of what it has on the heap
pub held : {W : Type 0} (contents : W → Option (List ℕ)) (start : Option (List ℕ)) (records : List (List (List ℕ))) (fields : List (List ℕ)) (writer : CsvWriter W) (old : Writer W) → old ≡ writer.writer.value
    → HasRecords contents start records fields writer → IsBehindFields fields old × Appends start (text_written contents old) (csv_text records ++ row_body default_writer fields)
held contents start records fields writer old is h = (
  subst (IsBehindFields fields) (sym is) h.behind,
  subst (λ out. Appends start (text_written contents out) (csv_text records ++ row_body default_writer fields)) (sym is) h.text,
)

pub plain : (setup : WriterBuilder) → setup ≡ default_writer → setup.style ≢ style.NonNumeric
plain setup is e = let other : style.Necessary ≡ style.NonNumeric = sym (ap (λ (s : WriterBuilder). s.style) is) ∙ e in cc

zero_at : (k : ℕ) → (min k (2 ^ 64 - 1) == 0) ≡ (k == 0)
zero_at zero = refl
zero_at (suc k) = ne_eqb (min (suc k) (2 ^ 64 - 1)) 0 (λ z. omega arith) ∙ sym (ne_eqb (suc k) 0 (λ z. omega arith))

one_at : (k : ℕ) → (min k (2 ^ 64 - 1) == 1) ≡ (k == 1)
one_at zero = refl
one_at (suc zero) = refl
one_at (suc (suc k)) = ne_eqb (min (suc (suc k)) (2 ^ 64 - 1)) 1 (λ z. omega arith) ∙ sym (ne_eqb (suc (suc k)) 1 (λ z. omega arith))

is_few : (k n : ℕ) → n ≡ min k (2 ^ 64 - 1) → ((n == 0) || (n == 1)) ≡ ((k == 0) || (k == 1))
is_few k n e = rw (e, zero_at k, one_at k) refl

-- behind one more field
pub behind_more : {W : Type 0} (fields : List (List ℕ)) (text : List ℕ) (old new : Writer W) → IsBehindFields fields old → writer_setup new ≡ writer_setup old → fields_written new ≡ min (fields_written old + 1) (2 ^ 64 - 1)
    → (has_written old ≡ false → has_written new ≡ not (length (field_text default_writer text) == 0)) → (has_written old ≡ true → has_written new ≡ true) → IsBehindFields (fields ++ text ∷ []) new
behind_more fields text old new h setup count shows stays =
    let size = length-append fields (text ∷ []) in
    let counted : fields_written new ≡ min (length fields + 1) (2 ^ 64 - 1) = count ∙ rw h.count (omega arith) in
    record {
      setup = setup ∙ h.setup;
      count = counted ∙ rw size refl;
      blank = blank-more default_writer fields text (has_written old) (has_written new) (h.blank ∙ ap (λ few. not (has_written old) && few) (is_few (length fields) (fields_written old) h.count)) shows stays
          ∙ ap (λ few. not (has_written new) && few) (sym (is_few (length fields + 1) (fields_written new) counted));
    }

-- the text with one more field of the record that is open
pub field_more : (start old new : Option (List ℕ)) (records : List (List (List ℕ))) (fields : List (List ℕ)) (text : List ℕ) (count : ℕ) → count ≡ min (length fields) (2 ^ 64 - 1) → Appends start old (csv_text records ++ row_body default_writer fields)
    → Appends old new (next_sep default_writer count ++ field_text default_writer text) → Appends start new (csv_text records ++ row_body default_writer (fields ++ text ∷ []))
field_more start old new records fields text count is h more =
    let parted : next_sep default_writer count ≡ next_sep default_writer (length fields) = rw (is, zero_at (length fields)) refl in
    let whole : (csv_text records ++ row_body default_writer fields) ++ (next_sep default_writer count ++ field_text default_writer text) ≡ csv_text records ++ row_body default_writer (fields ++ text ∷ []) =
    append_assoc (csv_text records) (row_body default_writer fields) (next_sep default_writer count ++ field_text default_writer text)
    ∙ ap (λ between. csv_text records ++ (row_body default_writer fields ++ (between ++ field_text default_writer text))) parted
    ∙ ap (λ body. csv_text records ++ body) (sym (row-more default_writer fields text)) in
    subst (Appends start new) whole (appends-more start old new _ _ h more)

-- the text of one more record
pub text_more : (records : List (List (List ℕ))) (fields : List (List ℕ)) → csv_text records ++ row_text default_writer fields ≡ csv_text (records ++ fields ∷ []) ++ row_body default_writer []
text_more records fields =
    sym (append-nil (csv_text (records ++ fields ∷ [])) ∙ flat_map-append (row_text default_writer) records (fields ∷ []) ∙ ap (λ line. csv_text records ++ line) (append-nil (row_text default_writer fields)))

-- the text where the open record ends
pub record_more : {W : Type 0} (start before after : Option (List ℕ)) (records : List (List (List ℕ))) (fields : List (List ℕ)) (old : Writer W) → IsBehindFields fields old → Appends start before (csv_text records ++ row_body default_writer fields)
    → Appends before after (tail_text default_writer (has_written old) (fields_written old)) → Appends start after (csv_text (records ++ fields ∷ []) ++ row_body default_writer [])
record_more start before after records fields old is h more =
    let line : row_body default_writer fields ++ tail_text default_writer (has_written old) (fields_written old) ≡ row_text default_writer fields =
    ap (λ blank. row_body default_writer fields ++ ((if blank then quote_mark ∷ quote_mark ∷ [] else []) ++ end_text default_writer.terminator)) (sym is.blank) in
    let whole = append_assoc (csv_text records) (row_body default_writer fields) (tail_text default_writer (has_written old) (fields_written old)) ∙ ap (λ body. csv_text records ++ body) line ∙ text_more records fields in
    subst (Appends start after) whole (appends-more start before after _ _ h more)

-- between two records
pub between : {W : Type 0} (out : Writer W) → writer_setup out ≡ default_writer → fields_written out ≡ 0 → has_written out ≡ false → IsBehindFields [] out
unfolding is_blank
between out setup none clean = record { setup = setup; count = none; blank = rw (none, clean) refl }

shows_none : (wrote : Bool) (few : Bool) → true ≡ (not wrote && few) → wrote ≡ false
shows_none false few h = refl
shows_none true few h = cc

clean_between : {W : Type 0} (out : Writer W) → IsBehindFields [] out → has_written out ≡ false
unfolding is_blank
clean_between out h = shows_none (has_written out) _ h.blank

-- a whole record, where none is open
pub line_put : {W : Type 0} (contents : W → Option (List ℕ)) (start : Option (List ℕ)) (records : List (List (List ℕ))) (fields : List (List ℕ)) (old new : Writer W) → IsBehindFields [] old
    → Appends start (text_written contents old) (csv_text records ++ row_body default_writer []) → writer_setup new ≡ writer_setup old → fields_written new ≡ 0 → has_written new ≡ false
    → (fields_written old ≡ 0 → has_written old ≡ false → (writer_setup old).style ≢ style.NonNumeric → Appends (text_written contents old) (text_written contents new) (row_text (writer_setup old) fields))
    → IsBehindFields [] new × Appends start (text_written contents new) (csv_text (records ++ fields ∷ []) ++ row_body default_writer [])
line_put contents start records fields old new is had setup none clean puts =
    let line : Appends (text_written contents old) (text_written contents new) (row_text default_writer fields) =
    subst (λ setup. Appends (text_written contents old) (text_written contents new) (row_text setup fields)) is.setup (puts is.count (clean_between old is) (plain (writer_setup old) is.setup)) in
    let whole : (csv_text records ++ []) ++ row_text default_writer fields ≡ csv_text (records ++ fields ∷ []) ++ row_body default_writer [] =
    ap (λ text. text ++ row_text default_writer fields) (append-nil (csv_text records)) ∙ text_more records fields in (
      between new (setup ∙ is.setup) none clean,
      subst (Appends start (text_written contents new)) whole (appends-more start (text_written contents old) (text_written contents new) _ _ had line),
    )

grown_by_none : (before : Option (List ℕ)) → Appends before (append_known before []) []
grown_by_none None = tt
grown_by_none (Some bytes) = refl

-- nothing is written yet
pub begins : {W : Type 0} (contents : W → Option (List ℕ)) (under : W) (out : Writer W) → writer_under out ≡ under → writer_pending out ≡ [] → Appends (contents under) (text_written contents out) (csv_text [] ++ row_body default_writer [])
begins contents under out is none =
    subst (λ known. Appends (contents under) known []) (sym (ap (λ inner. append_known (contents inner) (writer_pending out)) is ∙ ap (λ held. append_known (contents under) held) none)) (grown_by_none (contents under))
