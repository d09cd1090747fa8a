-- What the words of an import say.
use Rattle.std.specs.Prelude.{◌≡◌, ◌==◌, nat_lt, ℕ, Bool, true, false, not, ◌&&◌, ◌||◌, List, [], ◌∷◌, map, filter, length, bytes_eq, Option, Some, None, Result, Ok, Err, Vec, String, string_bytes}
use Rattle.std.specs.Borrow.{Bor}
use Rattle.std.specs.declared.alloc.Global.{Global}
use Rattle.std.specs.List.{list_all, list_any, position_or_len, before_first, after_first, Contains}
use Rattle.import_columns.specs.Columns.{view_column, column_said}
use Rattle.import_columns.specs.declared.fault.ColumnFault.{ColumnFault}
use Rattle.import_columns.specs.declared.word.ColumnWord.{ColumnWord}
use Rattle.import_columns.specs.declared.word.WordKind.{WordKind}
use Rattle.import_columns.specs.declared.word.WordKind.TheVariants as kind
use Rattle.plan_model.specs.declared.spec.SourceSpec.{SourceSpec}
use Rattle.import_words.specs.Files.{parts, lists_in}
use Rattle.import_words.specs.Judging.{IsRefusal}
use Rattle.import_words.specs.declared.refusal.ImportCode.TheVariants.{Columns, Sources}
use Rattle.import_words.specs.declared.refusal.ImportFault.{ImportFault}
use Rattle.import_words.specs.declared.refusal.ImportFault.TheVariants.{Refused, Write, Memory}

-- these are the columns that words say, one each
abbrev pub AreColumns : List (List ℕ) → List ColumnWord → Type 0
AreColumns words columns = map column_said words ≡ map (λ c. Ok (view_column c)) columns

-- some of these words says no column
abbrev pub HasNoColumn : List (List ℕ) → Type 0
HasNoColumn words = (word : List ℕ) × (fault : ColumnFault) × Contains words word × (column_said word ≡ Err fault)

-- a word is refused since one of its parts says no column, or there was no memory
abbrev pub RefusesColumns : List ℕ → ImportFault → Type 0
RefusesColumns word (Refused code sentence) = (code ≡ Columns) × HasNoColumn (parts word)
RefusesColumns word Write = ⊥
RefusesColumns word Memory = Unit {0}

-- the answer is the columns that a word says, or such a refusal
abbrev pub ReadsColumns : {A : Type 0} → List ℕ → Result (Vec ColumnWord A) ImportFault → Type 0
ReadsColumns word (Ok columns) = AreColumns (parts word) columns.items
ReadsColumns word (Err fault) = RefusesColumns word fault

abbrev pub is_name : WordKind → Bool
is_name kind.Name = true
is_name value = false

-- there are as many columns as are wanted, and no names without a table of them
abbrev pub are_right : List ColumnWord → ℕ → Bool → Bool
are_right columns wanted has_names = (length columns == wanted) && (has_names || not (list_any (λ c. is_name c.kind) columns))

abbrev pub is_equals : ℕ → Bool
is_equals b = b == 61

abbrev pub has_equals : List ℕ → Bool
has_equals word = nat_lt (position_or_len is_equals word) (length word)

-- a word names the files of a source
abbrev pub names_source : List ℕ → List ℕ → Bool
names_source uid word = has_equals word && bytes_eq uid (before_first is_equals word)

-- the files that words name for a source, word by word
abbrev pub files_named : List ℕ → List (List ℕ) → List (List ℕ)
files_named uid words = map (after_first is_equals) (filter (names_source uid) words)

-- what stands there alone
abbrev pub only : List (List ℕ) → Option (List ℕ)
only [] = None
only (files ∷ []) = Some files
only (files ∷ others ∷ more) = None

abbrev pub GivesFiles : Option (List ℕ) → Result (Bor (List ℕ)) ImportFault → Type 0
GivesFiles said (Ok files) = said ≡ Some files.now
GivesFiles said (Err fault) = (said ≡ None) × IsRefusal Sources fault

-- the files of each partition, or that no word names them, or not just one; or there was no memory for them
abbrev pub GivesLists : {A : Type 0} → Option (List ℕ) → Result (Vec (Vec (String Global) Global) A) ImportFault → Type 0
GivesLists None (Ok lists) = ⊥
GivesLists None (Err fault) = IsRefusal Sources fault
GivesLists (Some files) (Ok lists) = map (λ list. map string_bytes list.items) lists.items ≡ lists_in files
GivesLists (Some files) (Err fault) = fault ≡ Memory

-- there are files, and as many as are wanted
abbrev pub are_many : ℕ → Option (List ℕ) → Bool
are_many wanted None = false
are_many wanted (Some files) = length (parts files) == wanted

-- just one word names the files of a source, one for each partition
abbrev pub has_files : List (List ℕ) → SourceSpec → Bool
has_files words source = are_many source.partitions (only (files_named source.uid words))

-- a word names the files of one of the sources
abbrev pub names_some : List SourceSpec → List ℕ → Bool
names_some sources word = has_equals word && list_any (λ source. bytes_eq source.uid (before_first is_equals word)) sources

-- each word names a source, and each source has its files
abbrev pub are_sources : List (List ℕ) → List SourceSpec → Bool
are_sources words sources = list_all (names_some sources) words && list_all (has_files words) sources
