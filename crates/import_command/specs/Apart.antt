-- Which files an import may write.
use Rattle.std.specs.Prelude.{nat_eq, ℕ, Bool, true, false, not, ◌&&◌, ◌||◌, List, [], ◌∷◌, bytes_eq, codes, Option, Some, None}
use Rattle.std.specs.Borrow.{Bor}
use Rattle.std.specs.List.{list_any, after_first, starts_with}
use Rattle.column_files.specs.Lines as files
use Rattle.import_words.specs.Files.{parts, names_in}
use Rattle.import_words.specs.Words.{has_equals, is_equals}
use Rattle.import_command.specs.declared.words.ImportWords.{ImportWords}

-- what a device takes is lost in no file
abbrev pub is_device : List ℕ → Bool
is_device path = starts_with nat_eq path (codes "/dev/")

-- a file is one of those that stand in a word, with commas and pluses between
abbrev pub has_file : List ℕ → List ℕ → Bool
has_file path files = list_any (λ part. list_any (bytes_eq path) (names_in part)) (parts files)

-- a word of a source names a file
abbrev pub names_file : List ℕ → List ℕ → Bool
names_file path word = has_equals word && has_file path (after_first is_equals word)

-- one of the sources' words names a file
abbrev pub is_source : List (Bor (List ℕ)) → List ℕ → Bool
is_source sources path = list_any (λ word. names_file path word.now) sources

-- the columns stand in a file: their word is its name behind an @
abbrev pub has_columns : List ℕ → List ℕ → Bool
has_columns columns path = files.names_file columns && bytes_eq columns (64 ∷ path)

-- a file is read: the plan's, that of the columns, or one of a source
abbrev pub is_read : ImportWords → List ℕ → Bool
is_read words path = bytes_eq words.plan.now path || (has_columns words.columns.now path || is_source words.sources.now path)

-- a device may be written to, and a file that is not read and not written already
abbrev pub may_write : ImportWords → List ℕ → Bool → Bool
may_write words path is_written = is_device path || (not (is_read words path) && not is_written)

-- this is the path, if there is one
abbrev pub is_path : Option (Bor (List ℕ)) → List ℕ → Bool
is_path None path = false
is_path (Some other) path = bytes_eq other.now path

-- a file, if there is one, may be written behind others
abbrev pub may_write_behind : ImportWords → List (Option (Bor (List ℕ))) → Option (Bor (List ℕ)) → Bool
may_write_behind words before None = true
may_write_behind words before (Some path) = may_write words path.now (list_any (λ other. is_path other path.now) before)

-- an import writes no file that it reads, and none twice
abbrev pub are_apart : ImportWords → Bool
are_apart words = may_write_behind words [] (Some words.input)
    && may_write_behind words (Some words.input ∷ []) words.late
    && may_write_behind words (Some words.input ∷ words.late ∷ []) words.twice
    && may_write_behind words (Some words.input ∷ words.late ∷ words.twice ∷ []) words.bad
    && may_write_behind words (Some words.input ∷ words.late ∷ words.twice ∷ words.bad ∷ []) words.report
    && may_write_behind words (Some words.input ∷ words.late ∷ words.twice ∷ words.bad ∷ words.report ∷ []) words.names

-- the file of a part may be written, which none of the others is
abbrev pub is_apart : ImportWords → List ℕ → Bool
is_apart words path = may_write words path (list_any (λ other. is_path other path) (words.late ∷ words.twice ∷ words.bad ∷ words.report ∷ words.names ∷ []))
