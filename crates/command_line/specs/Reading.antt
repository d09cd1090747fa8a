-- The command that words say.
use Rattle.std.specs.Prelude.{◌≡◌, ℕ, List, [], map, Bool, true, false, ◌||◌, Option, Some, None, option_map, unwrap_or, bytes_eq, codes}
use Rattle.clap.specs.Words.{first_value}
use Rattle.clap.specs.Matches.{matched_of, one_text, raw_values}
use Rattle.clap.specs.declared.parser.matches.Found.{Found}
use Rattle.import_command.specs.declared.words.ImportWords.{ImportWords}
use Rattle.leg_command.specs.declared.words.LegWords.{LegWords}
use Rattle.part_command.specs.declared.splitting.SplitWords.{SplitWords}
use Rattle.row_commands.specs.declared.exporting.ExportWords.{ExportWords}
use Rattle.row_commands.specs.declared.merging.MergeWords.{MergeWords}
use Rattle.commands.specs.declared.check_words.CheckWords.{CheckWords}
use Rattle.commands.specs.declared.run_words.RunWords.{RunWords}
use Rattle.commands.specs.declared.command.Command.{Command}
use Rattle.commands.specs.declared.command.Command.TheVariants.{Run, Simulate, Leg, Cuts, Layout, Check, Import, Split, Export, Diff, Merge, Show, Group, Explain, Version}

-- the word under a name
abbrev pub word : Found → List ℕ → List ℕ
word words name = unwrap_or (first_value words name) []

-- the name of a command
abbrev pub name_of : Command → List ℕ
name_of (Run _) = codes "run"
name_of (Simulate _ _ _ _) = codes "simulate"
name_of (Leg _) = codes "leg"
name_of (Cuts _ _ _ _) = codes "cuts"
name_of (Layout _ _) = codes "layout"
name_of (Check _) = codes "check"
name_of (Import _) = codes "import"
name_of (Split _) = codes "split"
name_of (Export _ _) = codes "export"
name_of (Diff _) = codes "diff"
name_of (Merge _) = codes "rows"
name_of (Show _ _) = codes "show"
name_of (Group _ _ _) = codes "group"
name_of (Explain _) = codes "explain"
name_of Version = codes "version"

-- all words under a name
abbrev pub words_under : Found → List ℕ → List (List ℕ)
words_under words name = unwrap_or (option_map raw_values (matched_of words name)) []

-- an option that is there or not is there, or is not
pub record IsFlag (words : Found) (name : List ℕ) (is_there : Bool) : Type 0 where
  pub absent : one_text words name ≡ None → is_there ≡ false
  pub given : one_text words name ≡ Some (codes "true") → is_there ≡ true
  pub other : one_text words name ≡ Some (codes "false") → is_there ≡ false

-- the words of an import, each by its name
abbrev pub HasImportWords : Found → ImportWords → Type 0
HasImportWords words said =
    (said.plan.now ≡ word words (codes "PLAN")) × (said.input.now ≡ word words (codes "INPUT")) × (said.columns.now ≡ word words (codes "COLUMNS")) × (map (λ w. w.now) said.sources.now ≡ words_under words (codes "SOURCE"))
    × (option_map (λ w. w.now) said.names ≡ first_value words (codes "names")) × (option_map (λ w. w.now) said.bound ≡ first_value words (codes "bound"))
    × (option_map (λ w. w.now) said.late ≡ first_value words (codes "late")) × (option_map (λ w. w.now) said.rows ≡ first_value words (codes "rows"))
    × (option_map (λ w. w.now) said.bad ≡ first_value words (codes "bad")) × (option_map (λ w. w.now) said.once ≡ first_value words (codes "once"))
    × (option_map (λ w. w.now) said.twice ≡ first_value words (codes "twice")) × (option_map (λ w. w.now) said.report ≡ first_value words (codes "report"))
    × (option_map (λ w. w.now) said.zones ≡ first_value words (codes "zones")) × (option_map (λ w. w.now) said.ranges ≡ first_value words (codes "ranges"))
    × (option_map (λ w. w.now) said.zone ≡ first_value words (codes "zone")) × (option_map (λ w. w.now) said.fold ≡ first_value words (codes "fold"))
    × (option_map (λ w. w.now) said.separator ≡ first_value words (codes "separator"))
    × (option_map (λ w. w.now) said.decimal ≡ first_value words (codes "decimal")) × IsFlag words (codes "align") said.is_aligned

-- the words of a check, each by its name
abbrev pub HasCheckWords : Found → CheckWords → Type 0
HasCheckWords words said =
    (said.plan.now ≡ word words (codes "PLAN")) × (option_map (λ w. w.now) said.input ≡ first_value words (codes "INPUT")) × (option_map (λ w. w.now) said.scale ≡ first_value words (codes "SCALE"))
    × (option_map (λ w. w.now) said.scale_option ≡ first_value words (codes "scale"))
    × (option_map (λ w. w.now) said.from ≡ first_value words (codes "from")) × (option_map (λ w. w.now) said.stop ≡ first_value words (codes "stop"))
    × (option_map (λ w. w.now) said.save ≡ first_value words (codes "save"))

-- the words of a run, each by its name
abbrev pub HasRunWords : Found → RunWords → Type 0
HasRunWords words said =
    (said.plan.now ≡ word words (codes "PLAN")) × (said.input.now ≡ word words (codes "INPUT")) × (option_map (λ w. w.now) said.legs ≡ first_value words (codes "LEGS"))
    × (option_map (λ w. w.now) said.parallelism ≡ first_value words (codes "parallelism"))
    × (option_map (λ w. w.now) said.receipt ≡ first_value words (codes "receipt")) × (option_map (λ w. w.now) said.names ≡ first_value words (codes "names"))

-- the words of a leg, each by its name
abbrev pub HasLegWords : Found → LegWords → Type 0
HasLegWords words said =
    (said.plan.now ≡ word words (codes "PLAN")) × (said.input.now ≡ word words (codes "INPUT")) × (said.scale.now ≡ word words (codes "SCALE"))
    × (option_map (λ w. w.now) said.from ≡ first_value words (codes "from")) × (option_map (λ w. w.now) said.saves ≡ first_value words (codes "saves"))
    × (option_map (λ w. w.now) said.stop ≡ first_value words (codes "stop"))
    × (option_map (λ w. w.now) said.stop_file ≡ first_value words (codes "stop-file")) × (option_map (λ w. w.now) said.save ≡ first_value words (codes "save"))
    × (option_map (λ w. w.now) said.since ≡ first_value words (codes "since")) × (option_map (λ w. w.now) said.receipt ≡ first_value words (codes "receipt"))
    × (option_map (λ w. w.now) said.names ≡ first_value words (codes "names"))

-- the words of an export behind its plan's, each by its name
abbrev pub HasExportWords : Found → ExportWords → Type 0
HasExportWords words said =
    (said.rows.now ≡ word words (codes "ROWS")) × (said.columns.now ≡ word words (codes "COLUMNS")) × (option_map (λ w. w.now) said.names ≡ first_value words (codes "names"))
    × (option_map (λ w. w.now) said.header ≡ first_value words (codes "header")) × IsFlag words (codes "json") said.json

-- the words of a split, each by its name
abbrev pub HasSplitWords : Found → SplitWords → Type 0
HasSplitWords words said =
    (said.plan.now ≡ word words (codes "PLAN")) × (said.input.now ≡ word words (codes "INPUT")) × (said.parts.now ≡ word words (codes "N")) × (said.out.now ≡ word words (codes "OUT"))

-- the words of a merge
abbrev pub HasMergeWords : Found → MergeWords → Type 0
HasMergeWords words said = map (λ w. w.now) said.files.now ≡ words_under words (codes "FILE")

-- the words of a command, each by its name
abbrev pub HasWords : Found → Command → Type 0
HasWords words (Run said) = HasRunWords words said
HasWords words (Simulate plan input legs choices) =
    (plan.now ≡ word words (codes "PLAN")) × (input.now ≡ word words (codes "INPUT")) × (legs.now ≡ word words (codes "LEGS")) × (choices.now ≡ word words (codes "CHOICES"))
HasWords words (Leg said) = HasLegWords words said
HasWords words (Cuts plan input until stays_open) =
    (plan.now ≡ word words (codes "PLAN")) × (input.now ≡ word words (codes "INPUT")) × (option_map (λ w. w.now) until ≡ first_value words (codes "until")) × IsFlag words (codes "open") stays_open
HasWords words (Layout plan scale) = (plan.now ≡ word words (codes "PLAN")) × (scale.now ≡ word words (codes "SCALE"))
HasWords words (Check said) = HasCheckWords words said
HasWords words (Import said) = HasImportWords words said
HasWords words (Split said) = HasSplitWords words said
HasWords words (Export plan said) = (plan.now ≡ word words (codes "PLAN")) × HasExportWords words said
HasWords words (Diff said) = (said.old.now ≡ word words (codes "OLD")) × (said.new.now ≡ word words (codes "NEW"))
HasWords words (Merge said) = HasMergeWords words said
HasWords words (Show savepoint group) = (savepoint.now ≡ word words (codes "SAVEPOINT")) × (option_map (λ w. w.now) group ≡ first_value words (codes "group"))
HasWords words (Group key max par) = (key.now ≡ word words (codes "KEY")) × (max.now ≡ word words (codes "MAX")) × (par.now ≡ word words (codes "PAR"))
HasWords words (Explain code) = code.now ≡ word words (codes "CODE")
HasWords words Version = Unit {0}

-- a name is one of a command that runs a job or tells how it is laid out
abbrev pub is_job_command : List ℕ → Bool
is_job_command name =
    bytes_eq name (codes "run") || (bytes_eq name (codes "simulate") || (bytes_eq name (codes "leg") || (bytes_eq name (codes "cuts") || bytes_eq name (codes "layout"))))

-- of one that makes files, or looks at such
abbrev pub is_file_command : List ℕ → Bool
is_file_command name =
    bytes_eq name (codes "check") || (bytes_eq name (codes "import") || (bytes_eq name (codes "split") || (bytes_eq name (codes "export") || (bytes_eq name (codes "diff") || bytes_eq name (codes "rows")))))

-- of one that tells something
abbrev pub is_told_command : List ℕ → Bool
is_told_command name =
    bytes_eq name (codes "show") || (bytes_eq name (codes "group") || (bytes_eq name (codes "explain") || bytes_eq name (codes "version")))

-- of any
abbrev pub is_command : List ℕ → Bool
is_command name = is_job_command name || (is_file_command name || is_told_command name)

-- the command of a name, with the words after it, of those whose names meet a test; no other name that meets it has one
abbrev pub IsReadOf : (List ℕ → Bool) → List ℕ → Found → Option Command → Type 0
IsReadOf is name words (Some command) = (bytes_eq name (name_of command) ≡ true) × HasWords words command
IsReadOf is name words None = is name ≡ false

-- the command of a name, with the words after it; no other name has one
abbrev pub IsRead : List ℕ → Found → Option Command → Type 0
IsRead name words command = IsReadOf is_command name words command

-- and so of the name that clap has found, if it has found one
abbrev pub IsFound : Option (List ℕ) → Option Command → Type 0
IsFound None command = command ≡ None
IsFound (Some name) command = (words : Found) × IsRead name words command
