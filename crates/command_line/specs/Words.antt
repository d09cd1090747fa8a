-- The words that the program takes.
use Rattle.std.specs.Prelude.{◌≡◌, ℕ, List, [], ◌∷◌, ◌++◌, Some, map, codes, true, false}
use Rattle.clap.specs.Words.{Rule, App, Shape, app_of, new_rule, with_subcommand}
use Rattle.clap.specs.Simple.{new_shape}
use Rattle.clap.specs.declared.builder.command.Command.TheViews.{out-Command as fields_of}
use Rattle.clap.specs.declared.builder.command.Command.{Command}
use Rattle.clap.specs.declared.builder.action.ArgAction.TheVariants.{Append, SetTrue}

-- a word that has to be there
abbrev pub required_rule : List ℕ → Rule
required_rule name = record (new_rule name) { required = true }

-- an option of a long name, with one value
abbrev pub option_rule : List ℕ → Rule
option_rule name = record (new_rule name) { long = Some name; value_names = 1 }

-- an option of a long name that is there or not
abbrev pub flag_rule : List ℕ → Rule
flag_rule name = record (new_rule name) { long = Some name; action = Some SetTrue }

-- a word that has to be there, and may come several times
abbrev pub several_rule : List ℕ → Rule
several_rule name = record (new_rule name) { required = true; action = Some Append }

-- a command by its name and the names of its words, in order
abbrev pub command_shape : List ℕ → List (List ℕ) → Shape
command_shape name words = record (new_shape name) { rules = map required_rule words }

-- a run's files, of which one may be left out, and an option
abbrev pub run_shape : Shape
run_shape = record (new_shape (codes "run")) { rules = required_rule (codes "PLAN") ∷ required_rule (codes "INPUT") ∷ new_rule (codes "LEGS") ∷ option_rule (codes "parallelism") ∷ option_rule (codes "receipt") ∷ option_rule (codes "names") ∷ [] }

abbrev pub simulate_shape : Shape
simulate_shape = command_shape (codes "simulate") (codes "PLAN" ∷ codes "INPUT" ∷ codes "LEGS" ∷ codes "CHOICES" ∷ [])

abbrev pub leg_files_shape : Shape
leg_files_shape = command_shape (codes "leg") (codes "PLAN" ∷ codes "INPUT" ∷ codes "SCALE" ∷ [])

-- a leg's files, and how it begins and stops
abbrev pub leg_stops_shape : Shape
leg_stops_shape = record leg_files_shape { rules = leg_files_shape.rules ++ option_rule (codes "from") ∷ option_rule (codes "saves") ∷ option_rule (codes "stop") ∷ option_rule (codes "stop-file") ∷ option_rule (codes "save") ∷ [] }

-- and its receipts
abbrev pub leg_shape : Shape
leg_shape = record leg_stops_shape { rules = leg_stops_shape.rules ++ option_rule (codes "since") ∷ option_rule (codes "receipt") ∷ option_rule (codes "names") ∷ [] }

-- a plan and an input, and two options
abbrev pub cuts_shape : Shape
cuts_shape = record (new_shape (codes "cuts")) { rules = required_rule (codes "PLAN") ∷ required_rule (codes "INPUT") ∷ option_rule (codes "until") ∷ flag_rule (codes "open") ∷ [] }

abbrev pub layout_shape : Shape
layout_shape = command_shape (codes "layout") (codes "PLAN" ∷ codes "SCALE" ∷ [])

-- a plan, an input and a scale that may be left out, and an option
abbrev pub check_files_shape : Shape
check_files_shape = record (new_shape (codes "check")) { rules = required_rule (codes "PLAN") ∷ new_rule (codes "INPUT") ∷ new_rule (codes "SCALE") ∷ option_rule (codes "scale") ∷ [] }

-- and three options of a leg
abbrev pub check_shape : Shape
check_shape = record check_files_shape { rules = check_files_shape.rules ++ option_rule (codes "from") ∷ option_rule (codes "stop") ∷ option_rule (codes "save") ∷ [] }

-- the plan, the input, the columns and the sources of an import, and its four options
abbrev pub import_files_shape : Shape
import_files_shape = record (new_shape (codes "import")) { rules = required_rule (codes "PLAN") ∷ required_rule (codes "INPUT") ∷ required_rule (codes "COLUMNS") ∷ several_rule (codes "SOURCE") ∷ [] }

abbrev pub import_names_shape : Shape
import_names_shape = record import_files_shape { rules = import_files_shape.rules ++ option_rule (codes "names") ∷ option_rule (codes "bound") ∷ [] }

abbrev pub import_late_shape : Shape
import_late_shape = record import_names_shape { rules = import_names_shape.rules ++ option_rule (codes "late") ∷ option_rule (codes "rows") ∷ flag_rule (codes "align") ∷ [] }

-- and what becomes of records that are no rows
abbrev pub import_aside_shape : Shape
import_aside_shape = record import_late_shape { rules = import_late_shape.rules ++ option_rule (codes "bad") ∷ option_rule (codes "once") ∷ option_rule (codes "twice") ∷ [] }

abbrev pub import_zone_shape : Shape
import_zone_shape = record import_aside_shape { rules = import_aside_shape.rules ++ option_rule (codes "zone") ∷ option_rule (codes "fold") ∷ [] }

-- and to how many parts the input is dealt out
abbrev pub import_parts_shape : Shape
import_parts_shape = record import_zone_shape { rules = import_zone_shape.rules ++ option_rule (codes "ranges") ∷ [] }

abbrev pub import_shape : Shape
import_shape = record import_parts_shape { rules = import_parts_shape.rules ++ option_rule (codes "report") ∷ option_rule (codes "zones") ∷ option_rule (codes "separator") ∷ option_rule (codes "decimal") ∷ [] }

-- the plan, the rows and the columns of an export, and its options
abbrev pub export_files_shape : Shape
export_files_shape = command_shape (codes "export") (codes "PLAN" ∷ codes "ROWS" ∷ codes "COLUMNS" ∷ [])

abbrev pub export_shape : Shape
export_shape = record export_files_shape { rules = export_files_shape.rules ++ option_rule (codes "names") ∷ option_rule (codes "header") ∷ flag_rule (codes "json") ∷ [] }

abbrev pub diff_shape : Shape
diff_shape = command_shape (codes "diff") (codes "OLD" ∷ codes "NEW" ∷ [])

-- one file of rows, or more
abbrev pub rows_shape : Shape
rows_shape = record (new_shape (codes "rows")) { rules = several_rule (codes "FILE") ∷ [] }

abbrev pub split_shape : Shape
split_shape = command_shape (codes "split") (codes "PLAN" ∷ codes "INPUT" ∷ codes "N" ∷ codes "OUT" ∷ [])

-- a savepoint, and an option
abbrev pub show_shape : Shape
show_shape = record (new_shape (codes "show")) { rules = required_rule (codes "SAVEPOINT") ∷ option_rule (codes "group") ∷ [] }

abbrev pub group_shape : Shape
group_shape = command_shape (codes "group") (codes "KEY" ∷ codes "MAX" ∷ codes "PAR" ∷ [])

abbrev pub explain_shape : Shape
explain_shape = command_shape (codes "explain") (codes "CODE" ∷ [])

abbrev pub version_shape : Shape
version_shape = command_shape (codes "version") []

-- the program takes a command
abbrev pub top : App
top = record { top = record (new_shape (codes "streamjob")) { subcommand_required = true }; subs = [] }

-- the commands that run a job, with them those on plans and inputs, on texts of rows, and those that show what a job is
-- made of
abbrev pub jobs : App
jobs = with_subcommand (with_subcommand (with_subcommand top run_shape) simulate_shape) leg_shape

abbrev pub texts : App
texts = with_subcommand (with_subcommand (with_subcommand (with_subcommand (with_subcommand jobs import_shape) split_shape) cuts_shape) layout_shape) check_shape

abbrev pub tables : App
tables = with_subcommand (with_subcommand (with_subcommand texts export_shape) diff_shape) rows_shape

abbrev pub views : App
views = with_subcommand (with_subcommand tables show_shape) group_shape

-- and that is one of fifteen
abbrev pub program : App
program = record {
  top = record top.top { is_leaf = false };
  subs = run_shape ∷ simulate_shape ∷ leg_shape ∷ import_shape ∷ split_shape ∷ cuts_shape ∷ layout_shape ∷ check_shape ∷ export_shape ∷ diff_shape ∷ rows_shape ∷ show_shape ∷ group_shape ∷ explain_shape ∷ version_shape ∷ [];
}

-- a command of such a shape, without commands below it
pub record IsCommand (shape : Shape) (command : Command) : Type 0 where
  pub app : app_of command ≡ record { top = shape; subs = [] }
  pub globals : (fields_of command).has_globals ≡ false

-- a command with one rule more
abbrev pub AddsRule : Rule → Command → Command → Type 0
AddsRule rule old new = (shape : Shape) → IsCommand shape old → IsCommand (record shape { rules = shape.rules ++ rule ∷ [] }) new
