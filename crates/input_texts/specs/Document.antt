-- What is noted of the members of a document, and of the sources of a plan where it names them all.
use Rattle.std.specs.Prelude.{◌≡◌, ◌<◌, ℕ, Bool, true, false, not, ◌&&◌, List, [], ◌∷◌, length, map, Option, Some, None, is_some, bytes_eq, Result, Ok, Err, IsOk}
use Rattle.std.specs.Cmp.Lexicographic.{slice_cmp}
use Rattle.std.specs.FinMap.Entries.{is_sorted}
use Rattle.std.specs.List.{filter, list_all, list_any}
use Rattle.std.specs.Option.{option_map_or, ok_or}
use Rattle.std.specs.Ordering.{nat_cmp}
use Rattle.std.specs.BTreeSet.{BTreeSet}
use Rattle.std.specs.Prelude.{String, string_bytes}
use Rattle.serde_json.specs.Data.{Data, object, Members, no_members, member}
use Rattle.serde_json.specs.Find.{get_member}
use Rattle.serde_json.specs.Read.{read}
use Rattle.json_parts.specs.Parts.{names_of}
use Rattle.plan_model.specs.PlanData.{PlanData}
use Rattle.input_texts.specs.InputText.{InputText, input_text}
use Rattle.input_texts.specs.Answer.{Fails, if_ok, input_or_fault, is_memory}
use Rattle.input_texts.specs.declared.fault.InputFault.{InputFault}
use Rattle.input_texts.specs.declared.fault.InputFault.TheVariants.{NotJson, Member}
use Rattle.input_texts.specs.Requirements.{has_sources}
use Rattle.stream_model.specs.InputData.{InputData}
use Rattle.input_texts.specs.Said.{partitions_under}
use Rattle.input_texts.specs.Seen.{SourceSeen, bound_under, source_seen, slot_of, slots_of}
pub use Rattle.input_texts.specs.declared.finding.Document.{Document}

-- the members' names and values
abbrev pub pairs : Members → List (List ℕ × Data)
pairs no_members = []
pairs (member k d ms) = (k, d) ∷ pairs ms

-- the names of a set, in their order
abbrev pub names_in : {A : Type 0} → BTreeSet (String A) → List (List ℕ)
names_in names = map (λ name. string_bytes name) names.keys

-- whether a source of the plan has the name
abbrev pub is_source : PlanData → List ℕ → Bool
is_source plan k = list_any (λ s. bytes_eq s.uid k) plan.sources

-- the names of members that the plan lacks
abbrev pub unknown_names : PlanData → Members → List (List ℕ)
unknown_names plan ms = filter (λ k. not (is_source plan k)) (names_of ms)

-- whether the plan lacks the name, and the member that has it has another form
abbrev pub is_other : PlanData → Members → List ℕ → Bool
is_other plan ms k = not (is_source plan k) && option_map_or (λ d. not (is_some (slot_of plan k d))) (get_member k ms) false

-- whether the member of a source has another form
abbrev pub is_other_slot : Option (Option SourceSeen) → Bool
is_other_slot None = false
is_other_slot (Some seen) = not (is_some seen)

-- of the members that were read, in the order of their names, this was noted, with at most so many names
pub record IsNoted (plan : PlanData) (most : ℕ) (ms : Members) (document : Document) : Type 0 where
  pub ordered : is_sorted (slice_cmp nat_cmp) (pairs ms) ≡ true
  pub filled : document.slots.items ≡ slots_of plan ms
  pub planned : document.is_planned ≡ list_all (is_source plan) (names_of ms)
  pub named : (k : List ℕ) → list_any (bytes_eq k) (names_in document.names) ≡ true → is_other plan ms k ≡ true
  pub told : document.are_more ≡ false → (k : List ℕ) → is_other plan ms k ≡ true → list_any (bytes_eq k) (names_in document.names) ≡ true
  pub many : document.are_more ≡ true → most < length (unknown_names plan ms)

-- the whole document is an object, of whose members this was noted; None: it is no object
abbrev pub Tells : PlanData → ℕ → Option Document → Data → Type 0
Tells plan most None d = input_text d ≡ None
Tells plan most (Some document) d = (ms : Members) × (d ≡ object ms) × IsNoted plan most ms document

-- what a value that is JSON says as an input, or its first fault
abbrev pub said_by : PlanData → Data → Result InputData InputFault
said_by plan d = if_ok (ok_or (input_text d) Member) (input_or_fault plan)

-- the same of what a text is read as, which is none where the text is no JSON
abbrev pub said_of : PlanData → Option Data → Result InputData InputFault
said_of plan value = option_map_or (said_by plan) value (Err NotJson)

-- and of a text
abbrev pub said_in : PlanData → List ℕ → Result InputData InputFault
said_in plan text = said_of plan (read text)

-- Answered of what a text is read as, with at most so many names noted: true of an input; a fault that is the first,
-- unless memory ran out; false where the plan lacks more of the members' names than that.
abbrev pub Checks : PlanData → ℕ → Option Data → Result Bool InputFault → Type 0
Checks plan most value (Ok true) = IsOk (said_of plan value)
Checks plan most value (Ok false) = (ms : Members) × (value ≡ Some (object ms)) × (most < length (unknown_names plan ms))
Checks plan most value (Err fault) = Fails is_memory fault (said_of plan value)

-- this is seen of the sources of a plan in a text that names them all, and no others
pub record AreSeen (plan : PlanData) (text : InputText) (found : List SourceSeen) : Type 0 where
  pub ordered : is_sorted (slice_cmp nat_cmp) text ≡ true
  pub named : has_sources plan text ≡ true
  pub seen : found ≡ map (λ s. source_seen (bound_under plan s.uid) plan.columns plan.window.time (partitions_under s.uid text)) plan.sources
