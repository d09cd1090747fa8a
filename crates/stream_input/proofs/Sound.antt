-- What is read of a text that meets every requirement is an input of the plan.
use Rattle.std.proofs.Common.{option_map, ◌≡◌, ℕ, ℤ, ◌≤◌, true, ◌==◌, map, length, get_or, List, [], ◌∷◌, Option, Some, None, Result, Ok, Err, IsOk, subst, refl, ◌∙◌, arith}
use Rattle.std.proofs.lemmas.Bool.{and_parts, eqb-true, leb-true}
use Rattle.std.proofs.lemmas.List.{length-map}
use Rattle.std.proofs.lemmas.List.Elements.{All-map}
use Rattle.std.proofs.lemmas.List.Sums.{AllPass-from_list_all}
use Rattle.std.specs.List.{All, AllZip, list_all}
use Rattle.std.specs.Option.{option_map_or, option_or}
use Rattle.plan_model.specs.declared.limits.TheConstants.{MOST_SOURCES, MOST_PARTITIONS, MOST_RECORDS}
use Rattle.plan_model.specs.declared.spec.SourceSpec.{SourceSpec}
use Rattle.plan_model.specs.PlanData.{PlanData, IsPlan, IsBound}
use Rattle.stream_model.specs.declared.entry.Marked.{Marked}
use Rattle.input_texts.specs.declared.fault.InputFault.{InputFault}
use Rattle.answers.specs.Answer.{first_unmet}
use Rattle.answers.proofs.Facts.{met_first, no_fault}
use Rattle.stream_model.specs.InputData.{InputData, IsEntry, IsInput, BelongsTo, all_records}
use Rattle.input_texts.specs.declared.text.EntryText.{EntryText}
use Rattle.input_texts.specs.InputText.{InputText}
use Rattle.input_texts.specs.Said.{marked_of, partitions_under, sources_of, input_of}
use Rattle.input_texts.specs.Requirements.{is_timely, requirements, has_sources, has_partitions, has_width, has_numbers, has_rows, has_times, has_kinds, late_record, is_few}
use Rattle.stream_model.specs.Watermarks.{IsOrderly}
use Rattle.stream_model.specs.Late.{first_late}
use Rattle.input_texts.specs.Fault.{late_fault}
use Rattle.input_texts.specs.Answer.{if_ok, text_of_bytes, input_or_fault, input_of_bytes}
use Rattle.stream_model.proofs.Facts.{orderly}
use Rattle.stream_model.specs.Marks.{IsMarked}
use Rattle.stream_input.proofs.Marked.{marked_sound}
use Rattle.stream_input.proofs.Tables.{passes_under}

entries_sound : (bound : Option ℤ) (columns time : ℕ) (es : List EntryText) → IsBound bound → list_all (is_timely time) es ≡ true → All (IsEntry columns time) (map (marked_of bound columns time) es)
entries_sound bound columns time es bounded timely =
    All-map (IsEntry columns time) (marked_of bound columns time) es (λ k d h. marked_sound bound columns time (get_or es k d) bounded (AllPass-from_list_all (is_timely time) es timely k d h))

partitions_sound : (bound : Option ℤ) (columns time : ℕ) (ps : List (List EntryText)) → IsBound bound → list_all (list_all (is_timely time)) ps ≡ true → All (λ es. All (IsEntry columns time) es) (map (map (marked_of bound columns time)) ps)
partitions_sound bound columns time ps bounded timely =
    All-map (λ (es : List Marked). All (IsEntry columns time) es) (map (marked_of bound columns time)) ps
    (λ k d h. entries_sound bound columns time (get_or ps k d) bounded (AllPass-from_list_all (list_all (is_timely time)) ps timely k d h))

-- the partitions of a source
abbrev marked_under : PlanData → InputText → SourceSpec → List (List Marked)
marked_under plan text s = map (map (marked_of s.bound plan.columns plan.window.time)) (partitions_under s.uid text)

pub sources_sound : (plan : PlanData) (text : InputText) → IsPlan plan → has_times plan text ≡ true
    → All (λ ps. All (λ es. All (IsEntry plan.columns plan.window.time) es) ps) (sources_of plan text)
unfolding has_times
sources_sound plan text sound timely =
    All-map (λ (ps : List (List Marked)). All (λ es. All (IsEntry plan.columns plan.window.time) es) ps) (marked_under plan text) plan.sources
    (λ k d h. partitions_sound (get_or plan.sources k d).bound plan.columns plan.window.time _ (sound.bounded k d h) (passes_under (is_timely plan.window.time) _ text timely))

few_from : (plan : PlanData) (text : InputText) → is_few plan text ≡ true → length (all_records (sources_of plan text)) ≤ MOST_RECORDS
unfolding is_few
few_from plan text h = leb-true (length (all_records (sources_of plan text))) MOST_RECORDS h

pub partitions_few : (plan : PlanData) (text : InputText) → IsPlan plan → has_partitions plan text ≡ true → All (λ ps. length ps ≤ MOST_PARTITIONS) (sources_of plan text)
unfolding has_partitions
partitions_few plan text p met =
    All-map (λ (ps : List (List Marked)). length ps ≤ MOST_PARTITIONS) (marked_under plan text) plan.sources
    (λ k d h.
    let counted = eqb-true _ _ (AllPass-from_list_all (λ (s : SourceSpec). length (partitions_under s.uid text) == s.partitions) plan.sources met k d h) in
    let few = p.partitions_few k d h in
    let long = length-map (partitions_under (get_or plan.sources k d).uid text) (map (marked_of (get_or plan.sources k d).bound plan.columns plan.window.time)) in
    omega arith)

pub sources_few : (plan : PlanData) (text : InputText) → IsPlan plan → length (sources_of plan text) ≤ MOST_SOURCES
sources_few plan text p = rw (length-map plan.sources (marked_under plan text)) p.sources_few

partitions_are : (plan : PlanData) (text : InputText) (specs : List SourceSpec) → list_all (λ s. length (partitions_under s.uid text) == s.partitions) specs ≡ true
    → map (λ ps. length ps) (map (marked_under plan text) specs) ≡ map (λ (s : SourceSpec). s.partitions) specs
partitions_are plan text [] met = refl
partitions_are plan text (s ∷ ss) met =
    let parts = and_parts (length (partitions_under s.uid text) == s.partitions) (list_all (λ s. length (partitions_under s.uid text) == s.partitions) ss) met in
    let first : length (marked_under plan text s) ≡ s.partitions = length-map (partitions_under s.uid text) (map (marked_of s.bound plan.columns plan.window.time)) ∙ eqb-true _ _ parts.0 in
    rw (first, partitions_are plan text ss parts.1) refl

-- each entry has its mark
marks_are : (plan : PlanData) (text : InputText) (specs : List SourceSpec)
    → AllZip (λ s partitions. All (λ entries. All (IsMarked s.bound plan.window.time) entries) partitions) specs (map (marked_under plan text) specs)
marks_are plan text [] = tt
marks_are plan text (s ∷ ss) =
    let mark = marked_of s.bound plan.columns plan.window.time in (
      All-map (λ (es : List Marked). All (IsMarked s.bound plan.window.time) es) (map mark) (partitions_under s.uid text)
          (λ k d h. All-map (IsMarked s.bound plan.window.time) mark (get_or (partitions_under s.uid text) k d) (λ n e i. refl)),
      marks_are plan text ss,
    )

none_first : {X : Type 0} (o rest : Option X) → option_or o rest ≡ None → (o ≡ None) × (rest ≡ None)
none_first None rest h = (refl, h)
none_first (Some x) rest h = absurd cc

no_map : {X Y : Type 0} (f : X → Y) (o : Option X) → option_map f o ≡ None → o ≡ None
no_map f None h = refl
no_map f (Some x) h = absurd cc

orderly_sources : (plan : PlanData) (text : InputText) → late_record plan text ≡ None → IsOrderly plan.window.time (sources_of plan text)
unfolding late_record
orderly_sources plan text h = orderly plan.window.time (sources_of plan text) (no_map late_fault (first_late plan.window.time (sources_of plan text)) h)

record Met (plan : PlanData) (text : InputText) : Type 0 where
  wide : has_width plan text ≡ true
  sized : has_rows plan text ≡ true
  partitions : has_partitions plan text ≡ true
  times : has_times plan text ≡ true
  late : late_record plan text ≡ None
  few : is_few plan text ≡ true

met : (plan : PlanData) (text : InputText) → first_unmet (requirements plan) text ≡ None → Met plan text
unfolding requirements
met plan text h =
    let sources = met_first _ (has_sources plan text) _ h in
    let partitions = met_first _ (has_partitions plan text) _ sources.1 in
    let width = met_first _ (has_width plan text) _ partitions.1 in
    let numbers = met_first _ (has_numbers plan text) _ width.1 in
    let sized = met_first _ (has_rows plan text) _ numbers.1 in
    let times = met_first _ (has_times plan text) _ sized.1 in
    let kinds = met_first _ (has_kinds plan text) _ times.1 in
    let late = none_first (late_record plan text) _ kinds.1 in
    let few = met_first _ (is_few plan text) _ late.1 in
    record { wide = width.0; sized = sized.0; partitions = partitions.0; times = times.0; late = late.0; few = few.0 }

is_input : (plan : PlanData) (text : InputText) → IsPlan plan → Met plan text → IsInput (input_of plan text)
is_input plan text p m = record { entries = sources_sound plan text p m.times; few = few_from plan text m.few }

belongs_to : (plan : PlanData) (text : InputText) → Met plan text → BelongsTo plan (input_of plan text)
unfolding has_partitions
belongs_to plan text m = record { columns = refl; time = refl; partitions = partitions_are plan text plan.sources m.partitions; marks = marks_are plan text plan.sources }

-- what is known of an input that is read
pub record IsRead (plan : PlanData) (i : InputData) : Type 0 where
  pub input : IsInput i
  pub orderly : IsOrderly i.time i.sources
  pub belongs : BelongsTo plan i

sound : (plan : PlanData) (text : InputText) (i : InputData) → IsPlan plan → input_or_fault plan text ≡ Ok i → IsRead plan i
sound plan text i p h =
    let none = no_fault (first_unmet (requirements plan) text) (input_of plan text) i h in
    let m = met plan text none.0 in
    let P : InputData → Type 0 = λ x. IsRead plan x in
    subst P none.1 (record { input = is_input plan text p m; orderly = orderly_sources plan text m.late; belongs = belongs_to plan text m })

said_ok : (plan : PlanData) (o : Result InputText InputFault) (i : InputData) → if_ok o (input_or_fault plan) ≡ Ok i → (text : InputText) × (input_or_fault plan text ≡ Ok i)
said_ok plan (Ok text) i h = (text, h)
said_ok plan (Err fault) i h = absurd cc

-- the same of the bytes
pub read_sound : (plan : PlanData) (bytes : List ℕ) (i : InputData) → IsPlan plan → input_of_bytes plan bytes ≡ Ok i → IsRead plan i
unfolding input_of_bytes
read_sound plan bytes i p h = let text = said_ok plan (text_of_bytes bytes) i h in sound plan text.0 i p text.1

-- ---- what is built of a text without a fault

no_err : (o : Option InputFault) (i : InputData) → IsOk (option_map_or Err o (Ok i)) → o ≡ None
no_err None i h = refl
no_err (Some fault) i h = absurd (cc)

-- a text without a fault, which the bytes say
pub record Faultless (plan : PlanData) (bytes : List ℕ) (text : InputText) : Type 0 where
  pub wide : has_width plan text ≡ true
  pub sized : has_rows plan text ≡ true
  pub timely : has_times plan text ≡ true
  pub said : input_of_bytes plan bytes ≡ Ok (input_of plan text)

pub faultless : (plan : PlanData) (bytes : List ℕ) (text : InputText) → IsOk (input_of_bytes plan bytes) → text_of_bytes bytes ≡ Ok text → Faultless plan bytes text
unfolding input_of_bytes
faultless plan bytes text h said =
    let of_text : IsOk (input_or_fault plan text) = rw said at h in
    let none = no_err (first_unmet (requirements plan) text) (input_of plan text) of_text in
    let m = met plan text none in
    record { wide = m.wide; sized = m.sized; timely = m.times; said = rw (said, none) refl }
