-- Calls of `job_leg`, each from what the one before gave, have written what is due.
use Rattle.std.proofs.Common.{◌≡◌, ◌∙◌, ℕ, ◌+◌, ◌<◌, List, [], ◌∷◌, ◌++◌, length, map, Some, None, Result, Ok, Err, refl, sym, ap, subst, arith, inl, inr}
use Rattle.std.proofs.lemmas.Bool.{cases_lt}
use Rattle.std.proofs.lemmas.List.{get_or_past}
use Rattle.std.proofs.lemmas.List.Concat.{flat_map-append}
use Rattle.std.specs.List.{All}
use Rattle.std.specs.Option.{option_to_list}
use Rattle.byte_fields.proofs.Exact.{IsBytes}
use Rattle.plan_model.specs.PlanData.{PlanData}
use Rattle.plan_model.specs.Rows.{AreRowsOf}
use Rattle.plan_model.specs.declared.spec.Row.{Row}
use Rattle.stream_model.specs.declared.entry.Marked.{Marked}
use Rattle.stream_model.specs.InputData.{InputData}
use Rattle.stream_model.specs.PlanRows.{due_rows}
use Rattle.stream_model.specs.Watermarks.{IsBefore, IsCut, IsOrderly, empty_cut}
use Rattle.input_flow.proofs.Facts.{empty_is_cut}
use Rattle.dataflow_laws.specs.Compiled.{cut_to}
use Rattle.dataflow_laws.specs.Inputs.{due_between}
use Rattle.logical_plan.specs.Answer.{plan_of_bytes}
use Rattle.logical_plan.specs.Laws.{SaidIsPlan}
use Rattle.input_changes.specs.Agreement.{entries_before}
use Rattle.input_texts.specs.Answer.{input_of_bytes}
use Rattle.stream_input.specs.Laws.{SaidIsInput}
use Rattle.plan_scale.specs.Answer.{scale_of_bytes}
use Rattle.legs.specs.declared.cut.Cut.{Cut}
use Rattle.legs.specs.declared.stop.Stop.{Stop}
use Rattle.legs.specs.Stops.{until_of}
use Rattle.savepoint_codec.specs.Layout.{IsSavepoint, unindexed_bytes}
use Rattle.savepoint_codec.specs.declared.savepoint.Contents.{Contents}
use Rattle.savepoint_index.specs.Answer.{savepoint_of_bytes}
use Rattle.savepoint_index.specs.Layout.{Spells, savepoint_bytes}
use Rattle.savepoint_index.proofs.Facts.{said_spells, spelled_said}
use Rattle.redistribute.specs.Begins.{HasSnapshot, IsFromNothing}
use Rattle.redistribute.specs.Snapshots.{saved_source, start_at}
use Rattle.redistribute.specs.StartData.{StartData, offsets_of}
use Rattle.restore.specs.Answer.{start_or_fault}
use Rattle.core_steps.proofs.Delivered.{none_at_first}
use Rattle.job_texts.specs.Text.{line_of, text_of_rows}
use Rattle.job_texts.specs.declared.fault.JobFault.TheVariants.{Plan, Input, Scale, Save, Restore}
use Rattle.job_legs.proofs.Facts.{come_to}
use Rattle.job.specs.Ends.{and_then, as_job}
use Rattle.job.specs.Leg.{IsLegTold, LegJob, LegRuns, aims_said, job_with, leg_by, leg_job, leg_on, leg_said, saves_said, start_said, stop_said, words}
use Rattle.job.proofs.Facts.{job_ok, ok_is, then_ok}
use Rattle.lineages.specs.Lineage.{GoesOnFrom}
use Rattle.lineages.specs.Calls.{AreGivenAt, AreHandedOn, AreRead, Calls, CallsAreAnswered, CallsAreExact, HaveTaken, IsAnswered, IsReach, LegCall, Reach, SaidComesFrom, written}
use Rattle.lineages.specs.Calls.Calls.{first, next}
use Rattle.lineages.specs.Changes.{CallsOverInputs, CallsOverInputsAreExact, SaySameEntries}
use Rattle.lineages.specs.Changes.CallsOverInputs.{first_on, next_on}
use Rattle.lineages.proofs.Changes.{AreFit, OneContent, is_carried}
use Rattle.lineages.proofs.Exact.{Carry, bytes_restart, due_too}
use Rattle.lineages.proofs.Outcomes.{outcome, reached_cut}

-- ---- what was said

are_bytes : (bytes : List ℕ) → All (λ b. b < 256) bytes → IsBytes bytes
are_bytes bytes small i = elim (cases_lt i (length bytes)) [
  | inl lt ↦ small i 0 lt
  | inr le ↦ rw (get_or_past bytes i 0 le) (omega arith)
]

pub said_comes_from : SaidComesFrom
unfolding start_said
said_comes_from p i bytes s small e =
    let a = then_ok (λ x. as_job Restore (start_or_fault p i x)) (as_job Save (savepoint_of_bytes bytes)) s e in
    let read = said_spells bytes a.0 (are_bytes bytes small) (job_ok Save (savepoint_of_bytes bytes) a.0 a.1) in
    record { savepoint = a.0; is_savepoint = read.0; spelled = read.1; checked = job_ok Restore (start_or_fault p i a.0) s a.2 }

-- and so it is of what was spelled
from_spelling : (p : PlanData) (i : InputData) (old : Contents) (bytes : List ℕ) (s : StartData) → IsSavepoint old → Spells bytes old → start_said p i (Some bytes) ≡ Ok s → GoesOnFrom p i old s
unfolding start_said
from_spelling p i old bytes s sound spelled e =
    let a = then_ok (λ x. as_job Restore (start_or_fault p i x)) (as_job Save (savepoint_of_bytes bytes)) s e in
    let same = spelled_said old a.0 bytes sound spelled (job_ok Save (savepoint_of_bytes bytes) a.0 a.1) in
    let checked : start_or_fault p i old ≡ Ok s = subst (λ x. start_or_fault p i x ≡ Ok s) same (job_ok Restore (start_or_fault p i a.0) s a.2) in
    record { bytes = bytes; spelled = spelled; comes = record { savepoint = old; is_savepoint = sound; spelled = spelled; checked = checked } }

-- what is handed on spells the savepoint that was given
handed_spells : OneContent → (old : Contents) (given bytes : List ℕ) → IsSavepoint old → given ≡ savepoint_bytes old → AreHandedOn given bytes → Spells bytes old
handed_spells one old given bytes sound wrote (inl same) = inl (same ∙ wrote)
handed_spells one old given bytes sound wrote (inr (s, is, spelled, handed)) = inr (handed ∙ ap unindexed_bytes (one s old given is sound (inl spelled) (inl wrote)))

pub calls_are_answered : CallsAreAnswered
calls_are_answered plan input scale from saves stop old new left (job, said, runs, (text, told, appends)) = (text, appends, record { job = job; said = said; runs = runs; told = told })

-- ---- a start from nothing

unread : (ps : List (List Marked)) → map (λ p. p.offset) (saved_source ps (map (λ p. 0) ps)) ≡ map (λ p. 0) ps
unread [] = refl
unread (p ∷ ps) = ap (λ z. 0 ∷ z) (unread ps)

all_unread : (ss : List (List (List Marked))) → offsets_of (start_at ss (empty_cut ss) 0) ≡ empty_cut ss
all_unread [] = refl
all_unread (s ∷ ss) = λ j. unread s j ∷ all_unread ss j

said_nothing : (p : PlanData) (i : InputData) (s : StartData) → start_said p i None ≡ Ok s → IsFromNothing i s
unfolding start_said
said_nothing p i s e = subst (IsFromNothing i) (ok_is (start_at i.sources (empty_cut i.sources) 0) s e) (record { number = refl; offsets = all_unread i.sources; groups = refl })

-- ---- a plan and an input

are_fit : SaidIsPlan → SaidIsInput → (plan input : List ℕ) (p : PlanData) (i : InputData) → AreRead plan input p i → AreFit p i
are_fit of_plan of_input plan input p i read =
    let sound = of_plan plan p read.plan_said in
    let is = of_input p input i sound read.input_said in
    record { plan = sound; input = is.0; orderly = subst (λ t. IsOrderly t i.sources) is.2.time is.1; belongs = is.2 }

-- texts of which a call has answered Ok say an input by the plan that they say
said_input : (plan input : List ℕ) (p : PlanData) (c : LegCall) → plan_of_bytes plan ≡ Ok p → IsAnswered plan input c → (i : InputData) × AreRead plan input p i
unfolding leg_said leg_by
said_input plan input p c plan_said a =
    let of_plan : leg_by p input c.scale c.from (words c.saves c.stop) ≡ Ok a.job = subst (λ r. and_then (λ x. leg_by x input c.scale c.from (words c.saves c.stop)) (as_job Plan r) ≡ Ok a.job) plan_said a.said in
    let b = then_ok (λ x. leg_on p x c.scale c.from (words c.saves c.stop)) (as_job Input (input_of_bytes p input)) a.job of_plan in
    (b.0, record { plan_said = plan_said; input_said = job_ok Input (input_of_bytes p input) b.0 b.1 })

-- ---- one call

-- where its leg starts, takes savepoints on its way and stops
record Says (p : PlanData) (i : InputData) (c : LegCall) (job : LegJob) : Type 0 where
  start : StartData
  saves : List Cut
  stop : Stop
  is : leg_job p i start (record { saves = saves; stop = stop }) ≡ job
  started : start_said p i c.from ≡ Ok start
  spelled : saves_said c.saves ≡ Ok saves
  stopped : stop_said c.stop ≡ Ok stop

says : (plan input : List ℕ) (p : PlanData) (i : InputData) (c : LegCall) (job : LegJob) → AreRead plan input p i → leg_said plan input c.scale c.from (words c.saves c.stop) ≡ Ok job → Says p i c job
unfolding leg_said leg_by leg_on job_with aims_said
says plan input p i c job read e =
    let w = words c.saves c.stop in
    let of_plan : leg_by p input c.scale c.from w ≡ Ok job = subst (λ r. and_then (λ x. leg_by x input c.scale c.from w) (as_job Plan r) ≡ Ok job) read.plan_said e in
    let of_input : leg_on p i c.scale c.from w ≡ Ok job = subst (λ r. and_then (λ x. leg_on p x c.scale c.from w) (as_job Input r) ≡ Ok job) read.input_said of_plan in
    let a = then_ok (λ x. job_with p i c.from w) (as_job Scale (scale_of_bytes p c.scale)) job of_input in
    let b = then_ok (λ s. and_then (λ aims. Ok (leg_job p i s aims)) (aims_said w)) (start_said p i c.from) job a.2 in
    let d = then_ok (λ aims. Ok (leg_job p i b.0 aims)) (aims_said w) job b.2 in
    let f = then_ok (λ saves. and_then (λ stop. Ok (record { saves = saves; stop = stop })) (stop_said c.stop)) (saves_said c.saves) d.0 d.1 in
    let g = then_ok (λ stop. Ok (record { saves = f.0; stop = stop })) (stop_said c.stop) d.0 f.2 in
    record {
      start = b.0;
      saves = f.0;
      stop = g.0;
      is = ◌∙◌ {a = leg_job p i b.0 (record { saves = f.0; stop = g.0 })} (ap (leg_job p i b.0) (ok_is (record { saves = f.0; stop = g.0 }) d.0 g.2)) (ok_is (leg_job p i b.0 d.0) job d.2);
      started = b.1;
      spelled = f.1;
      stopped = g.1;
    }

-- ---- all of them

-- the last of calls has answered
answered : (plan input : List ℕ) (last : LegCall) (earlier : List LegCall) → CallsOverInputs plan input (last ∷ earlier) → IsAnswered plan input last
answered plan input last [] (first_on nothing a) = a
answered plan input last (before ∷ earlier) (next_on calls to_come same saved handed from a) = a

record Comes (p : PlanData) (i : InputData) (last : LegCall) (earlier : List LegCall) : Type 0 where
  reach : Reach
  reached : IsReach last reach
  is_cut : IsCut i.sources (cut_to i (until_of reach.stop))
  rows : List Row
  due : AreRowsOf (due_rows p i.sources (cut_to i (until_of reach.stop))) rows
  lines : written (last ∷ earlier) ≡ text_of_rows rows
  before : ℕ
  taken : HaveTaken earlier before
  given : AreGivenAt p i (before + reach.taken) reach.last last.saved

module _ (carry : Carry) (of_plan : SaidIsPlan) (of_input : SaidIsInput) (plan : List ℕ) (p : PlanData) where
  -- a call from a cut, with its snapshot, adds the lines of what becomes due
  after : (input : List ℕ) (i : InputData) (fit : AreFit p i) (c : LegCall) (earlier : List LegCall) (a : IsAnswered plan input c) (says : Says p i c a.job) (b : List (List ℕ)) → HasSnapshot p i says.start → offsets_of says.start ≡ b
      → HaveTaken earlier says.start.number → IsCut i.sources b → (before : List Row) → AreRowsOf (due_rows p i.sources b) before → written earlier ≡ text_of_rows before → Comes p i c earlier
  after input i fit c earlier a says b has offsets taken is before due lines =
      let told = subst (λ (job : LegJob). LegRuns job None × IsLegTold c.abandoned job c.text c.saved) (sym says.is) (a.runs, a.told) in
      let out = outcome p i says.start says.saves says.stop c says.spelled says.stopped (subst (IsCut i.sources) (sym offsets) is) told.0 told.1 in
      let end = cut_to i (until_of out.reach.stop) in
      let text = out.text has in
      let rows : AreRowsOf (due_between p i.sources b end) text.rows = subst (λ o. AreRowsOf (due_between p i.sources o end) text.rows) offsets text.are in
      record {
        reach = out.reach;
        reached = out.reached;
        is_cut = out.is_cut;
        rows = before ++ text.rows;
        due = carry.add p i b end before text.rows fit.input (subst (λ o. IsBefore o end) offsets out.no_earlier) out.is_cut due rows;
        lines = (λ k. lines k ++ text.lines k) ∙ sym (flat_map-append line_of before text.rows);
        before = says.start.number;
        taken = taken;
        given = out.given has;
      }

  comes : (input : List ℕ) (i : InputData) → AreRead plan input p i → (last : LegCall) (earlier : List LegCall) → CallsOverInputs plan input (last ∷ earlier) → Comes p i last earlier
  comes input i read last [] (first_on nothing a) =
      let fit = are_fit of_plan of_input plan input p i read in
      let said = says plan input p i last a.job read a.said in
      let from = said_nothing p i said.start (subst (λ o. start_said p i o ≡ Ok said.start) nothing said.started) in
      let none_due : AreRowsOf (due_rows p i.sources (empty_cut i.sources)) [] = λ q. sym (ap option_to_list (carry.none p i q fit.orderly)) in
      after input i fit last [] a said (empty_cut i.sources) (none_at_first p i said.start from) from.offsets from.number (empty_is_cut i.sources) [] none_due refl
  comes input i read last (before ∷ earlier) (next_on {old = text} {given = gave} {bytes = bytes} calls to_come same saved handed from a) =
      let (old, old_read) = said_input plan text p before read.plan_said (answered plan text before earlier calls) in
      let c = comes text old old_read before earlier calls in
      let (cut, stops, last_is) = reached_cut before c.reach c.reached to_come in
      let number = c.before + c.reach.taken in
      let given = subst (λ x. AreGivenAt p old number x before.saved) last_is c.given in
      let held = given.0 in
      let is_savepoint = given.2 in
      let at = given.3 in
      let wrote : gave ≡ savepoint_bytes held = (let z : Some gave ≡ Some (savepoint_bytes held) = sym saved ∙ given.1 in cc) in
      let spelled = handed_spells carry.one held gave bytes is_savepoint wrote handed in
      let said = says plan input p i last a.job read a.said in
      let started = subst (λ o. start_said p i o ≡ Ok said.start) from said.started in
      let origin = from_spelling p i held bytes said.start is_savepoint spelled started in
      let is_cut : IsCut old.sources cut.counts = subst (λ x. IsCut old.sources (cut_to old (until_of x))) stops c.is_cut in
      let due : AreRowsOf (due_rows p old.sources cut.counts) c.rows = subst (λ x. AreRowsOf (due_rows p old.sources (cut_to old (until_of x))) c.rows) stops c.due in
      let old_fit = are_fit of_plan of_input plan text p old old_read in
      let fit = are_fit of_plan of_input plan input p i read in
      let there = is_carried carry.agreeing carry.keep carry.restart carry.one p old i cut.counts number held said.start old_fit fit is_cut at is_savepoint (same p old i c.reach cut number old_read read c.reached stops given) origin in
      let start = bytes_restart carry.restart carry.one p i cut.counts number held said.start fit.plan fit.input fit.belongs there.is_cut there.saved_at is_savepoint origin in
      let taken : HaveTaken (before ∷ earlier) said.start.number = (c.before, c.reach, c.taken, c.reached, start.number) in
      after input i fit last (before ∷ earlier) a said cut.counts start.snapshot start.offsets taken there.is_cut c.rows (due_too p old i cut.counts number held c.rows there due) c.lines

pub over_inputs_exact : Carry → SaidIsPlan → SaidIsInput → CallsOverInputsAreExact
over_inputs_exact carry of_plan of_input plan input p i last earlier read calls =
    let fit = are_fit of_plan of_input plan input p i read in
    let c = comes carry of_plan of_input plan p input i read last earlier calls in
    (c.reach, c.reached, record { rows = c.rows; are = come_to carry.end p i c.reach.stop c.rows fit.plan fit.input fit.belongs c.due; lines = c.lines; before = c.before; taken = c.taken; given = c.given })

-- ---- one text of an input for all of them

one_text : (plan input : List ℕ) (c : LegCall) → SaySameEntries plan input input c
one_text plan input c p i j reach cut number here there reached stopped given = let same : i ≡ j = ok_is i j (sym here.input_said ∙ there.input_said) in ap (λ (x : InputData). entries_before x.sources cut.counts) same

same_text : (plan input : List ℕ) (calls : List LegCall) → Calls plan input calls → CallsOverInputs plan input calls
same_text plan input [] l = elim l [ ]
same_text plan input (c ∷ []) (first nothing a) = first_on nothing a
same_text plan input (c ∷ before ∷ earlier) (next calls to_come saved handed from a) = next_on (same_text plan input (before ∷ earlier) calls) to_come (one_text plan input before) saved handed from a

pub calls_are_exact : CallsOverInputsAreExact → CallsAreExact
calls_are_exact made plan input p i last earlier read calls = made plan input p i last earlier read (same_text plan input (last ∷ earlier) calls)
