-- Legs that run on compiled layouts.
use Rattle.std.proofs.Common.{◌≡◌, ℕ, ◌<◌, List, [], ◌∷◌, length, refl, sym, ap, ◌∙◌}
use Rattle.plan_model.specs.PlanData.{PlanData, IsPlan}
use Rattle.stream_model.specs.InputData.{InputData}
use Rattle.stream_model.specs.Watermarks.{full_cut, empty_cut, merged_watermark}
use Rattle.dataflow_model.specs.declared.ending.Ending.TheVariants.{Asked}
use Rattle.dataflow_model.specs.Leg.{Until, leg_of, limit_of, until_at, count_at, ending_of}
use Rattle.dataflow_model.specs.Leg.Until.{ToEnd, ToCut, TillAsked}
use Rattle.dataflow_model.specs.AbstractLayout.{AbstractLayout, IsLayout, IsPlace, Deals, partition_read, reader_of, place_in_reader}
use Rattle.dataflow_model.specs.State.{State}
use Rattle.dataflow_model.specs.Start.{IsLegStart}
use Rattle.dataflow_model.specs.History.{History, IsComplete}
use Rattle.layout_rules.specs.declared.stage.Stage.{Stage}
use Rattle.layout_rules.specs.Rules.{IsCompiled}
use Rattle.layout_rules.specs.Scale.{ScaleData, IsScale}
use Rattle.layout_rules.proofs.Facts.{compiled_is_layout}
use Rattle.input_flow.specs.InputEntries.{entries_of, input_of, counts_at}
use Rattle.input_flow.proofs.Facts.{watermark_at_cut, full_is_cut, full_counts, empty_is_cut, empty_counts}
use Rattle.dataflow_laws.specs.Legs.{AreAt, JobLeg, cut_left}
use Rattle.dataflow_laws.specs.Legs.Legs.{first}
use Rattle.dataflow_laws.specs.Inputs.{GoesTo}
use Rattle.dataflow_laws.specs.Compiled.{cut_to, layout_to, CompiledLegDelivers, CompiledLegDeliversAt, CompiledLegDeliversAll, CompiledLegSoFar}
use Rattle.dataflow_laws.proofs.Exact.{leg_reaches_its_cut}
use Rattle.dataflow_laws.proofs.Delivered.{same_watermark, leg_delivers, legs_deliver_all, so_far_delivers}

-- after the last savepoint a partition is read to where the leg ends
limit_last : (size : ℕ → ℕ → ℕ) (until : Until) (saves : List (List (List ℕ))) (x q : ℕ) → limit_of size until saves (length saves) x q ≡ until_at size until x q
limit_last size until [] x q = refl
limit_last size until (cut ∷ cuts) x q = limit_last size until cuts x q

-- so far are the partitions read in the end
pub goes : (p : PlanData) (i : InputData) (n : ℕ) (saves : List (List (List ℕ))) (until : Until) (stages : List Stage) → Deals (input_of p i) (leg_of n saves until (entries_of i).size) (layout_to p i n saves until stages) → GoesTo p i (layout_to p i n saves until stages) (cut_to i until)
goes p i n saves until stages deals t k b a kl = limit_last (entries_of i).size until saves (L.task t).source ((L.task t).partition k) ∙ there until d
  where
    L : AbstractLayout
    L = layout_to p i n saves until stages

    d : IsPlace (input_of p i) (leg_of n saves until (entries_of i).size) L t k
    d = deals.there t k b a kl

    there : (u : Until) → IsPlace (input_of p i) (leg_of n saves until (entries_of i).size) L t k → until_at (entries_of i).size u (L.task t).source ((L.task t).partition k) ≡ counts_at p (cut_to i u) (partition_read (input_of p i) L t k)
    there ToEnd d = d.size ∙ ap (λ f. f (partition_read (input_of p i) L t k)) (sym (full_counts p i))
    there (ToCut cut) d = λ j. count_at cut (sym d.source j) (sym d.number j)
    there TillAsked d = d.size ∙ ap (λ f. f (partition_read (input_of p i) L t k)) (sym (full_counts p i))

not_asked : (until : Until) → (until ≡ TillAsked → ⊥) → ending_of until ≡ Asked → ⊥
not_asked ToEnd never e = cc
not_asked (ToCut cut) never e = cc
not_asked TillAsked never e = never refl

module _ (p : PlanData) (c : ScaleData) (i : InputData) (n : ℕ) (saves : List (List (List ℕ))) (until : Until) (stages : List Stage) (ip : IsPlan p) (sc : IsScale p c) (is : IsCompiled p c stages) (ask : until ≡ TillAsked → ⊥) (start : ℕ → State) (opens : IsLegStart p (layout_to p i n saves until stages) start) (h : History p (layout_to p i n saves until stages) start) (done : IsComplete h) where
  abbrev L : AbstractLayout
  L = layout_to p i n saves until stages

  pub laid : IsLayout L × Deals (input_of p i) (leg_of n saves until (entries_of i).size) L
  laid = compiled_is_layout p c (entries_of i) (leg_of n saves until (entries_of i).size) stages ip sc is

  -- the leg, as the theorems have it
  abbrev pub g : JobLeg p (input_of p i)
  g = record {
    leg = leg_of n saves until (entries_of i).size;
    layout = L;
    is_layout = laid.0;
    deals = laid.1;
    start = start;
    is_leg = opens.leg;
    history = h;
    complete = done;
  }

  pub comes : AreAt (input_of p i) L h.end (counts_at p (cut_to i until))
  comes t k b a kl = leg_reaches_its_cut p L start laid.0 opens.leg opens.opens h done (not_asked until ask) t k b a kl ∙ goes p i n saves until stages laid.1 t k b a kl

pub compiled_leg_delivers : CompiledLegDelivers
compiled_leg_delivers p c i n b saves until stages start ip sc is input orderly belongs b_cut c_cut ask opens has h done =
    leg_delivers p i b (cut_to i until) (g p c i n saves until stages ip sc is ask start opens h done) input orderly belongs b_cut c_cut opens.opens has (comes p c i n saves until stages ip sc is ask start opens h done)

pub compiled_leg_delivers_at : CompiledLegDeliversAt
compiled_leg_delivers_at p c i n b saves until stages start ip sc is input orderly belongs b_cut opens has h done cut is_cut came =
    let leg = leg_of n saves until (entries_of i).size in
    let both = compiled_is_layout p c (entries_of i) leg stages ip sc is in
    let one : JobLeg p (input_of p i) = record { leg = leg; layout = layout_to p i n saves until stages; is_layout = both.0; deals = both.1; start = start; is_leg = opens.leg; history = h; complete = done } in
    leg_delivers p i b cut one input orderly belongs b_cut is_cut opens.opens has came

pub compiled_leg_delivers_all : CompiledLegDeliversAll
compiled_leg_delivers_all p c i saves stages start ip sc is input orderly belongs opens nothing h done =
    let x = input_of p i in
    let full = full_cut i.sources in
    let one = g p c i 0 saves ToEnd stages ip sc is (λ e. cc) start opens h done in
    let came : (q : ℕ) → q < x.partitions → cut_left one q ≡ counts_at p full q = λ q l. let d = one.deals.dealt q l in
    comes p c i 0 saves ToEnd stages ip sc is (λ e. cc) start opens h done (reader_of x one.layout q) (place_in_reader x one.layout q) d.reads.early d.reads.role d.place ∙ ap (counts_at p full) d.back in
    let at_start = same_watermark x (λ q. 0) (counts_at p (empty_cut i.sources)) (merged_watermark i.sources (empty_cut i.sources)) (λ q l. ap (λ f. f q) (sym (empty_counts p i))) (watermark_at_cut p i (empty_cut i.sources) belongs (empty_is_cut i.sources)) in
    let at_end = same_watermark x (cut_left one) (counts_at p full) (merged_watermark i.sources full) came (watermark_at_cut p i full belongs (full_is_cut i.sources)) in
    legs_deliver_all p i one (merged_watermark i.sources full) (h.end one.layout.sink).rows ip input orderly belongs came (first one (record { opens = opens.opens; nothing = nothing }) at_start at_end)

pub compiled_leg_so_far : CompiledLegSoFar
compiled_leg_so_far p c i n b saves until stages start ip sc is input orderly belongs b_cut c_cut opens has h q =
    let leg = leg_of n saves until (entries_of i).size in
    let laid : IsLayout (layout_to p i n saves until stages) × Deals (input_of p i) leg (layout_to p i n saves until stages) = compiled_is_layout p c (entries_of i) leg stages ip sc is in
    so_far_delivers p i b (cut_to i until) leg (layout_to p i n saves until stages) start input orderly belongs b_cut c_cut laid.0 laid.1 opens.leg opens.opens has (goes p i n saves until stages laid.1) h q
