-- At every moment legs have delivered nothing that is not due.
use Rattle.std.proofs.Common.{◌≡◌, ◌∙◌, ◌⊎◌, inl, inr, ℕ, Bool, true, false, List, [], ◌∷◌, ◌++◌, append-nil, Option, None, refl, sym, ap, subst, if◌then◌else◌}
use Rattle.std.proofs.lemmas.List.Elements.{filter-append}
use Rattle.std.specs.List.{filter}
use Rattle.std.specs.Option.{option_to_list}
use Rattle.plan_model.specs.declared.spec.Pane.{Pane}
use Rattle.plan_model.specs.declared.spec.Row.{Row}
use Rattle.plan_model.specs.PlanData.{PlanData}
use Rattle.plan_model.specs.Rows.{AreRowsOf, is_due, row_is_at}
use Rattle.stream_model.specs.InputData.{InputData}
use Rattle.stream_model.specs.Laws.{EndIsDue}
use Rattle.stream_model.specs.Watermarks.{IsCut, empty_cut, merged_watermark}
use Rattle.stream_model.specs.PlanRows.{due_rows, plan_rows}
use Rattle.input_flow.proofs.Facts.{empty_is_cut}
use Rattle.dataflow_laws.specs.Compiled.{cut_to}
use Rattle.dataflow_laws.specs.Inputs.{due_between}
use Rattle.legs.specs.declared.stop.Stop.{Stop}
use Rattle.legs.specs.declared.stop.Stop.TheVariants.{At}
use Rattle.legs.specs.Stops.{until_of}
use Rattle.redistribute.specs.StartData.{StartData, offsets_of}
use Rattle.redistribute.specs.Begins.{HasSnapshot}
use Rattle.redistribute.specs.Stopping.{CanStop}
use Rattle.restarts.specs.Laws.{IsStartAt}
use Rattle.core_steps.specs.Given.{GivenData}
use Rattle.core_steps.specs.World.{WorldData, IsGiven}
use Rattle.core_steps.specs.Finishing.{rows_in}
use Rattle.core_steps.proofs.Delivered.{world_so_far}
use Rattle.core_steps.proofs.Ending.{end_is_cut}
use Rattle.job_legs.specs.Laws.{EachRowAddsUp}
use Rattle.job_legs.specs.Ending.{rows_to}
use Rattle.job_legs.proofs.Facts.{before_end, row_to}
use Rattle.lineages.specs.Lineage.{EachMomentIsPart, IsUnderWay, delivered, given_of, leg_savepoint, savepoints_in}
use Rattle.lineages.specs.Lineage.UnderWay.{sets_out, goes_further}
use Rattle.lineages.specs.Changes.{EachMomentOverInputs}
use Rattle.lineages.specs.Changes.UnderWayOverInputs.{sets_out_on, goes_further_with}
use Rattle.lineages.proofs.Changes.{AreFit}
use Rattle.lineages.proofs.Gives.{fit_of}
use Rattle.lineages.proofs.Exact.{Carry, at_first, comes, due_too, from_savepoint, left_to, one_input}

-- nothing of a list, or all of it
abbrev IsPart : List Row → List Row → Type 0
IsPart xs all = (xs ≡ []) ⊎ (xs ≡ all)

-- what is due at the earlier cut is part of what is due at the later one
earlier_part : (due : Bool) (x y z : Option Row) → option_to_list (if due then x else None) ++ option_to_list (if due then None else y) ≡ option_to_list z → IsPart (option_to_list (if due then x else None)) (option_to_list z)
earlier_part true x y z e = inr (sym (append-nil (option_to_list x)) ∙ e)
earlier_part false x y z e = inl refl

together : (q : Pane) (before rows was more all : List Row) → filter (row_is_at q) before ≡ was → IsPart (filter (row_is_at q) rows) more → was ++ more ≡ all → IsPart was all → IsPart (filter (row_is_at q) (before ++ rows)) all
together q before rows was more all b (inr r) sum part = inr (filter-append (row_is_at q) before rows ∙ (λ k. b k ++ r k) ∙ sum)
together q before rows was more all b (inl r) sum (inl none) = inl (filter-append (row_is_at q) before rows ∙ (λ k. b k ++ r k) ∙ append-nil was ∙ none)
together q before rows was more all b (inl r) sum (inr whole) = inr (filter-append (row_is_at q) before rows ∙ (λ k. b k ++ r k) ∙ append-nil was ∙ whole)

module _ (p : PlanData) (i : InputData) (s : StartData) (saves : List (List (List ℕ))) (stop : Stop) (w : WorldData) (way : IsUnderWay p i s saves stop w) where
  abbrev end : List (List ℕ)
  end = cut_to i (until_of stop)

  on_way : IsGiven (given_of p i s way.layout saves stop)
  on_way = subst IsGiven way.given way.world.sound.given

  fit : AreFit p i
  fit = fit_of p i s way.layout saves stop on_way

  pub so_far : HasSnapshot p i s → (q : Pane) → IsPart (filter (row_is_at q) (rows_in w)) (option_to_list (due_between p i.sources (offsets_of s) end q))
  so_far = subst (λ (g : GivenData). HasSnapshot g.plan g.input g.start → (q : Pane) → IsPart (filter (row_is_at q) (rows_in w)) (option_to_list (due_between g.plan g.input.sources (offsets_of g.start) (cut_to g.input g.until) q))) way.given (world_so_far w way.world)

  -- with what was delivered where it began
  with_earlier : EachRowAddsUp → (b : List (List ℕ)) (number : ℕ) → IsStartAt p i b number s → IsCut i.sources b → (before : List Row) → AreRowsOf (due_rows p i.sources b) before → (q : Pane)
      → IsPart (filter (row_is_at q) (before ++ rows_in w)) (option_to_list (due_rows p i.sources end q))
  with_earlier add b number at is before due q =
      let can : CanStop i.sources b stop = subst (λ c. CanStop i.sources c stop) at.offsets on_way.stops in
      let sum = add p i b end q on_way.input (before_end i b stop is can) (end_is_cut i b stop can) in
      let more = subst (λ c. IsPart (filter (row_is_at q) (rows_in w)) (option_to_list (due_between p i.sources c end q))) at.offsets (so_far at.snapshot q) in
      together q before (rows_in w) _ _ _ (due q) more sum (earlier_part (is_due p.window (merged_watermark i.sources b) q.start) (plan_rows p i.sources q) (due_rows p i.sources end q) (due_rows p i.sources end q) sum)

  due_there : EndIsDue → (xs : List Row) (q : Pane) → IsPart xs (option_to_list (due_rows p i.sources end q)) → IsPart xs (option_to_list (rows_to p i stop q))
  due_there at_end xs q = subst (λ o. IsPart xs (option_to_list o)) (row_to at_end p i stop q on_way.plan on_way.input on_way.belongs)

pub each_moment : EachRowAddsUp → Carry → EachMomentOverInputs
each_moment each carry p i stop w [] (sets_out_on {s = s} {saves = saves} nothing way) q =
    let f = fit p i s saves stop w way in
    let at = at_first p i s (on_way p i s saves stop w way).starts nothing in
    let none_due : AreRowsOf (due_rows p i.sources (empty_cut i.sources)) [] = λ x. sym (ap option_to_list (carry.none p i x f.orderly)) in
    due_there p i s saves stop w way carry.end (filter (row_is_at q) (rows_in w)) q (with_earlier p i s saves stop w way each (empty_cut i.sources) 0 at (empty_is_cut i.sources) [] none_due q)
each_moment each carry p i stop w (before ∷ earlier) (goes_further_with {old = old} {cut = cut} {s = s} {saves = saves} legs same savepoint from way) q =
    let c = comes carry p old (At cut) (before ∷ earlier) legs in
    let f = fit p i s saves stop w way in
    let there = left_to carry p old i cut before earlier s c f same savepoint from in
    let number = savepoints_in (before ∷ earlier) in
    let at = from_savepoint p i s f carry.restart carry.one cut.counts number (leg_savepoint before) there.is_cut there.saved_at savepoint from in
    due_there p i s saves stop w way carry.end _ q
    (with_earlier p i s saves stop w way each cut.counts number at there.is_cut (delivered (before ∷ earlier)) (due_too p old i cut.counts number (leg_savepoint before) (delivered (before ∷ earlier)) there c.due) q)

-- with one input for all of them
pub one_input_is_part : EachMomentOverInputs → EachMomentIsPart
one_input_is_part made p i stop w [] (sets_out nothing way) q = made p i stop w [] (sets_out_on nothing way) q
one_input_is_part made p i stop w (before ∷ earlier) (goes_further {cut = cut} legs savepoint from way) q =
    made p i stop w (before ∷ earlier) (goes_further_with (one_input p i (At cut) (before ∷ earlier) legs) refl savepoint from way) q
