-- What is the same of two inputs that agree before a cut.
use Rattle.std.proofs.Common.{◌≡◌, ◌∙◌, ℕ, ℤ, List, [], ◌∷◌, ◌++◌, inl, inr, take, None, ap, refl, sym, if◌then◌else◌}
use Rattle.std.specs.Int.{int_min}
use Rattle.std.specs.Option.{option_and_then}
use Rattle.std.proofs.lemmas.Bool.{cases_Bool}
use Rattle.plain_data.specs.Times.{highest}
use Rattle.plan_model.specs.PlanData.{PlanData}
use Rattle.plan_model.specs.declared.spec.Pane.{Pane}
use Rattle.plan_model.specs.Rows.{is_due, kept_row}
use Rattle.stream_model.specs.declared.entry.Marked.{Marked}
use Rattle.stream_model.specs.InputData.{all_records, records_in, records_in_source}
use Rattle.stream_model.specs.Laws.{DueIsSettled}
use Rattle.stream_model.specs.PlanRows.{due_rows, plan_aggregate}
use Rattle.stream_model.specs.Watermarks.{IsCut, IsOrderly, merged_watermark, partition_watermark, records_before, records_before_in, source_watermark}
use Rattle.input_changes.specs.Agreement.{entries_before, entries_before_in, watermarks_at, watermarks_at_in}
use Rattle.input_changes.specs.Laws.{AgreeingAreSame}

-- the records before a cut are those of the entries before it
records_of_source : (ps : List (List Marked)) (ns : List ℕ) → records_before_in ps ns ≡ records_in_source (entries_before_in ps ns)
records_of_source [] ns = refl
records_of_source (p ∷ ps) [] = refl
records_of_source (p ∷ ps) (n ∷ ns) = ap (λ rs. records_in (take n p) ++ rs) (records_of_source ps ns)

records_of_entries : (ss : List (List (List Marked))) (cs : List (List ℕ)) → records_before ss cs ≡ all_records (entries_before ss cs)
records_of_entries [] cs = refl
records_of_entries (s ∷ ss) [] = refl
records_of_entries (s ∷ ss) (c ∷ cs) = λ k. records_of_source s c k ++ records_of_entries ss cs k

-- the merged watermark is the least of the watermarks
abbrev least_in : List ℤ → ℤ
least_in [] = highest
least_in (w ∷ ws) = int_min w (least_in ws)

abbrev least : List (List ℤ) → ℤ
least [] = highest
least (ws ∷ wss) = int_min (least_in ws) (least wss)

least_of_source : (ps : List (List Marked)) (ns : List ℕ) → source_watermark ps ns ≡ least_in (watermarks_at_in ps ns)
least_of_source [] ns = refl
least_of_source (p ∷ ps) [] = refl
least_of_source (p ∷ ps) (n ∷ ns) = ap (int_min (partition_watermark p n)) (least_of_source ps ns)

least_of_all : (ss : List (List (List Marked))) (cs : List (List ℕ)) → merged_watermark ss cs ≡ least (watermarks_at ss cs)
least_of_all [] cs = refl
least_of_all (s ∷ ss) [] = refl
least_of_all (s ∷ ss) (c ∷ cs) = λ k. int_min (least_of_source s c k) (least_of_all ss cs k)

-- what is due at a cut is made of the records before it
due_there : DueIsSettled → (plan : PlanData) (ss : List (List (List Marked))) (cut : List (List ℕ)) (q : Pane) → IsOrderly plan.window.time ss → IsCut ss cut
    → due_rows plan ss cut q ≡ (if is_due plan.window (merged_watermark ss cut) q.start then option_and_then (kept_row plan.window q) (plan_aggregate plan (records_before ss cut) q) else None)
due_there settled plan ss cut q orderly is =
    elim (cases_Bool (is_due plan.window (merged_watermark ss cut) q.start)) [
      | inl e ↦ rw e (ap (option_and_then (kept_row plan.window q)) (settled plan ss cut q orderly is e))
      | inr e ↦ rw e refl
    ]

pub agreeing_are_same : DueIsSettled → AgreeingAreSame
agreeing_are_same settled plan old new cut old_orderly new_orderly agree =
    let records : records_before old.sources cut ≡ records_before new.sources cut = records_of_entries old.sources cut ∙ ap all_records agree.entries ∙ sym (records_of_entries new.sources cut) in
    let watermark : merged_watermark old.sources cut ≡ merged_watermark new.sources cut = least_of_all old.sources cut ∙ ap least agree.watermarks ∙ sym (least_of_all new.sources cut) in
    record {
      records = records;
      watermark = watermark;
      due = λ q.
          due_there settled plan old.sources cut q old_orderly agree.of_old
          ∙ (λ k. if is_due plan.window (watermark k) q.start then option_and_then (kept_row plan.window q) (plan_aggregate plan (records k) q) else None)
          ∙ sym (due_there settled plan new.sources cut q new_orderly agree.of_new);
      snapshot = λ q k. if is_due plan.window (watermark k) q.start then None else plan_aggregate plan (records k) q;
    }
