-- What a savepoint at a cut is worth where the input changed behind the cut.
use Rattle.std.proofs.Common.{◌≡◌, ◌∙◌, ℕ, ◌≤◌, ◌^◌, true, List, [], ◌∷◌, length, None, Ok, ap, refl, sym, subst, if◌then◌else◌}
use Rattle.std.specs.List.{AllZip, list_all, zip}
use Rattle.std.proofs.lemmas.Bool.{and_parts, leb-true}
use Rattle.std.proofs.lemmas.Bool.Decides.{Decides-int_eq}
use Rattle.answers.proofs.Facts.{met_first, no_fault}
use Rattle.plan_model.specs.PlanData.{PlanData, IsPlan}
use Rattle.plan_model.specs.declared.spec.Pane.{Pane}
use Rattle.plan_model.specs.Rows.{is_due}
use Rattle.stream_model.specs.declared.entry.Marked.{Marked}
use Rattle.stream_model.specs.InputData.{InputData, IsInput, BelongsTo}
use Rattle.stream_model.specs.Watermarks.{IsCut, IsOrderly, partition_watermark}
use Rattle.stream_model.specs.PlanRows.{due_rows}
use Rattle.input_changes.specs.Agreement.{HaveSameEntries, watermarks_at, watermarks_at_in}
use Rattle.input_changes.specs.Laws.{AgreeEarlier, AgreeingAreSame, EntriesKeepTheCut}
use Rattle.redistribute.specs.StartData.{StartData}
use Rattle.redistribute.specs.Snapshots.{saved_source, saved_sources}
use Rattle.savepoint_codec.specs.Layout.{IsSavepoint}
use Rattle.savepoint_codec.specs.declared.savepoint.Contents.{Contents}
use Rattle.savepoint_index.specs.Layout.{Spells}
use Rattle.gather.specs.Saved.{savepoint_of}
use Rattle.restore.specs.Answer.{start_of, start_or_fault}
use Rattle.restore.specs.Requirements.{every_partition, has_max, has_known_uids, has_all_uids, has_plan, has_partitions, has_offsets, has_watermarks, has_groups, has_open_windows, has_counts, has_number, is_watermark, plan_requirements, input_requirements}
use Rattle.legs.specs.declared.restore_fault.RestoreFault.TheVariants.{MaxParallelism, UnknownUid, MissingUid, PlanChanged, Partitions, Offset, Watermark, WrongGroup, ClosedWindow, Count, Number}
use Rattle.restarts.specs.Laws.{SnapshotsRestart, savepoint_at}
use Rattle.leg_tasks.specs.Saved.{IsSavedAt}
use Rattle.lineages.specs.Lineage.{GoesOnFrom}
use Rattle.lineages.specs.Changes.{AcceptedAgree, BetweenIsSame}

-- ---- what the check of a savepoint has found

-- its watermarks are the input's, and its number leaves room for those of legs to come
pub record HasPassed (p : PlanData) (i : InputData) (s : Contents) : Type 0 where
  pub watermarks : has_watermarks p i s ≡ true
  pub number : s.number ≤ 2 ^ 63

pub has_passed : (p : PlanData) (i : InputData) (s : Contents) (d : StartData) → start_or_fault p i s ≡ Ok d → HasPassed p i s
unfolding plan_requirements input_requirements has_number
has_passed p i s d accepted =
    let said = no_fault _ (start_of p s) d accepted in
    let a = (met_first MaxParallelism (has_max p s) _ said.0).1 in
    let b = (met_first UnknownUid (has_known_uids p s) _ a).1 in
    let e = (met_first MissingUid (has_all_uids p s) _ b).1 in
    let f = (met_first PlanChanged (has_plan p s) _ e).1 in
    let g = (met_first Partitions (has_partitions p s) _ f).1 in
    let h = (met_first Offset (has_offsets p i s) _ g).1 in
    let k = met_first Watermark (has_watermarks p i s) _ h in
    let l = (met_first WrongGroup (has_groups p s) _ k.1).1 in
    let m = (met_first ClosedWindow (has_open_windows p i s) _ l).1 in
    let n = (met_first Count (has_counts p i s) _ m).1 in
    record { watermarks = k.0; number = leb-true s.number (2 ^ 63) (met_first Number (has_number s) _ n).0 }

-- ---- watermarks that are saved are those of the cut

marks_in : (ps rs : List (List Marked)) (ns : List ℕ) → AllZip (λ p n. n ≤ length p) ps ns → AllZip (λ p n. n ≤ length p) rs ns → list_all is_watermark (zip (saved_source ps ns) rs) ≡ true → watermarks_at_in ps ns ≡ watermarks_at_in rs ns
marks_in [] [] [] here there h = refl
marks_in (p ∷ ps) (r ∷ rs) (n ∷ ns) here there h =
    let parts = and_parts _ (list_all is_watermark (zip (saved_source ps ns) rs)) h in
    let mark : partition_watermark p n ≡ partition_watermark r n = (Decides-int_eq (partition_watermark p n) (partition_watermark r n)).0 parts.0 in
    λ k. mark k ∷ marks_in ps rs ns here.1 there.1 parts.1 k
marks_in [] rs (n ∷ ns) here there h = absurd here
marks_in (p ∷ ps) rs [] here there h = absurd here
marks_in (p ∷ ps) [] (n ∷ ns) here there h = absurd there
marks_in [] (r ∷ rs) [] here there h = absurd there

marks : (ss rs : List (List (List Marked))) (cs : List (List ℕ)) → IsCut ss cs → IsCut rs cs → every_partition is_watermark (saved_sources ss cs) rs ≡ true → watermarks_at ss cs ≡ watermarks_at rs cs
marks [] [] [] here there h = refl
marks (s ∷ ss) (r ∷ rs) (c ∷ cs) here there h =
    let parts = and_parts _ (every_partition is_watermark (saved_sources ss cs) rs) h in
    λ k. marks_in s r c here.0 there.0 parts.0 k ∷ marks ss rs cs here.1 there.1 parts.1 k
marks [] rs (c ∷ cs) here there h = absurd here
marks (s ∷ ss) rs [] here there h = absurd here
marks (s ∷ ss) [] (c ∷ cs) here there h = absurd there
marks [] (r ∷ rs) [] here there h = absurd there

-- and what is saved of partitions is their counts and watermarks
saved_in : (ps rs : List (List Marked)) (ns : List ℕ) → AllZip (λ p n. n ≤ length p) ps ns → AllZip (λ p n. n ≤ length p) rs ns → watermarks_at_in ps ns ≡ watermarks_at_in rs ns → saved_source ps ns ≡ saved_source rs ns
saved_in [] [] [] here there same = refl
saved_in (p ∷ ps) (r ∷ rs) (n ∷ ns) here there same =
    let mark : partition_watermark p n ≡ partition_watermark r n = cc in
    let others : watermarks_at_in ps ns ≡ watermarks_at_in rs ns = cc in
    λ k. record { offset = n; watermark = mark k } ∷ saved_in ps rs ns here.1 there.1 others k
saved_in [] rs (n ∷ ns) here there same = absurd here
saved_in (p ∷ ps) rs [] here there same = absurd here
saved_in (p ∷ ps) [] (n ∷ ns) here there same = absurd there
saved_in [] (r ∷ rs) [] here there same = absurd there

saved_in_all : (ss rs : List (List (List Marked))) (cs : List (List ℕ)) → IsCut ss cs → IsCut rs cs → watermarks_at ss cs ≡ watermarks_at rs cs → saved_sources ss cs ≡ saved_sources rs cs
saved_in_all [] [] [] here there same = refl
saved_in_all (s ∷ ss) (r ∷ rs) (c ∷ cs) here there same =
    let first : watermarks_at_in s c ≡ watermarks_at_in r c = cc in
    let others : watermarks_at ss cs ≡ watermarks_at rs cs = cc in
    λ k. saved_in s r c here.0 there.0 first k ∷ saved_in_all ss rs cs here.1 there.1 others k
saved_in_all [] rs (c ∷ cs) here there same = absurd here
saved_in_all (s ∷ ss) rs [] here there same = absurd here
saved_in_all (s ∷ ss) [] (c ∷ cs) here there same = absurd there
saved_in_all [] (r ∷ rs) [] here there same = absurd there

-- ---- from one input to another

-- a plan, and an input that was read by it
pub record AreFit (p : PlanData) (i : InputData) : Type 0 where
  pub plan : IsPlan p
  pub input : IsInput i
  pub orderly : IsOrderly p.window.time i.sources
  pub belongs : BelongsTo p i

abbrev pub OneContent : Type 0
OneContent = (a b : Contents) (bytes : List ℕ) → IsSavepoint a → IsSavepoint b → Spells bytes a → Spells bytes b → a ≡ b

-- a savepoint at a cut, by its parts, that is checked is accepted as it stands
pub accepted_at : OneContent → (p : PlanData) (i new : InputData) (cut : List (List ℕ)) (number : ℕ) (old : Contents) (s : StartData) (at : IsSavedAt p i cut number old) → IsSavepoint old → GoesOnFrom p new old s
    → start_or_fault p new (savepoint_at p i cut at.windows number) ≡ Ok s
accepted_at one p i new cut number old s at savepoint from =
    let read = from.comes in
    subst (λ x. start_or_fault p new x ≡ Ok s) (one read.savepoint old from.bytes read.is_savepoint savepoint read.spelled from.spelled ∙ at.is) read.checked

pub accepted_agree : EntriesKeepTheCut → SnapshotsRestart → OneContent → AcceptedAgree
unfolding has_watermarks
accepted_agree keep restart one p old new cut number saved s plan input of_old of_new is at savepoint same from =
    let held = savepoint_at p old cut at.windows number in
    let passed = has_passed p new held s (accepted_at one p old new cut number saved s at savepoint from) in
    let start = restart p old cut at.windows number (record { plan = plan; input = input; belongs = of_old; cut = is; windows = at.snapshot }) passed.number in
    let read : (start_of p held).sources ≡ saved_sources old.sources cut = start.in_input.partitions ∙ ap (saved_sources old.sources) start.offsets in
    let kept = keep old new cut (of_old.partitions ∙ sym of_new.partitions) is same in
    record {
      columns = of_old.columns ∙ sym of_new.columns;
      time = of_old.time ∙ sym of_new.time;
      of_old = is;
      of_new = kept;
      entries = same;
      watermarks = marks old.sources new.sources cut is kept (subst (λ x. every_partition is_watermark x new.sources ≡ true) read passed.watermarks);
    }

pub between_is_same : AgreeEarlier → AgreeingAreSame → BetweenIsSame
between_is_same earlier agreeing p old new b c q old_orderly new_orderly before agree =
    let at = agreeing p old new b old_orderly new_orderly (earlier old new b c before agree) in
    let there = agreeing p old new c old_orderly new_orderly agree in
    λ k. if is_due p.window (at.watermark k) q.start then None else there.due q k

-- what a job of the plan by the old input has come to at a cut, it has come to by the new one
pub record IsCarried (p : PlanData) (old new : InputData) (cut : List (List ℕ)) (number : ℕ) (saved : Contents) : Type 0 where
  pub is_cut : IsCut new.sources cut
  pub saved_at : IsSavedAt p new cut number saved
  pub due : (q : Pane) → due_rows p old.sources cut q ≡ due_rows p new.sources cut q

pub is_carried : AgreeingAreSame → EntriesKeepTheCut → SnapshotsRestart → OneContent → (p : PlanData) (old new : InputData) (cut : List (List ℕ)) (number : ℕ) (saved : Contents) (s : StartData) → AreFit p old → AreFit p new → IsCut old.sources cut
    → IsSavedAt p old cut number saved → IsSavepoint saved → HaveSameEntries old new cut → GoesOnFrom p new saved s → IsCarried p old new cut number saved
is_carried agreeing keep restart one p old new cut number saved s of_old of_new is at savepoint same from =
    let agree = accepted_agree keep restart one p old new cut number saved s of_old.plan of_old.input of_old.belongs of_new.belongs is at savepoint same from in
    let there = agreeing p old new cut of_old.orderly of_new.orderly agree in
    record {
      is_cut = agree.of_new;
      saved_at = record {
        windows = at.windows;
        snapshot = λ q. at.snapshot q ∙ there.snapshot q;
        is = at.is ∙ ap (λ ss. savepoint_of p ss at.windows number) (saved_in_all old.sources new.sources cut is agree.of_new agree.watermarks);
      };
      due = there.due;
    }
