-- The start from a savepoint that is accepted is one of the input.
use Rattle.std.proofs.Common.{◌≡◌, ℕ, ◌≤◌, ◌^◌, ℤ, true, false, List, [], ◌∷◌, drop, length, map, get_or, Ok, refl, sym, ap, ◌∙◌, arith}
use Rattle.std.specs.Prelude.{◌==◌}
use Rattle.std.specs.List.{All, AllZip, list_all, zip}
use Rattle.std.proofs.lemmas.Bool.{eqb-true, leb-true, and_parts}
use Rattle.std.proofs.lemmas.Bool.Decides.{Decides-int_eq}
use Rattle.std.proofs.lemmas.Int.{ints}
use Rattle.std.proofs.lemmas.List.Sums.{AllPass-from_list_all}
use Rattle.answers.proofs.Facts.{met_first}
use Rattle.plain_data.specs.Times.{lowest}
use Rattle.plan_model.specs.declared.spec.Aggregate.{Aggregate}
use Rattle.plan_model.specs.declared.spec.WindowSpec.{WindowSpec}
use Rattle.plan_model.specs.declared.limits.TheConstants.{MOST_RECORDS}
use Rattle.plan_model.specs.PlanData.{PlanData, IsPlan}
use Rattle.plan_model.specs.Rows.{is_due}
use Rattle.plan_model.specs.Uids.{is_nat_within}
use Rattle.aggregates.specs.declared.kind.Kind.{Kind}
use Rattle.aggregates.specs.declared.kind.Kind.TheVariants.{Count, Sum, Least, Greatest}
use Rattle.aggregates.specs.Kinds.{kind_of, are_numbers}
use Rattle.savepoint_codec.specs.Fields.{kind_code}
use Rattle.savepoint_codec.specs.EntriesData.{EntryData}
use Rattle.savepoint_codec.specs.declared.savepoint.Contents.{Contents}
use Rattle.savepoint_codec.specs.declared.savepoint.SavedGroup.{SavedGroup}
use Rattle.savepoint_codec.specs.declared.savepoint.SavedPartition.{SavedPartition}
use Rattle.stream_model.specs.declared.entry.Marked.{Marked}
use Rattle.stream_model.specs.InputData.{InputData, BelongsTo}
use Rattle.stream_model.specs.Watermarks.{IsCut, partition_watermark, merged_watermark, records_before}
use Rattle.redistribute.specs.Begins.{IsStartIn, IsOpenEntry, AreOpenGroups}
use Rattle.redistribute.specs.Snapshots.{saved_source, saved_sources}
use Rattle.legs.specs.declared.restore_fault.RestoreFault.TheVariants.{MaxParallelism, UnknownUid, MissingUid, PlanChanged, Offset, Watermark, WrongGroup, ClosedWindow, Count as TooMany, Number}
use Rattle.restore.specs.Answer.{start_of, met_or_fault}
use Rattle.restore.specs.Requirements.{has_max, has_known_uids, has_all_uids, has_plan, has_offsets, has_watermarks, has_groups, has_open_windows, has_counts, has_number, plan_requirements, input_requirements, are_kinds, every_partition, every_entry, is_within, is_watermark, is_in_group, is_reached, is_open}
use Rattle.restore.specs.Saved.{saved_sources as saved_of, cut_of}
use Rattle.restore.specs.Sound.{IsSoundEntry, IsSoundGroup}
use Rattle.restore.proofs.Few.{few_in_panes}
use Rattle.restore.proofs.Shape.{none_of, start_shaped}
use Rattle.restore.proofs.Windows.{starts_within}

-- ---- how far each partition was read

fits_in : (ps : List SavedPartition) (es : List (List Marked)) → length ps ≡ length es → list_all is_within (zip ps es) ≡ true → AllZip (λ e n. n ≤ length e) es (map (λ p. p.offset) ps)
fits_in [] [] l h = tt
fits_in [] (e ∷ es) l h = absurd (omega (arith, l))
fits_in (p ∷ ps) [] l h = absurd (omega (arith, l))
fits_in (p ∷ ps) (e ∷ es) l h = let parts = and_parts (is_within (p, e)) (list_all is_within (zip ps es)) h in (leb-true p.offset (length e) parts.0, fits_in ps es (omega (arith, l)) parts.1)

pub cut_fits : (saved : List (List SavedPartition)) (sources : List (List (List Marked))) → map (λ ps. length ps) saved ≡ map (λ es. length es) sources → every_partition is_within saved sources ≡ true → IsCut sources (cut_of saved)
cut_fits [] [] l h = tt
cut_fits [] (s ∷ ss) l h = absurd cc
cut_fits (s ∷ ss) [] l h = absurd cc
cut_fits (ps ∷ saved) (es ∷ sources) l h =
    let parts = and_parts (list_all is_within (zip ps es)) (every_partition is_within saved sources) h in
    let first : length ps ≡ length es = ap (λ ns. get_or ns 0 0) l in
    let rest : map (λ xs. length xs) saved ≡ map (λ xs. length xs) sources = ap (drop 1) l in
    (fits_in ps es first parts.0, cut_fits saved sources rest parts.1)

marks_in : (ps : List SavedPartition) (es : List (List Marked)) → length ps ≡ length es → list_all is_watermark (zip ps es) ≡ true → ps ≡ saved_source es (map (λ p. p.offset) ps)
marks_in [] [] l h = refl
marks_in [] (e ∷ es) l h = absurd (omega (arith, l))
marks_in (p ∷ ps) [] l h = absurd (omega (arith, l))
marks_in (p ∷ ps) (e ∷ es) l h =
    let parts = and_parts (is_watermark (p, e)) (list_all is_watermark (zip ps es)) h in
    let mark : p.watermark ≡ partition_watermark e p.offset = (Decides-int_eq p.watermark (partition_watermark e p.offset)).0 parts.0 in
    let rest = marks_in ps es (omega (arith, l)) parts.1 in
    λ j. record { offset = p.offset; watermark = mark j } ∷ rest j

pub marks_fit : (saved : List (List SavedPartition)) (sources : List (List (List Marked))) → map (λ ps. length ps) saved ≡ map (λ es. length es) sources → every_partition is_watermark saved sources ≡ true → saved ≡ saved_sources sources (cut_of saved)
marks_fit [] [] l h = refl
marks_fit [] (s ∷ ss) l h = absurd cc
marks_fit (s ∷ ss) [] l h = absurd cc
marks_fit (ps ∷ saved) (es ∷ sources) l h =
    let parts = and_parts (list_all is_watermark (zip ps es)) (every_partition is_watermark saved sources) h in
    let first = marks_in ps es (ap (λ ns. get_or ns 0 0) l) parts.0 in
    let rest = marks_fit saved sources (ap (drop 1) l) parts.1 in
    λ j. first j ∷ rest j

-- ---- the entries

same_kind : (k l : Kind) → (kind_code k == kind_code l) ≡ true → k ≡ l
same_kind Count Count h = refl
same_kind Count Sum h = absurd cc
same_kind Count Least h = absurd cc
same_kind Count Greatest h = absurd cc
same_kind Sum Count h = absurd cc
same_kind Sum Sum h = refl
same_kind Sum Least h = absurd cc
same_kind Sum Greatest h = absurd cc
same_kind Least Count h = absurd cc
same_kind Least Sum h = absurd cc
same_kind Least Least h = refl
same_kind Least Greatest h = absurd cc
same_kind Greatest Count h = absurd cc
same_kind Greatest Sum h = absurd cc
same_kind Greatest Least h = absurd cc
same_kind Greatest Greatest h = refl

pub kinds_in : (ks : List Kind) (xs : List Aggregate) → length ks ≡ length xs → list_all (λ x. kind_code x.0 == kind_code (kind_of x.1)) (zip ks xs) ≡ true → ks ≡ map kind_of xs
kinds_in [] [] l h = refl
kinds_in [] (a ∷ xs) l h = absurd (omega (arith, l))
kinds_in (k ∷ ks) [] l h = absurd (omega (arith, l))
kinds_in (k ∷ ks) (a ∷ xs) l h =
    let parts = and_parts (kind_code k == kind_code (kind_of a)) (list_all (λ x. kind_code x.0 == kind_code (kind_of x.1)) (zip ks xs)) h in
    let first = same_kind k (kind_of a) parts.0 in
    let rest = kinds_in ks xs (omega (arith, l)) parts.1 in
    λ j. first j ∷ rest j

pub not_due_first : (w : WindowSpec) (s : ℤ) → is_reached w s ≡ true → is_due w lowest s ≡ false
not_due_first w s h = grind (arith, ints)

open_entry : (p : PlanData) (kinds : List Kind) (n : ℕ) (t : ℤ) (e : EntryData) → IsPlan p → kinds ≡ map kind_of p.window.aggregates → is_in_group p.max n e ≡ true → is_open p.window t e ≡ true → IsSoundEntry kinds e → IsOpenEntry p kinds n e
open_entry p kinds n t e ip known grouped here sound =
    let reached = (and_parts (is_reached p.window e.pane.start) _ here).0 in
    let counted = (and_parts (is_nat_within 1 MOST_RECORDS e.total.count) (are_numbers e.total.count kinds e.total.numbers) (and_parts _ _ sound).1).0 in
    record {
      group = eqb-true _ n grouped;
      part = record {
        part = record { kinds = known; start = starts_within p.window e.pane.start ip.window reached };
        early = not_due_first p.window e.pane.start reached;
        count = leb-true e.total.count MOST_RECORDS (and_parts _ _ counted).1;
      };
    }

open_groups : (p : PlanData) (kinds : List Kind) (t : ℤ) (gs : List SavedGroup) → IsPlan p → kinds ≡ map kind_of p.window.aggregates → every_entry (is_in_group p.max) gs ≡ true → every_entry (λ g. is_open p.window t) gs ≡ true
    → All (IsSoundGroup kinds) gs → AreOpenGroups p kinds gs
open_groups p kinds t gs ip known grouped here sound k d l m e o =
    let g = get_or gs k d in
    let a = AllPass-from_list_all _ gs grouped k d l in
    let b = AllPass-from_list_all _ gs here k d l in
    open_entry p kinds g.group t (get_or g.entries.entries m e) ip known (AllPass-from_list_all _ g.entries.entries a m e o) (AllPass-from_list_all _ g.entries.entries b m e o) ((sound k d l).entries m e o)

-- ---- the start

pub known_kinds : (p : PlanData) (s : Contents) → met_or_fault (plan_requirements p) s ≡ Ok tt → s.kinds ≡ map kind_of p.window.aggregates
unfolding plan_requirements has_plan
known_kinds p s h =
    let a = none_of _ h in
    let b = (met_first MaxParallelism (has_max p s) _ a).1 in
    let d = (met_first UnknownUid (has_known_uids p s) _ b).1 in
    let e = (met_first MissingUid (has_all_uids p s) _ d).1 in
    let f = (met_first PlanChanged (has_plan p s) _ e).0 in
    let kinds = and_parts (length s.kinds == length p.window.aggregates) _ (and_parts _ (are_kinds s.kinds p.window.aggregates) f).1 in
    kinds_in s.kinds p.window.aggregates (eqb-true _ _ kinds.0) kinds.1

pub is_start_in : (p : PlanData) (i : InputData) (s : Contents) → IsPlan p → BelongsTo p i → All (IsSoundGroup s.kinds) s.groups → met_or_fault (plan_requirements p) s ≡ Ok tt → met_or_fault (input_requirements p i) s ≡ Ok tt → IsStartIn p i (start_of p s)
unfolding input_requirements has_offsets has_watermarks has_groups has_open_windows has_counts has_number
is_start_in p i s ip belongs sound planned h =
    let a = none_of _ h in
    let offsets = met_first Offset (has_offsets p i s) _ a in
    let marks = met_first Watermark (has_watermarks p i s) _ offsets.1 in
    let grouped = met_first WrongGroup (has_groups p s) _ marks.1 in
    let windows = met_first ClosedWindow (has_open_windows p i s) _ grouped.1 in
    let counts = met_first TooMany (has_counts p i s) _ windows.1 in
    let number = met_first Number (has_number s) _ counts.1 in
    let shaped = start_shaped p s planned ∙ sym belongs.partitions in
    record {
      cut = cut_fits (saved_of p s) i.sources shaped offsets.0;
      partitions = marks_fit (saved_of p s) i.sources shaped marks.0;
      windows = open_groups p s.kinds (merged_watermark i.sources (cut_of (saved_of p s))) s.groups ip (known_kinds p s planned) grouped.0 windows.0 sound;
      counts = λ q e. few_in_panes (length (records_before i.sources (cut_of (saved_of p s)))) (start_of p s) q e counts.0;
      number = leb-true s.number (2 ^ 63) number.0;
    }
