use Rattle.std.proofs.Common.{ℕ, ◌<◌, ◌≤◌, List, length, get_or, sym, subst, arith}
use Rattle.std.proofs.lemmas.List.Folds.{length-flat_map-take}
use Rattle.plan_model.specs.declared.limits.TheConstants.{MOST_RECORDS}
use Rattle.stream_model.specs.declared.entry.Marked.{Marked}
use Rattle.stream_model.specs.InputData.{records_in, records_in_source, all_records}
use Rattle.input_cuts.proofs.extent.extents.Goals as goal

-- a partition has no more records than the whole input
within : (sources : List (List (List Marked))) → length (all_records sources) ≤ MOST_RECORDS
    → (k : ℕ) (d : List (List Marked)) → k < length sources → (j : ℕ) (e : List Marked) → j < length (get_or sources k d) → length (records_in (get_or (get_or sources k d) j e)) ≤ MOST_RECORDS
within sources few k d kl j e jl =
    let in_input = length-flat_map-take records_in_source sources k d kl in
    let in_source = length-flat_map-take records_in (get_or sources k d) j e jl in
    omega (arith, few, in_input, in_source)

pub extents_of-requires-clause-few : goal.extents_of-requires-clause-few
extents_of-requires-clause-few c =
    subst (λ (sources : List (List (List Marked))). (k : ℕ) (d : List (List Marked)) → k < length sources → (j : ℕ) (e : List Marked) → j < length (get_or sources k d) → length (records_in (get_or (get_or sources k d) j e)) ≤ MOST_RECORDS) (sym c.sources.ensures.says)
    (within c.args.input.now.sources c.sources.ensures.sound.few)
