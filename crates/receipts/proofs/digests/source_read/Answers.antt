use Rattle.std.proofs.Common.{ℕ, ◌≤◌, List, take, length, get_or, refl, ap, ◌∙◌, arith}
use Rattle.std.proofs.lemmas.Slice.Zip.{AllZip-long}
use Rattle.stream_model.specs.declared.entry.Marked.{Marked}
use Rattle.input_changes.specs.Agreement.{entries_before_in}
use Rattle.receipts.specs.Read.{was_read_of}
use Rattle.receipts.proofs.Zipped.{IsZip, at_each, made_more, made_all}
use Rattle.receipts.proofs.digests.source_read.Goals as goal

abbrev Within : List Marked → ℕ → Type 0
Within entries n = n ≤ length entries

abbrev first : List Marked → ℕ → List Marked
first entries n = take n entries

is_zip : IsZip first entries_before_in
is_zip = (refl, λ p n ps ns. refl)

pub bounds-counts-place : goal.bounds-counts-place
bounds-counts-place c = omega (arith, c.loop-place-test.true, AllZip-long _ _ _ c.requires)

pub partition_read-requires : goal.partition_read-requires
partition_read-requires c =
    let found = c.index-partitions-place.result in
    let within : get_or c.args.counts.now c.loop-place.place 0 ≤ length (get_or c.args.partitions.now c.loop-place.place found) = at_each Within c.args.partitions.now c.args.counts.now c.loop-place.place found 0 c.requires c.loop-place-test.true in
    omega (arith, within, ap (λ es. length es) (c.as_slice.ensures ∙ c.index-partitions-place.is))

pub loop-place-preserved : goal.loop-place-preserved
loop-place-preserved c =
    let counts = c.args.counts.now in
    let place = c.loop-place.place in
    let found = c.index-partitions-place.result in
    let one = c.in_ok-partition_read.ensures ∙ ap (λ es. was_read_of (take (get_or counts place 0) es)) (c.as_slice.ensures ∙ c.index-partitions-place.is) in
    c.in_ok-push.ensures.items ∙ made_more Within first entries_before_in is_zip was_read_of c.args.partitions.now counts place found 0 c.requires c.loop-place-test.true _ _ c.loop-place.invariant one

pub returns : goal.returns
returns c =
    let past : length c.args.partitions.now ≤ c.loop-place.place = omega (arith, c.loop-place-test.false) in
    c.from_vec.ensures ∙ c.loop-place.invariant ∙ made_all Within first entries_before_in is_zip was_read_of c.args.partitions.now c.args.counts.now c.loop-place.place c.requires past
