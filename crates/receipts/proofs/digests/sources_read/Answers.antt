use Rattle.std.proofs.Common.{ℕ, ◌≤◌, List, map, length, get_or, refl, sym, subst, ap, ◌∙◌, arith}
use Rattle.std.specs.List.{AllZip}
use Rattle.std.proofs.lemmas.Slice.Zip.{AllZip-long}
use Rattle.stream_model.specs.declared.entry.Marked.{Marked}
use Rattle.input_changes.specs.Agreement.{entries_before, entries_before_in}
use Rattle.receipts.specs.Read.{was_read_of}
use Rattle.receipts.proofs.Zipped.{IsZip, at_each, made_more, made_all}
use Rattle.receipts.proofs.digests.sources_read.Goals as goal

abbrev Within : List (List Marked) → List ℕ → Type 0
Within partitions counts = AllZip (λ p n. n ≤ length p) partitions counts

is_zip : IsZip entries_before_in entries_before
is_zip = (refl, λ s c ss cs. refl)

pub bounds-cut-place : goal.bounds-cut-place
bounds-cut-place c = omega (arith, c.loop-place-test.true, AllZip-long _ _ _ c.requires)

pub source_read-requires : goal.source_read-requires
source_read-requires c =
    let source = c.index-sources-place.result in
    let counts = c.index-cut-place.result in
    let within = at_each Within c.args.sources.now c.args.cut.now c.loop-place.place source counts c.requires c.loop-place-test.true in
    subst (λ ps. Within ps c.as_slice-in-loop-place.result.now) (sym (c.as_slice.ensures ∙ c.index-sources-place.is)) (subst (λ ns. Within (get_or c.args.sources.now c.loop-place.place source) ns) (sym (c.as_slice-in-loop-place.ensures ∙ c.index-cut-place.is)) within)

pub loop-place-preserved : goal.loop-place-preserved
loop-place-preserved c =
    let place = c.loop-place.place in
    let source = c.index-sources-place.result in
    let counts = c.index-cut-place.result in
    let one = c.in_ok-source_read.ensures ∙ ap (λ s. map was_read_of (entries_before_in s c.as_slice-in-loop-place.result.now)) (c.as_slice.ensures ∙ c.index-sources-place.is)
    ∙ ap (λ n. map was_read_of (entries_before_in (get_or c.args.sources.now place source) n)) (c.as_slice-in-loop-place.ensures ∙ c.index-cut-place.is) in
    c.in_ok-push.ensures.items ∙ made_more Within entries_before_in entries_before is_zip (map was_read_of) c.args.sources.now c.args.cut.now place source counts c.requires c.loop-place-test.true _ _ c.loop-place.invariant one

pub returns : goal.returns
returns c =
    let past : length c.args.sources.now ≤ c.loop-place.place = omega (arith, c.loop-place-test.false) in
    c.from_vec.ensures ∙ c.loop-place.invariant ∙ made_all Within entries_before_in entries_before is_zip (map was_read_of) c.args.sources.now c.args.cut.now c.loop-place.place c.requires past
