use Rattle.std.proofs.Common.{◌≡◌, ◌+◌, ◌++◌, List, length, replicate, take, drop, sym, ap, subst, ◌∙◌, arith}
use Rattle.std.specs.List.{All, flat_map, fold}
use Rattle.std.proofs.lemmas.List.{take_at}
use Rattle.std.proofs.lemmas.List.Elements.{All-append}
use Rattle.std.proofs.lemmas.List.Sums.{fold-append}
use Rattle.packed_parts.specs.declared.part.Part.{Part}
use Rattle.savepoint_codec.specs.EntriesData.{EntriesData}
use Rattle.gather.specs.Parts.{panes_in}
use Rattle.gather.specs.Buckets.{HaveWidth, IsTyped, no_entries, with_part}
use Rattle.gather.proofs.Filled.{All-within, flat_map-take}
use Rattle.gather.proofs.buckets.all_buckets.Goals as goal

pub push_panes-requires-clause-widths : goal.push_panes-requires-clause-widths
push_panes-requires-clause-widths c =
    let x = c.part-item.result in
    let wide : Part → Type 0 = λ part. length part.acc.kinds ≡ c.args.width in
    let there = All-within wide panes_in c.args.parts.now c.loop-part.part-index x c.loop-part-test.true c.requires in
    let here : All wide (panes_in x) = subst (All wide) (ap panes_in (sym c.part-item.is)) there in
    let widths : HaveWidth c.args.width c.deref_mut.result.now = subst (HaveWidth c.args.width) (sym c.deref_mut.ensures.value) c.loop-part.invariant.widths in
    λ k d l. subst (λ n. HaveWidth n c.deref_mut.result.now) (sym (here k d l)) widths

pub loop-part-preserved : goal.loop-part-preserved
loop-part-preserved c =
    let x = c.part-item.result in
    let i = c.loop-part.part-index in
    let old = c.loop-part.buckets in
    let new = c.push_panes.new.buckets in
    let push = with_part c.args.max in
    let none : List EntriesData = replicate c.args.max (no_entries c.args.width) in
    let front = flat_map panes_in (take i c.args.parts.now) in
    let value = c.deref_mut.ensures.value in
    let kept = c.push_panes.auto.buckets in
    let long : length new ≡ old.len = omega arith in
    let is : take old.len (new ++ drop (length new) old.items) ≡ new = take_at new (drop (length new) old.items) old.len long in
    let more : flat_map panes_in (take (i + 1) c.args.parts.now) ≡ front ++ panes_in x = flat_map-take panes_in c.args.parts.now i x c.loop-part-test.true ∙ ap (λ y. front ++ y) (ap panes_in (sym c.part-item.is)) in
    record {
      says = is ∙ c.in_ok-push_panes.ensures.says ∙ ap (λ bs. fold push bs (panes_in x)) (value ∙ c.loop-part.invariant.says) ∙ sym (fold-append push none front (panes_in x)) ∙ ap (fold push none) (sym more);
      typed = subst (All IsTyped) (sym more) (All-append IsTyped front (panes_in x) c.loop-part.invariant.typed c.in_ok-push_panes.ensures.typed);
      counted = ap length is ∙ omega arith;
      widths = subst (HaveWidth c.args.width) (sym is) (c.in_ok-push_panes.ensures.widths c.args.width (subst (HaveWidth c.args.width) (sym value) c.loop-part.invariant.widths));
    }
