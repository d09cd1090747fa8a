use Rattle.std.proofs.Common.{◌<◌, FitsSigned, length, sym, ap, subst, ◌∙◌, arith}
use Rattle.std.specs.Int.{w64}
use Rattle.std.proofs.lemmas.List.Elements.{All-more}
use Rattle.std.proofs.lemmas.List.Sums.{fold_more}
use Rattle.aggregates.specs.Kinds.{IsAcc}
use Rattle.savepoint_codec.specs.EntriesData.{EntryData}
use Rattle.packed_parts.specs.declared.part.Part.{Part}
use Rattle.packed_parts.proofs.Places.{part_at}
use Rattle.gather.specs.Buckets.{HaveWidth, IsTyped, with_pane, with_part}
use Rattle.gather.proofs.Filled.{numbers_length}
use Rattle.gather.proofs.buckets.push_parts.Goals as goal

pub push_entry-requires-clause-widths : goal.push_entry-requires-clause-widths
push_entry-requires-clause-widths c =
    let xs = c.args.parts.now in
    let i = c.loop-i.i in
    let low : i < length xs = omega (arith, c.len-i-end.ensures, c.loop-i-test.true) in
    let part = part_at xs i _ c.entry.ensures.is in
    let x = part.0 in
    let sound : IsAcc x.acc = subst (λ (p : Part). IsAcc p.acc) (sym part.1) (c.entry.ensures.sound i x low) in
    let many = ap (λ (e : EntryData). length e.total.numbers) (sym part.2) ∙ numbers_length x.acc.total.count x.acc.kinds x.acc.total.numbers sound.numbers in
    c.loop-i.invariant.widths _ (subst (λ n. HaveWidth n c.args.buckets.now) (sym many) (subst (λ (p : Part). HaveWidth (length p.acc.kinds) c.args.buckets.now) (sym part.1) (c.requires.widths i x low)))

pub loop-i-preserved : goal.loop-i-preserved
loop-i-preserved c =
    let xs = c.args.parts.now in
    let i = c.loop-i.i in
    let max = c.args.max in
    let low : i < length xs = omega (arith, c.len-i-end.ensures, c.loop-i-test.true) in
    let part = part_at xs i _ c.entry.ensures.is in
    let x = part.0 in
    let typed = c.in_ok-push_entry.ensures.typed in
    let own : IsTyped x = record {
      start = subst (λ (e : EntryData). FitsSigned w64 e.pane.start) (sym part.2) typed.0;
      key = subst (λ (e : EntryData). FitsSigned w64 e.pane.key) (sym part.2) typed.1;
      acc = subst (λ (p : Part). IsAcc p.acc) (sym part.1) (c.entry.ensures.sound i x low);
    } in
    record {
      says = c.in_ok-push_entry.ensures.says ∙ (λ j. with_pane max (c.loop-i.invariant.says j) (sym part.2 j)) ∙ ap (with_part max _) part.1 ∙ sym (fold_more (with_part max) c.args.buckets.now xs i x low);
      typed = All-more IsTyped xs i x low c.loop-i.invariant.typed (subst IsTyped part.1 own);
      widths = λ n h. c.in_ok-push_entry.ensures.widths n (c.loop-i.invariant.widths n h);
    }
