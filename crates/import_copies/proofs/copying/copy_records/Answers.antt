use Rattle.std.proofs.Common.{◌∙◌, ◌∷◌, Option, ap, subst, refl, [], map}
use Rattle.import_fates.specs.Counts.{counts_of}
use Rattle.import_fates.specs.Fates.{fates, rows_after}
use Rattle.import_fates.specs.declared.fate.Fate.{Fate}
use Rattle.import_copies.specs.Asking.{asked_of}
use Rattle.import_copies.specs.Copies.{TakesNext}
use Rattle.import_copies.specs.Files.{Asked, TakesRecord}
use Rattle.import_copies.specs.Streams.{rule_of}
use Rattle.import_copies.proofs.Each.{same_asked}
use Rattle.known_records.specs.Known.{keys_in}
use Rattle.import_copies.specs.declared.outcome.Outcome.{Outcome}
use Rattle.import_copies.proofs.Sorting.{one_more, written_on, no_more}
use Rattle.import_copies.proofs.copying.copy_records.Goals as goal

pub loop-init : goal.loop-init
loop-init g c = record {
  rule = refl;
  dealing = refl;
  columns = refl;
  sorts = λ before start h. ([], record { ruled = refl; seen = refl; counted = c.new-counts.ensures; written = h }, λ rest stands. (rest, refl, stands));
}

pub returns-in-None-clause-sorts : goal.returns-in-None-clause-sorts
returns-in-None-clause-sorts g c before start h =
    let rule = rule_of c.args.partition.now in
    let keys = keys_in c.args.known.now in
    let now = map g.W.Write.contents c.loop.outs in
    let inv = c.loop.invariant.sorts before start h in
    let rows = rows_after rule keys before inv.0 in
    let next = c.in_ok-outcome.ensures.takes rows start now inv.1.written in
    let none = subst (λ (o : Option Outcome). TakesNext g.R.Read.remaining (asked_of c.args.source c.loop.known) c.loop.rows c.take_record.new.rows (keys_in c.loop.known) rows start now c.take_record.new.known c.take_record.new.partition o) c.in-None.is next in (
      inv.0,
      no_more rule keys before start now c.loop.known c.take_record.new.known c.loop.partition c.take_record.new.partition c.loop.counts inv.0 inv.1 (none.0, none.1) c.take_record.ensures.rule,
      λ rest stands. let here = inv.2 rest stands in (here.0, here.1, none.2 here.0 here.2),
    )

pub loop-preserved : goal.loop-preserved
loop-preserved g c = record {
  columns = c.take_record.ensures.columns ∙ c.loop.invariant.columns;
  rule = c.write_much.ensures.rule ∙ c.take_record.ensures.rule ∙ c.loop.invariant.rule;
  dealing = c.write_much.ensures.dealing ∙ c.take_record.ensures.dealing ∙ c.loop.invariant.dealing;
  sorts = λ before start h.
      let rule = rule_of c.args.partition.now in
      let keys = keys_in c.args.known.now in
      let now = map g.W.Write.contents c.loop.outs in
      let inv = c.loop.invariant.sorts before start h in
      let rows = rows_after rule keys before inv.0 in
      let next = c.in_ok-outcome.ensures.takes rows start now inv.1.written in
      let one = subst (λ (o : Option Outcome). TakesNext g.R.Read.remaining (asked_of c.args.source c.loop.known) c.loop.rows c.take_record.new.rows (keys_in c.loop.known) rows start now c.take_record.new.known c.take_record.new.partition o) c.in-Some.is next in
      let all = one.0 ∷ inv.0 in
      let counted = c.add.ensures (fates rule keys before inv.0) inv.1.counted ∙ ap (λ (f : Fate). counts_of (f ∷ fates rule keys before inv.0)) c.fate_of.ensures in
      let s = one_more rule keys before start now c.loop.known c.take_record.new.known c.loop.partition c.take_record.new.partition c.loop.counts c.add.new.self c.in-Some.outcome inv.0 one.0 inv.1 one.1 c.take_record.ensures.rule counted in (
        all,
        written_on rule keys before start now (map g.W.Write.contents c.write_much.new.outs) c.take_record.new.known c.take_record.new.partition c.write_much.new.partition c.add.new.self all s c.write_much.ensures.rule (c.in_ok-write_much.ensures.writes (rows_after rule keys before all) start s.written),
        λ rest stands.
            let here = inv.2 rest stands in
            let taken = subst (λ (a : Asked). TakesRecord g.R.Read.remaining a c.loop.rows c.take_record.new.rows one.0) (same_asked c.args.source c.loop.known c.args.known.now c.loop.invariant.columns) one.2 in
            let next = taken here.0 here.2 in
            (next.0, (here.0, here.1, next.1), next.2),
      );
}
