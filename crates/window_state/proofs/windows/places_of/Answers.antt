use Rattle.std.proofs.Common.{◌<◌, length, map, cond, Some, None, ◌∙◌, sym, ap, subst, arith}
use Rattle.std.specs.Option.{option_or}
use Rattle.std.proofs.lemmas.List.{take_all}
use Rattle.plan_model.specs.declared.spec.WindowSpec.{WindowSpec}
use Rattle.aggregates.specs.Kinds.{IsAcc, kind_of}
use Rattle.packed_parts.specs.declared.part.Part.{Part}
use Rattle.packed_parts.specs.Packing.{part_of}
use Rattle.savepoint_codec.specs.EntriesView.{entry_data}
use Rattle.window_state.specs.Windows.{acc_at, is_pane, IsStart}
use Rattle.window_state.specs.Parts.{accs_in}
use Rattle.window_state.proofs.PartMaps.{part_here, part_put}
use Rattle.window_state.proofs.windows.places_of.Goals as goal

pub put_entry-requires-clause-start : goal.put_entry-requires-clause-start
put_entry-requires-clause-start c =
    let parts = c.args.parts.now in
    let w = c.args.window in
    let i = c.loop-i.i in
    let e = entry_data c.entry.result in
    let low : i < length parts = omega (arith, c.len-i-end.ensures, c.loop-i-test.true) in
    let part = part_of (map kind_of w.aggregates) e in
    let is = part_here w parts i e low c.requires.parts c.entry.ensures.is in
    subst (λ (p : Part). IsStart p.pane.start) (sym is) (c.requires.parts i part low).start

pub put_entry-requires-clause-sound : goal.put_entry-requires-clause-sound
put_entry-requires-clause-sound c =
    let parts = c.args.parts.now in
    let w = c.args.window in
    let i = c.loop-i.i in
    let e = entry_data c.entry.result in
    let low : i < length parts = omega (arith, c.len-i-end.ensures, c.loop-i-test.true) in
    let part = part_of (map kind_of w.aggregates) e in
    let is = part_here w parts i e low c.requires.parts c.entry.ensures.is in
    subst (λ (x : WindowSpec). IsAcc (part_of (map kind_of x.aggregates) e).acc) (sym c.loop-i.invariant.window)
    (subst (λ (p : Part). IsAcc p.acc) (sym is) (c.entry.ensures.sound i part low))

pub loop-i-preserved : goal.loop-i-preserved
loop-i-preserved c =
    let parts = c.args.parts.now in
    let w = c.args.window in
    let i = c.loop-i.i in
    let e = entry_data c.entry.result in
    let part = part_of (map kind_of w.aggregates) e in
    let low : i < length parts = omega (arith, c.len-i-end.ensures, c.loop-i-test.true) in
    let is = part_here w parts i e low c.requires.parts c.entry.ensures.is in
    let m = c.loop-i.places.entries in record {
      window = c.put_entry.ensures.window_stays ∙ c.loop-i.invariant.window;
      first = part_put parts i part m c.put_entry.new.self.entries low is c.loop-i.invariant.first
          (λ r. c.in_ok-put_entry.ensures.put r
          ∙ ap (λ (x : WindowSpec). option_or (acc_at m r) (cond (is_pane part.pane r) (Some (part_of (map kind_of x.aggregates) e).acc) None)) c.loop-i.invariant.window);
    }

pub returns-clause-first : goal.returns-clause-first
returns-clause-first c = λ q. c.loop-i.invariant.first q ∙ ap (λ l. acc_at (accs_in l) q) (take_all c.loop-i.i c.args.parts.now (omega arith))
