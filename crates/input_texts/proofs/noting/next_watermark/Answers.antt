use Rattle.std.proofs.Common.{◌≡◌, false, cond, is_some, sym, ap, ◌∙◌, to_z, of_z, to_z-of_z, w64, SFits, rules}
use Rattle.std.specs.Int.{int_max}
use Rattle.json.specs.Json.{value}
use Rattle.json_parts.specs.Parts.{whole, cell_text}
use Rattle.json_tokens.proofs.Facts.{converted_some}
use Rattle.plain_data.specs.Times.{lowest}
use Rattle.plan_model.specs.Windows.{is_time}
use Rattle.serde_json.specs.Read.{of_json, converted}
use Rattle.input_texts.specs.Said.{number_of}
use Rattle.input_texts.specs.Seen.{Seen, EntrySeen, watermark_seen}
use Rattle.input_texts.proofs.NotedMembers.{turned}
use Rattle.input_texts.proofs.Notings.{watermark_brings}
use Rattle.input_texts.proofs.Pairs.{same_some}
use Rattle.input_texts.proofs.noting.next_watermark.Goals as goal

pub returns-clause-said : goal.returns-clause-said
returns-clause-said c =
    let plan = c.args.plan.now in
    let bound = c.args.bound in
    let cell = c.in_ok-cell.cell in
    let w = c.args.watermark in
    let d = converted_some cell_text (converted of_json (value c.args.depth c.args.reader.now)) cell c.next_cell.new.reader c.in_ok-cell.ensures.said in
    let says : cell ≡ whole d.0 = sym (same_some (whole d.0) cell d.2) in
    let time : to_z w64 (of_z w64 c.number_of-time.result) ≡ number_of cell = to_z-of_z {w = w64} {z = c.number_of-time.result} c.number_of-time.ensures.fits ∙ c.number_of-time.ensures.says in
    let timely = c.is_time.ensures ∙ ap is_time time in
    let kind = turned (is_some bound) c.is_none.result c.is_none.ensures in
    let same = to_z-of_z {w = w64} {z = w} c.ranges.watermark in
    let fits : SFits w64 c.watermark_with.result = search rules in
    let behind = to_z-of_z {w = w64} {z = c.watermark_with.result} fits ∙ c.watermark_with.ensures ∙ (λ o. int_max (same o) (cond (is_some bound) lowest (time o)))
    ∙ ap (int_max w) (watermark_brings plan.columns plan.window.time w bound cell) in
    let met : Seen = record {
      is_wide = c.nothing-met.result.is_wide;
      is_whole = c.is_some.result;
      is_sized = c.nothing-met.result.is_sized;
      is_timely = c.is_time.result;
      is_kind = c.is_none.result;
    } in
    let told : EntrySeen = record { met = met; is_late = false; watermark = to_z w64 (of_z w64 c.watermark_with.result); records = 0 } in
    let all : told ≡ watermark_seen bound plan.columns plan.window.time w cell = λ o. record {
      met = record { is_wide = (c.nothing-met.ensures o).is_wide; is_whole = c.is_some.ensures o; is_sized = (c.nothing-met.ensures o).is_sized; is_timely = timely o; is_kind = kind o };
      is_late = false;
      watermark = behind o;
      records = 0;
    } in
    (d.0, d.1, all ∙ ap (watermark_seen bound plan.columns plan.window.time w) says)
