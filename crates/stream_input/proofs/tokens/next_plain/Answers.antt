use Rattle.std.proofs.Common.{◌≡◌, ◌++◌, List, Option, ℤ, map, Some, true, bytes_eq, codes, w64, to_z-of_z, sym, ap, ◌∙◌, arith, rules}
use Rattle.json_parts.specs.Parts.{whole, list_text}
use Rattle.json_tokens.specs.Rows.{row_text, joined}
use Rattle.json_tokens.specs.Ahead.{part}
use Rattle.json_tokens.proofs.Facts.{one_member}
use Rattle.stream_model.specs.declared.entry.Entry.TheVariants.{Rows, Watermark}
use Rattle.input_texts.specs.declared.text.EntryText.TheVariants.{Rows as rows}
use Rattle.input_texts.specs.Said.{record_of}
use Rattle.plan_model.specs.Windows.{is_time}
use Rattle.input_texts.specs.Requirements.{is_wide, is_whole}
use Rattle.stream_input.specs.Fit.{if_fit, fit_entry}
use Rattle.stream_input.proofs.FitEntries.{rows_fit, watermark_fit}
use Rattle.stream_input.proofs.tokens.next_plain.Goals as goal

pub returns-then-eq-clause-said : goal.returns-then-eq-clause-said
returns-then-eq-clause-said c =
    let columns = c.args.plan.now.columns in
    let time = c.args.plan.now.window.time in
    let k = c.in_ok-name.name.now in
    let told = c.in_ok-scan_rows.ensures.said in
    let rs = told.0 in
    let width : c.columns-width.result ≡ columns = c.columns-width.ensures.says in
    let same : bytes_eq k (codes "rows") ≡ true = search rules in
    let cells : c.deref.result.now ≡ joined rs = c.deref.ensures.value ∙ told.2 ∙ ap (λ xs. xs ++ joined rs) c.clear.ensures.items in
    let fits : (found : List (List (Option ℤ))) → is_wide columns (rows found) ≡ true → is_whole (rows found) ≡ true → rs ≡ map record_of found → if_fit columns time (rows found) ≡ Some (Rows c.in_ok-batch.batch) =
    λ found wide every are. rw (width, c.window.ensures.says) at (c.in_ok-batch.ensures found (rw width wide) every (sym (cells ∙ ap joined are))) in
    ap (part (fit_entry columns time) c.args.depth) c.in_ok-open_object.ensures.passed
    ∙ one_member (list_text (row_text columns)) (fit_entry columns time) c.args.depth k _ _ _ _ rs (Rows c.in_ok-batch.batch) (omega arith) c.in_ok-name.ensures.said (rw width at told.1)
    c.in_ok-close_object.ensures.said c.in_ok-name.ensures.shorter c.in_ok-scan_rows.ensures.shorter (rows_fit columns time k rs (Rows c.in_ok-batch.batch) same fits)

pub returns-then-eq-2-clause-said : goal.returns-then-eq-2-clause-said
returns-then-eq-2-clause-said c =
    let columns = c.args.plan.now.columns in
    let time = c.args.plan.now.window.time in
    let k = c.in_ok-name.name.now in
    let z = c.in_ok-time.time in
    let same : bytes_eq k (codes "watermark") ≡ true = search rules in
    let timely : is_time z ≡ true = rw (to_z-of_z {w = w64} {z = z} c.in_ok-time.ensures.fits) at (sym c.is_time.ensures ∙ c.if-not-is_time.false) in
    rw (to_z-of_z {w = w64} {z = z} c.in_ok-time.ensures.fits)
    (ap (part (fit_entry columns time) c.args.depth) c.in_ok-open_object.ensures.passed
    ∙ one_member whole (fit_entry columns time) c.args.depth k _ _ _ _ z (Watermark z) (omega arith) c.in_ok-name.ensures.said (c.in_ok-time.ensures.said _) c.in_ok-close_object-2.ensures.said c.in_ok-name.ensures.shorter
    c.in_ok-time.ensures.shorter (watermark_fit columns time k z same timely))
