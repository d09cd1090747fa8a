use Rattle.std.proofs.Common.{◌≡◌, ◌∙◌, Ok, Err, ap, sym, rules, to_z, of_z, w64}
use Rattle.std.proofs.lemmas.Int.{to_z-of_z}
use Rattle.std.specs.Option.{option_map_or}
use Rattle.cut_texts.specs.Times.{watermark_before}
use Rattle.input_cuts.specs.Cuts.{first_cut}
use Rattle.job_texts.specs.declared.fault.JobFault.TheVariants.{Number}
use Rattle.job.specs.Cuts.{cut_line}
use Rattle.job.proofs.cuts.text_until.Goals as goal

pub returns : goal.returns
returns c =
    let sources = c.args.input.now.sources in
    let time = c.in-Some.time in
    let same : to_z w64 (of_z w64 time) ≡ time = to_z-of_z w64 time (search rules) in
    let cut = c.in_ok-cut.ensures ∙ ap (λ t. first_cut (watermark_before t) sources) same in
    let said = sym c.read_time.ensures ∙ c.in-Some.is in
    ap (λ found. option_map_or (λ t. Ok (cut_line (first_cut (watermark_before t) sources))) found (Err Number)) said ∙ ap Ok (sym (c.in_ok-line_of_cut.ensures ∙ ap cut_line cut))
