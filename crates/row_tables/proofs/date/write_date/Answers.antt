use Rattle.std.proofs.Common.{rules, ◌≡◌, ◌++◌, take, length, string_bytes, Ok, sym, ap, subst, ◌∙◌}
use Rattle.std.proofs.Math.Seq.{take-append_seam}
use Rattle.field_values.specs.Instants.{milliseconds_said}
use Rattle.row_tables.specs.Dates.{date_milliseconds, first_moment}
use Rattle.row_tables.proofs.date.write_date.Goals as goal

pub returns : goal.returns
returns c =
    let text = string_bytes c.push_part.new.text in
    let whole : string_bytes c.push_str.new.self ≡ text ++ first_moment c.args.part = search rules in
    let end : c.len-end.result ≡ length text = search rules in
    let cut : string_bytes c.truncate.new.self ≡ text =
    c.truncate.ensures.bytes ∙ ap (λ n. take n (string_bytes c.push_str.new.self)) end ∙ ap (take (length text)) whole ∙ take-append_seam text (first_moment c.args.part) in
    let said : milliseconds_said (string_bytes c.push_str.new.self) ≡ Ok (date_milliseconds c.in-Some.date) = search rules in
    record {
      date = c.in-Some.date;
      counted = search rules;
      said = subst (λ t. milliseconds_said (t ++ first_moment c.args.part) ≡ Ok (date_milliseconds c.in-Some.date)) (sym cut)
          (subst (λ t. milliseconds_said t ≡ Ok (date_milliseconds c.in-Some.date)) whole said);
    }
