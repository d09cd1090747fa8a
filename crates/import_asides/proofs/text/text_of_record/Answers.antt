use Rattle.std.proofs.Common.{◌≡◌, ◌-◌, ◌++◌, [], ◌∙◌, Some, ap, append-nil, length, take, vec_len, rules}
use Rattle.csv.specs.Records.{fields_of}
use Rattle.csv.specs.Writing.{default_writer, row_text}
use Rattle.import_asides.proofs.text.text_of_record.Goals as goal

pub returns-clause-text : goal.returns-clause-text
returns-clause-text c =
    let start = c.new.result.items in
    let line = row_text default_writer (fields_of c.args.record.now) in
    let text = c.in_ok-text.text in
    let puts = c.in_ok-put_row.ensures.written (Some start) [] c.in_ok-out.ensures.written in
    let whole : text.items ≡ line = c.in_ok-text.ensures.written (Some start) _ puts ∙ ap (λ before. before ++ (line ++ [])) c.new.ensures.items ∙ append-nil line in
    let size : vec_len text ≡ length text.items = search rules in
    c.pop-line_feed.ensures.rest ∙ ap (λ count. take (count - 1) text.items) size ∙ ap (λ bytes. take (length bytes - 1) bytes) whole
