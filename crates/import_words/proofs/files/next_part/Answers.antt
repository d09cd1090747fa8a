use Rattle.std.proofs.Common.{lit<, Some, None}
use Rattle.std.proofs.lemmas.Str.Pattern.{split_parts, strip_prefix_char}
use Rattle.import_words.proofs.Names.{without_plus, before_one_plus, before_two_pluses}
use Rattle.import_words.proofs.files.next_part.Goals as goal

pub returns-in-Some-strip_prefix : goal.returns-in-Some-strip_prefix
returns-in-Some-strip_prefix c =
    let parts = split_parts 43 c.args.text.now (Some (c.in-Some.front, c.in-Some.behind)) c.in-Some.ensures.cases (lit< tt) in
    let rest = strip_prefix_char 43 c.in-Some.behind.now (Some c.in-Some-strip_prefix.rest) c.in-Some-strip_prefix.ensures.cases (lit< tt) in
    before_two_pluses c.args.text.now c.in-Some.front.now c.in-Some.behind.now c.in-Some-strip_prefix.rest.now parts.0 parts.1 rest

pub returns-in-None-strip_prefix : goal.returns-in-None-strip_prefix
returns-in-None-strip_prefix c =
    let parts = split_parts 43 c.args.text.now (Some (c.in-Some.front, c.in-Some.behind)) c.in-Some.ensures.cases (lit< tt) in
    let rest = strip_prefix_char 43 c.in-Some.behind.now None c.in-None-strip_prefix.ensures.cases (lit< tt) in
    before_one_plus c.args.text.now c.in-Some.front.now c.in-Some.behind.now parts.0 parts.1 rest

pub returns-in-None : goal.returns-in-None
returns-in-None c = without_plus c.args.text.now (split_parts 43 c.args.text.now None c.in-None.ensures.cases (lit< tt))
