use Rattle.std.proofs.Common.{codes}
use Rattle.std.proofs.lemmas.Str.Pattern.{ends_text}
use Rattle.imports.proofs.kinds.is_ndjson.Goals as goal

pub returns-else-ends_with : goal.returns-else-ends_with
returns-else-ends_with c =
    let first = ends_text c.ends_with.result (codes ".ndjson") c.args.path.now c.ends_with.ensures.cases in
    let second = ends_text c.ends_with-else-ends_with.result (codes ".jsonl") c.args.path.now c.ends_with-else-ends_with.ensures.cases in
    rw (← first, c.if-ends_with.false) second
