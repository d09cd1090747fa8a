use Rattle.std.proofs.Common.{sym, ap, ◌∙◌}
use Rattle.json.specs.Json.{read_key}
use Rattle.json_tokens.proofs.Starts.{object_ends}
use Rattle.json_tokens.proofs.scanner.Scanner.take_end_object.Goals as goal

pub returns : goal.returns
returns c =
    let a = c.self.inside in
    ap read_key (sym c.self.view_is) ∙ object_ends a.behind_value a.rest.now c.behind_spaces.result.now c.in-Some.rest.now c.behind_spaces.ensures c.in-Some.ensures
