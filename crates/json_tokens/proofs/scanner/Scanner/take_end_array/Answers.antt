use Rattle.std.proofs.Common.{sym, ap, ◌∙◌}
use Rattle.json.specs.Json.{after_end_array}
use Rattle.json_tokens.proofs.Starts.{list_ends}
use Rattle.json_tokens.proofs.scanner.Scanner.take_end_array.Goals as goal

pub returns : goal.returns
returns c =
    let a = c.self.inside in
    ap after_end_array (sym c.self.view_is) ∙ list_ends a.behind_value a.rest.now c.behind_spaces.result.now c.in-Some.rest.now c.behind_spaces.ensures c.in-Some.ensures
