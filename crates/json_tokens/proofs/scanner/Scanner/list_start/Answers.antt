use Rattle.json_tokens.proofs.Starts.{list_begins}
use Rattle.json_tokens.proofs.scanner.Scanner.list_start.Goals as goal

pub returns : goal.returns
returns c = list_begins c.args.self.now c.in-Some.text.now c.in-Some-behind.rest.now c.in-Some.ensures c.in-Some-behind.ensures
