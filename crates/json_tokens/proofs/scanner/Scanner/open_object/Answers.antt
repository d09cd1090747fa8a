use Rattle.json_tokens.proofs.Starts.{object_begins}
use Rattle.json_tokens.proofs.scanner.Scanner.open_object.Goals as goal

pub returns : goal.returns
returns c = record { passed = object_begins c.args.self.now c.in-Some.text.now c.in-Some-behind.rest.now c.in-Some.ensures c.in-Some-behind.ensures }
