use Rattle.std.proofs.Common.{arith, length, ap}
use Rattle.json.specs.Json.{read_key}
use Rattle.json_tokens.proofs.Starts.{name_begins}
use Rattle.json_tokens.proofs.scanner.Scanner.next_name.Goals as goal

pub returns-clause-said : goal.returns-clause-said
returns-clause-said c =
    ap read_key (name_begins c.args.self.now c.in-Some.text.now c.in-Some-name_at.name.now c.in-Some-name_at.rest.now c.in-Some.ensures c.in-Some-name_at.ensures)

pub returns-clause-shorter : goal.returns-clause-shorter
returns-clause-shorter c =
    omega (arith, ap length (name_begins c.args.self.now c.in-Some.text.now c.in-Some-name_at.name.now c.in-Some-name_at.rest.now c.in-Some.ensures c.in-Some-name_at.ensures))
