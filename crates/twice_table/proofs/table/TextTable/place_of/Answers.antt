use Rattle.twice_table.specs.Texts.{text_code}
use Rattle.twice_table.proofs.Firsts.{found_is}
use Rattle.twice_table.proofs.table.TextTable.place_of.Goals as goal

pub returns-clause-place : goal.returns-clause-place
returns-clause-place c = rw (← c.self.view_is) (found_is c.self.inside.texts c.self.inside.chains (text_code c.self.inside.state) c.args.text.now c.code_of.result c.find.result c.self.invariant.1 c.self.invariant.0 c.code_of.ensures c.find.ensures.some c.find.ensures.none).0

pub returns-clause-found : goal.returns-clause-found
returns-clause-found c = rw (← c.self.view_is) (found_is c.self.inside.texts c.self.inside.chains (text_code c.self.inside.state) c.args.text.now c.code_of.result c.find.result c.self.invariant.1 c.self.invariant.0 c.code_of.ensures c.find.ensures.some c.find.ensures.none).1
