use Rattle.std.proofs.Common.{◌&&◌, true, false, ap, arith}
use Rattle.std.proofs.lemmas.List.{length-map}
use Rattle.std.specs.Prelude.{string_bytes}
use Rattle.input_texts.proofs.NotedMembers.{name_out, name_in}
use Rattle.input_texts.proofs.UnknownNames.{distinct_names}
use Rattle.input_texts.proofs.finding.put_name.Goals as goal

pub returns-then-not-is_malformed-clause-said : goal.returns-then-not-is_malformed-clause-said
returns-then-not-is_malformed-clause-said c =
    name_out c.args.name.now c.args.names.now.keys c.remove.new.self.keys c.remove.ensures.keys c.remove.ensures.updates.1 (c.args.is_malformed && true) (ap (λ b. b && true) c.if-not-is_malformed.true)

pub returns-then-most-len-clause-said : goal.returns-then-most-len-clause-said
returns-then-most-len-clause-said c =
    name_out c.args.name.now c.args.names.now.keys c.remove.new.self.keys c.remove.ensures.keys c.remove.ensures.updates.1 (c.args.is_malformed && false) (ap (λ b. b && false) c.if-not-is_malformed.false)

pub returns-then-most-len-clause-full : goal.returns-then-most-len-clause-full
returns-then-most-len-clause-full c = λ _.
    let long = length-map c.remove.new.self.keys (λ s. string_bytes s) in
    (rw long (grind arith), distinct_names c.remove.new.self.keys c.len.ensures.ordered)

pub returns-clause-said : goal.returns-clause-said
returns-clause-said c =
    name_in c.args.name.now c.args.names.now.keys c.remove.new.self.keys c.remove.ensures.keys c.remove.ensures.updates.1 c.in_ok-from_str.field-0 c.insert.new.self.keys c.in_ok-from_str.ensures.ok c.in_ok-insert.ensures.keys
    c.in_ok-insert.ensures.updates.1 (c.args.is_malformed && true) (ap (λ b. b && true) c.if-not-is_malformed.false)
