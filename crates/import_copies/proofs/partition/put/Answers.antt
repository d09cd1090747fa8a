use Rattle.std.proofs.Common.{Some, Err, ap, sym, subst, ◌∙◌}
use Rattle.entry_texts.specs.declared.partition.PutFault.{PutFault}
use Rattle.import_fates.specs.Fates.{fate_by_place}
use Rattle.import_copies.specs.Rows.{said_of}
use Rattle.import_copies.specs.Streams.{PutsOne}
use Rattle.import_copies.proofs.partition.put.Goals as goal

pub returns-in-Ok-clause-fate : goal.returns-in-Ok-clause-fate
returns-in-Ok-clause-fate c rows start now h = sym (ap fate_by_place (c.in-Ok.ensures.puts rows start now h).0)

pub returns-in-Ok-clause-puts : goal.returns-in-Ok-clause-puts
returns-in-Ok-clause-puts c rows start now h = (c.in-Ok.ensures.puts rows start now h).1

pub returns-in-Err-Place-Late-clause-fate : goal.returns-in-Err-Place-Late-clause-fate
returns-in-Err-Place-Late-clause-fate c rows start now h =
    let told = subst (λ (e : PutFault). PutsOne rows start now (said_of c.args.row) c.args.partition.now c.put.new.self (Err e)) c.in-Err-Place-Late.field-0-is (c.in-Err-Place-Late.ensures.puts rows start now h) in
    sym (ap fate_by_place (told.0 ∙ ap Some c.in-Err-Place-Late.field-0-0-is))

pub returns-in-Err-Place-Late-clause-puts : goal.returns-in-Err-Place-Late-clause-puts
returns-in-Err-Place-Late-clause-puts c rows start now h =
    let told = subst (λ (e : PutFault). PutsOne rows start now (said_of c.args.row) c.args.partition.now c.put.new.self (Err e)) c.in-Err-Place-Late.field-0-is (c.in-Err-Place-Late.ensures.puts rows start now h) in
    told.1

pub returns-in-Err-Place-Range-clause-fate : goal.returns-in-Err-Place-Range-clause-fate
returns-in-Err-Place-Range-clause-fate c rows start now h =
    let told = subst (λ (e : PutFault). PutsOne rows start now (said_of c.args.row) c.args.partition.now c.put.new.self (Err e)) c.in-Err-Place-Range.field-0-is (c.in-Err-Place-Range.ensures.puts rows start now h) in
    sym (ap fate_by_place (told.0 ∙ ap Some c.in-Err-Place-Range.field-0-0-is))

pub returns-in-Err-Place-Range-clause-puts : goal.returns-in-Err-Place-Range-clause-puts
returns-in-Err-Place-Range-clause-puts c rows start now h =
    let told = subst (λ (e : PutFault). PutsOne rows start now (said_of c.args.row) c.args.partition.now c.put.new.self (Err e)) c.in-Err-Place-Range.field-0-is (c.in-Err-Place-Range.ensures.puts rows start now h) in
    told.1
