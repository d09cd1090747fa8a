use Rattle.savepoint_index.proofs.Marks.{marked, unmarked}
use Rattle.savepoint_index.proofs.decoding.is_indexed.Goals as goal

pub returns-in-Ok : goal.returns-in-Ok
returns-in-Ok c = marked c.args.bytes.now _ c.in-Ok.ensures

pub returns-in-Err : goal.returns-in-Err
returns-in-Err c = unmarked c.args.bytes.now _ c.in-Err.ensures
