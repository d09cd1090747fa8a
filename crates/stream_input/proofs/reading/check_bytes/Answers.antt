use Rattle.stream_input.proofs.FitAnswers.{json_of_other, none_told, text_read}
use Rattle.stream_input.proofs.reading.check_bytes.Goals as goal

pub returns-in-Ok : goal.returns-in-Ok
returns-in-Ok c = rw (text_read c.args.plan.now c.args.bytes.now c.in-Ok.ensures.cases.1) (rw c.in-Ok.ensures.cases.0 at c.check_text.ensures)

pub returns-in-Err : goal.returns-in-Err
returns-in-Err c = none_told c.args.plan.now c.args.bytes.now (json_of_other c.args.bytes.now c.in-Err.ensures.cases.0)
