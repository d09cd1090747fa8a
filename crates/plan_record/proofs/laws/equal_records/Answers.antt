use Rattle.plan_record.proofs.EqualRecords.{equal_records}
use Rattle.plan_record.proofs.laws.equal_records.Goals as goal

pub returns : goal.returns
returns c = equal_records
