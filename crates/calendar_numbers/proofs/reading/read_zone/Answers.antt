use Rattle.calendar_numbers.proofs.Known.{known}
use Rattle.calendar_numbers.proofs.reading.read_zone.Goals as goal

pub returns-in-Ok-bytes_of-clause-known : goal.returns-in-Ok-bytes_of-clause-known
returns-in-Ok-bytes_of-clause-known g c = known _ _ c.args.name.now _ c.insert.result c.insert.ensures.ok
