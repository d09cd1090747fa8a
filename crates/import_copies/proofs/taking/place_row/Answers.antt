use Rattle.std.proofs.Common.{◌∙◌, sym, ap, is_some, Option, ℕ}
use Rattle.csv.specs.Records.{fields_of}
use Rattle.import_copies.proofs.Sorting.{placed}
use Rattle.import_copies.proofs.taking.place_row.Goals as goal

pub returns-in-None-clause-takes : goal.returns-in-None-clause-takes
returns-in-None-clause-takes c rows start now h =
    let new = sym c.in_ok-place.ensures.before ∙ ap (λ (o : Option ℕ). is_some o) c.in-None.is in
    placed c.args.known.now c.known_before.new.known c.args.places.now (fields_of c.args.fields.now) c.args.row rows start now c.args.partition.now c.put.new.partition c.put.result
    new c.in_ok-place.ensures.after c.put.ensures.rule (c.put.ensures.fate rows start now h) (c.put.ensures.puts rows start now h)
