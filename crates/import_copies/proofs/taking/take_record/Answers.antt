use Rattle.std.proofs.Common.{refl, sym, ◌∙◌}
use Rattle.csv.specs.Records.{fields_of}
use Rattle.import_fates.specs.Fates.{faulty}
use Rattle.import_copies.proofs.Each.{faulty_taken}
use Rattle.import_copies.specs.Rows.{good_of}
use Rattle.import_copies.proofs.taking.take_record.Goals as goal

pub returns-in_ok-outcome-in-Ok-Some-clause-takes : goal.returns-in_ok-outcome-in-Ok-Some-clause-takes
returns-in_ok-outcome-in-Ok-Some-clause-takes g c before start now h =
    let fields = fields_of c.record.result.now in (
      good_of c.args.known.now c.args.source.places.now fields c.in-Ok-Some.row,
      c.in_ok-outcome-in-Ok-Some.ensures.takes before start now h,
      λ rest stands.
          let next = rw c.in-Ok-Some.field-0-is at c.in-Ok-Some.ensures rest stands in
          (next.0.more, (next.0.text, next.0.next, (fields, rw c.record.ensures next.0.gives, rw c.record.ensures next.1, refl)), next.0.stands),
    )

pub returns-in-Err-2-clause-takes : goal.returns-in-Err-2-clause-takes
returns-in-Err-2-clause-takes g c before start now h =
    let final = sym c.is_final.ensures ∙ c.if-is_final.false in (
      faulty,
      (refl, refl, h),
      λ rest stands. faulty_taken g.R.Read.remaining c.args.source c.args.known.now rest c.next_row.new.rows c.in-Err.fault final (c.in-Err.ensures rest stands final),
    )
