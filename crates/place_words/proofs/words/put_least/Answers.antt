use Rattle.std.proofs.Common.{◌≡◌, subst, true, below_more, pos, ◌+◌, ◌<◌, ◌∙◌, length, get_or, arith, rules, FitsSigned, to_z, of_z}
use Rattle.std.specs.Int.{w64, int_min}
use Rattle.std.proofs.lemmas.List.{get_or_default, length-set, get_or-set_other}
use Rattle.byte_fields.specs.Fields.{is_i64}
use Rattle.byte_fields.proofs.Exact.{is_i64_from}
use Rattle.aggregates.specs.declared.kind.Kind.TheVariants.{Least}
use Rattle.place_words.specs.declared.words.PlacedRow.{PlacedRow}
use Rattle.place_words.specs.Words.{word}
use Rattle.place_words.proofs.Placed.{row_at, put_next, elsewhere}
use Rattle.place_words.proofs.words.put_least.Goals as goal

pub loop-placed-preserved : goal.loop-placed-preserved
loop-placed-preserved c =
    let rows = c.args.rows.now in
    let numbers = c.args.numbers.now in
    let f = λ (r : PlacedRow). get_or numbers r.row (pos 0) in
    let i = c.loop-placed.placed-index in
    let r = row_at rows i in
    let ws = c.loop-placed.words in
    let inside : i < length rows = omega arith in
    let room : r.at + c.args.offset < length ws = omega (arith, c.requires.room i (record { row = 0; at = 0 }) inside) in
    let z = to_z w64 (of_z w64 c.min.result) in
    let is : z ≡ int_min (word ws (r.at + c.args.offset)) (f r) = search rules in
    let fits : FitsSigned w64 (f r) = search rules in
    record {
      len = length-set ws (r.at + c.args.offset) z ∙ c.loop-placed.invariant.len;
      fit = below_more _ _ c.loop-placed.invariant.fit
          (λ d. subst (λ (s : PlacedRow). is_i64 (f s) ≡ true) (get_or_default rows i (record { row = 0; at = 0 }) d inside) (is_i64_from (f r) fits));
      others = λ y apart.
          get_or-set_other ws (r.at + c.args.offset) y z (pos 0)
          (omega (arith, elsewhere (r.at + c.args.offset) y (apart i (record { row = 0; at = 0 }) inside))) ∙ c.loop-placed.invariant.others y apart;
      put = λ x. put_next Least f ws c.args.offset x rows i z inside room is ∙ c.loop-placed.invariant.put x;
    }

pub returns-clause-fit : goal.returns-clause-fit
returns-clause-fit c = λ k d low. c.loop-placed.invariant.fit k (omega (arith, low)) d
