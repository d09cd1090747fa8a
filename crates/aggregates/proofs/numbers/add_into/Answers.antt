use Rattle.std.proofs.Common.{◌≡◌, ◌∙◌, [], sym, subst, below_more, true, arith, get_or, length, map, ◌<◌, ◌≤◌, pos}
use Rattle.std.proofs.lemmas.List.{get_or_default, get_or-map, length-map}
use Rattle.plan_model.specs.declared.spec.Aggregate.{Aggregate}
use Rattle.plan_model.specs.declared.spec.Aggregate.TheVariants as aggregate
use Rattle.plan_model.specs.Aggregates.{number_of}
use Rattle.byte_fields.specs.Fields.{is_i64}
use Rattle.aggregates.specs.declared.kind.Kind.TheVariants.{Count}
use Rattle.aggregates.specs.Kinds.{kind_of, merge_by}
use Rattle.aggregates.proofs.Fronts.{writes_merged, small_next}
use Rattle.aggregates.proofs.numbers.add_into.Goals as goal

pub add_number-requires-clause-small : goal.add_number-requires-clause-small
add_number-requires-clause-small c =
    let aggregates = c.args.aggregates.now in
    let f = λ (a : Aggregate). number_of a (get_or c.args.batch.now.rows c.args.row []) [] in
    small_next (map kind_of aggregates) c.args.numbers.now (map f aggregates) c.loop-i.numbers c.loop-i.i (pos 0)
    (omega (arith, length-map aggregates kind_of)) (omega (arith, length-map aggregates kind_of)) (omega (arith, length-map aggregates kind_of, length-map aggregates f)) c.loop-i.invariant.added c.requires.small

pub loop-i-preserved : goal.loop-i-preserved
loop-i-preserved c =
    let aggregates = c.args.aggregates.now in
    let record_ = get_or c.args.batch.now.rows c.args.row [] in
    let f = λ (a : Aggregate). number_of a record_ [] in
    let i = c.loop-i.i in
    let i_in : i < length aggregates = omega arith in
    let kinds_in : i < length (map kind_of aggregates) = omega (arith, length-map aggregates kind_of) in
    let room : length (map kind_of aggregates) ≤ length c.args.numbers.now = omega (arith, length-map aggregates kind_of) in
    let others : length (map kind_of aggregates) ≤ length (map f aggregates) = omega (arith, length-map aggregates kind_of, length-map aggregates f) in
    let kind : kind_of (get_or aggregates i aggregate.Count) ≡ get_or (map kind_of aggregates) i Count = sym (get_or-map kind_of aggregates i aggregate.Count Count i_in) in
    let number : f (get_or aggregates i aggregate.Count) ≡ get_or (map f aggregates) i (pos 0) = sym (get_or-map f aggregates i aggregate.Count (pos 0) i_in) in
    record {
      added = writes_merged (map kind_of aggregates) c.args.numbers.now (map f aggregates) c.loop-i.numbers i Count (pos 0) (pos 0) _ kinds_in room others c.loop-i.invariant.added
          (c.add_number.ensures.added ∙ (λ t. merge_by (kind t) (get_or c.loop-i.numbers i (pos 0)) (number t)));
      fit = below_more _ _ c.loop-i.invariant.fit
          (λ d. subst (λ (a : Aggregate). is_i64 (number_of a record_ []) ≡ true) (get_or_default aggregates i aggregate.Count d i_in) c.add_number.ensures.fit);
    }
