use Rattle.std.proofs.Common.{◌≡◌, ◌∙◌, [], ap, subst, below_more, true, rules, arith, FitsSigned, get_or, length, ◌<◌, to_z, of_z}
use Rattle.std.proofs.lemmas.List.{get_or_default}
use Rattle.std.specs.Int.{w64, w128}
use Rattle.std.proofs.lemmas.Int.{to_z-of_z}
use Rattle.plan_model.specs.declared.spec.Aggregate.{Aggregate}
use Rattle.plan_model.specs.declared.spec.Aggregate.TheVariants.{Count}
use Rattle.plan_model.specs.Aggregates.{number_of}
use Rattle.byte_fields.specs.Fields.{is_i64}
use Rattle.aggregates.proofs.Fronts.{writes_map}
use Rattle.byte_fields.proofs.Exact.{is_i64_from}
use Rattle.aggregates.proofs.numbers.write_numbers.Goals as goal

pub loop-i-preserved : goal.loop-i-preserved
loop-i-preserved c =
    let fits : FitsSigned w64 c.number_of_one.result = search rules in
    let wide : FitsSigned w128 c.number_of_one.result = search rules in
    let back : to_z w128 (of_z w128 (to_z w64 (of_z w64 c.number_of_one.result))) ≡ c.number_of_one.result =
    ap (λ z. to_z w128 (of_z w128 z)) (to_z-of_z w64 c.number_of_one.result fits) ∙ to_z-of_z w128 c.number_of_one.result wide in
    let record_ = get_or c.args.batch.now.rows c.args.row [] in
    record {
      written = writes_map (λ (a : Aggregate). number_of a record_ []) c.args.aggregates.now c.args.numbers.now c.loop-i.numbers c.loop-i.i Count _
          (omega arith) c.requires.room c.loop-i.invariant.written (back ∙ c.number_of_one.ensures);
      fit = below_more _ _ c.loop-i.invariant.fit
          (λ d. let i_in : c.loop-i.i < length c.args.aggregates.now = omega arith in subst (λ (a : Aggregate). is_i64 (number_of a record_ []) ≡ true) (get_or_default c.args.aggregates.now c.loop-i.i Count d i_in) (subst (λ z. is_i64 z ≡ true) c.number_of_one.ensures (is_i64_from c.number_of_one.result fits)));
    }

pub returns-clause-fit : goal.returns-clause-fit
returns-clause-fit c = λ k d k_in. c.loop-i.invariant.fit k (omega arith) d
