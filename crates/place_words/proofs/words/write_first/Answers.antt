use Rattle.std.proofs.Common.{◌≡◌, true, [], ◌+◌, ◌<◌, ◌≤◌, ◌∙◌, map, drop, length, get_or, sym, ap, subst, below_more, arith, rules, FitsSigned}
use Rattle.std.specs.Int.{w64}
use Rattle.std.proofs.lemmas.List.{get_or_default}
use Rattle.byte_fields.specs.Fields.{is_i64}
use Rattle.plan_model.specs.declared.spec.Aggregate.{Aggregate}
use Rattle.plan_model.specs.declared.spec.Aggregate.TheVariants as aggregate
use Rattle.plan_model.specs.Aggregates.{number_of}
use Rattle.aggregates.specs.Kinds.{kind_of, is_number}
use Rattle.window_slices.proofs.Facts.{widened}
use Rattle.place_words.specs.Words as words_of
use Rattle.place_words.specs.Words.{width_of}
use Rattle.byte_fields.proofs.Exact.{is_i64_from}
use Rattle.aggregates.proofs.Accs.{one_number}
use Rattle.place_words.proofs.Numbers.{AgreeBelow, kind_at, kinds_from, rest_next, kinds_next, end_next, written_next, numbers_next}
use Rattle.place_words.proofs.words.write_first.Goals as goal

pub write_number-at-requires-clause-fit : goal.write_number-at-requires-clause-fit
write_number-at-requires-clause-fit c =
    let a = get_or c.args.aggregates.now c.loop-aggregate.aggregate-index aggregate.Count in
    let r = get_or c.args.batch.now.rows c.args.row [] in
    let fits : FitsSigned w64 c.number_of_one-number.result = search rules in
    let is = widened c.number_of_one-number.result fits ∙ c.number_of_one-number.ensures in
    let small : is_i64 (number_of a r []) ≡ true = subst (λ z. is_i64 z ≡ true) c.number_of_one-number.ensures (is_i64_from c.number_of_one-number.result fits) in
    (1, omega arith, ap (is_number 1 (kind_of a)) is ∙ one_number a r small)

pub loop-aggregate-preserved : goal.loop-aggregate-preserved
loop-aggregate-preserved c =
    let aggregates = c.args.aggregates.now in
    let r = get_or c.args.batch.now.rows c.args.row [] in
    let f = λ (a : Aggregate). number_of a r [] in
    let i = c.loop-aggregate.aggregate-index in
    let a = get_or aggregates i aggregate.Count in
    let at = c.loop-aggregate.at in
    let k = kind_at aggregates i in
    let ks = kinds_from aggregates (i + 1) in
    let new = c.write_number-at.new.words in
    let inside : i < length aggregates = omega arith in
    let next = ap (map f) (rest_next aggregates i inside) in
    let fits : FitsSigned w64 c.number_of_one-number.result = search rules in
    let same = widened c.number_of_one-number.result fits ∙ c.number_of_one-number.ensures in
    let small : is_i64 (f a) ≡ true = subst (λ z. is_i64 z ≡ true) c.number_of_one-number.ensures (is_i64_from c.number_of_one-number.result fits) in
    let width = c.write_number-at.ensures.width in
    let start : c.args.at + 1 ≤ at = c.loop-aggregate.invariant.start in
    record {
      start = omega (arith, start);
      end = end_next aggregates i at _ _ inside width c.loop-aggregate.invariant.end;
      fit = below_more _ _ c.loop-aggregate.invariant.fit
          (λ d. subst (λ (b : Aggregate). is_i64 (f b) ≡ true) (get_or_default aggregates i aggregate.Count d inside) small);
      others = written_next (c.args.at + 1) at _ (width_of k) _ c.loop-aggregate.words new start width c.loop-aggregate.invariant.others c.write_number-at.ensures.others;
      written = λ ws agree rest.
          let first : words_of.number_at 1 k new at ≡ f a = c.write_number-at.ensures.written 1 (ap (is_number 1 k) same ∙ one_number a r small) ∙ same in
          c.loop-aggregate.invariant.written ws (λ j low. agree j (omega (arith, low)) ∙ c.write_number-at.ensures.others.below j low)
          ((λ t. words_of.numbers_at 1 (kinds_next aggregates i inside t) ws at)
          ∙ numbers_next 1 k ks (f a) (map f (drop (i + 1) aggregates)) new ws at first (subst (λ w. AgreeBelow (at + w) new ws) width agree) (ap (λ w. words_of.numbers_at 1 ks ws (at + w)) (sym width) ∙ rest) ∙ sym next);
    }
