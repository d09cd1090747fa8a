use Rattle.std.proofs.Common.{◌≡◌, true, [], pos, ◌+◌, ◌∷◌, ◌<◌, ◌≤◌, ◌∙◌, map, drop, length, get_or, refl, sym, ap, subst, below_more, arith, rules, FitsSigned, to_z, of_z, ◌+ℤ◌}
use Rattle.std.specs.Int.{w64}
use Rattle.std.proofs.lemmas.Int.{to_z-of_z}
use Rattle.std.proofs.lemmas.List.{get_or_default, get_or-set_same, drop_all}
use Rattle.std.specs.List.{All}
use Rattle.byte_fields.specs.Fields.{is_i64}
use Rattle.plan_model.specs.declared.spec.Aggregate.{Aggregate}
use Rattle.plan_model.specs.declared.spec.Aggregate.TheVariants as aggregate
use Rattle.plan_model.specs.Aggregates.{number_of}
use Rattle.aggregates.specs.Kinds.{kind_of, is_number, are_numbers, merge_by, merge_all}
use Rattle.aggregates.proofs.Accs.{merged_numbers, one_numbers}
use Rattle.place_words.specs.Words as words_of
use Rattle.place_words.specs.Words.{width_of, word, count_of, IsWritten}
use Rattle.place_words.proofs.Numbers.{AgreeBelow, kind_at, kinds_from, rest_next, kinds_next, end_next, written_on, written_next, numbers_next, number-above, first_fits, set_written, count_more}
use Rattle.place_words.proofs.words.add_record.Goals as goal

pub add_number-at-requires-clause-few : goal.add_number-at-requires-clause-few
add_number-at-requires-clause-few c =
    let aggregates = c.args.aggregates.now in
    let i = c.loop-aggregate.aggregate-index in
    let at = c.loop-aggregate.at in
    let old = c.args.words.now in
    let n = count_of (word old c.args.at) in
    let k = kind_at aggregates i in
    let ks = kinds_from aggregates (i + 1) in
    let inside : i < length aggregates = omega arith in
    let told : are_numbers n (k ∷ ks) (words_of.numbers_at n (k ∷ ks) old at) ≡ true =
    (λ t. let l = sym (kinds_next aggregates i inside) t in are_numbers n l (words_of.numbers_at n l old at)) ∙ c.loop-aggregate.invariant.few in
    let so_far : IsWritten c.args.at at old c.loop-aggregate.words =
    written_on c.args.at (c.args.at + 1) at old _ c.loop-aggregate.words (omega arith) c.loop-aggregate.invariant.start (set_written c.args.at _ old) c.loop-aggregate.invariant.others in
    let same : words_of.number_at n k c.loop-aggregate.words at ≡ words_of.number_at n k old at = number-above n k old c.loop-aggregate.words c.args.at at at so_far (omega arith) in
    (n, c.requires.few, ap (is_number n k) same ∙ (first_fits n k ks (words_of.number_at n k old at) (words_of.numbers_at n ks old (at + width_of k)) told).0)

pub loop-aggregate-preserved : goal.loop-aggregate-preserved
loop-aggregate-preserved c =
    let aggregates = c.args.aggregates.now in
    let r = get_or c.args.batch.now.rows c.args.row [] in
    let f = λ (a : Aggregate). number_of a r [] in
    let i = c.loop-aggregate.aggregate-index in
    let a = get_or aggregates i aggregate.Count in
    let at = c.loop-aggregate.at in
    let old = c.args.words.now in
    let now = c.loop-aggregate.words in
    let new = c.add_number-at.new.words in
    let n = count_of (word old c.args.at) in
    let k = kind_at aggregates i in
    let ks = kinds_from aggregates (i + 1) in
    let inside : i < length aggregates = omega arith in
    let kinds = kinds_next aggregates i inside in
    let next = ap (map f) (rest_next aggregates i inside) in
    let told : are_numbers n (k ∷ ks) (words_of.numbers_at n (k ∷ ks) old at) ≡ true =
    (λ t. let l = sym kinds t in are_numbers n l (words_of.numbers_at n l old at)) ∙ c.loop-aggregate.invariant.few in
    let start : c.args.at + 1 ≤ at = c.loop-aggregate.invariant.start in
    let so_far : IsWritten c.args.at at old now =
    written_on c.args.at (c.args.at + 1) at old _ now (omega arith) start (set_written c.args.at _ old) c.loop-aggregate.invariant.others in
    let width = c.add_number-at.ensures.width in
    let rest_few = (first_fits n k ks (words_of.number_at n k old at) (words_of.numbers_at n ks old (at + width_of k)) told).1 in
    record {
      start = omega (arith, start);
      end = end_next aggregates i at _ _ inside width c.loop-aggregate.invariant.end;
      fit = below_more _ _ c.loop-aggregate.invariant.fit
          (λ d. subst (λ (b : Aggregate). is_i64 (f b) ≡ true) (get_or_default aggregates i aggregate.Count d inside) c.add_number-at.ensures.fit);
      few = ap (λ w. are_numbers n ks (words_of.numbers_at n ks old (at + w))) width ∙ rest_few;
      others = written_next (c.args.at + 1) at _ (width_of k) _ now new start width c.loop-aggregate.invariant.others c.add_number-at.ensures.others;
      added = λ ws agree rest.
          let first : words_of.number_at (n + 1) k new at ≡ merge_by k (words_of.number_at n k old at) (f a) =
          c.add_number-at.ensures.added n ∙ ap (λ z. merge_by k z (f a)) (number-above n k old now c.args.at at at so_far (omega arith)) in
          c.loop-aggregate.invariant.added ws (λ j low. agree j (omega (arith, low)) ∙ c.add_number-at.ensures.others.below j low)
          ((λ t. words_of.numbers_at (n + 1) (kinds t) ws at)
          ∙ numbers_next (n + 1) k ks (merge_by k (words_of.number_at n k old at) (f a)) (merge_all ks (words_of.numbers_at n ks old (at + width_of k)) (map f (drop (i + 1) aggregates))) new ws at
          first (subst (λ w. AgreeBelow (at + w) new ws) width agree)
          (subst (λ w. words_of.numbers_at (n + 1) ks ws (at + w) ≡ merge_all ks (words_of.numbers_at n ks old (at + w)) (map f (drop (i + 1) aggregates))) width rest)
          ∙ (λ t. let l = sym kinds t in merge_all l (words_of.numbers_at n l old at) (sym next t)));
    }

pub returns-clause-sound : goal.returns-clause-sound
returns-clause-sound c =
    let aggregates = c.args.aggregates.now in
    let r = get_or c.args.batch.now.rows c.args.row [] in
    let f = λ (a : Aggregate). number_of a r [] in
    let i = c.loop-aggregate.aggregate-index in
    let old = c.args.words.now in
    let now = c.loop-aggregate.words in
    let n = count_of (word old c.args.at) in
    let ks = map kind_of aggregates in
    let xs = words_of.numbers_at n ks old (c.args.at + 1) in
    let inside : c.args.at < length old = omega (arith, c.requires.room) in
    let fits : FitsSigned w64 (word old c.args.at) = search rules in
    let none : drop i aggregates ≡ [] = drop_all i aggregates (omega arith) in
    let count : count_of (word now c.args.at) ≡ n + 1 =
    ap count_of (c.loop-aggregate.invariant.others.below c.args.at (omega arith) ∙ get_or-set_same old c.args.at _ (pos 0) inside ∙ ap (λ z. to_z w64 (of_z w64 (z +ℤ pos 1))) (to_z-of_z w64 (word old c.args.at) fits)) ∙ count_more (word old c.args.at) c.requires.sound.counted c.requires.few in
    let left : words_of.numbers_at (n + 1) (map kind_of (drop i aggregates)) now c.loop-aggregate.at
    ≡ merge_all (map kind_of (drop i aggregates)) (words_of.numbers_at n (map kind_of (drop i aggregates)) old c.loop-aggregate.at) (map f (drop i aggregates)) =
    subst (λ l. words_of.numbers_at (n + 1) (map kind_of l) now c.loop-aggregate.at ≡ merge_all (map kind_of l) (words_of.numbers_at n (map kind_of l) old c.loop-aggregate.at) (map f l)) (sym none) refl in
    let numbers : words_of.numbers_at (n + 1) ks now (c.args.at + 1) ≡ merge_all ks xs (map f aggregates) = c.loop-aggregate.invariant.added now (λ j low. refl) left in
    let fit : All (λ (a : Aggregate). is_i64 (f a) ≡ true) aggregates = λ j d low. c.loop-aggregate.invariant.fit j (omega (arith, low)) d in
    record {
      some = c.requires.sound.some;
      few = c.requires.sound.few;
      counted = omega (arith, count);
      bounded = omega (arith, count, c.requires.few);
      numbers = ap (λ m. are_numbers m ks (words_of.numbers_at m ks now (c.args.at + 1))) count ∙ ap (are_numbers (n + 1) ks) numbers
          ∙ merged_numbers n 1 ks xs (map f aggregates) c.requires.sound.numbers (one_numbers aggregates r fit);
    }
