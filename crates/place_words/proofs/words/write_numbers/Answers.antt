use Rattle.std.proofs.Common.{◌≡◌, true, ℕ, pos, ◌+◌, ◌∷◌, ◌<◌, ◌≤◌, ◌∙◌, map, drop, length, get_or, sym, ap, subst, arith, rules, FitsSigned}
use Rattle.std.specs.Int.{w128}
use Rattle.std.proofs.lemmas.Int.{to_z-of_z}
use Rattle.std.proofs.lemmas.List.{drop_more, length-map}
use Rattle.aggregates.specs.Kinds.{kind_of, is_number, are_numbers}
use Rattle.aggregates.proofs.Accs.{length-numbers}
use Rattle.place_words.specs.Words.{width_of}
use Rattle.place_words.specs.Words as words_of
use Rattle.place_words.proofs.Numbers.{AgreeBelow, kind_at, kinds_from, kinds_next, end_next, written_next, numbers_next, first_fits}
use Rattle.place_words.proofs.words.write_numbers.Goals as goal

pub bounds-numbers-i : goal.bounds-numbers-i
bounds-numbers-i c =
    let aggregates = c.args.aggregates.now in
    let all = length-numbers c.requires.fit.0 (map kind_of aggregates) c.args.numbers.now c.requires.fit.2 in
    omega (arith, length-map aggregates kind_of, all)

pub write_number-at-requires-clause-fit : goal.write_number-at-requires-clause-fit
write_number-at-requires-clause-fit c =
    let aggregates = c.args.aggregates.now in
    let numbers = c.args.numbers.now in
    let i = c.loop-i.i in
    let n = c.requires.fit.0 in
    let z = get_or numbers i (pos 0) in
    let fits : FitsSigned w128 z = search rules in
    let inside : i < length aggregates = omega arith in
    let all = length-numbers n (map kind_of aggregates) numbers c.requires.fit.2 in
    let numbers_next : drop i numbers ≡ z ∷ drop (i + 1) numbers = drop_more numbers i (pos 0) (omega (arith, length-map aggregates kind_of, all)) in
    let told : are_numbers n (kind_at aggregates i ∷ kinds_from aggregates (i + 1)) (z ∷ drop (i + 1) numbers) ≡ true =
    (λ t. are_numbers n (sym (kinds_next aggregates i inside) t) (sym numbers_next t)) ∙ c.loop-i.invariant.fit n c.requires.fit.2 in
    (n, c.requires.fit.1, ap (is_number n (kind_at aggregates i)) (to_z-of_z w128 z fits) ∙ (first_fits n (kind_at aggregates i) (kinds_from aggregates (i + 1)) z (drop (i + 1) numbers) told).0)

pub loop-i-preserved : goal.loop-i-preserved
loop-i-preserved c =
    let aggregates = c.args.aggregates.now in
    let numbers = c.args.numbers.now in
    let i = c.loop-i.i in
    let at = c.loop-i.at in
    let k = kind_at aggregates i in
    let ks = kinds_from aggregates (i + 1) in
    let z = get_or numbers i (pos 0) in
    let fits : FitsSigned w128 z = search rules in
    let inside : i < length aggregates = omega arith in
    let all = length-numbers c.requires.fit.0 (map kind_of aggregates) numbers c.requires.fit.2 in
    let next : drop i numbers ≡ z ∷ drop (i + 1) numbers = drop_more numbers i (pos 0) (omega (arith, length-map aggregates kind_of, all)) in
    let told = λ (n : ℕ) (are : are_numbers n (map kind_of aggregates) numbers ≡ true).
    first_fits n k ks z (drop (i + 1) numbers) ((λ t. are_numbers n (sym (kinds_next aggregates i inside) t) (sym next t)) ∙ c.loop-i.invariant.fit n are) in
    let same = to_z-of_z w128 z fits in
    let wide = c.write_number-at.ensures.width in
    let end = c.loop-i.invariant.end in
    let start : c.args.at ≤ at = c.loop-i.invariant.start in
    let new = c.write_number-at.new.words in
    record {
      start = omega (arith, start);
      end = end_next aggregates i at _ _ inside wide end;
      fit = λ n are. (told n are).1;
      others = written_next c.args.at at _ (width_of k) c.args.words.now c.loop-i.words new start wide c.loop-i.invariant.others c.write_number-at.ensures.others;
      written = λ n ws are agree rest.
          let first : words_of.number_at n k new at ≡ z = c.write_number-at.ensures.written n (ap (is_number n k) same ∙ (told n are).0) ∙ same in
          c.loop-i.invariant.written n ws are (λ j low. agree j (omega (arith, low)) ∙ c.write_number-at.ensures.others.below j low)
          ((λ t. words_of.numbers_at n (kinds_next aggregates i inside t) ws at)
          ∙ numbers_next n k ks z (drop (i + 1) numbers) new ws at first (subst (λ w. AgreeBelow (at + w) new ws) wide agree) (ap (λ w. words_of.numbers_at n ks ws (at + w)) (sym wide) ∙ rest) ∙ sym next);
    }
