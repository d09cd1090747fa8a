use Rattle.std.proofs.Common.{◌≡◌, true, ℕ, [], ◌∷◌, pos, ◌+◌, ◌*◌, ◌+ℤ◌, ◌<◌, ◌≤◌, ◌∙◌, map, drop, length, get_or, refl, sym, ap, subst, below_more, inr, arith}
use Rattle.std.proofs.lemmas.Int.{ints}
use Rattle.std.proofs.lemmas.List.{length-map, drop_all, get_or_default}
use Rattle.byte_fields.specs.Fields.{is_i64}
use Rattle.plan_model.specs.declared.spec.Aggregate.{Aggregate}
use Rattle.plan_model.specs.declared.spec.Aggregate.TheVariants as aggregate
use Rattle.aggregates.specs.Kinds.{kind_of, is_number, are_numbers}
use Rattle.place_words.specs.Words.{width_of, width, stride, word, count_of, number_at, numbers_at}
use Rattle.place_words.specs.PlacedRows.{rows_to, merged_to, IsInPlaces}
use Rattle.place_words.proofs.Numbers.{kind_at, kinds_from, rest_next, kinds_next, end_next, first_fits, number-same, width-few}
use Rattle.place_words.proofs.Placed.{AllRows}
use Rattle.place_words.proofs.Columns.{columns_fit, number_in, columns_to, by_columns, are_apart, apart_narrower, word_apart, columns_next, some_goes, none_goes, not_inside, count_added, words_same, length-numbers_at}
use Rattle.place_words.proofs.words.add_rows.Goals as goal

pub loop-aggregate-init : goal.loop-aggregate-init
loop-aggregate-init c =
    let old = c.args.words.now in
    let rows = c.args.rows.now in
    let kinds = map kind_of c.args.aggregates.now in
    record {
      start = omega arith;
      end = refl;
      len = c.count_rows.ensures.len;
      count = λ x place. c.count_rows.ensures.counted x;
      others = λ x j place low high.
          let none : rows_to (x + j) rows ≡ 0 = none_goes (x + j) rows
          (λ m d inside. not_inside (stride kinds) x (get_or rows m d).at j
          (are_apart kinds old x (get_or rows m d).at place (c.requires.places m d inside).within) low high) in
          let plain : word old (x + j) +ℤ pos 0 ≡ word old (x + j) = omega (arith, ints) in
          c.count_rows.ensures.counted (x + j) ∙ ap (λ m. word old (x + j) +ℤ pos m) none ∙ plain;
      few = λ m d low. (c.requires.places m d low).sound.numbers;
      fit = λ k low. absurd (omega (arith, low));
      added = λ n x place ws agree rest. rest;
    }

pub overflow_add-offset : goal.overflow_add-offset
overflow_add-offset c =
    let aggregates = c.args.aggregates.now in
    let i = c.loop-aggregate.aggregate-index in
    let next : width (kinds_from aggregates i) ≡ width_of (kind_at aggregates i) + width (kinds_from aggregates (i + 1)) =
    ap width (kinds_next aggregates i (omega arith)) in
    let few : width (map kind_of aggregates) ≤ 2 * length (map kind_of aggregates) = width-few (map kind_of aggregates) in
    omega (arith, length-map aggregates kind_of, next, few, c.loop-aggregate.invariant.end, c.width_of-offset.ensures, c.requires.few_aggregates)

pub add_column-requires-clause-apart : goal.add_column-requires-clause-apart
add_column-requires-clause-apart c =
    let aggregates = c.args.aggregates.now in
    let rows = c.args.rows.now in
    let kinds = map kind_of aggregates in
    let i = c.loop-aggregate.aggregate-index in
    let next : width (kinds_from aggregates i) ≡ width_of (kind_at aggregates i) + width (kinds_from aggregates (i + 1)) =
    ap width (kinds_next aggregates i (omega arith)) in
    let narrow : width_of (kind_at aggregates i) ≤ stride kinds = omega (arith, next, c.loop-aggregate.invariant.end) in
    λ k d low m e inside.
    apart_narrower (width_of (kind_at aggregates i)) (stride kinds) (get_or rows k d).at (get_or rows m e).at narrow
    (are_apart kinds c.args.words.now (get_or rows k d).at (get_or rows m e).at (c.requires.places k d low).within (c.requires.places m e inside).within)

pub add_column-requires-clause-few : goal.add_column-requires-clause-few
add_column-requires-clause-few c =
    let aggregates = c.args.aggregates.now in
    let rows = c.args.rows.now in
    let old = c.args.words.now in
    let now = c.loop-aggregate.words in
    let o = c.loop-aggregate.offset in
    let i = c.loop-aggregate.aggregate-index in
    let k = kind_at aggregates i in
    let ks = kinds_from aggregates (i + 1) in
    let kinds = kinds_next aggregates i (omega arith) in
    let next : width (kinds_from aggregates i) ≡ width_of k + width ks = ap width kinds in
    let room : o + width_of k ≤ stride (map kind_of aggregates) = omega (arith, next, c.loop-aggregate.invariant.end) in
    λ m d low.
    let x = (get_or rows m d).at in
    let n = count_of (word old x) in
    let told : are_numbers n (k ∷ ks) (numbers_at n (k ∷ ks) old (x + o)) ≡ true =
    (λ t. let l = sym kinds t in are_numbers n l (numbers_at n l old (x + o))) ∙ c.loop-aggregate.invariant.few m d low in
    let same : number_at n k now (x + o) ≡ number_at n k old (x + o) = number-same n k old now (x + o) (x + o)
    (words_same x o (width_of k) old now
    (λ j start end. c.loop-aggregate.invariant.others x j (c.requires.places m d low).within start (omega (arith, end, room)))) in
    (n, c.requires.few m d low, ap (is_number n k) same ∙ (first_fits n k ks (number_at n k old (x + o)) (numbers_at n ks old (x + o + width_of k)) told).0)

pub loop-aggregate-preserved : goal.loop-aggregate-preserved
loop-aggregate-preserved c =
    let aggregates = c.args.aggregates.now in
    let rows = c.args.rows.now in
    let records = c.args.batch.now.rows in
    let old = c.args.words.now in
    let now = c.loop-aggregate.words in
    let new = c.add_column.new.words in
    let o = c.loop-aggregate.offset in
    let i = c.loop-aggregate.aggregate-index in
    let a = get_or aggregates i aggregate.Count in
    let k = kind_at aggregates i in
    let ks = kinds_from aggregates (i + 1) in
    let v = width_of k in
    let all = map kind_of aggregates in
    let s = stride all in
    let wide = c.width_of-offset.ensures in
    let inside : i < length aggregates = omega arith in
    let next = rest_next aggregates i inside in
    let kinds = kinds_next aggregates i inside in
    let more : width (kinds_from aggregates i) ≡ v + width ks = ap width kinds in
    let start : 1 ≤ o = c.loop-aggregate.invariant.start in
    let end : o + width (kinds_from aggregates i) ≡ s = c.loop-aggregate.invariant.end in
    let room : o + v ≤ s = omega (arith, more, end) in
    let kept = λ (x j : ℕ) (place : IsInPlaces all old x) (low : j < s) (own : o ≤ j → o + v ≤ j).
    c.add_column.ensures.others (x + j)
    (λ m d l. word_apart s v o x (get_or rows m d).at j
    (are_apart all old x (get_or rows m d).at place (c.requires.places m d l).within) start room low own) in
    record {
      start = omega (arith, start);
      end = end_next aggregates i o _ s inside wide end;
      len = c.add_column.ensures.len ∙ c.loop-aggregate.invariant.len;
      count = λ x place.
          let plain : x ≡ x + 0 = omega arith in
          ap (word new) plain ∙ kept x 0 place (omega arith) (λ h. absurd (omega (arith, h, start))) ∙ ap (word now) (sym plain)
          ∙ c.loop-aggregate.invariant.count x place;
      others = λ x j place low high.
          kept x j place high (λ h. omega (arith, low, wide)) ∙ c.loop-aggregate.invariant.others x j place (omega (arith, low)) high;
      few = λ m d low.
          let x = (get_or rows m d).at in
          let n = count_of (word old x) in
          let told : are_numbers n (k ∷ ks) (numbers_at n (k ∷ ks) old (x + o)) ≡ true =
          (λ t. let l = sym kinds t in are_numbers n l (numbers_at n l old (x + o))) ∙ c.loop-aggregate.invariant.few m d low in
          let at : x + (o + c.width_of-offset.result) ≡ x + o + v = omega (arith, wide) in
          ap (λ y. are_numbers n ks (numbers_at n ks old y)) at ∙ (first_fits n k ks (number_at n k old (x + o)) (numbers_at n ks old (x + o + v)) told).1;
      fit = below_more _ _ c.loop-aggregate.invariant.fit
          (λ d. subst (λ (b : Aggregate). AllRows (λ r. is_i64 (number_in records b r) ≡ true) rows)
          (get_or_default aggregates i aggregate.Count d inside) c.add_column.ensures.fit);
      added = λ n x place ws agree rest.
          let total = n + rows_to x rows in
          let at : x + (o + c.width_of-offset.result) ≡ x + o + v = omega (arith, wide) in
          let same : number_at n k now (x + o) ≡ number_at n k old (x + o) = number-same n k old now (x + o) (x + o)
          (words_same x o v old now (λ j from to. c.loop-aggregate.invariant.others x j place from (omega (arith, to, room)))) in
          let first : number_at total k new (x + o) ≡ merged_to k (number_in records a) x rows (number_at n k old (x + o)) =
          c.add_column.ensures.added n x (λ m d l. apart_narrower v s x (get_or rows m d).at (omega (arith, room))
          (are_apart all old x (get_or rows m d).at place (c.requires.places m d l).within))
          ∙ ap (merged_to k (number_in records a) x rows) same in
          let later = subst (λ y. numbers_at total ks ws y ≡ columns_to records x rows (drop (i + 1) aggregates) (numbers_at n ks old y)) at rest in
          c.loop-aggregate.invariant.added n x place ws
          (λ j one low. agree j one (omega (arith, low)) ∙ kept x j place (omega (arith, low, room)) (λ h. absurd (omega (arith, h, low))))
          ((λ t. numbers_at total (kinds t) ws (x + o))
          ∙ columns_next total k ks (merged_to k (number_in records a) x rows (number_at n k old (x + o)))
          (columns_to records x rows (drop (i + 1) aggregates) (numbers_at n ks old (x + o + v))) new ws (x + o)
          first (words_same x o v new ws (λ j from to. agree j (omega (arith, from, start)) (omega (arith, to, wide)))) later
          ∙ (λ t. columns_to records x rows (sym next t) (numbers_at n (map kind_of (sym next t)) old (x + o))));
    }

pub returns-clause-added : goal.returns-clause-added
returns-clause-added c = λ x place.
    let aggregates = c.args.aggregates.now in
    let rows = c.args.rows.now in
    let records = c.args.batch.now.rows in
    let old = c.args.words.now in
    let now = c.loop-aggregate.words in
    let o = c.loop-aggregate.offset in
    let i = c.loop-aggregate.aggregate-index in
    let kinds = map kind_of aggregates in
    let n = count_of (word old x) in
    let m = rows_to x rows in
    let none : drop i aggregates ≡ [] = drop_all i aggregates (omega arith) in
    let count : count_of (word now x) ≡ n + m =
    ap count_of (c.loop-aggregate.invariant.count x place)
    ∙ count_added (word old x) m (some_goes (λ y. 1 ≤ count_of (word old y)) x rows (λ j d low. (c.requires.places j d low).sound.counted)) in
    let left = subst (λ l. numbers_at (n + m) (map kind_of l) now (x + o) ≡ columns_to records x rows l (numbers_at n (map kind_of l) old (x + o)))
    (sym none) refl in
    let numbers : numbers_at (n + m) kinds now (x + 1) ≡ columns_to records x rows aggregates (numbers_at n kinds old (x + 1)) =
    c.loop-aggregate.invariant.added n x place now (λ j one low. refl) left in
    let total = by_columns records x rows aggregates n (numbers_at n kinds old (x + 1)) (length-numbers_at n aggregates old (x + 1)) in
    let same = (λ t. record { count = count t; numbers = (ap (λ y. numbers_at y kinds now (x + 1)) count ∙ numbers) t }) ∙ sym total in
    λ t. record { kinds = kinds; total = same t }

pub returns-clause-sound : goal.returns-clause-sound
returns-clause-sound c = λ x place few.
    let aggregates = c.args.aggregates.now in
    let rows = c.args.rows.now in
    let records = c.args.batch.now.rows in
    let old = c.args.words.now in
    let now = c.loop-aggregate.words in
    let o = c.loop-aggregate.offset in
    let i = c.loop-aggregate.aggregate-index in
    let kinds = map kind_of aggregates in
    let n = count_of (word old x) in
    let m = rows_to x rows in
    let none : drop i aggregates ≡ [] = drop_all i aggregates (omega arith) in
    let count : count_of (word now x) ≡ n + m =
    ap count_of (c.loop-aggregate.invariant.count x place.within) ∙ count_added (word old x) m (inr place.sound.counted) in
    let left = subst (λ l. numbers_at (n + m) (map kind_of l) now (x + o) ≡ columns_to records x rows l (numbers_at n (map kind_of l) old (x + o)))
    (sym none) refl in
    let numbers : numbers_at (n + m) kinds now (x + 1) ≡ columns_to records x rows aggregates (numbers_at n kinds old (x + 1)) =
    c.loop-aggregate.invariant.added n x place.within now (λ j one low. refl) left in
    record {
      some = place.sound.some;
      few = place.sound.few;
      counted = omega (arith, count, place.sound.counted);
      bounded = omega (arith, count, few);
      numbers = ap (λ y. are_numbers y kinds (numbers_at y kinds now (x + 1))) count ∙ ap (are_numbers (n + m) kinds) numbers
          ∙ columns_fit records x rows aggregates n (numbers_at n kinds old (x + 1)) place.sound.numbers
          (λ j d low k e inside. c.loop-aggregate.invariant.fit k (omega (arith, inside)) e j d low);
    }
