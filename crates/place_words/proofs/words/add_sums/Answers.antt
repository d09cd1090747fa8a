use Rattle.std.proofs.Common.{◌≡◌, true, below_more, ◌≢◌, ℕ, ℤ, List, pos, ◌+◌, ◌*◌, ◌^◌, ◌<◌, ◌≤◌, ◌+ℤ◌, ◌∙◌, length, get_or, sym, ap, subst, arith, rules, unsigned_abs, FitsSigned, drop}
use Rattle.std.specs.Int.{w64}
use Rattle.std.proofs.lemmas.Int.{to_z-of_z}
use Rattle.std.proofs.lemmas.List.{get_or_default}
use Rattle.byte_fields.specs.Fields.{is_i64}
use Rattle.byte_fields.proofs.Exact.{is_i64_from}
use Rattle.aggregates.specs.declared.kind.Kind.TheVariants.{Sum}
use Rattle.place_words.specs.declared.words.PlacedRow.{PlacedRow}
use Rattle.place_words.specs.Words.{word, sum_of}
use Rattle.place_words.specs.PlacedRows.{rows_to, AreApart}
use Rattle.place_words.proofs.Placed.{row_at, merged_next, small_next, one_more, sum_grows, outside, number_apart}
use Rattle.place_words.proofs.words.add_sums.Goals as goal

pub add_to_sum-requires-clause-small : goal.add_to_sum-requires-clause-small
add_to_sum-requires-clause-small c =
    let rows = c.args.rows.now in
    let numbers = c.args.numbers.now in
    let i = c.loop-placed.placed-index in
    let r = row_at rows i in
    let z = get_or numbers r.row (pos 0) in
    let ws = c.loop-placed.words in
    let inside : i < length rows = omega arith in
    let sum = sum_of (word ws (r.at + c.args.offset)) (word ws (r.at + c.args.offset + 1)) in
    let fits : FitsSigned w64 z = search rules in
    let grows : unsigned_abs (sum +ℤ z) ≤ unsigned_abs sum + 2 ^ 63 = sum_grows sum z fits in
    let small : unsigned_abs sum + rows_to r.at (drop i rows) * 2 ^ 63 ≤ 2 ^ 104 = c.loop-placed.invariant.small i (record { row = 0; at = 0 }) inside in
    let total : unsigned_abs (sum +ℤ z) ≤ 2 ^ 104 = within (unsigned_abs (sum +ℤ z)) (unsigned_abs sum) _ _ grows (one_more rows i inside) small in
    subst (λ y. unsigned_abs (sum +ℤ y) ≤ 2 ^ 104) (sym (to_z-of_z w64 z fits)) total
  where
    within : (after before left rest : ℕ) → after ≤ before + 2 ^ 63 → left ≡ 1 + rest → before + left * 2 ^ 63 ≤ 2 ^ 104 → after ≤ 2 ^ 104
    within after before left rest grows more small = omega (arith, grows, more, small)

pub loop-placed-preserved : goal.loop-placed-preserved
loop-placed-preserved c =
    let rows = c.args.rows.now in
    let numbers = c.args.numbers.now in
    let f = λ (r : PlacedRow). get_or numbers r.row (pos 0) in
    let i = c.loop-placed.placed-index in
    let r = row_at rows i in
    let offset = c.args.offset in
    let ws = c.loop-placed.words in
    let new = c.add_to_sum.new.words in
    let inside : i < length rows = omega arith in
    let sum = λ (ws : List ℤ) (x : ℕ). sum_of (word ws (x + offset)) (word ws (x + offset + 1)) in
    let fits : FitsSigned w64 (f r) = search rules in
    let is : sum new r.at ≡ sum ws r.at +ℤ f r = c.add_to_sum.ensures.added ∙ ap (λ z. sum ws r.at +ℤ z) (to_z-of_z w64 (f r) fits) in
    let here = λ (x : ℕ) (e : r.at ≡ x). subst (λ y. sum new y ≡ sum ws y +ℤ f r) e is in
    let there = λ (x : ℕ) (apart : AreApart 2 x r.at) (other : r.at ≢ x). number_apart 0 Sum x r.at offset ws new c.add_to_sum.ensures.others apart other in
    record {
      len = c.add_to_sum.ensures.others.len ∙ c.loop-placed.invariant.len;
      small = λ j d low.
          let x = (get_or rows j d).at in
          small_next x rows i (sum ws x) (sum new x) inside
          (λ e. subst (λ z. unsigned_abs z ≤ unsigned_abs (sum ws x) + 2 ^ 63) (sym (here x e)) (sum_grows (sum ws x) (f r) fits))
          (there x (c.requires.apart j d low i (record { row = 0; at = 0 }) inside))
          (c.loop-placed.invariant.small j d low);
      fit = below_more _ _ c.loop-placed.invariant.fit
          (λ d. subst (λ (s : PlacedRow). is_i64 (f s) ≡ true) (get_or_default rows i (record { row = 0; at = 0 }) d inside) (is_i64_from (f r) fits));
      others = λ y apart. outside (r.at + offset) (r.at + offset + 2) y ws new c.add_to_sum.ensures.others (apart i (record { row = 0; at = 0 }) inside)
          ∙ c.loop-placed.invariant.others y apart;
      added = λ x apart.
          merged_next Sum f x rows i (sum ws x) (sum new x) inside (here x) (there x (apart i (record { row = 0; at = 0 }) inside))
          ∙ c.loop-placed.invariant.added x apart;
    }

pub returns-clause-fit : goal.returns-clause-fit
returns-clause-fit c = λ k d low. c.loop-placed.invariant.fit k (omega (arith, low)) d
