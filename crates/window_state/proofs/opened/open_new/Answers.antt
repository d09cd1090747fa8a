use Rattle.std.proofs.Common.{◌≡◌, ◌∙◌, ℤ, ◌-ℤ◌, ◌+ℤ◌, ◌<ℤ◌, ◌+◌, ◌%◌, ◌^◌, ◌≤◌, if◌then◌else◌, BTreeMap, pos, refl, sym, ap, subst, arith, rules, tests, Some, FitsSigned, to_z, of_z, true, int_lt}
use Rattle.std.specs.Global.{Vec}
use Rattle.std.specs.Int.{w64, w128}
use Rattle.std.specs.Int.RustNames.{int_le}
use Rattle.std.proofs.lemmas.Int.{to_z-of_z}
use Rattle.std.proofs.Math.Nat.{add-mod_right, mod-eq_of_lt}
use Rattle.window_slices.specs.KeySlices.{has_start}
use Rattle.window_state.specs.Open.{has_open, OpensOnly}
use Rattle.window_state.specs.Windows.{is_pane}
use Rattle.plan_model.specs.declared.spec.Pane.{Pane}
use Rattle.std.proofs.lemmas.Bool.{or_left}
use Rattle.window_state.proofs.Slides.{held, start_is, slice_at}
use Rattle.window_state.proofs.Openings.{IsSeenTo, walk, from_is, of_some, of_none_or, at_some, put_kept, back_fits, end_fits, before_from, at_below, above_in, seen_none, seen_opened, only_opened, seen_kept, seen_all, seen_from, seen_below}
use Rattle.window_state.proofs.opened.open_new.Goals as goal
use Rattle.window_state.proofs.opened.open_new.Goals.{then-is_none_or+in_ok-open_pane, else-is_none_or}
use Rattle.window_state.proofs.opened.open_new.Goals.{then-start-from-via-then-start-from, then-start-from-via-else-start-from+then-is_some_and}

pub loop-back-init : goal.loop-back-init
loop-back-init c =
    let w = c.args.w.now in
    let k = walk w c.args.record.start c.args.first c.requires.window c.requires.rest in
    record {
      high = omega (arith, k.low, k.slide_small);
      rem = mod-eq_of_lt k.low;
      still = λ q h. h;
      only = λ q h. or_left (has_open c.args.opened.now.entries q) _ h;
      seen = seen_none w c.args.record.start c.args.record.key _ c.args.slices.now (held w.slide) (held w.size) c.args.first k c.args.opened.now.entries;
    }

pub returns-after-loop-back-clause-opened : goal.returns-after-loop-back-clause-opened
returns-after-loop-back-clause-opened c = λ q same window late.
    let w = c.args.w.now in
    let k = walk w c.args.record.start c.args.first c.requires.window c.requires.rest in
    seen_all w c.args.record.start c.args.record.key _ c.args.slices.now (held w.slide) (held w.size) c.args.first k c.loop-back.opened.entries c.loop-back.back c.loop-back-test.false c.loop-back.invariant.seen
    q same window (ap (int_lt q.start) (from_is c.args.from c.ranges.from) ∙ late)

pub overflow_sub-start : goal.overflow_sub-start
overflow_sub-start c =
    let k = walk c.args.w.now c.args.record.start c.args.first c.requires.window c.requires.rest in
    let fits : FitsSigned w64 c.args.record.start = search rules in
    back_fits c.args.record.start c.loop-back.back fits c.requires.time (omega (arith, k.size_small, c.loop-back-test.true))

pub overflow_add-end : goal.overflow_add-end
overflow_add-end c =
    let w = c.args.w.now in
    let t = c.args.record.start in
    let b = c.loop-back.back in
    let k = walk w t c.args.first c.requires.window c.requires.rest in
    let fits : FitsSigned w64 t = search rules in
    let small : b ≤ 2 ^ 40 = omega (arith, k.size_small, c.loop-back-test.true) in
    end_fits w t _ b c.requires.window c.requires.time small (start_is t t b fits refl c.requires.time small)

pub loop-back-preserved : goal.loop-back-preserved
loop-back-preserved c =
    let w = c.args.w.now in
    let t = c.args.record.start in
    let key = c.args.record.key in
    let xs = c.args.slices.now in
    let b = c.loop-back.back in
    let old = c.loop-back.invariant in
    let k = walk w t c.args.first c.requires.window c.requires.rest in
    let fits : FitsSigned w64 t = search rules in
    let small : b ≤ 2 ^ 40 = omega (arith, k.size_small, c.loop-back-test.true) in
    let start : ℤ = to_z w64 (of_z w64 (to_z w64 (of_z w64 t) -ℤ to_z w64 b)) in
    let begins : start ≡ t -ℤ pos b = start_is t t b fits refl c.requires.time small in
    let high : b + held w.slide ≤ 2 ^ 41 = omega (arith, small, k.slide_small) in
    let rem : (b + held w.slide) % held w.slide ≡ c.args.first = add-mod_right b (held w.slide) ∙ old.rem in
    elim c.if-is_none_or.branch [
      | then-is_none_or+in_ok-open_pane x ↦
          let key_fits : FitsSigned w64 key = search rules in
          let put = x.in_ok-open_pane.ensures.opened in
          let same = x.opened-is in
          let after : (q : Pane) → has_open c.if-is_none_or.opened.entries q ≡ (if is_pane (record { start = start; key = to_z w64 (of_z w64 key) }) q then true else has_open c.loop-back.opened.entries q) =
          λ q. ap (λ (m : BTreeMap ℤ (Vec ℤ)). has_open m.entries q) same ∙ put q in
          record {
            high = high;
            rem = rem;
            still = λ q h. put_kept _ _ _ (after q) (old.still q h);
            only = only_opened w t key (held w.slide) (held w.size) c.args.first k c.args.opened.now.entries c.loop-back.opened.entries c.if-is_none_or.opened.entries _ b old.rem c.loop-back-test.true old.only
                begins (to_z-of_z w64 key key_fits) after;
            seen = seen_opened w t key _ xs (held w.slide) (held w.size) c.args.first k c.loop-back.opened.entries c.if-is_none_or.opened.entries _ b old.rem c.loop-back-test.true old.seen
                begins (to_z-of_z w64 key key_fits) after;
          }
      | else-is_none_or x ↦
          let end : ℤ = to_z w64 (of_z w64 (start +ℤ to_z w64 (of_z w64 w.size))) in
          let above = c.start_above-above.result in
          let all_fit : (a : ℤ) → above ≡ Some a → FitsSigned w64 a = λ a e. search rules in
          let found = of_none_or above c.is_none_or.result _ (λ a. int_le end (to_z w64 (of_z w64 a))) c.is_none_or.ensures (λ a h. search (rules, tests)) x.if-is_none_or.false in
          let has = at_some above found.0 _ c.start_above-above.ensures.there found.1 in
          let at = slice_at w t t c.args.first fits refl c.requires.time (omega (arith, k.low, k.slide_small)) c.requires.window c.requires.whole c.requires.rest in
          let same = x.opened-is in
          let less = above_in w t start b c.requires.window c.requires.time small begins found.0 (all_fit found.0 found.1) found.2 in
          record {
            high = high;
            rem = rem;
            still = λ q h. ap (λ (m : BTreeMap ℤ (Vec ℤ)). has_open m.entries q) same ∙ old.still q h;
            only = subst (λ (m : BTreeMap ℤ (Vec ℤ)). OpensOnly w key t c.args.opened.now.entries m.entries) (sym same) old.only;
            seen = subst (λ (m : BTreeMap ℤ (Vec ℤ)). IsSeenTo w t key (to_z w128 (of_z w128 c.args.from)) m.entries xs (b + held w.slide)) (sym same)
                (seen_kept w t key _ xs (held w.slide) (held w.size) c.args.first k c.loop-back.opened.entries b found.0 old.rem c.loop-back-test.true old.seen
                (subst (λ (s : ℤ). (s <ℤ found.0) × (has_start found.0 xs ≡ true)) at has) less);
          }
    ]

pub returns-then-start-from-clause-opened : goal.returns-then-start-from-clause-opened
returns-then-start-from-clause-opened c = λ q same window late.
    let w = c.args.w.now in
    let t = c.args.record.start in
    let key = c.args.record.key in
    let xs = c.args.slices.now in
    let opened = c.loop-back.opened.entries in
    let b = c.loop-back.back in
    let seen = c.loop-back.invariant.seen in
    let k = walk w t c.args.first c.requires.window c.requires.rest in
    let fits : FitsSigned w64 t = search rules in
    let small : b ≤ 2 ^ 40 = omega (arith, k.size_small, c.loop-back-test.true) in
    let start : ℤ = to_z w64 (of_z w64 (to_z w64 (of_z w64 t) -ℤ to_z w64 b)) in
    let begins : start ≡ t -ℤ pos b = start_is t t b fits refl c.requires.time small in
    let later = ap (int_lt q.start) (from_is c.args.from c.ranges.from) ∙ late in
    elim c.then-start-from.branch [
      | then-start-from-via-then-start-from x ↦
          seen_from w t key _ xs opened b seen (before_from w t start b c.requires.window c.requires.time small begins _ x.if-start-from.true) q same window later
      | then-start-from-via-else-start-from+then-is_some_and x ↦
          let below = c.start_below-below.result in
          let all_fit : (a : ℤ) → below ≡ Some a → FitsSigned w64 a = λ a e. search rules in
          let found = of_some below x.is_some_and.result _ (λ a. int_le start (to_z w64 (of_z w64 a))) x.is_some_and.ensures (λ a h. search (rules, tests)) x.if-is_some_and.true in
          let has = at_some below found.0 _ c.start_below-below.ensures.there found.1 in
          let at = slice_at w t t c.args.first fits refl c.requires.time (omega (arith, k.low, k.slide_small)) c.requires.window c.requires.whole c.requires.rest in
          let le = at_below w t start b c.requires.window c.requires.time small begins found.0 (all_fit found.0 found.1) found.2 in
          seen_below w t key _ xs opened b seen found.0 k.slides (subst (λ (s : ℤ). (found.0 <ℤ s) × (has_start found.0 xs ≡ true)) at has) le q same window later
    ]
