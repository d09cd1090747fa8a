use Rattle.std.proofs.Common.{◌&&◌, ℤ, pos, cond, get_or, take, None, ◌∙◌, sym, ap, arith, rules, FitsSigned, to_z, of_z}
use Rattle.std.specs.Int.{w64}
use Rattle.std.specs.Ordering.{int_eq}
use Rattle.std.proofs.lemmas.Int.{to_z-of_z}
use Rattle.std.proofs.lemmas.List.{take_all, take_more}
use Rattle.window_state.specs.Windows.{acc_at, is_pane}
use Rattle.window_state.specs.Open.{has_key}
use Rattle.window_state.proofs.Starts.{key_gone}
use Rattle.window_state.proofs.places.Places.remove_keys.Goals as goal

pub loop-key-preserved : goal.loop-key-preserved
loop-key-preserved c =
    let held : ℤ = to_z w64 (of_z w64 c.args.start) in
    let keys = c.args.keys.now in
    let i = c.loop-key.key-index in
    let k = get_or keys i (pos 0) in
    record {
      window = c.remove.ensures.window_stays ∙ c.loop-key.invariant.window;
      taken = λ q.
          let o = acc_at c.args.self.now.entries q in
          let fits : FitsSigned w64 k = search rules in
          c.remove.ensures.taken q
          ∙ (λ j. cond (is_pane (record { start = held; key = to_z-of_z w64 k fits j }) q) None (c.loop-key.invariant.taken q j))
          ∙ key_gone held k (take i keys) q o
          ∙ ap (λ l. cond (int_eq q.start held && has_key q.key l) None o) (sym (take_more keys i (pos 0) c.loop-key-test.true));
    }

pub returns-clause-taken : goal.returns-clause-taken
returns-clause-taken c = λ q.
    let same = to_z-of_z w64 c.args.start c.ranges.start in
    c.loop-key.invariant.taken q
    ∙ (λ i. cond (int_eq q.start (same i) && has_key q.key (take_all c.loop-key.key-index c.args.keys.now (omega arith) i)) None (acc_at c.args.self.now.entries q))
