use Rattle.std.proofs.Common.{◌++◌, ◌∷◌, [], ◌∙◌, sym, ap, rules, FitsSigned}
use Rattle.std.specs.Int.{w64}
use Rattle.std.specs.BTreeMap.{insert_entry}
use Rattle.std.specs.Ordering.{int_cmp}
use Rattle.std.proofs.lemmas.Int.{to_z-of_z}
use Rattle.window_state.specs.Open.{has_open}
use Rattle.window_state.proofs.Starts.{opened_in, opened_new, opened_same}
use Rattle.window_state.proofs.opened.open_pane.Goals as goal

pub returns-in-Ok-clause-opened : goal.returns-in-Ok-clause-opened
returns-in-Ok-clause-opened c = λ q.
    let fits : FitsSigned w64 c.args.pane.key = search rules in
    ap (λ es. has_open es q) (c.get_mut.follows.holds c.push.new.self).0
    ∙ opened_in c.args.opened.now.entries c.args.pane q c.in-Some.keys.now c.push.new.self (sym c.in-Some.ensures.value)
    (c.in-Ok.ensures.items ∙ ap (λ k. c.in-Some.keys.now.items ++ k ∷ []) (to_z-of_z w64 c.args.pane.key fits))

pub returns-in-Err-clause-err : goal.returns-in-Err-clause-err
returns-in-Err-clause-err c = λ q.
    ap (λ es. has_open es q) (c.get_mut.follows.holds c.push.new.self).0
    ∙ opened_same c.args.opened.now.entries c.args.pane.start q c.in-Some.keys.now c.push.new.self (sym c.in-Some.ensures.value) c.in-Err.ensures.items

pub returns-in-Ok-insert-clause-opened : goal.returns-in-Ok-insert-clause-opened
returns-in-Ok-insert-clause-opened c = λ q.
    let p = c.args.pane in
    let fits : FitsSigned w64 p.key = search rules in
    let start_fits : FitsSigned w64 p.start = search rules in
    let same = c.get_mut.follows.holds-at-none in
    ap (λ es. has_open es q) c.in-Ok-insert.ensures.entries
    ∙ (λ i. has_open (insert_entry int_cmp (same i).entries (to_z-of_z w64 p.start start_fits i) c.push-2.new.self) q)
    ∙ opened_new c.args.opened.now.entries p q c.push-2.new.self (sym c.in_default.ensures.value)
    (c.in_ok-push.ensures.items ∙ (λ i. c.in_ok-keys.ensures.items i ++ to_z-of_z w64 p.key fits i ∷ []))
