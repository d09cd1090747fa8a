use Rattle.std.proofs.Common.{◌≡◌, ◌∙◌, ◌+◌, ◌++◌, ℤ, List, [], ◌∷◌, map, Some, true, cond, get_or, length, replicate, pos, sym, ap, subst, refl, if◌then◌else◌}
use Rattle.std.specs.List.{All}
use Rattle.std.specs.Option.{is_some, option_map}
use Rattle.std.specs.Prelude.{slice_get}
use Rattle.std.specs.Vec.{with_items}
use Rattle.std.proofs.lemmas.List.{with_items_is}
use Rattle.byte_fields.specs.Fields.{is_i64}
use Rattle.plain_data.specs.Record.{Record}
use Rattle.plan_model.specs.declared.spec.Aggregate.{Aggregate}
use Rattle.plan_model.specs.Aggregates.{number_of, aggregate_of}
use Rattle.aggregates.specs.Kinds.{AccData, IsAcc, kind_of}
use Rattle.window_state.specs.Windows.{acc_at, total_at, is_pane}
use Rattle.place_words.specs.Words.{stride, acc_in, entries_in, IsWritten}
use Rattle.window_state.specs.declared.places.Places.TheInside.{Inside}
use Rattle.window_state.specs.Places.{PlacesData, ArePlaces}
use Rattle.window_state.proofs.Entries.{total_cond}
use Rattle.window_state.proofs.Spread.{found-any, pushes_place}
use Rattle.window_state.proofs.Placed.{kinds_of, few_words, one_sound, kept_pushed, on_err, some_cond}
use Rattle.window_state.proofs.RecordsPlaced.{still_there, words_stay}
use Rattle.window_state.proofs.places.Places.push_first.Goals as goal

pub push_place-requires-clause-absent : goal.push_place-requires-clause-absent
push_place-requires-clause-absent c =
    let s = c.self.inside in
    sym (found-any (kinds_of s.window) s.words.items 0 s.panes.keys c.args.pane)
    ∙ ap (λ (v : PlacesData). is_some (acc_at v.entries c.args.pane)) c.self.view_is ∙ ap is_some c.requires.absent

pub push_place-requires-clause-small : goal.push_place-requires-clause-small
push_place-requires-clause-small c = few_words c.self.inside.window c.self.inside.stride c.self.invariant.operator c.self.invariant.stride

pub invariant_of-self : goal.invariant_of-self
invariant_of-self c =
    let s = c.self.inside in
    subst (λ ps. ArePlaces s.window s.stride ps c.push_place.new.words.items) (sym c.in_err-at.ensures.panes_err)
    (subst (ArePlaces s.window s.stride s.panes.keys) (sym c.in_err-at.ensures.words_err) c.self.invariant)

pub returns-in_err-at-clause-err : goal.returns-in_err-at-clause-err
returns-in_err-at-clause-err c =
    let s = c.self.inside in
    on_err c.from_residual.result
    ((λ t. record { window = s.window; entries = entries_in (kinds_of s.window) (c.in_err-at.ensures.words_err t) 0 (c.in_err-at.ensures.panes_err t) }) ∙ c.self.view_is)

pub invariant_of-self-2 : goal.invariant_of-self-2
invariant_of-self-2 c =
    let s = c.self.inside in
    let w = s.window in
    let ks = kinds_of w in
    let p = c.args.pane in
    let r : Record = get_or c.args.batch.now.rows c.args.row [] in
    let ws = s.words.items in
    let new = c.write_first.new.words in
    let qs = c.push_place.new.panes.keys in
    let at = c.in_ok-at.ensures.at in
    let e = c.as_slice-aggregates.ensures in
    let zs = replicate s.stride (pos 0) in
    let others : IsWritten (length ws) (length ws + stride ks) (ws ++ zs) new =
    subst (λ (l : List ℤ). IsWritten (length ws) (length ws + stride ks) l new) (c.as_mut_slice.ensures.value ∙ c.in_ok-at.ensures.words)
    (subst (λ x. IsWritten x (x + stride ks) c.as_mut_slice.result.now new) at
    (subst (λ (l : List Aggregate). IsWritten c.in_ok-at.at (c.in_ok-at.at + stride (map kind_of l)) c.as_mut_slice.result.now new) e c.write_first.ensures.others)) in
    let fit : All (λ (a : Aggregate). is_i64 (number_of a r []) ≡ true) w.aggregates = subst (All (λ (a : Aggregate). is_i64 (number_of a r []) ≡ true)) e c.write_first.ensures.fit in
    let made : acc_in ks new (length ws) ≡ record { kinds = ks; total = record { count = 1; numbers = map (λ (a : Aggregate). number_of a r []) w.aggregates } } =
    (λ t. acc_in (map kind_of (sym e t)) new (sym at t)) ∙ c.write_first.ensures.written
    ∙ (λ t. record { kinds = map kind_of (e t); total = record { count = 1; numbers = map (λ (a : Aggregate). number_of a r []) (e t) } }) in
    let absent = ap (λ (v : PlacesData). acc_at v.entries p) c.self.view_is ∙ c.requires.absent in
    let writes = pushes_place ks ws new zs s.panes.keys qs s.stride p c.self.invariant.stride c.self.invariant.len c.in_ok-at.ensures.panes c.in_ok-at.ensures.unique absent others in
    let got = with_items_is c.push_place.new.words new (c.write_first.ensures.others.len ∙ c.as_mut_slice.ensures.len) in
    subst (ArePlaces w s.stride qs) (sym got)
    (kept_pushed w s.stride s.panes.keys qs ws new p c.self.invariant c.in_ok-at.ensures.panes writes others (subst IsAcc (sym made) (one_sound w r c.self.invariant.operator fit)) c.requires.start)

pub returns-clause-added : goal.returns-clause-added
returns-clause-added c = λ q.
    let s = c.self.inside in
    let w = s.window in
    let ks = kinds_of w in
    let p = c.args.pane in
    let r : Record = get_or c.args.batch.now.rows c.args.row [] in
    let ws = s.words.items in
    let new = c.write_first.new.words in
    let qs = c.push_place.new.panes.keys in
    let at = c.in_ok-at.ensures.at in
    let e = c.as_slice-aggregates.ensures in
    let zs = replicate s.stride (pos 0) in
    let m = entries_in ks ws 0 s.panes.keys in
    let others : IsWritten (length ws) (length ws + stride ks) (ws ++ zs) new =
    subst (λ (l : List ℤ). IsWritten (length ws) (length ws + stride ks) l new) (c.as_mut_slice.ensures.value ∙ c.in_ok-at.ensures.words)
    (subst (λ x. IsWritten x (x + stride ks) c.as_mut_slice.result.now new) at
    (subst (λ (l : List Aggregate). IsWritten c.in_ok-at.at (c.in_ok-at.at + stride (map kind_of l)) c.as_mut_slice.result.now new) e c.write_first.ensures.others)) in
    let made : acc_in ks new (length ws) ≡ record { kinds = ks; total = record { count = 1; numbers = map (λ (a : Aggregate). number_of a r []) w.aggregates } } =
    (λ t. acc_in (map kind_of (sym e t)) new (sym at t)) ∙ c.write_first.ensures.written
    ∙ (λ t. record { kinds = map kind_of (e t); total = record { count = 1; numbers = map (λ (a : Aggregate). number_of a r []) (e t) } }) in
    let absent = ap (λ (v : PlacesData). acc_at v.entries p) c.self.view_is ∙ c.requires.absent in
    let writes = pushes_place ks ws new zs s.panes.keys qs s.stride p c.self.invariant.stride c.self.invariant.len c.in_ok-at.ensures.panes c.in_ok-at.ensures.unique absent others in
    let got = with_items_is c.push_place.new.words new (c.write_first.ensures.others.len ∙ c.as_mut_slice.ensures.len) in
    ap (λ l. total_at (entries_in ks l 0 qs) q) got
    ∙ ap (option_map (λ (x : AccData). x.total)) (writes.at q)
    ∙ total_cond (is_pane p q) (Some (acc_in ks new (length ws))) (acc_at m q)
    ∙ (λ t. cond (is_pane p q) (Some (made t).total) (total_at m q))
    ∙ ap (λ (v : PlacesData). if is_pane p q then aggregate_of v.window.aggregates (r ∷ []) else total_at v.entries q) c.self.view_is

pub returns-clause-panes : goal.returns-clause-panes
returns-clause-panes c = λ q.
    let s = c.self.inside in
    let ks = kinds_of s.window in
    let p = c.args.pane in
    let ws = s.words.items in
    let new = c.write_first.new.words in
    let qs = c.push_place.new.panes.keys in
    let at = c.in_ok-at.ensures.at in
    let zs = replicate s.stride (pos 0) in
    let m = entries_in ks ws 0 s.panes.keys in
    let others : IsWritten (length ws) (length ws + stride ks) (ws ++ zs) new =
    subst (λ (l : List ℤ). IsWritten (length ws) (length ws + stride ks) l new) (c.as_mut_slice.ensures.value ∙ c.in_ok-at.ensures.words)
    (subst (λ x. IsWritten x (x + stride ks) c.as_mut_slice.result.now new) at
    (subst (λ (l : List Aggregate). IsWritten c.in_ok-at.at (c.in_ok-at.at + stride (map kind_of l)) c.as_mut_slice.result.now new) c.as_slice-aggregates.ensures c.write_first.ensures.others)) in
    let absent = ap (λ (v : PlacesData). acc_at v.entries p) c.self.view_is ∙ c.requires.absent in
    let writes = pushes_place ks ws new zs s.panes.keys qs s.stride p c.self.invariant.stride c.self.invariant.len c.in_ok-at.ensures.panes c.in_ok-at.ensures.unique absent others in
    let got = with_items_is c.push_place.new.words new (c.write_first.ensures.others.len ∙ c.as_mut_slice.ensures.len) in
    ap (λ l. is_some (acc_at (entries_in ks l 0 qs) q)) got
    ∙ ap is_some (writes.at q)
    ∙ some_cond (is_pane p q) (acc_in ks new (length ws)) (acc_at m q)
    ∙ ap (λ (v : PlacesData). if is_pane p q then true else is_some (acc_at v.entries q)) c.self.view_is

pub returns-clause-words : goal.returns-clause-words
returns-clause-words c = λ q x h.
    let s = c.self.inside in
    let t : Inside = record {
      window = s.window;
      stride = s.stride;
      panes = c.push_place.new.panes;
      words = with_items c.push_place.new.words c.write_first.new.words;
    } in
    words_stay s t c.args.self.now q x c.self.view_is refl
    (λ i e. ap (λ l. slice_get l i) c.in_ok-at.ensures.panes ∙ still_there s.panes.keys (c.args.pane ∷ []) i q e) h
