use Rattle.std.proofs.Common.{◌≡◌, ◌∙◌, ◌+◌, ◌++◌, ◌<◌, true, cond, [], ◌∷◌, get_or, length, take, sym, ap, subst, arith, rules, FitsSigned, None}
use Rattle.std.specs.Prelude.{IfSome}
use Rattle.std.specs.Int.{w64}
use Rattle.std.specs.List.{All}
use Rattle.std.specs.Option.{is_some, option_map}
use Rattle.std.specs.Vec.{vec_len, vec_capacity}
use Rattle.std.proofs.lemmas.List.{take_all}
use Rattle.std.proofs.lemmas.List.Elements.{All-get_or, All-push, All-same, All-weaker}
use Rattle.plain_data.specs.Record.{Record, at}
use Rattle.plan_model.specs.declared.spec.Pane.{Pane}
use Rattle.plan_model.specs.declared.spec.WindowSpec.{WindowSpec}
use Rattle.plan_model.specs.Windows.{is_start, IsTime}
use Rattle.plan_model.specs.Aggregates.{aggregate_of, merge}
use Rattle.plan_model.specs.Rows.{aggregate_at}
use Rattle.aggregates.specs.Kinds.{AccData}
use Rattle.place_words.specs.declared.words.PlacedRow.{PlacedRow}
use Rattle.window_state.specs.Open.{has_open}
use Rattle.window_state.specs.Places.{PlacesData}
use Rattle.window_state.specs.Placing.{last_pane, records_placed, HasWordsAt}
use Rattle.window_state.specs.State.{HasRoom}
use Rattle.window_state.specs.Windows.{acc_at, is_pane, total_at}
use Rattle.window_state.proofs.Entries.{none_there}
use Rattle.window_state.proofs.Standing.{opens}
use Rattle.window_state.proofs.Listed.{has_first, has_listed, lands, listed_more, open_more, pane_held, put_first, room_listed, starts_more, step_first, step_listed, Has, Lands}
use Rattle.window_state.proofs.together.add_together.Goals as goal
use Rattle.window_state.proofs.together.add_together.Goals.{in-Some, in-None+in_ok-open_pane-in-None+in_ok-push_first-in-None}

pub returns-in_err-open_pane-in-None-clause-opened : goal.returns-in_err-open_pane-in-None-clause-opened
returns-in_err-open_pane-in-None-clause-opened c = λ q some. c.in_err-open_pane-in-None.ensures.err q ∙ c.loop-row.invariant.opened q some

pub returns-in_err-open_pane-in-None-clause-open_stay : goal.returns-in_err-open_pane-in-None-clause-open_stay
returns-in_err-open_pane-in-None-clause-open_stay c = λ q was. c.in_err-open_pane-in-None.ensures.err q ∙ c.loop-row.invariant.open_stay q was

pub push_first-requires-clause-start : goal.push_first-requires-clause-start
push_first-requires-clause-start c =
    let w = c.args.places.now.window in
    let rows = c.args.batch.now.rows in
    let r : Record = get_or rows c.loop-row.row [] in
    let inside : c.loop-row.row < length rows = omega arith in
    let time_fits : FitsSigned w64 c.value-time.result = search rules in
    let key_fits : FitsSigned w64 c.value.result = search rules in
    let l = lands w c.window-in-loop-row.result.now r c.value-time.result c.value.result c.back_to_start-first.result c.requires.window.operator.range
    (All-get_or (λ (x : Record). IsTime (at w.time x)) rows c.loop-row.row [] inside c.requires.times) time_fits key_fits
    (c.value-time.ensures ∙ ap (λ (x : WindowSpec). at x.time r) c.window.ensures) (c.value.ensures ∙ ap (λ (x : WindowSpec). at x.key r) c.window-2.ensures)
    (c.window-in-loop-row.ensures ∙ c.loop-row.invariant.window) c.back_to_start-first.ensures.back in
    l.start

pub push_first-requires-clause-absent : goal.push_first-requires-clause-absent
push_first-requires-clause-absent c = none_there _ (sym c.in-None.ensures.there)

pub returns-in_err-push_first-in-None-clause-opened : goal.returns-in_err-push_first-in-None-clause-opened
returns-in_err-push_first-in-None-clause-opened c = λ q some.
    c.in_ok-open_pane-in-None.ensures.opened q
    ∙ opens _ (has_open c.loop-row.opened.entries q) (c.loop-row.invariant.opened q (ap (λ (x : PlacesData). is_some (total_at x.entries q)) (sym c.in_err-push_first-in-None.ensures.err) ∙ some))

pub returns-in_err-push_first-in-None-clause-open_stay : goal.returns-in_err-push_first-in-None-clause-open_stay
returns-in_err-push_first-in-None-clause-open_stay c = λ q was.
    c.in_ok-open_pane-in-None.ensures.opened q ∙ opens _ (has_open c.loop-row.opened.entries q) (c.loop-row.invariant.open_stay q was)

pub loop-row-preserved : goal.loop-row-preserved
loop-row-preserved c =
    let old = c.args.places.now in
    let w = old.window in
    let rows = c.args.batch.now.rows in
    let i = c.loop-row.row in
    let r : Record = get_or rows i [] in
    let now = c.loop-row.places in
    let inv = c.loop-row.invariant in
    let listed = c.loop-row.rows.items in
    let inside : i < length rows = omega arith in
    let range = c.requires.window.operator.range in
    let time_fits : FitsSigned w64 c.value-time.result = search rules in
    let key_fits : FitsSigned w64 c.value.result = search rules in
    let first = c.back_to_start-first.result in
    let p : Pane = pane_held c.value-time.result c.value.result first in
    let same = c.window-in-loop-row.ensures ∙ inv.window in
    let l : Lands w r p = lands w c.window-in-loop-row.result.now r c.value-time.result c.value.result first range
    (All-get_or (λ (x : Record). IsTime (at w.time x)) rows i [] inside c.requires.times) time_fits key_fits
    (c.value-time.ensures ∙ ap (λ (x : WindowSpec). at x.time r) c.window.ensures) (c.value.ensures ∙ ap (λ (x : WindowSpec). at x.key r) c.window-2.ensures)
    same c.back_to_start-first.ensures.back in
    let start = subst (λ (x : WindowSpec). IfSome c.back_to_start-first.new.start (λ s. is_start x s ≡ true)) same c.back_to_start-first.ensures.start in
    let after = c.match-words_at.places in
    elim c.match-words_at.branch [
      | in-Some b ↦
          let ps = b.places-is in
          let os = b.opened-is in
          let new : PlacedRow = record { row = i; at = b.in-Some.at } in
          let items : c.match-words_at.rows.items ≡ listed ++ new ∷ [] = (λ j. (b.rows-is j).items) ∙ b.push_reserved.ensures.items in
          let more : records_placed rows c.match-words_at.rows.items ≡ records_placed rows listed ++ r ∷ [] = ap (records_placed rows) items ∙ listed_more rows listed new in
          record {
            window = (λ j. (ps j).window) ∙ inv.window;
            added = λ q. (λ j. merge w.aggregates (total_at (ps j).entries q) (aggregate_at w (more j) q))
                ∙ step_listed w rows (records_placed rows listed) i (total_at old.entries q) (total_at now.entries q) q inside (inv.added q);
            has = λ q. subst (λ rs. Has (aggregate_at w rs q) (aggregate_at w (take (i + 1) rows) q)) (sym more) (has_listed w rows (records_placed rows listed) i q inside (inv.has q));
            placed = subst (λ (x : PlacesData). All (λ (y : PlacedRow). HasWordsAt x (last_pane w (get_or rows y.row [])) y.at) c.match-words_at.rows.items) (sym ps)
                (All-same (λ (y : PlacedRow). HasWordsAt now (last_pane w (get_or rows y.row [])) y.at) _ _ items
                (All-push (λ (y : PlacedRow). HasWordsAt now (last_pane w (get_or rows y.row [])) y.at) listed new inv.placed
                (subst (λ x. HasWordsAt now x b.in-Some.at) l.pane b.in-Some.ensures.at)));
            rows_in = All-same (λ (y : PlacedRow). y.row < length rows) _ _ items (All-push (λ (y : PlacedRow). y.row < length rows) listed new inv.rows_in inside);
            few = omega (arith, (λ j. vec_len (b.rows-is j)) ∙ b.push_reserved.ensures.len, inv.few);
            capacity = omega (arith, (λ j. vec_capacity (b.rows-is j)) ∙ b.push_reserved.ensures.capacity, inv.capacity);
            opened = λ q some. (λ j. has_open (os j).entries q) ∙ inv.opened q (sym (λ j. is_some (total_at (ps j).entries q)) ∙ some);
            open_stay = λ q was. (λ j. has_open (os j).entries q) ∙ inv.open_stay q was;
            starts = λ q some none. inv.starts q (sym (λ j. is_some (acc_at (ps j).entries q)) ∙ some) none;
            start = start;
          }
      | in-None+in_ok-open_pane-in-None+in_ok-push_first-in-None b ↦
          let ps = b.places-is in
          let pushed = b.in_ok-push_first-in-None.ensures in
          let items : c.match-words_at.rows.items ≡ listed = λ j. (b.rows-is j).items in
          let len : vec_len c.match-words_at.rows ≡ vec_len c.loop-row.rows = λ j. vec_len (b.rows-is j) in
          let capacity : vec_capacity c.match-words_at.rows ≡ vec_capacity c.loop-row.rows = λ j. vec_capacity (b.rows-is j) in
          let same_rows : records_placed rows c.match-words_at.rows.items ≡ records_placed rows listed = ap (records_placed rows) items in
          let none : total_at now.entries p ≡ None = ap (option_map (λ (a : AccData). a.total)) (none_there (acc_at now.entries p) (sym b.in-None.ensures.there)) in
          let put : (q : Pane) → is_some (acc_at after.entries q) ≡ cond (is_pane p q) true (is_some (acc_at now.entries q)) = λ q. (λ j. is_some (acc_at (ps j).entries q)) ∙ pushed.panes q in
          let opening : (q : Pane) → has_open c.match-words_at.opened.entries q ≡ cond (is_pane p q) true (has_open c.loop-row.opened.entries q) =
          λ q. (λ j. has_open (b.opened-is j).entries q) ∙ b.in_ok-open_pane-in-None.ensures.opened q in
          record {
            window = (λ j. (ps j).window) ∙ b.push_first.ensures.window_stays ∙ inv.window;
            added = λ q. (λ j. merge w.aggregates (total_at after.entries q) (aggregate_at w (same_rows j) q))
                ∙ step_first w rows (records_placed rows listed) i (total_at old.entries q) (total_at now.entries q) (total_at after.entries q) q inside (inv.added q)
                (put_first w r p q (total_at now.entries) (total_at after.entries q) range c.requires.one l.pane none
                ((λ j. total_at (ps j).entries q) ∙ pushed.added q
                ∙ ap (λ (x : WindowSpec). cond (is_pane p q) (aggregate_of x.aggregates (r ∷ [])) (total_at now.entries q)) inv.window));
            has = λ q. subst (λ rs. Has (aggregate_at w rs q) (aggregate_at w (take (i + 1) rows) q)) (sym same_rows) (has_first w rows (records_placed rows listed) i q inside (inv.has q));
            placed = All-same (λ (y : PlacedRow). HasWordsAt after (last_pane w (get_or rows y.row [])) y.at) _ _ items
                (All-weaker (λ (y : PlacedRow). HasWordsAt now (last_pane w (get_or rows y.row [])) y.at) (λ (y : PlacedRow). HasWordsAt after (last_pane w (get_or rows y.row [])) y.at)
                (λ y there. subst (λ (x : PlacesData). HasWordsAt x (last_pane w (get_or rows y.row [])) y.at) (sym ps) (pushed.words (last_pane w (get_or rows y.row [])) y.at there))
                listed inv.placed);
            rows_in = All-same (λ (y : PlacedRow). y.row < length rows) _ _ items inv.rows_in;
            few = omega (arith, len, inv.few);
            capacity = omega (arith, capacity, inv.capacity);
            opened = open_more c.loop-row.opened.entries c.match-words_at.opened.entries now.entries after.entries p inv.opened opening put;
            open_stay = λ q was. opening q ∙ opens (is_pane p q) (has_open c.loop-row.opened.entries q) (inv.open_stay q was);
            starts = starts_more old.entries now.entries after.entries p l.start inv.starts put;
            start = start;
          }
    ]

pub add_rows-requires-clause-room : goal.add_rows-requires-clause-room
add_rows-requires-clause-room c =
    let old = c.args.places.now in
    let w = old.window in
    let rows = c.args.batch.now.rows in
    let now = c.loop-row.places in
    let inv = c.loop-row.invariant in
    let listed = c.loop-row.rows.items in
    let all : take c.loop-row.row rows ≡ rows = take_all c.loop-row.row rows (omega arith) in
    let added : (q : Pane) → merge w.aggregates (total_at now.entries q) (aggregate_at w (records_placed rows listed) q) ≡ merge w.aggregates (total_at old.entries q) (aggregate_at w rows q) =
    λ q. inv.added q ∙ (λ j. merge w.aggregates (total_at old.entries q) (aggregate_at w (all j) q)) in
    let has : (q : Pane) → Has (aggregate_at w (records_placed rows listed) q) (aggregate_at w rows q) = λ q some. (λ j. is_some (aggregate_at w (sym all j) q)) ∙ inv.has q some in
    let room = room_listed w rows (records_placed rows listed) (total_at old.entries) (total_at now.entries) (omega (arith, c.len-row-end.ensures.small)) c.requires.room added has in
    subst (λ (x : WindowSpec). HasRoom x (records_placed rows c.as_slice.result.now) (total_at now.entries)) (sym inv.window)
    (subst (λ items. HasRoom w (records_placed rows items) (total_at now.entries)) (sym c.as_slice.ensures.value) room)
