use Rattle.std.proofs.Common.{◌≡◌, ◌<◌, ◌∙◌, ℕ, Vec, Global, List, [], map, length, ap, sym, subst, get_or, arith}
use Rattle.std.specs.List.{All, filter, range_with_len}
use Rattle.std.proofs.lemmas.List.{length-map, get_or-map}
use Rattle.std.proofs.lemmas.List.FromFn.{length-map-range_with_len, get_or-map-range_with_len}
use Rattle.std.proofs.lemmas.Result.{on_ok_weaker}
use Rattle.std.proofs.lemmas.Simd.{map-map}
use Rattle.plain_data.specs.Record.{Record}
use Rattle.key_dealing.specs.Dealing.{dealt, rows_at, ArePlaces}
use Rattle.plan_model.specs.declared.spec.WindowSpec.{WindowSpec}
use Rattle.input_parts.specs.Parts.{is_in_part, entry_of_rows}
use Rattle.part_texts.specs.PartTexts.{with_entries}
use Rattle.part_texts.specs.Streams.{state_of, states_of, places_at}
use Rattle.part_texts.proofs.Steps.{each_is}
use Rattle.part_texts.proofs.parts.push_batch.Goals as goal

pub push_rows-requires-clause-all : goal.push_rows-requires-clause-all
push_rows-requires-clause-all g c =
    let rows = c.args.batch.now.rows in
    let lists = c.in_ok-lists.lists.items in
    let deal : ℕ → List Record = λ j. (dealt c.groups_of.result c.args.parts c.window.result.now.key c.args.batch.now j).rows in
    ap length c.deref.ensures.value ∙ sym (length-map lists (λ (places : Vec ℕ Global). rows_at rows places.items)) ∙ ap length c.in_ok-lists.ensures.rows ∙ length-map-range_with_len deal 0 c.args.parts ∙ sym c.requires.all

pub push_rows-requires-clause-inside : goal.push_rows-requires-clause-inside
push_rows-requires-clause-inside g c =
    subst (All (λ (places : Vec ℕ Global). ArePlaces c.args.batch.now.rows places.items)) (sym c.deref.ensures.value) c.in_ok-lists.ensures.inside

pub returns : goal.returns
returns g c =
    let plan = c.args.plan.now in
    let parts = c.args.parts in
    let t = c.args.batch.now in
    let lists = c.deref.result.now in
    let held = λ (places : Vec ℕ Global). places.items in
    let deal : ℕ → List Record = λ j. (dealt plan.max parts plan.window.key t j).rows in
    let were : map (λ (places : Vec ℕ Global). rows_at t.rows places.items) lists ≡ map deal (range_with_len 0 parts) =
    ap (map (λ (places : Vec ℕ Global). rows_at t.rows places.items)) c.deref.ensures.value ∙ c.in_ok-lists.ensures.rows
    ∙ (λ i. map (λ (j : ℕ). (dealt (c.groups_of.ensures i) parts (ap (λ (w : WindowSpec). w.key) c.window.ensures.says i) t j).rows) (range_with_len 0 parts)) in
    let are : map (rows_at t.rows) (map held lists) ≡ map deal (range_with_len 0 parts) = map-map (rows_at t.rows) held lists ∙ were in
    let long : length (map held lists) ≡ parts = sym (length-map (map held lists) (rows_at t.rows)) ∙ ap length are ∙ length-map-range_with_len deal 0 parts in
    let rows : (i : ℕ) → i < parts → rows_at t.rows (places_at lists i) ≡ filter (is_in_part plan parts i) t.rows =
    λ i h. sym (get_or-map (rows_at t.rows) (map held lists) i [] [] (omega (arith, long, h))) ∙ ap (λ (ls : List (List Record)). get_or ls i []) are ∙ get_or-map-range_with_len deal 0 parts i i [] h (omega arith) in
    let states = states_of g.W.Write.contents c.args.texts.now in
    on_ok_weaker c.push_rows.result
    (each_is (λ i p. with_entries p (entry_of_rows t.width (rows_at t.rows (places_at lists i)))) (λ i p. with_entries p (entry_of_rows t.width (filter (is_in_part plan parts i) t.rows))) states (states_of g.W.Write.contents c.push_rows.new.texts)
    (λ i l p. ap (λ (rs : List Record). with_entries p (entry_of_rows t.width rs)) (rows i (omega (arith, l, length-map c.args.texts.now (state_of g.W.Write.contents), c.requires.all)))))
    c.push_rows.ensures
