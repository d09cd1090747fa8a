use Rattle.std.proofs.Common.{◌≡◌, ◌<◌, ◌≤◌, ◌==◌, ℕ, [], ◌∷◌, ◌++◌, List, Vec, Global, length, map, get_or, ap, subst, sym, ◌∙◌, arith}
use Rattle.std.specs.List.{All, range_with_len}
use Rattle.std.proofs.lemmas.List.{length-map}
use Rattle.std.proofs.lemmas.List.FromFn.{length-map-range_with_len, map-range_with_len_more}
use Rattle.columns.specs.Parts.{kept, with_rows, piece}
use Rattle.columns.proofs.Kept.{places_below, places_few, kept_at_places}
use Rattle.columns.proofs.Picked.{items_at}
use Rattle.columns.proofs.Batch.split.Goals as goal

-- the places of target t, one of `rows` targets
abbrev places_of : List ℕ → ℕ → ℕ → List ℕ
places_of targets rows t = kept (map (λ target. target == t) targets) (range_with_len 0 rows)

-- the item at place k of the lists of places
item_is : (vectors lists : List (Vec ℕ Global)) (targets : List ℕ) (n rows k : ℕ) (item : Vec ℕ Global) → vectors ≡ lists
    → map (λ places. places.items) lists ≡ map (places_of targets (length targets)) (range_with_len 0 n) → length targets ≡ rows
    → k < length vectors → item ≡ get_or vectors k item → item.items ≡ places_of targets rows k
item_is vectors lists targets n rows k item same are alike there is =
    items_at lists (places_of targets (length targets)) n k item are (omega (arith, ap length same)) (is ∙ ap (λ (vs : List (Vec ℕ Global)). get_or vs k item) same)
    ∙ ap (λ m. places_of targets m k) alike

pub rows_at-requires-clause-inside : goal.rows_at-requires-clause-inside
rows_at-requires-clause-inside c =
    let targets = c.args.targets.now in
    let rows = length c.args.self.now.rows in
    let t = c.loop-places.places-index in
    let is : c.deref.result.now ≡ places_of targets rows t =
    c.deref.ensures.value ∙ item_is _ _ targets c.args.n rows t c.places-item.result c.deref-places-items.ensures.value c.in_ok-places_by_target.ensures c.requires.alike c.loop-places-test.true c.places-item.is in
    subst (All (λ place. place < rows)) (sym is) (places_below (map (λ target. target == t) targets) rows)

pub rows_at-requires-clause-few : goal.rows_at-requires-clause-few
rows_at-requires-clause-few c =
    let targets = c.args.targets.now in
    let rows = length c.args.self.now.rows in
    let t = c.loop-places.places-index in
    let is : c.deref.result.now ≡ places_of targets rows t =
    c.deref.ensures.value ∙ item_is _ _ targets c.args.n rows t c.places-item.result c.deref-places-items.ensures.value c.in_ok-places_by_target.ensures c.requires.alike c.loop-places-test.true c.places-item.is in
    subst (λ places. length places ≤ rows) (sym is) (places_few (map (λ target. target == t) targets) rows)

pub loop-places-preserved : goal.loop-places-preserved
loop-places-preserved c =
    let targets = c.args.targets.now in
    let table = c.args.self.now in
    let rows = table.rows in
    let t = c.loop-places.places-index in
    let is : c.deref.result.now ≡ places_of targets (length rows) t =
    c.deref.ensures.value ∙ item_is _ _ targets c.args.n (length rows) t c.places-item.result c.deref-places-items.ensures.value c.in_ok-places_by_target.ensures c.requires.alike c.loop-places-test.true c.places-item.is in
    let made : c.in_ok-rows_at.field-0 ≡ piece targets table t =
    c.in_ok-rows_at.ensures ∙ ap (with_rows table) (ap (map (λ place. get_or rows place [])) is ∙ kept_at_places (map (λ target. target == t) targets) rows []) in
    c.in_ok-push.ensures.items ∙ (λ o. c.loop-places.invariant o ++ (made o ∷ [])) ∙ sym (map-range_with_len_more (piece targets table) 0 t t (omega arith))

pub returns-clause-pieces : goal.returns-clause-pieces
returns-clause-pieces c =
    let targets = c.args.targets.now in
    let held = λ (places : Vec ℕ Global). places.items in
    let lists = c.in_ok-places_by_target.field-0.items in
    let n = c.args.n in
    let long : length lists ≡ n = sym (length-map lists held) ∙ ap length c.in_ok-places_by_target.ensures ∙ length-map-range_with_len (places_of targets (length targets)) 0 n in
    let same : c.deref-places-items.result.now ≡ lists = c.deref-places-items.ensures.value in
    let all : c.loop-places.places-index ≡ n = omega (arith, ap length same) in
    c.loop-places.invariant ∙ ap (λ m. map (piece targets c.args.self.now) (range_with_len 0 m)) all
