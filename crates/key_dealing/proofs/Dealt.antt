-- What a batch's pieces are, and the places of their rows.
use Rattle.std.proofs.Common.{◌≡◌, ℕ, ◌<◌, ◌≤◌, ◌==◌, Vec, Global, List, [], ◌∷◌, map, length, get_or, refl, sym, ap, subst, ◌∙◌, arith}
use Rattle.std.specs.Prelude.{ℤ}
use Rattle.std.specs.List.{All, range_with_len}
use Rattle.std.proofs.lemmas.List.{length-map, get_or-map}
use Rattle.std.proofs.lemmas.List.FromFn.{get_or-map-range_with_len, length-map-range_with_len}
use Rattle.std.proofs.lemmas.Simd.{map-map}
use Rattle.plain_data.specs.Record.{Record, at, column_of}
use Rattle.columns.specs.Table.{Table}
use Rattle.columns.specs.Parts.{kept, with_rows, piece}
use Rattle.columns.proofs.Facts.{kept-map_test, places_below, places_few, kept_at_places}
use Rattle.key_dealing.specs.Dealing.{owner, dealt, rows_at, ArePlaces}

pub map_alike : {X Y : Type 0} (f g : X → Y) (xs : List X) → ((x : X) → f x ≡ g x) → map f xs ≡ map g xs
map_alike f g [] h = refl
map_alike f g (x ∷ xs) h = λ i. h x i ∷ map_alike f g xs h i

tests : (f : ℤ → ℕ) (key j : ℕ) (rows : List Record) → map (λ target. target == j) (map f (column_of key rows)) ≡ map (λ r. f (at key r) == j) rows
tests f key j [] = refl
tests f key j (r ∷ rows) = ap (λ l. (f (at key r) == j) ∷ l) (tests f key j rows)

pub piece_dealt : (max par key : ℕ) (t : Table) (targets : List ℕ) → targets ≡ map (owner max par) (column_of key t.rows) → (j : ℕ) → piece targets t j ≡ dealt max par key t j
piece_dealt max par key t targets e j =
    ap (λ l. with_rows t (kept (map (λ target. target == j) l) t.rows)) e
    ∙ ap (λ mask. with_rows t (kept mask t.rows)) (tests (owner max par) key j t.rows)
    ∙ ap (with_rows t) (kept-map_test (λ r. owner max par (at key r) == j) t.rows)

-- the places that have a target
abbrev places_to : List ℕ → ℕ → List ℕ
places_to targets j = kept (map (λ target. target == j) targets) (range_with_len 0 (length targets))

long_targets : (max par key : ℕ) (rows : List Record) (targets : List ℕ) → targets ≡ map (owner max par) (column_of key rows) → length targets ≡ length rows
long_targets max par key rows targets e = ap length e ∙ length-map (column_of key rows) (owner max par) ∙ length-map rows (at key)

-- the rows at the places of a target are those that it is dealt
pub places_dealt : (max par key n : ℕ) (t : Table) (targets : List ℕ) (lists : List (Vec ℕ Global)) → targets ≡ map (owner max par) (column_of key t.rows)
    → map (λ places. places.items) lists ≡ map (places_to targets) (range_with_len 0 n) → map (λ places. rows_at t.rows places.items) lists ≡ map (λ j. (dealt max par key t j).rows) (range_with_len 0 n)
places_dealt max par key n t targets lists e are =
    sym (map-map (rows_at t.rows) (λ (places : Vec ℕ Global). places.items) lists)
    ∙ ap (map (rows_at t.rows)) are
    ∙ map-map (rows_at t.rows) (places_to targets) (range_with_len 0 n)
    ∙ map_alike (λ j. rows_at t.rows (places_to targets j)) (λ j. (dealt max par key t j).rows) (range_with_len 0 n)
    (λ j. ap (λ m. rows_at t.rows (kept (map (λ target. target == j) targets) (range_with_len 0 m))) (long_targets max par key t.rows targets e)
    ∙ kept_at_places (map (λ target. target == j) targets) t.rows []
    ∙ ap (λ (b : Table). b.rows) (piece_dealt max par key t targets e j))

pub places_inside : (max par key n : ℕ) (t : Table) (targets : List ℕ) (lists : List (Vec ℕ Global)) → targets ≡ map (owner max par) (column_of key t.rows)
    → map (λ places. places.items) lists ≡ map (places_to targets) (range_with_len 0 n) → All (λ (places : Vec ℕ Global). ArePlaces t.rows places.items) lists
places_inside max par key n t targets lists e are k d h =
    let held = λ (places : Vec ℕ Global). places.items in
    let below : k < n = omega (arith, h, ap length are, length-map lists held, length-map-range_with_len (places_to targets) 0 n) in
    let is : (get_or lists k d).items ≡ places_to targets k =
    sym (get_or-map held lists k d [] h) ∙ ap (λ (ls : List (List ℕ)). get_or ls k []) are ∙ get_or-map-range_with_len (places_to targets) 0 n k k [] below (omega arith) in
    let long : length targets ≡ length t.rows = long_targets max par key t.rows targets e in
    let mask = map (λ target. target == k) targets in
    subst (ArePlaces t.rows) (sym is)
    (record {
      inside = subst (λ m. All (λ place. place < m) (places_to targets k)) long (places_below mask (length targets));
      few = subst (λ m. length (places_to targets k) ≤ m) long (places_few mask (length targets));
    })
