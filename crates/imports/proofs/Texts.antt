-- The texts of columns, where they stand in a row.
use Rattle.std.proofs.Common.{◌≡◌, ◌+◌, ◌<◌, ◌∷◌, [], ◌∙◌, ℕ, zero, suc, List, Some, arith, ap, length, map, refl, slice_get, sym, unwrap_or}
use Rattle.std.specs.List.{range_with_len}
use Rattle.std.proofs.lemmas.List.{length-map}
use Rattle.std.proofs.lemmas.List.FromFn.{length-range_with_len}
use Rattle.std.proofs.lemmas.Option.{slice_get_within}
use Rattle.csv.specs.Records.{field_at}
use Rattle.imports.specs.Picks.{pick_text, picked, text_at}
use Rattle.imports.specs.Rows.{column_text}
use Rattle.imports.specs.declared.picking.Pick.{Pick}
use Rattle.imports.specs.declared.picking.Pick.TheVariants.{One, Joined}
use Rattle.imports.specs.Placing.{Alone, Stand, stand_in, stand_text}

-- what is made of numbers, and of the elements at their places
made_from : {X Y : Type 0} (f : ℕ → Y) (g : X → Y) (from : ℕ) (xs : List X) → ((i : ℕ) (x : X) → slice_get xs i ≡ Some x → f (from + i) ≡ g x) → map f (range_with_len from (length xs)) ≡ map g xs
made_from f g from [] same = refl
made_from {X} {Y} f g from (x ∷ xs) same =
    let zeroth : from ≡ from + 0 = omega arith in
    let first : f from ≡ g x = ap f zeroth ∙ same 0 x refl in
    let rest = made_from f g (from + 1) xs (λ i y at. let next : from + 1 + i ≡ from + suc i = omega arith in ap f next ∙ same (suc i) y at) in
    ap (λ (y : Y). y ∷ map f (range_with_len (from + 1) (length xs))) first ∙ ap (λ (ys : List Y). g x ∷ ys) rest

made : {X Y : Type 0} (f : ℕ → Y) (g : X → Y) (xs : List X) → ((i : ℕ) (x : X) → slice_get xs i ≡ Some x → f i ≡ g x) → map f (range_with_len 0 (length xs)) ≡ map g xs
made f g xs same = made_from f g 0 xs (λ i x at. let number : 0 + i ≡ i = omega arith in ap f number ∙ same i x at)

alone_text : (row : List (List ℕ)) (places : List ℕ) → map (text_at row) places ≡ map (stand_text row) (map Alone places)
alone_text row [] = refl
alone_text row (place ∷ places) = ap (λ texts. text_at row place ∷ texts) (alone_text row places)

-- fields that stand in the row itself
pub alone : (row : List (List ℕ)) (places : List ℕ) (stands : List Stand) → stands ≡ map Alone places → map (column_text places row) (range_with_len 0 (length stands)) ≡ map (stand_text row) stands
alone row places stands are =
    ap (λ (ss : List Stand). map (column_text places row) (range_with_len 0 (length ss))) are
    ∙ ap (λ count. map (column_text places row) (range_with_len 0 count)) (length-map places Alone)
    ∙ made (column_text places row) (text_at row) places (λ i place at. ap (λ found. text_at row (unwrap_or found i)) at)
    ∙ alone_text row places
    ∙ ap (map (stand_text row)) (sym are)

field_there : (texts : List (List ℕ)) (i : ℕ) (text : List ℕ) → slice_get texts i ≡ Some text → field_at texts i ≡ Some text
unfolding field_at
field_there [] i text at = cc at
field_there (first ∷ texts) zero text at = at
field_there (first ∷ texts) (suc i) text at = field_there texts i text at

number_there : (from count i : ℕ) → i < count → slice_get (range_with_len from count) i ≡ Some (from + i)
number_there from zero i within = absurd (omega arith)
number_there from (suc count) zero within = let same : from ≡ from + 0 = omega arith in ap (λ (k : ℕ). Some k) same
number_there from (suc count) (suc i) within =
    let next : from + 1 + i ≡ from + suc i = omega arith in
    number_there (from + 1) count i (omega arith) ∙ ap (λ (k : ℕ). Some k) next

unchanged : (texts : List (List ℕ)) → map (λ (text : List ℕ). text) texts ≡ texts
unchanged [] = refl
unchanged (text ∷ texts) = ap (λ (more : List (List ℕ)). text ∷ more) (unchanged texts)

-- each text of a record stands at its own place
in_turn : (texts : List (List ℕ)) → map (column_text (range_with_len 0 (length texts)) texts) (range_with_len 0 (length texts)) ≡ texts
in_turn texts =
    made (column_text (range_with_len 0 (length texts)) texts) (λ (text : List ℕ). text) texts (λ i text at.
    let within = slice_get_within texts i text at in
    let number : 0 + i ≡ i = omega arith in
    ap (λ found. text_at texts (unwrap_or found i)) (number_there 0 (length texts) i within ∙ ap (λ (k : ℕ). Some k) number) ∙ ap (λ found. unwrap_or found []) (field_there texts i text at))
    ∙ unchanged texts

pick_told : (row : List (List ℕ)) (pick : Pick) → pick_text row pick ≡ stand_text row (stand_in pick)
pick_told row (One place) = refl
pick_told row (Joined joint places) = refl

picks_told : (row : List (List ℕ)) (picks : List Pick) → map (pick_text row) picks ≡ map (stand_text row) (map stand_in picks)
picks_told row [] = refl
picks_told row (pick ∷ picks) = ap (λ text. text ∷ map (pick_text row) picks) (pick_told row pick) ∙ ap (λ texts. stand_text row (stand_in pick) ∷ texts) (picks_told row picks)

-- texts that are picked out of a row, in turn
pub in_order : (row : List (List ℕ)) (picks : List Pick) (count : ℕ) → count ≡ length picks → map (column_text (range_with_len 0 count) (picked picks row)) (range_with_len 0 count) ≡ map (stand_text row) (map stand_in picks)
in_order row [] count is = ap (λ size. map (column_text (range_with_len 0 size) row) (range_with_len 0 size)) is
in_order row (pick ∷ picks) count is =
    let texts = map (pick_text row) (pick ∷ picks) in
    let size : count ≡ length texts = is ∙ sym (length-map (pick ∷ picks) (pick_text row)) in
    ap (λ size. map (column_text (range_with_len 0 size) texts) (range_with_len 0 size)) size ∙ in_turn texts ∙ picks_told row (pick ∷ picks)

-- the first fields of a row, in turn
pub own_places : (row : List (List ℕ)) (count : ℕ) → map (column_text (range_with_len 0 count) row) (range_with_len 0 count) ≡ map (text_at row) (range_with_len 0 count)
own_places row count =
    let places = range_with_len 0 count in
    ap (λ size. map (column_text places row) (range_with_len 0 size)) (sym (length-range_with_len 0 count)) ∙ made (column_text places row) (text_at row) places (λ i place at. ap (λ found. text_at row (unwrap_or found i)) at)
