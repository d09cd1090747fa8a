-- A text of lines, line by line.
use Rattle.std.proofs.Common.{◌≡◌, ℕ, ◌+◌, ◌<◌, List, [], ◌∷◌, ◌++◌, length, get_or, take, slice_get, Some, sym, ap, ◌∙◌, append_assoc, append-nil, arith}
use Rattle.std.specs.List.{flat_map, enumerate_from, range_with_len}
use Rattle.std.proofs.lemmas.List.{map-id, flat_map_more, take_more}
use Rattle.std.proofs.lemmas.Grind.{flat_map-append}
use Rattle.std.proofs.lemmas.List.FromFn.{map-range_with_len_more, length-enumerate_from, get_or-enumerate_from}
use Rattle.std.proofs.lemmas.Option.{slice_get-get_or, get_or_from_slice_get, slice_get_within}
use Rattle.job_texts.specs.LayoutText.{of_each}

of_each_more : (f : ℕ → List ℕ) (n : ℕ) → of_each (n + 1) f ≡ of_each n f ++ f n
of_each_more f n =
    let more : range_with_len 0 (n + 1) ≡ range_with_len 0 n ++ n ∷ [] = sym (map-id (range_with_len 0 (n + 1))) ∙ map-range_with_len_more (λ (k : ℕ). k) 0 n n (omega arith) ∙ ap (λ xs. xs ++ n ∷ []) (map-id (range_with_len 0 n)) in
    ap (flat_map f) more ∙ flat_map-append f (range_with_len 0 n) (n ∷ []) ∙ ap (λ xs. flat_map f (range_with_len 0 n) ++ xs) (append-nil (f n))

-- one more line
pub one_more : (f : ℕ → List ℕ) (n : ℕ) (old now next : List ℕ) → next ≡ now ++ f n → now ≡ old ++ of_each n f → next ≡ old ++ of_each (n + 1) f
one_more f n old now next step so_far = step ∙ ap (λ xs. xs ++ f n) so_far ∙ append_assoc old (of_each n f) (f n) ∙ ap (λ xs. old ++ xs) (sym (of_each_more f n))

-- one more item, which stands at i
pub item_more : {X : Type 0} (f : X → List ℕ) (xs : List X) (i : ℕ) (x : X) (old now next : List ℕ) → slice_get xs i ≡ Some x → next ≡ now ++ f x → now ≡ old ++ flat_map f (take i xs) → next ≡ old ++ flat_map f (take (i + 1) xs)
item_more f xs i x old now next at step so_far =
    step ∙ ap (λ bytes. bytes ++ f x) so_far ∙ flat_map_more f old (take i xs) x
    ∙ ap (λ items. old ++ flat_map f items) (ap (λ y. take i xs ++ y ∷ []) (sym (get_or_from_slice_get xs i x x at)) ∙ sym (take_more xs i x (slice_get_within xs i x at)))

-- an item and its number
pub numbered_at : {X : Type 0} (xs : List X) (i : ℕ) (d : X) → i < length xs → slice_get (enumerate_from 0 xs) i ≡ Some (i, get_or xs i d)
numbered_at xs i d lt =
    let below : i < length (enumerate_from 0 xs) = omega (arith, length-enumerate_from 0 xs) in
    let first : 0 + i ≡ i = omega arith in
    slice_get-get_or (enumerate_from 0 xs) i (0, d) below ∙ ap (λ x. Some x) (get_or-enumerate_from 0 xs i (0, d) lt) ∙ ap (λ n. Some (n, get_or xs i d)) first
