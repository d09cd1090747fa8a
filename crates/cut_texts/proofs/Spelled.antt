-- What is spelled is said.
use Rattle.std.proofs.Common.{◌≡◌, ℕ, ◌<◌, ◌≤◌, ◌^◌, ◌-◌, ◌+◌, ◌==◌, true, false, List, [], ◌∷◌, ◌++◌, map, take, length, get_or, slice_get, Some, refl, sym, ap, ◌∙◌, append_assoc, arith}
use Rattle.std.proofs.lemmas.Fmt.{digits_decimal, digits_value-decimal, decimal_nonempty, length-decimal-le}
use Rattle.std.proofs.lemmas.List.Splits.{slice_split_at, slice_split_none}
use Rattle.std.proofs.lemmas.Bool.{ne_eqb, and_parts}
use Rattle.std.proofs.lemmas.List.{map-append, take_more, length-map, length-take}
use Rattle.std.proofs.lemmas.List.Elements.{All-cons, All-append}
use Rattle.std.proofs.lemmas.Option.{get_or_from_slice_get, slice_get_within}
use Rattle.std.specs.Char.{is_ascii_digit}
use Rattle.std.specs.Fmt.{decimal}
use Rattle.std.specs.List.{All, AllByRecursion, join_with_byte, list_all, slice_split}
use Rattle.std.specs.Str.Parse.{digits_value}
use Rattle.job_texts.specs.Cut.{each_said, word_count, source_said, cut_said}
use Rattle.job_texts.specs.Group.{are_digits}
use Rattle.field_values.proofs.Numbers.{own}
use Rattle.job_texts.proofs.Facts.{said_within}
use Rattle.cut_texts.specs.Words.{before_part, source_text, cut_text}
use Rattle.cut_texts.specs.Laws.{AreCounts, SpelledIsSaid}

-- no part has the byte
abbrev pub AreFree : ℕ → List (List ℕ) → Type 0
AreFree c parts = AllByRecursion (λ part. All (λ b. (b == c) ≡ false) part) parts

-- parts that are free of the byte between them come back
pub split_joined : (c : ℕ) (part : List ℕ) (parts : List (List ℕ)) → (c == c) ≡ true → AreFree c (part ∷ parts) → slice_split (λ b. b == c) (join_with_byte c (part ∷ parts)) ≡ part ∷ parts
split_joined c part [] same free = slice_split_none (λ b. b == c) part free.0
split_joined c part (next ∷ more) same free =
    slice_split_at (λ b. b == c) part c (join_with_byte c (next ∷ more)) free.0 same ∙ ap (λ xs. part ∷ xs) (split_joined c next more same free.1)

-- one more part
join_more : (c : ℕ) (xs : List (List ℕ)) (y : List ℕ) → 0 < length xs → join_with_byte c (xs ++ y ∷ []) ≡ join_with_byte c xs ++ (c ∷ [] ++ y)
join_more c [] y some = absurd (omega arith)
join_more c (x ∷ []) y some = refl
join_more c (x ∷ z ∷ zs) y some = ap (λ t. x ++ (c ∷ t)) (join_more c (z ∷ zs) y (omega arith)) ∙ sym (append_assoc x (c ∷ join_with_byte c (z ∷ zs)) (c ∷ [] ++ y))

joined : (c i : ℕ) (xs : List (List ℕ)) (y : List ℕ) → length xs ≡ i → join_with_byte c (xs ++ y ∷ []) ≡ join_with_byte c xs ++ (before_part (c ∷ []) i ++ y)
joined c i [] y long = rw (← long) refl
joined c i (x ∷ xs) y long =
    let later : (i == 0) ≡ false = ne_eqb i 0 (λ e. omega (arith, long, e)) in
    rw later (join_more c (x ∷ xs) y (omega arith))

-- a text with one more part, which stands at a place
pub part_more : {X : Type 0} (c : ℕ) (f : X → List ℕ) (xs : List X) (i : ℕ) (x : X) (old now mid next : List ℕ) → slice_get xs i ≡ Some x
    → next ≡ mid ++ f x → mid ≡ now ++ before_part (c ∷ []) i → now ≡ old ++ join_with_byte c (map f (take i xs)) → next ≡ old ++ join_with_byte c (map f (take (i + 1) xs))
part_more c f xs i x old now mid next at step before so_far =
    let within = slice_get_within xs i x at in
    let same : get_or xs i x ≡ x = get_or_from_slice_get xs i x x at in
    let items : take (i + 1) xs ≡ take i xs ++ x ∷ [] = take_more xs i x within ∙ ap (λ y. take i xs ++ y ∷ []) same in
    let texts : map f (take (i + 1) xs) ≡ map f (take i xs) ++ f x ∷ [] = ap (map f) items ∙ map-append f (take i xs) (x ∷ []) in
    let long : length (map f (take i xs)) ≡ i = omega (arith, length-map (take i xs) f, length-take i xs, within) in
    let all = joined c i (map f (take i xs)) (f x) long in
    step ∙ ap (λ t. t ++ f x) (before ∙ ap (λ t. t ++ before_part (c ∷ []) i) so_far)
    ∙ append_assoc (old ++ join_with_byte c (map f (take i xs))) (before_part (c ∷ []) i) (f x)
    ∙ append_assoc old (join_with_byte c (map f (take i xs))) (before_part (c ∷ []) i ++ f x)
    ∙ ap (λ t. old ++ t) (sym all) ∙ ap (λ ts. old ++ join_with_byte c ts) (sym texts)

-- ---- numbers

-- digits are none of the bytes between
digit_is : (b c : ℕ) → is_ascii_digit b ≡ true → c < 48 → (b == c) ≡ false
digit_is b c d low = grind (arith, is_ascii_digit)

digits_free : (c : ℕ) (ds : List ℕ) → c < 48 → list_all is_ascii_digit ds ≡ true → All (λ b. (b == c) ≡ false) ds
digits_free c [] low all = λ k d lt. absurd (omega arith)
digits_free c (b ∷ bs) low all =
    let parts = and_parts (is_ascii_digit b) (list_all is_ascii_digit bs) all in
    All-cons (λ x. (x == c) ≡ false) b bs (digit_is b c parts.0 low) (digits_free c bs low parts.1)

digits_of : (n : ℕ) → n < 2 ^ 64 → list_all is_ascii_digit (decimal n) ≡ true
digits_of n h = digits_decimal own n h

are_so : (ds : List ℕ) → 0 < length ds → length ds ≤ 20 → list_all is_ascii_digit ds ≡ true → are_digits 20 ds ≡ true
unfolding are_digits
are_so ds some few all = grind (arith, some, few, all)

number_word : (n : ℕ) → n < 2 ^ 64 → word_count (decimal n) ≡ Some n
number_word n h =
    let digits : are_digits 20 (decimal n) ≡ true = are_so (decimal n) (decimal_nonempty n h) (length-decimal-le 20 n (omega arith) (omega arith) h) (digits_of n h) in
    let value : digits_value 10 (decimal n) ≡ n = digits_value-decimal own n h in
    said_within 20 0 (2 ^ 64 - 1) (decimal n) digits (omega arith) (omega (arith, value, h)) ∙ ap (λ m. Some m) value

free_of : (c : ℕ) → c < 48 → (ns : List ℕ) → AllByRecursion (λ n. n < 2 ^ 64) ns → AreFree c (map decimal ns)
free_of c low [] all = tt
free_of c low (n ∷ ns) all = (digits_free c (decimal n) low (digits_of n all.0), free_of c low ns all.1)

each_number : (ns : List ℕ) → AllByRecursion (λ n. n < 2 ^ 64) ns → each_said word_count (map decimal ns) ≡ Some ns
each_number [] all = refl
each_number (n ∷ ns) all = rw (number_word n all.0, each_number ns all.1) refl

source_word : (ns : List ℕ) → AreCounts ns → source_said (source_text ns) ≡ Some ns
unfolding source_said
source_word [] are = absurd (let l = are.0 in omega (arith, l))
source_word (n ∷ ns) are = rw (split_joined 44 (decimal n) (map decimal ns) refl (free_of 44 (omega arith) (n ∷ ns) are.1)) (each_number (n ∷ ns) are.1)

-- words have no slash
slash_free : (ns : List ℕ) → AreCounts ns → All (λ b. (b == 47) ≡ false) (source_text ns)
slash_free [] are = λ k d lt. absurd (omega arith)
slash_free (n ∷ []) are = digits_free 47 (decimal n) (omega arith) (digits_of n are.1.0)
slash_free (n ∷ m ∷ ns) are =
    All-append (λ b. (b == 47) ≡ false) (decimal n) (44 ∷ source_text (m ∷ ns)) (digits_free 47 (decimal n) (omega arith) (digits_of n are.1.0))
    (All-cons (λ b. (b == 47) ≡ false) 44 (source_text (m ∷ ns)) refl (slash_free (m ∷ ns) (omega arith, are.1.1)))

slashes_free : (cs : List (List ℕ)) → AllByRecursion AreCounts cs → AreFree 47 (map source_text cs)
slashes_free [] all = tt
slashes_free (c ∷ cs) all = (slash_free c all.0, slashes_free cs all.1)

each_source : (cs : List (List ℕ)) → AllByRecursion AreCounts cs → each_said source_said (map source_text cs) ≡ Some cs
each_source [] all = refl
each_source (c ∷ cs) all = rw (source_word c all.0, each_source cs all.1) refl

said_counts : (cs : List (List ℕ)) → 0 < length cs → AllByRecursion AreCounts cs → cut_said (cut_text cs) ≡ Some (record { counts = cs })
unfolding cut_said
said_counts [] some all = absurd (omega arith)
said_counts (c ∷ cs) some all = rw (split_joined 47 (source_text c) (map source_text cs) refl (slashes_free (c ∷ cs) all)) (rw (each_source (c ∷ cs) all) refl)

pub spelled_is_said : SpelledIsSaid
spelled_is_said cut some all = said_counts cut.counts some all
