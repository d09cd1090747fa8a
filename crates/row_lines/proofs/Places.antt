-- Where lines end, and what is left of a text.
use Rattle.std.proofs.Common.{◌≡◌, ◌≢◌, ℕ, suc, ◌+◌, ◌-◌, ◌<◌, ◌≤◌, min, List, [], ◌∷◌, ◌++◌, length, get_or, take, drop, Option, Some, None, option_map, arith, refl, sym, ap, subst, ◌∙◌, append_assoc, drop-cons, eq-eqb, length-drop, length-append, slice_range, IfSome, take-take}
use Rattle.std.specs.Io.KnownBytes.{Appends, Consumes, Keeps}
use Rattle.std.proofs.lemmas.Bool.{eqb-true}
use Rattle.std.proofs.lemmas.List.{take-append-drop, get_or-take, take_min, length-take, take-append-le, drop-drop}
use Rattle.std.proofs.lemmas.List.Elements.{All-from_get_or}
use Rattle.memchr.specs.Find.{IsFirstByte, is_byte}
use Rattle.row_lines.specs.Lines.{IsOneLine, IsPlace}

pub first_place : (hay : List ℕ) (r : Option ℕ) → IsFirstByte (is_byte 10) hay r → IsPlace hay r
first_place hay None h = All-from_get_or (λ b. b ≢ 10) hay 0 (λ i lt e. h i (omega arith) lt (eq-eqb _ _ e))
first_place hay (Some k) h =
    let lt : k < length hay = h.0.high in
    let at : get_or hay k 0 ≡ 10 = eqb-true _ _ h.1 in
    let short : length (take k hay) ≡ min k (length hay) = length-take k hay in
    let before : IsOneLine (take k hay) = All-from_get_or (λ b. b ≢ 10) (take k hay) 0 (λ i i_in e.
    let i_low : i < k = omega arith in
    h.0.before i (omega arith) i_low (eq-eqb _ _ (sym (get_or-take k hay i 0 i_low) ∙ e))) in
    (lt, before, at)

min_comm : (a b : ℕ) → min a b ≡ min b a
min_comm a b = omega arith

-- the bytes in which a line is looked for
pub window_of : (held behind : List ℕ) (n : ℕ) → held ≡ behind → n ≡ min (length held) 391 → take n held ≡ take 391 behind
window_of held behind n same is = ap (λ k. take k held) (is ∙ min_comm (length held) 391) ∙ take_min 391 held ∙ ap (take 391) same

pub nothing_held : (old : Option (List ℕ)) (held : List ℕ) → held ≡ [] → option_map (λ xs. held ++ xs) old ≡ old
nothing_held None held e = refl
nothing_held (Some xs) held e = ap (λ l. Some (l ++ xs)) e

pub kept_and_consumed : (a b c : Option (List ℕ)) (bs : List ℕ) → Keeps a b → Consumes b c bs → Consumes a c bs
kept_and_consumed None b c bs h k = tt
kept_and_consumed (Some xs) None c bs h k = absurd h
kept_and_consumed (Some xs) (Some ys) None bs h k = absurd k
kept_and_consumed (Some xs) (Some ys) (Some zs) bs h k = sym h ∙ k

drop_behind : (end place : ℕ) (held : List ℕ) → drop (suc place) (drop end held) ≡ drop (end + (place + 1)) held
drop_behind end place held =
    let e : end + suc place ≡ end + (place + 1) = omega arith in
    drop-drop (suc place) end held ∙ ap (λ n. drop n held) e

consumed_front : (rem : Option (List ℕ)) (x line rest : List ℕ) → x ≡ line ++ rest → Consumes (option_map (λ xs. x ++ xs) rem) (option_map (λ xs. rest ++ xs) rem) line
consumed_front None x line rest e = tt
consumed_front (Some xs) x line rest e = ap (λ l. l ++ xs) e ∙ append_assoc line rest xs

-- the line in front of a place
pub line_before : (held : List ℕ) (end place : ℕ) → slice_range held end (end + (place + 1) - 1) ≡ take place (drop end held)
line_before held end place =
    let count : end + (place + 1) - 1 - end ≡ place = omega arith in
    ap (λ n. take n (drop end held)) count

-- a line is taken
pub took_line : (rem : Option (List ℕ)) (held : List ℕ) (end place : ℕ) → IsPlace (take 391 (drop end held)) (Some place)
    → Consumes (option_map (λ xs. drop end held ++ xs) rem) (option_map (λ xs. drop (end + (place + 1)) held ++ xs) rem) (slice_range held end (end + (place + 1) - 1) ++ 10 ∷ [])
    × IsOneLine (slice_range held end (end + (place + 1) - 1))
took_line rem held end place h =
    let x = drop end held in
    let short = length-take 391 x in
    let lt : place < length x = omega (arith, h.0) in
    let low : place < 391 = omega (arith, h.0) in
    let at : get_or x place 0 ≡ 10 = sym (get_or-take 391 x place 0 low) ∙ h.2 in
    let line : slice_range held end (end + (place + 1) - 1) ≡ take place x = line_before held end place in
    let front : take place (take 391 x) ≡ take place x = take-take place 391 x (omega arith) in
    let behind : drop (suc place) x ≡ drop (end + (place + 1)) held = drop_behind end place held in
    let parts : x ≡ (take place x ++ 10 ∷ []) ++ drop (end + (place + 1)) held =
    sym (take-append-drop place x) ∙ ap (λ rest. take place x ++ rest) (drop-cons x place 0 lt ∙ (λ i. at i ∷ behind i)) ∙ sym (append_assoc (take place x) (10 ∷ []) (drop (end + (place + 1)) held)) in
    let parts' : x ≡ (slice_range held end (end + (place + 1) - 1) ++ 10 ∷ []) ++ drop (end + (place + 1)) held = parts ∙ ap (λ l. (l ++ 10 ∷ []) ++ drop (end + (place + 1)) held) (sym line) in
    (consumed_front rem x (slice_range held end (end + (place + 1) - 1) ++ 10 ∷ []) (drop (end + (place + 1)) held) parts', subst IsOneLine (front ∙ sym line) h.1)

abbrev pub HasNoLine : List ℕ → Type 0
HasNoLine text = (text ≢ []) × IsOneLine (take 391 text)

some_bytes : (text : List ℕ) → 0 < length text → text ≢ []
some_bytes text some e = let none : length text ≡ 0 = ap (length {A = ℕ}) e in absurd (omega arith)

-- no line ends in what is held, which is long
pub no_line : (old rem : Option (List ℕ)) (held : List ℕ) → Keeps old (option_map (λ xs. held ++ xs) rem) → 391 ≤ length held → IsOneLine (take 391 held) → IfSome old HasNoLine
no_line None rem held k long one = tt
no_line (Some text) None held k long one = absurd k
no_line (Some text) (Some xs) held k long one =
    let front : take 391 (held ++ xs) ≡ take 391 held = take-append-le 391 held xs long in
    let text_long : 0 < length (held ++ xs) = omega (arith, length-append held xs) in
    (subst (λ (t : List ℕ). t ≢ []) k (some_bytes (held ++ xs) text_long), subst (λ (t : List ℕ). IsOneLine (take 391 t)) k (subst IsOneLine (sym front) one))

pub place_within : (held : List ℕ) (end place : ℕ) → IsPlace (take 391 (drop end held)) (Some place) → end + (place + 1) ≤ length held
place_within held end place h = let short = length-take 391 (drop end held) in omega (arith, h.0, length-drop end held)

-- what is written after what was written before
pub appends_more : (a b c : Option (List ℕ)) (x y : List ℕ) → Appends a b x → Appends b c y → Appends a c (x ++ y)
appends_more None b c x y h k = tt
appends_more (Some a) None c x y h k = absurd h
appends_more (Some a) (Some b) None x y h k = absurd k
appends_more (Some a) (Some b) (Some c) x y h k = k ∙ ap (λ l. l ++ y) h ∙ append_assoc a x y
