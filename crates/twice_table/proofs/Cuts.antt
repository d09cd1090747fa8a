-- Texts behind one another, one more at a time.
use Rattle.std.proofs.Common.{◌≡◌, ◌∙◌, sym, ap, refl, true, ℕ, zero, suc, ◌<◌, ◌≤◌, List, [], ◌∷◌, ◌++◌, length, get_or, take, drop, arith, length-append, length-take}
use Rattle.std.specs.List.{slice_range}
use Rattle.std.proofs.lemmas.List.{take-append-drop, append-nil}
use Rattle.std.proofs.lemmas.Grind.{common_steps}
use Rattle.twice_table.specs.Packed.{cut, are_ends, start_of}

-- the last text ends where one behind it would begin
abbrev pub last_end : ℕ → List ℕ → ℕ
last_end start ends = start_of start ends (length ends)

last_of_more : (start end : ℕ) (ends : List ℕ) → last_end start (end ∷ ends) ≡ last_end end ends
last_of_more start end [] = refl
last_of_more start end (next ∷ ends) = refl

pub ends_up : (start : ℕ) (ends : List ℕ) (all : ℕ) → are_ends start ends all ≡ true → (start ≤ last_end start ends) × (last_end start ends ≤ all)
ends_up start [] all h = grind (arith, common_steps)
ends_up start (end ∷ ends) all h = rw (last_of_more start end ends) (grind (arith, common_steps, ends_up end ends all))

pub ends_longer : (start : ℕ) (ends : List ℕ) (all more : ℕ) → are_ends start ends all ≡ true → all ≤ more → are_ends start ends more ≡ true
ends_longer start [] all more h k = grind (arith, common_steps)
ends_longer start (end ∷ ends) all more h k = grind (arith, common_steps, ends_longer end ends all more)

pub ends_last : (start : ℕ) (ends : List ℕ) (all : ℕ) → are_ends start ends all ≡ true → are_ends start ends (last_end start ends) ≡ true
ends_last start [] all h = grind (arith, common_steps)
ends_last start (end ∷ ends) all h = rw (last_of_more start end ends) (grind (arith, common_steps, ends_last end ends all))

pub ends_push : (start : ℕ) (ends : List ℕ) (all more : ℕ) → are_ends start ends all ≡ true → all ≤ more → are_ends start (ends ++ more ∷ []) more ≡ true
ends_push start [] all more h k = grind (arith, common_steps)
ends_push start (end ∷ ends) all more h k = grind (arith, common_steps, ends_push end ends all more)

pub ends_at : (start : ℕ) (ends : List ℕ) (all i : ℕ) → are_ends start ends all ≡ true → i < length ends → (start_of start ends i ≤ get_or ends i 0) × (get_or ends i 0 ≤ all)
ends_at start [] all i h k = elim k [ ]
ends_at start (end ∷ ends) all zero h k = grind (arith, common_steps, ends_up end ends all)
ends_at start (end ∷ ends) all (suc zero) h k = grind (arith, common_steps, ends_at end ends all 0)
ends_at start (end ∷ ends) all (suc (suc i)) h k = grind (arith, common_steps, ends_at end ends all (suc i))

pub length_cut : (start : ℕ) (ends bytes : List ℕ) → length (cut start ends bytes) ≡ length ends
length_cut start [] bytes = refl
length_cut start (end ∷ ends) bytes = ap suc (length_cut end ends bytes)

pub cut_at : (start : ℕ) (ends bytes : List ℕ) (i : ℕ) → i < length ends → get_or (cut start ends bytes) i [] ≡ slice_range bytes (start_of start ends i) (get_or ends i 0)
cut_at start [] bytes i k = elim k [ ]
cut_at start (end ∷ ends) bytes zero k = refl
cut_at start (end ∷ ends) bytes (suc zero) k = cut_at end ends bytes 0 (omega arith)
cut_at start (end ∷ ends) bytes (suc (suc i)) k = cut_at end ends bytes (suc i) (omega arith)

-- a part stays where more stands behind
pub range_kept : (xs ys : List ℕ) (a b : ℕ) → a ≤ b → b ≤ length xs → slice_range (xs ++ ys) a b ≡ slice_range xs a b
range_kept xs ys a b h k = grind (arith, common_steps)

pub cut_kept : (start : ℕ) (ends xs ys : List ℕ) → are_ends start ends (length xs) ≡ true → cut start ends (xs ++ ys) ≡ cut start ends xs
cut_kept start [] xs ys h = refl
cut_kept start (end ∷ ends) xs ys h = grind (arith, common_steps, ends_up end ends (length xs), range_kept xs ys start end, cut_kept end ends xs ys)

pub cut_push : (start : ℕ) (ends bytes : List ℕ) (more : ℕ) → cut start (ends ++ more ∷ []) bytes ≡ cut start ends bytes ++ slice_range bytes (last_end start ends) more ∷ []
cut_push start [] bytes more = refl
cut_push start (end ∷ ends) bytes more = rw (last_of_more start end ends) (ap (λ (t : List (List ℕ)). slice_range bytes start end ∷ t) (cut_push end ends bytes more))

pub ends_take : (start : ℕ) (ends : List ℕ) (all k : ℕ) → are_ends start ends all ≡ true → are_ends start (take k ends) all ≡ true
ends_take start ends all zero h = grind (arith, common_steps, ends_up start ends all)
ends_take start [] all (suc k) h = h
ends_take start (end ∷ ends) all (suc k) h = grind (arith, common_steps, ends_take end ends all k)

pub cut_take : (start : ℕ) (ends bytes : List ℕ) (k : ℕ) → cut start (take k ends) bytes ≡ take k (cut start ends bytes)
cut_take start ends bytes zero = refl
cut_take start [] bytes (suc k) = refl
cut_take start (end ∷ ends) bytes (suc k) = ap (λ (t : List (List ℕ)). slice_range bytes start end ∷ t) (cut_take end ends bytes k)

-- the bytes up to the end of the last text
abbrev pub emptied : List ℕ → List ℕ → List ℕ
emptied ends bytes = take (last_end 0 ends) bytes

length_emptied : (ends bytes : List ℕ) → are_ends 0 ends (length bytes) ≡ true → length (emptied ends bytes) ≡ last_end 0 ends
length_emptied ends bytes h = grind (arith, common_steps, length-take, ends_up 0 ends (length bytes))

ends_emptied : (ends bytes : List ℕ) → are_ends 0 ends (length bytes) ≡ true → are_ends 0 ends (length (emptied ends bytes)) ≡ true
ends_emptied ends bytes h = rw (length_emptied ends bytes h) (ends_last 0 ends (length bytes) h)

-- so may more bytes stand behind them
pub ends_between : (ends bytes more : List ℕ) → are_ends 0 ends (length bytes) ≡ true → are_ends 0 ends (length (emptied ends bytes ++ more)) ≡ true
ends_between ends bytes more h = ends_longer 0 ends (length (emptied ends bytes)) (length (emptied ends bytes ++ more)) (ends_emptied ends bytes h) (omega (arith, length-append (emptied ends bytes) more))

pub emptied_is : (ends bytes more : List ℕ) → are_ends 0 ends (length bytes) ≡ true → cut 0 ends (emptied ends bytes ++ more) ≡ cut 0 ends bytes
emptied_is ends bytes more h =
    let e = ends_emptied ends bytes h in
    cut_kept 0 ends (emptied ends bytes) more e ∙ sym (cut_kept 0 ends (emptied ends bytes) (drop (last_end 0 ends) bytes) e) ∙ ap (cut 0 ends) (take-append-drop (last_end 0 ends) bytes)

pub ends_after : (ends bytes text : List ℕ) → are_ends 0 ends (length bytes) ≡ true → are_ends 0 (ends ++ length (emptied ends bytes ++ text) ∷ []) (length (emptied ends bytes ++ text)) ≡ true
ends_after ends bytes text h = ends_push 0 ends (length (emptied ends bytes)) (length (emptied ends bytes ++ text)) (ends_emptied ends bytes h) (omega (arith, length-append (emptied ends bytes) text))

range_last : (xs text : List ℕ) (k : ℕ) → k ≡ length xs → slice_range (xs ++ text) k (length (xs ++ text)) ≡ text
range_last xs text k h = rw h (grind (arith, common_steps))

pub push_is : (ends bytes text : List ℕ) → are_ends 0 ends (length bytes) ≡ true → cut 0 (ends ++ length (emptied ends bytes ++ text) ∷ []) (emptied ends bytes ++ text) ≡ cut 0 ends bytes ++ text ∷ []
push_is ends bytes text h =
    let xs = emptied ends bytes in
    let e = cut_push 0 ends (xs ++ text) (length (xs ++ text)) in
    let last = range_last xs text (last_end 0 ends) (sym (length_emptied ends bytes h)) in
    e ∙ ap (λ (t : List (List ℕ)). t ++ slice_range (xs ++ text) (last_end 0 ends) (length (xs ++ text)) ∷ []) (emptied_is ends bytes text h) ∙ ap (λ (t : List ℕ). cut 0 ends bytes ++ t ∷ []) last

-- what stands there behind a text that was put there in part, in whole but without its end, and with it
pub in_part : (ends bytes ends' bytes' : List ℕ) → are_ends 0 ends (length bytes) ≡ true → ends' ≡ ends → bytes' ≡ emptied ends bytes → (are_ends 0 ends' (length bytes') ≡ true) × (cut 0 ends' bytes' ≡ cut 0 ends bytes)
in_part ends bytes ends' bytes' h e f = rw (e, f, ← append-nil (emptied ends bytes)) (ends_between ends bytes [] h, emptied_is ends bytes [] h)

pub in_whole : (ends bytes text ends' bytes' : List ℕ) → are_ends 0 ends (length bytes) ≡ true → ends' ≡ ends → bytes' ≡ emptied ends bytes ++ text → (are_ends 0 ends' (length bytes') ≡ true) × (cut 0 ends' bytes' ≡ cut 0 ends bytes)
in_whole ends bytes text ends' bytes' h e f = rw (e, f) (ends_between ends bytes text h, emptied_is ends bytes text h)

pub with_end : (ends bytes text ends' bytes' : List ℕ) → are_ends 0 ends (length bytes) ≡ true → ends' ≡ ends ++ length bytes' ∷ [] → bytes' ≡ emptied ends bytes ++ text → (are_ends 0 ends' (length bytes') ≡ true) × (cut 0 ends' bytes' ≡ cut 0 ends bytes ++ text ∷ [])
with_end ends bytes text ends' bytes' h e f = rw (e, f) (ends_after ends bytes text h, push_is ends bytes text h)

pub emptied_so : (ends bytes kept seen : List ℕ) (k : ℕ) → kept ≡ take k bytes → k ≡ start_of 0 seen (length seen) → seen ≡ ends → kept ≡ emptied ends bytes
emptied_so ends bytes kept seen k e f g = e ∙ ap (λ (n : ℕ). take n bytes) (f ∙ ap (λ (some : List ℕ). start_of 0 some (length some)) g)
