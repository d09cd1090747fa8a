-- Buckets by key group, one pane after the other.
use Rattle.std.proofs.Common.{◌≡◌, ℕ, zero, suc, ◌+◌, ◌<◌, ℤ, Bool, true, false, cond, eqb, List, [], ◌∷◌, ◌++◌, length, map, get_or, set, replicate, take, refl, sym, ap, subst, ◌∙◌, append_assoc, arith, inl, inr}
use Rattle.std.specs.Prelude.{OnOk, Result, Ok, Err}
use Rattle.std.specs.List.{All, filter, flat_map, fold, range_with_len}
use Rattle.std.proofs.lemmas.Bool.{cases_eq, eq-eqb}
use Rattle.std.proofs.lemmas.List.{append-nil, map-append, get_or-set_same, get_or-set_other, length-set, get_or-replicate, length-replicate, get_or_append_left, get_or-append-add, length-append, take_more, flat_map_more}
use Rattle.std.proofs.lemmas.List.FromFn.{fill_by_all, get_or-map-range_with_len, length-map-range_with_len}
use Rattle.std.proofs.lemmas.List.Elements.{All-set, filter-append}
use Rattle.byte_fields.proofs.Exact.{both}
use Rattle.key_groups.specs.Groups.{key_group}
use Rattle.aggregates.specs.declared.kind.Kind.{Kind}
use Rattle.aggregates.specs.Kinds.{is_number, are_numbers}
use Rattle.window_state.specs.declared.parts.Part.{Part}
use Rattle.savepoint_codec.specs.EntriesData.{EntryData, EntriesData}
use Rattle.gather.specs.Saved.{is_in_group, saved_group}
use Rattle.packed_parts.specs.Packing.{entry_of}
use Rattle.gather.specs.Buckets.{no_entries, with_entry, with_part, bucket, groups_from, HaveWidth}

pub All-first : {Y : Type 0} (P : Y → Type 0) (xs ys : List Y) → All P (xs ++ ys) → All P xs
All-first P xs ys h = λ k d l. subst P (get_or_append_left xs ys d k l) (h k d (omega (arith, l, length-append xs ys)))

pub All-second : {Y : Type 0} (P : Y → Type 0) (xs ys : List Y) → All P (xs ++ ys) → All P ys
All-second P xs ys h = λ k d l. subst P (get_or-append-add xs ys k d) (h (length xs + k) d (omega (arith, l, length-append xs ys)))

-- an accumulator has a number for each kind
pub numbers_length : (count : ℕ) (kinds : List Kind) (zs : List ℤ) → are_numbers count kinds zs ≡ true → length zs ≡ length kinds
numbers_length count [] [] h = refl
numbers_length count [] (z ∷ zs) h = absurd cc
numbers_length count (k ∷ ks) [] h = absurd cc
numbers_length count (k ∷ ks) (z ∷ zs) h = ap suc (numbers_length count ks zs (both (is_number count k z) (are_numbers count ks zs) h).1)

pub widths_kept : (n : ℕ) (bs : List EntriesData) (g : ℕ) (b : EntriesData) → g < length bs → b.width ≡ (get_or bs g b).width → HaveWidth n bs → HaveWidth n (set bs g b)
widths_kept n bs g b lt e h = All-set (λ (x : EntriesData). x.width ≡ n) bs g b (e ∙ h g b lt) h

pub on_ok : {A E : Type 0} (r : Result A E) (P Q : Type 0) → (P → Q) → OnOk r P → OnOk r Q
on_ok (Ok x) P Q f h = f h
on_ok (Err e) P Q f h = tt

-- what holds in each task's panes
pub All-within : {X Y : Type 0} (P : Y → Type 0) (f : X → List Y) (xs : List X) (i : ℕ) (d : X) → i < length xs → All P (flat_map f xs) → All P (f (get_or xs i d))
All-within P f [] i d lt h = absurd (omega arith)
All-within P f (x ∷ xs) zero d lt h = All-first P (f x) (flat_map f xs) h
All-within P f (x ∷ xs) (suc i) d lt h = All-within P f xs i d (omega arith) (All-second P (f x) (flat_map f xs) h)

pub flat_map-take : {X Y : Type 0} (f : X → List Y) (xs : List X) (i : ℕ) (d : X) → i < length xs → flat_map f (take (i + 1) xs) ≡ flat_map f (take i xs) ++ f (get_or xs i d)
flat_map-take f xs i d lt = ap (flat_map f) (take_more xs i d lt) ∙ sym (flat_map_more f [] (take i xs) (get_or xs i d))

-- one pane more
bucket_more : (max width : ℕ) (seen : List Part) (x : Part) (g : ℕ) → bucket max width (seen ++ x ∷ []) g ≡ cond (is_in_group max g x.pane) (with_entry (bucket max width seen g) (entry_of x)) (bucket max width seen g)
bucket_more max width seen x g =
    let p : Part → Bool = λ part. is_in_group max g part.pane in
    let made : List EntryData → EntriesData = λ es. record { width = width; entries = es } in
    ap (λ ps. made (map entry_of ps)) (filter-append p seen (x ∷ []))
    ∙ ap made (map-append entry_of (filter p seen) (filter p (x ∷ [])))
    ∙ elim (p x) as (λ b. made (map entry_of (filter p seen) ++ map entry_of (cond b (x ∷ []) [])) ≡ cond b (made (map entry_of (filter p seen) ++ entry_of x ∷ [])) (made (map entry_of (filter p seen)))) [
      | true ↦ refl
      | false ↦ ap made (append-nil (map entry_of (filter p seen)))
    ]

eqb_other : (n m : ℕ) → (m ≡ n → ⊥) → eqb n m ≡ false
eqb_other n m ne = grind arith

pushed : (max width : ℕ) (seen : List Part) (x : Part) → key_group max x.pane.key < max → with_part max (map (bucket max width seen) (range_with_len 0 max)) x ≡ map (bucket max width (seen ++ x ∷ [])) (range_with_len 0 max)
pushed max width seen x lt =
    let g = key_group max x.pane.key in
    let none = no_entries 0 in
    let old = map (bucket max width seen) (range_with_len 0 max) in
    let at : (k : ℕ) → k < max → get_or old k none ≡ bucket max width seen k = λ k l. get_or-map-range_with_len (bucket max width seen) 0 max k k none l (omega arith) in
    let long : length old ≡ max = length-map-range_with_len (bucket max width seen) 0 max in
    let new = with_part max old x in
    fill_by_all (bucket max width (seen ++ x ∷ [])) new max none (length-set old g _ ∙ long) (λ k l.
    elim (cases_eq k g) [
      | inl same ↦
          subst (λ j. get_or new j none ≡ bucket max width (seen ++ x ∷ []) j) (sym same)
          (get_or-set_same old g _ none (omega arith)
          ∙ ap (λ b. with_entry b (entry_of x)) (at g lt)
          ∙ sym (bucket_more max width seen x g ∙ ap (λ b. cond b (with_entry (bucket max width seen g) (entry_of x)) (bucket max width seen g)) (eq-eqb g g refl)))
      | inr other ↦
          get_or-set_other old g k _ none other
          ∙ at k l
          ∙ sym (bucket_more max width seen x k ∙ ap (λ b. cond b (with_entry (bucket max width seen k) (entry_of x)) (bucket max width seen k)) (eqb_other g k other))
    ])

all_pushed : (max width : ℕ) (seen more : List Part) → 0 < max → fold (with_part max) (map (bucket max width seen) (range_with_len 0 max)) more ≡ map (bucket max width (seen ++ more)) (range_with_len 0 max)
all_pushed max width seen [] some = ap (λ ps. map (bucket max width ps) (range_with_len 0 max)) (sym (append-nil seen))
all_pushed max width seen (x ∷ more) some =
    ap (λ bs. fold (with_part max) bs more) (pushed max width seen x (omega arith))
    ∙ all_pushed max width (seen ++ x ∷ []) more some
    ∙ ap (λ ps. map (bucket max width ps) (range_with_len 0 max)) (append_assoc seen (x ∷ []) more)

none_yet : (max width : ℕ) → replicate max (no_entries width) ≡ map (bucket max width []) (range_with_len 0 max)
none_yet max width = fill_by_all (bucket max width []) (replicate max (no_entries width)) max (no_entries width) (length-replicate max (no_entries width)) (λ k l. get_or-replicate max k (no_entries width) (no_entries width) l)

-- each bucket has the panes of its key group
pub filled : (max width : ℕ) (parts : List Part) → 0 < max → fold (with_part max) (replicate max (no_entries width)) parts ≡ map (bucket max width parts) (range_with_len 0 max)
filled max width parts some = ap (λ bs. fold (with_part max) bs parts) (none_yet max width) ∙ all_pushed max width [] parts some

-- buckets as key groups
pub groups_are : (f : ℕ → EntriesData) (width n k : ℕ) → ((g : ℕ) → (f g).width ≡ width) → groups_from n (map f (range_with_len n k)) ≡ flat_map (λ g. saved_group width g (f g).entries) (range_with_len n k)
groups_are f width n zero h = refl
groups_are f width n (suc k) h = λ i. saved_group (h n i) n (f n).entries ++ groups_are f width (n + 1) k h i

groups-append : (n : ℕ) (bs cs : List EntriesData) → groups_from n (bs ++ cs) ≡ groups_from n bs ++ groups_from (n + length bs) cs
groups-append n [] cs = ap (λ m. groups_from m cs) (let e : n ≡ n + 0 = omega arith in e)
groups-append n (b ∷ bs) cs =
    ap (λ gs. saved_group b.width n b.entries ++ gs) (groups-append (n + 1) bs cs ∙ ap (λ m. groups_from (n + 1) bs ++ groups_from m cs) (let e : n + 1 + length bs ≡ n + suc (length bs) = omega arith in e))
    ∙ sym (append_assoc (saved_group b.width n b.entries) (groups_from (n + 1) bs) (groups_from (n + suc (length bs)) cs))

-- one bucket more
pub groups_push : (bs : List EntriesData) (b : EntriesData) (n : ℕ) → n ≡ length bs → groups_from 0 (bs ++ b ∷ []) ≡ groups_from 0 bs ++ saved_group b.width n b.entries
groups_push bs b n e =
    groups-append 0 bs (b ∷ [])
    ∙ ap (λ m. groups_from 0 bs ++ (saved_group b.width m b.entries ++ [])) (let s : 0 + length bs ≡ n = omega arith in s)
    ∙ ap (λ gs. groups_from 0 bs ++ gs) (append-nil (saved_group b.width n b.entries))
