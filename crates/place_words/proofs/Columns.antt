-- The numbers of rows brought in at places, aggregate by aggregate, against the rows one by one.
use Rattle.std.proofs.Common.{◌≡◌, ◌≢◌, ◌⊎◌, inl, inr, ℕ, suc, ℤ, Bool, true, false, ◌+◌, ◌+ℤ◌, ◌*◌, ◌<◌, ◌≤◌, ◌==◌, List, [], ◌∷◌, map, length, get_or, refl, sym, ap, subst, ◌∙◌, arith, pos, negsuc, if◌then◌else◌}
use Rattle.std.proofs.lemmas.Int.{ints}
use Rattle.std.specs.List.{All}
use Rattle.std.proofs.lemmas.List.{length-map}
use Rattle.std.proofs.lemmas.Nat.{mul-le}
use Rattle.byte_fields.specs.Fields.{is_i64}
use Rattle.std.proofs.lemmas.Bool.{cases_lt, eqb-true}
use Rattle.plan_model.specs.declared.spec.Aggregate.{Aggregate}
use Rattle.plan_model.specs.Aggregates.{number_of}
use Rattle.aggregates.specs.declared.kind.Kind.{Kind}
use Rattle.aggregates.specs.Kinds.{kind_of, are_numbers, merge_by, merge_all}
use Rattle.aggregates.proofs.Accs.{length-numbers, merged_numbers, one_numbers}
use Rattle.place_words.specs.declared.words.PlacedRow.{PlacedRow}
use Rattle.place_words.specs.Words.{word, width_of, stride, number_at, numbers_at, count_of}
use Rattle.place_words.specs.PlacedRows.{rows_to, records_to, with_records, merged_to, AreApart, IsInPlaces}
use Rattle.place_words.proofs.Numbers.{IsSameFrom, number-same}
use Rattle.place_words.proofs.Placed.{AllRows}

-- the number of a row for an aggregate
abbrev pub number_in : List (List ℤ) → Aggregate → PlacedRow → ℤ
number_in records a r = number_of a (get_or records r.row []) []

-- numbers with those of the rows to the place brought in, one for each aggregate
abbrev pub columns_to : List (List ℤ) → ℕ → List PlacedRow → List Aggregate → List ℤ → List ℤ
columns_to records x rows (a ∷ aggregates) (z ∷ zs) = merged_to (kind_of a) (number_in records a) x rows z ∷ columns_to records x rows aggregates zs
columns_to records x rows aggregates zs = []

columns_none : (records : List (List ℤ)) (x : ℕ) (aggregates : List Aggregate) (zs : List ℤ) → length zs ≡ length aggregates
    → columns_to records x [] aggregates zs ≡ zs
columns_none records x [] [] h = refl
columns_none records x [] (z ∷ zs) h = absurd (omega (arith, h))
columns_none records x (a ∷ aggregates) [] h = absurd (omega (arith, h))
columns_none records x (a ∷ aggregates) (z ∷ zs) h = ap (λ l. z ∷ l) (columns_none records x aggregates zs (omega (arith, h)))

columns_here : (records : List (List ℤ)) (x : ℕ) (r : PlacedRow) (rs : List PlacedRow) (aggregates : List Aggregate) (zs : List ℤ) → r.at == x ≡ true
    → columns_to records x (r ∷ rs) aggregates zs
    ≡ columns_to records x rs aggregates (merge_all (map kind_of aggregates) zs (map (λ a. number_in records a r) aggregates))
columns_here records x r rs [] zs is = refl
columns_here records x r rs (a ∷ aggregates) [] is = refl
columns_here records x r rs (a ∷ aggregates) (z ∷ zs) is =
    let first = λ (b : Bool). if b then merged_to (kind_of a) (number_in records a) x rs (merge_by (kind_of a) z (number_in records a r)) else merged_to
    (kind_of a) (number_in records a) x rs z in
    λ i. first (is i) ∷ columns_here records x r rs aggregates zs is i

columns_there : (records : List (List ℤ)) (x : ℕ) (r : PlacedRow) (rs : List PlacedRow) (aggregates : List Aggregate) (zs : List ℤ) → r.at == x ≡ false
    → columns_to records x (r ∷ rs) aggregates zs ≡ columns_to records x rs aggregates zs
columns_there records x r rs [] zs is = refl
columns_there records x r rs (a ∷ aggregates) [] is = refl
columns_there records x r rs (a ∷ aggregates) (z ∷ zs) is =
    let first = λ (b : Bool). if b then merged_to (kind_of a) (number_in records a) x rs (merge_by (kind_of a) z (number_in records a r)) else merged_to
    (kind_of a) (number_in records a) x rs z in
    λ i. first (is i) ∷ columns_there records x r rs aggregates zs is i

length-merge_all : (aggregates : List Aggregate) (f : Aggregate → ℤ) (zs : List ℤ) → length zs ≡ length aggregates
    → length (merge_all (map kind_of aggregates) zs (map f aggregates)) ≡ length aggregates
length-merge_all [] f zs h = refl
length-merge_all (a ∷ aggregates) f [] h = absurd (omega (arith, h))
length-merge_all (a ∷ aggregates) f (z ∷ zs) h = ap suc (length-merge_all aggregates f zs (omega (arith, h)))

-- the columns come to the same as the rows one by one
pub by_columns : (records : List (List ℤ)) (x : ℕ) (rows : List PlacedRow) (aggregates : List Aggregate) (n : ℕ) (zs : List ℤ)
    → length zs ≡ length aggregates
    → with_records aggregates (record { count = n; numbers = zs }) (records_to x records rows)
    ≡ record { count = n + rows_to x rows; numbers = columns_to records x rows aggregates zs }
by_columns records x [] aggregates n zs h =
    let none : n ≡ n + 0 = omega arith in
    λ i. record { count = none i; numbers = sym (columns_none records x aggregates zs h) i }
by_columns records x (r ∷ rs) aggregates n zs h = by_case (r.at == x) refl
    (by_columns records x rs aggregates (n + 1) (merge_all (map kind_of aggregates) zs (map (λ a. number_in records a r) aggregates))
    (length-merge_all aggregates (λ a. number_in records a r) zs h))
    (by_columns records x rs aggregates n zs h)
  where
    by_case : (b : Bool) → r.at == x ≡ b
        → with_records aggregates (record { count = n + 1; numbers = merge_all (map kind_of aggregates) zs (map (λ a. number_in records a r) aggregates) })
        (records_to x records rs)
        ≡ record {
          count = n + 1 + rows_to x rs;
          numbers =
              columns_to records x rs aggregates (merge_all (map kind_of aggregates) zs (map (λ a. number_in records a r) aggregates));
        }
        → with_records aggregates (record { count = n; numbers = zs }) (records_to x records rs)
        ≡ record { count = n + rows_to x rs; numbers = columns_to records x rs aggregates zs }
        → with_records aggregates (record { count = n; numbers = zs }) (records_to x records (r ∷ rs))
        ≡ record { count = n + rows_to x (r ∷ rs); numbers = columns_to records x (r ∷ rs) aggregates zs }
    by_case true is here there =
        let more : n + 1 + rows_to x rs ≡ n + (1 + rows_to x rs) = omega arith in
        ap (λ b. with_records aggregates (record { count = n; numbers = zs })
        (if b then get_or records r.row [] ∷ records_to x records rs else records_to x records rs)) is ∙ here
        ∙ (λ i. record {
          count = (more ∙ ap (λ b. n + (if b then 1 + rows_to x rs else rows_to x rs)) (sym is)) i;
          numbers =
              sym (columns_here records x r rs aggregates zs is) i;
        })
    by_case false is here there =
        ap (λ b. with_records aggregates (record { count = n; numbers = zs })
        (if b then get_or records r.row [] ∷ records_to x records rs else records_to x records rs)) is ∙ there
        ∙ (λ i. record {
          count = ap (λ b. n + (if b then 1 + rows_to x rs else rows_to x rs)) (sym is) i;
          numbers =
              sym (columns_there records x r rs aggregates zs is) i;
        })

-- ---- places

pub are_apart : (ks : List Kind) (ws : List ℤ) (x y : ℕ) → IsInPlaces ks ws x → IsInPlaces ks ws y → AreApart (stride ks) x y
are_apart ks ws x y p q = record {
  before = λ low. further (stride ks) p.place q.place x y p.begins q.begins low;
  after = λ low. further (stride ks) q.place p.place y x q.begins p.begins low;
}
  where
    further : (s i j x y : ℕ) → x ≡ i * s → y ≡ j * s → x < y → x + s ≤ y
    further s i j x y at_x at_y low = elim (cases_lt i j) [
      | inl before ↦ (
          let next : (i + 1) * s ≤ j * s = mul-le (i + 1) s j s (omega (arith, before)) (omega arith) in
          let more : (i + 1) * s ≡ i * s + s = grind arith in
          omega (arith, next, more, at_x, at_y))
      | inr after ↦ (
          let back : j * s ≤ i * s = mul-le j s i s (omega (arith, after)) (omega arith) in
          absurd (omega (arith, back, low, at_x, at_y)))
    ]

pub apart_narrower : (v w x y : ℕ) → v ≤ w → AreApart w x y → AreApart v x y
apart_narrower v w x y low apart = record {
  before = λ h. (let far : x + w ≤ y = apart.before h in omega (arith, low, far));
  after = λ h. (let far : y + w ≤ x = apart.after h in omega (arith, low, far));
}

-- word j of a place is not one of v words at offset o of another, nor of these words of its own
pub word_apart : (s v o x y j : ℕ) → AreApart s x y → 1 ≤ o → o + v ≤ s → j < s → (o ≤ j → o + v ≤ j) → y + o ≤ x + j → y + o + v ≤ x + j
word_apart s v o x y j apart start inside low own h = elim (cases_lt x y) [
  | inl below ↦ (let far : x + s ≤ y = apart.before below in absurd (omega (arith, far, low, h)))
  | inr above ↦ elim (cases_lt y x) [
    | inl under ↦ (let far : y + s ≤ x = apart.after under in omega (arith, far, inside))
    | inr same ↦ (let beyond : o + v ≤ j = own (omega (arith, same, above, h)) in omega (arith, same, above, beyond))
  ]
]

-- the number that words come to with the first aggregate brought in, and the others
pub columns_next : (m : ℕ) (k : Kind) (ks : List Kind) (z : ℤ) (zs ws vs : List ℤ) (x : ℕ) → number_at m k ws x ≡ z → IsSameFrom (width_of k) ws x vs x
    → numbers_at m ks vs (x + width_of k) ≡ zs → numbers_at m (k ∷ ks) vs x ≡ z ∷ zs
columns_next m k ks z zs ws vs x first same rest = λ i. (number-same m k ws vs x x same ∙ first) i ∷ rest i

-- ---- counts

pub some_goes : (P : ℕ → Type 0) (x : ℕ) (rows : List PlacedRow) → AllRows (λ r. P r.at) rows → (rows_to x rows ≡ 0) ⊎ P x
some_goes P x [] h = inl refl
some_goes P x (r ∷ rs) h = by_case (r.at == x) refl (h 0 r (omega arith)) (some_goes P x rs (λ j d low. h (suc j) d (omega (arith, low))))
  where
    by_case : (b : Bool) → r.at == x ≡ b → P r.at → (rows_to x rs ≡ 0) ⊎ P x → (rows_to x (r ∷ rs) ≡ 0) ⊎ P x
    by_case true is first rest = inr (subst P (eqb-true r.at x is) first)
    by_case false is first (inl none) = inl (ap (λ b. if b then 1 + rows_to x rs else rows_to x rs) is ∙ none)
    by_case false is first (inr some) = inr some

pub count_added : (z : ℤ) (m : ℕ) → (m ≡ 0) ⊎ (1 ≤ count_of z) → count_of (z +ℤ pos m) ≡ count_of z + m
count_added (pos n) m h = refl
count_added (negsuc n) m (inl none) =
    let plain : negsuc n +ℤ pos 0 ≡ negsuc n = omega (arith, ints) in
    let last : 0 ≡ count_of (negsuc n) + m = omega (arith, none) in
    ap (λ y. count_of (negsuc n +ℤ pos y)) none ∙ ap count_of plain ∙ last
count_added (negsuc n) m (inr some) = absurd (omega (arith, some))

pub length-numbers_at : (n : ℕ) (aggregates : List Aggregate) (ws : List ℤ) (x : ℕ)
    → length (numbers_at n (map kind_of aggregates) ws x) ≡ length aggregates
length-numbers_at n [] ws x = refl
length-numbers_at n (a ∷ aggregates) ws x = ap suc (length-numbers_at n aggregates ws (x + width_of (kind_of a)))

pub none_goes : (x : ℕ) (rows : List PlacedRow) → AllRows (λ r. r.at ≢ x) rows → rows_to x rows ≡ 0
none_goes x rows h = elim (some_goes (λ y. y ≢ x) x rows h) [
  | inl none ↦ none
  | inr other ↦ absurd (other refl)
]

pub not_inside : (s x y j : ℕ) → AreApart s x y → 1 ≤ j → j < s → y ≢ x + j
not_inside s x y j apart start low e = (
    let far : x + s ≤ y = apart.before (omega (arith, e, start)) in
    omega (arith, far, e, low))

-- the words of a place from o on
pub words_same : (x o v : ℕ) (ws vs : List ℤ) → ((j : ℕ) → o ≤ j → j < o + v → word vs (x + j) ≡ word ws (x + j)) → IsSameFrom v ws (x + o) vs (x + o)
words_same x o v ws vs h j low =
    let at : x + o + j ≡ x + (o + j) = omega arith in
    ap (word vs) at ∙ h (o + j) (omega arith) (omega (arith, low)) ∙ ap (word ws) (sym at)

-- ---- what stands there is sound

pub columns_fit : (records : List (List ℤ)) (x : ℕ) (rows : List PlacedRow) (aggregates : List Aggregate) (n : ℕ) (zs : List ℤ)
    → are_numbers n (map kind_of aggregates) zs ≡ true → AllRows (λ r. All (λ a. is_i64 (number_in records a r) ≡ true) aggregates) rows
    → are_numbers (n + rows_to x rows) (map kind_of aggregates) (columns_to records x rows aggregates zs) ≡ true
columns_fit records x [] aggregates n zs are fit =
    let none : n + 0 ≡ n = omega arith in
    let long : length zs ≡ length aggregates = length-numbers n (map kind_of aggregates) zs are ∙ length-map aggregates kind_of in
    (λ i. are_numbers (none i) (map kind_of aggregates) (columns_none records x aggregates zs long i)) ∙ are
columns_fit records x (r ∷ rs) aggregates n zs are fit = by_case (r.at == x) refl
    (columns_fit records x rs aggregates (n + 1) (merge_all (map kind_of aggregates) zs (map (λ a. number_in records a r) aggregates)) more later)
    (columns_fit records x rs aggregates n zs are later)
  where
    later : AllRows (λ s. All (λ a. is_i64 (number_in records a s) ≡ true) aggregates) rs
    later = λ j d low. fit (suc j) d (omega (arith, low))

    one : are_numbers 1 (map kind_of aggregates) (map (λ a. number_in records a r) aggregates) ≡ true
    one = one_numbers aggregates (get_or records r.row []) (fit 0 r (omega arith))

    more : are_numbers (n + 1) (map kind_of aggregates) (merge_all (map kind_of aggregates) zs (map (λ a. number_in records a r) aggregates)) ≡ true
    more = merged_numbers n 1 (map kind_of aggregates) zs (map (λ a. number_in records a r) aggregates) are one

    by_case : (b : Bool) → r.at == x ≡ b
        → are_numbers (n + 1 + rows_to x rs) (map kind_of aggregates)
        (columns_to records x rs aggregates (merge_all (map kind_of aggregates) zs (map (λ a. number_in records a r) aggregates))) ≡ true
        → are_numbers (n + rows_to x rs) (map kind_of aggregates) (columns_to records x rs aggregates zs) ≡ true
        → are_numbers (n + rows_to x (r ∷ rs)) (map kind_of aggregates) (columns_to records x (r ∷ rs) aggregates zs) ≡ true
    by_case true is here there =
        let next : n + (1 + rows_to x rs) ≡ n + 1 + rows_to x rs = omega arith in
        let count = ap (λ b. n + (if b then 1 + rows_to x rs else rows_to x rs)) is ∙ next in
        (λ i. are_numbers (count i) (map kind_of aggregates) (columns_here records x r rs aggregates zs is i)) ∙ here
    by_case false is here there =
        let count = ap (λ b. n + (if b then 1 + rows_to x rs else rows_to x rs)) is in
        (λ i. are_numbers (count i) (map kind_of aggregates) (columns_there records x r rs aggregates zs is i)) ∙ there
