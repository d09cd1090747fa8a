-- Entries whose numbers stand in one list.
use Rattle.std.proofs.Common.{◌≡◌, ℕ, ℤ, zero, suc, ◌+◌, ◌*◌, ◌<◌, ◌≤◌, List, [], ◌∷◌, ◌++◌, length, take, drop, slice_get, Some, refl, sym, ap, subst, ◌∙◌, arith, length-append, length-drop}
use Rattle.std.specs.List.{All}
use Rattle.std.proofs.Math.Nat.{mul-suc, suc-mul, mul_comm}
use Rattle.std.proofs.lemmas.List.Elements.{All-nil, All-cons, All-head}
use Rattle.std.proofs.lemmas.Nat.{mul-le}
use Rattle.std.proofs.lemmas.List.{take_all, take-append-le, drop-append-le, drop-drop, nil_from_length, length-take-le}
use Rattle.savepoint_codec.specs.declared.entries.Head.{Head}
use Rattle.savepoint_codec.specs.EntriesData.{EntryData}
use Rattle.savepoint_codec.specs.EntriesView.{entry_of, entries_of}

some_is : {X : Type 0} {x y : X} → Some x ≡ Some y → x ≡ y
some_is e = cc

pub length-entries_of : (width : ℕ) (heads : List Head) (numbers : List ℤ) → length (entries_of width heads numbers) ≡ length heads
length-entries_of width [] numbers = refl
length-entries_of width (head ∷ heads) numbers = ap suc (length-entries_of width heads (drop width numbers))

pub entries_of-concat : (width : ℕ) (heads more : List Head) (numbers others : List ℤ) → length numbers ≡ width * length heads
    → entries_of width (heads ++ more) (numbers ++ others) ≡ entries_of width heads numbers ++ entries_of width more others
entries_of-concat width [] more numbers others long =
    let none : numbers ≡ [] = nil_from_length numbers (omega arith) in
    rw none refl
entries_of-concat width (first ∷ heads) more numbers others long =
    let long' : length numbers ≡ width * length heads + width = long ∙ mul-suc width (length heads) in
    let within : width ≤ length numbers = omega arith in
    let rest : length (drop width numbers) ≡ width * length heads = omega (arith, length-drop width numbers) in
    rw (take-append-le width numbers others within, drop-append-le width numbers others within)
    (ap (λ (es : List EntryData). entry_of first (take width numbers) ∷ es) (entries_of-concat width heads more (drop width numbers) others rest))

pub entries_of-append : (width : ℕ) (heads : List Head) (numbers : List ℤ) (head : Head) (more : List ℤ) → length numbers ≡ width * length heads → length more ≡ width
    → entries_of width (heads ++ head ∷ []) (numbers ++ more) ≡ entries_of width heads numbers ++ entry_of head more ∷ []
entries_of-append width heads numbers head more long same =
    entries_of-concat width heads (head ∷ []) numbers more long
    ∙ ap (λ (ns : List ℤ). entries_of width heads numbers ++ entry_of head ns ∷ []) (take_all width more (omega arith))

abbrev pub HasNumbers : ℕ → EntryData → Type 0
HasNumbers width e = length e.total.numbers ≡ width

-- each entry has as many numbers as the others
pub each_is_wide : (width : ℕ) (heads : List Head) (numbers : List ℤ) → length numbers ≡ width * length heads → All (HasNumbers width) (entries_of width heads numbers)
each_is_wide width [] numbers long = All-nil (HasNumbers width)
each_is_wide width (first ∷ heads) numbers long =
    let long' : length numbers ≡ width * length heads + width = long ∙ mul-suc width (length heads) in
    let rest : length (drop width numbers) ≡ width * length heads = omega (arith, length-drop width numbers) in
    let one : length (take width numbers) ≡ width = length-take-le width numbers (omega arith) in
    All-cons (HasNumbers width) (entry_of first (take width numbers)) (entries_of width heads (drop width numbers)) one (each_is_wide width heads (drop width numbers) rest)

-- entries that have so many numbers each, whatever is said of their width
pub width_of : (width own : ℕ) (heads : List Head) (numbers : List ℤ) → length numbers ≡ own * length heads → All (HasNumbers width) (entries_of own heads numbers)
    → (length numbers ≡ width * length heads) × (entries_of own heads numbers ≡ entries_of width heads numbers)
width_of width own [] numbers long each = (omega arith, refl)
width_of width own (first ∷ heads) numbers long each =
    let long' : length numbers ≡ own * length heads + own = long ∙ mul-suc own (length heads) in
    let is : length (take own numbers) ≡ width = All-head (HasNumbers width) (entry_of first (take own numbers)) (entries_of own heads (drop own numbers)) each in
    let same : own ≡ width = sym (length-take-le own numbers (omega arith)) ∙ is in
    (subst (λ (w : ℕ). length numbers ≡ w * suc (length heads)) same long, ap (λ (w : ℕ). entries_of w (first ∷ heads) numbers) same)

pub entries_of-get : (width : ℕ) (heads : List Head) (numbers : List ℤ) (i : ℕ) (head : Head) → slice_get heads i ≡ Some head
    → slice_get (entries_of width heads numbers) i ≡ Some (entry_of head (take width (drop (i * width) numbers)))
entries_of-get width [] numbers i head h = absurd cc
entries_of-get width (first ∷ heads) numbers zero head h =
    let same : first ≡ head = some_is h in
    let start : 0 * width ≡ 0 = omega arith in
    rw start (ap (λ (x : Head). Some (entry_of x (take width numbers))) same)
entries_of-get width (first ∷ heads) numbers (suc i) head h =
    let rest = entries_of-get width heads (drop width numbers) i head h in
    rest ∙ ap (λ (ns : List ℤ). Some (entry_of head (take width ns))) (drop-drop (i * width) width numbers ∙ ap (λ (k : ℕ). drop k numbers) (omega (arith, suc-mul i width)))

mul-sum : (width a b : ℕ) → width * (a + b) ≡ width * a + width * b
mul-sum width zero b =
    let none : zero + b ≡ b = omega arith in
    let start : width * zero ≡ zero = omega arith in
    rw (none, start) (omega arith)
mul-sum width (suc a) b =
    let one : suc a + b ≡ suc (a + b) = omega arith in
    rw one (omega (arith, mul-sum width a b, mul-suc width a, mul-suc width (a + b)))

pub widths_add : (width : ℕ) (heads more all : List Head) (numbers others together : List ℤ) → all ≡ heads ++ more → together ≡ numbers ++ others → length numbers ≡ width * length heads
    → length others ≡ width * length more → length together ≡ width * length all
widths_add width heads more all numbers others together is_all is_together long short =
    let heads_are : length all ≡ length heads + length more = ap (length {A = Head}) is_all ∙ length-append heads more in
    let numbers_are : length together ≡ length numbers + length others = ap (length {A = ℤ}) is_together ∙ length-append numbers others in
    rw heads_are (omega (arith, mul-sum width (length heads) (length more)))

-- the numbers of entry i are within those of n entries
pub is_within : (width i n all : ℕ) → i < n → all ≡ width * n → i * width + width ≤ all
is_within width i n all lt is =
    let most : suc i * width ≤ n * width = mul-le (suc i) width n width (omega arith) (omega arith) in
    omega (arith, suc-mul i width, mul_comm width n)
