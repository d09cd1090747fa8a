-- The words of places: those of a place are its count, and the number of each aggregate, a sum in two words.
use Rattle.std.specs.Prelude.{◌≡◌, ℕ, ℤ, pos, negsuc, ◌+◌, ◌^◌, ◌≤◌, ◌<◌, ◌+ℤ◌, ◌*ℤ◌, length, List, [], ◌∷◌, slice_index_or}
use Rattle.plan_model.specs.declared.spec.Pane.{Pane}
use Rattle.aggregates.specs.declared.kind.Kind.{Kind}
use Rattle.aggregates.specs.declared.kind.Kind.TheVariants.{Count, Sum, Least, Greatest}
use Rattle.aggregates.specs.Kinds.{AccData}

-- how many words the number of an aggregate has: the number of a `count` is the place's count
abbrev pub width_of : Kind → ℕ
width_of Count = 0
width_of Sum = 2
width_of Least = 1
width_of Greatest = 1

abbrev pub width : List Kind → ℕ
width [] = 0
width (k ∷ ks) = width_of k + width ks

-- how many words a place has
abbrev pub stride : List Kind → ℕ
stride ks = 1 + width ks

abbrev pub word : List ℤ → ℕ → ℤ
word ws x = slice_index_or ws x (pos 0)

-- the sum that two words are
abbrev pub sum_of : ℤ → ℤ → ℤ
sum_of high low = high *ℤ pos (2 ^ 63) +ℤ low

-- the number of an aggregate whose words begin at x, of so many records
abbrev pub number_at : ℕ → Kind → List ℤ → ℕ → ℤ
number_at count Count ws x = pos count
number_at count Sum ws x = sum_of (word ws x) (word ws (x + 1))
number_at count Least ws x = word ws x
number_at count Greatest ws x = word ws x

abbrev pub numbers_at : ℕ → List Kind → List ℤ → ℕ → List ℤ
numbers_at count [] ws x = []
numbers_at count (k ∷ ks) ws x = number_at count k ws x ∷ numbers_at count ks ws (x + width_of k)

-- the count that a word is
abbrev pub count_of : ℤ → ℕ
count_of (pos n) = n
count_of (negsuc n) = 0

-- what stands in the place whose words begin at x
abbrev pub acc_in : List Kind → List ℤ → ℕ → AccData
acc_in ks ws x = record { kinds = ks; total = record { count = count_of (word ws x); numbers = numbers_at (count_of (word ws x)) ks ws (x + 1) } }

-- panes with what stands in each, in places one after the other from x on
abbrev pub entries_in : List Kind → List ℤ → ℕ → List Pane → List (Pane × AccData)
entries_in ks ws x [] = []
entries_in ks ws x (p ∷ ps) = (p, acc_in ks ws x) ∷ entries_in ks ws (x + stride ks) ps

-- only words from x up to y are written
pub record IsWritten (x y : ℕ) (old new : List ℤ) : Type 0 where
  pub len : length new ≡ length old
  pub below : (k : ℕ) → k < x → word new k ≡ word old k
  pub above : (k : ℕ) → y ≤ k → word new k ≡ word old k
