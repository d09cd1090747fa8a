-- The files that a text names, with pluses between.
use Rattle.std.specs.Prelude.{◌≡◌, ◌≢◌, ◌==◌, ◌<◌, ℕ, Bool, true, false, List, [], ◌∷◌, ◌++◌, map, length, bytes_eq, Option, Some, None, Result, Ok, Err, Vec, String, string_bytes, if◌then◌else◌}
use Rattle.std.specs.Borrow.{Bor}
use Rattle.std.specs.List.{slice_split}
use Rattle.std.specs.declared.alloc.Global.{Global}
use Rattle.import_words.specs.declared.files.Behind.{Behind}
use Rattle.import_words.specs.declared.files.Behind.TheVariants.{Nothing, Name, Plus}
use Rattle.import_words.specs.declared.refusal.ImportFault.{ImportFault}
use Rattle.import_words.specs.declared.refusal.ImportFault.TheVariants.{Memory}

-- a text before the first of names, if there is one
abbrev pub before : List ℕ → List (List ℕ) → List (List ℕ)
before front [] = []
before front (name ∷ names) = (front ++ name) ∷ names

-- the names in a text that stands behind a plus, or behind none: a plus begins the next name, and two stand for one in
-- a name
abbrev pub names_from : Bool → List ℕ → List (List ℕ)
names_from false [] = [] ∷ []
names_from true [] = [] ∷ [] ∷ []
names_from false (b ∷ text) = if b == 43 then names_from true text else before (b ∷ []) (names_from false text)
names_from true (b ∷ text) = if b == 43 then before (43 ∷ []) (names_from false text) else [] ∷ before (b ∷ []) (names_from false text)

-- the names in a text
abbrev pub names_in : List ℕ → List (List ℕ)
names_in text = names_from false text

-- the names of a text, or there was no memory for them
abbrev pub GivesNames : {A : Type 0} → List ℕ → Result (Vec (String Global) A) ImportFault → Type 0
GivesNames text (Ok names) = map string_bytes names.items ≡ names_in text
GivesNames text (Err fault) = fault ≡ Memory

-- the parts of a text, with commas between
abbrev pub parts : List ℕ → List (List ℕ)
parts text = slice_split (λ b. b == 44) text

-- the names in each part
abbrev pub lists_in : List ℕ → List (List (List ℕ))
lists_in text = map names_in (parts text)

-- the names in each part of a text, or there was no memory for them
abbrev pub ReadsLists : {A : Type 0} → List ℕ → Result (Vec (Vec (String Global) Global) A) ImportFault → Type 0
ReadsLists text (Ok lists) = map (λ list. map string_bytes list.items) lists.items ≡ lists_in text
ReadsLists text (Err fault) = fault ≡ Memory

-- what stands before the first plus, and behind it
abbrev pub IsNext : List ℕ → List ℕ → Behind → Type 0
IsNext text front Nothing = names_in text ≡ front ∷ []
IsNext text front (Name rest) = (names_in text ≡ front ∷ names_in rest.now) × (length rest.now < length text)
IsNext text front (Plus rest) = (names_in text ≡ before (front ++ 43 ∷ []) (names_in rest.now)) × (length rest.now < length text)

-- what of a text stands behind its front
abbrev pub Without : Option (Bor (List ℕ)) → List ℕ → Option (Bor (List ℕ)) → Type 0
Without (Some text) front (Some rest) = text.now ≡ front ++ rest.now
Without (Some text) front None = (rest : List ℕ) → text.now ≢ front ++ rest
Without None front (Some rest) = ⊥
Without None front None = Unit {0}

-- a text is left, and it is this one
abbrev pub is_left : Option (Bor (List ℕ)) → List ℕ → Bool
is_left None name = false
is_left (Some text) name = bytes_eq text.now name
