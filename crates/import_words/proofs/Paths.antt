-- Whether a path is among the names of a text, where the name so far has been compared.
use Rattle.std.proofs.Common.{◌≡◌, ◌≢◌, ◌++◌, ◌∙◌, ◌||◌, ◌==◌, append-nil, append_assoc, ℕ, Bool, true, false, List, [], ◌∷◌, ap, sym, subst, refl, rules, bytes_eq, Option, Some, None}
use Rattle.std.specs.Bool.{Decides}
use Rattle.std.proofs.lemmas.Slice.Eq.{bytes_eq-Decides}
use Rattle.std.specs.Borrow.{Bor}
use Rattle.std.specs.List.{list_any}
use Rattle.import_words.specs.Files.{before, Without, is_left}
use Rattle.plan_model.proofs.Facts.{or_false}

-- the first name is what is left, or a further one is the path
abbrev pub has_path : List ℕ → Option (Bor (List ℕ)) → List (List ℕ) → Bool
has_path path left [] = false
has_path path left (name ∷ names) = is_left left name || list_any (bytes_eq path) names

front_eq : (front xs ys : List ℕ) → bytes_eq (front ++ xs) (front ++ ys) ≡ bytes_eq xs ys
front_eq [] xs ys = refl
front_eq (x ∷ front) xs ys = let same : (x == x) ≡ true = search rules in rw same (front_eq front xs ys)

not_decided : {P : Type 0} (r : Bool) → Decides r P → (P → ⊥) → r ≡ false
not_decided true d none = absurd (none (d.0 refl))
not_decided false d none = refl

other_front : (text front ys : List ℕ) → ((rest : List ℕ) → text ≢ front ++ rest) → bytes_eq text (front ++ ys) ≡ false
other_front text front ys other = not_decided (bytes_eq text (front ++ ys)) (bytes_eq-Decides text (front ++ ys)) (other ys)

-- what is left behind a front is the name behind it
pub left_behind : (text : Option (Bor (List ℕ))) (front : List ℕ) (left : Option (Bor (List ℕ))) (name : List ℕ) → Without text front left → is_left text (front ++ name) ≡ is_left left name
left_behind (Some text) front (Some left) name h = subst (λ (t : List ℕ). bytes_eq t (front ++ name) ≡ bytes_eq left.now name) (sym h) (front_eq front left.now name)
left_behind (Some text) front None name h = other_front text.now front name h
left_behind None front (Some left) name h = absurd h
left_behind None front None name h = refl

at_front : (left : Option (Bor (List ℕ))) (front : List ℕ) (behind : Option (Bor (List ℕ))) → Without left front behind → is_left left front ≡ is_left behind []
at_front left front behind h = subst (λ (name : List ℕ). is_left left name ≡ is_left behind []) (append-nil front) (left_behind left front behind [] h)

pub path_left : (path : Bor (List ℕ)) (names : List (List ℕ)) → has_path path.now (Some path) names ≡ list_any (bytes_eq path.now) names
path_left path [] = refl
path_left path (name ∷ names) = refl

pub at_name : (path : List ℕ) (left behind : Option (Bor (List ℕ))) (front : List ℕ) (all names : List (List ℕ)) → all ≡ front ∷ names → Without left front behind
    → has_path path left all ≡ (is_left behind [] || list_any (bytes_eq path) names)
at_name path left behind front all names is h = rw is (ap (λ (b : Bool). b || list_any (bytes_eq path) names) (at_front left front behind h))

pub at_end : (path : List ℕ) (left behind : Option (Bor (List ℕ))) (front : List ℕ) (all : List (List ℕ)) → all ≡ front ∷ [] → Without left front behind → has_path path left all ≡ is_left behind []
at_end path left behind front all is h = rw is (or_false (is_left left front) ∙ at_front left front behind h)

pub at_plus : (path : List ℕ) (left behind last : Option (Bor (List ℕ))) (front : List ℕ) (all names : List (List ℕ)) → all ≡ before (front ++ (43 ∷ [])) names → Without left front behind → Without behind (43 ∷ []) last
    → has_path path left all ≡ has_path path last names
at_plus path left behind last front all [] is h h' = rw is refl
at_plus path left behind last front all (name ∷ names) is h h' =
    let name_is : is_left left ((front ++ (43 ∷ [])) ++ name) ≡ is_left last name = ap (is_left left) (append_assoc front (43 ∷ []) name) ∙ left_behind left front behind (43 ∷ name) h ∙ left_behind behind (43 ∷ []) last name h' in
    rw is (ap (λ (b : Bool). b || list_any (bytes_eq path) names) name_is)
