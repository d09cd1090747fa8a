-- The names in a text, part by part.
use Rattle.std.proofs.Common.{◌≡◌, ◌≢◌, ◌==◌, ◌<◌, ◌++◌, ◌∙◌, ℕ, suc, true, false, List, [], ◌∷◌, length, get_or, ap, sym, subst, refl, append_assoc, append-nil, length-append, arith}
use Rattle.import_words.specs.Files.{before, names_from, names_in}

pub before_nil : (names : List (List ℕ)) → before [] names ≡ names
before_nil [] = refl
before_nil (name ∷ names) = refl

pub before_twice : (xs ys : List ℕ) (names : List (List ℕ)) → before xs (before ys names) ≡ before (xs ++ ys) names
before_twice xs ys [] = refl
before_twice xs ys (name ∷ names) = ap (λ (n : List ℕ). n ∷ names) (sym (append_assoc xs ys name))

-- a text that has no plus is the front of the first name
pub front_names : (front text : List ℕ) → ((i : ℕ) → i < length front → get_or front i 0 ≢ 43) → names_in (front ++ text) ≡ before front (names_in text)
front_names [] text none = sym (before_nil (names_in text))
front_names (b ∷ front) text none =
    let other : (b == 43) ≡ false = grind (arith, none 0) in
    let rest : names_in (front ++ text) ≡ before front (names_in text) = front_names front text (λ i h. none (suc i) (omega arith)) in
    rw other (ap (before (b ∷ [])) rest ∙ before_twice (b ∷ []) front (names_in text))

-- one plus begins the next name
pub one_plus : (text : List ℕ) → ((rest : List ℕ) → text ≢ 43 ∷ rest) → names_from true text ≡ [] ∷ names_in text
one_plus [] other = refl
one_plus (b ∷ text) other =
    let is_other : (b == 43) ≡ false = grind (arith, other text) in
    rw is_other refl

-- what is said of the part before the first plus
pub without_plus : (text : List ℕ) → ((i : ℕ) → i < length text → get_or text i 0 ≢ 43) → names_in text ≡ text ∷ []
without_plus text none = subst (λ (all : List ℕ). names_in all ≡ text ∷ []) (append-nil text) (front_names text [] none ∙ ap (λ (name : List ℕ). name ∷ []) (append-nil text))

pub before_one_plus : (text front behind : List ℕ) → text ≡ front ++ (43 ∷ behind) → ((i : ℕ) → i < length front → get_or front i 0 ≢ 43) → ((rest : List ℕ) → behind ≢ 43 ∷ rest)
    → (names_in text ≡ front ∷ names_in behind) × (length behind < length text)
before_one_plus text front behind is none other =
    let names : names_in (front ++ (43 ∷ behind)) ≡ front ∷ names_in behind = front_names front (43 ∷ behind) none ∙ ap (before front) (one_plus behind other) ∙ ap (λ (name : List ℕ). name ∷ names_in behind) (append-nil front) in
    (subst (λ (all : List ℕ). names_in all ≡ front ∷ names_in behind) (sym is) names, rw is (grind (arith, length-append)))

pub before_two_pluses : (text front behind rest : List ℕ) → text ≡ front ++ (43 ∷ behind) → ((i : ℕ) → i < length front → get_or front i 0 ≢ 43) → behind ≡ 43 ∷ rest
    → (names_in text ≡ before (front ++ (43 ∷ [])) (names_in rest)) × (length rest < length text)
before_two_pluses text front behind rest is none two =
    let all : text ≡ front ++ (43 ∷ 43 ∷ rest) = is ∙ ap (λ (b : List ℕ). front ++ (43 ∷ b)) two in
    let names : names_in (front ++ (43 ∷ 43 ∷ rest)) ≡ before (front ++ (43 ∷ [])) (names_in rest) = front_names front (43 ∷ 43 ∷ rest) none ∙ before_twice front (43 ∷ []) (names_in rest) in
    (subst (λ (t : List ℕ). names_in t ≡ before (front ++ (43 ∷ [])) (names_in rest)) (sym all) names, rw all (grind (arith, length-append)))

-- a name is pushed, and the next begins
pub pushed : (names : List (List ℕ)) (name front : List ℕ) (more : List (List ℕ)) → names ++ before name (front ∷ more) ≡ (names ++ (name ++ front) ∷ []) ++ before [] more
pushed names name front more = sym (append_assoc names ((name ++ front) ∷ []) (before [] more) ∙ ap (λ (ns : List (List ℕ)). names ++ (name ++ front) ∷ ns) (before_nil more))

pub named : (all old new rest more : List (List ℕ)) (name front last begun : List ℕ) → all ≡ old ++ before name rest → rest ≡ front ∷ more → last ≡ name ++ front → new ≡ old ++ last ∷ [] → begun ≡ [] → all ≡ new ++ before begun more
named all old new rest more name front last begun was next is put empty =
    was ∙ ap (λ (r : List (List ℕ)). old ++ before name r) next
    ∙ pushed old name front more
    ∙ ap (λ (x : List ℕ). (old ++ x ∷ []) ++ before [] more) (sym is)
    ∙ ap (λ (ns : List (List ℕ)). ns ++ before [] more) (sym put)
    ∙ ap (λ (x : List ℕ). new ++ before x more) (sym empty)
