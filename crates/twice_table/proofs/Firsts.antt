-- The only place of a text, among texts of which none is one before it.
use Rattle.std.specs.Prelude.{bytes_eq, is_some, position, IfSome, IfNone, Option, Some, None}
use Rattle.std.proofs.Common.{◌≡◌, ◌∙◌, sym, ap, subst, refl, Bool, true, false, ℕ, zero, suc, ◌<◌, List, [], ◌∷◌, length, get_or, map, arith}
use Rattle.std.specs.List.{list_any, position_or_len}
use Rattle.std.proofs.lemmas.Bool.{lt-ltb}
use Rattle.std.proofs.lemmas.List.{get_or-map, length-map}
use Rattle.std.proofs.lemmas.List.Folds.{list_any_at}
use Rattle.std.proofs.lemmas.List.Sums.{position_or_len_is}
use Rattle.std.proofs.lemmas.Grind.{common_steps}
use Rattle.std.proofs.lemmas.Slice.Eq.{bytes_eq-Decides}
use Rattle.twice_table.specs.Texts.{AreOnce}

first_at : {X : Type 0} (test : X → Bool) (xs : List X) (i : ℕ) → i < length xs → position_or_len test xs ≡ i → position test xs ≡ Some i
first_at test xs i h e = rw (e, lt-ltb i (length xs) h) refl

none_at : {X : Type 0} (test : X → Bool) (xs : List X) → position_or_len test xs ≡ length xs → position test xs ≡ None
none_at test xs e = rw e (grind (arith, common_steps))

unless_true : (b : Bool) → (b ≡ true → b ≡ false) → b ≡ false
unless_true false h = refl
unless_true true h = h refl

none_any : (test : List ℕ → Bool) (texts : List (List ℕ)) → ((i : ℕ) → i < length texts → test (get_or texts i []) ≡ false) → list_any test texts ≡ false
none_any test [] h = refl
none_any test (text ∷ texts) h = rw (h zero (omega arith)) (none_any test texts (λ i k. h (suc i) (omega arith)))

pub found_first : (texts : List (List ℕ)) (text : List ℕ) (place : ℕ) → AreOnce texts → place < length texts → bytes_eq text (get_or texts place []) ≡ true
    → (Some place ≡ position (bytes_eq text) texts) × (true ≡ list_any (bytes_eq text) texts)
found_first texts text place once within same =
    let equal : text ≡ get_or texts place [] = (bytes_eq-Decides text (get_or texts place [])).0 same in
    let before = λ (k : ℕ) (h : k < place). subst (λ (t : List ℕ). bytes_eq t (get_or texts k []) ≡ false) (sym equal) (once k place h within) in
    let first = position_or_len_is (bytes_eq text) texts place [] (omega arith) before (λ h. same) in
    (sym (first_at (bytes_eq text) texts place within first), sym (list_any_at (bytes_eq text) texts place [] within same))

pub not_found : (texts : List (List ℕ)) (codes : List ℕ) (code_of : List ℕ → ℕ) (text : List ℕ) (code : ℕ) → codes ≡ map code_of texts → code ≡ code_of text
    → ((i : ℕ) → i < length codes → get_or codes i 0 ≡ code → bytes_eq text (get_or texts i []) ≡ false)
    → (None ≡ position (bytes_eq text) texts) × (false ≡ list_any (bytes_eq text) texts)
not_found texts codes code_of text code codes_are code_is none =
    let count : length codes ≡ length texts = ap length codes_are ∙ (rw length-map refl) in
    let other = λ (i : ℕ) (h : i < length texts). unless_true (bytes_eq text (get_or texts i [])) (λ same.
    let equal : text ≡ get_or texts i [] = (bytes_eq-Decides text (get_or texts i [])).0 same in
    none i (omega arith) (ap (λ (some : List ℕ). get_or some i 0) codes_are ∙ get_or-map code_of texts i [] 0 h ∙ ap code_of (sym equal) ∙ sym code_is)) in
    let first = position_or_len_is (bytes_eq text) texts (length texts) [] (omega arith) other (λ h. absurd (omega arith)) in
    (sym (none_at (bytes_eq text) texts first), sym (none_any (bytes_eq text) texts other))

-- so it is with what is found by the code of a text
pub found_is : (texts : List (List ℕ)) (codes : List ℕ) (code_of : List ℕ → ℕ) (text : List ℕ) (code : ℕ) (found : Option ℕ) → AreOnce texts → codes ≡ map code_of texts → code ≡ code_of text
    → IfSome found (λ place. (place < length codes) × (bytes_eq text (get_or texts place []) ≡ true))
    → IfNone found ((i : ℕ) → i < length codes → get_or codes i 0 ≡ code → bytes_eq text (get_or texts i []) ≡ false)
    → (found ≡ position (bytes_eq text) texts) × (is_some found ≡ list_any (bytes_eq text) texts)
found_is texts codes code_of text code (Some place) once codes_are code_is some none =
    let count : length codes ≡ length texts = ap length codes_are ∙ (rw length-map refl) in
    found_first texts text place once (omega (arith, some.0)) some.1
found_is texts codes code_of text code None once codes_are code_is some none = not_found texts codes code_of text code codes_are code_is none
