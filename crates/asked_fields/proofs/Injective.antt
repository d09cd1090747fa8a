-- Texts that are the same when they are put together are the same.
use Rattle.std.proofs.Common.{◌≡◌, ◌≢◌, ◌==◌, ◌||◌, ◌++◌, ◌∙◌, ℕ, Bool, true, false, List, [], ◌∷◌, length, drop, ap, sym, refl, arith, append_assoc}
use mathlib.Core.Logic.{⊎_elim}
use Rattle.std.proofs.lemmas.Bool.{cases_Bool}
use Rattle.std.proofs.lemmas.Bool.Decides.{nat_tests}
use Rattle.std.specs.List.{flat_map}
use Rattle.asked_fields.specs.Joined.{byte_of, escaped_byte, joint_text, joined}
use Rattle.asked_fields.specs.declared.joint.Joint.{Joint}
use Rattle.asked_fields.specs.declared.joint.Joint.TheVariants.{Plus, Times}

-- what stands behind a text: nothing, or a joint
abbrev Ends : ℕ → List ℕ → Type 0
Ends joint [] = Unit {0}
Ends joint (b ∷ rest) = b ≡ joint

abbrev is_marked : ℕ → ℕ → Bool
is_marked joint b = (b == joint) || (b == 92)

marked : (joint b : ℕ) (more rest : List ℕ) → is_marked joint b ≡ true → (escaped_byte joint b ++ more) ++ rest ≡ 92 ∷ b ∷ (more ++ rest)
marked joint b more rest is = rw is refl

plain : (joint b : ℕ) (more rest : List ℕ) → is_marked joint b ≡ false → (escaped_byte joint b ++ more) ++ rest ≡ b ∷ (more ++ rest)
plain joint b more rest is = rw is refl

heads : (a b : ℕ) (xs ys : List ℕ) → a ∷ xs ≡ b ∷ ys → (a ≡ b) × (xs ≡ ys)
heads a b xs ys is = grind (arith, is)

no_text : (joint b : ℕ) (more rest end : List ℕ) → joint ≢ 92 → Ends joint end → end ≡ (escaped_byte joint b ++ more) ++ rest → ⊥
no_text joint b more rest [] other ends is = ⊎_elim
    (λ e. grind (arith, is ∙ marked joint b more rest e))
    (λ e. grind (arith, is ∙ plain joint b more rest e))
    (cases_Bool (is_marked joint b))
no_text joint b more rest (c ∷ end) other ends is = ⊎_elim
    (λ e. let first = heads c 92 end _ (is ∙ marked joint b more rest e) in other (sym ends ∙ first.0))
    (λ e. let first = heads c b end _ (is ∙ plain joint b more rest e) in grind (arith, nat_tests, e, ends, first.0))
    (cases_Bool (is_marked joint b))

cut : (joint : ℕ) (xs ys r s : List ℕ) → joint ≢ 92 → Ends joint r → Ends joint s
    → flat_map (escaped_byte joint) xs ++ r ≡ flat_map (escaped_byte joint) ys ++ s → (xs ≡ ys) × (r ≡ s)
cut joint [] [] r s other e f is = (refl, is)
cut joint [] (y ∷ ys) r s other e f is = absurd (no_text joint y (flat_map (escaped_byte joint) ys) s r other e is)
cut joint (x ∷ xs) [] r s other e f is = absurd (no_text joint x (flat_map (escaped_byte joint) xs) r s other f (sym is))
cut joint (x ∷ xs) (y ∷ ys) r s other e f is =
    let a = flat_map (escaped_byte joint) xs in
    let b = flat_map (escaped_byte joint) ys in
    ⊎_elim
    (λ p. ⊎_elim
    (λ q.
    let both = heads 92 92 _ _ (sym (marked joint x a r p) ∙ is ∙ marked joint y b s q) in
    let next = heads x y _ _ both.1 in
    let rest = cut joint xs ys r s other e f next.1 in
    (ap (λ (c : ℕ). c ∷ xs) next.0 ∙ ap (λ (l : List ℕ). y ∷ l) rest.0, rest.1))
    (λ q. let next = heads 92 y _ _ (sym (marked joint x a r p) ∙ is ∙ plain joint y b s q) in grind (arith, nat_tests, q, next.0))
    (cases_Bool (is_marked joint y)))
    (λ p. ⊎_elim
    (λ q. let next = heads x 92 _ _ (sym (plain joint x a r p) ∙ is ∙ marked joint y b s q) in grind (arith, nat_tests, p, next.0))
    (λ q.
    let next = heads x y _ _ (sym (plain joint x a r p) ∙ is ∙ plain joint y b s q) in
    let rest = cut joint xs ys r s other e f next.1 in
    (ap (λ (c : ℕ). c ∷ xs) next.0 ∙ ap (λ (l : List ℕ). y ∷ l) rest.0, rest.1))
    (cases_Bool (is_marked joint y)))
    (cases_Bool (is_marked joint x))

ends_all : (joint : ℕ) (texts : List (List ℕ)) → Ends joint (flat_map (joint_text joint) texts)
ends_all joint [] = tt
ends_all joint (text ∷ texts) = refl

all_same : (joint : ℕ) (xs ys : List (List ℕ)) → joint ≢ 92 → flat_map (joint_text joint) xs ≡ flat_map (joint_text joint) ys → xs ≡ ys
all_same joint [] [] other is = refl
all_same joint [] (y ∷ ys) other is = grind (arith, is)
all_same joint (x ∷ xs) [] other is = grind (arith, is)
all_same joint (x ∷ xs) (y ∷ ys) other is =
    let first = cut joint x y (flat_map (joint_text joint) xs) (flat_map (joint_text joint) ys) other (ends_all joint xs) (ends_all joint ys) (heads joint joint _ _ is).1 in
    ap (λ (text : List ℕ). text ∷ xs) first.0 ∙ ap (λ (texts : List (List ℕ)). y ∷ texts) (all_same joint xs ys other first.1)

no_backslash : (joint : Joint) → byte_of joint ≢ 92
no_backslash Plus = λ is. grind (arith, is)
no_backslash Times = λ is. grind (arith, is)

-- two lists of texts are the same together just where all texts are the same
pub same_texts : (joint : Joint) (x y : List ℕ) (xs ys : List (List ℕ)) → joined (byte_of joint) (x ∷ xs) ≡ joined (byte_of joint) (y ∷ ys) → x ∷ xs ≡ y ∷ ys
same_texts joint x y xs ys is = all_same (byte_of joint) (x ∷ xs) (y ∷ ys) (no_backslash joint) (ap (λ (text : List ℕ). byte_of joint ∷ text) is)
