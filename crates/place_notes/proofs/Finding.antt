-- What holds of each part holds of the one that is found by its name.
use Rattle.std.proofs.Common.{◌≡◌, ℕ, List, [], ◌∷◌, All, Bool, true, Option, Some, None, IfSome, reverse, inl, inr, refl, subst, sym}
use mathlib.Core.List.{reverse-cons}
use Rattle.std.proofs.lemmas.Bool.{cases_Bool}
use Rattle.std.proofs.lemmas.List.Elements.{All-nil, All-head, All-tail, All-push}
use Rattle.std.specs.List.{find}
use Rattle.std.specs.Str.{bytes_eq}
use Rattle.byte_fields.proofs.Exact.{same_bytes}
use Rattle.text_places.specs.declared.part.Part.{Part}
use Rattle.text_places.specs.declared.part.Placed.{Placed}
use Rattle.text_places.specs.Parts.{IsPartOf}
use Rattle.place_notes.specs.Values.{IsMember}

found_in : {X : Type 0} (P : X → Type 0) (test : X → Bool) (xs : List X) → All P xs → IfSome (find test xs) (λ x. P x × (test x ≡ true))
found_in P test [] all = tt
found_in {X} P test (x ∷ xs) all = elim (cases_Bool (test x)) as (λ _. IfSome (find test (x ∷ xs)) (λ y. P y × (test y ≡ true))) [
  | inl e ↦ rw e (All-head P x xs all, e)
  | inr e ↦ rw e (found_in P test xs (All-tail P x xs all))
]

All-reverse : {X : Type 0} (P : X → Type 0) (xs : List X) → All P xs → All P (reverse xs)
All-reverse P [] all = All-nil P
All-reverse P (x ∷ xs) all = rw (reverse-cons x xs) (All-push P (reverse xs) x (All-reverse P xs (All-tail P x xs all)) (All-head P x xs all))

-- a part that is found by its name among those of an object is a member of it
pub is_member : (object : Placed) (name : List ℕ) (parts : List Part) → All (IsPartOf object.spots.now) parts → (found : Option Part) → found ≡ find (λ p. bytes_eq p.name.now name) (reverse parts) → IfSome found (λ p. IsMember object name p.value)
is_member object name parts all None is = tt
is_member object name parts all (Some p) is =
    let Here : Part → Type 0 = λ q. IsPartOf object.spots.now q × (bytes_eq q.name.now name ≡ true) in
    let here : IfSome (Some p) Here = subst (λ o. IfSome o Here) (sym is) (found_in (IsPartOf object.spots.now) (λ q. bytes_eq q.name.now name) (reverse parts) (All-reverse (IsPartOf object.spots.now) parts all)) in
    (p, here.0, same_bytes p.name.now name here.1, refl)
