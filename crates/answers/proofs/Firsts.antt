-- The laws of what is answered.
use Rattle.std.proofs.Common.{◌≡◌, ℕ, Bool, true, false, cond, List, [], ◌∷◌, Option, Some, None, Result, Ok, Err, MatchOption, MatchResult, refl, ap}
use Rattle.std.specs.Option.{option_or, option_map_or}
use Rattle.answers.specs.Answer.{unless, first_unmet}
use Rattle.answers.specs.Laws.{Requirement, AreMet, IsFirstUnmet, OtherwiseIsTheTest, FirstUnmetIsFirst, ValuesMeetAll, FailuresTellTheFault}

by_test : (fault : ℕ) (passes : Bool) → (passes ≡ true → cond passes None (Some fault) ≡ None) × (passes ≡ false → cond passes None (Some fault) ≡ Some fault)
by_test fault true = ((λ h. refl), (λ h. absurd cc))
by_test fault false = ((λ h. absurd cc), (λ h. refl))

pub otherwise_is_the_test : OtherwiseIsTheTest
otherwise_is_the_test fault test text = by_test fault (test text)

-- one more requirement in front
in_front : (requirement : Requirement) (rest : List Requirement) (text : List ℕ) (first then : Option ℕ) → requirement text ≡ first → MatchOption then (AreMet rest text) (IsFirstUnmet rest text)
    → MatchOption (option_or first then) (AreMet (requirement ∷ rest) text) (IsFirstUnmet (requirement ∷ rest) text)
in_front requirement rest text (Some fault) then e h = record { before = []; unmet = requirement; behind = rest; split = refl; met = tt; is = e }
in_front requirement rest text None None e h = (e, h)
in_front requirement rest text None (Some fault) e h =
    record { before = requirement ∷ h.before; unmet = h.unmet; behind = h.behind; split = ap (λ (them : List Requirement). requirement ∷ them) h.split; met = (e, h.met); is = h.is }

pub first_unmet_is_first : FirstUnmetIsFirst
first_unmet_is_first [] text = tt
first_unmet_is_first (requirement ∷ rest) text = in_front requirement rest text (requirement text) (first_unmet rest text) refl (first_unmet_is_first rest text)

with_value : (requirements : List Requirement) (text : List ℕ) (value : ℕ) (first : Option ℕ) → MatchOption first (AreMet requirements text) (IsFirstUnmet requirements text)
    → MatchResult (option_map_or Err first (Ok value)) (λ it. (it ≡ value) × AreMet requirements text) (IsFirstUnmet requirements text)
with_value requirements text value None h = (refl, h)
with_value requirements text value (Some fault) h = h

pub values_meet_all : ValuesMeetAll
values_meet_all requirements value_of text = with_value requirements text (value_of text) (first_unmet requirements text) (first_unmet_is_first requirements text)

told : (fault : ℕ) (said : Result ℕ ℕ) (wants : Bool) → unless wants (said ≡ Err fault) → wants ≡ false → said ≡ Err fault
told fault said true h none = absurd cc
told fault said false h none = h

untold : (fault : ℕ) (said : Result ℕ ℕ) (wants : Bool) → (wants ≡ false → said ≡ Err fault) → unless wants (said ≡ Err fault)
untold fault said true h = tt
untold fault said false h = h refl

pub failures_tell_the_fault : FailuresTellTheFault
failures_tell_the_fault is_memory view (Ok value) said = (λ h. h, λ h. h)
failures_tell_the_fault is_memory view (Err fault) said = (told fault said (is_memory fault), untold fault said (is_memory fault))
