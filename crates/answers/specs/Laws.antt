-- The laws of what is answered, of texts and faults that are lists of numbers and numbers.
use Rattle.std.specs.Prelude.{◌≡◌, ◌↔◌, ℕ, Bool, true, false, List, ◌∷◌, ◌++◌, Option, Some, None, MatchOption, Result, Ok, Err, MatchResult}
use Rattle.std.specs.List.{AllByRecursion}
use Rattle.answers.specs.Answer.{Gives, otherwise, first_unmet, value_or_fault}

-- the fault that a requirement finds in a text, if any
abbrev pub Requirement : Type 0
Requirement = List ℕ → Option ℕ

-- the text meets each of the requirements
abbrev pub AreMet : List Requirement → List ℕ → Type 0
AreMet requirements text = AllByRecursion (λ requirement. requirement text ≡ None) requirements

-- the fault is that of a requirement which the text does not meet, and it meets each before that one
pub record IsFirstUnmet (requirements : List Requirement) (text : List ℕ) (fault : ℕ) : Type 0 where
  pub before : List Requirement
  pub unmet : Requirement
  pub behind : List Requirement
  pub split : requirements ≡ before ++ unmet ∷ behind
  pub met : AreMet before text
  pub is : unmet text ≡ Some fault

-- a text that passes the test has no fault, and any other has this one
abbrev pub OtherwiseIsTheTest : Type 0
OtherwiseIsTheTest = (fault : ℕ) (test : List ℕ → Bool) (text : List ℕ)
    → (test text ≡ true → otherwise fault test text ≡ None) × (test text ≡ false → otherwise fault test text ≡ Some fault)

-- there is no fault where the text meets all requirements, and else that of the first which it does not meet
abbrev pub FirstUnmetIsFirst : Type 0
FirstUnmetIsFirst = (requirements : List Requirement) (text : List ℕ) → MatchOption (first_unmet requirements text) (AreMet requirements text) (IsFirstUnmet requirements text)

-- a value is the text's own, and it meets all requirements; a fault is that of the first which it does not meet
abbrev pub ValuesMeetAll : Type 0
ValuesMeetAll = (requirements : List Requirement) (value_of : List ℕ → ℕ) (text : List ℕ)
    → MatchResult (value_or_fault requirements value_of text) (λ value. (value ≡ value_of text) × AreMet requirements text) (IsFirstUnmet requirements text)

-- to give an answer is to say its value as it is seen, or its fault, unless memory ran out: then anything may be said
abbrev pub FailuresTellTheFault : Type 0
FailuresTellTheFault = (is_memory : ℕ → Bool) (view : ℕ → ℕ) (answer said : Result ℕ ℕ)
    → Gives is_memory view answer said ↔ MatchResult answer (λ value. said ≡ Ok (view value)) (λ fault. is_memory fault ≡ false → said ≡ Err fault)
