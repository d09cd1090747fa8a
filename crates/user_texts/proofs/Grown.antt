-- Texts that are written one after the other.
use Rattle.std.proofs.Common.{◌≡◌, ℕ, List, ◌++◌, Option, Some, None, Result, Ok, Err, MatchResult, append_assoc, [], ap, sym, ◌∙◌}
use Rattle.std.proofs.lemmas.List.{append-nil}
use Rattle.std.specs.Io.KnownBytes.{Appends}
use Rattle.user_texts.specs.declared.writing.TextFault.{TextFault}
use Rattle.user_texts.specs.declared.writing.TextFault.TheVariants.{Write}

pub grown : (old mid new : Option (List ℕ)) (first then : List ℕ) → Appends old mid first → Appends mid new then → Appends old new (first ++ then)
grown None mid new first then a b = tt
grown (Some xs) None new first then a b = absurd a
grown (Some xs) (Some ys) None first then a b = absurd b
grown (Some xs) (Some ys) (Some zs) first then a b = b ∙ ap (λ w. w ++ then) a ∙ append_assoc xs first then

pub nothing_more : (old : Option (List ℕ)) → Appends old old []
nothing_more None = tt
nothing_more (Some xs) = sym (append-nil xs)

pub both_written : (old mid new : Option (List ℕ)) (first then : List ℕ) (r : Result (Unit {0}) TextFault) → Appends old mid first → MatchResult r (λ _. Appends mid new then) (λ fault. fault ≡ Write)
    → MatchResult r (λ _. Appends old new (first ++ then)) (λ fault. fault ≡ Write)
both_written old mid new first then (Ok x) a b = grown old mid new first then a b
both_written old mid new first then (Err fault) a b = b
