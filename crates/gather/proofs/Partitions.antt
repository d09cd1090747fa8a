-- What is found of a partition in lists that follow one another.
use Rattle.std.proofs.Common.{◌≡◌, ℕ, zero, suc, ◌+◌, ◌<◌, ◌≤◌, Bool, true, ◌||◌, List, [], ◌∷◌, sym, ap, ◌∙◌, inl, inr, arith}
use Rattle.std.specs.Prelude.{Some, if◌then◌else◌, ◌==◌}
use Rattle.std.specs.List.{All, find, flat_map, list_any, range_with_len}
use Rattle.std.specs.Option.{option_map_or}
use Rattle.std.proofs.lemmas.Bool.{cases_Bool, cases_eq, eqb-true}
use Rattle.std.proofs.lemmas.List.Elements.{All-append, All-nil}
use Rattle.std.proofs.lemmas.List.Folds.{list_any-append}
use Rattle.savepoint_codec.specs.declared.savepoint.SavedPartition.{SavedPartition}
use Rattle.redistribute.specs.Parts.{at_first}
use Rattle.redistribute.specs.declared.task_start.PartitionStart.{PartitionStart}
use Rattle.gather.specs.Parts.{partition_in, saved_start}
use Rattle.gather.proofs.Spelled.{or_true}

pub any_from : {X : Type 0} (test : X → Bool) (f : ℕ → List X) (a n t : ℕ) → a ≤ t → t < a + n → list_any test (f t) ≡ true → list_any test (flat_map f (range_with_len a n)) ≡ true
any_from test f a zero t l m h = absurd (omega (arith, l, m))
any_from test f a (suc n) t l m h =
    list_any-append test (f a) (flat_map f (range_with_len (a + 1) n))
    ∙ elim (cases_eq t a) [
      | inl e ↦ ap (λ b. b || list_any test (flat_map f (range_with_len (a + 1) n))) (ap (λ y. list_any test (f y)) (sym e) ∙ h)
      | inr ne ↦ or_true (list_any test (f a)) _ (any_from test f (a + 1) n t (omega (arith, l, ne)) (omega (arith, m)) h)
    ]

pub all_from : {X : Type 0} (P : X → Type 0) (f : ℕ → List X) (a n : ℕ) → ((t : ℕ) → a ≤ t → t < a + n → All P (f t)) → All P (flat_map f (range_with_len a n))
all_from P f a zero h = All-nil P
all_from P f a (suc n) h = All-append P (f a) (flat_map f (range_with_len (a + 1) n)) (h a (omega arith) (omega arith)) (all_from P f (a + 1) n (λ t l m. h t (omega (arith, l)) (omega (arith, m))))

-- where each partition of a list is as wanted, so is the one that is found
pub found_good : (want : ℕ → SavedPartition) (k : ℕ) (xs : List PartitionStart) → All (λ b. saved_start b ≡ want b.partition) xs → list_any (λ b. b.partition == k) xs ≡ true → partition_in xs k ≡ want k
found_good want k [] h some = absurd cc
found_good want k (b ∷ bs) h some =
    elim (cases_Bool (b.partition == k)) [
      | inl e ↦ ap (λ t. option_map_or saved_start (if t then Some b else find (λ x. x.partition == k) bs) at_first) e ∙ h 0 b (omega arith) ∙ ap want (eqb-true b.partition k e)
      | inr e ↦
          ap (λ t. option_map_or saved_start (if t then Some b else find (λ x. x.partition == k) bs) at_first) e
          ∙ found_good want k bs (λ j d l. h (suc j) d (omega (arith, l))) (sym (ap (λ t. t || list_any (λ x. x.partition == k) bs) e) ∙ some)
    ]
