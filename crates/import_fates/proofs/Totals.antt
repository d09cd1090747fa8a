-- The counts with one more record, and all together.
use Rattle.std.proofs.Common.{◌≡◌, ℕ, ◌+◌, ◌-◌, ◌^◌, ◌<◌, min, List, [], ◌∷◌, length, count_by, refl, ap, arith, cond}
use Rattle.std.proofs.lemmas.List.Sums.{sum_by-cons}
use Rattle.import_fates.specs.Counts.{is_written, is_late, is_twice, is_bad, counted, counts_of}
use Rattle.import_fates.specs.declared.fate.Fate.{Fate}
use Rattle.import_fates.specs.declared.fate.Fate.TheVariants.{Written, Late, Twice, Bad}
use Rattle.import_fates.specs.declared.counts.FateCounts.{FateCounts}

totals : (fates : List Fate) → count_by is_written fates + count_by is_late fates + count_by is_twice fates + count_by is_bad fates ≡ length fates
totals [] = refl
totals (Written ∷ fates) = let h = totals fates in let one : count_by is_written (Written ∷ fates) ≡ 1 + count_by is_written fates = sum_by-cons (λ (f : Fate). cond (is_written f) 1 0) Written fates in omega arith
totals (Late ∷ fates) = let h = totals fates in let one : count_by is_late (Late ∷ fates) ≡ 1 + count_by is_late fates = sum_by-cons (λ (f : Fate). cond (is_late f) 1 0) Late fates in omega arith
totals (Twice ∷ fates) = let h = totals fates in let one : count_by is_twice (Twice ∷ fates) ≡ 1 + count_by is_twice fates = sum_by-cons (λ (f : Fate). cond (is_twice f) 1 0) Twice fates in omega arith
totals (Bad ∷ fates) = let h = totals fates in let one : count_by is_bad (Bad ∷ fates) ≡ 1 + count_by is_bad fates = sum_by-cons (λ (f : Fate). cond (is_bad f) 1 0) Bad fates in omega arith

abbrev pub made : ℕ → ℕ → ℕ → ℕ → FateCounts
made written late twice bad = record { written = written; late = late; twice = twice; bad = bad }

made_same : (a b c d e f g h : ℕ) → a ≡ b → c ≡ d → e ≡ f → g ≡ h → made a c e g ≡ made b d f h
made_same a b c d e f g h p q r s = cc

pub parts : (fates : List Fate) (old : FateCounts) → old ≡ counts_of fates
    → (old.written ≡ counted is_written fates) × (old.late ≡ counted is_late fates) × (old.twice ≡ counted is_twice fates) × (old.bad ≡ counted is_bad fates)
unfolding counts_of
parts fates old e = (ap (λ (k : FateCounts). k.written) e, ap (λ (k : FateCounts). k.late) e, ap (λ (k : FateCounts). k.twice) e, ap (λ (k : FateCounts). k.bad) e)

pub with_written : (fates : List Fate) (old : FateCounts) (n : ℕ) → old ≡ counts_of fates → n ≡ min (old.written + 1) (2 ^ 64 - 1) → made n old.late old.twice old.bad ≡ counts_of (Written ∷ fates)
unfolding counts_of
with_written fates old n e h = let p = parts fates old e in let one : count_by is_written (Written ∷ fates) ≡ 1 + count_by is_written fates = sum_by-cons (λ (f : Fate). cond (is_written f) 1 0) Written fates in
    made_same n (counted is_written (Written ∷ fates)) old.late (counted is_late (Written ∷ fates)) old.twice (counted is_twice (Written ∷ fates)) old.bad (counted is_bad (Written ∷ fates))
    (omega arith) (omega arith) (omega arith) (omega arith)

pub with_late : (fates : List Fate) (old : FateCounts) (n : ℕ) → old ≡ counts_of fates → n ≡ min (old.late + 1) (2 ^ 64 - 1) → made old.written n old.twice old.bad ≡ counts_of (Late ∷ fates)
unfolding counts_of
with_late fates old n e h = let p = parts fates old e in let one : count_by is_late (Late ∷ fates) ≡ 1 + count_by is_late fates = sum_by-cons (λ (f : Fate). cond (is_late f) 1 0) Late fates in
    made_same old.written (counted is_written (Late ∷ fates)) n (counted is_late (Late ∷ fates)) old.twice (counted is_twice (Late ∷ fates)) old.bad (counted is_bad (Late ∷ fates))
    (omega arith) (omega arith) (omega arith) (omega arith)

pub with_twice : (fates : List Fate) (old : FateCounts) (n : ℕ) → old ≡ counts_of fates → n ≡ min (old.twice + 1) (2 ^ 64 - 1) → made old.written old.late n old.bad ≡ counts_of (Twice ∷ fates)
unfolding counts_of
with_twice fates old n e h = let p = parts fates old e in let one : count_by is_twice (Twice ∷ fates) ≡ 1 + count_by is_twice fates = sum_by-cons (λ (f : Fate). cond (is_twice f) 1 0) Twice fates in
    made_same old.written (counted is_written (Twice ∷ fates)) old.late (counted is_late (Twice ∷ fates)) n (counted is_twice (Twice ∷ fates)) old.bad (counted is_bad (Twice ∷ fates))
    (omega arith) (omega arith) (omega arith) (omega arith)

pub with_bad : (fates : List Fate) (old : FateCounts) (n : ℕ) → old ≡ counts_of fates → n ≡ min (old.bad + 1) (2 ^ 64 - 1) → made old.written old.late old.twice n ≡ counts_of (Bad ∷ fates)
unfolding counts_of
with_bad fates old n e h = let p = parts fates old e in let one : count_by is_bad (Bad ∷ fates) ≡ 1 + count_by is_bad fates = sum_by-cons (λ (f : Fate). cond (is_bad f) 1 0) Bad fates in
    made_same old.written (counted is_written (Bad ∷ fates)) old.late (counted is_late (Bad ∷ fates)) old.twice (counted is_twice (Bad ∷ fates)) n (counted is_bad (Bad ∷ fates))
    (omega arith) (omega arith) (omega arith) (omega arith)

-- where there are not too many they are as many as the records
pub all_counted : (fates : List Fate) (old : FateCounts) → old ≡ counts_of fates → length fates < 2 ^ 64
    → min (min (min (old.written + old.late) (2 ^ 64 - 1) + old.twice) (2 ^ 64 - 1) + old.bad) (2 ^ 64 - 1) ≡ length fates
all_counted fates old e small = let p = parts fates old e in let t = totals fates in omega arith
