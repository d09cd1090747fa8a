-- Barriers and ends in logs, and in what is pending.
use Rattle.std.proofs.Common.{◌≡◌, ℕ, zero, suc, ◌+◌, ◌-◌, ◌<◌, ◌≤◌, List, [], ◌∷◌, ◌++◌, Bool, true, false, cond, eqb, ◌&&◌, map, length, refl, sym, ap, ◌∙◌, ◌⊎◌, inl, inr, arith}
use Rattle.std.specs.List.{AllByRecursion}
use Rattle.std.proofs.lemmas.Bool.{cases_Bool, cases_lt, eq-eqb, false≢true}
use Rattle.dataflow_model.specs.declared.message.Message.{Message}
use Rattle.dataflow_model.specs.declared.message.Message.TheVariants.{Rows, Fired, Watermark, Barrier, End}
use Rattle.dataflow_model.specs.Routes.{spread, to_all}
use Rattle.dataflow_model.specs.Runs.{only, onto}
use Rattle.dataflow_model.proofs.Facts.{only_past, only_spread}

abbrev pub is_barrier : Message → Bool
is_barrier (Rows t) = false
is_barrier (Fired rows) = false
is_barrier (Watermark t) = false
is_barrier (Barrier n) = true
is_barrier End = false

-- how many barriers a log has
abbrev pub passed : List Message → ℕ
passed [] = 0
passed (m ∷ log) = cond (is_barrier m) 1 0 + passed log

-- an end, or the barrier of a stop, where there is one: it has number x
abbrev pub is_final : Bool → ℕ → Message → Bool
is_final stop x (Rows t) = false
is_final stop x (Fired rows) = false
is_final stop x (Watermark t) = false
is_final stop x (Barrier n) = stop && eqb n x
is_final stop x End = true

abbrev pub ended : Bool → ℕ → List Message → Bool
ended stop x [] = false
ended stop x (m ∷ log) = cond (is_final stop x m) true (ended stop x log)

-- a log that is closed by its one final message
pub record Closed (stop : Bool) (x : ℕ) (log : List Message) : Type 0 where
  pub last : Message
  pub before : List Message
  pub is : log ≡ last ∷ before
  pub is_end : is_final stop x last ≡ true
  pub first : ended stop x before ≡ false

-- barriers are numbered from f on
abbrev pub IsNumber : ℕ → Message → ℕ → Type 0
IsNumber f (Rows t) c = Unit {0}
IsNumber f (Fired rows) c = Unit {0}
IsNumber f (Watermark t) c = Unit {0}
IsNumber f (Barrier n) c = n ≡ f + c
IsNumber f End c = Unit {0}

abbrev pub Numbered : ℕ → List Message → Type 0
Numbered f [] = Unit {0}
Numbered f (m ∷ log) = IsNumber f m (passed log) × Numbered f log

-- no barrier and no end
abbrev pub IsQuiet : Message → Type 0
IsQuiet (Rows t) = Unit {0}
IsQuiet (Fired rows) = Unit {0}
IsQuiet (Watermark t) = Unit {0}
IsQuiet (Barrier n) = ⊥
IsQuiet End = ⊥

pub quiet_barrier : (m : Message) → IsQuiet m → is_barrier m ≡ false
quiet_barrier (Rows t) q = refl
quiet_barrier (Fired rows) q = refl
quiet_barrier (Watermark t) q = refl
quiet_barrier (Barrier n) q = absurd q
quiet_barrier End q = absurd q

pub quiet_final : (stop : Bool) (x : ℕ) (m : Message) → IsQuiet m → is_final stop x m ≡ false
quiet_final stop x (Rows t) q = refl
quiet_final stop x (Fired rows) q = refl
quiet_final stop x (Watermark t) q = refl
quiet_final stop x (Barrier n) q = absurd q
quiet_final stop x End q = absurd q

quiet_number : (f : ℕ) (m : Message) (c : ℕ) → IsQuiet m → IsNumber f m c
quiet_number f (Rows t) c q = tt
quiet_number f (Fired rows) c q = tt
quiet_number f (Watermark t) c q = tt
quiet_number f (Barrier n) c q = absurd q
quiet_number f End c q = absurd q

-- ---- quiet messages on a log

pub passed_quiet : (m : Message) (log : List Message) → IsQuiet m → passed (m ∷ log) ≡ passed log
passed_quiet m log q = let e = quiet_barrier m q in rw e (omega arith)

pub ended_quiet : (stop : Bool) (x : ℕ) (m : Message) (log : List Message) → IsQuiet m → ended stop x (m ∷ log) ≡ ended stop x log
ended_quiet stop x m log q = let e = quiet_final stop x m q in rw e refl

pub passed_onto : (ms log : List Message) → passed (onto ms log) ≡ passed ms + passed log
passed_onto [] log = omega arith
passed_onto (m ∷ ms) log = let a = passed_onto ms (m ∷ log) in omega (arith, a)

pub passed_append : (xs ys : List Message) → passed (xs ++ ys) ≡ passed xs + passed ys
passed_append [] ys = omega arith
passed_append (x ∷ xs) ys = let a = passed_append xs ys in omega (arith, a)

pub onto_passed : (ms log : List Message) → AllByRecursion IsQuiet ms → passed (onto ms log) ≡ passed log
onto_passed [] log q = refl
onto_passed (m ∷ ms) log q = onto_passed ms (m ∷ log) q.1 ∙ passed_quiet m log q.0

pub onto_ended : (stop : Bool) (x : ℕ) (ms log : List Message) → AllByRecursion IsQuiet ms → ended stop x (onto ms log) ≡ ended stop x log
onto_ended stop x [] log q = refl
onto_ended stop x (m ∷ ms) log q = onto_ended stop x ms (m ∷ log) q.1 ∙ ended_quiet stop x m log q.0

pub onto_numbered : (f : ℕ) (ms log : List Message) → AllByRecursion IsQuiet ms → Numbered f log → Numbered f (onto ms log)
onto_numbered f [] log q n = n
onto_numbered f (m ∷ ms) log q n = onto_numbered f ms (m ∷ log) q.1 (quiet_number f m (passed log) q.0, n)

pub onto_all : (P : Message → Type 0) (ms log : List Message) → AllByRecursion P ms → AllByRecursion P log → AllByRecursion P (onto ms log)
onto_all P [] log a c = c
onto_all P (m ∷ ms) log a c = onto_all P ms (m ∷ log) a.1 (a.0, c)

-- what was closed below is closed, and has nothing above
pub ended_append : (stop : Bool) (x : ℕ) (xs ys : List Message) → ended stop x ys ≡ true → ended stop x (xs ++ ys) ≡ true
ended_append stop x [] ys e = e
ended_append stop x (m ∷ xs) ys e = elim (cases_Bool (is_final stop x m)) [ inl d ↦ rw d refl | inr d ↦ rw d (ended_append stop x xs ys e) ]

pub not_closed : (stop : Bool) (y : ℕ) (x : List Message) (m : Message) (log : List Message) → ended stop y log ≡ true → Closed stop y (x ++ m ∷ log) → ⊥
not_closed stop z [] m log e c = false≢true (sym c.first ∙ ap (ended stop z) (let q : c.before ≡ log = (let d : c.last ∷ c.before ≡ m ∷ log = sym c.is in cc) in q) ∙ e)
not_closed stop z (y ∷ ys) m log e c =
    let d : c.last ∷ c.before ≡ y ∷ (ys ++ m ∷ log) = sym c.is in
    let q : c.before ≡ ys ++ m ∷ log = cc in
    false≢true (sym c.first ∙ ap (ended stop z) q ∙ ended_append stop z ys (m ∷ log) (elim (cases_Bool (is_final stop z m)) [ inl w ↦ rw w refl | inr w ↦ rw w e ]))

-- ---- lists of pending messages

pub all_weaker : {X : Type 0} (P Q : X → Type 0) → ((x : X) → P x → Q x) → (xs : List X) → AllByRecursion P xs → AllByRecursion Q xs
all_weaker P Q h [] a = tt
all_weaker P Q h (x ∷ xs) a = (h x a.0, all_weaker P Q h xs a.1)

pub all_append : {X : Type 0} (P : X → Type 0) (xs ys : List X) → AllByRecursion P xs → AllByRecursion P ys → AllByRecursion P (xs ++ ys)
all_append P [] ys a c = c
all_append P (x ∷ xs) ys a c = (a.0, all_append P xs ys a.1 c)

all_map : (P : ℕ × Message → Type 0) (j : ℕ) (ms : List Message) → AllByRecursion (λ m. P (j, m)) ms → AllByRecursion P (map (λ m. (j, m)) ms)
all_map P j [] a = tt
all_map P j (m ∷ ms) a = (a.0, all_map P j ms a.1)

pub all_spread : (P : ℕ × Message → Type 0) (n : ℕ) (f : ℕ → List Message) → ((j : ℕ) → j < n → AllByRecursion (λ m. P (j, m)) (f j)) → AllByRecursion P (spread n f)
all_spread P zero f h = tt
all_spread P (suc n) f h = all_append P (spread n f) (map (λ m. (n, m)) (f n)) (all_spread P n f (λ j l. h j (omega (arith, l)))) (all_map P n (f n) (h n (omega arith)))

-- those for one output
pub all_only : (P : Message → Type 0) (j : ℕ) (ps : List (ℕ × Message)) → AllByRecursion (λ x. P x.1) ps → AllByRecursion P (only j ps)
all_only P j [] a = tt
all_only P j (x ∷ ps) a = elim (cases_Bool (eqb j x.0)) [ inl e ↦ rw e (a.0, all_only P j ps a.1) | inr e ↦ rw e (all_only P j ps a.1) ]

-- ---- whether what is pending are barriers

pub none_passed : (ms : List Message) → AllByRecursion (λ m. is_barrier m ≡ false) ms → passed ms ≡ 0
none_passed [] a = refl
none_passed (m ∷ ms) a = let e = a.0 in rw e (let b = none_passed ms a.1 in omega (arith, b))

pub all_passed : (ms : List Message) → AllByRecursion (λ m. is_barrier m ≡ true) ms → passed ms ≡ length ms
all_passed [] a = refl
all_passed (m ∷ ms) a = let e = a.0 in rw e (let b = all_passed ms a.1 in omega (arith, b))

-- all of them, each output once, or none
abbrev pub IsPhase : List (ℕ × Message) → Type 0
IsPhase ps = AllByRecursion (λ x. is_barrier x.1 ≡ false) ps ⊎ (AllByRecursion (λ x. is_barrier x.1 ≡ true) ps × ((j : ℕ) → length (only j ps) ≤ 1))

pub phase_rest : (x : ℕ × Message) (ps : List (ℕ × Message)) → IsPhase (x ∷ ps) → IsPhase ps
phase_rest x ps (inl a) = inl a.1
phase_rest x ps (inr a) = inr (a.0.1, λ j. (let h = a.1 j in shorter (eqb j x.0) x.1 (only j ps) h))
  where
    shorter : (b : Bool) (m : Message) (ms : List Message) → length (cond b (m ∷ ms) ms) ≤ 1 → length ms ≤ 1
    shorter true m ms h = omega (arith, h)
    shorter false m ms h = h

pub once_each : (n : ℕ) (m : Message) (j : ℕ) → length (only j (to_all n m)) ≤ 1
once_each n m j = elim (cases_lt j n) [
  | inl l ↦ (let e = ap length (only_spread n (λ j. m ∷ []) j l) in omega (arith, e))
  | inr l ↦ (let e = ap length (only_past n (λ j. m ∷ []) j l) in omega (arith, e))
]

-- how many barriers a task with so many behind it has put on each output, at least, and on that of its first pending
-- message
abbrev pub turn : List (ℕ × Message) → ℕ → ℕ
turn [] n = n
turn (x ∷ ps) n = cond (is_barrier x.1) (n - 1) n

pub turn_le : (ps : List (ℕ × Message)) (n : ℕ) → turn ps n ≤ n
turn_le [] n = omega arith
turn_le (x ∷ ps) n = elim (cases_Bool (is_barrier x.1)) [ inl e ↦ rw e (omega arith) | inr e ↦ rw e (omega arith) ]

pub turn_sent : (j n : ℕ) (ps : List (ℕ × Message)) (log : List Message) → IsPhase ps → passed (onto (only j ps) log) ≡ n → turn ps n ≤ passed log
turn_sent j n ps log (inl a) e =
    let b = passed_onto (only j ps) log in
    let c = none_passed (only j ps) (all_only (λ m. is_barrier m ≡ false) j ps a) in
    let d = turn_le ps n in
    omega (arith, b, c, d, e)
turn_sent j n [] log (inr a) e = omega (arith, e)
turn_sent j n (x ∷ ps) log (inr a) e =
    let b = passed_onto (only j (x ∷ ps)) log in
    let c = all_passed (only j (x ∷ ps)) (all_only (λ m. is_barrier m ≡ true) j (x ∷ ps) a.0) in
    let d = a.1 j in
    let f = a.0.0 in
    rw f (omega (arith, b, c, d, e))

pub turn_first : (n : ℕ) (x : ℕ × Message) (ps : List (ℕ × Message)) (log : List Message) → IsPhase (x ∷ ps) → passed (onto (only x.0 (x ∷ ps)) log) ≡ n → passed log ≡ turn (x ∷ ps) n
turn_first n x ps log (inl a) e =
    let b = passed_onto (only x.0 (x ∷ ps)) log in
    let c = none_passed (only x.0 (x ∷ ps)) (all_only (λ m. is_barrier m ≡ false) x.0 (x ∷ ps) a) in
    let f = a.0 in
    rw f (omega (arith, b, c, e))
turn_first n x ps log (inr a) e =
    let b = passed_onto (only x.0 (x ∷ ps)) log in
    let c = all_passed (only x.0 (x ∷ ps)) (all_only (λ m. is_barrier m ≡ true) x.0 (x ∷ ps) a.0) in
    let d = a.1 x.0 in
    let here : only x.0 (x ∷ ps) ≡ x.1 ∷ only x.0 ps = let q = eq-eqb x.0 x.0 refl in rw q refl in
    let g = ap length here in
    let f = a.0.0 in
    rw f (omega (arith, b, c, d, e, g))
