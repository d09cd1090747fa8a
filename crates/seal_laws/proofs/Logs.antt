-- What logs of a task say of barriers and of an end.
use Rattle.std.proofs.Common.{◌≡◌, ℕ, zero, suc, ◌≤◌, ℤ, List, [], ◌∷◌, ◌++◌, Bool, true, false, eqb, map, Option, Some, None, refl, sym, ap, ◌∙◌, inl, inr, arith}
use Rattle.std.specs.List.{AllByRecursion}
use Rattle.std.proofs.lemmas.Bool.{cases_Bool, false≢true}
use Rattle.plain_data.specs.Record.{Record}
use Rattle.columns.specs.Table.{Table}
use Rattle.plan_model.specs.declared.spec.Row.{Row}
use Rattle.input_state.specs.declared.inputs.Shut.{Shut}
use Rattle.input_state.specs.declared.inputs.Shut.TheVariants.{Free, Held, Ended}
use Rattle.input_state.specs.Inputs.{let_go}
use Rattle.dataflow_model.specs.declared.message.Message.{Message}
use Rattle.dataflow_model.specs.declared.message.Message.TheVariants.{Rows, Fired, Watermark, Barrier, End}
use Rattle.dataflow_model.specs.AbstractTask.{AbstractTask}
use Rattle.dataflow_model.specs.Routes.{spread, batch, route, route_of, announce, fired}
use Rattle.dataflow_model.specs.Runs.{only, onto}

-- how many barriers are among the messages
abbrev pub barriers_in : List Message → ℕ
barriers_in [] = 0
barriers_in (Rows t ∷ log) = barriers_in log
barriers_in (Fired rows ∷ log) = barriers_in log
barriers_in (Watermark t ∷ log) = barriers_in log
barriers_in (Barrier n ∷ log) = suc (barriers_in log)
barriers_in (End ∷ log) = barriers_in log

-- an end is among them
abbrev pub has_end : List Message → Bool
has_end [] = false
has_end (Rows t ∷ log) = has_end log
has_end (Fired rows ∷ log) = has_end log
has_end (Watermark t ∷ log) = has_end log
has_end (Barrier n ∷ log) = has_end log
has_end (End ∷ log) = true

-- none but the newest is one
abbrev pub IsEndLast : List Message → Type 0
IsEndLast [] = Unit {0}
IsEndLast (m ∷ log) = has_end log ≡ false

-- neither a barrier nor an end
abbrev pub is_plain : Message → Bool
is_plain (Rows t) = true
is_plain (Fired rows) = true
is_plain (Watermark t) = true
is_plain (Barrier n) = false
is_plain End = false

plain_barriers : (m : Message) (log : List Message) → is_plain m ≡ true → barriers_in (m ∷ log) ≡ barriers_in log
plain_barriers (Rows t) log p = refl
plain_barriers (Fired rows) log p = refl
plain_barriers (Watermark t) log p = refl
plain_barriers (Barrier n) log p = absurd (false≢true p)
plain_barriers End log p = absurd (false≢true p)

plain_end : (m : Message) (log : List Message) → is_plain m ≡ true → has_end (m ∷ log) ≡ has_end log
plain_end (Rows t) log p = refl
plain_end (Fired rows) log p = refl
plain_end (Watermark t) log p = refl
plain_end (Barrier n) log p = absurd (false≢true p)
plain_end End log p = absurd (false≢true p)

end_more : (m : Message) (log : List Message) → has_end log ≡ true → has_end (m ∷ log) ≡ true
end_more (Rows t) log h = h
end_more (Fired rows) log h = h
end_more (Watermark t) log h = h
end_more (Barrier n) log h = h
end_more End log h = refl

end_append : (xs log : List Message) → has_end log ≡ true → has_end (xs ++ log) ≡ true
end_append [] log h = h
end_append (x ∷ xs) log h = end_more x (xs ++ log) (end_append xs log h)

-- nothing stands behind an end
pub nothing_behind : (xs log : List Message) → IsEndLast (xs ++ log) → has_end log ≡ true → xs ≡ []
nothing_behind [] log last h = refl
nothing_behind (x ∷ xs) log last h = absurd (false≢true (sym last ∙ end_append xs log h))

none_is_last : (log : List Message) → has_end log ≡ false → IsEndLast log
none_is_last [] e = tt
none_is_last (Rows t ∷ log) e = e
none_is_last (Fired rows ∷ log) e = e
none_is_last (Watermark t ∷ log) e = e
none_is_last (Barrier n ∷ log) e = e
none_is_last (End ∷ log) e = absurd (false≢true (sym e))

-- ---- what is made pending

abbrev pub ArePlain : List (ℕ × Message) → Type 0
ArePlain ps = AllByRecursion (λ x. is_plain x.1 ≡ true) ps

abbrev AllPlain : List Message → Type 0
AllPlain ms = AllByRecursion (λ m. is_plain m ≡ true) ms

pub plain_append : (ps qs : List (ℕ × Message)) → ArePlain ps → ArePlain qs → ArePlain (ps ++ qs)
plain_append [] qs a b = b
plain_append (p ∷ ps) qs a b = (a.0, plain_append ps qs a.1 b)

plain_on : (n : ℕ) (ms : List Message) → AllPlain ms → ArePlain (map (λ m. (n, m)) ms)
plain_on n [] a = tt
plain_on n (m ∷ ms) a = (a.0, plain_on n ms a.1)

plain_spread : (n : ℕ) (f : ℕ → List Message) → ((j : ℕ) → AllPlain (f j)) → ArePlain (spread n f)
plain_spread zero f a = tt
plain_spread (suc n) f a = plain_append (spread n f) (map (λ m. (n, m)) (f n)) (plain_spread n f a) (plain_on n (f n) (a n))

plain_batch : (width : ℕ) (rs : List Record) → AllPlain (batch width rs)
plain_batch width [] = tt
plain_batch width (r ∷ rs) = (refl, tt)

pub plain_route : (key : ℕ) (k : AbstractTask) (cursor : ℕ) (t : Table) → ArePlain (route key k cursor t)
plain_route key k cursor t = plain_spread k.outputs _ (λ j. plain_batch t.width _)

pub plain_route_of : (key : ℕ) (k : AbstractTask) (cursor : ℕ) (m : Message) → ArePlain (route_of key k cursor m)
plain_route_of key k cursor (Rows t) = plain_route key k cursor t
plain_route_of key k cursor (Fired rows) = tt
plain_route_of key k cursor (Watermark t) = tt
plain_route_of key k cursor (Barrier n) = tt
plain_route_of key k cursor End = tt

pub plain_announce : (n : ℕ) (o : Option ℤ) → ArePlain (announce n o)
plain_announce n None = tt
plain_announce n (Some t) = plain_spread n _ (λ j. (refl, tt))

pub plain_fired : (rows : List Row) → ArePlain (fired rows)
plain_fired [] = tt
plain_fired (r ∷ rows) = (refl, tt)

plain_onto : (j : ℕ) (ps : List (ℕ × Message)) (log : List Message) → ArePlain ps → (barriers_in (onto (only j ps) log) ≡ barriers_in log) × (has_end (onto (only j ps) log) ≡ has_end log)
plain_onto j [] log a = (refl, refl)
plain_onto j (x ∷ ps) log a = elim (cases_Bool (eqb j x.0)) [
  | inl d ↦ (let r = plain_onto j ps (x.1 ∷ log) a.1 in rw d (r.0 ∙ plain_barriers x.1 log a.0, r.1 ∙ plain_end x.1 log a.0))
  | inr d ↦ rw d (plain_onto j ps log a.1)
]

-- ---- an output

-- what was given to an output by a task that has passed n barriers: just those, and an end only at last, where the task
-- is over
pub record IsGiven (n : ℕ) (over : Bool) (log : List Message) : Type 0 where
  pub barriers : barriers_in log ≡ n
  pub going : over ≡ false → has_end log ≡ false
  pub last : IsEndLast log

pub given_none : (over : Bool) → IsGiven 0 over []
given_none over = record { barriers = refl; going = λ _. refl; last = tt }

pub given_plain : (n : ℕ) (over : Bool) (j : ℕ) (ps : List (ℕ × Message)) (log : List Message) → over ≡ false → ArePlain ps → IsGiven n over log → IsGiven n over (onto (only j ps) log)
given_plain n over j ps log going plain r =
    let a = plain_onto j ps log plain in
    let none = a.1 ∙ r.going going in
    record { barriers = a.0 ∙ r.barriers; going = λ _. none; last = none_is_last (onto (only j ps) log) none }

pub given_barrier : (n : ℕ) (over : Bool) (x : ℕ) (new : Bool) (log : List Message) → over ≡ false → IsGiven n over log → IsGiven (suc n) new (Barrier x ∷ log)
given_barrier n over x new log going r = record { barriers = ap suc r.barriers; going = λ _. r.going going; last = r.going going }

pub given_end : (n : ℕ) (over : Bool) (log : List Message) → over ≡ false → IsGiven n over log → IsGiven n true (End ∷ log)
given_end n over log going r = record { barriers = r.barriers; going = λ o. absurd (false≢true (sym o)); last = r.going going }

-- ---- an input

-- what was taken from an input that stands so by a task that has passed n barriers
abbrev pub IsTaken : ℕ → Shut → List Message → Type 0
IsTaken n Free log = barriers_in log ≤ n
IsTaken n Held log = barriers_in log ≤ suc n
IsTaken n Ended log = (barriers_in log ≤ n) × (has_end log ≡ true)

pub taken_plain : (n : ℕ) (v : Shut) (m : Message) (log : List Message) → is_plain m ≡ true → IsTaken n v log → IsTaken n v (m ∷ log)
taken_plain n Free m log p r = let same = plain_barriers m log p in omega (arith, same, r)
taken_plain n Held m log p r = let same = plain_barriers m log p in omega (arith, same, r)
taken_plain n Ended m log p r = (let same = plain_barriers m log p in let few = r.0 in omega (arith, same, few), plain_end m log p ∙ r.1)

pub taken_more : (n : ℕ) (v : Shut) (log : List Message) → IsTaken n v log → IsTaken (suc n) v log
taken_more n Free log r = omega (arith, r)
taken_more n Held log r = omega (arith, r)
taken_more n Ended log r = (let few = r.0 in omega (arith, few), r.1)

pub taken_let_go : (n : ℕ) (v : Shut) (log : List Message) → IsTaken n v log → IsTaken (suc n) (let_go v) log
taken_let_go n Free log r = omega (arith, r)
taken_let_go n Held log r = r
taken_let_go n Ended log r = (let few = r.0 in omega (arith, few), r.1)
