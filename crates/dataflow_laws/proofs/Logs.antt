-- Laws of logs and of what is made pending.
use Rattle.std.proofs.Common.{◌≡◌, ℕ, ◌+◌, ◌<◌, ◌≤◌, List, [], ◌∷◌, ◌++◌, Bool, true, false, cond, eqb, refl, ap, ◌∙◌, inl, inr, arith, ℤ, ◌≤ℤ◌, int_lt, Option, Some, None}
use Rattle.std.proofs.lemmas.Bool.{cases_Bool, eqb-true}
use Rattle.std.proofs.lemmas.Int.{ints, clamps}
use Rattle.std.specs.List.{filter}
use Rattle.plain_data.specs.Record.{Record, at}
use Rattle.dataflow_model.specs.declared.message.Message.{Message}
use Rattle.dataflow_model.specs.declared.message.Message.TheVariants.{Rows, Fired, Watermark, Barrier, End}
use Rattle.dataflow_model.specs.Message.{records_of}
use Rattle.dataflow_model.specs.AbstractTask.{Routing, Whole, Split}
use Rattle.dataflow_model.specs.Routes.{batch, part, announce}
use Rattle.dataflow_model.specs.Runs.{only, onto}
use Rattle.input_state.specs.Inputs.{risen}
use Rattle.dataflow_laws.proofs.Streams.{weigh, weigh_message, weigh_log, mark_after, mark_of, late, IsOrderly, Owns, Reaches, IsPlain, told}
use Rattle.dataflow_model.specs.Sums.{total}
use Rattle.dataflow_model.proofs.Facts.{eqb_swap, only_spread, total_add, total_at, total_none, total_same}

-- ---- weights

pub weigh_append : (h : Record → ℕ) (xs ys : List Record) → weigh h (xs ++ ys) ≡ weigh h xs + weigh h ys
weigh_append h [] ys = omega arith
weigh_append h (x ∷ xs) ys = omega (arith, weigh_append h xs ys)

pub weigh_le : (g h : Record → ℕ) → ((r : Record) → g r ≤ h r) → (xs : List Record) → weigh g xs ≤ weigh h xs
weigh_le g h l [] = omega arith
weigh_le g h l (x ∷ xs) = omega (arith, l x, weigh_le g h l xs)

pub weigh_same : (g h : Record → ℕ) → ((r : Record) → g r ≡ h r) → (xs : List Record) → weigh g xs ≡ weigh h xs
weigh_same g h l [] = refl
weigh_same g h l (x ∷ xs) = omega (arith, l x, weigh_same g h l xs)

pub weigh_filter : (h : Record → ℕ) (p : Record → Bool) (xs : List Record) → weigh h (filter p xs) ≡ weigh (λ r. cond (p r) (h r) 0) xs
weigh_filter h p [] = refl
weigh_filter h p (x ∷ xs) =
    elim (cases_Bool (p x)) [
      | inl e ↦ rw e (omega (arith, weigh_filter h p xs))
      | inr e ↦ rw e (omega (arith, weigh_filter h p xs))
    ]

pub cond_le : (b : Bool) (n : ℕ) → cond b n 0 ≤ n
cond_le true n = omega arith
cond_le false n = omega arith

pub weigh_filter_le : (h : Record → ℕ) (p : Record → Bool) (xs : List Record) → weigh h (filter p xs) ≤ weigh h xs
weigh_filter_le h p xs = omega (arith, weigh_filter h p xs, weigh_le (λ r. cond (p r) (h r) 0) h (λ r. cond_le (p r) (h r)) xs)

pub weigh_zero : (h : Record → ℕ) → ((r : Record) → h r ≡ 0) → (xs : List Record) → weigh h xs ≡ 0
weigh_zero h z [] = refl
weigh_zero h z (x ∷ xs) = omega (arith, z x, weigh_zero h z xs)

pub weigh_of : (h : Record → ℕ) (m : Message) → weigh h (records_of m) ≡ weigh_message h m
weigh_of h (Rows t) = refl
weigh_of h (Fired rows) = refl
weigh_of h (Watermark t) = refl
weigh_of h (Barrier n) = refl
weigh_of h End = refl

-- ---- what is made pending for one output

pub onto_append : (a b log : List Message) → onto (a ++ b) log ≡ onto b (onto a log)
onto_append [] b log = refl
onto_append (m ∷ a) b log = onto_append a b (m ∷ log)

pub only_announce : (n : ℕ) (o : Option ℤ) (j : ℕ) → j < n → only j (announce n o) ≡ told o
only_announce n None j l = refl
only_announce n (Some t) j l = only_spread n (λ j. Watermark t ∷ []) j l

-- ---- a batch on a log

pub weigh_batch : (h : Record → ℕ) (width : ℕ) (xs : List Record) (log : List Message) → weigh_log h (onto (batch width xs) log) ≡ weigh h xs + weigh_log h log
weigh_batch h width [] log = omega arith
weigh_batch h width (x ∷ xs) log = refl

pub mark_batch : (width : ℕ) (xs : List Record) (log : List Message) → mark_of (onto (batch width xs) log) ≡ mark_of log
mark_batch width [] log = refl
mark_batch width (x ∷ xs) log = refl

pub orderly_batch : (c width : ℕ) (xs : List Record) (log : List Message) → weigh (late c (mark_of log)) xs ≡ 0 → IsOrderly c log → IsOrderly c (onto (batch width xs) log)
orderly_batch c width [] log z o = o
orderly_batch c width (x ∷ xs) log z o = (z, o)

-- ---- a message without records or watermark

pub plain_taken : (g : Record → ℕ) (m : Message) → IsPlain m → weigh_message g m ≡ 0
plain_taken g (Rows t) p = absurd p
plain_taken g (Fired rows) p = refl
plain_taken g (Watermark t) p = absurd p
plain_taken g (Barrier n) p = refl
plain_taken g End p = refl

pub plain_mark_after : (m : Message) (w : ℤ) → IsPlain m → mark_after m w ≡ w
plain_mark_after (Rows t) w p = absurd p
plain_mark_after (Fired rows) w p = refl
plain_mark_after (Watermark t) w p = absurd p
plain_mark_after (Barrier n) w p = refl
plain_mark_after End w p = refl

pub weigh_plain : (h : Record → ℕ) (m : Message) (log : List Message) → IsPlain m → weigh_log h (m ∷ log) ≡ weigh_log h log
weigh_plain h m log p = omega (arith, plain_taken h m p)

pub mark_plain : (m : Message) (log : List Message) → IsPlain m → mark_of (m ∷ log) ≡ mark_of log
mark_plain m log p = plain_mark_after m (mark_of log) p

pub orderly_plain : (c : ℕ) (m : Message) (log : List Message) → IsPlain m → IsOrderly c log → IsOrderly c (m ∷ log)
orderly_plain c m log p o = (plain_taken (late c (mark_of log)) m p, o)

-- ---- a new watermark on a log

pub weigh_told : (h : Record → ℕ) (o : Option ℤ) (log : List Message) → weigh_log h (onto (told o) log) ≡ weigh_log h log
weigh_told h None log = refl
weigh_told h (Some t) log = omega arith

pub orderly_told : (c : ℕ) (o : Option ℤ) (log : List Message) → IsOrderly c log → IsOrderly c (onto (told o) log)
orderly_told c None log is = is
orderly_told c (Some t) log is = (refl, is)

pub mark_announced : (old new : ℤ) (log : List Message) → mark_of log ≡ old → old ≤ℤ new → mark_of (onto (told (risen old new)) log) ≡ new
mark_announced old new log m l =
    elim (cases_Bool (int_lt old new)) [
      | inl e ↦ rw e (grind (arith, ints, clamps))
      | inr e ↦ rw e (grind (arith, ints))
    ]

-- ---- late records

pub late_le : (c : ℕ) (v w : ℤ) → v ≤ℤ w → (r : Record) → late c v r ≤ late c w r
late_le c v w l r = grind (arith, ints)

pub late_none : (c : ℕ) (v w : ℤ) → v ≤ℤ w → (xs : List Record) → weigh (late c w) xs ≡ 0 → weigh (late c v) xs ≡ 0
late_none c v w l xs z = omega (arith, z, weigh_le (late c v) (late c w) (late_le c v w l) xs)

-- ---- the parts of records, by output

pub weigh_cond : (h : Record → ℕ) (b : Bool) (xs : List Record) → weigh h (cond b xs []) ≡ cond b (weigh h xs) 0
weigh_cond h true xs = refl
weigh_cond h false xs = refl

total_owner : (h : Record → ℕ) (key : ℕ) (owner : ℤ → ℕ) (n : ℕ) → ((key : ℤ) → owner key < n) → (xs : List Record) → total n (λ j. weigh (λ r. cond (eqb (owner (at key r)) j) (h r) 0) xs) ≡ weigh h xs
total_owner h key owner n l [] = total_none n
total_owner h key owner n l (x ∷ xs) =
    total_add n (λ j. cond (eqb (owner (at key x)) j) (h x) 0) (λ j. weigh (λ r. cond (eqb (owner (at key r)) j) (h r) 0) xs)
    ∙ (let a = total_at n (owner (at key x)) (h x) (l (at key x)) in
    let a' = total_same n (λ j. cond (eqb (owner (at key x)) j) (h x) 0) (λ j. cond (eqb j (owner (at key x))) (h x) 0) (λ j q. ap (λ b. cond b (h x) 0) (eqb_swap (owner (at key x)) j)) in
    omega (arith, a, a', total_owner h key owner n l xs))

pub parts_weigh : (h : Record → ℕ) (key : ℕ) (routing : Routing) (n cursor : ℕ) → Reaches routing n cursor → (xs : List Record) → total n (λ j. weigh h (part key routing cursor xs j)) ≡ weigh h xs
parts_weigh h key Whole n c l xs = total_same n _ _ (λ j q. weigh_cond h (eqb j c) xs) ∙ total_at n c (weigh h xs) l
parts_weigh h key (Split owner) n c l xs = total_same n _ _ (λ j q. weigh_filter h (λ r. eqb (owner (at key r)) j) xs) ∙ total_owner h key owner n l xs

pub part_le : (h : Record → ℕ) (key : ℕ) (routing : Routing) (cursor : ℕ) (xs : List Record) (j : ℕ) → weigh h (part key routing cursor xs j) ≤ weigh h xs
part_le h key Whole c xs j = elim (cases_Bool (eqb j c)) [ inl e ↦ rw e (omega arith) | inr e ↦ rw e (omega arith) ]
part_le h key (Split owner) c xs j = weigh_filter_le h (λ r. eqb (owner (at key r)) j) xs

pub part_owned : (h : Record → ℕ) (key : ℕ) (routing : Routing) (c j : ℕ) → ((r : Record) → Owns key routing j r → h r ≡ 0) → (xs : List Record) → weigh h (part key routing c xs j) ≡ 0
part_owned h key Whole c j n xs = weigh_zero h (λ r. n r tt) (part key Whole c xs j)
part_owned h key (Split owner) c j n xs =
    weigh_filter h (λ r. eqb (owner (at key r)) j) xs
    ∙ weigh_zero (λ r. cond (eqb (owner (at key r)) j) (h r) 0) (λ r. elim (cases_Bool (eqb (owner (at key r)) j)) [ inl e ↦ rw e (n r (eqb-true (owner (at key r)) j e)) | inr e ↦ rw e refl ]) xs

-- ---- logs put together

pub weigh_log_append : (h : Record → ℕ) (xs ys : List Message) → weigh_log h (xs ++ ys) ≡ weigh_log h xs + weigh_log h ys
weigh_log_append h [] ys = omega arith
weigh_log_append h (x ∷ xs) ys = omega (arith, weigh_log_append h xs ys)

pub weigh_message_same : (g h : Record → ℕ) → ((r : Record) → g r ≡ h r) → (m : Message) → weigh_message g m ≡ weigh_message h m
weigh_message_same g h e (Rows t) = weigh_same g h e t.rows
weigh_message_same g h e (Fired rows) = refl
weigh_message_same g h e (Watermark t) = refl
weigh_message_same g h e (Barrier n) = refl
weigh_message_same g h e End = refl

pub weigh_log_same : (g h : Record → ℕ) → ((r : Record) → g r ≡ h r) → (log : List Message) → weigh_log g log ≡ weigh_log h log
weigh_log_same g h e [] = refl
weigh_log_same g h e (m ∷ log) = let a = weigh_message_same g h e m in let c = weigh_log_same g h e log in omega (arith, a, c)

pub orderly_suffix : (c : ℕ) (xs ys : List Message) → IsOrderly c (xs ++ ys) → IsOrderly c ys
orderly_suffix c [] ys o = o
orderly_suffix c (x ∷ xs) ys o = orderly_suffix c xs ys o.1

mark_rises : (m : Message) (w : ℤ) → w ≤ℤ mark_after m w
mark_rises (Rows rs) w = omega (arith, ints, clamps)
mark_rises (Fired rows) w = omega (arith, ints, clamps)
mark_rises (Watermark t) w = omega (arith, ints, clamps)
mark_rises (Barrier n) w = omega (arith, ints, clamps)
mark_rises End w = omega (arith, ints)

pub mark_suffix : (xs ys : List Message) → mark_of ys ≤ℤ mark_of (xs ++ ys)
mark_suffix [] ys = omega (arith, ints)
mark_suffix (x ∷ xs) ys = omega (arith, ints, mark_suffix xs ys, mark_rises x (mark_of (xs ++ ys)))

-- what comes after a watermark in an orderly log is not late
late_message : (c : ℕ) (v w : ℤ) → v ≤ℤ w → (m : Message) → weigh_message (late c w) m ≡ 0 → weigh_message (late c v) m ≡ 0
late_message c v w l (Rows t) z = late_none c v w l t.rows z
late_message c v w l (Fired rows) z = refl
late_message c v w l (Watermark t) z = refl
late_message c v w l (Barrier n) z = refl
late_message c v w l End z = refl

pub orderly_ahead : (c : ℕ) (xs ys : List Message) → IsOrderly c (xs ++ ys) → weigh_log (late c (mark_of ys)) xs ≡ 0
orderly_ahead c [] ys o = refl
orderly_ahead c (x ∷ xs) ys o = let a = orderly_ahead c xs ys o.1 in let d = late_message c (mark_of ys) (mark_of (xs ++ ys)) (mark_suffix xs ys) x o.0 in omega (arith, a, d)
