-- A leg that goes on by the receipt of the one before.
use Rattle.std.proofs.Common.{◌≡◌, ◌⊎◌, ◌==◌, ◌&&◌, ◌++◌, ℕ, Bool, true, false, cond, nat_le, List, [], length, map, get_or, Option, Some, None, option_map, Result, Ok, Err, inl, inr, refl, ap, ◌∙◌, subst, arith, length-append}
use Rattle.std.proofs.Math.Seq.{take-append_seam}
use Rattle.std.proofs.lemmas.Bool.{and_from, eq-eqb}
use Rattle.std.proofs.lemmas.Slice.Eq.{bytes_eq-Decides}
use Rattle.input_changes.specs.Agreement.{HaveSameEntries}
use Rattle.plan_model.specs.PlanData.{PlanData}
use Rattle.plan_record.specs.PlanRecord.{plan_record}
use Rattle.stream_model.specs.InputData.{InputData}
use Rattle.receipts.specs.Checked.{ChecksInput, ChecksReceipt, ChecksRecord, Then}
use Rattle.receipts.specs.Compared.{ChecksPartition, ChecksSource, ChecksSources, begins_with, counted_bytes, is_same, names_checked, plan_checked}
use Rattle.receipts.specs.Made.{counted_names, receipt_of}
use Rattle.receipts.specs.Read.{read_before, was_read_of}
use Rattle.receipts.specs.declared.digests.Counted.{Counted}
use Rattle.receipts.specs.declared.fault.ReceiptFault.{ReceiptFault}
use Rattle.receipts.specs.declared.fault.ReceiptFault.TheVariants as fault
use Rattle.receipts.specs.declared.receipt.Receipt.{Receipt}

abbrev Answer : Type 0
Answer = Result (Unit {0}) ReceiptFault

-- Ok, or memory ran out
abbrev IsFine : Answer → Type 0
IsFine result = (result ≡ Ok tt) ⊎ (result ≡ Err fault.Memory)

-- ---- what is the same is found to be so

same_itself : (c : Counted) → is_same c c ≡ true
same_itself c = and_from _ _ (eq-eqb c.count c.count refl) ((bytes_eq-Decides c.digest c.digest).1 refl)

plan_itself : (bytes : List ℕ) → plan_checked (counted_bytes bytes) bytes ≡ Ok tt
plan_itself bytes = ap (λ (b : Bool). cond b (Ok tt) (Err fault.Plan)) (same_itself (counted_bytes bytes))

longer : (bytes more : List ℕ) → nat_le (length bytes) (length (bytes ++ more)) ≡ true
longer bytes more = grind (arith, length-append)

begins_itself : (bytes more : List ℕ) → begins_with (counted_bytes bytes) (bytes ++ more) ≡ true
begins_itself bytes more =
    and_from _ _ (longer bytes more) (ap (λ (s : List ℕ). is_same (counted_bytes s) (counted_bytes bytes)) (take-append_seam bytes more) ∙ same_itself (counted_bytes bytes))

names_grown : (names : Option (List ℕ)) (more : List ℕ) → names_checked (counted_names names) (option_map (λ bytes. bytes ++ more) names) ≡ Ok tt
names_grown None more = refl
names_grown (Some bytes) more = ap (λ (b : Bool). cond b (Ok tt) (Err fault.Names)) (begins_itself bytes more)

-- ---- nothing differs from itself

some_counted : Counted
some_counted = record { count = 0; digest = [] }

no_difference : (uid : List ℕ) (n : ℕ) (c : Counted) (f : ReceiptFault) → ChecksPartition uid n c c (Err f) → f ≡ fault.Memory
no_difference uid n c fault.Form is = absurd is
no_difference uid n c fault.Plan is = absurd is
no_difference uid n c (fault.Cut name m) is = absurd (is.2 refl)
no_difference uid n c (fault.Entries name m) is = absurd (is.3 refl)
no_difference uid n c fault.Names is = absurd is
no_difference uid n c fault.Memory is = refl

none_in : (uid : List ℕ) (read : List Counted) (f : ReceiptFault) → ChecksSource uid read read (Err f) → f ≡ fault.Memory
none_in uid read f is = no_difference uid is.0 (get_or read is.0 some_counted) f (is.1.here some_counted some_counted)

entries_fine : (uids : List (List ℕ)) (read : List (List Counted)) (entries : Answer) → ChecksSources uids read read entries → IsFine entries
entries_fine uids read (Ok done) is = inl refl
entries_fine uids read (Err f) is = inr (ap Err (none_in (get_or uids is.0 []) (get_or read is.0 []) f is.1.here))

-- ---- one check after another

goes_on : (first : Answer) (Next : Answer → Type 0) (result : Answer) → IsFine first → Then first Next result → (Next result → IsFine result) → IsFine result
goes_on first Next result (inl e) then fine = fine (subst (λ (x : Answer). Then x Next result) e then)
goes_on first Next result (inr e) then fine = inr (subst (λ (x : Answer). Then x Next result) e then)

record_fine : (p : PlanData) (r : Receipt) (plan : Answer) → r.plan ≡ counted_bytes (plan_record p) → ChecksRecord p r plan → IsFine plan
record_fine p r plan e (inl is) = inl (is ∙ ap (λ (c : Counted). plan_checked c (plan_record p)) e ∙ plan_itself (plan_record p))
record_fine p r plan e (inr is) = inr is

input_fine : (p : PlanData) (i : InputData) (cut : List (List ℕ)) (r : Receipt) (entries : Answer) → r.sources ≡ read_before i.sources cut → ChecksInput p i cut r entries → IsFine entries
input_fine p i cut r entries e (inl is) =
    let uids = map (λ s. s.uid) p.sources in
    entries_fine uids (read_before i.sources cut) entries (subst (λ (told : List (List Counted)). ChecksSources uids told (read_before i.sources cut) entries) e is)
input_fine p i cut r entries e (inr is) = inr is

pub same_accepted : (p : PlanData) (old new : InputData) (cut : List (List ℕ)) (legs : ℕ) (rows : List ℕ) (names : Option (List ℕ)) (more : List ℕ) (result : Answer) → HaveSameEntries old new cut
    → ChecksReceipt p new cut (receipt_of p old cut legs rows names) (option_map (λ bytes. bytes ++ more) names) result → IsFine result
same_accepted p old new cut legs rows names more result same (plan, checks, then) =
    let r = receipt_of p old cut legs rows names in
    goes_on plan _ result (record_fine p r plan refl checks) then (λ next.
    goes_on next.0 _ result (input_fine p new cut r next.0 (ap (map (map was_read_of)) same) next.1) next.2 (λ last. inl (last ∙ names_grown names more)))

-- ---- what is accepted is the same

accepted_first : (first : Answer) (Next : Answer → Type 0) → Then first Next (Ok tt) → (first ≡ Ok tt) × Next (Ok tt)
accepted_first (Ok done) Next then = (refl, then)
accepted_first (Err f) Next then = absurd cc

accepted_input : (p : PlanData) (i : InputData) (cut : List (List ℕ)) (r : Receipt) (entries : Answer) → entries ≡ Ok tt → ChecksInput p i cut r entries → r.sources ≡ read_before i.sources cut
accepted_input p i cut r (Ok done) e (inl is) = is
accepted_input p i cut r (Err f) e (inl is) = absurd cc
accepted_input p i cut r (Ok done) e (inr is) = absurd cc
accepted_input p i cut r (Err f) e (inr is) = absurd cc

pub accepted_same : (p : PlanData) (i : InputData) (cut : List (List ℕ)) (r : Receipt) (names : Option (List ℕ)) → ChecksReceipt p i cut r names (Ok tt) → r.sources ≡ read_before i.sources cut
accepted_same p i cut r names (plan, checks, then) =
    let next = accepted_first plan _ then in
    let rest = accepted_first next.1.0 _ next.1.2 in
    accepted_input p i cut r next.1.0 rest.0 next.1.1
