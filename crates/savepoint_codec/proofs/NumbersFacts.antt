-- The numbers of an entry are read one after the other into places that are there.
use Rattle.std.proofs.Common.{◌≡◌, ℕ, ℤ, suc, ◌+◌, ◌<◌, ◌≤◌, List, [], length, get_or, take, drop, slice_set, Ok, Err, sym, ◌∙◌, arith, add-one, drop-cons}
use Rattle.std.proofs.Math.Seq.{take-suc-set}
use Rattle.std.proofs.lemmas.List.{take_all}
use Rattle.std.proofs.Math.ListN.{drop_of_length-le}
use Rattle.byte_fields.specs.declared.fault.FieldFault.{FieldFault}
use Rattle.byte_fields.proofs.Exact.{with_front, list-step, list-fails, list-done}
use Rattle.aggregates.specs.declared.kind.Kind.{Kind}
use Rattle.savepoint_codec.specs.Fields.{number_of_kind, numbers_field}

abbrev pub IsReadInto : List Kind → ℕ → ℕ → List ℤ → List ℕ → List ℕ → Type 0
IsReadInto kinds count i numbers rest bytes = with_front (take i numbers) ((numbers_field (drop i kinds) count).read rest) ≡ (numbers_field kinds count).read bytes

pub number_read : (kinds : List Kind) (kind : Kind) (count i : ℕ) (numbers : List ℤ) (rest bytes : List ℕ) (z : ℤ) (after : List ℕ) → i < length kinds → length numbers ≡ length kinds
    → (number_of_kind count (get_or kinds i kind)).read rest ≡ Ok (z, after) → IsReadInto kinds count i numbers rest bytes → IsReadInto kinds count (i + 1) (slice_set numbers i z) after bytes
unfolding numbers_field
number_read kinds kind count i numbers rest bytes z after lt same h so_far =
    let within : i < length numbers = omega arith in
    let here = list-step (number_of_kind count (get_or kinds i kind)) (λ _. numbers_field (drop (suc i) kinds) count) (take i numbers) rest z after h in
    rw (add-one i, take-suc-set numbers i z within) (sym here ∙ (rw (drop-cons kinds i kind) at so_far))

pub number_fails : (kinds : List Kind) (kind : Kind) (count i : ℕ) (numbers : List ℤ) (rest bytes : List ℕ) (fault : FieldFault) → i < length kinds
    → (number_of_kind count (get_or kinds i kind)).read rest ≡ Err fault → IsReadInto kinds count i numbers rest bytes → (numbers_field kinds count).read bytes ≡ Err fault
unfolding numbers_field
number_fails kinds kind count i numbers rest bytes fault lt h so_far =
    let here = list-fails (number_of_kind count (get_or kinds i kind)) (λ _. numbers_field (drop (suc i) kinds) count) (take i numbers) rest fault h in
    sym (rw (drop-cons kinds i kind) at so_far) ∙ here

pub numbers_read : (kinds : List Kind) (count i : ℕ) (numbers : List ℤ) (rest bytes : List ℕ) → length kinds ≤ i → length numbers ≡ length kinds
    → IsReadInto kinds count i numbers rest bytes → (numbers_field kinds count).read bytes ≡ Ok (numbers, rest)
unfolding numbers_field
numbers_read kinds count i numbers rest bytes le same so_far =
    let none : drop i kinds ≡ [] = drop_of_length-le kinds le in
    let all : take i numbers ≡ numbers = take_all i numbers (omega arith) in
    sym (rw (none, all) at so_far) ∙ list-done numbers rest
