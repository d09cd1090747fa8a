-- A key group is looked for in an index.
use Rattle.std.proofs.Common.{◌≡◌, ℕ, ◌+◌, ◌<◌, ◌≤◌, Bool, true, false, List, [], ◌∷◌, ◌++◌, Some, None, Result, Ok, Err, refl, sym, ap, ◌∙◌, append_assoc}
use Rattle.std.specs.Prelude.{◌==◌, if◌then◌else◌}
use Rattle.byte_fields.specs.declared.fault.FieldFault.{FieldFault}
use Rattle.byte_fields.specs.declared.fault.ReadFault.TheVariants.{Bytes}
use Rattle.byte_fields.specs.Lists.{chain}
use Rattle.byte_fields.proofs.Exact.{IsReadSoFar, ok_is, with_front, reads_one, fails_at, reads_all}
use Rattle.savepoint_index.specs.declared.head.GroupHead.{GroupHead}
use Rattle.savepoint_index.specs.Reading.{any_head}
use Rattle.savepoint_index.specs.Answer.{head_of_group}

-- so many key groups of the index are read, and none is the one looked for
pub record AreOthers (group count i : ℕ) (rest bytes : List ℕ) : Type 0 where
  pub front : List GroupHead
  pub none : head_of_group group front ≡ None
  pub read : IsReadSoFar (λ _. any_head) count i front rest bytes

behind_others : (group : ℕ) (front hs : List GroupHead) → head_of_group group front ≡ None → head_of_group group (front ++ hs) ≡ head_of_group group hs
behind_others group [] hs none = refl
behind_others group (h ∷ front) hs none = by_test (h.group == group) (behind_others group front hs) none
  where
    by_test : (test : Bool) → (head_of_group group front ≡ None → head_of_group group (front ++ hs) ≡ head_of_group group hs) → (if test then Some h else head_of_group group front) ≡ None
        → (if test then Some h else head_of_group group (front ++ hs)) ≡ head_of_group group hs
    by_test true rest other = absurd cc
    by_test false rest other = rest other

is_found : (group : ℕ) (head : GroupHead) (hs : List GroupHead) → (head.group == group) ≡ true → head_of_group group (head ∷ hs) ≡ Some head
is_found group head hs same = rw same refl

is_passed : (group : ℕ) (head : GroupHead) → (head.group == group) ≡ false → head_of_group group (head ∷ []) ≡ None
is_passed group head other = rw other refl

-- what was read stands in front
front_of_read : {X : Type 0} (front : List X) (read : Result (List X × List ℕ) FieldFault) (x : List X × List ℕ) → with_front front read ≡ Ok x → (more : List X) × (x.0 ≡ front ++ more)
front_of_read {X} front (Ok y) x e = (y.0, ap (λ (z : List X × List ℕ). z.0) (sym (ok_is (front ++ y.0, y.1) x e)))
front_of_read front (Err fault) x e = absurd cc

pub one_found : (group count i : ℕ) (head : GroupHead) (rest after bytes : List ℕ) → i < count → any_head.read rest ≡ Ok (head, after) → (head.group == group) ≡ true → AreOthers group count i rest bytes
    → (x : List GroupHead × List ℕ) → (chain (λ _. any_head) None count).read bytes ≡ Ok x → head_of_group group x.0 ≡ Some head
one_found group count i head rest after bytes below item same so_far x e =
    let read = reads_one (λ _. any_head) count i so_far.front rest bytes head after below item so_far.read in
    let all = front_of_read (so_far.front ++ head ∷ []) _ x (read ∙ e) in
    ap (head_of_group group) (all.1 ∙ append_assoc so_far.front (head ∷ []) all.0) ∙ behind_others group so_far.front (head ∷ all.0) so_far.none ∙ is_found group head all.0 same

pub one_passed : (group count i : ℕ) (head : GroupHead) (rest after bytes : List ℕ) → i < count → any_head.read rest ≡ Ok (head, after) → (head.group == group) ≡ false → AreOthers group count i rest bytes → AreOthers group count (i + 1) after bytes
one_passed group count i head rest after bytes below item other so_far =
    record {
      front = so_far.front ++ head ∷ [];
      none = behind_others group so_far.front (head ∷ []) so_far.none ∙ is_passed group head other;
      read = reads_one (λ _. any_head) count i so_far.front rest bytes head after below item so_far.read;
    }

pub none_found : (group count i : ℕ) (rest bytes : List ℕ) → count ≤ i → AreOthers group count i rest bytes → (x : List GroupHead × List ℕ) → (chain (λ _. any_head) None count).read bytes ≡ Ok x → head_of_group group x.0 ≡ None
none_found group count i rest bytes le so_far x e =
    let all = reads_all (λ _. any_head) count i so_far.front rest bytes le so_far.read in
    ap (λ (y : List GroupHead × List ℕ). head_of_group group y.0) (ok_is x (so_far.front, rest) (sym e ∙ all)) ∙ so_far.none

pub cannot_fail : {A : Type 0} (group count i : ℕ) (fault : FieldFault) (rest bytes : List ℕ) → i < count → any_head.read rest ≡ Err fault → AreOthers group count i rest bytes
    → (x : List GroupHead × List ℕ) → (chain (λ _. any_head) None count).read bytes ≡ Ok x → A
cannot_fail group count i fault rest bytes below failed so_far x e =
    let all : (chain (λ _. any_head) None count).read bytes ≡ Err fault = fails_at (λ _. any_head) (Bytes fault) count i so_far.front rest bytes below failed so_far.read in
    let wrong : ◌≡◌ {A = Result (List GroupHead × List ℕ) FieldFault} (Ok x) (Err fault) = sym e ∙ all in
    absurd cc
