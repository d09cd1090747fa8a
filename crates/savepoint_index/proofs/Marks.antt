-- What bytes begin with tells the layout.
use Rattle.std.proofs.Common.{◌≡◌, ℕ, ◌≤◌, Bool, true, false, List, ◌++◌, length, take, drop, Result, Ok, Err, refl, sym, ap, ◌∙◌, arith, length-take, inl, inr}
use Rattle.std.specs.Prelude.{nat_lt, codes}
use Rattle.std.proofs.lemmas.Bool.{cases_lt, le-ltb, lt-ltb}
use Rattle.byte_fields.specs.declared.fault.FieldFault.{FieldFault}
use Rattle.byte_fields.specs.declared.fault.FieldFault.TheVariants.{Magic, Truncated}
use Rattle.byte_fields.specs.Format.{mark}
use Rattle.byte_fields.proofs.Exact.{same_bytes}
use Rattle.savepoint_index.specs.Layout.{has_index}

pub has_mark : (bytes : List ℕ) → has_index bytes ≡ true → (mark (codes "WSP2")).read bytes ≡ Ok (codes "WSP2", drop 4 bytes)
unfolding has_index
has_mark bytes h =
    let same : codes "WSP2" ≡ take 4 bytes = same_bytes (codes "WSP2") (take 4 bytes) h in
    let long : 4 ≤ length bytes = omega (arith, ap (length {A = ℕ}) same, length-take 4 bytes) in
    let enough : nat_lt (length bytes) 4 ≡ false = le-ltb _ _ long in
    rw (enough, h) (ap (λ (xs : List ℕ). Ok (xs, drop 4 bytes)) (sym same))

pub no_mark : (bytes : List ℕ) → has_index bytes ≡ false → (fault : FieldFault) × ((mark (codes "WSP2")).read bytes ≡ Err fault)
unfolding has_index
no_mark bytes h =
    elim (cases_lt (length bytes) 4) [
      | inl lt ↦ (let short : nat_lt (length bytes) 4 ≡ true = lt-ltb _ _ lt in (Truncated, rw short refl))
      | inr le ↦ (let enough : nat_lt (length bytes) 4 ≡ false = le-ltb _ _ le in (Magic, rw (enough, h) refl))
    ]

-- and so it is told by what is read
pub marked : (bytes : List ℕ) (x : List ℕ × List ℕ) → (mark (codes "WSP2")).read bytes ≡ Ok x → true ≡ has_index bytes
marked bytes x e = by_test (has_index bytes) refl
  where
    by_test : (test : Bool) → has_index bytes ≡ test → true ≡ test
    by_test true h = refl
    by_test false h =
        let wrong : ◌≡◌ {A = Result (List ℕ × List ℕ) FieldFault} (Ok x) (Err (no_mark bytes h).0) = sym e ∙ (no_mark bytes h).1 in
        absurd cc

pub unmarked : (bytes : List ℕ) (fault : FieldFault) → (mark (codes "WSP2")).read bytes ≡ Err fault → false ≡ has_index bytes
unmarked bytes fault e = by_test (has_index bytes) refl
  where
    by_test : (test : Bool) → has_index bytes ≡ test → false ≡ test
    by_test false h = refl
    by_test true h =
        let wrong : ◌≡◌ {A = Result (List ℕ × List ℕ) FieldFault} (Ok (codes "WSP2", drop 4 bytes)) (Err fault) = sym (has_mark bytes h) ∙ e in
        absurd cc

-- the bytes that each layout's spellings begin with
pub is_marked : (behind : List ℕ) → has_index (codes "WSP2" ++ behind) ≡ true
unfolding has_index
is_marked behind = refl

pub is_unmarked : (behind : List ℕ) → has_index (codes "WSP1" ++ behind) ≡ false
unfolding has_index
is_unmarked behind = refl
