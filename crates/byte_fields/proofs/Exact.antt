-- A format is exact where what is read is spelled so, and what is spelled so is read. Each combinator keeps that, so a
-- layout that is put together of them is exact by its definition alone.
use Rattle.std.proofs.Common.{◌≡◌, ℕ, zero, suc, ◌-◌, ◌+◌, ◌*◌, ◌/◌, ◌%◌, ◌^◌, ◌<◌, ◌≤◌, ℤ, pos, negsuc, Bool, true, false, cond, ltb, eqb, ◌&&◌, List, [], ◌∷◌, ◌++◌, length, get_or, take, drop, Option, Some, None, Result, Ok, Err, refl, sym, ap, subst, ◌∙◌, append_assoc, arith, inl, inr}
use Rattle.std.specs.Prelude.{FitsSigned, nat_le, nat_lt, bytes_eq}
use Rattle.std.proofs.lemmas.Slice.Eq.{bytes_eq-Decides}
use Rattle.std.proofs.lemmas.Grind.{common_steps}
use Rattle.std.proofs.lemmas.List.Elements.{All-nil, All-cons, All-head, All-tail}
use Rattle.std.proofs.lemmas.Option.{slice_get_read}
use Rattle.std.proofs.Math.Seq.{get_or-append_seam}
use Rattle.std.specs.List.{All, flat_map, list_all}
use Rattle.std.specs.Int.{Width, w8, w16, w64, w128, byte_len, from_be_bytes, to_be_bytes, cast_signed, cast_unsigned}
use Rattle.std.proofs.Math.Facts.{sfits_to_z, Fits-of_z}
use Rattle.std.proofs.lemmas.Int.{to_z-of_z, of_z-to_z}
use Rattle.std.proofs.lemmas.Bool.{cases_lt, ltb-false, le-ltb, lt-ltb, ltb-true, eqb-true, eq-eqb}
use Rattle.std.proofs.lemmas.List.{take_at, drop_at, take-append-drop, length-append, length-take, get_or-drop, get_or-take, get_or_past, append-nil, nil_from_length}
use Rattle.std.proofs.lemmas.Nat.{be_bytes_2, be_bytes_8, from_be_bytes-to_be_bytes_2, from_be_bytes-to_be_bytes_8}
use Rattle.byte_fields.specs.declared.fault.FieldFault.{FieldFault}
use Rattle.byte_fields.specs.declared.fault.FieldFault.TheVariants.{Magic, Truncated, Trailing, Range}
use Rattle.byte_fields.specs.declared.fault.ReadFault.{ReadFault}
use Rattle.byte_fields.specs.declared.fault.ReadFault.TheVariants as faults
use Rattle.byte_fields.specs.Format.{◌>>=◌, Format, raw, number, where_it, before, seen_as, as_record, marked, whole}
use Rattle.byte_fields.specs.Lists.{nothing, as_list, chain, last_of, with_length, the_list, counted, listed, sized}
use Rattle.byte_fields.specs.Fields.{u8_field, few_field, u16_field, u64_field, i64_field, u128_field, i128_field, is_i64, is_i128}
use Rattle.byte_fields.specs.Reads.{Fails}

abbrev pub IsBytes : List ℕ → Type 0
IsBytes bytes = (i : ℕ) → get_or bytes i 0 < 256

-- what was read from the front
pub record Takes {X : Type 0} (f : Format X) (bytes : List ℕ) (x : X) (rest : List ℕ) : Type 0 where
  pub parts : bytes ≡ f.spell x ++ rest
  pub rest_fits : IsBytes rest
  pub fits : f.fits x ≡ true

pub record IsExact {X : Type 0} (f : Format X) : Type 0 where
  pub takes : (bytes : List ℕ) (x : X × List ℕ) → IsBytes bytes → f.read bytes ≡ Ok x → Takes f bytes x.0 x.1
  pub again : (x : X) (rest : List ℕ) → f.fits x ≡ true → f.read (f.spell x ++ rest) ≡ Ok (x, rest)

-- ---- tools

pub IsBytes-drop : (n : ℕ) (bytes : List ℕ) → IsBytes bytes → IsBytes (drop n bytes)
IsBytes-drop n bytes h i = rw get_or-drop (h (n + i))

IsBytes-take : (n : ℕ) (bytes : List ℕ) → IsBytes bytes → IsBytes (take n bytes)
IsBytes-take n bytes h i =
    elim (cases_lt i n) [
      | inl lt ↦ rw (get_or-take n bytes i 0 lt) (h i)
      | inr le ↦ rw (get_or_past (take n bytes) i 0 (omega (arith, length-take n bytes))) (omega arith)
    ]

pub bind_ok : {A B : Type 0} (r : Result A FieldFault) (f : A → Result B FieldFault) (y : B) → (r >>= f) ≡ Ok y → (x : A) × (r ≡ Ok x) × (f x ≡ Ok y)
bind_ok (Ok x) f y e = (x, refl, e)
bind_ok (Err d) f y e = absurd cc

guard_ok : {A : Type 0} (b : Bool) (d : FieldFault) (x y : A) → cond b (Err d) (Ok x) ≡ Ok y → (b ≡ false) × (x ≡ y)
guard_ok true d x y e = absurd cc
guard_ok false d x y e = (refl, cc)

pub pass_ok : {A : Type 0} (b : Bool) (d : FieldFault) (x y : A) → cond b (Ok x) (Err d) ≡ Ok y → (b ≡ true) × (x ≡ y)
pass_ok true d x y e = (refl, cc)
pass_ok false d x y e = absurd cc

abbrev done : {A : Type 0} → A → Result A FieldFault
done x = Ok x

pub ok_is : {A : Type 0} (x y : A) → done x ≡ done y → x ≡ y
ok_is x y e = cc

pub both : (a b : Bool) → (a && b) ≡ true → (a ≡ true) × (b ≡ true)
both true b h = (refl, h)
both false b h = absurd cc

pub and_true : (a b : Bool) → a ≡ true → b ≡ true → (a && b) ≡ true
and_true true b p q = q
and_true false b p q = p

-- ---- the formats are exact

pub record IsWide (w : Width) : Type 0 where
  pub len : (n : ℕ) → length (to_be_bytes w n) ≡ byte_len w
  pub back : (bytes : List ℕ) → length bytes ≡ byte_len w → IsBytes bytes → to_be_bytes w (from_be_bytes w bytes) ≡ bytes
  pub again : (n : ℕ) → n < 256 ^ byte_len w → from_be_bytes w (to_be_bytes w n) ≡ n
  pub below : (bytes : List ℕ) → IsBytes bytes → from_be_bytes w bytes < 256 ^ byte_len w

pub wide16 : IsWide w16
wide16 = record {
  len = λ n. refl;
  back = λ bytes len fits. be_bytes_2 bytes _ len fits refl;
  again = λ n lt. from_be_bytes-to_be_bytes_2 n lt;
  below = λ bytes fits. omega (arith, fits 0, fits 1);
}

one_byte : (bytes : List ℕ) → length bytes ≡ 1 → IsBytes bytes → to_be_bytes w8 (from_be_bytes w8 bytes) ≡ bytes
one_byte [] len fits = absurd cc
one_byte (b ∷ []) len fits =
    let small : b < 256 = fits 0 in
    let same : from_be_bytes w8 (b ∷ []) % 256 ≡ b = omega arith in
    ap (λ n. n ∷ []) same
one_byte (b ∷ c ∷ bytes) len fits = absurd (omega arith)

pub wide8 : IsWide w8
wide8 = record {
  len = λ n. refl;
  back = one_byte;
  again = λ n lt. omega arith;
  below = λ bytes fits. omega (arith, fits 0);
}

pub wide64 : IsWide w64
wide64 = record {
  len = λ n. refl;
  back = λ bytes len fits. be_bytes_8 bytes _ len fits refl;
  again = λ n lt. from_be_bytes-to_be_bytes_8 n lt;
  below = λ bytes fits. omega (arith, fits 0, fits 1, fits 2, fits 3, fits 4, fits 5, fits 6, fits 7);
}

pub number_exact : (w : Width) → IsWide w → IsExact (number w)
number_exact w wide = record {
  takes = λ bytes x fits e.
      let front = take (byte_len w) bytes in
      let g = guard_ok (ltb (length bytes) (byte_len w)) Truncated (from_be_bytes w front, drop (byte_len w) bytes) x e in
      let long : byte_len w ≤ length bytes = ltb-false _ _ g.0 in
      let front_fits = IsBytes-take (byte_len w) bytes fits in
      let spelled : to_be_bytes w (from_be_bytes w front) ≡ front = wide.back front (omega (arith, length-take (byte_len w) bytes)) front_fits in
      let taken : Takes (number w) bytes (from_be_bytes w front) (drop (byte_len w) bytes) = record { parts = rw spelled (sym (take-append-drop (byte_len w) bytes)); rest_fits = IsBytes-drop (byte_len w) bytes fits; fits = lt-ltb _ _ (wide.below front front_fits) } in
      subst (λ (y : ℕ × List ℕ). Takes (number w) bytes y.0 y.1) g.1 taken;
  again = λ n rest h.
      let len = wide.len n in
      let long : ltb (length (to_be_bytes w n ++ rest)) (byte_len w) ≡ false = le-ltb _ _ (omega (arith, length-append (to_be_bytes w n) rest)) in
      rw (long, take_at (to_be_bytes w n) rest (byte_len w) len, drop_at (to_be_bytes w n) rest (byte_len w) len, wide.again n (ltb-true _ _ h)) refl;
}

pub raw_exact : (n : ℕ) → IsExact (raw n)
raw_exact n = record {
  takes = λ bytes x fits e.
      let g = guard_ok (ltb (length bytes) n) Truncated (take n bytes, drop n bytes) x e in
      let long : n ≤ length bytes = ltb-false _ _ g.0 in
      let taken : Takes (raw n) bytes (take n bytes) (drop n bytes) = record { parts = sym (take-append-drop n bytes); rest_fits = IsBytes-drop n bytes fits; fits = eq-eqb _ _ (omega (arith, length-take n bytes)) } in
      subst (λ (y : List ℕ × List ℕ). Takes (raw n) bytes y.0 y.1) g.1 taken;
  again = λ x rest h.
      let len : length x ≡ n = eqb-true _ _ h in
      let long : ltb (length (x ++ rest)) n ≡ false = le-ltb _ _ (omega (arith, length-append x rest)) in
      rw (long, take_at x rest n len, drop_at x rest n len) refl;
}

pub where_exact : {X : Type 0} (test : X → Bool) (fault : FieldFault) (f : Format X) → IsExact f → IsExact (where_it test fault f)
where_exact {X} test fault f exact = record {
  takes = λ bytes x fits e.
      let b = bind_ok (f.read bytes) (λ y. cond (test y.0) (Ok y) (Err fault)) x e in
      let p = pass_ok (test b.0.0) fault b.0 x b.2 in
      let t = exact.takes bytes b.0 fits b.1 in
      let taken : Takes (where_it test fault f) bytes b.0.0 b.0.1 = record { parts = t.parts; rest_fits = t.rest_fits; fits = and_true _ _ t.fits p.0 } in
      subst (λ (y : X × List ℕ). Takes (where_it test fault f) bytes y.0 y.1) p.1 taken;
  again = λ x rest h.
      let p = both (f.fits x) (test x) h in
      rw (exact.again x rest p.0, p.1) refl;
}

pub before_exact : {A B : Type 0} (f : Format A) (g : A → Format B) → IsExact f → ((a : A) → IsExact (g a)) → IsExact (before f g)
before_exact {A} {B} f g first second = record {
  takes = λ bytes x fits e.
      let a = bind_ok (f.read bytes) (λ a. (g a.0).read a.1 >>= λ b. Ok ((a.0, b.0), b.1)) x e in
      let b = bind_ok ((g a.0.0).read a.0.1) (λ b. Ok ((a.0.0, b.0), b.1)) x a.2 in
      let t = first.takes bytes a.0 fits a.1 in
      let u = (second a.0.0).takes a.0.1 b.0 t.rest_fits b.1 in
      let made : (A × B) × List ℕ = ((a.0.0, b.0.0), b.0.1) in
      let taken : Takes (before f g) bytes made.0 made.1 = record {
        parts = t.parts ∙ ap (λ (xs : List ℕ). f.spell a.0.0 ++ xs) u.parts ∙ sym (append_assoc (f.spell a.0.0) ((g a.0.0).spell b.0.0) b.0.1);
        rest_fits = u.rest_fits;
        fits = and_true _ _ t.fits u.fits;
      } in
      subst (λ (y : (A × B) × List ℕ). Takes (before f g) bytes y.0 y.1) (ok_is made x b.2) taken;
  again = λ x rest h.
      let p = both (f.fits x.0) ((g x.0).fits x.1) h in
      rw (append_assoc (f.spell x.0) ((g x.0).spell x.1) rest, first.again x.0 ((g x.0).spell x.1 ++ rest) p.0, (second x.0).again x.1 rest p.1) refl;
}

pub seen_exact : {X Y : Type 0} (to : X → Y) (from : Y → X) (fits : Y → Bool) (f : Format X) → IsExact f
    → ((x : X) → f.fits x ≡ true → (from (to x) ≡ x) × (fits (to x) ≡ true)) → ((y : Y) → fits y ≡ true → (to (from y) ≡ y) × (f.fits (from y) ≡ true)) → IsExact (seen_as to from fits f)
seen_exact {X} {Y} to from fits f exact there back = record {
  takes = λ bytes y bytes_fit e.
      let b = bind_ok (f.read bytes) (λ x. Ok (to x.0, x.1)) y e in
      let t = exact.takes bytes b.0 bytes_fit b.1 in
      let r = there b.0.0 t.fits in
      let made : Y × List ℕ = (to b.0.0, b.0.1) in
      let taken : Takes (seen_as to from fits f) bytes made.0 made.1 = record { parts = rw r.0 t.parts; rest_fits = t.rest_fits; fits = r.1 } in
      subst (λ (z : Y × List ℕ). Takes (seen_as to from fits f) bytes z.0 z.1) (ok_is made y b.2) taken;
  again = λ y rest h.
      let r = back y h in
      rw (exact.again (from y) rest r.1, r.0) refl;
}

pub record_exact : {X Y : Type 0} (to : X → Y) (from : Y → X) (f : Format X) → IsExact f → ((x : X) → f.fits x ≡ true → from (to x) ≡ x) → ((y : Y) → to (from y) ≡ y) → IsExact (as_record to from f)
record_exact {X} {Y} to from f exact there back =
    seen_exact to from (λ y. f.fits (from y)) f exact (λ x h. (there x h, subst (λ (z : X). f.fits z ≡ true) (sym (there x h)) h)) (λ y h. (back y, h))

pub same_bytes : (a b : List ℕ) → bytes_eq a b ≡ true → a ≡ b
same_bytes a b h = grind (arith, common_steps, bytes_eq-Decides a b)

bytes_same : (a : List ℕ) → bytes_eq a a ≡ true
bytes_same a = grind (arith, common_steps, bytes_eq-Decides a a)

pub marked_exact : {X : Type 0} (magic : List ℕ) (f : Format X) → IsExact f → IsExact (marked magic f)
marked_exact {X} magic f exact = record {
  takes = λ bytes x fits e.
      let mark = where_it (bytes_eq magic) Magic (raw (length magic)) in
      let m = bind_ok (mark.read bytes) (λ m. f.read m.1) x e in
      let t = (where_exact (bytes_eq magic) Magic (raw (length magic)) (raw_exact (length magic))).takes bytes m.0 fits m.1 in
      let u = exact.takes m.0.1 x t.rest_fits m.2 in
      let same : magic ≡ m.0.0 = same_bytes magic m.0.0 (both ((raw (length magic)).fits m.0.0) (bytes_eq magic m.0.0) t.fits).1 in
      record {
        parts = t.parts ∙ ap (λ (xs : List ℕ). xs ++ m.0.1) (sym same) ∙ ap (λ (xs : List ℕ). magic ++ xs) u.parts ∙ sym (append_assoc magic (f.spell x.0) x.1);
        rest_fits = u.rest_fits;
        fits = u.fits;
      };
  again = λ x rest h.
      let front = (where_exact (bytes_eq magic) Magic (raw (length magic)) (raw_exact (length magic))).again magic (f.spell x ++ rest) (and_true _ _ (eq-eqb (length magic) (length magic) refl) (bytes_same magic)) in
      rw (append_assoc magic (f.spell x) rest, front, exact.again x rest h) refl;
}

-- ---- all of the bytes

pub whole_takes : {X : Type 0} (f : Format X) → IsExact f → (bytes : List ℕ) (x : X) → IsBytes bytes → whole f bytes ≡ Ok x → (f.fits x ≡ true) × (bytes ≡ f.spell x)
whole_takes {X} f exact bytes x fits e =
    let b = bind_ok (f.read bytes) (λ y. cond (eqb (length y.1) 0) (Ok y.0) (Err Trailing)) x e in
    let p = pass_ok (eqb (length b.0.1) 0) Trailing b.0.0 x b.2 in
    let t = exact.takes bytes b.0 fits b.1 in
    let nothing : b.0.1 ≡ [] = nil_from_length b.0.1 (eqb-true _ _ p.0) in
    let all : bytes ≡ f.spell b.0.0 = t.parts ∙ ap (λ (r : List ℕ). f.spell b.0.0 ++ r) nothing ∙ append-nil (f.spell b.0.0) in
    subst (λ (y : X). (f.fits y ≡ true) × (bytes ≡ f.spell y)) p.1 (t.fits, all)

pub whole_again : {X : Type 0} (f : Format X) → IsExact f → (x : X) → f.fits x ≡ true → whole f (f.spell x) ≡ Ok x
whole_again f exact x h =
    let e : f.read (f.spell x) ≡ Ok (x, []) = ap f.read (sym (append-nil (f.spell x))) ∙ exact.again x [] h in
    rw e refl

-- values with one spelling are the same
pub one_value : {X : Type 0} (f : Format X) → IsExact f → (a b : X) → f.fits a ≡ true → f.fits b ≡ true → f.spell a ≡ f.spell b → a ≡ b
one_value {X} f exact a b p q e = ok_is a b (sym (whole_again f exact a p) ∙ ap (whole f) e ∙ whole_again f exact b q)

-- no spelling is a proper front of another
pub no_front : {X : Type 0} (f : Format X) → IsExact f → (a b : X) (more : List ℕ) → f.fits a ≡ true → f.fits b ≡ true → f.spell a ++ more ≡ f.spell b → more ≡ []
no_front {X} f exact a b more p q e =
    let one : f.read (f.spell b) ≡ Ok (a, more) = ap f.read (sym e) ∙ exact.again a more p in
    let two : f.read (f.spell b) ≡ Ok (b, []) = ap f.read (sym (append-nil (f.spell b))) ∙ exact.again b [] q in
    ap (λ (y : X × List ℕ). y.1) (ok_is (a, more) (b, []) (sym one ∙ two))

-- ---- the fields of numbers

pair_is : (a b : ℕ) (p : ℕ × ℕ) → a ≡ p.0 → b ≡ p.1 → ◌≡◌ {A = ℕ × ℕ} (a, b) p
pair_is a b (c, d) q r = cc

wide_there : (p : ℕ × ℕ) → (nat_lt p.0 (2 ^ 64) && nat_lt p.1 (2 ^ 64)) ≡ true → (◌≡◌ {A = ℕ × ℕ} ((p.0 * 2 ^ 64 + p.1) / 2 ^ 64, (p.0 * 2 ^ 64 + p.1) % 2 ^ 64) p) × (nat_lt (p.0 * 2 ^ 64 + p.1) (2 ^ 128) ≡ true)
wide_there p h =
    let b = both (nat_lt p.0 (2 ^ 64)) (nat_lt p.1 (2 ^ 64)) h in
    let high : p.0 < 2 ^ 64 = ltb-true _ _ b.0 in
    let low : p.1 < 2 ^ 64 = ltb-true _ _ b.1 in
    (pair_is ((p.0 * 2 ^ 64 + p.1) / 2 ^ 64) ((p.0 * 2 ^ 64 + p.1) % 2 ^ 64) p (omega arith) (omega arith), lt-ltb (p.0 * 2 ^ 64 + p.1) (2 ^ 128) (omega arith))

wide_back : (n : ℕ) → nat_lt n (2 ^ 128) ≡ true → (n / 2 ^ 64 * 2 ^ 64 + n % 2 ^ 64 ≡ n) × ((nat_lt (n / 2 ^ 64) (2 ^ 64) && nat_lt (n % 2 ^ 64) (2 ^ 64)) ≡ true)
wide_back n h =
    let below : n < 2 ^ 128 = ltb-true _ _ h in
    (omega arith, and_true _ _ (lt-ltb (n / 2 ^ 64) (2 ^ 64) (omega arith)) (lt-ltb (n % 2 ^ 64) (2 ^ 64) (omega arith)))

pub u8_exact : IsExact u8_field
unfolding u8_field
u8_exact = number_exact w8 wide8

pub few_exact : (most : ℕ) → IsExact (few_field most)
unfolding few_field
few_exact most = where_exact (λ n. nat_le 1 n && nat_le n most) Range u8_field u8_exact

pub u16_exact : IsExact u16_field
unfolding u16_field
u16_exact = number_exact w16 wide16

pub u64_exact : IsExact u64_field
unfolding u64_field
u64_exact = number_exact w64 wide64

-- how long numbers are
pub u16-length : (n : ℕ) → length (u16_field.spell n) ≡ 2
unfolding u16_field
u16-length n = wide16.len n

pub u64-length : (n : ℕ) → length (u64_field.spell n) ≡ 8
unfolding u64_field
u64-length n = wide64.len n

pub i64-length : (z : ℤ) → length (i64_field.spell z) ≡ 8
unfolding i64_field
i64-length z = u64-length _

u128_exact : IsExact u128_field
unfolding u128_field u64_field
u128_exact = seen_exact (λ p. p.0 * 2 ^ 64 + p.1) (λ n. (n / 2 ^ 64, n % 2 ^ 64)) (λ n. nat_lt n (2 ^ 128)) (before u64_field (λ _. u64_field)) (before_exact u64_field (λ _. u64_field) u64_exact (λ _. u64_exact)) wide_there wide_back

pub fits_long : (z : ℤ) → is_i64 z ≡ true → FitsSigned w64 z
fits_long (pos n) h = record { sfits = ltb-true _ _ h }
fits_long (negsuc n) h = record { sfits = ltb-true _ _ h }

pub is_i64_from : (z : ℤ) → FitsSigned w64 z → is_i64 z ≡ true
is_i64_from (pos n) h = lt-ltb _ _ h.sfits
is_i64_from (negsuc n) h = lt-ltb _ _ h.sfits

long_there : (n : ℕ) → u64_field.fits n ≡ true → (cast_unsigned w64 (cast_signed w64 n) ≡ n) × (is_i64 (cast_signed w64 n) ≡ true)
unfolding u64_field
long_there n h = (of_z-to_z w64 n (ltb-true _ _ h), is_i64_from _ (sfits_to_z (record { fits = ltb-true _ _ h })))

long_back : (z : ℤ) → is_i64 z ≡ true → (cast_signed w64 (cast_unsigned w64 z) ≡ z) × (u64_field.fits (cast_unsigned w64 z) ≡ true)
unfolding u64_field
long_back z h =
    let f = Fits-of_z (fits_long z h) in
    (to_z-of_z w64 z (fits_long z h), lt-ltb _ _ f.fits)

pub i64_exact : IsExact i64_field
unfolding i64_field
i64_exact = seen_exact (cast_signed w64) (cast_unsigned w64) is_i64 u64_field u64_exact long_there long_back

fits_from : (z : ℤ) → is_i128 z ≡ true → FitsSigned w128 z
fits_from (pos n) h = record { sfits = ltb-true _ _ h }
fits_from (negsuc n) h = record { sfits = ltb-true _ _ h }

is_i128_from : (z : ℤ) → FitsSigned w128 z → is_i128 z ≡ true
is_i128_from (pos n) h = lt-ltb _ _ h.sfits
is_i128_from (negsuc n) h = lt-ltb _ _ h.sfits

signed_there : (n : ℕ) → u128_field.fits n ≡ true → (cast_unsigned w128 (cast_signed w128 n) ≡ n) × (is_i128 (cast_signed w128 n) ≡ true)
unfolding u128_field
signed_there n h = (of_z-to_z w128 n (ltb-true _ _ h), is_i128_from _ (sfits_to_z (record { fits = ltb-true _ _ h })))

signed_back : (z : ℤ) → is_i128 z ≡ true → (cast_signed w128 (cast_unsigned w128 z) ≡ z) × (u128_field.fits (cast_unsigned w128 z) ≡ true)
unfolding u128_field
signed_back z h =
    let f = Fits-of_z (fits_from z h) in
    (to_z-of_z w128 z (fits_from z h), lt-ltb _ _ f.fits)

pub i128_exact : IsExact i128_field
unfolding i128_field
i128_exact = seen_exact (cast_signed w128) (cast_unsigned w128) is_i128 u128_field u128_exact signed_there signed_back

-- ---- lists

pub nothing_exact : {X : Type 0} → IsExact {X = List X} nothing
nothing_exact {X} = record {
  takes = λ bytes x fits e.
      let taken : Takes {X = List X} nothing bytes [] bytes = record { parts = refl; rest_fits = fits; fits = refl } in
      subst (λ (y : List X × List ℕ). Takes {X = List X} nothing bytes y.0 y.1) (ok_is ([], bytes) x e) taken;
  again = empty_again;
}
  where
    empty_again : (x : List X) (rest : List ℕ) → nothing.fits x ≡ true → nothing.read (nothing.spell x ++ rest) ≡ Ok (x, rest)
    empty_again [] rest h = refl
    empty_again (x ∷ xs) rest h = absurd cc

list_again : {X : Type 0} (f : Format (X × List X)) → IsExact f → (x : List X) (rest : List ℕ) → (as_list f).fits x ≡ true → (as_list f).read ((as_list f).spell x ++ rest) ≡ Ok (x, rest)
list_again f exact [] rest h = absurd cc
list_again f exact (x ∷ xs) rest h = rw (exact.again (x, xs) rest h) refl

pub list_exact : {X : Type 0} (f : Format (X × List X)) → IsExact f → IsExact (as_list f)
list_exact {X} f exact = record {
  takes = λ bytes x fits e.
      let b = bind_ok (f.read bytes) (λ y. Ok (y.0.0 ∷ y.0.1, y.1)) x e in
      let t = exact.takes bytes b.0 fits b.1 in
      let made : List X × List ℕ = (b.0.0.0 ∷ b.0.0.1, b.0.1) in
      let taken : Takes (as_list f) bytes made.0 made.1 = record { parts = t.parts; rest_fits = t.rest_fits; fits = t.fits } in
      subst (λ (y : List X × List ℕ). Takes (as_list f) bytes y.0 y.1) (ok_is made x b.2) taken;
  again = list_again f exact;
}

pub chain_exact : {X : Type 0} (item : Option X → Format X) → ((last : Option X) → IsExact (item last)) → (last : Option X) (n : ℕ) → IsExact (chain item last n)
unfolding chain
chain_exact item exact last zero = nothing_exact
chain_exact item exact last (suc n) = list_exact (before (item last) (λ x. chain item (Some x) n)) (before_exact (item last) (λ x. chain item (Some x) n) (exact last) (λ x. chain_exact item exact (Some x) n))

pub chain-length : {X : Type 0} (item : Option X → Format X) (last : Option X) (n : ℕ) (xs : List X) → (chain item last n).fits xs ≡ true → length xs ≡ n
unfolding chain
chain-length item last zero [] h = refl
chain-length item last zero (x ∷ xs) h = absurd cc
chain-length item last (suc n) [] h = absurd cc
chain-length item last (suc n) (x ∷ xs) h =
    let rest = both ((item last).fits x) ((chain item (Some x) n).fits xs) h in
    ap suc (chain-length item (Some x) n xs rest.1)

-- where each item is spelled alike whatever stands before it
pub chain-spell : {X : Type 0} (item : Option X → Format X) (spelled : X → List ℕ) (P : X → Type 0) → ((last : Option X) (x : X) → P x → (item last).spell x ≡ spelled x)
    → (last : Option X) (n : ℕ) (xs : List X) → length xs ≡ n → All P xs → (chain item last n).spell xs ≡ flat_map spelled xs
unfolding chain
chain-spell item spelled P alike last zero [] h all = refl
chain-spell item spelled P alike last zero (x ∷ xs) h all = absurd cc
chain-spell item spelled P alike last (suc n) [] h all = absurd cc
chain-spell item spelled P alike last (suc n) (x ∷ xs) h all =
    let rest : length xs ≡ n = omega arith in
    rw (alike last x (All-head P x xs all), chain-spell item spelled P alike (Some x) n xs rest (All-tail P x xs all)) refl

pub counted-spell-where : {X : Type 0} (count : Format ℕ) (item : Option X → Format X) (spelled : X → List ℕ) (P : X → Type 0) → ((last : Option X) (x : X) → P x → (item last).spell x ≡ spelled x)
    → (xs : List X) → All P xs → (counted count item).spell xs ≡ count.spell (length xs) ++ flat_map spelled xs
unfolding counted
counted-spell-where count item spelled P alike xs all = ap (λ (bytes : List ℕ). count.spell (length xs) ++ bytes) (chain-spell item spelled P alike None (length xs) xs refl all)

pub all_units : {X : Type 0} (xs : List X) → All (λ _. Unit {0}) xs
all_units xs k d below = tt

pub counted-spell : {X : Type 0} (count : Format ℕ) (item : Option X → Format X) (spelled : X → List ℕ) → ((last : Option X) (x : X) → (item last).spell x ≡ spelled x)
    → (xs : List X) → (counted count item).spell xs ≡ count.spell (length xs) ++ flat_map spelled xs
counted-spell count item spelled alike xs = counted-spell-where count item spelled (λ _. Unit {0}) (λ last x _. alike last x) xs (all_units xs)

-- what holds of each item that fits, whatever stands before it, holds of all
pub chain-all : {X : Type 0} (item : Option X → Format X) (P : X → Type 0) → ((last : Option X) (x : X) → (item last).fits x ≡ true → P x) → (last : Option X) (n : ℕ) (xs : List X) → (chain item last n).fits xs ≡ true → All P xs
unfolding chain
chain-all item P each last zero [] h = All-nil P
chain-all item P each last zero (x ∷ xs) h = absurd cc
chain-all item P each last (suc n) [] h = absurd cc
chain-all item P each last (suc n) (x ∷ xs) h =
    let parts = both ((item last).fits x) ((chain item (Some x) n).fits xs) h in
    All-cons P x xs (each last x parts.0) (chain-all item P each (Some x) n xs parts.1)

pub counted-fits : {X : Type 0} (count : Format ℕ) (item : Option X → Format X) (P : X → Type 0) → ((last : Option X) (x : X) → (item last).fits x ≡ true → P x)
    → (xs : List X) → (counted count item).fits xs ≡ true → (count.fits (length xs) ≡ true) × All P xs
unfolding counted
counted-fits count item P each xs h =
    let parts = both (count.fits (length xs)) ((chain item None (length xs)).fits xs) h in
    (parts.0, chain-all item P each None (length xs) xs parts.1)

pub sized-fits : (count : Format ℕ) (bytes : List ℕ) → (sized count).fits bytes ≡ true → count.fits (length bytes) ≡ true
unfolding sized
sized-fits count bytes h = (both (count.fits (length bytes)) ((raw (length bytes)).fits bytes) h).0

pub chain-read-length : {X : Type 0} (item : Option X → Format X) (last : Option X) (n : ℕ) (bytes : List ℕ) (x : List X × List ℕ) → (chain item last n).read bytes ≡ Ok x → length x.0 ≡ n
unfolding chain
chain-read-length {X} item last zero bytes x h = ap (λ (y : List X × List ℕ). length y.0) (sym (ok_is ([], bytes) x h))
chain-read-length {X} item last (suc n) bytes x h =
    let both_read = before (item last) (λ y. chain item (Some y) n) in
    let a = bind_ok (both_read.read bytes) (λ y. Ok (y.0.0 ∷ y.0.1, y.1)) x h in
    let b = bind_ok ((item last).read bytes) (λ y. (chain item (Some y.0) n).read y.1 >>= λ z. Ok ((y.0, z.0), z.1)) a.0 a.1 in
    let d = bind_ok ((chain item (Some b.0.0) n).read b.0.1) (λ z. Ok ((b.0.0, z.0), z.1)) a.0 b.2 in
    let rest = chain-read-length item (Some b.0.0) n b.0.1 d.0 d.1 in
    let same : d.0.0 ≡ a.0.0.1 = ap (λ (y : (X × List X) × List ℕ). y.0.1) (ok_is ((b.0.0, d.0.0), d.0.1) a.0 d.2) in
    ap (λ (y : List X × List ℕ). length y.0) (sym (ok_is (a.0.0.0 ∷ a.0.0.1, a.0.1) x a.2)) ∙ ap suc (ap (length {A = X}) (sym same) ∙ rest)

with_its_length : {X : Type 0} (f : Format (ℕ × List X)) → IsExact f → ((x : ℕ × List X) → f.fits x ≡ true → length x.1 ≡ x.0) → IsExact (seen_as the_list with_length (λ xs. f.fits (with_length xs)) f)
with_its_length {X} f exact counts = seen_exact the_list with_length (λ xs. f.fits (with_length xs)) f exact there (λ xs h. (refl, h))
  where
    there : (x : ℕ × List X) → f.fits x ≡ true → (with_length (the_list x) ≡ x) × (f.fits (with_length (the_list x)) ≡ true)
    there x h =
        let e : with_length (the_list x) ≡ x = ap (λ (n : ℕ). (n, x.1)) (counts x h) in
        (e, subst (λ (y : ℕ × List X). f.fits y ≡ true) (sym e) h)

pub counted_exact : {X : Type 0} (count : Format ℕ) (item : Option X → Format X) → IsExact count → ((last : Option X) → IsExact (item last)) → IsExact (counted count item)
unfolding counted
counted_exact {X} count item exact items =
    with_its_length (before count (λ n. chain item None n)) (before_exact count (λ n. chain item None n) exact (λ n. chain_exact item items None n))
    (λ x h. chain-length item None x.0 x.1 (both (count.fits x.0) ((chain item None x.0).fits x.1) h).1)

-- items that do not depend on one another fit where each of them does
chain-each : {X : Type 0} (item : Format X) (last : Option X) (xs : List X) → (chain (λ _. item) last (length xs)).fits xs ≡ list_all item.fits xs
unfolding chain
chain-each item last [] = refl
chain-each item last (x ∷ xs) = ap (λ (b : Bool). item.fits x && b) (chain-each item (Some x) xs)

listed-fits : {X : Type 0} (count : Format ℕ) (item : Format X) (xs : List X) → (counted count (λ _. item)).fits xs ≡ (listed count item).fits xs
unfolding counted
listed-fits count item xs = ap (λ (b : Bool). count.fits (length xs) && b) (chain-each item None xs)

pub listed_exact : {X : Type 0} (count : Format ℕ) (item : Format X) → IsExact count → IsExact item → IsExact (listed count item)
listed_exact {X} count item exact items =
    let all = counted_exact count (λ _. item) exact (λ _. items) in
    let spelled = counted-spell count (λ _. item) item.spell (λ last x. refl) in
    record {
      takes = λ bytes x fits e.
          let t = all.takes bytes x fits e in
          record { parts = t.parts ∙ ap (λ (front : List ℕ). front ++ x.1) (spelled x.0); rest_fits = t.rest_fits; fits = sym (listed-fits count item x.0) ∙ t.fits };
      again = λ x rest h. ap (λ (front : List ℕ). (counted count (λ _. item)).read (front ++ rest)) (sym (spelled x)) ∙ all.again x rest (listed-fits count item x ∙ h);
    }

pub sized_exact : (count : Format ℕ) → IsExact count → IsExact (sized count)
unfolding sized
sized_exact count exact =
    with_its_length (before count raw) (before_exact count raw exact raw_exact)
    (λ x h. eqb-true _ _ (both (count.fits x.0) ((raw x.0).fits x.1) h).1)

-- ---- a loop

-- what was read before, and what is still read
abbrev pub with_front : {X : Type 0} → List X → Result (List X × List ℕ) FieldFault → Result (List X × List ℕ) FieldFault
with_front front read = read >>= λ x. Ok (front ++ x.0, x.1)

abbrev paired : {X : Type 0} → X → List X × List ℕ → Result ((X × List X) × List ℕ) FieldFault
paired x b = Ok ((x, b.0), b.1)

abbrev consed : {X : Type 0} → (X × List X) × List ℕ → Result (List X × List ℕ) FieldFault
consed y = Ok (y.0.0 ∷ y.0.1, y.1)

regroup : {X : Type 0} (front : List X) (x : X) (read : Result (List X × List ℕ) FieldFault) → with_front front ((read >>= paired x) >>= consed) ≡ with_front (front ++ x ∷ []) read
regroup {X} front x (Ok b) = ap (λ (xs : List X). Ok (xs, b.1)) (simp append_assoc)
regroup front x (Err f) = refl

-- the first item of a list is read, and comes behind what was read before
pub list-step : {X : Type 0} (f : Format X) (g : X → Format (List X)) (front : List X) (bytes : List ℕ) (x : X) (after : List ℕ) → f.read bytes ≡ Ok (x, after)
    → with_front front ((as_list (before f g)).read bytes) ≡ with_front (front ++ x ∷ []) ((g x).read after)
list-step f g front bytes x after h = rw h (regroup front x ((g x).read after))

pub list-fails : {X : Type 0} (f : Format X) (g : X → Format (List X)) (front : List X) (bytes : List ℕ) (fault : FieldFault) → f.read bytes ≡ Err fault
    → with_front front ((as_list (before f g)).read bytes) ≡ Err fault
list-fails f g front bytes fault h = rw h refl

pub list-done : {X : Type 0} (front : List X) (bytes : List ℕ) → with_front front (nothing.read bytes) ≡ Ok (front, bytes)
list-done {X} front bytes = ap (λ (xs : List X). Ok (xs, bytes)) (append-nil front)

goes_on : {X : Type 0} (item : Option X → Format X) (last : Option X) (front : List X) (count i : ℕ) (bytes : List ℕ) (x : X) (after : List ℕ) (total : Result (List X × List ℕ) FieldFault) → i < count
    → (item last).read bytes ≡ Ok (x, after) → with_front front ((chain item last (count - i)).read bytes) ≡ total → with_front (front ++ x ∷ []) ((chain item (Some x) (count - (i + 1))).read after) ≡ total
unfolding chain
goes_on item last front count i bytes x after total lt h so_far =
    let k : count - i ≡ suc (count - (i + 1)) = omega arith in
    sym (list-step (item last) (λ y. chain item (Some y) (count - (i + 1))) front bytes x after h) ∙ (rw k at so_far)

ends : {X : Type 0} (item : Option X → Format X) (last : Option X) (e : ReadFault) (front : List X) (count i : ℕ) (bytes : List ℕ) (total : Result (List X × List ℕ) FieldFault) → i < count
    → Fails e ((item last).read bytes) → with_front front ((chain item last (count - i)).read bytes) ≡ total → Fails e total
unfolding chain
ends item last faults.Memory front count i bytes total lt h so_far = tt
ends item last (faults.Bytes f) front count i bytes total lt h so_far =
    let k : count - i ≡ suc (count - (i + 1)) = omega arith in
    sym (rw k at so_far) ∙ list-fails (item last) (λ y. chain item (Some y) (count - (i + 1))) front bytes f h

is_done : {X : Type 0} (item : Option X → Format X) (last : Option X) (front : List X) (count i : ℕ) (bytes : List ℕ) (total : Result (List X × List ℕ) FieldFault) → count ≤ i
    → with_front front ((chain item last (count - i)).read bytes) ≡ total → total ≡ Ok (front, bytes)
unfolding chain
is_done {X} item last front count i bytes total le so_far =
    let k : count - i ≡ 0 = omega arith in
    let one : with_front front ((chain item last (count - i)).read bytes) ≡ Ok (front, bytes) = rw k (ap (λ (xs : List X). Ok (xs, bytes)) (append-nil front)) in
    sym so_far ∙ one

-- ---- a loop that keeps the items in a list

pub last_of-append : {X : Type 0} (xs : List X) (x : X) → last_of (xs ++ x ∷ []) ≡ Some x
last_of-append xs x =
    let long : length (xs ++ x ∷ []) ≡ length xs + 1 = omega (arith, length-append xs (x ∷ [])) in
    let at : length (xs ++ x ∷ []) - 1 ≡ length xs = omega arith in
    rw at (slice_get_read (xs ++ x ∷ []) (length (xs ++ x ∷ [])) (length xs) x refl (omega arith) (sym (get_or-append_seam xs x [] x)))

-- of a list of so many items, i are read
abbrev pub IsReadSoFar : {X : Type 0} → (Option X → Format X) → ℕ → ℕ → List X → List ℕ → List ℕ → Type 0
IsReadSoFar item count i front rest bytes = with_front front ((chain item (last_of front) (count - i)).read rest) ≡ (chain item None count).read bytes

with_no_front : {X : Type 0} (read : Result (List X × List ℕ) FieldFault) → with_front [] read ≡ read
with_no_front (Ok x) = refl
with_no_front (Err fault) = refl

pub reads_none : {X : Type 0} (item : Option X → Format X) (count : ℕ) (bytes : List ℕ) → IsReadSoFar item count 0 [] bytes bytes
reads_none item count bytes =
    let all : count - 0 ≡ count = omega arith in
    rw all (with_no_front ((chain item None count).read bytes))

pub reads_one : {X : Type 0} (item : Option X → Format X) (count i : ℕ) (front : List X) (rest bytes : List ℕ) (x : X) (after : List ℕ) → i < count
    → (item (last_of front)).read rest ≡ Ok (x, after) → IsReadSoFar item count i front rest bytes → IsReadSoFar item count (i + 1) (front ++ x ∷ []) after bytes
reads_one item count i front rest bytes x after lt h so_far =
    rw (last_of-append front x) (goes_on item (last_of front) front count i rest x after ((chain item None count).read bytes) lt h so_far)

pub fails_at : {X : Type 0} (item : Option X → Format X) (e : ReadFault) (count i : ℕ) (front : List X) (rest bytes : List ℕ) → i < count
    → Fails e ((item (last_of front)).read rest) → IsReadSoFar item count i front rest bytes → Fails e ((chain item None count).read bytes)
fails_at item e count i front rest bytes lt h so_far = ends item (last_of front) e front count i rest ((chain item None count).read bytes) lt h so_far

pub reads_all : {X : Type 0} (item : Option X → Format X) (count i : ℕ) (front : List X) (rest bytes : List ℕ) → count ≤ i
    → IsReadSoFar item count i front rest bytes → (chain item None count).read bytes ≡ Ok (front, rest)
reads_all item count i front rest bytes le so_far = is_done item (last_of front) front count i rest ((chain item None count).read bytes) le so_far
