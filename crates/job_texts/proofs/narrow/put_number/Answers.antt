use Rattle.std.proofs.Common.{◌≡◌, ℕ, ℤ, Bool, true, false, pos, negsuc, List, ◌+◌, ◌-◌, ◌<◌, ◌≤◌, ◌∷◌, ◌++◌, refl, ap, sym, subst, ◌∙◌, unsigned_abs, length, drop, set, length-set, arith, rules, to_z, of_z, to_z-of_z}
use Rattle.std.specs.Int.{w64}
use Rattle.std.specs.Fmt.{decimal, signed_decimal}
use Rattle.std.proofs.lemmas.Fmt.{length-decimal-le}
use Rattle.std.proofs.lemmas.List.{drop-set, drop-drop}
use lib.Dec.{T, ltb, ltb→lt}
use lib.Signed.{lt_z}
use mir.Val.{bool_byte}
use Rattle.job_texts.proofs.Ascii.{ascii_behind}
use Rattle.job_texts.proofs.narrow.put_number.Goals as goal

below : (b : Bool) (signs : ℕ) → signs ≡ bool_byte b → signs ≤ 1
below false signs e = omega (arith, e)
below true signs e = omega (arith, e)

no_sign : (n : ℕ) (b : Bool) → ltb n 0 ≡ b → bool_byte b ≡ 0
no_sign n false e = refl
no_sign n true e = absurd (omega (arith, ltb→lt n 0 (subst T (sym e) record {})))

-- a sign that the byte before it is put in place of
over : (line : List ℕ) (n before : ℕ) → 1 ≤ n → n ≤ length line → drop (n - 1) (set (set line (n - 1) 45) (n - 1) before) ≡ before ∷ drop n line
over line n before some within =
    let next : n - 1 + 1 ≡ n = omega arith in
    let inside : n - 1 < length line = omega arith in
    let behind = drop-set line (n - 1) 45 inside in
    drop-set (set line (n - 1) 45) (n - 1) before (omega (arith, inside, length-set line (n - 1) 45))
    ∙ ap (λ l. before ∷ l) (sym (drop-drop 1 (n - 1) (set line (n - 1) 45)) ∙ ap (drop 1) behind ∙ ap (λ k. drop k line) next)

-- a sign that the byte before it stands before
ahead : (line : List ℕ) (n before : ℕ) → 2 ≤ n → n ≤ length line → drop (n - 1 - 1) (set (set line (n - 1) 45) (n - 1 - 1) before) ≡ before ∷ 45 ∷ drop n line
ahead line n before some within =
    let next : n - 1 + 1 ≡ n = omega arith in
    let first : n - 1 - 1 + 1 ≡ n - 1 = omega arith in
    let inside : n - 1 < length line = omega arith in
    drop-set (set line (n - 1) 45) (n - 1 - 1) before (omega (arith, inside, length-set line (n - 1) 45))
    ∙ ap (λ k. before ∷ drop k (set line (n - 1) 45)) first
    ∙ ap (λ l. before ∷ l) (drop-set line (n - 1) 45 inside ∙ ap (λ k. 45 ∷ drop k line) next)

-- the sign, if there is one, and the byte before it
put : (z : ℤ) (line rest : List ℕ) (n before signs : ℕ) → signs ≡ bool_byte (lt_z z (pos 0)) → 2 ≤ n → n ≤ length line → drop n line ≡ decimal (unsigned_abs z) ++ rest
    → drop (n - 1 - signs) (set (set line (n - 1) 45) (n - 1 - signs) before) ≡ before ∷ (signed_decimal z ++ rest)
put (pos m) line rest n before signs e some within written =
    let none : n - 1 - signs ≡ n - 1 = omega (arith, e ∙ no_sign m (ltb m 0) refl) in
    ap (λ k. drop k (set (set line (n - 1) 45) k before)) none ∙ over line n before (omega arith) within ∙ ap (λ l. before ∷ l) written
put (negsuc m) line rest n before signs e some within written =
    let one : n - 1 - signs ≡ n - 1 - 1 = omega (arith, e) in
    ap (λ k. drop k (set (set line (n - 1) 45) k before)) one ∙ ahead line n before some within ∙ ap (λ l. before ∷ 45 ∷ l) written

pub write_digits-digits-requires : goal.write_digits-digits-requires
write_digits-digits-requires c = (omega (arith, length-decimal-le 19 c.unsigned_abs.result (omega arith) (omega arith) (omega arith)), search rules)

pub overflow_sub-line : goal.overflow_sub-line
overflow_sub-line c = omega (arith, length-decimal-le 19 c.unsigned_abs.result (omega arith) (omega arith) (omega arith))

pub overflow_sub-start : goal.overflow_sub-start
overflow_sub-start c = omega (arith, length-decimal-le 19 c.unsigned_abs.result (omega arith) (omega arith) (omega arith))

pub overflow_sub-start-2 : goal.overflow_sub-start-2
overflow_sub-start-2 c = omega (arith, below (lt_z (to_z w64 (of_z w64 c.args.number)) (pos 0)) c.from.result c.from.ensures, length-decimal-le 19 c.unsigned_abs.result (omega arith) (omega arith) (omega arith))

pub returns-clause-short : goal.returns-clause-short
returns-clause-short c = omega (arith, below (lt_z (to_z w64 (of_z w64 c.args.number)) (pos 0)) c.from.result c.from.ensures, length-decimal-le 19 c.unsigned_abs.result (omega arith) (omega arith) (omega arith))

pub returns-clause-written : goal.returns-clause-written
returns-clause-written c =
    let w = c.write_digits-digits in
    let z = c.args.number in
    let long = length-decimal-le 19 c.unsigned_abs.result (omega arith) (omega arith) (omega arith) in
    let same : length w.new.buf ≡ length c.args.line.now = search rules in
    let back = to_z-of_z c.ranges.number in
    let written : drop w.result w.new.buf ≡ decimal (unsigned_abs z) ++ drop c.args.end c.args.line.now =
    w.ensures.written ∙ (λ i. decimal (c.unsigned_abs.ensures.value i) ++ drop c.args.end c.args.line.now) ∙ (λ i. decimal (unsigned_abs (back i)) ++ drop c.args.end c.args.line.now) in
    put z w.new.buf (drop c.args.end c.args.line.now) w.result c.args.before c.from.result (c.from.ensures ∙ (λ i. bool_byte (lt_z (back i) (pos 0)))) (omega arith) (omega arith) written

pub returns-clause-ascii : goal.returns-clause-ascii
returns-clause-ascii c = ascii_behind c.args.before c.args.number c.requires.ascii c.ranges.number
