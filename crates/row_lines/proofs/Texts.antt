-- The texts of numbers with spaces between, and of rows.
use Rattle.std.proofs.Common.{◌≡◌, ℕ, ℤ, pos, ◌+◌, ◌<◌, ◌≤◌, false, eqb, List, [], ◌∷◌, ◌++◌, length, map, get_or, take, drop, ◌-◌, to_z, of_z, take_all, Result, Ok, Err, Option, Some, None, IfOk, FitsSigned, rules, arith, refl, sym, ap, subst, ◌∙◌, append_assoc, append-nil}
use mir.Syntax.{w64, w128}
use Rattle.std.specs.Fmt.{signed_decimal}
use Rattle.std.specs.List.{All, slice_split, join_with_byte, flat_map}
use Rattle.std.proofs.lemmas.List.Concat.{flat_map-cons}
use Rattle.std.proofs.lemmas.Bool.{ne_eqb}
use Rattle.std.proofs.lemmas.List.Elements.{All-cons, All-tail, All-get_or, All-weaker}
use Rattle.std.proofs.lemmas.Int.{to_z-of_z}
use Rattle.std.proofs.lemmas.List.Splits.{slice_split_none, slice_split_at}
use Rattle.plan_model.specs.declared.spec.Row.{Row}
use Rattle.row_lines.specs.Text.{spaced, text_of_row}
use Rattle.row_lines.specs.Numbers.{AreNumbers, text_of_numbers}
use Rattle.row_lines.specs.Rows.{IsRow, numbers_in, GivesRowOf, GivesRow}
use Rattle.row_lines.proofs.Numbers.{number_above, same_numbers}
use Rattle.row_lines.proofs.Fronts.{wider}

no_space : (b : ℕ) → 32 < b → eqb b 32 ≡ false
no_space b h = ne_eqb b 32 (λ e. omega arith)

number_apart : (z : ℤ) → All (λ b. eqb b 32 ≡ false) (signed_decimal z)
number_apart z = All-weaker (λ b. 32 < b) (λ b. eqb b 32 ≡ false) no_space (signed_decimal z) (number_above z)

-- numbers stand between the spaces of their text
pub split_numbers : (numbers : List ℤ) → 0 < length numbers → slice_split (λ b. eqb b 32) (text_of_numbers numbers) ≡ map signed_decimal numbers
split_numbers [] some = absurd (omega arith)
split_numbers (z ∷ []) some = slice_split_none (λ b. eqb b 32) (signed_decimal z) (number_apart z)
split_numbers (z ∷ y ∷ numbers) some =
    slice_split_at (λ b. eqb b 32) (signed_decimal z) 32 (text_of_numbers (y ∷ numbers)) (number_apart z) refl
    ∙ ap (λ rest. signed_decimal z ∷ rest) (split_numbers (y ∷ numbers) (omega arith))

-- a text is of one list of numbers
pub numbers_unique : (xs ys : List ℤ) → AreNumbers xs → 0 < length ys → text_of_numbers xs ≡ text_of_numbers ys → xs ≡ ys
numbers_unique xs ys are some e =
    same_numbers xs ys are.fit (sym (split_numbers xs are.some) ∙ ap (slice_split (λ b. eqb b 32)) e ∙ split_numbers ys some)

joined : (x : List ℕ) (numbers : List ℤ) → join_with_byte 32 (x ∷ map signed_decimal numbers) ≡ x ++ flat_map spaced numbers
joined x [] = sym (append-nil x)
joined x (z ∷ numbers) = ap (λ rest. x ++ (32 ∷ rest)) (joined (signed_decimal z) numbers) ∙ ap (λ rest. x ++ rest) (sym (flat_map-cons spaced z numbers))

-- a row's text is that of its numbers
pub row_text : (row : Row) → text_of_row row ≡ text_of_numbers (numbers_in row)
row_text row =
    let s = signed_decimal row.start in
    append_assoc (s ++ spaced row.end) (spaced row.key) (flat_map spaced row.values)
    ∙ append_assoc s (spaced row.end) (spaced row.key ++ flat_map spaced row.values)
    ∙ ap (λ rest. s ++ (32 ∷ (signed_decimal row.end ++ (32 ∷ rest)))) (sym (joined (signed_decimal row.key) row.values))

-- and they are such as a row can have
pub row_numbers : (row : Row) → IsRow row → AreNumbers (numbers_in row)
row_numbers row h = record {
  some = search rules;
  few = let few = h.few in omega arith;
  fit =
      All-cons (FitsSigned w128) row.start (row.end ∷ row.key ∷ row.values) (wider row.start h.start)
      (All-cons (FitsSigned w128) row.end (row.key ∷ row.values) (wider row.end h.end)
      (All-cons (FitsSigned w128) row.key row.values (wider row.key h.key) h.values));
}

-- from numbers to a row
pub row_given : {E : Type 0} (r : Result (Option Row) E) (line : List ℕ) (numbers : List ℤ) → AreNumbers numbers → line ≡ text_of_numbers numbers → IfOk r (GivesRowOf numbers) → IfOk r (GivesRow line)
row_given (Err e) line numbers are is h = tt
row_given (Ok (Some row)) line numbers are is h = ((h are).0, is ∙ ap text_of_numbers (h are).1 ∙ sym (row_text row))
row_given (Ok None) line numbers are is h = λ row is_row same. h row is_row (numbers_unique numbers (numbers_in row) are (omega arith) (sym is ∙ same ∙ row_text row))

front_three : (ns : List ℤ) → 3 ≤ length ns → ns ≡ get_or ns 0 (pos 0) ∷ get_or ns 1 (pos 0) ∷ get_or ns 2 (pos 0) ∷ take (length ns - 3) (drop 3 ns)
front_three [] long = absurd (omega arith)
front_three (x ∷ []) long = absurd (omega arith)
front_three (x ∷ y ∷ []) long = absurd (omega arith)
front_three (x ∷ y ∷ z ∷ ns) long =
    let count : length (x ∷ y ∷ z ∷ ns) - 3 ≡ length ns = omega arith in
    ap (λ rest. x ∷ y ∷ z ∷ rest) (sym (ap (λ n. take n ns) count ∙ take_all (length ns) ns (omega arith)))

row_from : (ns : List ℤ) (s e k : ℤ) (vs : List ℤ) → AreNumbers ns → FitsSigned w64 s → FitsSigned w64 e → FitsSigned w64 k → ns ≡ s ∷ e ∷ k ∷ vs → 0 < length vs → IsRow (record { start = s; end = e; key = k; values = vs })
row_from ns s e k vs are s_fits e_fits k_fits is some =
    let few : length ns ≤ 11 = are.few in
    let long : length ns ≡ 3 + length vs = ap (length {A = ℤ}) is ∙ omega arith in
    let fit : All (FitsSigned w128) (s ∷ e ∷ k ∷ vs) = subst (λ (l : List ℤ). All (FitsSigned w128) l) is are.fit in
    record {
      start = s_fits;
      end = e_fits;
      key = k_fits;
      some = some;
      few = omega arith;
      values = All-tail (FitsSigned w128) k vs (All-tail (FitsSigned w128) e (k ∷ vs) (All-tail (FitsSigned w128) s (e ∷ k ∷ vs) fit));
    }

-- a number of the list, by way of its bits
abbrev through : ℤ → ℤ
through z = to_z w128 (of_z w128 z)

at_place : (ns : List ℤ) (i : ℕ) → All (FitsSigned w128) ns → i < length ns → through (get_or ns i (pos 0)) ≡ get_or ns i (pos 0)
at_place ns i fit lt = to_z-of_z w128 (get_or ns i (pos 0)) (All-get_or (FitsSigned w128) ns i (pos 0) lt fit)

pub row_of_three : (ns : List ℤ) (s e k : ℤ) (vs : List ℤ) → AreNumbers ns → 3 ≤ length ns
    → FitsSigned w64 (through (get_or ns 0 (pos 0))) × (s ≡ through (get_or ns 0 (pos 0)))
    → FitsSigned w64 (through (get_or ns 1 (pos 0))) × (e ≡ through (get_or ns 1 (pos 0)))
    → FitsSigned w64 (through (get_or ns 2 (pos 0))) × (k ≡ through (get_or ns 2 (pos 0)))
    → vs ≡ take (length ns - 3) (drop 3 ns) → 0 < length vs
    → IsRow (record { start = to_z w64 (of_z w64 s); end = to_z w64 (of_z w64 e); key = to_z w64 (of_z w64 k); values = vs })
    × (ns ≡ numbers_in (record { start = to_z w64 (of_z w64 s); end = to_z w64 (of_z w64 e); key = to_z w64 (of_z w64 k); values = vs }))
row_of_three ns s e k vs are long hs he hk hv some =
    let s_fits : FitsSigned w64 s = subst (FitsSigned w64) (sym hs.1) hs.0 in
    let e_fits : FitsSigned w64 e = subst (FitsSigned w64) (sym he.1) he.0 in
    let k_fits : FitsSigned w64 k = subst (FitsSigned w64) (sym hk.1) hk.0 in
    let s_back : to_z w64 (of_z w64 s) ≡ s = to_z-of_z w64 s s_fits in
    let e_back : to_z w64 (of_z w64 e) ≡ e = to_z-of_z w64 e e_fits in
    let k_back : to_z w64 (of_z w64 k) ≡ k = to_z-of_z w64 k k_fits in
    let s_is = s_back ∙ hs.1 ∙ at_place ns 0 are.fit (omega arith) in
    let e_is = e_back ∙ he.1 ∙ at_place ns 1 are.fit (omega arith) in
    let k_is = k_back ∙ hk.1 ∙ at_place ns 2 are.fit (omega arith) in
    let is : ns ≡ to_z w64 (of_z w64 s) ∷ to_z w64 (of_z w64 e) ∷ to_z w64 (of_z w64 k) ∷ vs = front_three ns long ∙ (λ i. sym s_is i ∷ sym e_is i ∷ sym k_is i ∷ sym hv i) in
    (row_from ns _ _ _ vs are (subst (FitsSigned w64) (sym s_back) s_fits) (subst (FitsSigned w64) (sym e_back) e_fits) (subst (FitsSigned w64) (sym k_back) k_fits) is some, is)
