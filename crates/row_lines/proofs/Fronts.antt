-- Numbers in front of a text.
use Rattle.std.proofs.Common.{◌≡◌, ◌≢◌, ℕ, zero, suc, ℤ, pos, negsuc, ◌-ℤ◌, ◌+◌, ◌-◌, ◌<◌, List, [], ◌∷◌, ◌++◌, length, get_or, take, FitsSigned, rules, arith, refl, sym, ap, subst, ◌∙◌, append_assoc, length-append, to_z, of_z}
use mir.Syntax.{w64, w128}
use Rattle.std.specs.Fmt.{decimal, signed_decimal}
use Rattle.std.specs.List.{All, flat_map}
use Rattle.std.proofs.lemmas.Grind.{flat_map-append}
use Rattle.std.proofs.lemmas.Fmt.{decimal_digit}
use Rattle.std.proofs.lemmas.Int.{to_z-of_z}
use Rattle.std.proofs.lemmas.List.{append-nil}
use Rattle.std.proofs.Math.Seq.{take-append_seam}
use Rattle.std.proofs.lemmas.List.Concat.{flat_map-cons}
use Rattle.std.proofs.lemmas.List.Elements.{All-push, All-weaker}
use Rattle.row_lines.specs.Text.{spaced, text_of_row}
use Rattle.row_lines.specs.Numbers.{IsSizeOf, IsNumberFront, IsSizeFront, AreSpaced, HasFront}
use Rattle.plan_model.specs.declared.spec.Row.{Row}
use Rattle.row_lines.specs.Rows.{IsLineFront}
use Rattle.row_lines.proofs.Sizes.{printed_size}

-- and what stands behind the digits
pub size_printed : (text ds rest : List ℕ) (count size : ℕ) → text ≡ ds ++ rest → ds ≡ take count text → IsSizeOf (take count text) size → 0 < length ds → (get_or ds 0 0 ≡ 48 → length ds ≡ 1) → IsSizeFront text (to_z w64 size) rest
size_printed text ds rest count size parts front h some first =
    let digits : IsSizeOf ds size = subst (λ l. IsSizeOf l size) (sym front) h in
    let small = digits.2 in
    let same : to_z w64 size ≡ pos size = search rules in
    let printed : ds ≡ decimal size = printed_size ds size some first digits.0 digits.1 digits.2 in
    subst (λ z. IsSizeFront text z rest) (sym same) (search rules, (search rules, parts ∙ ap (λ l. l ++ rest) printed))

below_zero : (digits rest : List ℕ) (z : ℤ) → get_or digits 0 0 ≢ 48 → IsSizeFront digits z rest → IsNumberFront (45 ∷ digits) (pos 0 -ℤ z) rest
below_zero digits rest (pos zero) other h = absurd (other (ap (λ l. get_or l 0 0) (h.1.1 ∙ ap (λ l. l ++ rest) (decimal_digit 0 (search rules)))))
below_zero digits rest (pos (suc n)) other h =
    let below : pos 0 -ℤ pos (suc n) ≡ negsuc n = search rules in
    let printed : 45 ∷ digits ≡ signed_decimal (negsuc n) ++ rest = ap (λ l. 45 ∷ l) h.1.1 in
    subst (λ z. IsNumberFront (45 ∷ digits) z rest) (sym below) (search rules, printed)
below_zero digits rest (negsuc n) other h = absurd (omega (arith, h.0))

-- a hyphen before digits that begin with no zero
pub negative_printed : (digits rest : List ℕ) (z : ℤ) → get_or digits 0 0 ≢ 48 → IsSizeFront digits z rest → IsNumberFront (45 ∷ digits) (to_z w64 (of_z w64 (pos 0 -ℤ to_z w64 (of_z w64 z)))) rest
negative_printed digits rest z other h =
    let below = below_zero digits rest z other h in
    let read : to_z w64 (of_z w64 z) ≡ z = to_z-of_z w64 z h.1.0 in
    let same : to_z w64 (of_z w64 (pos 0 -ℤ to_z w64 (of_z w64 z))) ≡ pos 0 -ℤ z = ap (λ n. to_z w64 (of_z w64 (pos 0 -ℤ n))) read ∙ to_z-of_z w64 (pos 0 -ℤ z) below.0 in
    subst (λ n. IsNumberFront (45 ∷ digits) n rest) (sym same) below

-- one number more
pub numbers_more : (text rest behind : List ℕ) (count : ℕ) (z : ℤ) → (numbers : List ℤ) × (length numbers ≡ count) × All (FitsSigned w64) numbers × (text ≡ flat_map spaced numbers ++ rest) → FitsSigned w64 z × (rest ≡ 32 ∷ signed_decimal z ++ behind)
    → (numbers : List ℤ) × (length numbers ≡ count + 1) × All (FitsSigned w64) numbers × (text ≡ flat_map spaced numbers ++ behind)
numbers_more text rest behind count z h front =
    let numbers = h.0 in
    let more : flat_map spaced (numbers ++ z ∷ []) ≡ flat_map spaced numbers ++ spaced z =
    flat_map-append spaced numbers (z ∷ []) ∙ ap (λ l. flat_map spaced numbers ++ l) (flat_map-cons spaced z [] ∙ append-nil (spaced z)) in (
      numbers ++ z ∷ [],
      omega (arith, h.1, length-append numbers (z ∷ [])),
      All-push (FitsSigned w64) numbers z h.2 front.0,
      h.3 ∙ ap (λ l. flat_map spaced numbers ++ l) front.1 ∙ sym (append_assoc (flat_map spaced numbers) (spaced z) behind) ∙ ap (λ l. l ++ behind) (sym more),
    )

-- a front and what stands behind it
pub behind_kept : (line text rest : List ℕ) (s e : ℤ) → HasFront text s e [] → line ≡ text ++ rest → HasFront line (to_z w64 (of_z w64 s)) (to_z w64 (of_z w64 e)) rest
behind_kept line text rest s e front parts =
    let s_back : to_z w64 (of_z w64 s) ≡ s = to_z-of_z w64 s front.start_fits in
    let e_back : to_z w64 (of_z w64 e) ≡ e = to_z-of_z w64 e front.end_fits in
    let is : line ≡ signed_decimal s ++ spaced e ++ 32 ∷ rest = parts ∙ ap (λ l. l ++ rest) front.is ∙ append_assoc (signed_decimal s ++ spaced e) (32 ∷ []) rest in
    let both : HasFront line s e rest = record { start_fits = front.start_fits; end_fits = front.end_fits; is = is } in
    subst (λ z. HasFront line z (to_z w64 (of_z w64 e)) rest) (sym s_back) (subst (λ z. HasFront line s z rest) (sym e_back) both)

-- the front of a line is what does not stand behind it
pub front_kept : (line text rest : List ℕ) (s e : ℤ) → HasFront line s e rest → text ≡ take (length line - length rest) line → HasFront text (to_z w64 (of_z w64 s)) (to_z w64 (of_z w64 e)) []
front_kept line text rest s e has text_is =
    let front = signed_decimal s ++ spaced e ++ 32 ∷ [] in
    let parts : line ≡ front ++ rest = has.is ∙ sym (append_assoc (signed_decimal s ++ spaced e) (32 ∷ []) rest) in
    let long : length line ≡ length front + length rest = ap length parts ∙ length-append front rest in
    let count : length line - length rest ≡ length front = omega (arith, long) in
    let is : text ≡ front = text_is ∙ (λ i. take (count i) (parts i)) ∙ take-append_seam front rest in
    behind_kept text text [] s e (record { start_fits = has.start_fits; end_fits = has.end_fits; is = is }) (sym (append-nil text))

-- a number of 64 bits has 128
pub wider : (z : ℤ) → FitsSigned w64 z → FitsSigned w128 z
wider z h = search rules

-- the line of a row, by what stands in front of a text
pub line_given : (text behind_front behind_key rest : List ℕ) (s e k : ℤ) (width : ℕ) → HasFront text s e behind_front → IsNumberFront behind_front k behind_key → AreSpaced behind_key width rest → 0 < width
    → IsLineFront text (record { pane = record { start = to_z w64 (of_z w64 s); key = to_z w64 (of_z w64 k) }; width = width }) rest
line_given text behind_front behind_key rest s e k width front hk values some =
    let zs = values.numbers in
    let t = signed_decimal s ++ spaced e in
    let count = values.count_is in
    let few = values.few in
    let s_back : to_z w64 (of_z w64 s) ≡ s = to_z-of_z w64 s front.start_fits in
    let k_back : to_z w64 (of_z w64 k) ≡ k = to_z-of_z w64 k hk.0 in
    let row : Row = record { start = s; end = e; key = k; values = zs } in (
      text_of_row row,
      record {
        row = row;
        is = record { start = front.start_fits; end = front.end_fits; key = hk.0; some = omega arith; few = omega arith; values = All-weaker (FitsSigned w64) (FitsSigned w128) wider zs values.fit };
        line_is = refl;
        place_is = λ i. record { pane = record { start = s_back i; key = k_back i }; width = sym count i };
      },
      front.is ∙ ap (λ l. t ++ 32 ∷ l) (hk.1 ∙ ap (λ l. signed_decimal k ++ l) values.is) ∙ sym (append_assoc t (spaced k) (flat_map spaced zs ++ 10 ∷ rest)) ∙ sym (append_assoc (t ++ spaced k) (flat_map spaced zs) (10 ∷ rest)),
    )
