-- The first late entry of a partition, and of the partitions of a source, with one more at the end.
use Rattle.std.proofs.Common.{◌≡◌, ℕ, zero, suc, ◌+◌, ◌<◌, ◌≤◌, ℤ, Bool, true, false, cond, List, [], ◌∷◌, ◌++◌, length, Option, Some, None, option_map, refl, sym, ap, ◌∙◌, arith}
use Rattle.std.proofs.lemmas.Bool.{ne_eqb}
use Rattle.std.proofs.lemmas.List.{length-append, take-append-le, get_or_append_left}
use Rattle.std.proofs.Math.Seq.{take-append_seam, get_or-append_seam}
use Rattle.std.proofs.lemmas.List.Sums.{fold-append}
use Rattle.std.proofs.lemmas.Option.{slice_get-get_or}
use Rattle.std.specs.Prelude.{slice_get}
use Rattle.std.specs.Int.{int_max}
use Rattle.std.specs.List.{list_any, find, fold, range_with_len}
use Rattle.std.specs.Option.{option_or, option_map_or}
use Rattle.plain_data.specs.Record.{at}
use Rattle.plain_data.specs.Times.{lowest}
use Rattle.stream_model.specs.declared.entry.Marked.{Marked}
use Rattle.stream_model.specs.InputData.{records_of_entry}
use Rattle.stream_model.specs.Watermarks.{watermark_of_entry, partition_watermark}
use Rattle.stream_model.specs.Late.{is_late_time, is_late_at, first_late_entry, first_at}

-- the watermark behind entries
abbrev pub watermark_over : List Marked → ℤ
watermark_over es = fold (λ w e. int_max w (watermark_of_entry e)) lowest es

pub watermark_more : (es : List Marked) (e : Marked) → watermark_over (es ++ e ∷ []) ≡ int_max (watermark_over es) (watermark_of_entry e)
watermark_more es e = fold-append (λ w e. int_max w (watermark_of_entry e)) lowest es (e ∷ [])

-- ---- a search in a range, with one more number

range_more : (p q : ℕ → Bool) (from len : ℕ) → ((k : ℕ) → from ≤ k → k < from + len → p k ≡ q k)
    → find p (range_with_len from (suc len)) ≡ option_or (find q (range_with_len from len)) (cond (p (from + len)) (Some (from + len)) None)
range_more p q from zero same = one (p from) (p (from + 0)) from (from + 0) (ap p (sym zero_more)) (sym zero_more)
  where
    zero_more : from + 0 ≡ from
    zero_more = omega arith

    one : (a b : Bool) (n m : ℕ) → a ≡ b → n ≡ m → cond a (Some n) None ≡ cond b (Some m) None
    one a b n m e h = λ o. cond (e o) (Some (h o)) None
range_more p q from (suc len) same =
    let later = range_more p q (from + 1) len (λ k low high. same k (omega arith) (omega arith)) in
    let here : p from ≡ q from = same from (omega arith) (omega arith) in
    let end : from + 1 + len ≡ from + suc len = omega arith in
    step (p from) (q from) here (find p (range_with_len (from + 1) (suc len))) (find q (range_with_len (from + 1) len)) (later ∙ ap (λ n. option_or (find q (range_with_len (from + 1) len)) (cond (p n) (Some n) None)) end)
  where
    step : (a b : Bool) → a ≡ b → (x y : Option ℕ) → x ≡ option_or y (cond (p (from + suc len)) (Some (from + suc len)) None)
        → cond a (Some from) x ≡ option_or (cond b (Some from) y) (cond (p (from + suc len)) (Some (from + suc len)) None)
    step true true e x y h = refl
    step true false e x y h = absurd (cc)
    step false true e x y h = absurd (cc)
    step false false e x y h = h

-- ---- the entries of a partition

module _ (time : ℕ) (es : List Marked) (e : Marked) where
  longer : length (es ++ e ∷ []) ≡ length es + 1
  longer = length-append es (e ∷ [])

  kept_entry : (k : ℕ) → k < length es → slice_get (es ++ e ∷ []) k ≡ slice_get es k
  kept_entry k h =
      let within : k < length (es ++ e ∷ []) = omega (arith, longer) in
      slice_get-get_or (es ++ e ∷ []) k e within ∙ ap (λ x. Some x) (get_or_append_left es (e ∷ []) e k h) ∙ sym (slice_get-get_or es k e h)

  kept_watermark : (k : ℕ) → k < length es → partition_watermark (es ++ e ∷ []) k ≡ partition_watermark es k
  kept_watermark k h = rw (ne_eqb k (length (es ++ e ∷ [])) (λ same. omega (arith, longer)), ne_eqb k (length es) (λ same. omega arith), take-append-le k es (e ∷ []) (omega arith)) refl

  same_before : (k : ℕ) → 0 ≤ k → k < 0 + length es → is_late_at time (es ++ e ∷ []) k ≡ is_late_at time es k
  same_before k low high =
      (λ o. list_any (λ r. is_late_time (kept_watermark k (omega arith) o) (at time r)) (option_map_or records_of_entry (kept_entry k (omega arith) o) []))

  last_entry : slice_get (es ++ e ∷ []) (length es) ≡ Some e
  last_entry = slice_get-get_or (es ++ e ∷ []) (length es) e (omega (arith, longer)) ∙ ap (λ x. Some x) (get_or-append_seam es e [] e)

  last_watermark : partition_watermark (es ++ e ∷ []) (length es) ≡ watermark_over es
  last_watermark = rw (ne_eqb (length es) (length (es ++ e ∷ [])) (λ same. omega (arith, longer)), take-append_seam es (e ∷ [])) refl

  late_last : is_late_at time (es ++ e ∷ []) (length es) ≡ list_any (λ r. is_late_time (watermark_over es) (at time r)) (records_of_entry e)
  late_last = λ o. list_any (λ r. is_late_time (last_watermark o) (at time r)) (option_map_or records_of_entry (last_entry o) [])

  pub late_more : first_late_entry time (es ++ e ∷ []) ≡ option_or (first_late_entry time es) (cond (list_any (λ r. is_late_time (watermark_over es) (at time r)) (records_of_entry e)) (Some (length es)) None)
  late_more =
      let from_zero : 0 + length es ≡ length es = omega arith in
      let count : length (es ++ e ∷ []) ≡ suc (length es) = omega (arith, longer) in
      ap (λ n. find (is_late_at time (es ++ e ∷ [])) (range_with_len 0 n)) count
      ∙ range_more (is_late_at time (es ++ e ∷ [])) (is_late_at time es) 0 (length es) same_before
      ∙ (λ o. option_or (first_late_entry time es) (cond (is_late_at time (es ++ e ∷ []) (from_zero o)) (Some (from_zero o)) None))
      ∙ ap (λ b. option_or (first_late_entry time es) (cond b (Some (length es)) None)) late_last

-- ---- the partitions of a source, and any list

module _ {X Y : Type 0} (f : X → Option Y) where
  first_one : (o : Option Y) → option_or {T = ℕ × Y} (option_map (λ y. (0, y)) o) None ≡ option_or {T = ℕ × Y} None (option_map (λ y. (0, y)) o)
  first_one None = refl
  first_one (Some y) = refl

  moved_or : (first : Option (ℕ × Y)) (a : Option (ℕ × Y)) (b : Option Y) (n : ℕ)
      → option_or first (option_map (λ p. (suc p.0, p.1)) (option_or a (option_map (λ y. (n, y)) b))) ≡ option_or (option_or first (option_map (λ p. (suc p.0, p.1)) a)) (option_map (λ y. (suc n, y)) b)
  moved_or (Some p) a b n = refl
  moved_or None (Some p) b n = refl
  moved_or None None None n = refl
  moved_or None None (Some y) n = refl

  pub first_more : (xs : List X) (x : X) → first_at f (xs ++ x ∷ []) ≡ option_or (first_at f xs) (option_map (λ y. (length xs, y)) (f x))
  first_more [] x = first_one (f x)
  first_more (z ∷ zs) x = ap (λ o. option_or (option_map (λ y. (0, y)) (f z)) (option_map (λ p. (suc p.0, p.1)) o)) (first_more zs x) ∙ moved_or (option_map (λ y. (0, y)) (f z)) (first_at f zs) (f x) (length zs)
