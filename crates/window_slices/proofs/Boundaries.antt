-- The last boundary that is at most a time, and the next behind a number.
use Rattle.std.proofs.Common.{◌≡◌, ℤ, ◌+ℤ◌, ◌-ℤ◌, ◌<ℤ◌, ◌≤ℤ◌, true, false, cond, ◌&&◌, ap, ◌∙◌, inl, inr, arith}
use Rattle.std.specs.Int.{int_min, int_max}
use Rattle.std.specs.Int.RustNames.{int_le, int_lt}
use Rattle.std.proofs.lemmas.Int.{ints, clamps, by_lt_z}
use Rattle.std.proofs.lemmas.Bool.{or_cases, or_left, or_right}
use Rattle.plan_model.specs.declared.spec.WindowSpec.{WindowSpec}
use Rattle.plan_model.specs.Windows.{is_start}
use Rattle.window_slices.specs.Slices.{is_boundary, last_start_by, last_end_by, slice_start}
use Rattle.window_slices.specs.Laws.{SlicesStartAtBoundaries, SlicesEndAtBoundaries, WindowsHaveWholeSlices}
use Rattle.window_slices.proofs.Starts.{last_start, no_start_between, next_start, start_again}

max_either : (P : ℤ → Type 0) (x y : ℤ) → P x → P y → P (int_max x y)
max_either P x y p q = elim (int_lt y x) as (λ b. P (cond b x y)) [
  | true ↦ p
  | false ↦ q
]

min_either : (P : ℤ → Type 0) (x y : ℤ) → P x → P y → P (int_min x y)
min_either P x y p q = elim (int_lt y x) as (λ b. P (cond b y x)) [
  | true ↦ q
  | false ↦ p
]

add_back : (a size : ℤ) → (a +ℤ size) -ℤ size ≡ a
add_back a size = omega (arith, ints)

add_twice : (a size slide : ℤ) → ((a +ℤ size) +ℤ slide) -ℤ size ≡ a +ℤ slide
add_twice a size slide = omega (arith, ints)

start_is_boundary : (w : WindowSpec) (b : ℤ) → is_start w b ≡ true → is_boundary w b ≡ true
start_is_boundary w b h = or_left (is_start w b) (is_start w (b -ℤ w.size)) h

end_is_boundary : (w : WindowSpec) (b : ℤ) → is_start w (b -ℤ w.size) ≡ true → is_boundary w b ≡ true
end_is_boundary w b h = or_right (is_start w b) (is_start w (b -ℤ w.size)) h

pub slices_start_at_boundaries : SlicesStartAtBoundaries
slices_start_at_boundaries w t h =
    let a = last_start w t h in
    let e = last_start w (t -ℤ w.size) h in
    let low : last_start_by w (t -ℤ w.size) ≤ℤ (t -ℤ w.size) = e.before in
    let first : last_start_by w t ≤ℤ t = a.before in
    record {
      is = max_either (λ b. is_boundary w b ≡ true) (last_start_by w t) (last_end_by w t)
          (start_is_boundary w (last_start_by w t) a.start)
          (end_is_boundary w (last_end_by w t) (ap (is_start w) (add_back (last_start_by w (t -ℤ w.size)) w.size) ∙ e.start));
      reached = max_either (λ b. b ≤ℤ t) (last_start_by w t) (last_end_by w t) first (omega (arith, ints, low));
      last = λ c is le. elim (or_cases (is_start w c) (is_start w (c -ℤ w.size)) is) [
        | inl start ↦
            let under = no_start_between w t c h start le in
            omega (arith, ints, clamps, under)
        | inr end ↦
            let under = no_start_between w (t -ℤ w.size) (c -ℤ w.size) h end (omega (arith, ints, le)) in
            omega (arith, ints, clamps, under)
      ];
    }

pub slices_end_at_boundaries : SlicesEndAtBoundaries
slices_end_at_boundaries w b h =
    let a = last_start w b h in
    let e = last_start w (b -ℤ w.size) h in
    let s = last_start_by w (b -ℤ w.size) in
    let near : b <ℤ (last_start_by w b +ℤ w.slide) = a.near in
    let near_end : (b -ℤ w.size) <ℤ (s +ℤ w.slide) = e.near in
    record {
      is = min_either (λ c. is_boundary w (c +ℤ w.slide) ≡ true) (last_start_by w b) (last_end_by w b)
          (start_is_boundary w (last_start_by w b +ℤ w.slide) (start_again w (last_start_by w b) h a.start))
          (end_is_boundary w (last_end_by w b +ℤ w.slide) (ap (is_start w) (add_twice s w.size w.slide) ∙ start_again w s h e.start));
      behind = min_either (λ c. b <ℤ (c +ℤ w.slide)) (last_start_by w b) (last_end_by w b) near (omega (arith, ints, near_end));
      first = λ d is lt. elim (or_cases (is_start w d) (is_start w (d -ℤ w.size)) is) [
        | inl start ↦
            let over = next_start w b d h start lt in
            omega (arith, ints, clamps, over)
        | inr end ↦
            let over = next_start w (b -ℤ w.size) (d -ℤ w.size) h end (omega (arith, ints, lt)) in
            omega (arith, ints, clamps, over)
      ];
    }

same_le : (s t b : ℤ) → b ≤ℤ t → (s ≤ℤ t → s ≤ℤ b) → int_le s t ≡ int_le s b
same_le s t b h f = by_lt_z t s (λ lt. grind (arith, ints)) (λ le. let g : s ≤ℤ b = f le in grind (arith, ints))

same_lt : (e t b : ℤ) → b ≤ℤ t → (e ≤ℤ t → e ≤ℤ b) → int_lt t e ≡ int_lt b e
same_lt e t b h f = by_lt_z t e (λ lt. grind (arith, ints)) (λ le. let g : e ≤ℤ b = f le in grind (arith, ints))

pub windows_have_whole_slices : WindowsHaveWholeSlices
windows_have_whole_slices w s t h is =
    let b = slice_start w t in
    let at = slices_start_at_boundaries w t h in
    let start = start_is_boundary w s is in
    let end = end_is_boundary w (s +ℤ w.size) (ap (is_start w) (add_back s w.size) ∙ is) in
    let lows : int_le s t ≡ int_le s b = same_le s t b at.reached (λ le. at.last s start le) in
    let highs : int_lt t (s +ℤ w.size) ≡ int_lt b (s +ℤ w.size) = same_lt (s +ℤ w.size) t b at.reached (λ le. at.last (s +ℤ w.size) end le) in
    λ i. lows i && highs i
