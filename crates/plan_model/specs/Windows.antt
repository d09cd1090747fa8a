-- Which records pass, and in which windows they lie.
use Rattle.std.specs.Prelude.{◌≡◌, ℤ, pos, neg_ℤ, ◌+ℤ◌, ◌-ℤ◌, ◌*ℤ◌, ◌≤ℤ◌, ◌<ℤ◌, int_lt, int_le, Bool, IsTrue, ◌&&◌, List}
use Rattle.std.specs.Int.{int_rem_euclid}
use Rattle.std.specs.List.{list_all}
use Rattle.std.specs.Ordering.{int_eq}
use Rattle.plain_data.specs.Record.{Record, at}
use Rattle.lane_kernels.specs.Compare.{holds}
use Rattle.plan_model.specs.declared.limits.TheConstants.{TIME_LIMIT}
use Rattle.plan_model.specs.declared.spec.FilterSpec.{FilterSpec}
use Rattle.plan_model.specs.declared.spec.WindowSpec.{WindowSpec}
use Rattle.plan_model.specs.declared.spec.Pane.{Pane}

-- a record passes where every filter's condition holds of it
abbrev pub passes : List FilterSpec → Record → Bool
passes filters r = list_all (λ f. holds f.cmp (at f.column r) f.value) filters

-- a window of the plan begins at s: s is the offset modulo the slide
abbrev pub is_start : WindowSpec → ℤ → Bool
is_start w s = int_eq (int_rem_euclid (s -ℤ w.offset) w.slide) (pos 0)

-- the time t lies in the interval [s, s + size)
abbrev pub is_within : WindowSpec → ℤ → ℤ → Bool
is_within w s t = int_le s t && int_lt t (s +ℤ w.size)

-- the window that begins at s is one of those of the time t
abbrev pub is_window_of : WindowSpec → ℤ → ℤ → Bool
is_window_of w t s = is_start w s && is_within w s t

-- the record has the pane's key, and its time lies in the interval that begins at the pane's start
abbrev pub is_at : WindowSpec → Pane → Record → Bool
is_at w q r = int_eq (at w.key r) q.key && is_within w q.start (at w.time r)

-- s is the offset plus a whole number of slides
abbrev pub IsStartOf : WindowSpec → ℤ → Type 0
IsStartOf w s = (k : ℤ) × (s ≡ w.offset +ℤ (k *ℤ w.slide))

-- s begins a window of the plan, and the time t is at least s and less than s + size
abbrev pub IsWindowOf : WindowSpec → ℤ → ℤ → Type 0
IsWindowOf w t s = IsStartOf w s × (s ≤ℤ t) × (t <ℤ (s +ℤ w.size))

-- times in range: -2^62 to 2^62 - 1
abbrev pub is_time : ℤ → Bool
is_time t = int_le (neg_ℤ TIME_LIMIT) t && int_lt t TIME_LIMIT

abbrev pub IsTime : ℤ → Type 0
IsTime t = IsTrue (is_time t)
