-- The last end of a window at or below a watermark.
use Rattle.std.specs.Prelude.{◌≡◌, ℤ, pos, ◌+ℤ◌, ◌-ℤ◌}
use Rattle.std.specs.Int.{int_rem_euclid}
use Rattle.plan_model.specs.declared.spec.WindowSpec.{WindowSpec}
use Rattle.import_entries.specs.declared.ends.WindowEnds.{WindowEnds}

-- the windows have this size, slide and offset
abbrev pub AreEndsOf : WindowSpec → WindowEnds → Type 0
AreEndsOf w ends = (w.size ≡ ends.size) × (w.slide ≡ ends.slide) × (w.offset ≡ ends.offset)

-- how far a time is from the last time of the window that begins at the offset
abbrev pub distance : WindowEnds → ℤ → ℤ
distance ends mark = ((mark -ℤ ends.offset) -ℤ ends.size) +ℤ pos 1

-- the watermark, less what it is ahead of the last time of a window
unfoldable pub last_end : WindowEnds → ℤ → ℤ
last_end ends mark = mark -ℤ int_rem_euclid (distance ends mark) ends.slide
