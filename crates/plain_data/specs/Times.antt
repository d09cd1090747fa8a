-- The ends of event time: the least and the greatest i64.
use Rattle.std.specs.Prelude.{ℤ, pos, negsuc, ◌-◌, ◌^◌}

-- the watermark before anything has come
abbrev pub lowest : ℤ
lowest = negsuc (2 ^ 63 - 1)

-- the watermark once everything has come
abbrev pub highest : ℤ
highest = pos (2 ^ 63 - 1)
