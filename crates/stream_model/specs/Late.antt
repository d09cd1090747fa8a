-- Records that come too late: after a watermark that says that none with such a time comes any more.
use Rattle.std.specs.Prelude.{ℕ, suc, ℤ, Bool, List, [], ◌∷◌, length, Option, None, int_le, slice_get}
use Rattle.std.specs.List.{list_any, find, range_with_len}
use Rattle.std.specs.Option.{option_map, option_map_or, option_or}
use Rattle.plain_data.specs.Record.{at}
use Rattle.stream_model.specs.declared.entry.Marked.{Marked}
use Rattle.stream_model.specs.InputData.{records_of_entry}
use Rattle.stream_model.specs.Watermarks.{partition_watermark}

-- a time is late behind a watermark that it is not above
abbrev pub is_late_time : ℤ → ℤ → Bool
is_late_time watermark time = int_le time watermark

-- whether entry n has a record whose time is not greater than the watermark before it
abbrev pub is_late_at : ℕ → List Marked → ℕ → Bool
is_late_at time entries n = list_any (λ r. is_late_time (partition_watermark entries n) (at time r)) (option_map_or records_of_entry (slice_get entries n) [])

-- the first such entry of a partition
abbrev pub first_late_entry : ℕ → List Marked → Option ℕ
first_late_entry time entries = find (is_late_at time entries) (range_with_len 0 (length entries))

-- the first place for which there is an answer, and the answer
abbrev pub first_at : {X Y : Type 0} → (X → Option Y) → List X → Option (ℕ × Y)
first_at f [] = None
first_at f (x ∷ xs) = option_or (option_map (λ y. (0, y)) (f x)) (option_map (λ p. (suc p.0, p.1)) (first_at f xs))

-- the first such entry of an input, by the place of its source, then of its partition, then its own
abbrev pub first_late : ℕ → List (List (List Marked)) → Option (ℕ × (ℕ × ℕ))
first_late time sources = first_at (first_at (first_late_entry time)) sources
