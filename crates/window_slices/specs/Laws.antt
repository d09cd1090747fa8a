-- The laws of slices.
use Rattle.std.specs.Prelude.{◌≡◌, ℤ, pos, ◌≤ℤ◌, ◌<ℤ◌, true, List, map, None}
use Rattle.std.specs.List.{All, Contains, IsDistinct, fold}
use Rattle.std.specs.Ordering.{int_eq}
use Rattle.plain_data.specs.Record.{Record, at}
use Rattle.plan_model.specs.declared.spec.Pane.{Pane}
use Rattle.plan_model.specs.declared.spec.WindowSpec.{WindowSpec}
use Rattle.plan_model.specs.Windows.{is_start, is_within}
use Rattle.plan_model.specs.Aggregates.{merge}
use Rattle.plan_model.specs.Rows.{records_of, aggregate_at}
use Rattle.window_slices.specs.Slices.{is_boundary, slice_start, slice_end, slice_total}

-- b is a boundary that is at most t, and no boundary lies behind it up to t
pub record IsLastBoundary (w : WindowSpec) (t b : ℤ) : Type 0 where
  pub is : is_boundary w b ≡ true
  pub reached : b ≤ℤ t
  pub last : (c : ℤ) → is_boundary w c ≡ true → c ≤ℤ t → c ≤ℤ b

-- c is a boundary behind b, and no boundary lies between them
pub record IsNextBoundary (w : WindowSpec) (b c : ℤ) : Type 0 where
  pub is : is_boundary w c ≡ true
  pub behind : b <ℤ c
  pub first : (d : ℤ) → is_boundary w d ≡ true → b <ℤ d → c ≤ℤ d

-- the slice of a time starts at the last boundary that is at most the time
abbrev pub SlicesStartAtBoundaries : Type 0
SlicesStartAtBoundaries = (w : WindowSpec) (t : ℤ) → pos 1 ≤ℤ w.slide → IsLastBoundary w t (slice_start w t)

-- and a slice ends at the next boundary
abbrev pub SlicesEndAtBoundaries : Type 0
SlicesEndAtBoundaries = (w : WindowSpec) (b : ℤ) → pos 1 ≤ℤ w.slide → IsNextBoundary w b (slice_end w b)

-- a window has a time just where it has the start of the time's slice: a slice lies in a window or outside of it
abbrev pub WindowsHaveWholeSlices : Type 0
WindowsHaveWholeSlices = (w : WindowSpec) (s t : ℤ) → pos 1 ≤ℤ w.slide → is_start w s ≡ true → is_within w s t ≡ is_within w s (slice_start w t)

-- the slices of a pane, in any order: none twice, all in the pane's window, and among them that of each record of the
-- pane
pub record AreSlicesOf (w : WindowSpec) (records : List Record) (q : Pane) (bs : List ℤ) : Type 0 where
  pub distinct : IsDistinct int_eq bs
  pub inside : All (λ b. is_within w q.start b ≡ true) bs
  pub each : All (λ r. Contains bs (slice_start w (at w.time r))) (records_of w q records)

-- what the records of a pane come to is what its slices come to, merged
abbrev pub WindowsAreTheirSlices : Type 0
WindowsAreTheirSlices = (w : WindowSpec) (records : List Record) (q : Pane) (bs : List ℤ) → pos 1 ≤ℤ w.slide → is_start w q.start ≡ true → AreSlicesOf w records q bs
    → aggregate_at w records q ≡ fold (merge w.aggregates) None (map (slice_total w records q.key) bs)
