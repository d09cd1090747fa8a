-- The front of a line: the start and the end of a window.
use Rattle.std.specs.Prelude.{◌≡◌, ◌≤◌, ◌++◌, drop}
use Rattle.std.specs.Str.{IsAscii}
use Rattle.job_texts.specs.declared.narrow.Front.{Front}
use Rattle.job_texts.specs.Text.{spaced}

-- the text at the end of its room is that of the start and the end
pub record IsFront (front : Front) : Type 0 where
  pub inside : front.from ≤ 48
  pub says : drop front.from front.text ≡ spaced front.start ++ spaced front.end
  pub ascii : IsAscii (spaced front.start ++ spaced front.end)
