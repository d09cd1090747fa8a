use Rattle.std.proofs.Common.{ℕ, ◌<◌, ◌≤◌, length, get_or, List}
use Rattle.std.specs.List.{AllZip}
use Rattle.stream_model.specs.declared.entry.Marked.{Marked}
use Rattle.legs.proofs.cut.Cut.is_within.Given as goal

abbrev pub invariant-loop-source : goal.invariant-loop-source
invariant-loop-source l = (k : ℕ) (d : List (List Marked)) (e : List ℕ) → k < length l.yielded → AllZip (λ p n. n ≤ length p) (get_or l.sources k d) (get_or l.self.counts k e)
