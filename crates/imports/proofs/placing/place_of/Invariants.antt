use Rattle.std.proofs.Common.{◌≡◌, bytes_eq}
use Rattle.std.specs.List.{filter, range_with_len}
use Rattle.csv.specs.Records.{fields_of}
use Rattle.imports.specs.Picks.{text_at}
use Rattle.imports.specs.Placing.{place_from}
use Rattle.imports.proofs.placing.place_of.Given as goal

abbrev pub invariant-loop-place : goal.invariant-loop-place
invariant-loop-place l = l.found ≡ place_from (filter (λ place. bytes_eq (text_at (fields_of l.header) place) l.name) (range_with_len 0 l.place))
