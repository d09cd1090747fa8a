use Rattle.std.proofs.Common.{◌≡◌, Ok, map, take}
use Rattle.std.specs.List.{enumerate_from}
use Rattle.csv.specs.Records.{fields_of}
use Rattle.imports.specs.Placing.{stand_in, stand_of}
use Rattle.imports.proofs.placing.picks_of.Given as goal

abbrev pub invariant-loop-i : goal.invariant-loop-i
invariant-loop-i l = take l.i (map (λ numbered. stand_of (fields_of l.header) numbered.0 numbered.1) (enumerate_from 0 l.fields)) ≡ map Ok (map stand_in l.picks.items)
