use Rattle.std.proofs.Common.{◌≡◌, [], map, take}
use Rattle.csv.specs.Records.{fields_of, partial_of}
use Rattle.imports.specs.Picks.{pick_text}
use Rattle.imports.proofs.picking.fill_picked.Given as goal

abbrev pub invariant-loop-pick : goal.invariant-loop-pick
invariant-loop-pick l = record {
  texts : fields_of l.picked ≡ map (pick_text (fields_of l.row)) (take l.pick-index l.picks);
  whole : partial_of l.picked ≡ [];
}
