use Rattle.std.proofs.Common.{◌≡◌, length}
use Rattle.twice_table.specs.Linked.{codes_of, AreLasts, AreBefores}
use Rattle.twice_table.proofs.chains.link_all.Given as goal

abbrev pub invariant-loop-i : goal.invariant-loop-i
invariant-loop-i l = record {
  count : length l.links.items ≡ length l.fn.links.items;
  codes : codes_of l.links.items ≡ codes_of l.fn.links.items;
  size : length l.lasts.items ≡ l.chains;
  lasts : AreLasts (codes_of l.links.items) l.lasts.items l.i;
  befores : AreBefores l.chains l.links.items l.i;
}
