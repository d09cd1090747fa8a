use Rattle.std.proofs.Common.{rules, map, string_bytes}
use Rattle.row_tables.proofs.cell.write_cell.Goals as goal

pub returns-in-Ok : goal.returns-in-Ok
returns-in-Ok c =
    let told = c.write_moment.ensures (map string_bytes c.args.names.now) in
    search rules
