use Rattle.import_copies.proofs.files.copy_file.Goals as goal

pub returns-in-Ok-copy_rows-clause-sorts : goal.returns-in-Ok-copy_rows-clause-sorts
returns-in-Ok-copy_rows-clause-sorts g c before start h =
    let all = c.in-Ok-copy_rows.ensures.sorts before start h in
    (all.0, all.1)
