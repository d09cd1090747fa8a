use Rattle.std.proofs.Common.{Ok, Err, subst}
use Rattle.redistribute.specs.StartData.{StartData}
use Rattle.restore.specs.Answer.{Gives, is_memory, start_or_fault}
use Rattle.restarts.proofs.starting.restart.Goals as goal

pub no_memory-requires : goal.no_memory-requires
no_memory-requires c =
    let p = c.args.plan.now in
    let i = c.args.input.now in
    let saved = c.requires.2 in
    c.checks_go_on-law.ensures p i c.requires.0 saved.windows c.requires.1 (Err c.in-Err.fault) saved.left saved.few (subst (λ s. Gives is_memory (λ (d : StartData). d) (Err c.in-Err.fault) (start_or_fault p i s)) saved.is c.in-Err.ensures.reads)

pub returns-in-Ok : goal.returns-in-Ok
returns-in-Ok c = λ cut number saved.
    let p = c.args.plan.now in
    let i = c.args.input.now in
    c.checks_go_on-law.ensures p i cut saved.windows number (Ok c.in-Ok.start) saved.left saved.few (subst (λ s. Gives is_memory (λ (d : StartData). d) (Ok c.in-Ok.start) (start_or_fault p i s)) saved.is c.in-Ok.ensures.reads)
