use Rattle.std.proofs.Common.{rules, All}
use Rattle.std.proofs.lemmas.List.Elements.{All-pop}
use denote.Param.Always.{Once-at_one}
use Rattle.thread_runner.specs.Jobs.{FindsInput}
use Rattle.thread_runner.specs.Jobs.{IsWorkOf}
use Rattle.thread_runner.proofs.JobLemmas.{all_work_last}
use Rattle.thread_runner.proofs.run.+fn-run_jobs-scope+run_jobs.Goals as goal

pub scope-returns-in-Ok-push : goal.scope-returns-in-Ok-push
scope-returns-in-Ok-push g t c =
    let one : IsWorkOf c.captures.input.now c.captures.job c.join-last.result = rw (c.in-Ok.ensures.ok, c.of.ensures, c.of-2.ensures) at c.join-last.ensures in
    rw c.in-Ok-push.ensures.items (record { ok = all_work_last c.captures.input.now c.captures.jobs.items c.in_ok-dones.dones.items c.captures.job c.join-last.result c.in_ok-dones.ensures.ok one; refused = tt })

pub scoped-requires : goal.scoped-requires
scoped-requires g t c =
    let jobs = All-pop (FindsInput c.args.input.now) c.args.jobs.items c.pop.new.self.items c.pop.result c.pop.ensures.items c.requires in
    let rest : All (FindsInput c.args.input.now) c.pop.new.self.items = jobs.0 in
    let last : FindsInput c.args.input.now c.in-Some.job = rw c.in-Some.is at jobs.1 in
    Once-at_one _ _ (λ x. search rules)
