use Rattle.std.proofs.Common.{◌≡◌, List, length, drop, ◌∙◌, sym, subst}
use Rattle.std.proofs.lemmas.List.{take_at}
use Rattle.thread_runner.specs.declared.jobs.Done.{Done}
use Rattle.thread_runner.specs.Edges.{AreJoined, AreLeft, out_names, in_names, put_tables, taken_tables}
use Rattle.thread_tests.proofs.wiring.settled.Goals as goal

pub settle_all-left-requires-clause-joined : goal.settle_all-left-requires-clause-joined
settle_all-left-requires-clause-joined c = subst (λ (l : List Done). AreJoined c.args.layout.now.stages (out_names l) (in_names l)) (sym c.as_mut_slice.ensures.value) c.requires.joined

pub returns-clause-left : goal.returns-clause-left
returns-clause-left c =
    let len : length c.settle_all-left.new.dones ≡ c.args.dones.len = c.settle_all-left.auto.dones ∙ c.as_mut_slice.ensures.len in
    subst (λ (l : List Done). AreLeft c.args.layout.now.stages (put_tables l) (taken_tables l)) (sym (take_at c.settle_all-left.new.dones (drop (length c.settle_all-left.new.dones) c.args.dones.items) c.args.dones.len len)) c.settle_all-left.ensures.left
