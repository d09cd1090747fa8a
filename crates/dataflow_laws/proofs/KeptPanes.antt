-- What window tasks have kept is of their own keys, and has no more records than were read.
use Rattle.std.proofs.Common.{[], sym, ap, ◌∙◌, arith}
use Rattle.std.specs.Prelude.{slice_index_or}
use Rattle.std.specs.FinMap.{get}
use Rattle.dataflow_model.specs.State.{Kept}
use Rattle.dataflow_model.specs.Leg.{leg_of}
use Rattle.layout_rules.proofs.Facts.{compiled_is_layout}
use Rattle.input_flow.specs.InputEntries.{entries_of, input_of, counts_at}
use Rattle.input_flow.proofs.Facts.{input_is_orderly}
use Rattle.dataflow_laws.specs.Compiled.{layout_to}
use Rattle.dataflow_laws.specs.Owned.{CompiledSavepointKeepsPanes}
use Rattle.dataflow_laws.proofs.Admitted.{partitions_before}
use Rattle.dataflow_laws.proofs.Dealing.{orderly_of}
use Rattle.dataflow_laws.proofs.Keeping.{saves_at}
use Rattle.dataflow_laws.proofs.Openings.{opened}
use Rattle.dataflow_laws.proofs.Owned.{keeps_panes}
use Rattle.dataflow_laws.proofs.Savepoints.{cut_flow, cut_drained, cut_reads, cut_kept}

pub compiled_savepoint_keeps_panes : CompiledSavepointKeepsPanes
compiled_savepoint_keeps_panes p c i n b saves until stages start m ip sc is input orderly belongs b_cut few is_cut opens at_start has h passed =
    let x = input_of p i in
    let l = layout_to p i n saves until stages in
    let leg = leg_of n saves until (entries_of i).size in
    let cut = slice_index_or saves m [] in
    let both = compiled_is_layout p c (entries_of i) leg stages ip sc is in
    let op = opened p l start both.0 (orderly_of x leg l both.1 p (input_is_orderly p i input orderly belongs)) opens.leg opens.opens in
    let before = partitions_before p i b belongs b_cut in
    let after = partitions_before p i cut belongs is_cut in
    let f = cut_flow p l both.0 start opens.leg opens.opens h m passed in
    let reads = cut_reads p l both.0 start opens.leg opens.opens h m passed few in
    let at = saves_at p i n saves until stages m few both.1 in
    let kept = keeps_panes p x leg l both.0 both.1 start op f (cut_drained p l both.0 start opens.leg opens.opens h m passed) (counts_at p b) (counts_at p cut) at_start (λ t k e a kl. reads t k e a kl ∙ at t k e a kl)
    (λ u lo hi q a e. let y = has u lo hi q a e in (y.0, omega (arith, y.1, before))) in
    λ u lo hi q a e.
    let still = cut_kept p l both.0 start opens.leg opens.opens h m passed few u (omega (arith, hi)) in
    let y = kept u lo hi q a (ap (λ (k : Kept). get k.windows q) (sym still) ∙ e) in
    (y.0, omega (arith, y.1, after))
