use Rattle.thread_runner.proofs.LayoutLemmas.{layouts_have_edges}
use Rattle.thread_runner.proofs.laws.layouts_have_edges.Goals as goal

pub returns : goal.returns
returns c = layouts_have_edges
