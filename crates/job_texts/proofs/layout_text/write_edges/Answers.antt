use Rattle.std.proofs.Common.{string_bytes}
use Rattle.job_texts.specs.LayoutText.{edge_text}
use Rattle.job_texts.proofs.Lines.{one_more}
use Rattle.job_texts.proofs.layout_text.write_edges.Goals as goal

pub loop-a-preserved : goal.loop-a-preserved
loop-a-preserved c = one_more (edge_text c.args.layout.now.stages) c.loop-a.a (string_bytes c.args.text.now) (string_bytes c.loop-a.text) (string_bytes c.write_edge_from.new.text) c.in_ok-write_edge_from.ensures c.loop-a.invariant
