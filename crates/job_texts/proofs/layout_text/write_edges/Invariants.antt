use Rattle.std.proofs.Common.{◌≡◌, ◌++◌, string_bytes}
use Rattle.job_texts.specs.LayoutText.{of_each, edge_text}
use Rattle.job_texts.proofs.layout_text.write_edges.Given as goal

abbrev pub invariant-loop-a : goal.invariant-loop-a
invariant-loop-a l = string_bytes l.text ≡ string_bytes l.fn.text ++ of_each l.a (edge_text l.layout.stages)
