use Rattle.std.proofs.Common.{string_bytes}
use Rattle.job_texts.specs.LayoutText.{stage_text}
use Rattle.job_texts.proofs.Lines.{one_more}
use Rattle.job_texts.proofs.layout_text.write_stages.Goals as goal

pub loop-a-preserved : goal.loop-a-preserved
loop-a-preserved c = one_more (stage_text c.args.plan.now c.args.layout.now.stages) c.loop-a.a (string_bytes c.args.text.now) (string_bytes c.loop-a.text) (string_bytes c.write_stage.new.text) c.in_ok-write_stage.ensures c.loop-a.invariant
