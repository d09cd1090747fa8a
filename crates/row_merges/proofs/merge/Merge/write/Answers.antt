use Rattle.std.proofs.Common.{length, sym, subst, ◌∙◌}
use Rattle.row_merges.specs.Refusals.{IsOfText}
use Rattle.row_merges.proofs.Passing.{Continues, goes_on, flushed, finished}
use Rattle.row_merges.proofs.Refusing.{of_text, handed_on}
use Rattle.row_merges.proofs.merge.Merge.write.Goals as goal
use Rattle.row_merges.proofs.merge.Merge.write.Goals.{then-len-ge-CHUNK+in_ok-write_text-2, else-len-ge-CHUNK}

pub returns-then-not-branch-clause-rows : goal.returns-then-not-branch-clause-rows
returns-then-not-branch-clause-rows g c = λ texts holds.
    let ends = c.in_ok-advance.ensures.ends c.if-not-branch.true in
    finished g.R.Read.remaining texts (g.W.Write.contents c.args.out.now) c.loop.merge (g.W.Write.contents c.loop.out) (g.W.Write.contents c.write_text.new.out)
    c.loop.text.items c.advance.new.text.items (c.loop.invariant.continues texts holds) ends.0 ends.1 c.in_ok-write_text.ensures.written

pub loop-preserved : goal.loop-preserved
loop-preserved g c = record {
  count = c.in_ok-advance.ensures.count ∙ c.loop.invariant.count;
  continues = λ texts holds.
      let r = g.R.Read.remaining in
      let start = g.W.Write.contents c.args.out.now in
      let so_far = c.loop.invariant.continues texts holds in
      let goes = goes_on r texts start c.loop.merge c.advance.new.self (g.W.Write.contents c.loop.out) c.loop.text.items c.advance.new.text.items so_far (c.in_ok-advance.ensures.steps c.if-not-branch.false so_far.behind) in
      elim c.if-len-ge-CHUNK.branch [
        | then-len-ge-CHUNK+in_ok-write_text-2 w ↦
            let done = flushed r texts start c.advance.new.self (g.W.Write.contents c.loop.out) (g.W.Write.contents w.write_text-then-len-ge-CHUNK.new.out) c.advance.new.text.items w.write_text-then-len-ge-CHUNK.new.text.items goes
            w.in_ok-write_text-2.ensures.written w.in_ok-write_text-2.ensures.empty in
            subst (λ o. Continues r texts start c.advance.new.self (g.W.Write.contents o) c.if-len-ge-CHUNK.text.items) (sym w.out-is)
            (subst (λ t. Continues r texts start c.advance.new.self (g.W.Write.contents w.write_text-then-len-ge-CHUNK.new.out) t.items) (sym w.text-is) done)
        | else-len-ge-CHUNK w ↦
            subst (λ o. Continues r texts start c.advance.new.self (g.W.Write.contents o) c.if-len-ge-CHUNK.text.items) (sym w.out-is)
            (subst (λ t. Continues r texts start c.advance.new.self (g.W.Write.contents c.loop.out) t.items) (sym w.text-is) goes)
      ];
}

pub returns-in_err-advance-clause-refused : goal.returns-in_err-advance-clause-refused
returns-in_err-advance-clause-refused g c =
    let count = length c.args.self.heads.items in
    let told = c.in_err-advance.field-0.0 in
    let refused = c.in_err-advance.ensures.refused in
    let one = of_text g.R.Read.remaining c.loop.merge refused.0 count told refused.1 c.loop.invariant.count refused.3 in
    handed_on (IsOfText count) c.from_residual.result told one c.from_residual.ensures.0 c.from_residual.ensures.1

pub returns-in_err-write_text-clause-refused : goal.returns-in_err-write_text-clause-refused
returns-in_err-write_text-clause-refused g c =
    let count = length c.args.self.heads.items in
    let told = c.in_err-write_text.field-0.0 in
    handed_on (IsOfText count) c.from_residual-in_err-write_text.result told (subst (IsOfText count) (sym c.in_err-write_text.ensures.refused) tt) c.from_residual-in_err-write_text.ensures.0 c.from_residual-in_err-write_text.ensures.1

pub returns-in_err-write_text-2-clause-refused : goal.returns-in_err-write_text-2-clause-refused
returns-in_err-write_text-2-clause-refused g c =
    let count = length c.args.self.heads.items in
    let told = c.in_err-write_text-2.field-0.0 in
    handed_on (IsOfText count) c.from_residual-in_err-write_text-2.result told (subst (IsOfText count) (sym c.in_err-write_text-2.ensures.refused) tt) c.from_residual-in_err-write_text-2.ensures.0 c.from_residual-in_err-write_text-2.ensures.1
