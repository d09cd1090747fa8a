use Rattle.std.proofs.Common.{◌≡◌, List, ℕ, sym, subst, string_bytes}
use Rattle.row_changes.proofs.Passing.{Continues, started, goes_on, flushed, finished}
use Rattle.row_changes.proofs.writing.write_changes.Goals as goal
use Rattle.row_changes.proofs.writing.write_changes.Goals.{then-len-ge-CHUNK+in_ok-write_text-2, else-len-ge-CHUNK}

pub loop-init : goal.loop-init
loop-init g c =
    started g.R.Read.remaining g.S.Read.remaining (g.R.Read.remaining c.args.old) (g.S.Read.remaining c.args.new) (g.W.Write.contents c.args.out.now) c.in_ok-pair.pair (string_bytes c.new-text.result)
    c.in_ok-pair.ensures.rows c.in_ok-pair.ensures.behind c.new-text.ensures.bytes

pub returns-then-not-branch : goal.returns-then-not-branch
returns-then-not-branch g c =
    let ends = c.in_ok-advance.ensures.ends c.if-not-branch.true in
    finished g.R.Read.remaining g.S.Read.remaining (g.R.Read.remaining c.args.old) (g.S.Read.remaining c.args.new) (g.W.Write.contents c.args.out.now) c.loop.pair (g.W.Write.contents c.loop.out) (g.W.Write.contents c.write_text.new.out)
    (string_bytes c.loop.text) (string_bytes c.advance.new.text) c.loop.invariant ends.0 ends.1 c.in_ok-write_text.ensures.written

pub loop-preserved : goal.loop-preserved
loop-preserved g c =
    let r = g.R.Read.remaining in
    let s = g.S.Read.remaining in
    let old = g.R.Read.remaining c.args.old in
    let new = g.S.Read.remaining c.args.new in
    let start = g.W.Write.contents c.args.out.now in
    let steps = c.in_ok-advance.ensures.steps c.loop.invariant.last c.loop.invariant.behind c.if-not-branch.false in
    let goes = goes_on r s old new start c.loop.pair c.advance.new.self (g.W.Write.contents c.loop.out) (string_bytes c.loop.text) (string_bytes c.advance.new.text) c.loop.invariant steps in
    elim c.if-len-ge-CHUNK.branch [
      | then-len-ge-CHUNK+in_ok-write_text-2 w ↦
          let done = flushed r s old new start c.advance.new.self (g.W.Write.contents c.loop.out) (g.W.Write.contents w.write_text-then-len-ge-CHUNK.new.out) (string_bytes c.advance.new.text) (string_bytes w.write_text-then-len-ge-CHUNK.new.text) goes
          w.in_ok-write_text-2.ensures.written w.in_ok-write_text-2.ensures.empty in
          subst (λ o. Continues r s old new start c.advance.new.self (g.W.Write.contents o) (string_bytes c.if-len-ge-CHUNK.text)) (sym w.out-is)
          (subst (λ t. Continues r s old new start c.advance.new.self (g.W.Write.contents w.write_text-then-len-ge-CHUNK.new.out) (string_bytes t)) (sym w.text-is) done)
      | else-len-ge-CHUNK w ↦
          subst (λ o. Continues r s old new start c.advance.new.self (g.W.Write.contents o) (string_bytes c.if-len-ge-CHUNK.text)) (sym w.out-is)
          (subst (λ t. Continues r s old new start c.advance.new.self (g.W.Write.contents c.loop.out) (string_bytes t)) (sym w.text-is) goes)
    ]
