use Rattle.std.proofs.Common.{refl}
use Rattle.row_merges.proofs.Passing.{taken}
use Rattle.row_merges.proofs.merge.Merge.add.Goals as goal

pub returns : goal.returns
returns g c = λ texts holds.
    let old = c.args.self.now in
    taken g.R.Read.remaining texts (g.R.Read.remaining c.args.text) old (record old { heads = c.push.new.self }) c.in_ok-head.head holds c.in_ok-head.ensures c.in_ok-push.ensures.items refl refl
