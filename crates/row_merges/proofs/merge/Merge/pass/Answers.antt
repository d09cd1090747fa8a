use Rattle.std.proofs.Common.{refl}
use Rattle.row_merges.specs.Refusals.{RefusesAt}
use Rattle.row_merges.proofs.Passing.{stepped}
use Rattle.row_merges.proofs.Refusing.{told_behind, handed_on}
use Rattle.row_merges.proofs.merge.Merge.pass.Goals as goal

pub returns-clause-steps : goal.returns-clause-steps
returns-clause-steps g c = λ behind.
    stepped g.R.Read.remaining c.args.self.now _ c.args.place c.in_ok-row.row c.index_mut-head.result.now c.pass.new.self c.args.text.now.items c.pass.new.text.items
    c.requires.0 c.in_ok-row.ensures.admitted c.index_mut-head.ensures.value refl refl refl c.in_ok-pass.ensures.text c.in_ok-pass.ensures.next behind

pub returns-in_err-pass-clause-refused : goal.returns-in_err-pass-clause-refused
returns-in_err-pass-clause-refused g c =
    let r = g.R.Read.remaining in
    let merge = c.args.self.now in
    let place = c.args.place in
    let told = c.in_err-pass.field-0.0 in
    let refused = told_behind r merge place c.index_mut-head.result.now c.pass.new.self.rows told c.requires.0 c.index_mut-head.ensures.value c.in_err-pass.ensures.refused in
    handed_on (RefusesAt r merge place) c.from_residual-in_err-pass.result told refused c.from_residual-in_err-pass.ensures.0 c.from_residual-in_err-pass.ensures.1
