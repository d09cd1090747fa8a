use Rattle.std.proofs.Common.{Some, None, sym, true, nat_le, ◌≡◌, arith, ◌∷◌, []}
use Rattle.std.proofs.lemmas.Bool.Decides.{Decides-eqb, nat_tests}
use Rattle.std.proofs.lemmas.Slice.Eq.{strip_prefix_is}
use Rattle.object_lines.proofs.Marks as marks
use Rattle.object_lines.proofs.lines.without_mark.Goals as goal

pub returns-in-Some : goal.returns-in-Some
returns-in-Some c =
    let first : nat_le c.args.number 1 ≡ true = grind (arith, nat_tests) in
    rw first (sym (marks.with_mark c.args.line.now c.in-Some.rest.now (strip_prefix_is Decides-eqb c.args.line.now (239 ∷ 187 ∷ 191 ∷ []) (Some c.in-Some.rest) c.in-Some.ensures.cases)))

pub returns-in-None : goal.returns-in-None
returns-in-None c =
    let first : nat_le c.args.number 1 ≡ true = grind (arith, nat_tests) in
    rw first (sym (marks.without_mark c.args.line.now (strip_prefix_is Decides-eqb c.args.line.now (239 ∷ 187 ∷ 191 ∷ []) None c.in-None.ensures.cases)))
