use Rattle.std.proofs.Common.{◌≡◌, ◌++◌, ◌<◌, ◌+◌, take, [], ◌∷◌, ℕ, suc, ℤ, List, length, Some, sym, ap, ◌∙◌, arith, rules, FitsSigned}
use Rattle.std.specs.Prelude.{slice_get}
use Rattle.std.specs.Int.{w128}
use Rattle.std.proofs.Math.Seq.{take-suc}
use Rattle.std.proofs.lemmas.Int.{to_z-of_z}
use Rattle.std.proofs.lemmas.Option.{get_or_from_slice_get, slice_get_within, slice_get-get_or}
use Rattle.task_steps.proofs.collecting.numbers_of.Goals.{in-Some+in_ok-push, in_default}
use Rattle.task_steps.proofs.collecting.numbers_of.Goals as goal

-- the numbers before a place with the one there
one_more : (xs ys : List ℤ) (k : ℕ) (x : ℤ) → ys ≡ take k xs → slice_get xs k ≡ Some x → ys ++ x ∷ [] ≡ take (k + 1) xs
one_more xs ys k x is here =
    let l = slice_get_within xs k x here in
    ap (λ zs. zs ++ x ∷ []) is ∙ ap (λ z. take k xs ++ z ∷ []) (sym (get_or_from_slice_get xs k x x here)) ∙ sym (take-suc xs k x l) ∙ ap (λ n. take n xs) (let e : suc k ≡ k + 1 = omega arith in e)

pub loop-place-preserved : goal.loop-place-preserved
loop-place-preserved c = elim c.match-get.branch [
  | in-Some+in_ok-push w ↦
      let xs = c.args.values.now in
      let k = c.loop-place.place in
      let x = w.in-Some.number in
      let fits : FitsSigned w128 x = search rules in
      let here : slice_get xs k ≡ Some x = search rules in
      w.numbers-is ∙ w.in_ok-push.ensures.pushed ∙ ap (λ z. c.loop-place.numbers ++ z ∷ []) (to_z-of_z w128 x fits) ∙ one_more xs c.loop-place.numbers k x c.loop-place.invariant here
  | in_default w ↦ absurd (
      let xs = c.args.values.now in
      let k = c.loop-place.place in
      let n = c.len-place-end.ensures in
      let t = c.loop-place-test.true in
      let l : k < length xs = omega (arith, n, t) in
      let z = c.get.ensures ∙ slice_get-get_or xs k (Rattle.std.specs.Prelude.pos 0) l in
      w.in_default.not-Some _ z)
]
