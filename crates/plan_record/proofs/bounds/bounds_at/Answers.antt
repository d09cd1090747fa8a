use Rattle.std.proofs.Common.{◌≡◌, ◌≤◌, ◌++◌, ◌∷◌, [], map, length, arith, sym, ap, ◌∙◌}
use Rattle.std.proofs.lemmas.List.{length-append}
use Rattle.plan_record.specs.PlanRecord.{bound_of, placed}
use Rattle.plan_record.proofs.Placed.{length-placed, length-seen, placed_next, seen_next}
use Rattle.plan_record.proofs.bounds.bounds_at.Goals as goal

pub loop-uid-preserved : goal.loop-uid-preserved
loop-uid-preserved c =
    let f = bound_of c.args.sources.now in
    let before = map f (map (λ uid. uid.now) (map (λ uid. uid.now) c.loop-uid.yielded)) in
    let many : length before ≡ length c.loop-uid.yielded = length-seen f (λ uid. uid.now) (λ uid. uid.now) c.loop-uid.yielded in
    let is : c.push_bound.new.bounds.items ≡ placed 0 (before ++ c.bound_of.result ∷ []) = placed_next before c.bound_of.result c.loop-uid.place _ _ (c.loop-uid.invariant.place ∙ sym many) c.loop-uid.invariant.says c.in_ok-push_bound.ensures in
    let few : length c.push_bound.new.bounds.items ≤ length (before ++ c.bound_of.result ∷ []) = rw is (length-placed 0 (before ++ c.bound_of.result ∷ [])) in
    record {
      says = is ∙ ap (λ b. placed 0 (before ++ b ∷ [])) c.bound_of.ensures ∙ ap (placed 0) (sym (seen_next f (λ uid. uid.now) (λ uid. uid.now) c.loop-uid.yielded c.in-Some.uid));
      place = omega (arith, c.loop-uid.invariant.place, length-append c.loop-uid.yielded (c.in-Some.uid ∷ []));
      few = omega (arith, few, many, length-append before (c.bound_of.result ∷ []), length-append c.loop-uid.yielded (c.in-Some.uid ∷ []));
    }
