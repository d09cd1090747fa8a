use Rattle.std.proofs.Common.{◌≡◌, ◌==◌, ◌<◌, ℕ, Vec, Global, List, [], ◌∷◌, ◌++◌, map, length, get_or, set, ap, ◌∙◌, sym, arith}
use Rattle.std.specs.List.{range_with_len}
use Rattle.std.proofs.lemmas.List.{take_all, length-map, length-set, get_or-map, map-set}
use Rattle.std.proofs.lemmas.List.FromFn.{fill_by_all}
use Rattle.columns.specs.Parts.{kept}
use Rattle.columns.proofs.Kept.{dealt}
use Rattle.columns.proofs.parts.places_by_target.Goals as goal

pub loop-place-init : goal.loop-place-init
loop-place-init c =
    let held = λ (places : Vec ℕ Global). places.items in
    let lists = c.loop-alloc.lists.items in
    let long : length lists ≡ c.args.n = omega (arith, c.loop-alloc.invariant.few) in
    record { long = long; each = λ t h. c.loop-alloc.invariant.empty t [] (omega (arith, length-map lists held)) }

pub loop-place-preserved : goal.loop-place-preserved
loop-place-preserved c =
    let held = λ (places : Vec ℕ Global). places.items in
    let lists = c.loop-place.lists.items in
    let targets = c.args.targets.now in
    let i = c.loop-place.place in
    let u = get_or targets i 0 in
    let new = c.push-in-loop-place.new.self in
    let old = c.index_mut-places.result.now in
    let below : u < c.args.n = c.requires i 0 c.loop-place-test.true in
    let long = c.loop-place.invariant.long in
    let there : u < length lists = omega arith in
    let was : old.items ≡ get_or (map held lists) u [] = ap held c.index_mut-places.ensures.value ∙ sym (get_or-map held lists u old [] there) in
    let now : new.items ≡ get_or (map held lists) u [] ++ i ∷ [] = c.in_ok-push-2.ensures.items ∙ ap (λ (o : List ℕ). o ++ i ∷ []) was in
    record {
      long = length-set lists u new ∙ long;
      each = λ t h.
          ap (λ (ls : List (List ℕ)). get_or ls t []) (map-set held lists u new ∙ ap (set (map held lists) u) now)
          ∙ dealt (map held lists) targets i c.args.n t c.loop-place-test.true (length-map lists held ∙ long) below c.loop-place.invariant.each h;
    }

pub returns : goal.returns
returns c =
    let lists = c.loop-place.lists.items in
    let targets = c.args.targets.now in
    let held = λ (places : Vec ℕ Global). places.items in
    let i = c.loop-place.place in
    let upto : i ≡ length targets = omega arith in
    fill_by_all _ (map held lists) c.args.n [] (length-map lists held ∙ c.loop-place.invariant.long)
    (λ t h. c.loop-place.invariant.each t h
    ∙ (λ o. kept (map (λ target. target == t) (take_all i targets (omega arith) o)) (range_with_len 0 (upto o))))
