use Rattle.std.proofs.Common.{◌≡◌, ◌+◌, ◌-◌, ◌≤◌, ◌++◌, map, take, drop, length, sym, ap, ◌∙◌, arith}
use Rattle.std.proofs.Math.Seq.{take-add}
use Rattle.std.proofs.lemmas.List.{map-append, length-map}
use Rattle.std.proofs.lemmas.Slice.{take-put_mid}
use Rattle.std.proofs.lemmas.Simd.{length-chunk}
use Rattle.key_groups.specs.Groups.{key_group}
use Rattle.key_groups.proofs.group.groups_into.Goals as goal

pub loop-at-preserved : goal.loop-at-preserved
loop-at-preserved c =
    let at = c.loop-at.at in
    let end = c.min-end.result in
    let keys = c.args.keys.now in
    let f = key_group c.args.max in
    let n = end - at in
    let forward : at + n ≡ end = omega arith in
    let room : at + n ≤ length keys = omega arith in
    let long : length c.chunk_groups.new.out ≡ n = ap length c.chunk_groups.ensures ∙ length-map (take n (drop at keys)) f ∙ length-chunk at n keys room in
    record {
      within = omega arith;
      done =
          take-put_mid at n c.loop-at.out c.chunk_groups.new.out end (omega arith) (omega arith)
          ∙ (λ o. c.loop-at.invariant.done o ++ c.chunk_groups.ensures o)
          ∙ sym (ap (λ m. map f (take m keys)) (sym forward) ∙ ap (map f) (take-add at n keys) ∙ map-append f (take at keys) (take n (drop at keys)));
    }
