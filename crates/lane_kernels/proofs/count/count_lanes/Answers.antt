use Rattle.std.proofs.Common.{◌≡◌, ◌≢◌, ℕ, ◌<◌, Bool, true, false, cond, not, eqb, List, [], ◌∷◌, length, map, refl, sym, ap, ◌∙◌, arith, below_more, get_or-set_other, get_or-set_same, length-set, w8}
use mir.Val.{bool_byte}
use lib.Count.{ones}
use lib.Lanes.{mask_l}
use Rattle.std.proofs.lemmas.List.{ext_get_or, length-map, get_or-map, map-id}
use Rattle.std.proofs.lemmas.Simd.{bitmask_splat, ones-mask_l}
use Rattle.lane_kernels.proofs.count.count_lanes.Goals as goal

byte_is : (b : Bool) → bool_byte b ≡ cond b 1 0
byte_is true = refl
byte_is false = refl

set_is : (b : Bool) → not (eqb (cond b 1 0) 0) ≡ b
set_is true = refl
set_is false = refl

tested : (bs : List Bool) → map (λ x. not (eqb x 0)) (map (λ b. cond b 1 0) bs) ≡ bs
tested [] = refl
tested (b ∷ bs) = λ i. set_is b i ∷ tested bs i

pub loop-j-preserved : goal.loop-j-preserved
loop-j-preserved c =
    let lt : c.loop-j.j < length c.loop-j.bytes = omega (arith, c.loop-j.invariant.long) in
    record {
      long = length-set c.loop-j.bytes c.loop-j.j _ ∙ c.loop-j.invariant.long;
      each = below_more _ _
          (λ k h. let ne : k ≢ c.loop-j.j = omega arith in rw get_or-set_other (c.loop-j.invariant.each k h))
          (rw get_or-set_same (byte_is _));
    }

pub returns : goal.returns
returns c =
    let bs = c.args.lanes.now in
    let bytes : c.loop-j.bytes ≡ map (λ b. cond b 1 0) bs =
    ext_get_or 0 _ _ (c.loop-j.invariant.long ∙ sym c.told-lanes ∙ sym (length-map bs (λ (b : Bool). cond {A = ℕ} b 1 0)))
    (λ k h. c.loop-j.invariant.each k (omega (arith, c.loop-j.invariant.long)) ∙ sym (get_or-map (λ (b : Bool). cond {A = ℕ} b 1 0) bs k false 0 (omega (arith, c.loop-j.invariant.long)))) in
    ap ones (bitmask_splat w8 (λ (a b : ℕ). not (eqb a b)) c.loop-j.bytes 32 0 c.loop-j.invariant.long (omega arith))
    ∙ ap (λ (xs : List ℕ). ones (mask_l (map (λ x. not (eqb x 0)) xs))) bytes
    ∙ ap (λ (ms : List Bool). ones (mask_l ms)) (tested bs ∙ sym (map-id bs))
    ∙ ones-mask_l (λ (b : Bool). b) bs
