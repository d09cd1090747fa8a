use Rattle.std.proofs.Common.{◌≡◌, ℕ, ◌%◌, ◌-◌, ◌*◌, ◌^◌, ◌<◌, length, set, get_or, bit_and, inl, inr, ap, sym, subst, ◌∙◌, arith}
use Rattle.std.proofs.lemmas.Bool.{cases_eq}
use Rattle.std.proofs.lemmas.List.{get_or-set_same, get_or-set_other}
use Rattle.key_groups.proofs.Each.{each, masked}
use Rattle.key_groups.proofs.group.low_bits.Goals as goal

pub returns : goal.returns
returns c = each (λ (hash : ℕ). hash % 2 ^ c.args.bits) c.args.hashes.now c.loop-hash.hashes (omega arith) (λ k h. c.loop-hash.invariant.done k (omega arith))

pub loop-hash-preserved : goal.loop-hash-preserved
loop-hash-preserved c =
    let i = c.loop-hash.hash-index in
    let held = c.loop-hash.hashes in
    let n = get_or held i 0 in
    let kept : ℕ = bit_and n (1 * 2 ^ c.args.bits % 4294967296 - 1) in
    let here : i < length held = omega arith in
    record {
      done = λ k h. elim (cases_eq k i) [
        | inl same ↦ subst (λ j. get_or (set held i kept) j 0 ≡ get_or c.args.hashes.now j 0 % 2 ^ c.args.bits) (sym same)
            (get_or-set_same held i kept 0 here ∙ masked n c.args.bits c.requires ∙ ap (λ m. m % 2 ^ c.args.bits) (c.loop-hash.invariant.rest i (omega arith)))
        | inr other ↦ get_or-set_other held i k kept 0 other ∙ c.loop-hash.invariant.done k (omega (arith, h, other))
      ];
      rest = λ k h. get_or-set_other held i k kept 0 (λ e. omega (arith, e, h)) ∙ c.loop-hash.invariant.rest k (omega (arith, h));
    }
