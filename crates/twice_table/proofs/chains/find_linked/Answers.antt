use Rattle.std.proofs.Common.{◌≡◌, ◌∙◌, sym, ap, ℕ, ◌-◌, [], length, get_or, arith, refl, ◌%◌, inl, inr}
use Rattle.std.specs.Prelude.{bytes_eq}
use Rattle.std.proofs.lemmas.Bool.{cases_lt}
use Rattle.std.proofs.lemmas.List.{length-map}
use Rattle.twice_table.specs.Linked.{codes_of}
use Rattle.twice_table.proofs.Links.{find_start, places_within, passed_step, and_holds, none}
use Rattle.twice_table.proofs.chains.find_linked.Goals as goal

pub loop-next-init : goal.loop-next-init
loop-next-init c =
    (length (codes_of c.args.links.now), omega arith, find_start c.args.links.now c.args.lasts.now c.args.code c.chain_of.result c.requires.linked c.chain_of.ensures.value c.chain_of.ensures.within, λ i h k same. absurd (omega arith))

pub offset_bounds-links-place : goal.offset_bounds-links-place
offset_bounds-links-place c =
    let within = places_within c.args.links.now (length c.args.lasts.now) c.args.code c.loop-next.invariant.0 c.loop-next.next c.loop-next.invariant.1 c.loop-next.invariant.2 c.loop-next-test.true in
    let few = c.requires.linked.1 in
    omega arith

pub bounds-links-place : goal.bounds-links-place
bounds-links-place c = places_within c.args.links.now (length c.args.lasts.now) c.args.code c.loop-next.invariant.0 c.loop-next.next c.loop-next.invariant.1 c.loop-next.invariant.2 c.loop-next-test.true

pub is_text-requires : goal.is_text-requires
is_text-requires c =
    let within = places_within c.args.links.now (length c.args.lasts.now) c.args.code c.loop-next.invariant.0 c.loop-next.next c.loop-next.invariant.1 c.loop-next.invariant.2 c.loop-next-test.true in
    omega arith

pub returns-then-is_text-clause-some : goal.returns-then-is_text-clause-some
returns-then-is_text-clause-some c =
    let place = c.loop-next.next - 1 in (
      places_within c.args.links.now (length c.args.lasts.now) c.args.code c.loop-next.invariant.0 c.loop-next.next c.loop-next.invariant.1 c.loop-next.invariant.2 c.loop-next-test.true,
      and_holds (get_or c.args.links.now place none).code c.args.code (bytes_eq c.args.text.now (get_or c.args.texts.now place [])) (sym c.is_text.ensures ∙ c.if-is_text.true),
    )

pub loop-next-preserved : goal.loop-next-preserved
loop-next-preserved c =
    let step = passed_step c.args.links.now c.args.lasts.now c.args.code c.loop-next.invariant.0 c.loop-next.next (λ (i : ℕ). bytes_eq c.args.text.now (get_or c.args.texts.now i [])) c.requires.linked
    c.loop-next.invariant.1 c.loop-next.invariant.2 c.loop-next.invariant.3 c.loop-next-test.true (sym c.is_text.ensures ∙ c.if-is_text.false) in
    (c.loop-next.next - 1, step.0, step.1, step.2)

pub returns-clause-none : goal.returns-clause-none
returns-clause-none c i h same =
    let known : length (codes_of c.args.links.now) ≡ length c.args.links.now = rw length-map refl in
    let last = c.loop-next.invariant.2 in
    elim (cases_lt i c.loop-next.invariant.0) [
      | inl early ↦ absurd (last.1 i (omega arith) early (ap (λ (n : ℕ). n % length c.args.lasts.now) same))
      | inr late ↦ c.loop-next.invariant.3 i late (omega arith) same
    ]
