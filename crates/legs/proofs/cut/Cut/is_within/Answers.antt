use Rattle.std.proofs.Common.{◌≡◌, ◌≤◌, length, ap, sym, ◌∙◌, arith, rules, []}
use Rattle.std.specs.List.{AllZip}
use Rattle.std.proofs.lemmas.Slice.Zip.{zip_turn, zip_end, AllZip-long}
use Rattle.legs.proofs.Zipped.{all_zip, at_each}
use Rattle.legs.proofs.cut.Cut.is_within.Goals as goal

pub returns-then-sources-cut : goal.returns-then-sources-cut
returns-then-sources-cut c = (λ h. absurd (search rules), λ h. absurd (c.if-sources-cut.true (sym (AllZip-long _ _ _ h) ∙ ap length (sym c.as_slice-cut.ensures))))

pub returns-then-not-are_within : goal.returns-then-not-are_within
returns-then-not-are_within c =
    let first : c.into_iter-source-iterator.result.a.rest.now ≡ c.args.sources.now = cc in
    let second : c.into_iter-source-iterator.result.b.rest.now ≡ c.args.self.now.counts = cc in
    let turn = zip_turn c.args.sources.now c.args.self.now.counts c.loop-source.yielded _ _ c.next.new.self _ first second c.loop-source.yielded_by _ c.in-Some.is c.next.ensures.steps in (
      λ h. absurd (search rules),
      λ h. absurd (
          let within : AllZip (λ p n. n ≤ length p) c.in-Some.source.now c.in-Some.counts.now = rw (turn.2 [], turn.3 []) (at_each _ _ _ (length c.loop-source.yielded) [] [] h turn.0) in
          let passes = c.are_within.ensures.1 (rw (c.as_slice.ensures, c.as_slice-in-loop-source.ensures) within) in
          search rules),
    )

pub returns : goal.returns
returns c =
    let first : c.into_iter-source-iterator.result.a.rest.now ≡ c.args.sources.now = cc in
    let second : c.into_iter-source-iterator.result.b.rest.now ≡ c.args.self.now.counts = cc in
    let long = zip_end c.args.sources.now c.args.self.now.counts c.loop-source.yielded _ _ c.next.new.self _ first second c.loop-source.yielded_by c.in-None.is c.next.ensures.steps in
    let same : length c.args.sources.now ≡ length c.args.self.now.counts = c.if-sources-cut.false ∙ ap length c.as_slice-cut.ensures in
    (λ h. all_zip _ _ _ same (λ k d e l. c.loop-source.invariant k d e (omega (arith, long, same))), λ h. search rules)
