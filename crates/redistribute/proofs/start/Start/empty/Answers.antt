use Rattle.std.proofs.Common.{◌≡◌, [], map, length, refl, sym, ap, subst, ◌∙◌, arith}
use Rattle.std.proofs.lemmas.Grind.{common_steps}
use Rattle.redistribute.specs.Snapshots.{saved_source}
use Rattle.stream_model.specs.Watermarks.{empty_cut}
use Rattle.input_flow.proofs.Facts.{empty_is_cut}
use Rattle.redistribute.specs.Begins.{IsStartIn, IsFromNothing, HasSnapshot}
use Rattle.redistribute.proofs.Unread.{unread_sources, unread_shape}
use Rattle.redistribute.proofs.Beginning.{offsets_at, starts_in, empty_has_snapshot}
use Rattle.redistribute.proofs.start.Start.empty.Goals as goal

pub returns-clause-snapshot : goal.returns-clause-snapshot
returns-clause-snapshot c =
    let all : c.loop-partitions.sources.items ≡ map (λ s. saved_source s (map (λ p. 0) s)) c.sources-partitions-items.result.now = grind (arith, common_steps) in
    let sources = c.from_vec.ensures ∙ all ∙ ap (map (λ s. saved_source s (map (λ p. 0) s))) c.sources-partitions-items.ensures.says ∙ sym (unread_sources c.args.input.now.sources) in
    let kinds : c.from_vec-2.result ≡ [] = cc in
    let groups : c.from_vec-3.result ≡ [] = cc in
    λ i. record { number = 0; sources = sources i; kinds = kinds i; groups = groups i }

pub returns-clause-belongs : goal.returns-clause-belongs
returns-clause-belongs c =
    let all : c.loop-partitions.sources.items ≡ map (λ s. saved_source s (map (λ p. 0) s)) c.sources-partitions-items.result.now = grind (arith, common_steps) in
    ap (map (λ partitions. length partitions)) (c.from_vec.ensures ∙ all ∙ ap (map (λ s. saved_source s (map (λ p. 0) s))) c.sources-partitions-items.ensures.says)
    ∙ unread_shape c.args.input.now.sources ∙ c.requires.partitions

pub returns-clause-in_input : goal.returns-clause-in_input
returns-clause-in_input c =
    let i = c.args.input.now in
    let p = c.args.plan.now in
    subst (IsStartIn p i) (sym (returns-clause-snapshot c)) (starts_in p i (empty_cut i.sources) 0 (empty_is_cut i.sources) (omega arith))

pub returns-clause-nothing : goal.returns-clause-nothing
returns-clause-nothing c =
    let ss = c.args.input.now.sources in
    subst (IsFromNothing c.args.input.now) (sym (returns-clause-snapshot c)) (record { number = refl; offsets = offsets_at ss (empty_cut ss) 0 (empty_is_cut ss); groups = refl })

pub returns-clause-has_snapshot : goal.returns-clause-has_snapshot
returns-clause-has_snapshot c = subst (HasSnapshot c.args.plan.now c.args.input.now) (sym (returns-clause-snapshot c)) (empty_has_snapshot c.args.plan.now c.args.input.now 0)
