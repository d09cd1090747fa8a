use Rattle.std.proofs.Common.{◌≡◌, ◌==◌, true, false, None, option_map, sym, ◌∙◌}
use Rattle.std.specs.List.{list_all, zip}
use Rattle.input_texts.specs.Fault.{late_fault}
use Rattle.stream_model.specs.Late.{first_at}
use Rattle.input_texts.specs.Seen.{SourceSeen}
use Rattle.input_texts.proofs.FirstFaults.{partitions_fault, narrow_late, width_fault, number_fault, rows_fault, time_fault, kind_fault, late_first, many_fault, all_met}
use Rattle.input_texts.proofs.finding.first_fault.Goals as goal

pub returns-then-not-are_as_many-clause-first : goal.returns-then-not-are_as_many-clause-first
returns-then-not-are_as_many-clause-first c = λ text i.
    let plan = c.args.plan.now in
    let few : list_all (λ p. p.0.partitions == p.1.partitions) (zip c.args.sources.now plan.sources) ≡ false = rw c.sources.ensures.says at (sym c.are_as_many.ensures ∙ c.if-not-are_as_many.true) in
    partitions_fault plan text c.args.sources.now i c.sources.ensures.sound few

pub returns-then-not-are_wide-clause-first : goal.returns-then-not-are_wide-clause-first
returns-then-not-are_wide-clause-first c = λ text i.
    let plan = c.args.plan.now in
    let many : list_all (λ p. p.0.partitions == p.1.partitions) (zip c.args.sources.now plan.sources) ≡ true = rw c.sources.ensures.says at (sym c.are_as_many.ensures ∙ c.if-not-are_as_many.false) in
    width_fault plan text c.args.sources.now i c.sources.ensures.sound many (sym c.are_wide.ensures ∙ c.if-not-are_wide.true)

pub returns-then-not-are_whole-clause-first : goal.returns-then-not-are_whole-clause-first
returns-then-not-are_whole-clause-first c = λ text i.
    let plan = c.args.plan.now in
    let many : list_all (λ p. p.0.partitions == p.1.partitions) (zip c.args.sources.now plan.sources) ≡ true = rw c.sources.ensures.says at (sym c.are_as_many.ensures ∙ c.if-not-are_as_many.false) in
    number_fault plan text c.args.sources.now i c.sources.ensures.sound many (sym c.are_wide.ensures ∙ c.if-not-are_wide.false) (sym c.are_whole.ensures ∙ c.if-not-are_whole.true)

pub returns-then-not-are_sized-clause-first : goal.returns-then-not-are_sized-clause-first
returns-then-not-are_sized-clause-first c = λ text i.
    let plan = c.args.plan.now in
    let many : list_all (λ p. p.0.partitions == p.1.partitions) (zip c.args.sources.now plan.sources) ≡ true = rw c.sources.ensures.says at (sym c.are_as_many.ensures ∙ c.if-not-are_as_many.false) in
    rows_fault plan text c.args.sources.now i c.sources.ensures.sound many (sym c.are_wide.ensures ∙ c.if-not-are_wide.false) (sym c.are_whole.ensures ∙ c.if-not-are_whole.false) (sym c.are_sized.ensures ∙ c.if-not-are_sized.true)

pub returns-then-not-are_timely-clause-first : goal.returns-then-not-are_timely-clause-first
returns-then-not-are_timely-clause-first c = λ text i.
    let plan = c.args.plan.now in
    let many : list_all (λ p. p.0.partitions == p.1.partitions) (zip c.args.sources.now plan.sources) ≡ true = rw c.sources.ensures.says at (sym c.are_as_many.ensures ∙ c.if-not-are_as_many.false) in
    time_fault plan text c.args.sources.now i c.sources.ensures.sound many (sym c.are_wide.ensures ∙ c.if-not-are_wide.false) (sym c.are_whole.ensures ∙ c.if-not-are_whole.false) (sym c.are_sized.ensures ∙ c.if-not-are_sized.false) (sym c.are_timely.ensures ∙ c.if-not-are_timely.true)

pub returns-then-not-are_of_kind-clause-first : goal.returns-then-not-are_of_kind-clause-first
returns-then-not-are_of_kind-clause-first c = λ text i.
    let plan = c.args.plan.now in
    let many : list_all (λ p. p.0.partitions == p.1.partitions) (zip c.args.sources.now plan.sources) ≡ true = rw c.sources.ensures.says at (sym c.are_as_many.ensures ∙ c.if-not-are_as_many.false) in
    kind_fault plan text c.args.sources.now i c.sources.ensures.sound many (sym c.are_wide.ensures ∙ c.if-not-are_wide.false) (sym c.are_whole.ensures ∙ c.if-not-are_whole.false) (sym c.are_sized.ensures ∙ c.if-not-are_sized.false) (sym c.are_timely.ensures ∙ c.if-not-are_timely.false) (sym c.are_of_kind.ensures ∙ c.if-not-are_of_kind.true)

pub late_in-requires-clause-narrow : goal.late_in-requires-clause-narrow
late_in-requires-clause-narrow c =
    let plan = c.args.plan.now in
    let many : list_all (λ p. p.0.partitions == p.1.partitions) (zip c.args.sources.now plan.sources) ≡ true = rw c.sources.ensures.says at (sym c.are_as_many.ensures ∙ c.if-not-are_as_many.false) in
    narrow_late plan c.requires.0 c.args.sources.now c.requires.1 c.sources.ensures.sound many

pub returns-in-Some-clause-first : goal.returns-in-Some-clause-first
returns-in-Some-clause-first c = λ text i.
    let plan = c.args.plan.now in
    let many : list_all (λ p. p.0.partitions == p.1.partitions) (zip c.args.sources.now plan.sources) ≡ true = rw c.sources.ensures.says at (sym c.are_as_many.ensures ∙ c.if-not-are_as_many.false) in
    late_first plan text c.args.sources.now i c.sources.ensures.sound many (sym c.are_wide.ensures ∙ c.if-not-are_wide.false) (sym c.are_whole.ensures ∙ c.if-not-are_whole.false) (sym c.are_sized.ensures ∙ c.if-not-are_sized.false) (sym c.are_timely.ensures ∙ c.if-not-are_timely.false) (sym c.are_of_kind.ensures ∙ c.if-not-are_of_kind.false) c.in-Some.fault (sym c.in-Some.ensures)

pub returns-then-not-are_few-clause-first : goal.returns-then-not-are_few-clause-first
returns-then-not-are_few-clause-first c = λ text i.
    let plan = c.args.plan.now in
    let many : list_all (λ p. p.0.partitions == p.1.partitions) (zip c.args.sources.now plan.sources) ≡ true = rw c.sources.ensures.says at (sym c.are_as_many.ensures ∙ c.if-not-are_as_many.false) in
    let none : option_map late_fault (first_at (λ (x : SourceSeen). x.late) c.args.sources.now) ≡ None = sym c.late_in.ensures ∙ c.in_default.is in
    many_fault plan text c.args.sources.now i c.sources.ensures.sound many (sym c.are_wide.ensures ∙ c.if-not-are_wide.false) (sym c.are_whole.ensures ∙ c.if-not-are_whole.false) (sym c.are_sized.ensures ∙ c.if-not-are_sized.false) (sym c.are_timely.ensures ∙ c.if-not-are_timely.false) (sym c.are_of_kind.ensures ∙ c.if-not-are_of_kind.false) none (sym c.are_few.ensures ∙ c.if-not-are_few.true)

pub returns-clause-none : goal.returns-clause-none
returns-clause-none c = λ text i.
    let plan = c.args.plan.now in
    let many : list_all (λ p. p.0.partitions == p.1.partitions) (zip c.args.sources.now plan.sources) ≡ true = rw c.sources.ensures.says at (sym c.are_as_many.ensures ∙ c.if-not-are_as_many.false) in
    let none : option_map late_fault (first_at (λ (x : SourceSeen). x.late) c.args.sources.now) ≡ None = sym c.late_in.ensures ∙ c.in_default.is in
    all_met plan text c.args.sources.now i c.sources.ensures.sound many (sym c.are_wide.ensures ∙ c.if-not-are_wide.false) (sym c.are_whole.ensures ∙ c.if-not-are_whole.false) (sym c.are_sized.ensures ∙ c.if-not-are_sized.false) (sym c.are_timely.ensures ∙ c.if-not-are_timely.false) (sym c.are_of_kind.ensures ∙ c.if-not-are_of_kind.false) none (sym c.are_few.ensures ∙ c.if-not-are_few.false)
