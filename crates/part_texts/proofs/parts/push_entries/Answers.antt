use Rattle.std.proofs.Common.{◌∙◌, List, sym, subst, arith}
use Rattle.std.proofs.lemmas.List.{length-map, take_all}
use Rattle.stream_model.specs.declared.entry.Marked.{Marked}
use Rattle.input_parts.specs.Parts.{is_in_part, entry_kept}
use Rattle.part_texts.specs.PartTexts.{Each, with_entries}
use Rattle.part_texts.specs.Streams.{state_of, states_of}
use Rattle.part_texts.proofs.Steps.{kept_of, no_entries, entries_more}
use Rattle.part_texts.proofs.parts.push_entries.Goals as goal

pub push_entry-requires-clause-all : goal.push_entry-requires-clause-all
push_entry-requires-clause-all g c = sym (length-map c.loop-marked.texts (state_of g.W.Write.contents)) ∙ c.loop-marked.invariant.same ∙ length-map c.args.texts.now (state_of g.W.Write.contents) ∙ c.requires.all

pub loop-marked-init : goal.loop-marked-init
loop-marked-init g c = no_entries (is_in_part c.args.plan.now c.args.parts) c.args.entries.now (states_of g.W.Write.contents c.args.texts.now)

pub loop-marked-preserved : goal.loop-marked-preserved
loop-marked-preserved g c =
    let keep = is_in_part c.args.plan.now c.args.parts in
    let entries = c.args.entries.now in
    let place = c.loop-marked.marked-index in
    let x = c.marked-item.result in
    let texts = states_of g.W.Write.contents c.loop-marked.texts in
    let new = states_of g.W.Write.contents c.push_entry.new.texts in
    entries_more keep entries place x (states_of g.W.Write.contents c.args.texts.now) texts new c.loop-marked-test.true c.loop-marked.invariant
    (subst (λ (e : Marked). Each (λ i p. with_entries p (entry_kept (keep i) e.entry)) texts new) c.marked-item.is c.in_ok-push_entry.ensures)

pub returns : goal.returns
returns g c =
    let entries = c.args.entries.now in
    subst (λ (es : List Marked). Each (kept_of (is_in_part c.args.plan.now c.args.parts) es) (states_of g.W.Write.contents c.args.texts.now) (states_of g.W.Write.contents c.loop-marked.texts)) (take_all c.loop-marked.marked-index entries (omega arith)) c.loop-marked.invariant
