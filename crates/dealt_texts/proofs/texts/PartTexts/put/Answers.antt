use Rattle.std.proofs.Common.{◌≡◌, ℕ, ◌<◌, ◌==◌, [], ◌∷◌, ◌++◌, None, length, ap, subst, sym, refl, ◌∙◌, arith}
use Rattle.std.specs.Int.{w64}
use Rattle.std.proofs.lemmas.Int.{to_z-of_z}
use Rattle.std.proofs.lemmas.List.{with_items_is}
use Rattle.std.specs.Vec.{with_items}
use Rattle.import_entries.specs.Entries.{place_fault, progress_of}
use Rattle.entry_texts.specs.Partitions.{Row, times_of}
use Rattle.dealt_texts.specs.Dealing.{owner_of}
use Rattle.dealt_texts.specs.Steps.{Each, text_at, placed, dealt}
use Rattle.dealt_texts.specs.Texts.{behind, part_of_rows}
use Rattle.dealt_texts.proofs.Putting.{texts_put}
use Rattle.dealt_texts.proofs.texts.PartTexts.put.Goals as goal

pub returns-clause-puts : goal.returns-clause-puts
returns-clause-puts c before written h =
    let self = c.args.self.now in
    let row : Row = record { time = c.args.time; first = c.args.first; others = c.args.others.now } in
    let place = c.in_ok-place.place in
    let owner = c.owner-owner.result in
    let old = self.texts.items in
    let mid = c.place_all.new.texts in
    let new = c.push_at.new.texts in
    let time = to_z-of_z w64 c.args.time c.ranges.time in
    let number = to_z-of_z w64 c.args.first c.ranges.first in
    let placing = c.in_ok-place.ensures (times_of before) h.progress in
    let first : Each (λ i p. placed place p) old mid = subst (λ ts. Each (λ i p. placed place p) ts mid) c.deref_mut.ensures.value c.in_ok-place_all.ensures in
    let one : (with_items self.texts mid).items ≡ mid = with_items_is self.texts mid (omega (arith, first.same)) in
    let same : c.deref_mut-2.result.now ≡ mid = c.deref_mut-2.ensures.value ∙ one in
    let inside : owner < length c.deref_mut-2.result.now = omega (arith, c.owner-owner.ensures.below, h.all, first.same, ap length same) in
    let next : Each (λ i p. dealt (owner == i) row p) mid new = subst (λ ts. Each (λ i p. dealt (owner == i) row p) ts new) same (c.in_ok-push_at.ensures row (sym number) refl inside) in
    let two : (with_items (with_items self.texts mid) new).items ≡ new = with_items_is (with_items self.texts mid) new (omega (arith, first.same, next.same)) in
    let is_owner : owner ≡ owner_of self.dealing row.first row.others = c.owner-owner.ensures.value ∙ ap (λ z. owner_of self.dealing z row.others) number in
    record {
      progress = placing.2 ∙ ap (λ t. progress_of self.rule.most_rows (times_of before ++ t ∷ [])) time;
      timely = (subst (λ t. place_fault self.rule.most_rows self.rule.bound (times_of before) t ≡ None) time placing.0, h.timely);
      all = ap length two ∙ next.same ∙ first.same ∙ h.all;
      texts = subst (λ ts. (i : ℕ) → i < self.dealing.parts → behind (written i) (text_at ts i) ≡ part_of_rows self.rule self.dealing i (row ∷ before)) (sym two)
          (texts_put self.rule self.dealing before row place owner written old mid new h.all placing.1 is_owner first next h.texts);
    }
