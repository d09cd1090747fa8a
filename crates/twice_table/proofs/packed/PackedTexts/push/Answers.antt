use Rattle.std.proofs.Common.{arith, ◌∙◌, ap, refl, ◌++◌, ◌∷◌, [], List, ℕ}
use Rattle.twice_table.proofs.Cuts.{in_part, in_whole, with_end, emptied_so}
use Rattle.twice_table.proofs.packed.PackedTexts.push.Goals as goal

pub invariant_of-self : goal.invariant_of-self
invariant_of-self c = (in_part c.self.inside.ends.items c.self.inside.bytes.items _ _ c.self.invariant refl (c.in_err-extend_from_slice.ensures.items ∙ (emptied_so c.self.inside.ends.items c.self.inside.bytes.items _ _ _ c.truncate.ensures.items c.last_end.ensures c.deref.ensures.value))).0

pub returns-in_err-extend_from_slice-clause-err : goal.returns-in_err-extend_from_slice-clause-err
returns-in_err-extend_from_slice-clause-err c =
    let e = (in_part c.self.inside.ends.items c.self.inside.bytes.items _ _ c.self.invariant refl (c.in_err-extend_from_slice.ensures.items ∙ (emptied_so c.self.inside.ends.items c.self.inside.bytes.items _ _ _ c.truncate.ensures.items c.last_end.ensures c.deref.ensures.value))).1 ∙ c.self.view_is in
    grind arith

pub invariant_of-self-in_err-push : goal.invariant_of-self-in_err-push
invariant_of-self-in_err-push c = (in_whole c.self.inside.ends.items c.self.inside.bytes.items c.args.text.now _ _ c.self.invariant c.in_err-push.ensures.items (c.in_ok-extend_from_slice.ensures.items ∙ ap (λ (bytes : List ℕ). bytes ++ c.args.text.now) (emptied_so c.self.inside.ends.items c.self.inside.bytes.items _ _ _ c.truncate.ensures.items c.last_end.ensures c.deref.ensures.value))).0

pub returns-in_err-push-clause-err : goal.returns-in_err-push-clause-err
returns-in_err-push-clause-err c =
    let e = (in_whole c.self.inside.ends.items c.self.inside.bytes.items c.args.text.now _ _ c.self.invariant c.in_err-push.ensures.items (c.in_ok-extend_from_slice.ensures.items ∙ ap (λ (bytes : List ℕ). bytes ++ c.args.text.now) (emptied_so c.self.inside.ends.items c.self.inside.bytes.items _ _ _ c.truncate.ensures.items c.last_end.ensures c.deref.ensures.value))).1 ∙ c.self.view_is in
    grind arith

pub invariant_of-self-2 : goal.invariant_of-self-2
invariant_of-self-2 c = (with_end c.self.inside.ends.items c.self.inside.bytes.items c.args.text.now _ _ c.self.invariant (c.in_ok-push.ensures.items ∙ ap (λ (n : ℕ). c.self.inside.ends.items ++ n ∷ []) (c.len.ensures ∙ c.extend_from_slice.new.self.ok.0)) (c.in_ok-extend_from_slice.ensures.items ∙ ap (λ (bytes : List ℕ). bytes ++ c.args.text.now) (emptied_so c.self.inside.ends.items c.self.inside.bytes.items _ _ _ c.truncate.ensures.items c.last_end.ensures c.deref.ensures.value))).0

pub returns-clause-texts : goal.returns-clause-texts
returns-clause-texts c = (with_end c.self.inside.ends.items c.self.inside.bytes.items c.args.text.now _ _ c.self.invariant (c.in_ok-push.ensures.items ∙ ap (λ (n : ℕ). c.self.inside.ends.items ++ n ∷ []) (c.len.ensures ∙ c.extend_from_slice.new.self.ok.0)) (c.in_ok-extend_from_slice.ensures.items ∙ ap (λ (bytes : List ℕ). bytes ++ c.args.text.now) (emptied_so c.self.inside.ends.items c.self.inside.bytes.items _ _ _ c.truncate.ensures.items c.last_end.ensures c.deref.ensures.value))).1 ∙ ap (λ (texts : List (List ℕ)). texts ++ c.args.text.now ∷ []) c.self.view_is
