use Rattle.std.proofs.Common.{◌≡◌, ◌∷◌, ◌++◌, ◌+◌, ◌∙◌, [], List, ℕ, map, length, take, arith, ap, sym, append-nil, subst, Ok, Err}
use Rattle.std.specs.Borrow.{Bor}
use Rattle.std.specs.List.{flat_map}
use Rattle.std.proofs.lemmas.List.{take_all, length-map}
use Rattle.std.proofs.lemmas.Grind.{flat_map-append}
use Rattle.asked_fields.specs.Asked.{part_names, all_of}
use Rattle.asked_fields.specs.Joined.{byte_of, joint_text}
use Rattle.json.specs.Value.{members_view}
use Rattle.object_lines.specs.Members.{member_text}
use Rattle.object_lines.proofs.Texts.{bytes, part_more, part_fault, all_there}
use Rattle.object_lines.proofs.record.join_parts.Goals as goal

pub returns-in-Err : goal.returns-in-Err
returns-in-Err c =
    let inv = c.loop-part.invariant in
    let items = c.deref-part-items.ensures.value in
    let f = member_text (members_view c.args.members.now.items) in
    let so_far = subst (λ (names : List (Bor (List ℕ))). map f (take c.loop-part.part-index (map bytes names)) ≡ map Ok inv.0) (sym items) inv.1 in
    subst (λ (names : List (Bor (List ℕ))). all_of (map f (map bytes names)) ≡ Err c.in-Err.fault) items
    (part_fault f c.deref-part-items.result.now c.loop-part.part-index _ inv.0 c.in-Err.fault (omega arith) so_far c.in-Err.ensures)

pub loop-part-preserved : goal.loop-part-preserved
loop-part-preserved c =
    let inv = c.loop-part.invariant in
    let items = c.deref-part-items.ensures.value in
    let f = member_text (members_view c.args.members.now.items) in
    let joint = joint_text (byte_of c.args.asked.now.joint) in
    let text = c.in-Ok.text.now in
    let so_far = subst (λ (names : List (Bor (List ℕ))). map f (take c.loop-part.part-index (map bytes names)) ≡ map Ok inv.0) (sym items) inv.1 in (
      inv.0 ++ text ∷ [],
      subst (λ (names : List (Bor (List ℕ))). map f (take (c.loop-part.part-index + 1) (map bytes names)) ≡ map Ok (inv.0 ++ text ∷ [])) items
          (part_more f c.deref-part-items.result.now c.loop-part.part-index _ inv.0 text (omega arith) so_far c.in-Ok.ensures),
      c.in_ok-push_text-in-Ok.ensures ∙ ap (λ (bytes : List ℕ). c.loop-part.joined.items ++ joint bytes) c.as_bytes.ensures.value
          ∙ ap (λ (front : List ℕ). front ++ joint text) inv.2
          ∙ ap (λ (back : List ℕ). flat_map joint inv.0 ++ back) (sym (append-nil (joint text)))
          ∙ sym (flat_map-append joint inv.0 (text ∷ [])),
    )

pub returns : goal.returns
returns c =
    let inv = c.loop-part.invariant in
    let f = member_text (members_view c.args.members.now.items) in
    let all = part_names c.args.asked.now in
    let long : length all ≡ length c.deref-part-items.result.now = length-map c.args.asked.now.parts.items bytes ∙ ap length (sym c.deref-part-items.ensures.value) in
    let whole : take c.loop-part.part-index all ≡ all = take_all c.loop-part.part-index all (omega arith) in
    (inv.0, ap (λ (names : List (List ℕ)). all_of (map f names)) (sym whole) ∙ ap all_of inv.1 ∙ all_there inv.0, inv.2)
