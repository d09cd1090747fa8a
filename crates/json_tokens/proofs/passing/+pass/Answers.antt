use Rattle.std.proofs.Common.{◌≡◌, ◌-◌, ◌<◌, ◌∷◌, [], length, Some, None, refl, ap, ap₂, ◌∙◌, arith}
use Rattle.json.specs.Json.{parse_map, after_end_array, read_key, items, members, value}
use Rattle.json.specs.Reads.{token_of}
use Rattle.json.proofs.Grammar.{value_is, value-begin_array, value-begin_object, read_key-shorter}
use Rattle.serde_json.specs.Data.{null, boolean, string, number, array, object, no_items, no_members, item, put}
use Rattle.serde_json.specs.View.{number_view}
use Rattle.serde_json.specs.Read.{of_json, of_items, converted}
use Rattle.json_tokens.proofs.Passed.{either_way, converted-array, converted-object, before_item, nothing_before, item_read, item_refused, items_over, member_read, member_refused, key_refused, members_over}
use Rattle.json_tokens.proofs.passing.+pass.Goals as goal

pub pass_items-items-init : goal.pass_items-items-init
pass_items-items-init t c =
    let all = converted of_items (items (value c.args.depth) (length c.args.reader.now) c.args.reader.now) in
    (length c.args.reader.now, λ ds. ds, omega arith, omega arith, nothing_before all)

pub pass_items-items-preserved : goal.pass_items-items-preserved
pass_items-items-preserved t c =
    let p = value c.args.depth in
    let l = c.items in
    let n = l.invariant.0 in
    let before = l.invariant.1 in
    let going : (after_end_array l.reader ≡ None) × (c.take_end_array.new.self ≡ l.reader) = grind arith in
    let d = c.in_ok-pass_value.ensures.value in
    let r = c.pass_value.new.reader in
    let less : length r < length l.reader = rw (← going.1) c.in_ok-pass_value.ensures.shorter in
    let turn = item_read p n l.reader r d.0 (omega (arith, l.invariant.2)) going.0 (rw (← going.1) d.1) in (
      n - 1,
      λ ds. before (item d.0 ds),
      omega (arith, l.invariant.2),
      omega (arith, l.invariant.3),
      l.invariant.4 ∙ ap (parse_map before) turn ∙ before_item before d.0 (converted of_items (items p (n - 1) r)),
    )

pub pass_items-returns-in_err-pass_value-clause-value : goal.pass_items-returns-in_err-pass_value-clause-value
pass_items-returns-in_err-pass_value-clause-value t c =
    let p = value c.args.depth in
    let l = c.items in
    let going : (after_end_array l.reader ≡ None) × (c.take_end_array.new.self ≡ l.reader) = grind arith in
    let none = l.invariant.4 ∙ ap (parse_map l.invariant.1) (item_refused p l.invariant.0 l.reader going.0 (rw (← going.1) c.in_err-pass_value.ensures.value)) in
    grind (arith, none)

pub pass_items-returns-clause-value : goal.pass_items-returns-clause-value
pass_items-returns-clause-value t c =
    let p = value c.args.depth in
    let l = c.items in
    let r = c.take_end_array.new.self in
    (l.invariant.1 no_items, l.invariant.4 ∙ ap (parse_map l.invariant.1) (items_over p l.invariant.0 l.reader r l.invariant.2 (grind arith)))

pub pass_members-members-init : goal.pass_members-members-init
pass_members-members-init t c = (length c.args.reader.now, no_members, omega arith, omega arith, refl)

pub pass_members-returns-in_err-next_key-clause-value : goal.pass_members-returns-in_err-next_key-clause-value
pass_members-returns-in_err-next_key-clause-value t c =
    let l = c.members in
    let none = l.invariant.4 ∙ key_refused (value c.args.depth) l.invariant.1 l.invariant.0 l.reader c.in_err-next_key.ensures.value in
    grind (arith, none)

pub pass_members-returns-in_err-pass_value-clause-value : goal.pass_members-returns-in_err-pass_value-clause-value
pass_members-returns-in_err-pass_value-clause-value t c =
    let l = c.members in
    let k = c.in-Some.field-0.now in
    let s = c.next_key.new.self in
    let named : read_key l.reader ≡ Some (Some k, s) = grind arith in
    let none = l.invariant.4 ∙ member_refused (value c.args.depth) l.invariant.1 l.invariant.0 k l.reader s named c.in_err-pass_value.ensures.value in
    grind (arith, none)

pub pass_members-members-preserved : goal.pass_members-members-preserved
pass_members-members-preserved t c =
    let p = value c.args.depth in
    let l = c.members in
    let n = l.invariant.0 in
    let old = l.invariant.1 in
    let k = c.in-Some.field-0.now in
    let s = c.next_key.new.self in
    let named : read_key l.reader ≡ Some (Some k, s) = grind arith in
    let d = c.in_ok-pass_value.ensures.value in
    let r = c.pass_value.new.reader in
    let less = read_key-shorter l.reader (Some k) s named in
    let lesser = c.in_ok-pass_value.ensures.shorter in (
      n - 1,
      put k d.0 old,
      omega (arith, l.invariant.2),
      omega (arith, l.invariant.3),
      l.invariant.4 ∙ member_read p old n k l.reader s r d.0 (omega (arith, l.invariant.2)) named d.1,
    )

pub pass_members-returns-clause-value : goal.pass_members-returns-clause-value
pass_members-returns-clause-value t c =
    let l = c.members in
    (l.invariant.1, l.invariant.4 ∙ members_over (value c.args.depth) l.invariant.1 l.invariant.0 l.reader c.next_key.new.self l.invariant.2 (grind arith))

pub pass_value-returns-in_err-token-clause-value : goal.pass_value-returns-in_err-token-clause-value
pass_value-returns-in_err-token-clause-value t c =
    let empty : c.args.reader.now ≡ [] = grind arith in
    let none = ap (converted of_json) (ap (value c.args.depth) empty ∙ value_is c.args.depth []) in
    grind (arith, none)

pub pass_rest-returns-then-depth-eq0-clause-value : goal.pass_rest-returns-then-depth-eq0-clause-value
unfolding value
pass_rest-returns-then-depth-eq0-clause-value t c =
    let none : c.args.depth ≡ 0 = omega arith in
    ap (converted of_json) (ap₂ value none (ap (λ k. token_of k ∷ c.args.reader.now) c.in-BeginArray.is))

pub pass_rest-returns-then-depth-eq0-2-clause-value : goal.pass_rest-returns-then-depth-eq0-2-clause-value
unfolding value
pass_rest-returns-then-depth-eq0-2-clause-value t c =
    let none : c.args.depth ≡ 0 = omega arith in
    ap (converted of_json) (ap₂ value none (ap (λ k. token_of k ∷ c.args.reader.now) c.in-BeginObject.is))

pub pass_rest-returns-in-String-clause-value : goal.pass_rest-returns-in-String-clause-value
pass_rest-returns-in-String-clause-value t c =
    (string c.in-String.field-0.now, ap (converted of_json) (ap (λ k. value c.args.depth (token_of k ∷ c.args.reader.now)) c.in-String.is ∙ value_is c.args.depth _))

pub pass_rest-returns-in-Bool-clause-value : goal.pass_rest-returns-in-Bool-clause-value
pass_rest-returns-in-Bool-clause-value t c =
    (boolean c.in-Bool.field-0, ap (converted of_json) (ap (λ k. value c.args.depth (token_of k ∷ c.args.reader.now)) c.in-Bool.is ∙ value_is c.args.depth _))

pub pass_rest-returns-in-Null-clause-value : goal.pass_rest-returns-in-Null-clause-value
pass_rest-returns-in-Null-clause-value t c =
    (null, ap (converted of_json) (ap (λ k. value c.args.depth (token_of k ∷ c.args.reader.now)) c.in-Null.is ∙ value_is c.args.depth _))

pub pass_rest-returns-in-Some-clause-value : goal.pass_rest-returns-in-Some-clause-value
pass_rest-returns-in-Some-clause-value t c =
    (number (number_view c.in-Some.field-0), ap (converted of_json) (ap (λ k. value c.args.depth (token_of k ∷ c.args.reader.now)) c.in-Number.is ∙ value_is c.args.depth _) ∙ rw (← c.in-Some.ensures) refl)

pub pass_rest-returns-in-None-clause-value : goal.pass_rest-returns-in-None-clause-value
pass_rest-returns-in-None-clause-value t c =
    ap (converted of_json) (ap (λ k. value c.args.depth (token_of k ∷ c.args.reader.now)) c.in-Number.is ∙ value_is c.args.depth _) ∙ rw (← c.in-None.ensures) refl

pub pass_rest-returns-in-EndObject-clause-value : goal.pass_rest-returns-in-EndObject-clause-value
pass_rest-returns-in-EndObject-clause-value t c =
    let none : value c.args.depth (token_of c.args.token ∷ c.args.reader.now) ≡ None = rw (value_is c.args.depth (token_of c.args.token ∷ c.args.reader.now)) (grind arith) in
    ap (converted of_json) none

pub pass_rest-returns-else-depth-eq0-clause-value : goal.pass_rest-returns-else-depth-eq0-clause-value
pass_rest-returns-else-depth-eq0-clause-value t c =
    let opened = ap (converted of_json) (ap (λ k. value c.args.depth (token_of k ∷ c.args.reader.now)) c.in-BeginArray.is ∙ value-begin_array c.args.depth c.args.reader.now (omega arith)) ∙ converted-array (items (value (c.args.depth - 1)) (length c.args.reader.now) c.args.reader.now) in
    either_way c.pass_items.result (λ x ds. (array ds.0, opened ∙ ap (parse_map array) ds.1)) (λ e none. opened ∙ ap (parse_map array) none) c.pass_items.ensures.value

pub pass_rest-returns-else-depth-eq0-2-clause-value : goal.pass_rest-returns-else-depth-eq0-2-clause-value
pass_rest-returns-else-depth-eq0-2-clause-value t c =
    let opened = ap (converted of_json) (ap (λ k. value c.args.depth (token_of k ∷ c.args.reader.now)) c.in-BeginObject.is ∙ value-begin_object c.args.depth c.args.reader.now (omega arith)) ∙ converted-object (members (value (c.args.depth - 1)) (length c.args.reader.now) c.args.reader.now) in
    either_way c.pass_members.result (λ x ms. (object ms.0, opened ∙ ap (parse_map object) ms.1)) (λ e none. opened ∙ ap (parse_map object) none) c.pass_members.ensures.value
