use Rattle.std.proofs.Common.{rules, ◌≡◌, ◌<◌, ◌≤◌, ◌+◌, ◌++◌, take, length, map, slice_get, string_bytes, Some, option_map, sym, ap, subst, ◌∙◌}
use Rattle.std.proofs.lemmas.Option.{slice_get-get_or, slice_get-map}
use Rattle.json.specs.Print.{token_text}
use Rattle.row_lines.specs.Rows.{numbers_in}
use Rattle.row_tables.specs.Cells.{Shows}
use Rattle.row_export.specs.Objects.{cell_token, comma_at, key_text, HasMembers}
use Rattle.row_export.proofs.Members.{member_more, members_none, members_whole, title_at}
use Rattle.row_export.proofs.objects.put_members.Goals as goal

pub loop-place-init : goal.loop-place-init
loop-place-init c = members_none (map string_bytes c.args.table.now.names.items) c.args.table.now.kinds.items (map string_bytes c.args.names.now) (numbers_in c.args.row.now) c.args.line.now.items

pub loop-place-preserved : goal.loop-place-preserved
loop-place-preserved c =
    let titles = map string_bytes c.args.table.now.names.items in
    let kinds = c.args.table.now.kinds.items in
    let names = map string_bytes c.args.names.now in
    let numbers = numbers_in c.args.row.now in
    let before = c.args.line.now.items in
    let line = c.loop-place.line.items in
    let place = c.loop-place.place in
    let kind = c.kind-item.result in
    let number = c.in-Some-Some.number in
    let key = c.in-Some-Some.key.now in
    let at_kind : slice_get kinds place ≡ Some kind =
    subst (λ ks. slice_get ks place ≡ Some kind) c.deref-kind-items.ensures.value (slice_get-get_or c.deref-kind-items.result.now place kind (search rules) ∙ ap (λ x. Some x) (sym c.kind-item.is)) in
    let found = c.in-Some-Some.ensures.lookup in
    let within : place < length c.args.keys.now = search rules in
    let at_key : slice_get c.args.keys.now place ≡ Some key = slice_get-get_or c.args.keys.now place key within ∙ ap (λ x. Some x) (sym found.1) in
    let title = title_at titles place key.items (subst (λ l. slice_get l place ≡ Some key.items) c.requires.keys (slice_get-map (λ v. v.items) c.args.keys.now place ∙ ap (option_map (λ v. v.items)) at_key)) in
    let at_number : slice_get numbers place ≡ Some number = search rules in
    let member = c.in-Ok.ensures in
    let shown : Shows kind names number member.cell = search rules in
    let same : c.as_slice.result.now ≡ key_text title.0 = c.as_slice.ensures.value ∙ title.1.1 in
    let next : c.put_number.new.line.items ≡ line ++ (comma_at place ++ (key_text title.0 ++ token_text (cell_token kind member.cell))) = member.text ∙ ap (λ k. line ++ (comma_at place ++ (k ++ token_text (cell_token kind member.cell)))) same in
    subst (HasMembers (take (place + 1) titles) (take (place + 1) kinds) names (take (place + 1) numbers) before) (sym next)
    (member_more titles kinds names numbers place title.0 kind number member.cell before line title.1.0 at_kind at_number c.loop-place.invariant shown)

pub returns-clause-members : goal.returns-clause-members
returns-clause-members c =
    let titles = map string_bytes c.args.table.now.names.items in
    let kinds = c.args.table.now.kinds.items in
    let numbers = numbers_in c.args.row.now in
    let past : length kinds ≤ c.loop-place.place = search rules in
    members_whole titles kinds (map string_bytes c.args.names.now) numbers c.loop-place.place c.args.line.now.items c.loop-place.line.items past (subst (λ n. n ≤ c.loop-place.place) (sym c.requires.wide) past) c.loop-place.invariant
