use Rattle.std.proofs.Common.{◌≡◌, ◌-◌, List, length, Ok, subst, arith}
use Rattle.byte_fields.specs.Reads.{Fails}
use Rattle.aggregates.specs.declared.kind.Kind.{Kind}
use Rattle.savepoint_index.specs.Index.{indexed_groups}
use Rattle.std.proofs.lemmas.Result.{err_from_is_err_and}
use Rattle.savepoint_index.proofs.Contents.{IsBegun, begun, contents_read, contents_fail}
use Rattle.savepoint_index.proofs.decoding.read_contents.Goals as goal

pub overflow_sub-begin : goal.overflow_sub-begin
overflow_sub-begin c =
    let h : IsBegun c.args.bytes.now c.in_ok-rest.rest.now c.in_ok-front.behind.now c.in_ok-front.front = record { marked = c.in_ok-rest.ensures; fronted = c.in_ok-front.ensures.read; fits = λ i. omega (arith, c.type_inv.bytes i) } in
    omega (arith, begun c.args.bytes.now c.in_ok-rest.rest.now c.in_ok-front.behind.now c.in_ok-front.front h)

pub returns-in_err-groups : goal.returns-in_err-groups
returns-in_err-groups c =
    let h : IsBegun c.args.bytes.now c.in_ok-rest.rest.now c.in_ok-front.behind.now c.in_ok-front.front = record { marked = c.in_ok-rest.ensures; fronted = c.in_ok-front.ensures.read; fits = λ i. omega (arith, c.type_inv.bytes i) } in
    let e = err_from_is_err_and c.from_residual-in_err-groups.result c.from_residual-in_err-groups.ensures.1 in
    rw (e.1, e.2) (contents_fail c.args.bytes.now c.in_ok-rest.rest.now c.in_ok-front.behind.now c.in_ok-front.front c.in_err-groups.field-0.0 h
    (subst (λ (kinds : List Kind). Fails c.in_err-groups.field-0.0 ((indexed_groups c.in_ok-front.front.max kinds (length c.args.bytes.now - length c.in_ok-front.behind.now)).read c.in_ok-front.behind.now)) c.as_slice.ensures c.in_err-groups.ensures))

pub returns : goal.returns
returns c =
    let h : IsBegun c.args.bytes.now c.in_ok-rest.rest.now c.in_ok-front.behind.now c.in_ok-front.front = record { marked = c.in_ok-rest.ensures; fronted = c.in_ok-front.ensures.read; fits = λ i. omega (arith, c.type_inv.bytes i) } in
    contents_read c.args.bytes.now c.in_ok-rest.rest.now c.in_ok-front.behind.now c.in_ok-groups.rest.now c.in_ok-front.front c.in_ok-groups.groups c.with_groups.result h
    (subst (λ (kinds : List Kind). (indexed_groups c.in_ok-front.front.max kinds (length c.args.bytes.now - length c.in_ok-front.behind.now)).read c.in_ok-front.behind.now ≡ Ok (c.in_ok-groups.groups, c.in_ok-groups.rest.now)) c.as_slice.ensures c.in_ok-groups.ensures) c.with_groups.ensures
