use Rattle.std.proofs.Common.{◌≡◌, ◌<◌, ◌^◌, ◌≤◌, ℕ, List, [], length, drop, Some, None, sym, ap, subst, ◌∙◌, arith}
use Rattle.std.proofs.lemmas.Result.{err_from_is_err_and}
use Rattle.byte_fields.specs.Lists.{chain}
use Rattle.byte_fields.specs.Reads.{Gives}
use Rattle.byte_fields.proofs.Exact.{ok_is}
use Rattle.aggregates.specs.declared.kind.Kind.{Kind}
use Rattle.savepoint_codec.specs.declared.savepoint.Front.{Front}
use Rattle.savepoint_codec.specs.Fields.{entry_after}
use Rattle.savepoint_codec.specs.Reading.{entries_read}
use Rattle.savepoint_index.specs.Index.{entry_length}
use Rattle.savepoint_index.specs.Reading.{value_read}
use Rattle.savepoint_index.specs.Answer.{head_of_group}
use Rattle.savepoint_index.proofs.Found.{cannot, count_way, fails_memory, found, front_way, gives_located, heads_way, listed, mark_read, not_there, the_first, the_heads}
use Rattle.savepoint_index.proofs.group.read_group.Goals as goal

pub returns-in_err-rest-clause-entries : goal.returns-in_err-rest-clause-entries
returns-in_err-rest-clause-entries c = λ s h is. cannot _ _ c.in_err-rest.field-0.0 (mark_read s c.args.bytes.now is) c.in_err-rest.ensures

pub returns-in_err-front-clause-entries : goal.returns-in_err-front-clause-entries
returns-in_err-front-clause-entries c = λ s h is.
    let e = err_from_is_err_and c.from_residual-in_err-front.result c.from_residual-in_err-front.ensures.1 in
    rw (e.1, e.2) (fails_memory c.in_err-front.field-0.0 _ _ (front_way s c.args.bytes.now c.in_ok-rest.rest.now h is c.in_ok-rest.ensures) c.in_err-front.ensures.read)

pub returns-in_err-count-clause-entries : goal.returns-in_err-count-clause-entries
returns-in_err-count-clause-entries c = λ s h is.
    cannot _ _ c.in_err-count.field-0.0 (count_way s c.args.bytes.now c.in_ok-rest.rest.now c.in_ok-front.rest.now c.in_ok-front.front h is c.in_ok-rest.ensures c.in_ok-front.ensures.read).1 c.in_err-count.ensures

pub returns-in_err-find_head-clause-entries : goal.returns-in_err-find_head-clause-entries
returns-in_err-find_head-clause-entries c = λ s h is.
    let short : length c.args.bytes.now < 2 ^ 64 = omega arith in
    let read = heads_way s c.args.bytes.now c.in_ok-rest.rest.now c.in_ok-front.rest.now c.in_ok-count.rest.now c.in_ok-front.front c.in_ok-count.count h is short c.in_ok-rest.ensures c.in_ok-front.ensures.read c.in_ok-count.ensures in
    cannot c.find_head.result _ c.in_err-find_head.field-0.0 (c.find_head.ensures (the_heads s, listed s) read) c.in_err-find_head.was

pub returns-in-None-clause-entries : goal.returns-in-None-clause-entries
returns-in-None-clause-entries c = λ s h is.
    let short : length c.args.bytes.now < 2 ^ 64 = omega arith in
    let read = heads_way s c.args.bytes.now c.in_ok-rest.rest.now c.in_ok-front.rest.now c.in_ok-count.rest.now c.in_ok-front.front c.in_ok-count.count h is short c.in_ok-rest.ensures c.in_ok-front.ensures.read c.in_ok-count.ensures in
    let none : head_of_group c.args.group (the_heads s) ≡ None = ok_is _ _ (sym (c.find_head.ensures (the_heads s, listed s) read) ∙ c.in_ok-find_head.was) ∙ c.in-None.is in
    let front = (count_way s c.args.bytes.now c.in_ok-rest.rest.now c.in_ok-front.rest.now c.in_ok-front.front h is c.in_ok-rest.ensures c.in_ok-front.ensures.read).0 in
    let width : c.len.result ≡ length s.kinds = c.len.ensures ∙ ap (λ (f : Front). length f.kinds) front in
    c.new.ensures ∙ ap (λ (w : ℕ). record { width = w; entries = [] }) width ∙ sym (not_there (length s.kinds) c.args.group (entry_length s.kinds) (the_first s) s.groups none)

pub returns-clause-entries : goal.returns-clause-entries
returns-clause-entries c = λ s h is.
    let short : length c.args.bytes.now < 2 ^ 64 = omega arith in
    let read = heads_way s c.args.bytes.now c.in_ok-rest.rest.now c.in_ok-front.rest.now c.in_ok-count.rest.now c.in_ok-front.front c.in_ok-count.count h is short c.in_ok-rest.ensures c.in_ok-front.ensures.read c.in_ok-count.ensures in
    let some : head_of_group c.args.group (the_heads s) ≡ Some c.in-Some.head = ok_is _ _ (sym (c.find_head.ensures (the_heads s, listed s) read) ∙ c.in_ok-find_head.was) ∙ c.in-Some.is in
    let front = (count_way s c.args.bytes.now c.in_ok-rest.rest.now c.in_ok-front.rest.now c.in_ok-front.front h is c.in_ok-rest.ensures c.in_ok-front.ensures.read).0 in
    let kinds : c.as_slice.result.now ≡ s.kinds = c.as_slice.ensures ∙ ap (λ (f : Front). f.kinds) front in
    let at = found s c.args.group c.in-Some.head h some in
    let given = subst (λ (ks : List Kind). c.in-Some.head.place ≤ length c.args.bytes.now → Gives (λ e. e) c.read_at.result (value_read (entries_read ks ((chain (entry_after ks) None c.in-Some.head.count).read (drop c.in-Some.head.place c.args.bytes.now))))) kinds c.read_at.ensures in
    gives_located c.read_at.result s.kinds c.args.group s.groups c.args.bytes.now c.in-Some.head (rw is at) given
