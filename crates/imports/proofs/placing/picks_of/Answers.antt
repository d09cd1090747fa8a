use Rattle.std.proofs.Common.{◌≡◌, ◌∷◌, [], ℕ, Ok, Some, ap, arith, length, map, option_map, slice_get, sym, ◌∙◌}
use Rattle.std.specs.List.{enumerate_from}
use Rattle.std.proofs.lemmas.List.{length-map, map-append, take_all}
use Rattle.std.proofs.lemmas.List.FromFn.{length-enumerate_from}
use Rattle.std.proofs.lemmas.Option.{slice_get-get_or, slice_get-map}
use Rattle.asked_fields.specs.declared.asked.AskedField.{AskedField}
use Rattle.csv.specs.Records.{fields_of}
use Rattle.imports.specs.Placing.{all_ok, stand_in, stand_of}
use Rattle.imports.proofs.Stands.{all_right, first_fault, numbered_at, or_more, right_more}
use Rattle.imports.proofs.placing.picks_of.Goals as goal

pub returns-in-Err : goal.returns-in-Err
returns-in-Err c =
    let i = c.loop-i.i in
    let field = c.index-fields-i.result in
    let fields = c.args.fields.now in
    let g = λ (numbered : ℕ × AskedField). stand_of (fields_of c.args.header.now) numbered.0 numbered.1 in
    let at_field : slice_get fields i ≡ Some field = slice_get-get_or fields i field c.loop-i-test.true ∙ ap (λ found. Some found) (sym c.index-fields-i.is) in
    let at : slice_get (map g (enumerate_from 0 fields)) i ≡ Some (stand_of (fields_of c.args.header.now) i field) = slice_get-map g (enumerate_from 0 fields) i ∙ ap (option_map g) (numbered_at fields i field at_field) in
    or_more c.in-Err.ensures (λ said. first_fault (map g (enumerate_from 0 fields)) (map stand_in c.loop-i.picks.items) i c.in-Err.fault c.loop-i.invariant (at ∙ ap (λ r. Some r) said))

pub loop-i-preserved : goal.loop-i-preserved
loop-i-preserved c =
    let i = c.loop-i.i in
    let field = c.index-fields-i.result in
    let fields = c.args.fields.now in
    let picks = c.loop-i.picks.items in
    let g = λ (numbered : ℕ × AskedField). stand_of (fields_of c.args.header.now) numbered.0 numbered.1 in
    let at_field : slice_get fields i ≡ Some field = slice_get-get_or fields i field c.loop-i-test.true ∙ ap (λ found. Some found) (sym c.index-fields-i.is) in
    let at : slice_get (map g (enumerate_from 0 fields)) i ≡ Some (stand_of (fields_of c.args.header.now) i field) = slice_get-map g (enumerate_from 0 fields) i ∙ ap (option_map g) (numbered_at fields i field at_field) in
    right_more (map g (enumerate_from 0 fields)) (map stand_in picks) i (stand_in c.in-Ok.pick) c.loop-i.invariant (at ∙ ap (λ r. Some r) c.in-Ok.ensures)
    ∙ ap (map Ok) (sym (map-append stand_in picks (c.in-Ok.pick ∷ [])))
    ∙ ap (λ more. map Ok (map stand_in more)) (sym c.in_ok-push-in-Ok.ensures.items)

pub returns : goal.returns
returns c =
    let i = c.loop-i.i in
    let fields = c.args.fields.now in
    let g = λ (numbered : ℕ × AskedField). stand_of (fields_of c.args.header.now) numbered.0 numbered.1 in
    let rs = map g (enumerate_from 0 fields) in
    let size : length rs ≡ length fields = length-map (enumerate_from 0 fields) g ∙ length-enumerate_from 0 fields in
    ap all_ok (sym (take_all i rs (omega (arith, size, c.loop-i-test.false))) ∙ c.loop-i.invariant) ∙ all_right (map stand_in c.loop-i.picks.items)
