use Rattle.std.proofs.Common.{rules, ◌∙◌, ap, sym, bytes_eq, Bool, ◌||◌}
use Rattle.std.specs.List.{list_any}
use Rattle.import_words.specs.Files.{names_in}
use Rattle.import_words.proofs.Paths.{path_left, at_end, at_name, at_plus}
use Rattle.import_words.proofs.files.names_path.Goals as goal

pub parts-init : goal.parts-init
parts-init c = record { text = search rules; says = sym (path_left c.args.path (names_in c.args.text.now)) }

pub returns-in-Nothing : goal.returns-in-Nothing
returns-in-Nothing c =
    let next = rw c.in-Nothing.is at c.next_part.ensures in
    c.is_done.ensures ∙ sym (c.parts.invariant.says ∙ at_end c.args.path.now c.parts.left c.without-left.result c.next_part.result.0.now (names_in c.parts.rest.now) next c.without-left.ensures)

pub returns-then-is_done : goal.returns-then-is_done
returns-then-is_done c =
    let next = rw c.in-Name.is at c.next_part.ensures in
    let done = sym c.is_done-in-Name.ensures ∙ c.if-is_done.true in
    sym (c.parts.invariant.says ∙ at_name c.args.path.now c.parts.left c.without-left.result c.next_part.result.0.now (names_in c.parts.rest.now) (names_in c.in-Name.text.now) next.0 c.without-left.ensures
    ∙ ap (λ (b : Bool). b || list_any (bytes_eq c.args.path.now) (names_in c.in-Name.text.now)) done)

pub parts-preserved-in-Name : goal.parts-preserved-in-Name
parts-preserved-in-Name c =
    let next = rw c.in-Name.is at c.next_part.ensures in
    let more = sym c.is_done-in-Name.ensures ∙ c.if-is_done.false in
    record {
      text = search rules;
      says = c.parts.invariant.says ∙ at_name c.args.path.now c.parts.left c.without-left.result c.next_part.result.0.now (names_in c.parts.rest.now) (names_in c.in-Name.text.now) next.0 c.without-left.ensures
          ∙ ap (λ (b : Bool). b || list_any (bytes_eq c.args.path.now) (names_in c.in-Name.text.now)) more
          ∙ sym (path_left c.args.path (names_in c.in-Name.text.now));
    }

pub parts-preserved : goal.parts-preserved
parts-preserved c =
    let next = rw c.in-Plus.is at c.next_part.ensures in
    record { text = search rules; says = c.parts.invariant.says ∙ at_plus c.args.path.now c.parts.left c.without-left.result c.without-left-in-Plus.result c.next_part.result.0.now (names_in c.parts.rest.now) (names_in c.in-Plus.text.now) next.0 c.without-left.ensures c.without-left-in-Plus.ensures }
