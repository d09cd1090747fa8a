-- The next line that is not blank.
use Rattle.std.proofs.Common.{◌≡◌, ◌∙◌, true, false, ℕ, List, [], ◌∷◌, Option, Some, None, Result, Err, ap, sym, refl}
use Rattle.asked_fields.specs.declared.asked.AskedField.{AskedField}
use Rattle.csv.specs.Records.{fields_of}
use Rattle.object_lines.specs.Lines.{next_line, is_blank, line_in, lines_left, FillsLine, IsNextLine, AdvancesLine}
use Rattle.object_lines.specs.Records.{IsRead}
use Rattle.object_lines.specs.declared.fault.LineFault.{LineFault}
use Rattle.object_lines.specs.declared.fault.LineFault.TheVariants.{Read, NoObject, Member, Memory}
use Rattle.object_lines.specs.declared.lines.ObjectLines.{ObjectLines}

full : (line : List ℕ) (more : List (List ℕ)) → is_blank line ≡ false → next_line (line ∷ more) ≡ Some (line, more)
unfolding next_line
full line more is = rw is refl

pub blank : (line : List ℕ) (more : List (List ℕ)) → is_blank line ≡ true → next_line (line ∷ more) ≡ next_line more
unfolding next_line
blank line more is = rw is refl

pub no_line : next_line [] ≡ None
unfolding next_line
no_line = refl

pub found : {R : Type 0} (remaining : R → Option (List ℕ)) (asked : List AskedField) (left now more : List (List ℕ)) (mid new : ObjectLines R) (answer : Result (Unit {0}) LineFault)
    → next_line left ≡ next_line now → now ≡ line_in mid ∷ more → lines_left remaining mid ≡ Some more
    → line_in new ≡ line_in mid → lines_left remaining new ≡ lines_left remaining mid
    → is_blank (line_in mid) ≡ false → IsRead asked (fields_of new.record) (line_in mid) answer → IsNextLine remaining asked left new answer
found remaining asked left now more mid new answer same first rest line kept is read = record {
  more = more;
  next = same ∙ ap next_line first ∙ full (line_in mid) more is ∙ ap (λ (text : List ℕ). Some (text, more)) (sym line);
  rest = kept ∙ rest;
  read = rw line read;
}

pub fault_found : {R : Type 0} (remaining : R → Option (List ℕ)) (asked : List AskedField) (left now more : List (List ℕ)) (mid new : ObjectLines R) (fault : LineFault)
    → next_line left ≡ next_line now → now ≡ line_in mid ∷ more → lines_left remaining mid ≡ Some more
    → line_in new ≡ line_in mid → lines_left remaining new ≡ lines_left remaining mid
    → FillsLine asked (line_in mid) (fields_of new.record) (Err fault) → AdvancesLine remaining asked left new (Err fault)
fault_found remaining asked left now more mid new Read same first rest line kept fills = tt
fault_found remaining asked left now more mid new Memory same first rest line kept fills = tt
fault_found remaining asked left now more mid new NoObject same first rest line kept fills = found remaining asked left now more mid new (Err NoObject) same first rest line kept fills.0 fills.1
fault_found remaining asked left now more mid new (Member place why) same first rest line kept fills
    = found remaining asked left now more mid new (Err (Member place why)) same first rest line kept fills.0 fills.1
