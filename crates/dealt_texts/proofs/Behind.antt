-- A text that grows behind what was taken out of it.
use Rattle.std.proofs.Common.{◌≡◌, ℕ, Bool, true, false, List, [], ◌++◌, Option, Some, None, refl, sym, ap, ◌∙◌, append_assoc, if◌then◌else◌}
use Rattle.std.specs.Prelude.{ℤ, codes}
use Rattle.import_entries.specs.declared.place.Place.{Place}
use Rattle.import_entries.specs.declared.place.Place.TheVariants.{Joins, Begins}
use Rattle.entry_texts.specs.Partitions.{Row}
use Rattle.entry_texts.specs.EntryTexts.{row_text}
use Rattle.dealt_texts.specs.Parts.{Growing, growing, closed, with_mark, with_marks, with_row}
use Rattle.dealt_texts.specs.Steps.{placed, dealt}
use Rattle.dealt_texts.specs.Texts.{behind}

behind_closed : (w : List ℕ) (p : Growing) → behind w (closed p) ≡ closed (behind w p)
behind_closed w p = ap (λ t. growing t p.is_first false) (sym (append_assoc w p.text (if p.is_open then codes "]}" else [])))

-- two texts behind another
two : (w text a b : List ℕ) → w ++ ((text ++ a) ++ b) ≡ ((w ++ text) ++ a) ++ b
two w text a b = sym (append_assoc w (text ++ a) b) ∙ ap (λ t. t ++ b) (sym (append_assoc w text a))

behind_mark : (w : List ℕ) (mark : ℤ) (p : Growing) → behind w (with_mark mark p) ≡ with_mark mark (behind w p)
behind_mark w mark p = ap (λ t. growing t false p.is_open) (two w p.text (if p.is_first then codes "[" else codes ",") _)

behind_marks : (w : List ℕ) (marks : Option ℤ) (p : Growing) → behind w (with_marks marks p) ≡ with_marks marks (behind w p)
behind_marks w None p = refl
behind_marks w (Some mark) p = behind_mark w mark p

behind_row : (w : List ℕ) (row : Row) (text : List ℕ) (is_first is_open : Bool) → behind w (with_row row.first row.others (growing text is_first is_open)) ≡ with_row row.first row.others (growing (w ++ text) is_first is_open)
behind_row w row text is_first true = ap (λ t. growing t is_first true) (two w text (codes ",") (row_text row.first row.others))
behind_row w row text is_first false =
    ap (λ t. growing t false true) (two w (text ++ between) (codes "{\"rows\":[") _ ∙ ap (λ t. (t ++ codes "{\"rows\":[") ++ row_text row.first row.others) (sym (append_assoc w text between)))
  where
    between : List ℕ
    between = if is_first then codes "[" else codes ","

pub behind_placed : (w : List ℕ) (place : Place) (p : Growing) → behind w (placed place p) ≡ placed place (behind w p)
behind_placed w Joins p = refl
behind_placed w (Begins marks) p = behind_marks w marks (closed p) ∙ ap (with_marks marks) (behind_closed w p)

pub behind_dealt : (w : List ℕ) (is : Bool) (row : Row) (p : Growing) → behind w (dealt is row p) ≡ dealt is row (behind w p)
behind_dealt w false row p = refl
behind_dealt w true row p = behind_row w row p.text p.is_first p.is_open
