-- A stricter reading, which builds of a value what another reading says of it.
use Rattle.std.proofs.Common.{◌≡◌, ◌==◌, ◌&&◌, ℕ, ℤ, Bool, true, false, List, [], ◌∷◌, length, map, Option, Some, None, option_and_then, is_some, cond, refl, sym, ap, ◌∙◌}
use Rattle.std.proofs.lemmas.Bool.{eqb-true, eq-eqb}
use Rattle.std.proofs.lemmas.List.{length-map}
use Rattle.std.specs.List.{list_all}
use Rattle.serde_json.specs.Data.{Data}
use Rattle.serde_json.specs.Find.{as_array}
use Rattle.json_parts.specs.Parts.{whole, list_of, each, list_text, cell_text}
use Rattle.json_tokens.specs.Rows.{of_width, row_text}
use Rattle.input_texts.specs.InputText.{entry_text}
use Rattle.input_texts.specs.Said.{number_of, record_of, entry_of, marked_of}
use Rattle.stream_input.specs.Fit.{is_fit, if_fit, fit_entry, is_own, if_own, own_entry}
use Rattle.input_texts.proofs.Facts.{and_then_parts, same_some}

-- where `strict` says x, `wide` says what x is built of, and that is good
abbrev pub Refines : {X T : Type 0} → (Data → Option X) → (Data → Option T) → (T → Bool) → (T → X) → Type 0
Refines {X = X} {T = T} strict wide good build = (d : Data) (x : X) → strict d ≡ Some x → (t : T) × (wide d ≡ Some t) × (x ≡ build t) × (good t ≡ true)

module _ {X T : Type 0} (strict : Data → Option X) (wide : Data → Option T) (good : T → Bool) (build : T → X) (refines : Refines strict wide good build) where
  each_refines : (ds : List Data) (xs : List X) → each strict ds ≡ Some xs → (ts : List T) × (each wide ds ≡ Some ts) × (xs ≡ map build ts) × (list_all good ts ≡ true)
  each_refines [] xs e = ([], refl, sym (same_some [] xs e), refl)
  each_refines (d ∷ ds) xs e =
      let first = and_then_parts (λ x. option_and_then (λ ys. Some (x ∷ ys)) (each strict ds)) (strict d) xs e in
      let others = and_then_parts (λ ys. Some (first.0 ∷ ys)) (each strict ds) xs first.2 in
      let t = refines d first.0 first.1 in
      let ts = each_refines ds others.0 others.1 in (
        t.0 ∷ ts.0,
        rw (t.1, ts.1) refl,
        sym (same_some (first.0 ∷ others.0) xs others.2) ∙ ap (λ y. y ∷ others.0) t.2 ∙ ap (λ ys. build t.0 ∷ ys) ts.2,
        rw (t.3, ts.3) refl,
      )

  pub list_refines : Refines (list_text strict) (list_text wide) (list_all good) (map build)
  unfolding list_text
  list_refines d xs e =
      let ds = and_then_parts (λ ds. each strict (list_of ds)) (as_array d) xs e in
      let ts = each_refines (list_of ds.0) xs ds.2 in
      (ts.0, ap (option_and_then (λ ds. each wide (list_of ds))) ds.1 ∙ ts.1, ts.2, ts.3)

whole_refines : Refines whole cell_text is_some number_of
whole_refines d z e = (whole d, refl, ap number_of (sym e), ap is_some e)

of_width_parts : (width : ℕ) (row found : List ℤ) (b : Bool) → (length row == width) ≡ b → cond b (Some row) None ≡ Some found → (row ≡ found) × ((length row == width) ≡ true)
of_width_parts width row found true e h = (same_some row found h, e)
of_width_parts width row found false e h = absurd (cc)

-- a row of cells that are whole numbers
abbrev pub is_row : ℕ → List (Option ℤ) → Bool
is_row width cells = (length cells == width) && list_all is_some cells

pub row_refines : (width : ℕ) → Refines (row_text width) (list_text cell_text) (is_row width) record_of
unfolding row_text
row_refines width d row e =
    let read = and_then_parts (of_width width) (list_text whole d) row e in
    let wide = of_width_parts width read.0 row (length read.0 == width) refl read.2 in
    let cells = list_refines whole cell_text is_some number_of whole_refines d read.0 read.1 in
    let long : length cells.0 ≡ width = sym (length-map cells.0 number_of) ∙ ap (length {A = ℤ}) (sym cells.2) ∙ eqb-true (length read.0) width wide.1 in
    (cells.0, cells.1, sym wide.0 ∙ cells.2, rw (eq-eqb (length cells.0) width long, cells.3) refl)

if_parts : {X : Type 0} (y x : X) (t b : Bool) → t ≡ b → cond b (Some y) None ≡ Some x → (x ≡ y) × (t ≡ true)
if_parts y x t true is h = (sym (same_some y x h), is)
if_parts y x t false is h = absurd (cc)

pub entry_refines : (columns time : ℕ) → Refines (fit_entry columns time) entry_text (is_fit columns time) (entry_of columns)
unfolding fit_entry
entry_refines columns time d x e =
    let read = and_then_parts (if_fit columns time) (entry_text d) x e in
    let fit = if_parts (entry_of columns read.0) x (is_fit columns time read.0) (is_fit columns time read.0) refl read.2 in
    (read.0, read.1, fit.0, fit.1)

pub own_refines : (bound : Option ℤ) (columns time : ℕ) → Refines (own_entry bound columns time) entry_text (is_own bound columns time) (marked_of bound columns time)
unfolding own_entry
own_refines bound columns time d x e =
    let read = and_then_parts (if_own bound columns time) (entry_text d) x e in
    let own = if_parts (marked_of bound columns time read.0) x (is_own bound columns time read.0) (is_own bound columns time read.0) refl read.2 in
    (read.0, read.1, own.0, own.1)
