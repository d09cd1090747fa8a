-- Why a text is refused.
use Rattle.std.proofs.Common.{◌≡◌, ℕ, ◌<◌, inl, inr, List, [], ◌∷◌, length, get_or, Option, Some, Result, Ok, Err, refl, sym, subst, ◌∙◌, arith}
use Rattle.std.specs.Prelude.{IsErr, IsErrAnd, IfErr}
use Rattle.row_lines.specs.Sequences.{line_number, Admits, IsNextPlace, IsPlaceCounted}
use Rattle.row_lines.specs.declared.place.RowPlace.{RowPlace}
use Rattle.row_lines.specs.declared.rows.RowLines.{RowLines}
use Rattle.row_lines.specs.declared.rows.RowsFault.{RowsFault}
use Rattle.row_lines.specs.declared.rows.RowsFault.TheVariants as rows
use Rattle.row_merges.specs.Merges.{TellsOf, HasRowAt}
use Rattle.row_merges.specs.Refusals.{RefusesNext, IsRefused, RefusesRow, RefusesAt, IsOfText}
use Rattle.row_merges.specs.declared.fault.MergeFault.{MergeFault}
use Rattle.row_merges.specs.declared.fault.MergeFault.TheVariants.{Text, Write, Memory}
use Rattle.row_merges.specs.declared.head.Head.{Head}
use Rattle.row_merges.specs.declared.merge.Merge.{Merge}
use Rattle.row_merges.proofs.Passing.{there}

-- what is told where no next row is read
pub told_next : {R : Type 0} (remaining : R → Option (List ℕ)) (old new : RowLines R) (place line : ℕ) (fault : RowsFault) (told : MergeFault) → line ≡ line_number new → IsNextPlace remaining old new (Err fault) → IsPlaceCounted old new (Err fault) → TellsOf place line fault told
    → RefusesNext remaining old new place told
told_next remaining old new place line rows.Memory told at next counted tells = subst (RefusesNext remaining old new place) (sym tells) tt
told_next remaining old new place line rows.Read told at next counted tells = subst (RefusesNext remaining old new place) (sym tells) (refl, at, next, counted)
told_next remaining old new place line rows.Line told at next counted tells = subst (RefusesNext remaining old new place) (sym tells) (refl, at, next, counted)
told_next remaining old new place line rows.Order told at next counted tells = subst (RefusesNext remaining old new place) (sym tells) (refl, at, next, counted)

module _ {R : Type 0} (merge : Merge R) (place : ℕ) (head : Head R) (row : RowPlace) (line : ℕ) (told : MergeFault) (lt : place < length merge.heads.items) (is : head ≡ get_or merge.heads.items place head) (has : head.row ≡ Some row) (at : line ≡ line_number head.rows) where
  refused_at : (fault : RowsFault) → Admits merge.width merge.last row (Err fault) → (d : Head R) → IsRefused merge (get_or merge.heads.items place d) fault line
  refused_at fault why d =
      subst (λ (h : Head R). IsRefused merge h fault line) (is ∙ there merge.heads.items place head d lt) (record { row = row; at_hand = has; why = why; line_is = at })

  -- what is told where a row may not be the next one
  pub told_row : (fault : RowsFault) → Admits merge.width merge.last row (Err fault) → TellsOf place line fault told → RefusesRow merge place told
  told_row rows.Memory why tells = absurd why
  told_row rows.Read why tells = absurd why
  told_row rows.Line why tells = subst (RefusesRow merge place) (sym tells) (refl, refused_at rows.Line why)
  told_row rows.Order why tells = subst (RefusesRow merge place) (sym tells) (refl, refused_at rows.Order why)

-- what is told where the row behind the one at hand is none
pub told_behind : {R : Type 0} (remaining : R → Option (List ℕ)) (merge : Merge R) (place : ℕ) (head : Head R) (new : RowLines R) (told : MergeFault) → place < length merge.heads.items → head ≡ get_or merge.heads.items place head → RefusesNext remaining head.rows new place told
    → RefusesAt remaining merge place told
told_behind {R} remaining merge place head new told lt is refused =
    inr (λ d. (new, subst (λ (h : Head R). RefusesNext remaining h.rows new place told) (is ∙ there merge.heads.items place head d lt) refused))

a_head : {R : Type 0} (heads : List (Head R)) (place : ℕ) → place < length heads → Head R
a_head [] place lt = absurd (omega arith)
a_head (head ∷ heads) place lt = head

-- a row that is refused is one of the texts'
pub of_text : {R : Type 0} (remaining : R → Option (List ℕ)) (merge : Merge R) (place count : ℕ) (told : MergeFault) → HasRowAt merge.heads.items place → length merge.heads.items ≡ count → RefusesAt remaining merge place told → IsOfText count told
of_text remaining merge place count Write has long refused = tt
of_text remaining merge place count Memory has long refused = tt
of_text remaining merge place count (Text at fault line) has long (inl row) = let same : at ≡ place = row.0 in let lt = has.0 in omega (arith, long)
of_text remaining merge place count (Text at fault line) has long (inr next) =
    let same : at ≡ place = (next (a_head merge.heads.items place has.0)).1.0 in
    let lt = has.0 in
    omega (arith, long)

-- what `?` hands on is what was refused
pub handed_on : {T : Type 0} (P : MergeFault → Type 0) (result : Result T MergeFault) (told : MergeFault) → P told → IsErr result → IsErrAnd result (λ e. e ≡ told) → IfErr result P
handed_on P (Ok value) told refused fails is = absurd cc
handed_on P (Err other) told refused fails is = subst P (sym is) refused
