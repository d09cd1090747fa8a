-- The numbers of a row, one by one.
use Rattle.std.proofs.Common.{◌≡◌, ◌+◌, ◌<◌, ◌∙◌, ℕ, ℤ, suc, List, [], ◌∷◌, ◌++◌, length, take, get_or, ap, sym, subst, arith}
use Rattle.std.proofs.lemmas.List.{take_more, length-take-le}
use Rattle.decimal_texts.specs.declared.point.DecimalPoint.{DecimalPoint}
use Rattle.import_columns.specs.declared.column.Column.{Column}
use Rattle.imports.specs.Rows.{names_by, IsNumber, column_text, names_after, AreNumbers, AreFirst}
use Rattle.imports.specs.declared.row.RowRule.{RowRule}

pub names_more : (text : ℕ → List ℕ) (i : ℕ) (names : List (List ℕ)) (columns : List Column) (column : Column)
    → names_after text i names (columns ++ column ∷ []) ≡ names_by column.kind (names_after text i names columns) (text (i + length columns))
names_more text i names [] column = ap (λ (k : ℕ). names_by column.kind names (text k)) (let same : i ≡ i + 0 = omega arith in same)
names_more text i names (first ∷ columns) column =
    names_more text (suc i) (names_by first.kind names (text i)) columns column
    ∙ ap (λ (k : ℕ). names_by column.kind (names_after text i names (first ∷ columns)) (text k)) (let same : suc i + length columns ≡ i + length (first ∷ columns) = omega arith in same)

pub numbers_more : (mark : DecimalPoint) (text : ℕ → List ℕ) (i : ℕ) (names : List (List ℕ)) (columns : List Column) (column : Column) (numbers : List ℤ) (number : ℤ)
    → AreNumbers mark text i names columns numbers → IsNumber mark column.joint column.kind (names_after text i names columns) (text (i + length columns)) number
    → AreNumbers mark text i names (columns ++ column ∷ []) (numbers ++ number ∷ [])
numbers_more mark text i names [] column [] number are is =
    (subst (λ (k : ℕ). IsNumber mark column.joint column.kind names (text k) number) (let same : i + 0 ≡ i = omega arith in same) is, tt)
numbers_more mark text i names [] column (n ∷ numbers) number are is = absurd are
numbers_more mark text i names (first ∷ columns) column [] number are is = absurd are
numbers_more mark text i names (first ∷ columns) column (n ∷ numbers) number are is = (
  are.0,
  numbers_more mark text (suc i) (names_by first.kind names (text i)) columns column numbers number are.1
      (subst (λ (k : ℕ). IsNumber mark column.joint column.kind (names_after text i names (first ∷ columns)) (text k) number) (let same : i + length (first ∷ columns) ≡ suc i + length columns = omega arith in same) is),
)

-- the number of one more column
pub first_more : (rule : RowRule) (fields names : List (List ℕ)) (i : ℕ) (d column : Column) (numbers : List ℤ) (number : ℤ) (before after : List (List ℕ)) (said : List ℕ)
    → i < length rule.columns.now → column ≡ get_or rule.columns.now i d → said ≡ column_text rule.places.now fields i
    → AreFirst rule fields names (take i rule.columns.now) numbers before
    → IsNumber rule.point column.joint column.kind before said number × (after ≡ names_by column.kind before said)
    → AreFirst rule fields names (take (i + 1) rule.columns.now) (numbers ++ number ∷ []) after
first_more rule fields names i d column numbers number before after said within is said_is first given =
    let text = column_text rule.places.now fields in
    let front = take i rule.columns.now in
    let at : 0 + length front ≡ i = omega (arith, length-take-le i rule.columns.now (omega arith)) in
    let columns : take (i + 1) rule.columns.now ≡ front ++ column ∷ [] = take_more rule.columns.now i d within ∙ ap (λ (c : Column). front ++ c ∷ []) (sym is) in
    let same : said ≡ text (0 + length front) = said_is ∙ ap text (sym at) in
    let here = subst (λ (ns : List (List ℕ)). IsNumber rule.point column.joint column.kind ns said number) first.1 given.0 in
    let there = subst (λ (t : List ℕ). IsNumber rule.point column.joint column.kind (names_after text 0 names front) t number) same here in (
      subst (λ (cs : List Column). AreNumbers rule.point text 0 names cs (numbers ++ number ∷ [])) (sym columns) (numbers_more rule.point text 0 names front column numbers number first.0 there),
      given.1 ∙ ap (λ (ns : List (List ℕ)). names_by column.kind ns said) first.1 ∙ ap (names_by column.kind (names_after text 0 names front)) same
          ∙ sym (names_more text 0 names front column) ∙ ap (names_after text 0 names) (sym columns),
    )
