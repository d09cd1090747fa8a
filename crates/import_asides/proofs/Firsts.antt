-- Names of which none before is the same, one by one.
use Rattle.std.proofs.Common.{◌≡◌, ◌+◌, ◌++◌, ◌∷◌, [], ◌∙◌, ℕ, suc, Bool, cond, true, false, List, map, arith, refl, ap, get_or, slice_get, take, Some, bytes_eq, not, if◌then◌else◌}
use Rattle.std.specs.List.{filter, list_any, range_with_len}
use Rattle.std.proofs.lemmas.List.{get_or-map, map-append, take-map}
use Rattle.std.proofs.lemmas.List.Elements.{filter-append}
use Rattle.std.proofs.lemmas.Option.{get_or_from_slice_get, slice_get_within}
use Rattle.plain_data.proofs.Facts.{list_any_map}
use Rattle.import_columns.specs.declared.column.Column.{Column}
use Rattle.imports.proofs.Stands.{numbers_more}
use Rattle.import_asides.specs.Apart.{field_names, is_first}

kept_last : {X : Type 0} (f : ℕ → X) (last : ℕ) (kept : Bool) → map f (cond kept (last ∷ []) []) ≡ cond kept (f last ∷ []) []
kept_last f last true = refl
kept_last f last false = refl

-- what is made of those that pass a test, up to one more
kept_more : {X : Type 0} (test : ℕ → Bool) (f : ℕ → X) (count : ℕ) → map f (filter test (range_with_len 0 (count + 1))) ≡ map f (filter test (range_with_len 0 count)) ++ cond (test count) (f count ∷ []) []
kept_more test f count =
    let one : count + 1 ≡ suc count = omega arith in
    ap (λ size. map f (filter test (range_with_len 0 size))) one
    ∙ ap (λ numbers. map f (filter test numbers)) (numbers_more 0 count count (omega arith))
    ∙ ap (map f) (filter-append test (range_with_len 0 count) (count ∷ []))
    ∙ map-append f (filter test (range_with_len 0 count)) (cond (test count) (count ∷ []) [])
    ∙ ap (λ last. map f (filter test (range_with_len 0 count)) ++ last) (kept_last f count (test count))

-- the name of a column's field
pub name_at : (columns : List Column) (place : ℕ) (column : Column) → slice_get columns place ≡ Some column → get_or (field_names columns) place [] ≡ column.field.now
name_at columns place column at =
    get_or-map (λ (other : Column). other.field.now) columns place column [] (slice_get_within columns place column at) ∙ ap (λ (found : Column). found.field.now) (get_or_from_slice_get columns place column column at)

-- a column's field is the first of its name just where none before has it
first_at : (columns : List Column) (place : ℕ) (column : Column) → slice_get columns place ≡ Some column → is_first (field_names columns) place ≡ not (list_any (λ other. bytes_eq other.field.now column.field.now) (take place columns))
first_at columns place column at =
    ap (λ name. not (list_any (λ other. bytes_eq other name) (take place (field_names columns)))) (name_at columns place column at)
    ∙ ap (λ names. not (list_any (λ other. bytes_eq other column.field.now) names)) (take-map (λ (other : Column). other.field.now) place columns)
    ∙ ap not (list_any_map (λ other. bytes_eq other column.field.now) (λ (other : Column). other.field.now) (take place columns))

turned : {X : Type 0} (there : Bool) (x y : X) → cond (not there) x y ≡ cond there y x
turned true x y = refl
turned false x y = refl

-- what is made of the columns whose fields are the first of their names, up to one more
pub first_more : (columns : List Column) (f : ℕ → List ℕ) (place : ℕ) (column : Column) → slice_get columns place ≡ Some column
    → map f (filter (is_first (field_names columns)) (range_with_len 0 (place + 1)))
    ≡ map f (filter (is_first (field_names columns)) (range_with_len 0 place)) ++ (if list_any (λ other. bytes_eq other.field.now column.field.now) (take place columns) then [] else f place ∷ [])
first_more columns f place column at =
    kept_more (is_first (field_names columns)) f place
    ∙ ap (λ is. map f (filter (is_first (field_names columns)) (range_with_len 0 place)) ++ cond is (f place ∷ []) []) (first_at columns place column at)
    ∙ ap (λ last. map f (filter (is_first (field_names columns)) (range_with_len 0 place)) ++ last) (turned _ (f place ∷ []) [])
