-- Where names stand in a header, place by place.
use Rattle.std.proofs.Common.{◌≡◌, ◌+◌, ◌<◌, ◌++◌, ◌∷◌, [], ◌∙◌, ℕ, zero, suc, Bool, cond, true, false, List, Ok, Err, Result, Some, arith, ap, length, map, refl, slice_get, sym, take, Bor, get_or, option_map, inl, inr, ◌⊎◌, subst}
use Rattle.std.specs.List.{enumerate_from, filter, range_with_len}
use Rattle.std.proofs.lemmas.List.{map-append}
use Rattle.std.proofs.lemmas.List.Elements.{filter-append}
use Rattle.std.proofs.lemmas.Option.{slice_get-get_or, slice_get-map}
use Rattle.plain_data.proofs.Facts.{taken_more}
use Rattle.asked_fields.specs.Asked.{IsAsked}
use Rattle.asked_fields.specs.declared.asked.AskedField.{AskedField}
use Rattle.import_columns.specs.declared.column.Column.{Column}
use Rattle.imports.specs.Placing.{AreFields, all_ok, ok_with, once_at, place_from, place_with, places_of}
use Rattle.imports.specs.declared.fault.RowFault.{RowFault}

pub numbers_more : (from count last : ℕ) → from + count ≡ last → range_with_len from (suc count) ≡ range_with_len from count ++ last ∷ []
numbers_more from zero last is = ap (λ number. number ∷ []) (let same : from ≡ last = omega arith in same)
numbers_more from (suc count) last is = ap (λ numbers. from ∷ numbers) (numbers_more (from + 1) count last (omega arith))

place_more : (places : List ℕ) (place : ℕ) (stands : Bool) → place_from (places ++ cond stands (place ∷ []) []) ≡ place_with (place_from places) place stands
place_more [] place true = refl
place_more (first ∷ []) place true = refl
place_more (first ∷ second ∷ more) place true = refl
place_more [] place false = refl
place_more (first ∷ []) place false = refl
place_more (first ∷ second ∷ more) place false = refl

-- where a name stands among one place more
pub found_more : (test : ℕ → Bool) (count : ℕ) → place_from (filter test (range_with_len 0 (count + 1))) ≡ place_with (place_from (filter test (range_with_len 0 count))) count (test count)
found_more test count =
    let one : count + 1 ≡ suc count = omega arith in
    ap (λ size. place_from (filter test (range_with_len 0 size))) one
    ∙ ap (λ numbers. place_from (filter test numbers)) (numbers_more 0 count count (omega arith))
    ∙ ap place_from (filter-append test (range_with_len 0 count) (count ∷ []))
    ∙ place_more (filter test (range_with_len 0 count)) count (test count)

-- the first fault behind what is right
pub first_fault : {X : Type 0} (rs : List (Result X RowFault)) (xs : List X) (i : ℕ) (fault : RowFault) → take i rs ≡ map Ok xs → slice_get rs i ≡ Some (Err fault) → all_ok rs ≡ Err fault
first_fault [] xs i fault right at = cc at
first_fault {X} (r ∷ rs) [] zero fault right at =
    let is : r ≡ Err fault = cc at in
    ap (λ (r : Result X RowFault). all_ok (r ∷ rs)) is
first_fault (r ∷ rs) (x ∷ xs) zero fault right at = cc right
first_fault (r ∷ rs) [] (suc i) fault right at = cc right
first_fault {X} (r ∷ rs) (x ∷ xs) (suc i) fault right at =
    let is : r ≡ Ok x = cc right in
    let rest : take i rs ≡ map Ok xs = cc right in
    ap (λ (r : Result X RowFault). all_ok (r ∷ rs)) is ∙ ap (ok_with x) (first_fault rs xs i fault rest at)

pub all_right : {X : Type 0} (xs : List X) → all_ok (map Ok xs) ≡ Ok xs
all_right [] = refl
all_right (x ∷ xs) = ap (ok_with x) (all_right xs)

-- one more is right
pub right_more : {X : Type 0} (rs : List (Result X RowFault)) (xs : List X) (i : ℕ) (x : X) → take i rs ≡ map Ok xs → slice_get rs i ≡ Some (Ok x) → take (i + 1) rs ≡ map Ok (xs ++ x ∷ [])
right_more {X} rs xs i x right at = taken_more rs i (Ok x) at ∙ ap (λ (front : List (Result X RowFault)). front ++ Ok x ∷ []) right ∙ sym (map-append Ok xs (x ∷ []))

numbered_from : {X : Type 0} (from : ℕ) (xs : List X) (i : ℕ) (x : X) → slice_get xs i ≡ Some x → slice_get (enumerate_from from xs) i ≡ Some (from + i, x)
numbered_from from [] i x at = cc at
numbered_from {X} from (y ∷ xs) zero x at =
    let same : y ≡ x = cc at in
    let number : from ≡ from + 0 = omega arith in
    ap (λ (z : X). Some (from, z)) same ∙ ap (λ (k : ℕ). Some (k, x)) number
numbered_from from (y ∷ xs) (suc i) x at =
    let number : from + 1 + i ≡ from + suc i = omega arith in
    numbered_from (from + 1) xs i x at ∙ ap (λ (k : ℕ). Some (k, x)) number

-- the field of a column, with its number
pub numbered_at : {X : Type 0} (xs : List X) (i : ℕ) (x : X) → slice_get xs i ≡ Some x → slice_get (enumerate_from 0 xs) i ≡ Some (i, x)
numbered_at xs i x at =
    let number : 0 + i ≡ i = omega arith in
    numbered_from 0 xs i x at ∙ ap (λ (k : ℕ). Some (k, x)) number

-- the place of a name among others
pub part_once : (column : ℕ) (header : List (List ℕ)) (parts : List (Bor (List ℕ))) (i : ℕ) (d : Bor (List ℕ)) (r : Result ℕ RowFault) → r ≡ once_at column (places_of header (get_or parts i d).now) → i < length parts
    → slice_get (map (λ name. once_at column (places_of header name)) (map (λ (part : Bor (List ℕ)). part.now) parts)) i ≡ Some r
part_once column header parts i d r is within =
    slice_get-map (λ name. once_at column (places_of header name)) (map (λ (part : Bor (List ℕ)). part.now) parts) i
    ∙ ap (option_map (λ name. once_at column (places_of header name))) (slice_get-map (λ (part : Bor (List ℕ)). part.now) parts i ∙ ap (option_map (λ (part : Bor (List ℕ)). part.now)) (slice_get-get_or parts i d within))
    ∙ ap (λ (found : Result ℕ RowFault). Some found) (sym is)

pub or_more : {A B C : Type 0} → A ⊎ B → (B → C) → A ⊎ C
or_more (inl a) f = inl a
or_more (inr b) f = inr (f b)

fields_with : (columns : List Column) (fields : List AskedField) (column : Column) (field : AskedField) → AreFields columns fields → IsAsked column.field.now column.joint field → AreFields (columns ++ column ∷ []) (fields ++ field ∷ [])
fields_with [] [] column field are is = (is, tt)
fields_with [] (first ∷ fields) column field are is = absurd are
fields_with (other ∷ columns) [] column field are is = absurd are
fields_with (other ∷ columns) (first ∷ fields) column field are is = (are.0, fields_with columns fields column field are.1 is)

-- one more field that a column asks for
pub fields_more : (columns : List Column) (fields : List AskedField) (i : ℕ) (column : Column) (field : AskedField) → AreFields (take i columns) fields → slice_get columns i ≡ Some column → IsAsked column.field.now column.joint field
    → AreFields (take (i + 1) columns) (fields ++ field ∷ [])
fields_more columns fields i column field are at is = subst (λ (some : List Column). AreFields some (fields ++ field ∷ [])) (sym (taken_more columns i column at)) (fields_with (take i columns) fields column field are is)
