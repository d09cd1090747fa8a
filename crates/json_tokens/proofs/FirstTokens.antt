-- What the first token of a value tells of it.
use Rattle.std.proofs.Common.{◌≡◌, ℕ, false, List, ◌∷◌, Option, Some, None, option_map, option_and_then, refl, sym, ap, ◌∙◌}
use Rattle.json.specs.Token.{Token}
use Rattle.json.specs.Json as json
use Rattle.json.specs.Json.{Parse, parse_map, value, value_with}
use Rattle.json.proofs.Grammar.{value_is}
use Rattle.serde_json.specs.Data.{Num, Data, number, array, object, Items, Members, no_members}
use Rattle.serde_json.specs.Find.{as_array, as_object, as_i64}
use Rattle.serde_json.specs.Read.{of_json, of_items, of_members, converted, number_of}
use Rattle.json_parts.specs.Parts.{whole, cell_text}
use Rattle.json_tokens.specs.Ahead.{part}
use Rattle.json_tokens.specs.Passed.{Passes, opens_list, opens_object, is_number}
use Rattle.json_tokens.proofs.Passed.{converted-array, converted-object}

-- what g says of the value that was read, if it was
abbrev of_read : {X : Type 0} → (Data → Option X) → Option (Data × List Token) → Option X
of_read g o = option_and_then (λ p. g p.0) o

module _ {X : Type 0} (g : Data → Option X) where
  no_number : ((n : Num) → g (number n) ≡ None) → (o : Option Num) (ts : List Token) → of_read g (option_map (λ b. (b, ts)) (option_map number o)) ≡ None
  no_number none None ts = refl
  no_number none (Some n) ts = none n

  no_array : ((ds : Items) → g (array ds) ≡ None) → (o : Option (Items × List Token)) → of_read g (parse_map array o) ≡ None
  no_array none None = refl
  no_array none (Some p) = none p.0

  no_object : ((ms : Members) → g (object ms) ≡ None) → (o : Option (Members × List Token)) → of_read g (parse_map object o) ≡ None
  no_object none None = refl
  no_object none (Some p) = none p.0

  from_read : (depth : ℕ) (ts r : List Token) (d : Data) (a : Parse json.Items) (o : Parse json.Members) → value depth ts ≡ value_with a o ts → of_read g (converted of_json (value_with a o ts)) ≡ None → Passes depth ts d r → g d ≡ None
  from_read depth ts r d a o is none e = sym (ap (of_read g) e) ∙ ap (λ v. of_read g (converted of_json v)) is ∙ none

no_list_with : (a : Parse json.Items) (o : Parse json.Members) (t : Token) (ts : List Token) → opens_list t ≡ false → of_read as_array (converted of_json (value_with a o (t ∷ ts))) ≡ None
no_list_with a o Token.begin_object ts h = ap (of_read as_array) (converted-object (o ts)) ∙ no_object as_array (λ ms. refl) (converted (λ ms. of_members ms no_members) (o ts))
no_list_with a o Token.end_object ts h = refl
no_list_with a o Token.begin_array ts h = absurd (cc)
no_list_with a o Token.end_array ts h = refl
no_list_with a o (Token.key s) ts h = refl
no_list_with a o (Token.string s) ts h = refl
no_list_with a o (Token.number s) ts h = no_number as_array (λ n. refl) (number_of s) ts
no_list_with a o (Token.boolean b) ts h = refl
no_list_with a o Token.null ts h = refl
no_list_with a o Token.bad ts h = refl

no_object_with : (a : Parse json.Items) (o : Parse json.Members) (t : Token) (ts : List Token) → opens_object t ≡ false → of_read as_object (converted of_json (value_with a o (t ∷ ts))) ≡ None
no_object_with a o Token.begin_object ts h = absurd (cc)
no_object_with a o Token.end_object ts h = refl
no_object_with a o Token.begin_array ts h = ap (of_read as_object) (converted-array (a ts)) ∙ no_array as_object (λ ds. refl) (converted of_items (a ts))
no_object_with a o Token.end_array ts h = refl
no_object_with a o (Token.key s) ts h = refl
no_object_with a o (Token.string s) ts h = refl
no_object_with a o (Token.number s) ts h = no_number as_object (λ n. refl) (number_of s) ts
no_object_with a o (Token.boolean b) ts h = refl
no_object_with a o Token.null ts h = refl
no_object_with a o Token.bad ts h = refl

no_number_with : (a : Parse json.Items) (o : Parse json.Members) (t : Token) (ts : List Token) → is_number t ≡ false → of_read whole (converted of_json (value_with a o (t ∷ ts))) ≡ None
no_number_with a o Token.begin_object ts h = ap (of_read whole) (converted-object (o ts)) ∙ no_object whole (λ ms. refl) (converted (λ ms. of_members ms no_members) (o ts))
no_number_with a o Token.end_object ts h = refl
no_number_with a o Token.begin_array ts h = ap (of_read whole) (converted-array (a ts)) ∙ no_array whole (λ ds. refl) (converted of_items (a ts))
no_number_with a o Token.end_array ts h = refl
no_number_with a o (Token.key s) ts h = refl
no_number_with a o (Token.string s) ts h = refl
no_number_with a o (Token.number s) ts h = absurd (cc)
no_number_with a o (Token.boolean b) ts h = refl
no_number_with a o Token.null ts h = refl
no_number_with a o Token.bad ts h = refl

pub no_list : (depth : ℕ) (t : Token) (ts r : List Token) (d : Data) → opens_list t ≡ false → Passes depth (t ∷ ts) d r → as_array d ≡ None
no_list depth t ts r d h e = from_read as_array depth (t ∷ ts) r d _ _ (value_is depth (t ∷ ts)) (no_list_with _ _ t ts h) e

pub other_object : (depth : ℕ) (t : Token) (ts r : List Token) (d : Data) → opens_object t ≡ false → Passes depth (t ∷ ts) d r → as_object d ≡ None
other_object depth t ts r d h e = from_read as_object depth (t ∷ ts) r d _ _ (value_is depth (t ∷ ts)) (no_object_with _ _ t ts h) e

-- ---- cells

pub other_cell : (depth : ℕ) (t : Token) (ts r : List Token) (d : Data) → is_number t ≡ false → Passes depth (t ∷ ts) d r → part cell_text depth (t ∷ ts) ≡ Some (None, r)
other_cell depth t ts r d h e =
    let none : whole d ≡ None = from_read whole depth (t ∷ ts) r d _ _ (value_is depth (t ∷ ts)) (no_number_with _ _ t ts h) e in
    ap (converted cell_text) e ∙ ap (λ c. Some (c, r)) none

pub number_cell : (depth : ℕ) (s : List ℕ) (ts : List Token) (n : Num) → number_of s ≡ Some n → part cell_text depth (Token.number s ∷ ts) ≡ Some (as_i64 n, ts)
number_cell depth s ts n e = ap (λ o. converted cell_text (converted of_json o)) (value_is depth (Token.number s ∷ ts)) ∙ ap (λ o. converted cell_text (option_map (λ b. (b, ts)) (option_map number o))) e
