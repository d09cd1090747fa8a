-- What is refused of a list or an object, where a part of it is.
use Rattle.std.proofs.Common.{◌≡◌, ℕ, ◌-◌, ◌<◌, true, List, [], ◌∷◌, length, Option, Some, None, is_some, option_map, refl, ap, ◌∙◌}
use Rattle.json.specs.Token.{Token}
use Rattle.json.specs.Json.{parse_map, after_end_array, read_key, items, members, value}
use Rattle.json.proofs.Grammar.{value-begin_array, value-begin_object, value_is}
use Rattle.serde_json.specs.Data.{Data, number, array, object, Items, Members, no_members}
use Rattle.serde_json.specs.Read.{of_json, of_items, converted, number_of}
use Rattle.json_parts.specs.Parts.{list_of, each}
use Rattle.json_tokens.specs.Ahead.{parts}
use Rattle.json_tokens.specs.Passed.{IsNoValue, MembersRead, after, opens_list, opens_object}
use Rattle.json_tokens.proofs.ItemTurns.{ItemsRead, behind, all}
use Rattle.json_tokens.proofs.Passed.{converted-array, converted-object, item_refused, member_refused, key_refused}

pub no_token : (depth : ℕ) (ts : List Token) → ts ≡ [] → IsNoValue depth ts
no_token depth ts empty = ap (converted of_json) (ap (value depth) empty ∙ value_is depth [])

-- ---- what opens at the greatest depth

a_list : (t : Token) → opens_list t ≡ true → t ≡ Token.begin_array
a_list Token.begin_object h = absurd (cc)
a_list Token.end_object h = absurd (cc)
a_list Token.begin_array h = refl
a_list Token.end_array h = absurd (cc)
a_list (Token.key s) h = absurd (cc)
a_list (Token.string s) h = absurd (cc)
a_list (Token.number s) h = absurd (cc)
a_list (Token.boolean b) h = absurd (cc)
a_list Token.null h = absurd (cc)
a_list Token.bad h = absurd (cc)

an_object : (t : Token) → opens_object t ≡ true → t ≡ Token.begin_object
an_object Token.begin_object h = refl
an_object Token.end_object h = absurd (cc)
an_object Token.begin_array h = absurd (cc)
an_object Token.end_array h = absurd (cc)
an_object (Token.key s) h = absurd (cc)
an_object (Token.string s) h = absurd (cc)
an_object (Token.number s) h = absurd (cc)
an_object (Token.boolean b) h = absurd (cc)
an_object Token.null h = absurd (cc)
an_object Token.bad h = absurd (cc)

none_in_list : (ts : List Token) → IsNoValue 0 (Token.begin_array ∷ ts)
none_in_list ts = ap (converted of_json) (value_is 0 (Token.begin_array ∷ ts))

none_in_object : (ts : List Token) → IsNoValue 0 (Token.begin_object ∷ ts)
none_in_object ts = ap (converted of_json) (value_is 0 (Token.begin_object ∷ ts))

pub too_deep_list : (depth : ℕ) (t : Token) (ts all : List Token) → all ≡ t ∷ ts → opens_list t ≡ true → depth ≡ 0 → IsNoValue depth all
too_deep_list depth t ts all is opens none = rw (none, is, a_list t opens) (none_in_list ts)

pub too_deep_object : (depth : ℕ) (t : Token) (ts all : List Token) → all ≡ t ∷ ts → opens_object t ≡ true → depth ≡ 0 → IsNoValue depth all
too_deep_object depth t ts all is opens none = rw (none, is, an_object t opens) (none_in_object ts)

pub too_large : (depth : ℕ) (s : List ℕ) (ts : List Token) → number_of s ≡ None → IsNoValue depth (Token.number s ∷ ts)
too_large depth s ts none = ap (converted of_json) (value_is depth (Token.number s ∷ ts)) ∙ ap (λ o. option_map (λ b. (b, ts)) (option_map number o)) none

-- ---- lists

module _ {X : Type 0} (f : Data → Option X) where
  pub items_refused : (depth : ℕ) (start ts : List Token) (xs : List X) → ItemsRead f depth start xs ts → after_end_array ts ≡ None → IsNoValue depth ts → parts f depth start ≡ None
  items_refused depth start ts xs i going none = i.so_far ∙ ap (behind xs) (ap (converted (all f)) (item_refused (value depth) i.turns ts going none))

  no_items : (o : Option (Items × List Token)) → ((ds : List Data) → is_some (each f ds) ≡ true) → converted (all f) o ≡ None → o ≡ None
  no_items None said e = refl
  no_items (Some p) said e = absurd (some (each f (list_of p.0)) (said (list_of p.0)) e)
    where
      some : (o : Option (List X)) → is_some o ≡ true → option_map {U = List X × List Token} (λ b. (b, p.1)) o ≡ None → ⊥
      some None h k = absurd (cc)
      some (Some x) h k = absurd (cc)

  -- where f says something of each value
  pub list_refused : (depth : ℕ) (ts : List Token) → 0 < depth → ((ds : List Data) → is_some (each f ds) ≡ true) → parts f (depth - 1) ts ≡ None → IsNoValue depth (Token.begin_array ∷ ts)
  list_refused depth ts some said none =
      ap (converted of_json) (value-begin_array depth ts some) ∙ converted-array (items (value (depth - 1)) (length ts) ts)
      ∙ ap (parse_map array) (no_items (converted of_items (items (value (depth - 1)) (length ts) ts)) said none)

-- ---- objects

pub member_fails : (depth : ℕ) (start ts s : List Token) (ms : Members) (k : List ℕ) → MembersRead depth start ms ts → read_key ts ≡ Some (Some k, s) → IsNoValue depth s → after depth no_members (length start) start ≡ None
member_fails depth start ts s ms k i key none = i.so_far ∙ member_refused (value depth) ms i.turns k ts s key none

pub key_fails : (depth : ℕ) (start ts : List Token) (ms : Members) → MembersRead depth start ms ts → read_key ts ≡ None → after depth no_members (length start) start ≡ None
key_fails depth start ts ms i none = i.so_far ∙ key_refused (value depth) ms i.turns ts none

pub object_refused : (depth : ℕ) (ts : List Token) → 0 < depth → after (depth - 1) no_members (length ts) ts ≡ None → IsNoValue depth (Token.begin_object ∷ ts)
object_refused depth ts some none = ap (converted of_json) (value-begin_object depth ts some) ∙ converted-object (members (value (depth - 1)) (length ts) ts) ∙ ap (parse_map object) none
