-- What is passed of a text, and what a token begins.
use Rattle.std.specs.Prelude.{◌≡◌, ℕ, ◌≤◌, Bool, true, false, List, length, Option, Some, None}
use Rattle.json.specs.Token as token
use Rattle.json.specs.Token.{Token}
use Rattle.json.specs.Json.{members, value}
use Rattle.serde_json.specs.Data.{Data, Members, no_members}
use Rattle.serde_json.specs.Read.{of_json, of_members, converted}

-- the next value, with the tokens behind it
abbrev pub Passes : ℕ → List Token → Data → List Token → Type 0
Passes depth old d new = converted of_json (value depth old) ≡ Some (d, new)

-- no value comes next
abbrev pub IsNoValue : ℕ → List Token → Type 0
IsNoValue depth ts = converted of_json (value depth ts) ≡ None

-- what the members up to the closing brace make of those before, in at most n turns
abbrev pub after : ℕ → Members → ℕ → List Token → Option (Members × List Token)
after depth old n ts = converted (λ ms. of_members ms old) (members (value depth) n ts)

-- of the members that began at `start`, those that make up `ms` have been read, and `rest` is still to come
pub record MembersRead (depth : ℕ) (start : List Token) (ms : Members) (rest : List Token) : Type 0 where
  pub turns : ℕ
  pub enough : length rest ≤ turns
  pub shorter : length rest ≤ length start
  pub so_far : after depth no_members (length start) start ≡ after depth ms turns rest

-- the token that begins a list, an object or a number
abbrev pub opens_list : Token → Bool
opens_list token.begin_object = false
opens_list token.end_object = false
opens_list token.begin_array = true
opens_list token.end_array = false
opens_list (token.key s) = false
opens_list (token.string s) = false
opens_list (token.number s) = false
opens_list (token.boolean b) = false
opens_list token.null = false
opens_list token.bad = false

abbrev pub opens_object : Token → Bool
opens_object token.begin_object = true
opens_object token.end_object = false
opens_object token.begin_array = false
opens_object token.end_array = false
opens_object (token.key s) = false
opens_object (token.string s) = false
opens_object (token.number s) = false
opens_object (token.boolean b) = false
opens_object token.null = false
opens_object token.bad = false

abbrev pub is_number : Token → Bool
is_number token.begin_object = false
is_number token.end_object = false
is_number token.begin_array = false
is_number token.end_array = false
is_number (token.key s) = false
is_number (token.string s) = false
is_number (token.number s) = true
is_number (token.boolean b) = false
is_number token.null = false
is_number token.bad = false
