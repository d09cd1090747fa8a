-- The grammar's loop over the members of an object, a turn at a time, under what the members say.
use Rattle.std.proofs.Common.{arith, ◌≡◌, ℕ, ◌-◌, ◌<◌, List, ◌∷◌, length, Option, Some, None, option_map, refl, ap, ◌∙◌}
use Rattle.json.specs.Token.{Token}
use Rattle.json.specs.Json.{parse_map, read_key, members, value}
use Rattle.json.proofs.Grammar.{members_end, members_more, value-begin_object}
use Rattle.serde_json.specs.Data.{Data, object, Members, no_members, member, put}
use Rattle.serde_json.specs.Read.{of_json, of_members, converted}
use Rattle.json_tokens.specs.Ahead.{part}
use Rattle.json_tokens.specs.Passed.{MembersRead}
use Rattle.json_tokens.proofs.Converted.{converted_some}
use Rattle.json_tokens.proofs.Passed.{converted-object, with_member}

pub members_begin : (depth : ℕ) (ts : List Token) → MembersRead depth ts no_members ts
members_begin depth ts = record { turns = length ts; enough = omega arith; shorter = omega arith; so_far = refl }

pub members_go_on : (depth : ℕ) (start ts s r : List Token) (ms : Members) (k : List ℕ) (d : Data) → MembersRead depth start ms ts → read_key ts ≡ Some (Some k, s)
    → converted of_json (value depth s) ≡ Some (d, r) → length s < length ts → length r < length s → MembersRead depth start (put k d ms) r
members_go_on depth start ts s r ms k d i key e less lesser =
    let j = converted_some of_json (value depth s) d r e in
    record {
      turns = i.turns - 1;
      enough = omega arith;
      shorter = omega arith;
      so_far = i.so_far ∙ ap (converted (λ x. of_members x ms)) (members_more (value depth) i.turns k ts s r j.0 (omega arith) key j.1) ∙ with_member k j.0 d ms j.2 _;
    }

-- the whole object, whose members began behind its brace
pub members_over : (depth : ℕ) (start ts r : List Token) (ms : Members) → 0 < depth → MembersRead (depth - 1) start ms ts → read_key ts ≡ Some (None, r)
    → converted of_json (value depth (Token.begin_object ∷ start)) ≡ Some (object ms, r)
members_over depth start ts r ms some i e =
    ap (converted of_json) (value-begin_object depth start some) ∙ converted-object (members (value (depth - 1)) (length start) start)
    ∙ ap (parse_map object) (i.so_far ∙ ap (converted (λ x. of_members x ms)) (members_end (value (depth - 1)) i.turns ts r i.enough e))

-- an object with one member, of whose value f says x
pub one_member : {X Y : Type 0} (f : Data → Option X) (g : Data → Option Y) (depth : ℕ) (k : List ℕ) (ts s r q : List Token) (x : X) (y : Y) → 0 < depth → read_key ts ≡ Some (Some k, s)
    → part f (depth - 1) s ≡ Some (x, r) → read_key r ≡ Some (None, q) → length s < length ts → length r < length s
    → ((d : Data) → f d ≡ Some x → g (object (member k d no_members)) ≡ Some y) → part g depth (Token.begin_object ∷ ts) ≡ Some (y, q)
one_member f g depth k ts s r q x y some key e close less lesser then =
    let d = converted_some f (converted of_json (value (depth - 1) s)) x r e in
    let read = members_go_on (depth - 1) ts ts s r no_members k d.0 (members_begin (depth - 1) ts) key d.1 less lesser in
    ap (converted g) (members_over depth ts r q (put k d.0 no_members) some read close) ∙ ap (option_map (λ b. (b, q))) (then d.0 d.2)
