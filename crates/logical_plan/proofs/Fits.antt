-- Each number of a value that was read is one of 64 bits, or no whole number.
use Rattle.std.proofs.Common.{◌≡◌, ℕ, ◌<◌, ◌^◌, zero, suc, ℤ, pos, Bool, true, false, ◌&&◌, nat_lt, nat_le, ◌==◌, if◌then◌else◌, slice_index, drop, List, [], ◌∷◌, Option, Some, None, option_map, option_and_then, FitsSigned, nat_cmp, Ordering, Less, Equal, Greater, refl, subst, arith}
use Rattle.std.specs.Int.{w64}
use Rattle.std.specs.Float.{binary64, float_is_finite}
use Rattle.std.specs.Cmp.Lexicographic.{slice_cmp}
use Rattle.std.specs.List.{All}
use Rattle.std.specs.Ordering.{match_ordering}
use Rattle.std.specs.Option.{option_map_or}
use Rattle.std.specs.Str.{is_utf8}
use Rattle.std.proofs.lemmas.Bool.{and_parts, ltb-true, leb-true}
use Rattle.std.proofs.lemmas.List.Elements.{All-nil, All-cons}
use Rattle.fast_float.specs.Text.{Parts, minus, scan, digits_of, nearest, with_sign}
use Rattle.json.specs.Json as json
use Rattle.json.specs.Lex.{tokens}
use Rattle.serde_json.specs.Data.{Num, unsigned, negative, float, Data, null, boolean, number, string, array, object, Items, no_items, item, Members, no_members, member, put}
use Rattle.serde_json.specs.Find.{get, get_member, as_number, as_i64, as_array}
use Rattle.serde_json.specs.Read.{is_integer, float_of, number_from, number_of, of_json, of_items, of_members, max_depth, read}
use Rattle.json_parts.specs.Parts.{each, each_or_empty, json_of, list_of, list_text, whole}

-- ---- what an answer comes from

pub same_some : {X : Type 0} (x y : X) → Some x ≡ Some y → x ≡ y
same_some x y h = cc

pub and_then_parts : {X Y : Type 0} (f : X → Option Y) (o : Option X) (y : Y) → option_and_then f o ≡ Some y → (x : X) × (o ≡ Some x) × (f x ≡ Some y)
and_then_parts f None y h = absurd (cc)
and_then_parts f (Some x) y h = (x, refl, h)

map_parts : {X Y : Type 0} (f : X → Y) (o : Option X) (y : Y) → option_map f o ≡ Some y → (x : X) × (o ≡ Some x) × (f x ≡ y)
map_parts f None y h = absurd (cc)
map_parts f (Some x) y h = (x, refl, same_some (f x) y h)

pub if_parts : {X : Type 0} (b : Bool) (o : Option X) (x : X) → (if b then o else None) ≡ Some x → o ≡ Some x
if_parts true o x h = h
if_parts false o x h = absurd (cc)

-- ---- numbers

abbrev NumFits : Num → Type 0
NumFits (unsigned n) = Unit {0}
NumFits (negative z) = FitsSigned w64 z
NumFits (float x) = Unit {0}

float_by : (b : Bool) (sign : Bool) (p : Parts) (n : Num) → (if b then Some (float (nearest binary64 sign p)) else None) ≡ Some n → NumFits n
float_by true sign p n h = subst NumFits (same_some (float (nearest binary64 sign p)) n h) tt
float_by false sign p n h = absurd (cc)

float_fits : (sign : Bool) (p : Parts) (n : Num) → float_of sign p ≡ Some n → NumFits n
float_fits sign p n h = float_by (float_is_finite (nearest binary64 sign p)) sign p n h

unsigned_by : (b : Bool) (m : ℕ) (o : Option Num) (n : Num) → (o ≡ Some n → NumFits n) → (if b then Some (unsigned m) else o) ≡ Some n → NumFits n
unsigned_by true m o n other h = subst NumFits (same_some (unsigned m) n h) tt
unsigned_by false m o n other h = other h

negative_fits : (m : ℕ) → nat_lt 0 m ≡ true → nat_le m (2 ^ 63) ≡ true → FitsSigned w64 (with_sign true m)
negative_fits zero above below = absurd (cc)
negative_fits (suc m) above below = let most = leb-true (suc m) (2 ^ 63) below in record { sfits = omega (arith, most) }

negative_by : (b : Bool) (m : ℕ) (o : Option Num) (n : Num) → (b ≡ true → FitsSigned w64 (with_sign true m)) → (o ≡ Some n → NumFits n) → (if b then Some (negative (with_sign true m)) else o) ≡ Some n → NumFits n
negative_by true m o n here other h = subst NumFits (same_some (negative (with_sign true m)) n h) (here refl)
negative_by false m o n here other h = other h

number_fits : (sign : Bool) (p : Parts) (n : Num) → number_from sign p ≡ Some n → NumFits n
number_fits false p n h = unsigned_by (is_integer p && nat_lt (digits_of p) (2 ^ 64)) (digits_of p) (float_of false p) n (float_fits false p n) h
number_fits true p n h =
    negative_by (is_integer p && nat_lt 0 (digits_of p) && nat_le (digits_of p) (2 ^ 63)) (digits_of p) (float_of true p) n
    (λ fits.
    let both = and_parts (is_integer p && nat_lt 0 (digits_of p)) (nat_le (digits_of p) (2 ^ 63)) fits in
    negative_fits (digits_of p) (and_parts (is_integer p) (nat_lt 0 (digits_of p)) both.0).1 both.1)
    (float_fits true p n) h

signed_by : (b : Bool) (minus_behind all : Parts) (n : Num) → (if b then number_from true minus_behind else number_from false all) ≡ Some n → NumFits n
signed_by true minus_behind all n h = number_fits true minus_behind n h
signed_by false minus_behind all n h = number_fits false all n h

read_number : (s : List ℕ) (n : Num) → number_of s ≡ Some n → NumFits n
unfolding number_of
read_number s n h = signed_by (slice_index s 0 == minus) (scan (drop 1 s)) (scan s) n h

-- ---- values

abbrev mutual
  pub Fits : Data → Type 0
  Fits null = Unit {0}
  Fits (boolean b) = Unit {0}
  Fits (number n) = NumFits n
  Fits (string s) = Unit {0}
  Fits (array ds) = ItemsFit ds
  Fits (object ms) = MembersFit ms

  ItemsFit : Items → Type 0
  ItemsFit no_items = Unit {0}
  ItemsFit (item d ds) = Fits d × ItemsFit ds

  MembersFit : Members → Type 0
  MembersFit no_members = Unit {0}
  MembersFit (member k d ms) = Fits d × MembersFit ms

put_by : (o : Ordering) (k : List ℕ) (d : Data) (l : List ℕ) (e : Data) (ms more : Members) → Fits d → Fits e → MembersFit ms → MembersFit more → MembersFit (match_ordering o (member k d (member l e ms)) (member l d ms) (member l e more))
put_by Less k d l e ms more new old rest after = (new, (old, rest))
put_by Equal k d l e ms more new old rest after = (new, rest)
put_by Greater k d l e ms more new old rest after = (old, after)

put_fits : (k : List ℕ) (d : Data) (ms : Members) → Fits d → MembersFit ms → MembersFit (put k d ms)
put_fits k d no_members new old = (new, tt)
put_fits k d (member l e ms) new old = put_by (slice_cmp nat_cmp k l) k d l e ms (put k d ms) new old.0 old.1 (put_fits k d ms new old.1)

mutual
  json_fits : (j : json.Json) (d : Data) → of_json j ≡ Some d → Fits d
  json_fits json.null d h = subst Fits (same_some null d h) tt
  json_fits (json.boolean b) d h = subst Fits (same_some (boolean b) d h) tt
  json_fits (json.number s) d h = let (n, read, is) = map_parts number (number_of s) d h in subst Fits is (read_number s n read)
  json_fits (json.string s) d h = subst Fits (same_some (string s) d h) tt
  json_fits (json.array js) d h = let (ds, read, is) = map_parts array (of_items js) d h in subst Fits is (items_fit js ds read)
  json_fits (json.object ms) d h = let (got, read, is) = map_parts object (of_members ms no_members) d h in subst Fits is (members_fit ms no_members got tt read)

  items_fit : (js : json.Items) (ds : Items) → of_items js ≡ Some ds → ItemsFit ds
  items_fit json.no_items ds h = subst ItemsFit (same_some no_items ds h) tt
  items_fit (json.item j js) ds h =
      let (d, first, more) = and_then_parts (λ e. option_map (item e) (of_items js)) (of_json j) ds h in
      let (rest, others, is) = map_parts (item d) (of_items js) ds more in
      subst ItemsFit is (json_fits j d first, items_fit js rest others)

  members_fit : (ms : json.Members) (found got : Members) → MembersFit found → of_members ms found ≡ Some got → MembersFit got
  members_fit json.no_members found got fits h = subst MembersFit (same_some found got h) fits
  members_fit (json.member k j ms) found got fits h =
      let (d, first, more) = and_then_parts (λ e. of_members ms (put k e found)) (of_json j) got h in
      members_fit ms (put k d found) got (put_fits k d found (json_fits j d first) fits) more

pub said_fits : (bytes : List ℕ) (d : Data) → json_of bytes ≡ Some d → Fits d
unfolding json_of
said_fits bytes d h =
    let (j, lexed, is) = and_then_parts of_json (option_and_then (λ p. json.if_last p.0 p.1) (json.value max_depth (tokens bytes))) d (if_parts (is_utf8 bytes) (read bytes) d h) in
    json_fits j d is

-- ---- parts of values

member_by : (o : Ordering) (e d : Data) (rest : Option Data) → Fits e → (rest ≡ Some d → Fits d) → match_ordering o rest (Some e) rest ≡ Some d → Fits d
member_by Less e d rest here later h = later h
member_by Equal e d rest here later h = subst Fits (same_some e d h) here
member_by Greater e d rest here later h = later h

member_fits : (k : List ℕ) (ms : Members) (d : Data) → MembersFit ms → get_member k ms ≡ Some d → Fits d
member_fits k no_members d fit h = absurd (cc)
member_fits k (member l e ms) d fit h = member_by (slice_cmp nat_cmp k l) e d (get_member k ms) fit.0 (member_fits k ms d fit.1) h

pub get_fits : (k : List ℕ) (d e : Data) → Fits d → get k d ≡ Some e → Fits e
get_fits k null e fit h = absurd (cc)
get_fits k (boolean b) e fit h = absurd (cc)
get_fits k (number n) e fit h = absurd (cc)
get_fits k (string s) e fit h = absurd (cc)
get_fits k (array ds) e fit h = absurd (cc)
get_fits k (object ms) e fit h = member_fits k ms e fit h

small_by : (b : Bool) (n : ℕ) (z : ℤ) → (b ≡ true → n < 2 ^ 63) → (if b then Some (pos n) else None) ≡ Some z → FitsSigned w64 z
small_by true n z below h = subst (FitsSigned w64) (same_some (pos n) z h) (record { sfits = below refl })
small_by false n z below h = absurd (cc)

num_fits : (n : Num) (z : ℤ) → NumFits n → as_i64 n ≡ Some z → FitsSigned w64 z
num_fits (unsigned n) z fit h = small_by (nat_lt n (2 ^ 63)) n z (ltb-true n (2 ^ 63)) h
num_fits (negative y) z fit h = subst (FitsSigned w64) (same_some y z h) fit
num_fits (float x) z fit h = absurd (cc)

number_of_fits : (d : Data) (n : Num) → Fits d → as_number d ≡ Some n → NumFits n
number_of_fits null n fit h = absurd (cc)
number_of_fits (boolean b) n fit h = absurd (cc)
number_of_fits (number m) n fit h = subst NumFits (same_some m n h) fit
number_of_fits (string s) n fit h = absurd (cc)
number_of_fits (array ds) n fit h = absurd (cc)
number_of_fits (object ms) n fit h = absurd (cc)

pub whole_fits : (d : Data) (z : ℤ) → Fits d → whole d ≡ Some z → FitsSigned w64 z
whole_fits d z fit h = let (n, there, is) = and_then_parts as_i64 (as_number d) z h in num_fits n z (number_of_fits d n fit there) is

array_fits : (d : Data) (ds : Items) → Fits d → as_array d ≡ Some ds → ItemsFit ds
array_fits null ds fit h = absurd (cc)
array_fits (boolean b) ds fit h = absurd (cc)
array_fits (number n) ds fit h = absurd (cc)
array_fits (string s) ds fit h = absurd (cc)
array_fits (array es) ds fit h = subst ItemsFit (same_some es ds h) fit
array_fits (object ms) ds fit h = absurd (cc)

-- what holds of what each value says
module _ {X : Type 0} (f : Data → Option X) (P : X → Type 0) (each_holds : (d : Data) (x : X) → Fits d → f d ≡ Some x → P x) where
  items_hold : (ds : Items) (xs : List X) → ItemsFit ds → each f (list_of ds) ≡ Some xs → All P xs
  items_hold no_items xs fit h = subst (All P) (same_some [] xs h) (All-nil P)
  items_hold (item d ds) xs fit h =
      let (x, first, more) = and_then_parts (λ y. option_and_then (λ ys. Some (y ∷ ys)) (each f (list_of ds))) (f d) xs h in
      let (rest, others, is) = and_then_parts (λ ys. Some (x ∷ ys)) (each f (list_of ds)) xs more in
      subst (All P) (same_some (x ∷ rest) xs is) (All-cons P x rest (each_holds d x fit.0 first) (items_hold ds rest fit.1 others))

  pub list_holds : (d : Data) (xs : List X) → Fits d → list_text f d ≡ Some xs → All P xs
  unfolding list_text
  list_holds d xs fit h =
      let (ds, there, is) = and_then_parts (λ es. each f (list_of es)) (as_array d) xs h in
      items_hold ds xs (array_fits d ds fit there) is

  none_by : (o : Option Data) (xs : List X) → ((d : Data) → o ≡ Some d → Fits d) → option_map_or (list_text f) o (Some []) ≡ Some xs → All P xs
  none_by None xs fit h = subst (All P) (same_some [] xs h) (All-nil P)
  none_by (Some d) xs fit h = list_holds d xs (fit d refl) h

  pub list_at_holds : (name : List ℕ) (d : Data) (xs : List X) → Fits d → each_or_empty f name d ≡ Some xs → All P xs
  unfolding each_or_empty
  list_at_holds name d xs fit h = none_by (get name d) xs (λ e there. get_fits name d e fit there) h
