-- Values of plain strings and of whole numbers: their texts are ASCII.
use Rattle.std.proofs.Common.{◌≡◌, ◌<◌, ◌^◌, ◌++◌, ℕ, zero, suc, Bool, true, false, List, [], ◌∷◌, sym, ap, ap₂, subst, arith}
use Rattle.std.specs.Prelude.{⊤}
use Rattle.std.specs.List.{list_all}
use Rattle.std.specs.Str.{IsAscii}
use Rattle.std.proofs.lemmas.Fmt.{IsAscii-decimal}
use Rattle.std.proofs.lemmas.Str.{IsAscii-append}
use Rattle.json.specs.Print.{quoted}
use Rattle.json.specs.Tree.{HasNumbers, ItemsHaveNumbers, MembersHaveNumbers}
use Rattle.json.proofs.Printed.Decimals.{IsNumber-decimal}
use Rattle.serde_json.specs.Data.{Num, unsigned, negative, float, Data, null, boolean, number, string, array, object, Items, no_items, item, Members, no_members, member}
use Rattle.serde_json.specs.Written.{outline, items_outline, members_outline, compact_text, items_text, members_text, comma_if}
use Rattle.receipts.specs.ReadBack.{is_plain}
use Rattle.receipts.proofs.Plain.{ascii_plain, escape_plain}

abbrev pub IsPlainNum : Num → Type 0
IsPlainNum (unsigned n) = n < 2 ^ 64
IsPlainNum (negative z) = ⊥
IsPlainNum (float x) = ⊥

abbrev pub IsPlainText : List ℕ → Type 0
IsPlainText s = list_all is_plain s ≡ true

abbrev mutual
  pub IsPlain : Data → Type 0
  IsPlain null = ⊥
  IsPlain (boolean b) = ⊥
  IsPlain (number n) = IsPlainNum n
  IsPlain (string s) = IsPlainText s
  IsPlain (array ds) = ArePlainItems ds
  IsPlain (object ms) = ArePlainMembers ms

  pub ArePlainItems : Items → Type 0
  ArePlainItems no_items = ⊤
  ArePlainItems (item d ds) = IsPlain d × ArePlainItems ds

  pub ArePlainMembers : Members → Type 0
  ArePlainMembers no_members = ⊤
  ArePlainMembers (member k d ms) = IsPlainText k × (IsPlain d × ArePlainMembers ms)

before : (x : ℕ) (s : List ℕ) → x < 128 → IsAscii s → IsAscii (x ∷ s)
before x s low is zero = low
before x s low is (suc i) = is i

ends : (x : ℕ) → x < 128 → IsAscii (x ∷ [])
ends x low zero = low
ends x low (suc i) = omega arith

quoted_ascii : (s : List ℕ) → IsPlainText s → IsAscii (quoted s)
quoted_ascii s plain = before 34 _ (omega arith) (IsAscii-append _ _ (subst IsAscii (sym (escape_plain s plain)) (ascii_plain s plain)) (ends 34 (omega arith)))

comma_ascii : (later : Bool) (s : List ℕ) → IsAscii s → IsAscii (comma_if later ++ s)
comma_ascii true s is = before 44 s (omega arith) is
comma_ascii false s is = is

mutual
  pub ascii_text : (d : Data) → IsPlain d → IsAscii (compact_text d)
  ascii_text null is = absurd is
  ascii_text (boolean b) is = absurd is
  ascii_text (number (unsigned n)) is = IsAscii-decimal n is
  ascii_text (number (negative z)) is = absurd is
  ascii_text (number (float x)) is = absurd is
  ascii_text (string s) is = quoted_ascii s is
  ascii_text (array ds) is = before 91 _ (omega arith) (ascii_items false ds is)
  ascii_text (object ms) is = before 123 _ (omega arith) (ascii_members false ms is)

  ascii_items : (later : Bool) (ds : Items) → ArePlainItems ds → IsAscii (items_text later ds)
  ascii_items later no_items is = ends 93 (omega arith)
  ascii_items later (item d ds) is = comma_ascii later _ (IsAscii-append (compact_text d) (items_text true ds) (ascii_text d is.0) (ascii_items true ds is.1))

  ascii_members : (later : Bool) (ms : Members) → ArePlainMembers ms → IsAscii (members_text later ms)
  ascii_members later no_members is = ends 125 (omega arith)
  ascii_members later (member k d ms) is = comma_ascii later _ (IsAscii-append (quoted k) (58 ∷ (compact_text d ++ members_text true ms)) (quoted_ascii k is.0) (before 58 _ (omega arith) (IsAscii-append (compact_text d) (members_text true ms) (ascii_text d is.1.0) (ascii_members true ms is.1.1))))

mutual
  pub has_numbers : (d : Data) → IsPlain d → HasNumbers (outline d)
  has_numbers null is = absurd is
  has_numbers (boolean b) is = absurd is
  has_numbers (number (unsigned n)) is = IsNumber-decimal n is
  has_numbers (number (negative z)) is = absurd is
  has_numbers (number (float x)) is = absurd is
  has_numbers (string s) is = tt
  has_numbers (array ds) is = items_have_numbers ds is
  has_numbers (object ms) is = members_have_numbers ms is

  items_have_numbers : (ds : Items) → ArePlainItems ds → ItemsHaveNumbers (items_outline ds)
  items_have_numbers no_items is = tt
  items_have_numbers (item d ds) is = (has_numbers d is.0, items_have_numbers ds is.1)

  members_have_numbers : (ms : Members) → ArePlainMembers ms → MembersHaveNumbers (members_outline ms)
  members_have_numbers no_members is = tt
  members_have_numbers (member k d ms) is = (has_numbers d is.1.0, members_have_numbers ms is.1.1)

-- the text of a member, by those of its value and of what stands behind it
pub member_text : (later : Bool) (k : List ℕ) (d : Data) (ms : Members) (t rest : List ℕ) → IsPlainText k → compact_text d ≡ t → members_text true ms ≡ rest
    → members_text later (member k d ms) ≡ comma_if later ++ ((34 ∷ (k ++ 34 ∷ [])) ++ 58 ∷ (t ++ rest))
member_text later k d ms t rest plain e f = ap₂ (λ (q s : List ℕ). comma_if later ++ ((34 ∷ (q ++ 34 ∷ [])) ++ 58 ∷ s)) (escape_plain k plain) (ap₂ (λ (x y : List ℕ). x ++ y) e f)

pub string_text : (s : List ℕ) → IsPlainText s → compact_text (string s) ≡ 34 ∷ (s ++ 34 ∷ [])
string_text s plain = ap (λ (q : List ℕ). 34 ∷ (q ++ 34 ∷ [])) (escape_plain s plain)
