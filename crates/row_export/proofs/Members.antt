-- The members of an object, one after the other.
use Rattle.std.proofs.Common.{arith, rules, ◌≡◌, ℕ, ℤ, zero, suc, ◌+◌, ◌≤◌, Bool, true, false, nat_lt, cond, List, [], ◌∷◌, ◌++◌, take, length, map, slice_get, Option, Some, None, option_map, refl, sym, ap, subst, ◌∙◌, append_assoc, append-nil}
use Rattle.std.proofs.lemmas.List.{length-take-le, take_all}
use Rattle.std.proofs.lemmas.Option.{slice_get_within, slice_get-map}
use Rattle.std.specs.List.{fold}
use Rattle.std.proofs.lemmas.Bool.{lt-ltb}
use Rattle.json.specs.Token.{Token, begin_object, end_object, key, string}
use Rattle.json.specs.Print.{ends, print, print_from, quoted, token_text}
use Rattle.json.proofs.Printed.Tokens.{print_from-append}
use Rattle.row_tables.specs.Cells.{Shows}
use Rattle.row_tables.specs.declared.kind.CellKind.{CellKind}
use Rattle.row_tables.specs.declared.kind.CellKind.TheVariants.{Number, Time, Fine, Date, Name}
use Rattle.row_export.specs.Objects.{cell_token, comma_at, key_text, members, HasMembers, IsLine}
use Rattle.row_export.specs.Shown.{ShowsRow}
use Rattle.plain_data.proofs.Facts.{taken_more}
use Rattle.row_export.proofs.Rows.{row_more}

-- a key alone
pub print_key : (title : List ℕ) → print (key title ∷ []) ≡ key_text title
unfolding print_from
print_key title = append-nil (key_text title)

-- a string alone
pub print_string : (text : List ℕ) → print (string text ∷ []) ≡ quoted text
unfolding print_from
print_string text = append-nil (quoted text)

print_end : (after : Bool) → print_from after (end_object ∷ []) ≡ 125 ∷ []
unfolding print_from
print_end true = refl
print_end false = refl

-- the members between the braces
pub print_object : (ms : List Token) → print (begin_object ∷ ms ++ end_object ∷ []) ≡ 123 ∷ (print ms ++ 125 ∷ [])
unfolding print_from
print_object ms = ap (λ l. 123 ∷ l) (print_from-append false ms (end_object ∷ []) ∙ ap (λ l. print ms ++ l) (print_end (fold (λ _ u. ends u) false ms)))

print_member : (after : Bool) (title text : List ℕ) (kind : CellKind) → print_from after (key title ∷ cell_token kind text ∷ []) ≡ cond after (44 ∷ []) [] ++ (key_text title ++ token_text (cell_token kind text))
unfolding print_from
print_member true title text (Number places) = ap (λ l. 44 ∷ (key_text title ++ l)) (append-nil text)
print_member true title text Time = ap (λ l. 44 ∷ (key_text title ++ l)) (append-nil (quoted text))
print_member true title text (Fine unit) = ap (λ l. 44 ∷ (key_text title ++ l)) (append-nil (quoted text))
print_member true title text (Date part) = ap (λ l. 44 ∷ (key_text title ++ l)) (append-nil (quoted text))
print_member true title text Name = ap (λ l. 44 ∷ (key_text title ++ l)) (append-nil (quoted text))
print_member false title text (Number places) = ap (λ l. key_text title ++ l) (append-nil text)
print_member false title text Time = ap (λ l. key_text title ++ l) (append-nil (quoted text))
print_member false title text (Fine unit) = ap (λ l. key_text title ++ l) (append-nil (quoted text))
print_member false title text (Date part) = ap (λ l. key_text title ++ l) (append-nil (quoted text))
print_member false title text Name = ap (λ l. key_text title ++ l) (append-nil (quoted text))

cell_ends : (kind : CellKind) (text : List ℕ) → ends (cell_token kind text) ≡ true
cell_ends (Number places) text = refl
cell_ends Time text = refl
cell_ends (Fine unit) text = refl
cell_ends (Date part) text = refl
cell_ends Name text = refl

ends_after : (titles : List (List ℕ)) (kinds : List CellKind) (texts : List (List ℕ)) → fold (λ _ u. ends u) true (members titles kinds texts) ≡ true
ends_after [] kinds texts = refl
ends_after (title ∷ titles) [] texts = refl
ends_after (title ∷ titles) (kind ∷ kinds) [] = refl
ends_after (title ∷ titles) (kind ∷ kinds) (text ∷ texts) = ap (λ b. fold (λ _ u. ends u) b (members titles kinds texts)) (cell_ends kind text) ∙ ends_after titles kinds texts

-- members that are as many end in a value just where there are some
ends_of : (titles : List (List ℕ)) (kinds : List CellKind) (texts : List (List ℕ)) → length titles ≡ length kinds → length kinds ≡ length texts → fold (λ _ u. ends u) false (members titles kinds texts) ≡ nat_lt 0 (length titles)
ends_of [] kinds texts h k = refl
ends_of (title ∷ titles) [] texts h k = absurd (omega (arith, h))
ends_of (title ∷ titles) (kind ∷ kinds) [] h k = absurd (omega (arith, k))
ends_of (title ∷ titles) (kind ∷ kinds) (text ∷ texts) h k = ap (λ b. fold (λ _ u. ends u) b (members titles kinds texts)) (cell_ends kind text) ∙ ends_after titles kinds texts ∙ sym (lt-ltb 0 (suc (length titles)) (omega arith))

member_last : (titles : List (List ℕ)) (kinds : List CellKind) (texts : List (List ℕ)) (title : List ℕ) (kind : CellKind) (text : List ℕ) → length titles ≡ length kinds → length kinds ≡ length texts
    → members (titles ++ title ∷ []) (kinds ++ kind ∷ []) (texts ++ text ∷ []) ≡ members titles kinds texts ++ key title ∷ cell_token kind text ∷ []
member_last [] [] [] title kind text h k = refl
member_last [] [] (t ∷ texts) title kind text h k = absurd (omega (arith, k))
member_last [] (c ∷ kinds) texts title kind text h k = absurd (omega (arith, h))
member_last (n ∷ titles) [] texts title kind text h k = absurd (omega (arith, h))
member_last (n ∷ titles) (c ∷ kinds) [] title kind text h k = absurd (omega (arith, k))
member_last (n ∷ titles) (c ∷ kinds) (t ∷ texts) title kind text h k =
    let h' : length titles ≡ length kinds = omega (arith, h) in
    let k' : length kinds ≡ length texts = omega (arith, k) in
    ap (λ l. key n ∷ cell_token c t ∷ l) (member_last titles kinds texts title kind text h' k')

pub as_many : (kinds : List CellKind) (names : List (List ℕ)) (numbers : List ℤ) (texts : List (List ℕ)) → ShowsRow kinds names numbers texts → length kinds ≡ length texts
as_many [] names [] [] h = refl
as_many [] names [] (t ∷ texts) h = absurd h
as_many [] names (n ∷ numbers) texts h = absurd h
as_many (k ∷ kinds) names [] texts h = absurd h
as_many (k ∷ kinds) names (n ∷ numbers) [] h = absurd h
as_many (k ∷ kinds) names (n ∷ numbers) (t ∷ texts) h = ap suc (as_many kinds names numbers texts h.1)

-- one member more
pub member_more : (titles : List (List ℕ)) (kinds : List CellKind) (names : List (List ℕ)) (numbers : List ℤ) (i : ℕ) (title : List ℕ) (kind : CellKind) (n : ℤ) (text before line : List ℕ) → slice_get titles i ≡ Some title → slice_get kinds i ≡ Some kind
    → slice_get numbers i ≡ Some n → HasMembers (take i titles) (take i kinds) names (take i numbers) before line → Shows kind names n text
    → HasMembers (take (i + 1) titles) (take (i + 1) kinds) names (take (i + 1) numbers) before (line ++ (comma_at i ++ (key_text title ++ token_text (cell_token kind text))))
member_more titles kinds names numbers i title kind n text before line at_title at_kind at_number h s =
    let ts = take i titles in
    let ks = take i kinds in
    let tail = comma_at i ++ (key_text title ++ token_text (cell_token kind text)) in
    let in_titles = slice_get_within titles i title at_title in
    let in_kinds = slice_get_within kinds i kind at_kind in
    let long : length ts ≡ i = length-take-le i titles (omega (arith, in_titles)) in
    let long' : length ks ≡ i = length-take-le i kinds (omega (arith, in_kinds)) in
    let h₁ : length ts ≡ length ks = long ∙ sym long' in
    let h₂ : length ks ≡ length h.cells = as_many ks names (take i numbers) h.cells h.shown in
    let after : fold (λ _ u. ends u) false (members ts ks h.cells) ≡ nat_lt 0 i = ends_of ts ks h.cells h₁ h₂ ∙ ap (nat_lt 0) long in
    let made : print (members (take (i + 1) titles) (take (i + 1) kinds) (h.cells ++ text ∷ [])) ≡ print (members ts ks h.cells) ++ tail =
    ap (λ l. print (members l (take (i + 1) kinds) (h.cells ++ text ∷ []))) (taken_more titles i title at_title)
    ∙ ap (λ l. print (members (ts ++ title ∷ []) l (h.cells ++ text ∷ []))) (taken_more kinds i kind at_kind)
    ∙ ap print (member_last ts ks h.cells title kind text h₁ h₂)
    ∙ print_from-append false (members ts ks h.cells) (key title ∷ cell_token kind text ∷ [])
    ∙ ap (λ l. print (members ts ks h.cells) ++ l) (ap (λ b. print_from b (key title ∷ cell_token kind text ∷ [])) after ∙ print_member (nat_lt 0 i) title text kind) in
    record {
      cells = h.cells ++ text ∷ [];
      shown = row_more kinds names numbers h.cells i kind n text at_kind at_number h.shown s;
      text = ap (λ l. l ++ tail) h.text ∙ append_assoc before (print (members ts ks h.cells)) tail ∙ ap (λ l. before ++ l) (sym made);
    }

members_of : (titles : List (List ℕ)) (kinds : List CellKind) (texts : List (List ℕ)) (i : ℕ) → length kinds ≤ i → members (take i titles) kinds texts ≡ members titles kinds texts
members_of [] kinds texts zero h = refl
members_of [] kinds texts (suc i) h = refl
members_of (title ∷ titles) [] texts zero h = refl
members_of (title ∷ titles) [] texts (suc i) h = refl
members_of (title ∷ titles) (kind ∷ kinds) texts zero h = absurd (omega (arith, h))
members_of (title ∷ titles) (kind ∷ kinds) [] (suc i) h = refl
members_of (title ∷ titles) (kind ∷ kinds) (text ∷ texts) (suc i) h = ap (λ l. key title ∷ cell_token kind text ∷ l) (members_of titles kinds texts i (omega (arith, h)))

-- no member is left
pub members_whole : (titles : List (List ℕ)) (kinds : List CellKind) (names : List (List ℕ)) (numbers : List ℤ) (i : ℕ) (before line : List ℕ) → length kinds ≤ i → length numbers ≤ i → HasMembers (take i titles) (take i kinds) names (take i numbers) before line
    → HasMembers titles kinds names numbers before line
members_whole titles kinds names numbers i before line in_kinds in_numbers h =
    let all = take_all i kinds in_kinds in
    record {
      cells = h.cells;
      shown = subst (λ ks. ShowsRow ks names numbers h.cells) all (subst (λ ns. ShowsRow (take i kinds) names ns h.cells) (take_all i numbers in_numbers) h.shown);
      text = h.text ∙ ap (λ ks. before ++ print (members (take i titles) ks h.cells)) all ∙ ap (λ ms. before ++ print ms) (members_of titles kinds h.cells i in_kinds);
    }

-- no member is there yet
pub members_none : (titles : List (List ℕ)) (kinds : List CellKind) (names : List (List ℕ)) (numbers : List ℤ) (before : List ℕ) → HasMembers (take 0 titles) (take 0 kinds) names (take 0 numbers) before before
unfolding print_from
members_none titles kinds names numbers before = record { cells = []; shown = tt; text = sym (append-nil before) }

title_there : (o : Option (List ℕ)) (k : List ℕ) → option_map key_text o ≡ Some k → (title : List ℕ) × ((o ≡ Some title) × (k ≡ key_text title))
title_there None k h = cc h
title_there (Some t) k h = (t, (refl, search (rules, h)))

-- the title whose key stands at a place
pub title_at : (titles : List (List ℕ)) (i : ℕ) (k : List ℕ) → slice_get (map key_text titles) i ≡ Some k → (title : List ℕ) × ((slice_get titles i ≡ Some title) × (k ≡ key_text title))
title_at titles i k h = title_there (slice_get titles i) k (sym (slice_get-map key_text titles i) ∙ h)

-- the braces and the line feed around the members make the line
pub line_made : (titles : List (List ℕ)) (kinds : List CellKind) (names : List (List ℕ)) (numbers : List ℤ) (line : List ℕ) → HasMembers titles kinds names numbers (123 ∷ []) line → IsLine titles kinds names numbers (line ++ 125 ∷ 10 ∷ [])
line_made titles kinds names numbers line h = record {
  cells = h.cells;
  shown = h.shown;
  text = ap (λ l. l ++ 125 ∷ 10 ∷ []) h.text ∙ sym (ap (λ l. l ++ 10 ∷ []) (print_object (members titles kinds h.cells)) ∙ ap (λ l. 123 ∷ l) (append_assoc (print (members titles kinds h.cells)) (125 ∷ []) (10 ∷ [])));
}
