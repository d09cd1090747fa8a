-- The sources of a receipt: what is written of them, and that they are read back.
use Rattle.std.proofs.Common.{◌≡◌, ◌≤◌, ◌++◌, ℕ, suc, true, false, List, [], ◌∷◌, map, zip, Some, option_map, refl, sym, ap, ap₂, ◌∙◌, append_assoc, arith}
use Rattle.std.specs.List.{All, join_with_byte}
use Rattle.json.specs.Print.{escape}
use Rattle.json.specs.Tree as tree
use Rattle.plan_model.specs.declared.spec.SourceSpec.{SourceSpec}
use Rattle.serde_json.specs.Data.{Data, array, object, Members, no_members, member, put}
use Rattle.serde_json.specs.Read.{of_json, of_items, of_members}
use Rattle.serde_json.specs.View.{items_of}
use Rattle.serde_json.specs.Written.{outline, items_outline, members_outline, compact_text, items_text, members_text}
use Rattle.json_parts.specs.Parts.{each, list_of}
use Rattle.receipts.specs.declared.digests.Counted.{Counted}
use Rattle.receipts.specs.ReceiptText.{counted_text, label, partitions_text, source_member, sources_text}
use Rattle.receipts.specs.Said.{counted_said}
use Rattle.receipts.specs.ReadBack.{IsCounted}
use Rattle.receipts.proofs.Plain.{escape_plain}
use Rattle.receipts.proofs.Plains.{ArePlainItems, ArePlainMembers, IsPlainText}
use Rattle.receipts.proofs.Puts.{Named, put_all}
use Rattle.receipts.proofs.Values.{counted_data, counted_read, counted_back, counted_spelled, counted_plain}

-- all are such
abbrev pub AreCounted : List Counted → Type 0
AreCounted [] = Unit {0}
AreCounted (c ∷ cs) = IsCounted c × AreCounted cs

pub are_counted : (cs : List Counted) → All IsCounted cs → AreCounted cs
are_counted [] all = tt
are_counted (c ∷ cs) all = (all 0 c (omega arith), are_counted cs (λ k d within. all (suc k) d (omega (arith, within))))

abbrev pub partitions_data : List Counted → Data
partitions_data cs = array (items_of (map counted_data cs))

items_read : (cs : List Counted) → AreCounted cs → of_items (items_outline (items_of (map counted_data cs))) ≡ Some (items_of (map counted_data cs))
items_read [] are = refl
items_read (c ∷ cs) are = rw (counted_read c are.0, items_read cs are.1) refl

pub partitions_read : (cs : List Counted) → AreCounted cs → of_json (outline (partitions_data cs)) ≡ Some (partitions_data cs)
partitions_read cs are = ap (option_map array) (items_read cs are)

pub partitions_back : (cs : List Counted) → AreCounted cs → each counted_said (list_of (items_of (map counted_data cs))) ≡ Some cs
partitions_back [] are = refl
partitions_back (c ∷ cs) are = rw (counted_back c are.0, partitions_back cs are.1) refl

items_plain : (cs : List Counted) → AreCounted cs → ArePlainItems (items_of (map counted_data cs))
items_plain [] are = tt
items_plain (c ∷ cs) are = (counted_plain c are.0, items_plain cs are.1)

items_flat : (cs : List Counted) → tree.items_depth (items_outline (items_of (map counted_data cs))) ≤ 1
items_flat [] = omega arith
items_flat (c ∷ cs) = omega (arith, items_flat cs)

more_items : (c : Counted) (cs : List Counted) → IsCounted c → AreCounted cs → compact_text (counted_data c) ++ items_text true (items_of (map counted_data cs)) ≡ join_with_byte 44 (map counted_text (c ∷ cs)) ++ 93 ∷ []
more_items c [] is are = ap (λ (s : List ℕ). s ++ 93 ∷ []) (sym (counted_spelled c is))
more_items c (e ∷ cs) is are =
    ap₂ (λ (s rest : List ℕ). s ++ 44 ∷ rest) (sym (counted_spelled c is)) (more_items e cs are.0 are.1) ∙ sym (append_assoc (counted_text c) (44 ∷ join_with_byte 44 (map counted_text (e ∷ cs))) (93 ∷ []))

pub partitions_spelled : (cs : List Counted) → AreCounted cs → compact_text (partitions_data cs) ≡ partitions_text cs
partitions_spelled [] are = refl
partitions_spelled (c ∷ cs) are = ap (λ (s : List ℕ). 91 ∷ s) (more_items c cs are.0 are.1)

-- ---- each under its name

abbrev pub Pair : Type 0
Pair = SourceSpec × List Counted

abbrev pub named : Pair → Named
named x = (x.0.uid, partitions_data x.1)

-- each name is plain, and so is what stands there
abbrev pub ArePairs : List Pair → Type 0
ArePairs [] = Unit {0}
ArePairs (x ∷ xs) = (IsPlainText x.0.uid × AreCounted x.1) × ArePairs xs

-- as they are written, in order
abbrev pub members_from : List Named → Members
members_from [] = no_members
members_from (z ∷ zs) = member z.0 z.1 (members_from zs)

pub members_read : (xs : List Pair) (ms : Members) → ArePairs xs → of_members (members_outline (members_from (map named xs))) ms ≡ Some (put_all (map named xs) ms)
members_read [] ms are = refl
members_read (x ∷ xs) ms are = rw (partitions_read x.1 are.0.1) (members_read xs (put x.0.uid (partitions_data x.1) ms) are.1)

pub members_plain : (xs : List Pair) → ArePairs xs → ArePlainMembers (members_from (map named xs))
members_plain [] are = tt
members_plain (x ∷ xs) are = (are.0.0, (items_plain x.1 are.0.1, members_plain xs are.1))

pub members_flat : (xs : List Pair) → tree.members_depth (members_outline (members_from (map named xs))) ≤ 2
members_flat [] = omega arith
members_flat (x ∷ xs) = omega (arith, items_flat x.1, members_flat xs)

-- a member with more behind it
regroup : (u t rest : List ℕ) → (34 ∷ (u ++ 34 ∷ [])) ++ 58 ∷ (t ++ rest) ≡ (label u ++ t) ++ rest
regroup u t rest = simp append_assoc

one_member : (x : Pair) (rest : List ℕ) → IsPlainText x.0.uid → AreCounted x.1 → (34 ∷ (escape x.0.uid ++ 34 ∷ [])) ++ 58 ∷ (compact_text (partitions_data x.1) ++ rest) ≡ source_member x ++ rest
one_member x rest plain are = ap₂ (λ (q t : List ℕ). (34 ∷ (q ++ 34 ∷ [])) ++ 58 ∷ (t ++ rest)) (escape_plain x.0.uid plain) (partitions_spelled x.1 are) ∙ regroup x.0.uid (partitions_text x.1) rest

more_members : (x : Pair) (xs : List Pair) → (IsPlainText x.0.uid × AreCounted x.1) → ArePairs xs
    → (34 ∷ (escape x.0.uid ++ 34 ∷ [])) ++ 58 ∷ (compact_text (partitions_data x.1) ++ members_text true (members_from (map named xs))) ≡ join_with_byte 44 (map source_member (x ∷ xs)) ++ 125 ∷ []
more_members x [] is are = one_member x (125 ∷ []) is.0 is.1
more_members x (y ∷ xs) is are =
    one_member x _ is.0 is.1 ∙ ap (λ (rest : List ℕ). source_member x ++ 44 ∷ rest) (more_members y xs are.0 are.1) ∙ sym (append_assoc (source_member x) (44 ∷ join_with_byte 44 (map source_member (y ∷ xs))) (125 ∷ []))

all_members : (xs : List Pair) → ArePairs xs → members_text false (members_from (map named xs)) ≡ join_with_byte 44 (map source_member xs) ++ 125 ∷ []
all_members [] are = refl
all_members (x ∷ xs) are = more_members x xs are.0 are.1

pub sources_spelled : (ss : List SourceSpec) (rs : List (List Counted)) → ArePairs (zip ss rs) → compact_text (object (members_from (map named (zip ss rs)))) ≡ sources_text ss rs
sources_spelled ss rs are = ap (λ (s : List ℕ). 123 ∷ s) (all_members (zip ss rs) are)
