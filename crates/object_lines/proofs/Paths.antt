-- A name with dots, from one object into the next.
use Rattle.std.proofs.Common.{◌≡◌, ◌<◌, ◌≤◌, ◌+◌, ◌∙◌, ℕ, zero, suc, true, false, List, [], ◌∷◌, ◌++◌, length, length-append, length-drop, Option, Some, None, Result, Ok, Err, ap, refl, arith}
use mathlib.Core.Logic.{⊎_elim}
use Rattle.std.proofs.lemmas.Bool.{cases_Bool}
use Rattle.std.proofs.lemmas.Bool.Decides.{nat_tests}
use Rattle.std.specs.List.{position_or_len, before_first, after_first}
use Rattle.json.specs.Find.{as_object}
use Rattle.json.specs.Json.{Json, Members}
use Rattle.object_lines.specs.Members.{only, values_of, is_dot, has_dot, in_members, within, or_missing, nested, member_said}
use Rattle.object_lines.specs.declared.fault.MemberFault.{MemberFault}
use Rattle.object_lines.specs.declared.fault.MemberFault.TheVariants.{Missing, Twice, NoText}

-- a value that is there is the one
pub found : (depth : ℕ) (name : List ℕ) (ms : Members) (j : Json) → only (values_of name ms) ≡ Ok j → nested depth name ms ≡ Ok j
unfolding nested
found zero name ms j is = is
found (suc depth) name ms j is = rw is refl

-- and so is one that is there twice
pub twice : (depth : ℕ) (name : List ℕ) (ms : Members) → only (values_of name ms) ≡ Err Twice → nested depth name ms ≡ Err Twice
unfolding nested
twice zero name ms is = is
twice (suc depth) name ms is = rw is refl

pub no_text : (depth : ℕ) (name : List ℕ) (ms : Members) → only (values_of name ms) ≡ Err NoText → nested depth name ms ≡ Err NoText
unfolding nested
no_text zero name ms is = is
no_text (suc depth) name ms is = rw is refl

pub shorter : (name front behind : List ℕ) → name ≡ front ++ (46 ∷ behind) → length behind < length name
shorter name front behind is = rw is (grind (arith, length-append))

no_dot : (name : List ℕ) → position_or_len is_dot name ≡ length name → has_dot name ≡ false
no_dot name is = grind (arith, nat_tests)

one_dot : (name : List ℕ) → position_or_len is_dot name < length name → has_dot name ≡ true
one_dot name is = grind (arith, nat_tests)

dot_within : (name : List ℕ) → has_dot name ≡ true → position_or_len is_dot name < length name
dot_within name is = grind (arith, nat_tests)

-- a name without a dot is that of no member inside another
pub nowhere : (depth : ℕ) (name : List ℕ) (ms : Members) → position_or_len is_dot name ≡ length name → only (values_of name ms) ≡ Err Missing → nested depth name ms ≡ Err Missing
unfolding nested
nowhere zero name ms none is = is
nowhere (suc depth) name ms none is = rw (is, no_dot name none) refl

-- what stands before the dot is no member of which something could be inside
pub no_front : (depth : ℕ) (name : List ℕ) (ms : Members) (fault : MemberFault) → position_or_len is_dot name < length name → length name ≤ depth → only (values_of name ms) ≡ Err Missing
    → only (values_of (before_first is_dot name) ms) ≡ Err fault → nested depth name ms ≡ Err fault
unfolding nested
no_front zero name ms fault some few is front = absurd (omega arith)
no_front (suc depth) name ms fault some few is front = rw (is, one_dot name some, front) refl

pub no_object : (depth : ℕ) (name : List ℕ) (ms : Members) (j : Json) → position_or_len is_dot name < length name → length name ≤ depth → only (values_of name ms) ≡ Err Missing
    → only (values_of (before_first is_dot name) ms) ≡ Ok j → as_object j ≡ None → nested depth name ms ≡ Err Missing
unfolding nested
no_object zero name ms j some few is front other = absurd (omega arith)
no_object (suc depth) name ms j some few is front other = rw (is, one_dot name some, front, other) refl

-- and where it is an object, the rest of the name is looked for in it
pub into : (depth : ℕ) (name : List ℕ) (ms inner : Members) (j : Json) → position_or_len is_dot name < length name → only (values_of name ms) ≡ Err Missing
    → only (values_of (before_first is_dot name) ms) ≡ Ok j → as_object j ≡ Some inner → nested (suc depth) name ms ≡ nested depth (after_first is_dot name) inner
unfolding nested
into depth name ms inner j some is front object_is = rw (is, one_dot name some, front, object_is) refl

missing_there : (said : Result Json MemberFault) → or_missing said (Err Missing) ≡ said
missing_there (Ok j) = refl
missing_there (Err Missing) = refl
missing_there (Err Twice) = refl
missing_there (Err NoText) = refl

in_same : (found : Option Members) (f g : Members → Result Json MemberFault) → ((ms : Members) → f ms ≡ g ms) → in_members found f ≡ in_members found g
in_same None f g same = refl
in_same (Some ms) f g same = same ms

within_same : (said : Result Json MemberFault) (f g : Members → Result Json MemberFault) → ((ms : Members) → f ms ≡ g ms) → within said f ≡ within said g
within_same (Ok j) f g same = in_same (as_object j) f g same
within_same (Err fault) f g same = refl

rest_shorter : (name : List ℕ) → position_or_len is_dot name < length name → length (after_first is_dot name) < length name
rest_shorter name some = omega (arith, some, length-drop (position_or_len is_dot name + 1) name)

-- more objects in one another change nothing where the name has no more dots
pub same_depth : (depth more : ℕ) (name : List ℕ) (ms : Members) → length name ≤ depth → depth ≤ more → nested more name ms ≡ nested depth name ms
unfolding nested
same_depth zero zero name ms few least = refl
same_depth zero (suc more) [] ms few least = missing_there (only (values_of [] ms))
same_depth zero (suc more) (b ∷ name) ms few least = absurd (omega arith)
same_depth (suc depth) zero name ms few least = absurd (omega arith)
same_depth (suc depth) (suc more) name ms few least = ⊎_elim
    (λ e. rw e (ap (or_missing (only (values_of name ms))) (within_same (only (values_of (before_first is_dot name) ms)) _ _
    (λ inner. same_depth depth more (after_first is_dot name) inner (let some = rest_shorter name (dot_within name e) in omega arith) (omega arith)))))
    (λ e. rw e refl)
    (cases_Bool (has_dot name))

said_inside : (size : ℕ) (name behind : List ℕ) (ms inner : Members) → length name ≡ size → length behind < size
    → ((depth : ℕ) → nested (suc depth) name ms ≡ nested depth behind inner) → member_said ms name ≡ member_said inner behind
said_inside zero name behind ms inner is less next = absurd (omega arith)
said_inside (suc size) name behind ms inner is less next =
    ap (λ (depth : ℕ). nested depth name ms) is ∙ next size ∙ same_depth (length behind) size behind inner (omega arith) (omega arith)

-- the value of a name is that of a shorter one in an object inside
pub same_value : (name behind : List ℕ) (ms inner : Members) → length behind < length name
    → ((depth : ℕ) → nested (suc depth) name ms ≡ nested depth behind inner) → member_said ms name ≡ member_said inner behind
same_value name behind ms inner less next = said_inside (length name) name behind ms inner refl less next
