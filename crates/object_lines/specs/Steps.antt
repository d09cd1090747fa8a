-- A name, from one object into the next.
use Rattle.std.specs.Prelude.{◌≡◌, ◌<◌, ◌≤◌, List, ℕ, suc, length, Ok, Err}
use Rattle.json.specs.Json.{Members}
use Rattle.json.specs.Value.{value_view, members_view}
use Rattle.object_lines.specs.Members.{only, values_of, nested}
use Rattle.object_lines.specs.declared.fault.MemberFault.TheVariants.{Missing}
use Rattle.object_lines.specs.declared.member.Step.{Step}
use Rattle.object_lines.specs.declared.member.Step.TheVariants.{Found, Wrong, Into}

-- where no member has a name, the value in so many objects at most is that of a shorter name in an object inside, or
-- there is none
abbrev pub IsInner : Members → List ℕ → Step → Type 0
IsInner ms name (Found value) = ⊥
IsInner ms name (Wrong fault) = (depth : ℕ) → length name ≤ depth → only (values_of name ms) ≡ Err Missing → nested depth name ms ≡ Err fault
IsInner ms name (Into inner behind) = (length behind.now < length name)
    × ((depth : ℕ) → only (values_of name ms) ≡ Err Missing → nested (suc depth) name ms ≡ nested depth behind.now (members_view inner.now.items))

-- the value in so many objects at most is this, or that of a shorter name in an object inside, or there is none
abbrev pub IsStep : Members → List ℕ → Step → Type 0
IsStep ms name (Found value) = (depth : ℕ) → nested depth name ms ≡ Ok (value_view value.now)
IsStep ms name (Wrong fault) = (depth : ℕ) → length name ≤ depth → nested depth name ms ≡ Err fault
IsStep ms name (Into inner behind) = (length behind.now < length name)
    × ((depth : ℕ) → nested (suc depth) name ms ≡ nested depth behind.now (members_view inner.now.items))
