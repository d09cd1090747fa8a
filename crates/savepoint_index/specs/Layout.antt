-- The layout of a savepoint's bytes with an index.
use Rattle.std.specs.Prelude.{◌≡◌, ◌⊎◌, ℕ, ◌+◌, Bool, bytes_eq, List, length, take, codes}
use Rattle.byte_fields.specs.Format.{Format, before, as_record, marked}
use Rattle.savepoint_codec.specs.declared.savepoint.Front.{Front}
use Rattle.savepoint_codec.specs.declared.savepoint.Contents.{Contents}
use Rattle.savepoint_codec.specs.Layout.{Parts, contents_of, parts_of, front_field, unindexed_bytes}
use Rattle.savepoint_index.specs.Index.{indexed_groups}

-- how many bytes stand before the key groups: the four of the mark, and those of the fields
abbrev pub begin_of : Front → ℕ
begin_of front = 4 + length (front_field.spell front)

unfoldable pub indexed_fields : Format Parts
indexed_fields = before front_field (λ front. indexed_groups front.max front.kinds (begin_of front))

unfoldable pub indexed_format : Format Contents
indexed_format = marked (codes "WSP2") (as_record contents_of parts_of indexed_fields)

-- the spelling of a savepoint that is written
abbrev pub savepoint_bytes : Contents → List ℕ
savepoint_bytes s = indexed_format.spell s

-- bytes begin as those of a savepoint with an index
unfoldable pub has_index : List ℕ → Bool
has_index bytes = bytes_eq (codes "WSP2") (take 4 bytes)

-- bytes are the spelling of a savepoint in one of the layouts
abbrev pub Spells : List ℕ → Contents → Type 0
Spells bytes s = (bytes ≡ savepoint_bytes s) ⊎ (bytes ≡ unindexed_bytes s)
