-- The fields of a savepoint are read one after the other, and the index says where its entries begin.
use Rattle.std.proofs.Common.{◌≡◌, ℕ, ◌+◌, ◌-◌, List, length, Ok, Err, refl, ap, subst, arith, length-append}
use Rattle.std.specs.Prelude.{codes, bytes_eq}
use Rattle.byte_fields.specs.declared.fault.FieldFault.TheVariants.{Magic}
use Rattle.byte_fields.specs.declared.fault.ReadFault.{ReadFault}
use Rattle.byte_fields.specs.declared.fault.ReadFault.TheVariants.{Memory, Bytes}
use Rattle.byte_fields.specs.Format.{mark, raw}
use Rattle.byte_fields.specs.Reads.{Fails}
use Rattle.byte_fields.proofs.Exact.{IsBytes, where_exact, raw_exact}
use Rattle.savepoint_codec.specs.declared.savepoint.SavedGroup.{SavedGroup}
use Rattle.savepoint_codec.specs.declared.savepoint.Front.{Front}
use Rattle.savepoint_codec.specs.declared.savepoint.Contents.{Contents as ContentsValue}
use Rattle.savepoint_codec.specs.Layout.{contents_of, front_field}
use Rattle.savepoint_codec.proofs.Facts.{front_exact}
use Rattle.savepoint_index.specs.Index.{indexed_groups}
use Rattle.savepoint_index.specs.Layout.{begin_of, indexed_fields, indexed_format}

-- so many bytes stand before the key groups
pub record IsBegun (bytes rest behind : List ℕ) (front : Front) : Type 0 where
  pub marked : (mark (codes "WSP2")).read bytes ≡ Ok (codes "WSP2", rest)
  pub fronted : front_field.read rest ≡ Ok (front, behind)
  pub fits : IsBytes bytes

pub begun : (bytes rest behind : List ℕ) (front : Front) → IsBegun bytes rest behind front → length bytes ≡ begin_of front + length behind
begun bytes rest behind front h =
    let m = (where_exact (bytes_eq (codes "WSP2")) Magic (raw 4) (raw_exact 4)).takes bytes (codes "WSP2", rest) h.fits h.marked in
    let f = front_exact.takes rest (front, behind) m.rest_fits h.fronted in
    omega (arith, ap (length {A = ℕ}) m.parts, ap (length {A = ℕ}) f.parts, length-append (codes "WSP2") rest, length-append (front_field.spell front) behind)

begins_at : (bytes rest behind : List ℕ) (front : Front) → IsBegun bytes rest behind front → length bytes - length behind ≡ begin_of front
begins_at bytes rest behind front h = omega (arith, begun bytes rest behind front h)

pub contents_read : (bytes rest behind after : List ℕ) (front : Front) (gs : List SavedGroup) (made : ContentsValue) → IsBegun bytes rest behind front
    → (indexed_groups front.max front.kinds (length bytes - length behind)).read behind ≡ Ok (gs, after) → made ≡ contents_of (front, gs) → indexed_format.read bytes ≡ Ok (made, after)
unfolding indexed_format indexed_fields
contents_read bytes rest behind after front gs made h read is =
    let groups : (indexed_groups front.max front.kinds (begin_of front)).read behind ≡ Ok (gs, after) = subst (λ (n : ℕ). (indexed_groups front.max front.kinds n).read behind ≡ Ok (gs, after)) (begins_at bytes rest behind front h) read in
    rw (h.marked, h.fronted, groups, is) refl

pub contents_fail : (bytes rest behind : List ℕ) (front : Front) (fault : ReadFault) → IsBegun bytes rest behind front → Fails fault ((indexed_groups front.max front.kinds (length bytes - length behind)).read behind) → Fails fault (indexed_format.read bytes)
unfolding indexed_format indexed_fields
contents_fail bytes rest behind front Memory h failed = tt
contents_fail bytes rest behind front (Bytes fault) h failed =
    let groups : (indexed_groups front.max front.kinds (begin_of front)).read behind ≡ Err fault = subst (λ (n : ℕ). (indexed_groups front.max front.kinds n).read behind ≡ Err fault) (begins_at bytes rest behind front h) failed in
    rw (h.marked, h.fronted, groups) refl
