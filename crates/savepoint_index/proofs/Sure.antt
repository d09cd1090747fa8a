-- Whatever is read of a spelling is what was spelled, also where a place passes what eight bytes hold: then nothing is
-- read.
use Rattle.std.proofs.Common.{◌≡◌, ℕ, ◌+◌, ◌*◌, Bool, true, false, List, [], ◌∷◌, ◌++◌, length, Option, Some, None, Result, Ok, refl, sym, ap, subst, ◌∙◌, append_assoc, arith, length-append}
use Rattle.std.specs.Prelude.{nat_lt, codes, ◌==◌}
use Rattle.std.specs.Option.{option_map}
use Rattle.std.specs.Int.{Width, w64, byte_len, from_be_bytes, to_be_bytes}
use Rattle.std.proofs.lemmas.Bool.{eqb-true, le-ltb}
use Rattle.std.proofs.lemmas.List.{take_at, drop_at}
use Rattle.byte_fields.specs.declared.fault.FieldFault.{FieldFault}
use Rattle.byte_fields.specs.declared.fault.FieldFault.TheVariants.{Order, Index}
use Rattle.byte_fields.specs.Format.{◌>>=◌, Format, number, where_it, before, seen_as, as_record, mark}
use Rattle.byte_fields.specs.Lists.{as_list, chain}
use Rattle.byte_fields.specs.Fields.{u16_field, u64_field}
use Rattle.byte_fields.proofs.Exact.{IsExact, IsWide, wide64, bind_ok, pass_ok, ok_is, u16_exact, u64_exact, where_exact}
use Rattle.aggregates.specs.declared.kind.Kind.{Kind}
use Rattle.savepoint_codec.specs.declared.savepoint.SavedGroup.{SavedGroup}
use Rattle.savepoint_codec.specs.declared.savepoint.Contents.{Contents}
use Rattle.savepoint_codec.specs.Fields.{group_number, group_after}
use Rattle.savepoint_codec.specs.Layout.{IsSavepoint, front_field, front_of, contents_of, parts_of}
use Rattle.savepoint_codec.proofs.Facts.{front_exact, group_number_exact, in_parts}
use Rattle.savepoint_index.specs.declared.head.GroupHead.{GroupHead}
use Rattle.savepoint_index.specs.Index.{place_after, head_field, lists_field, entry_length, first_place, indexed_field, heads_of, lists_of, indexed_groups}
use Rattle.savepoint_index.specs.Layout.{begin_of, indexed_fields, indexed_format}
use Rattle.savepoint_index.proofs.IndexExact.{lists_exact, groups_back}
use Rattle.savepoint_index.proofs.Fits.{GroupsFit, groups_fit, first_fits, all_wide, lists_fit}
use Rattle.savepoint_index.proofs.Marks.{has_mark, is_marked}

pub record IsSure {X : Type 0} (f : Format X) (x : X) : Type 0 where
  pub sure : (rest : List ℕ) (y : X × List ℕ) → f.read (f.spell x ++ rest) ≡ Ok y → y ≡ (x, rest)

exact_sure : {X : Type 0} (f : Format X) → IsExact f → (x : X) → f.fits x ≡ true → IsSure f x
exact_sure f exact x fits = record {
  sure = λ rest y e.
      sym (ok_is (x, rest) y (sym (exact.again x rest fits) ∙ e));
}

before_sure : {A B : Type 0} (f : Format A) (g : A → Format B) (a : A) (b : B) → IsSure f a → IsSure (g a) b → IsSure (before f g) (a, b)
before_sure {A} {B} f g a b first second = record {
  sure = λ rest y e.
      let behind = (g a).spell b ++ rest in
      let begun : (before f g).read (f.spell a ++ behind) ≡ Ok y = ap (before f g).read (sym (append_assoc (f.spell a) ((g a).spell b) rest)) ∙ e in
      let p = bind_ok (f.read (f.spell a ++ behind)) (λ x. (g x.0).read x.1 >>= λ z. Ok ((x.0, z.0), z.1)) y begun in
      let next : ((g a).read behind >>= λ z. Ok ((a, z.0), z.1)) ≡ Ok y = subst (λ (x : A × List ℕ). ((g x.0).read x.1 >>= λ z. Ok ((x.0, z.0), z.1)) ≡ Ok y) (first.sure behind p.0 p.1) p.2 in
      let q = bind_ok ((g a).read behind) (λ z. Ok ((a, z.0), z.1)) y next in
      sym (ok_is ((a, q.0.0), q.0.1) y q.2) ∙ ap (λ (z : B × List ℕ). ((a, z.0), z.1)) (second.sure rest q.0 q.1);
}

seen_sure : {X Y : Type 0} (to : X → Y) (from : Y → X) (fits : Y → Bool) (f : Format X) (y : Y) → to (from y) ≡ y → IsSure f (from y) → IsSure (seen_as to from fits f) y
seen_sure {X} {Y} to from fits f y back sure = record {
  sure = λ rest z e.
      let p = bind_ok (f.read (f.spell (from y) ++ rest)) (λ x. Ok (to x.0, x.1)) z e in
      sym (ok_is (to p.0.0, p.0.1) z p.2) ∙ ap (λ (x : X × List ℕ). (to x.0, x.1)) (sure.sure rest p.0 p.1) ∙ ap (λ (w : Y). (w, rest)) back;
}

list_sure : {X : Type 0} (f : Format (X × List X)) (x : X) (xs : List X) → IsSure f (x, xs) → IsSure (as_list f) (x ∷ xs)
list_sure {X} f x xs sure = record {
  sure = λ rest y e.
      let p = bind_ok (f.read (f.spell (x, xs) ++ rest)) (λ z. Ok (z.0.0 ∷ z.0.1, z.1)) y e in
      sym (ok_is (p.0.0.0 ∷ p.0.0.1, p.0.1) y p.2) ∙ ap (λ (z : (X × List X) × List ℕ). (z.0.0 ∷ z.0.1, z.1)) (sure.sure rest p.0 p.1);
}

-- what stands behind a number of eight bytes, whatever the number
number_read : (w : Width) → IsWide w → (k : ℕ) (rest : List ℕ) → (number w).read (to_be_bytes w k ++ rest) ≡ Ok (from_be_bytes w (to_be_bytes w k), rest)
number_read w wide k rest =
    let len = wide.len k in
    let long : nat_lt (length (to_be_bytes w k ++ rest)) (byte_len w) ≡ false = le-ltb _ _ (omega (arith, length-append (to_be_bytes w k) rest)) in
    rw (long, take_at (to_be_bytes w k) rest (byte_len w) len, drop_at (to_be_bytes w k) rest (byte_len w) len) refl

behind_number : (k : ℕ) (rest : List ℕ) (y : ℕ × List ℕ) → u64_field.read (u64_field.spell k ++ rest) ≡ Ok y → y.1 ≡ rest
unfolding u64_field
behind_number k rest y e = ap (λ (z : ℕ × List ℕ). z.1) (sym (ok_is (from_be_bytes w64 (to_be_bytes w64 k), rest) y (sym (number_read w64 wide64 k rest) ∙ e)))

place_sure : (k : ℕ) → IsSure (where_it (λ n. n == k) Index u64_field) k
place_sure k = record {
  sure = λ rest y e.
      let p = bind_ok (u64_field.read (u64_field.spell k ++ rest)) _ y e in
      let q = pass_ok (p.0.0 == k) Index p.0 y p.2 in
      sym q.1 ∙ ap (λ (n : ℕ). (n, p.0.1)) (eqb-true _ _ q.0) ∙ ap (λ (bytes : List ℕ). (k, bytes)) (behind_number k rest p.0 p.1);
}

-- ---- the index

head_sure : (max size first : ℕ) (over : Option GroupHead) (h : GroupHead) → (group_number max (option_map (λ x. x.group) over)).fits h.group ≡ true → (where_it (nat_lt 0) Order u64_field).fits h.count ≡ true
    → h.place ≡ place_after size first over → IsSure (head_field max size first over) h
unfolding head_field
head_sure max size first over h number count at =
    let group = group_number max (option_map (λ x. x.group) over) in
    let counted = where_it (nat_lt 0) Order u64_field in
    let place = where_it (λ n. n == place_after size first over) Index u64_field in
    let there : IsSure place h.place = subst (λ (k : ℕ). IsSure (where_it (λ n. n == k) Index u64_field) h.place) at (place_sure h.place) in
    seen_sure _ _ _ (before group (λ _. before counted (λ _. place))) h refl
    (before_sure group (λ _. before counted (λ _. place)) h.group (h.count, h.place) (exact_sure group (group_number_exact max (option_map (λ x. x.group) over)) h.group number)
    (before_sure counted (λ _. place) h.count h.place (exact_sure counted (where_exact (nat_lt 0) Order u64_field u64_exact) h.count count) there))

heads_sure : (max : ℕ) (kinds : List Kind) (size first : ℕ) (over : Option GroupHead) (last : Option SavedGroup) → option_map (λ h. h.group) over ≡ option_map (λ g. g.group) last → (place : ℕ) → place ≡ place_after size first over
    → (gs : List SavedGroup) → (chain (group_after max kinds) last (length gs)).fits gs ≡ true → IsSure (chain (head_field max size first) over (length gs)) (heads_of size place gs)
unfolding chain
heads_sure max kinds size first over last same place at [] chained = record { sure = λ rest y e. sym (ok_is ([], rest) y e) }
heads_sure max kinds size first over last same place at (g ∷ gs) chained =
    let f = first_fits max kinds last g gs chained in
    let next = place + size * length g.entries.entries in
    let head : GroupHead = record { group = g.group; count = length g.entries.entries; place = place } in
    let number = subst (λ (x : Option ℕ). (group_number max x).fits g.group ≡ true) (sym same) f.0.number in
    list_sure (before (head_field max size first over) (λ x. chain (head_field max size first) (Some x) (length gs))) head (heads_of size next gs)
    (before_sure (head_field max size first over) (λ x. chain (head_field max size first) (Some x) (length gs)) head (heads_of size next gs)
    (head_sure max size first over head number f.0.count at) (heads_sure max kinds size first (Some head) (Some g) refl next refl gs f.1))

groups_sure : (max : ℕ) (kinds : List Kind) (begin : ℕ) (gs : List SavedGroup) → GroupsFit max kinds gs → IsSure (indexed_groups max kinds begin) gs
unfolding indexed_groups indexed_field
groups_sure max kinds begin gs f =
    let size = entry_length kinds in
    let first = first_place begin (length gs) in
    let heads = heads_of size first gs in
    let lists = lists_of gs in
    let behind : ℕ → Format (List GroupHead × List (List _)) = λ n. before (chain (head_field max size (first_place begin n)) None n) (lists_field kinds) in
    seen_sure _ _ _ (before u16_field behind) gs (groups_back kinds size first gs (all_wide max kinds None gs f.chained))
    (before_sure u16_field behind (length gs) (heads, lists) (exact_sure u16_field u16_exact (length gs) f.few)
    (before_sure (chain (head_field max size first) None (length gs)) (lists_field kinds) heads lists (heads_sure max kinds size first None None refl first refl gs f.chained)
    (exact_sure (lists_field kinds heads) (lists_exact kinds heads) lists (lists_fit max kinds None size first gs f.chained))))

fields_sure : (s : Contents) → IsSavepoint s → IsSure indexed_fields (parts_of s)
unfolding indexed_fields
fields_sure s h =
    let parts = in_parts s h in
    before_sure front_field (λ front. indexed_groups front.max front.kinds (begin_of front)) (front_of s) s.groups (exact_sure front_field front_exact (front_of s) parts.0)
    (groups_sure s.max s.kinds (begin_of (front_of s)) s.groups (groups_fit s.max s.kinds s.groups parts.1))

pub indexed_sure : (s : Contents) → IsSavepoint s → IsSure indexed_format s
unfolding indexed_format
indexed_sure s h = record {
  sure = λ rest y e.
      let f = as_record contents_of parts_of indexed_fields in
      let bytes = codes "WSP2" ++ (f.spell s ++ rest) in
      let sure : IsSure f s = seen_sure contents_of parts_of _ indexed_fields s refl (fields_sure s h) in
      let begun : ((mark (codes "WSP2")).read bytes >>= λ m. f.read m.1) ≡ Ok y = ap (λ (xs : List ℕ). (mark (codes "WSP2")).read xs >>= λ m. f.read m.1) (sym (append_assoc (codes "WSP2") (f.spell s) rest)) ∙ e in
      let read : (mark (codes "WSP2")).read bytes ≡ Ok (codes "WSP2", f.spell s ++ rest) = has_mark bytes (is_marked (f.spell s ++ rest)) ∙ ap (λ (xs : List ℕ). Ok (codes "WSP2", xs)) (drop_at (codes "WSP2") (f.spell s ++ rest) 4 refl) in
      sure.sure rest y (sym (ap (λ (r : Result (List ℕ × List ℕ) FieldFault). r >>= λ m. f.read m.1) read) ∙ begun);
}
