-- The index of key groups, one after the other.
use Rattle.std.proofs.Common.{◌≡◌, ℕ, ◌+◌, ◌*◌, ◌<◌, List, [], ◌∷◌, ◌++◌, length, get_or, take, refl, sym, ap, ◌∙◌, append_assoc, subst, Option, Some, None, Result, Ok}
use Rattle.std.proofs.lemmas.List.{flat_map_more, take_more}
use Rattle.std.specs.Prelude.{IfSome, OnOk}
use Rattle.std.specs.Option.{ok_or}
use Rattle.std.specs.List.{All, flat_map}
use Rattle.byte_fields.specs.Fields.{u16_field}
use Rattle.aggregates.specs.declared.kind.Kind.{Kind}
use Rattle.savepoint_codec.specs.Writing.{AreOfKinds}
use Rattle.savepoint_codec.proofs.Facts.{puts}
use Rattle.savepoint_codec.specs.declared.savepoint.SavedGroup.{SavedGroup}
use Rattle.savepoint_index.specs.declared.head.GroupHead.{GroupHead}
use Rattle.savepoint_index.specs.Index.{heads_of, entry_length, first_place, indexed_groups}
use Rattle.savepoint_index.specs.Writing.{head_bytes, group_bytes}
use Rattle.savepoint_index.proofs.Spelled.{end_of, groups-spell}

-- a key group in the index, with its entries from a place on
abbrev pub head_at : ℕ → SavedGroup → GroupHead
head_at place g = record { group = g.group; count = length g.entries.entries; place = place }

heads_more : (size place : ℕ) (gs : List SavedGroup) (g : SavedGroup) → heads_of size place (gs ++ g ∷ []) ≡ heads_of size place gs ++ head_at (end_of size place gs) g ∷ []
heads_more size place [] g = refl
heads_more size place (x ∷ gs) g = ap (λ (hs : List GroupHead). head_at place x ∷ hs) (heads_more size (place + size * length x.entries.entries) gs g)

end_more : (size place : ℕ) (gs : List SavedGroup) (g : SavedGroup) → end_of size place (gs ++ g ∷ []) ≡ end_of size place gs + size * length g.entries.entries
end_more size place [] g = refl
end_more size place (x ∷ gs) g = end_more size (place + size * length x.entries.entries) gs g

-- behind the index of the key groups so far, one more is put
heads_step : (size first : ℕ) (gs : List SavedGroup) (i : ℕ) (d g : SavedGroup) (front old new : List ℕ) (place next : ℕ) → i < length gs → g ≡ get_or gs i d
    → (old ≡ front ++ flat_map head_bytes (heads_of size first (take i gs))) × (place ≡ end_of size first (take i gs)) → new ≡ old ++ head_bytes (head_at place g) → next ≡ place + size * length g.entries.entries
    → (new ≡ front ++ flat_map head_bytes (heads_of size first (take (i + 1) gs))) × (next ≡ end_of size first (take (i + 1) gs))
heads_step size first gs i d g front old new place next below here before put after =
    let so_far = take i gs in
    let more : take (i + 1) gs ≡ so_far ++ g ∷ [] = take_more gs i d below ∙ ap (λ (x : SavedGroup). so_far ++ x ∷ []) (sym here) in
    let heads = heads_of size first so_far in
    let at : head_at place g ≡ head_at (end_of size first so_far) g = ap (λ (p : ℕ). head_at p g) before.1 in (
      put ∙ ap (λ (bytes : List ℕ). bytes ++ head_bytes (head_at place g)) before.0 ∙ flat_map_more head_bytes front heads (head_at place g)
          ∙ ap (λ (h : GroupHead). front ++ flat_map head_bytes (heads ++ h ∷ [])) at ∙ ap (λ (hs : List GroupHead). front ++ flat_map head_bytes hs) (sym (heads_more size first so_far g)) ∙ ap (λ (xs : List SavedGroup). front ++ flat_map head_bytes (heads_of size first xs)) (sym more),
      after ∙ ap (λ (p : ℕ). p + size * length g.entries.entries) before.1 ∙ sym (end_more size first so_far g) ∙ ap (λ (xs : List SavedGroup). end_of size first xs) (sym more),
    )

pub ok_some : {E : Type 0} (o : Option ℕ) (e : E) (n : ℕ) (P : ℕ → Type 0) → ok_or o e ≡ Ok n → IfSome o P → P n
ok_some None e n P said h = absurd cc
ok_some {E} (Some m) e n P said h = (let same : m ≡ n = ok_is m n said in subst P same h)
  where
    ok_is : (x y : ℕ) → ◌≡◌ {A = Result ℕ E} (Ok x) (Ok y) → x ≡ y
    ok_is x y e = cc

pub heads_put : (size first : ℕ) (gs : List SavedGroup) (i : ℕ) (d g : SavedGroup) (front old new : List ℕ) (place next count : ℕ) → i < length gs → g ≡ get_or gs i d → count ≡ length g.entries.entries
    → (old ≡ front ++ flat_map head_bytes (heads_of size first (take i gs))) × (place ≡ end_of size first (take i gs)) → new ≡ old ++ head_bytes (record { group = g.group; count = count; place = place }) → next ≡ place + size * count
    → (new ≡ front ++ flat_map head_bytes (heads_of size first (take (i + 1) gs))) × (next ≡ end_of size first (take (i + 1) gs))
heads_put size first gs i d g front old new place next count below here counted before put after =
    heads_step size first gs i d g front old new place next below here before
    (put ∙ ap (λ (n : ℕ). old ++ head_bytes (record { group = g.group; count = n; place = place })) counted) (after ∙ ap (λ (n : ℕ). place + size * n) counted)

-- how many there are, the index and the entries are the spelling of the key groups
groups_put : {E : Type 0} (r : Result (Unit {0}) E) (max : ℕ) (kinds : List Kind) (gs : List SavedGroup) (old counted indexed roomy new : List ℕ) (count size first : ℕ) → All (AreOfKinds kinds) gs
    → count ≡ length gs → size ≡ entry_length kinds → first ≡ first_place (length old) (length gs) → counted ≡ old ++ u16_field.spell count → indexed ≡ counted ++ flat_map head_bytes (heads_of size first gs) → roomy ≡ indexed
    → OnOk r (new ≡ roomy ++ flat_map group_bytes gs) → OnOk r (new ≡ old ++ (indexed_groups max kinds (length old)).spell gs)
groups_put r max kinds gs old counted indexed roomy new count size first all many wide begin put_count put_index same put_lists =
    let heads = flat_map head_bytes (heads_of (entry_length kinds) (first_place (length old) (length gs)) gs) in
    let lists = flat_map group_bytes gs in
    let number = u16_field.spell (length gs) in
    let at_heads : flat_map head_bytes (heads_of size first gs) ≡ heads = ap (λ (n : ℕ). flat_map head_bytes (heads_of n first gs)) wide ∙ ap (λ (n : ℕ). flat_map head_bytes (heads_of (entry_length kinds) n gs)) begin in
    let mid : roomy ≡ old ++ (number ++ heads) =
    same ∙ put_index ∙ ap (λ (xs : List ℕ). xs ++ flat_map head_bytes (heads_of size first gs)) (put_count ∙ ap (λ (n : ℕ). old ++ u16_field.spell n) many)
    ∙ ap (λ (xs : List ℕ). (old ++ number) ++ xs) at_heads ∙ append_assoc old number heads in
    puts r old roomy new (number ++ heads) lists ((indexed_groups max kinds (length old)).spell gs) mid (groups-spell max kinds (length old) gs all ∙ sym (append_assoc number heads lists)) put_lists

pub same_put : {E : Type 0} (r : Result (Unit {0}) E) (max : ℕ) (kinds : List Kind) (gs xs : List SavedGroup) (old counted indexed roomy new : List ℕ) (count size first : ℕ) → All (AreOfKinds kinds) gs → xs ≡ gs
    → count ≡ length xs → size ≡ entry_length kinds → first ≡ first_place (length old) (length xs) → counted ≡ old ++ u16_field.spell count → indexed ≡ counted ++ flat_map head_bytes (heads_of size first xs) → roomy ≡ indexed
    → OnOk r (new ≡ roomy ++ flat_map group_bytes xs) → OnOk r (new ≡ old ++ (indexed_groups max kinds (length old)).spell gs)
same_put r max kinds gs xs old counted indexed roomy new count size first all is many wide begin put_count put_index same put_lists =
    subst (λ (ys : List SavedGroup). OnOk r (new ≡ old ++ (indexed_groups max kinds (length old)).spell ys)) is
    (groups_put r max kinds xs old counted indexed roomy new count size first (subst (All (AreOfKinds kinds)) (sym is) all) many wide begin put_count put_index same put_lists)
