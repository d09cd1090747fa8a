-- The entries of a key group stand where the index says.
use Rattle.std.proofs.Common.{◌≡◌, ℕ, suc, zero, ◌+◌, ◌*◌, ◌^◌, ◌<◌, ◌≤◌, Bool, true, false, List, [], ◌∷◌, ◌++◌, length, drop, Option, Some, None, Result, Ok, Err, refl, sym, ap, subst, ◌∙◌, append_assoc, arith, length-append}
use Rattle.std.specs.Prelude.{codes, ◌==◌, if◌then◌else◌}
use Rattle.std.specs.List.{All, flat_map}
use Rattle.std.proofs.lemmas.Bool.{eqb-true}
use Rattle.std.proofs.lemmas.List.{drop_at}
use Rattle.std.proofs.lemmas.List.Elements.{All-head, All-tail}
use Rattle.std.proofs.lemmas.Option.{same_Some}
use Rattle.byte_fields.specs.declared.fault.FieldFault.{FieldFault}
use Rattle.byte_fields.specs.declared.fault.ReadFault.{ReadFault}
use Rattle.byte_fields.specs.declared.fault.ReadFault.TheVariants.{Memory, Bytes}
use Rattle.byte_fields.specs.Format.{before, mark}
use Rattle.byte_fields.specs.Lists.{chain}
use Rattle.byte_fields.specs.Fields.{u16_field, u64_field}
use Rattle.byte_fields.specs.Reads.{Fails, Gives}
use Rattle.byte_fields.proofs.Exact.{IsExact, both, and_true, ok_is, before_exact, chain_exact, chain-spell, record_exact, u16_exact, u64_exact, all_units, u16-length}
use Rattle.aggregates.specs.declared.kind.Kind.{Kind}
use Rattle.savepoint_codec.specs.declared.savepoint.SavedGroup.{SavedGroup}
use Rattle.savepoint_codec.specs.declared.savepoint.Front.{Front}
use Rattle.savepoint_codec.specs.declared.savepoint.Contents.{Contents}
use Rattle.savepoint_codec.specs.EntriesData.{EntryData, EntriesData}
use Rattle.savepoint_codec.specs.Fields.{entry_after, group_after}
use Rattle.savepoint_codec.specs.Layout.{IsSavepoint, front_field, front_of}
use Rattle.savepoint_codec.specs.Reading.{entries_read}
use Rattle.savepoint_codec.specs.Writing.{AreOfKinds}
use Rattle.savepoint_codec.proofs.Facts.{front_exact, in_parts, short_contents}
use Rattle.savepoint_index.specs.declared.head.GroupHead.{GroupHead}
use Rattle.savepoint_index.specs.Index.{head_field, entry_length, first_place, heads_of, indexed_groups}
use Rattle.savepoint_index.specs.Layout.{begin_of, indexed_fields, indexed_format, savepoint_bytes}
use Rattle.savepoint_index.specs.Reading.{any_head, value_read}
use Rattle.savepoint_index.specs.Writing.{head_bytes, group_bytes}
use Rattle.savepoint_index.specs.Answer.{GivesEntries, entries_in, head_of_group}
use Rattle.savepoint_index.proofs.Fits.{bytes-length, first_fits, groups_fit, heads_fit}
use Rattle.savepoint_index.proofs.IndexExact.{HeadFits, entries_exact, head_fits}
use Rattle.savepoint_index.proofs.Marks.{has_mark, is_marked}
use Rattle.savepoint_index.proofs.Apart.{long_count, short_number}
use Rattle.savepoint_index.proofs.Spelled.{end_of, entries-spell, group-length, groups-spell, heads-length, index-length}

-- ---- one key group among others

-- where the index has a key group, its entries are read
pub record IsLocated (kinds : List Kind) (group : ℕ) (gs : List SavedGroup) (bytes : List ℕ) (head : GroupHead) : Type 0 where
  pub entries : List EntryData
  pub rest : List ℕ
  pub within : head.place ≤ length bytes
  pub read : (chain (entry_after kinds) None head.count).read (drop head.place bytes) ≡ Ok (entries, rest)
  pub is : entries_in (length kinds) group gs ≡ record { width = length kinds; entries = entries }

here : (max : ℕ) (kinds : List Kind) (last : Option SavedGroup) (group : ℕ) (g : SavedGroup) (gs : List SavedGroup) (front : List ℕ) → (chain (group_after max kinds) last (length (g ∷ gs))).fits (g ∷ gs) ≡ true → AreOfKinds kinds g → (g.group == group) ≡ true
    → IsLocated kinds group (g ∷ gs) (front ++ flat_map group_bytes (g ∷ gs)) (record { group = g.group; count = length g.entries.entries; place = length front })
here max kinds last group g gs front chained of same =
    let es = g.entries.entries in
    let fits = (first_fits max kinds last g gs chained).0 in
    let behind = flat_map group_bytes gs in
    let dropped : drop (length front) (front ++ (group_bytes g ++ behind)) ≡ group_bytes g ++ behind = drop_at front (group_bytes g ++ behind) (length front) refl in
    let spelled : group_bytes g ++ behind ≡ (chain (entry_after kinds) None (length es)).spell es ++ behind = ap (λ (bytes : List ℕ). bytes ++ behind) (sym (entries-spell kinds es of)) in
    let read = (entries_exact kinds (length es)).again es behind fits.entries in
    let wide : g.entries.width ≡ length kinds = eqb-true _ _ fits.wide in
    record {
      entries = es;
      rest = behind;
      within = omega (arith, length-append front (group_bytes g ++ behind));
      read = ap (chain (entry_after kinds) None (length es)).read (dropped ∙ spelled) ∙ read;
      is = rw same (ap (λ (w : ℕ). record { width = w; entries = es }) wide);
    }

there : (kinds : List Kind) (group : ℕ) (g : SavedGroup) (gs : List SavedGroup) (front : List ℕ) (head : GroupHead) → (g.group == group) ≡ false → IsLocated kinds group gs ((front ++ group_bytes g) ++ flat_map group_bytes gs) head
    → IsLocated kinds group (g ∷ gs) (front ++ flat_map group_bytes (g ∷ gs)) head
there kinds group g gs front head other found =
    let behind = flat_map group_bytes gs in
    let bytes = append_assoc front (group_bytes g) behind in
    record {
      entries = found.entries;
      rest = found.rest;
      within = subst (λ (xs : List ℕ). head.place ≤ length xs) bytes found.within;
      read = subst (λ (xs : List ℕ). (chain (entry_after kinds) None head.count).read (drop head.place xs) ≡ Ok (found.entries, found.rest)) bytes found.read;
      is = rw other found.is;
    }

pub located : (max : ℕ) (kinds : List Kind) (last : Option SavedGroup) (group place : ℕ) (gs : List SavedGroup) (front : List ℕ) (head : GroupHead) → length front ≡ place → (chain (group_after max kinds) last (length gs)).fits gs ≡ true
    → All (AreOfKinds kinds) gs → head_of_group group (heads_of (entry_length kinds) place gs) ≡ Some head → IsLocated kinds group gs (front ++ flat_map group_bytes gs) head
located max kinds last group place [] front head long chained all found = absurd cc
located max kinds last group place (g ∷ gs) front head long chained all found =
    let size = entry_length kinds in
    let of = All-head (AreOfKinds kinds) g gs all in
    let next = place + size * length g.entries.entries in
    let at : GroupHead = record { group = g.group; count = length g.entries.entries; place = place } in
    let longer : length (front ++ group_bytes g) ≡ next = omega (arith, long, length-append front (group_bytes g), group-length kinds g of) in
    let others = located max kinds (Some g) group next gs (front ++ group_bytes g) head longer (first_fits max kinds last g gs chained).1 (All-tail (AreOfKinds kinds) g gs all) in
    by_test (g.group == group) refl (heads_of size next gs) found others
  where
    by_test : (test : Bool) → (g.group == group) ≡ test → (hs : List GroupHead) → head_of_group group (record { group = g.group; count = length g.entries.entries; place = place } ∷ hs) ≡ Some head
        → (head_of_group group hs ≡ Some head → IsLocated kinds group gs ((front ++ group_bytes g) ++ flat_map group_bytes gs) head) → IsLocated kinds group (g ∷ gs) (front ++ flat_map group_bytes (g ∷ gs)) head
    by_test true same hs found others =
        let at : ℕ → GroupHead = λ p. record { group = g.group; count = length g.entries.entries; place = p } in
        let is : at place ≡ head = same_Some (at place) head (rw same at found) in
        let begun = here max kinds last group g gs front chained (All-head (AreOfKinds kinds) g gs all) same in
        subst (IsLocated kinds group (g ∷ gs) (front ++ flat_map group_bytes (g ∷ gs))) (ap at long ∙ is) begun
    by_test false other hs found others = there kinds group g gs front head other (others (rw other at found))

pub not_there : (width group size place : ℕ) (gs : List SavedGroup) → head_of_group group (heads_of size place gs) ≡ None → entries_in width group gs ≡ record { width = width; entries = [] }
not_there width group size place [] none = refl
not_there width group size place (g ∷ gs) none = by_test (g.group == group) (heads_of size (place + size * length g.entries.entries) gs) none (not_there width group size (place + size * length g.entries.entries) gs)
  where
    by_test : (test : Bool) (hs : List GroupHead) → ◌≡◌ {A = Option GroupHead} (if test then Some (record { group = g.group; count = length g.entries.entries; place = place }) else head_of_group group hs) None
        → (head_of_group group hs ≡ None → entries_in width group gs ≡ record { width = width; entries = [] }) → ◌≡◌ {A = EntriesData} (if test then g.entries else entries_in width group gs) (record { width = width; entries = [] })
    by_test true hs none others = absurd cc
    by_test false hs none others = others none

-- ---- the bytes of a savepoint, opened

any_exact : IsExact any_head
unfolding any_head
any_exact = record_exact _ _ (before u16_field (λ _. before u64_field (λ _. u64_field))) (before_exact u16_field (λ _. before u64_field (λ _. u64_field)) u16_exact (λ _. before_exact u64_field (λ _. u64_field) u64_exact (λ _. u64_exact))) (λ x h. refl) (λ h. refl)

any-spell : (h : GroupHead) → any_head.spell h ≡ head_bytes h
unfolding any_head
any-spell h = sym (append_assoc (u16_field.spell h.group) (u64_field.spell h.count) (u64_field.spell h.place))

any_fits : (max size first : ℕ) (over : Option GroupHead) (h : GroupHead) → HeadFits max size first over h → any_head.fits h ≡ true
unfolding any_head
any_fits max size first over h f = and_true _ _ (short_number max _ h.group f.group) (and_true _ _ (long_count h.count f.count) f.wide)

any_chain : (max size first : ℕ) (over last : Option GroupHead) (n : ℕ) (hs : List GroupHead) → (chain (head_field max size first) over n).fits hs ≡ true → (chain (λ _. any_head) last n).fits hs ≡ true
unfolding chain
any_chain max size first over last zero hs h = h
any_chain max size first over last (suc n) [] h = absurd cc
any_chain max size first over last (suc n) (x ∷ hs) h =
    let parts = both ((head_field max size first over).fits x) ((chain (head_field max size first) (Some x) n).fits hs) h in
    and_true _ _ (any_fits max size first over x (head_fits max size first over x parts.0)) (any_chain max size first (Some x) (Some x) n hs parts.1)

-- what stands in the bytes of a savepoint
abbrev pub fronted : Contents → List ℕ
fronted s = front_field.spell (front_of s)

abbrev pub grouped : Contents → List ℕ
grouped s = (indexed_groups s.max s.kinds (begin_of (front_of s))).spell s.groups

abbrev pub the_first : Contents → ℕ
the_first s = first_place (begin_of (front_of s)) (length s.groups)

abbrev pub the_heads : Contents → List GroupHead
the_heads s = heads_of (entry_length s.kinds) (the_first s) s.groups

abbrev pub indexed : Contents → List ℕ
indexed s = flat_map head_bytes (the_heads s)

abbrev pub listed : Contents → List ℕ
listed s = flat_map group_bytes s.groups

opened : (s : Contents) → savepoint_bytes s ≡ codes "WSP2" ++ (fronted s ++ grouped s)
unfolding indexed_format indexed_fields
opened s = refl

counted : (s : Contents) → IsSavepoint s → grouped s ≡ u16_field.spell (length s.groups) ++ (indexed s ++ listed s)
counted s h = groups-spell s.max s.kinds (begin_of (front_of s)) s.groups (short_contents s h).groups

pub mark_read : (s : Contents) (bytes : List ℕ) → bytes ≡ savepoint_bytes s → (mark (codes "WSP2")).read bytes ≡ Ok (codes "WSP2", fronted s ++ grouped s)
mark_read s bytes is =
    let behind = fronted s ++ grouped s in
    let same : bytes ≡ codes "WSP2" ++ behind = is ∙ opened s in
    ap (mark (codes "WSP2")).read same ∙ has_mark (codes "WSP2" ++ behind) (is_marked behind) ∙ ap (λ (xs : List ℕ). Ok (codes "WSP2", xs)) (drop_at (codes "WSP2") behind 4 refl)

pub front_read : (s : Contents) → IsSavepoint s → front_field.read (fronted s ++ grouped s) ≡ Ok (front_of s, grouped s)
front_read s h = front_exact.again (front_of s) (grouped s) (in_parts s h).0

pub count_read : (s : Contents) → IsSavepoint s → u16_field.read (grouped s) ≡ Ok (length s.groups, indexed s ++ listed s)
count_read s h = ap u16_field.read (counted s h) ∙ u16_exact.again (length s.groups) (indexed s ++ listed s) (groups_fit s.max s.kinds s.groups (in_parts s h).1).few

pub heads_read : (s : Contents) → IsSavepoint s → length (savepoint_bytes s) < 2 ^ 64 → (chain (λ _. any_head) None (length s.groups)).read (indexed s ++ listed s) ≡ Ok (the_heads s, listed s)
heads_read s h short =
    let size = entry_length s.kinds in
    let n = length s.groups in
    let item = chain {X = GroupHead} (λ _. any_head) None n in
    let chained = (groups_fit s.max s.kinds s.groups (in_parts s h).1).chained in
    let below : end_of size (the_first s) s.groups < 2 ^ 64 = omega (arith, bytes-length s h, short) in
    let heads = heads_fit s.max s.kinds size (the_first s) None None refl (the_first s) refl s.groups below chained in
    let fits = any_chain s.max size (the_first s) None None n (the_heads s) heads in
    let spelled : item.spell (the_heads s) ≡ indexed s = chain-spell (λ _. any_head) head_bytes (λ _. Unit {0}) (λ last x _. any-spell x) None n (the_heads s) (heads-length size (the_first s) s.groups) (all_units (the_heads s)) in
    ap (λ (bytes : List ℕ). item.read (bytes ++ listed s)) (sym spelled) ∙ (chain_exact (λ _. any_head) (λ _. any_exact) None n).again (the_heads s) (listed s) fits

-- where the index has a key group
pub found : (s : Contents) (group : ℕ) (head : GroupHead) → IsSavepoint s → head_of_group group (the_heads s) ≡ Some head → IsLocated s.kinds group s.groups (savepoint_bytes s) head
found s group head h at =
    let number = u16_field.spell (length s.groups) in
    let front = codes "WSP2" ++ (fronted s ++ (number ++ indexed s)) in
    let all = (short_contents s h).groups in
    let inner : grouped s ≡ (number ++ indexed s) ++ listed s = counted s h ∙ sym (append_assoc number (indexed s) (listed s)) in
    let bytes : savepoint_bytes s ≡ front ++ listed s =
    opened s ∙ ap (λ (xs : List ℕ). codes "WSP2" ++ (fronted s ++ xs)) inner ∙ ap (λ (xs : List ℕ). codes "WSP2" ++ xs) (sym (append_assoc (fronted s) (number ++ indexed s) (listed s)))
    ∙ sym (append_assoc (codes "WSP2") (fronted s ++ (number ++ indexed s)) (listed s)) in
    let long : length front ≡ the_first s =
    omega (arith, length-append (codes "WSP2") (fronted s ++ (number ++ indexed s)), length-append (fronted s) (number ++ indexed s), length-append number (indexed s), u16-length (length s.groups), index-length (the_heads s), heads-length (entry_length s.kinds) (the_first s) s.groups) in
    subst (λ (xs : List ℕ). IsLocated s.kinds group s.groups xs head) (sym bytes) (located s.max s.kinds None group (the_first s) s.groups front head long (groups_fit s.max s.kinds s.groups (in_parts s h).1).chained all at)

-- ---- what the reader answers

pub cannot : {X A : Type 0} (read : Result X FieldFault) (x : X) (fault : FieldFault) → read ≡ Ok x → read ≡ Err fault → A
cannot {X} read x fault is h =
    let wrong : ◌≡◌ {A = Result X FieldFault} (Ok x) (Err fault) = sym is ∙ h in
    absurd cc

pub fails_memory : {X : Type 0} (fault : ReadFault) (read : Result X FieldFault) (x : X) → read ≡ Ok x → Fails fault read → fault ≡ Memory
fails_memory Memory read x is h = refl
fails_memory (Bytes fault) read x is h = cannot read x fault is h

pub front_way : (s : Contents) (bytes rest : List ℕ) → IsSavepoint s → bytes ≡ savepoint_bytes s → (mark (codes "WSP2")).read bytes ≡ Ok (codes "WSP2", rest) → front_field.read rest ≡ Ok (front_of s, grouped s)
front_way s bytes rest h is marked =
    let same = ok_is (codes "WSP2", rest) (codes "WSP2", fronted s ++ grouped s) (sym marked ∙ mark_read s bytes is) in
    ap (λ (y : List ℕ × List ℕ). front_field.read y.1) same ∙ front_read s h

pub count_way : (s : Contents) (bytes rest behind : List ℕ) (front : Front) → IsSavepoint s → bytes ≡ savepoint_bytes s → (mark (codes "WSP2")).read bytes ≡ Ok (codes "WSP2", rest) → front_field.read rest ≡ Ok (front, behind)
    → (front ≡ front_of s) × (u16_field.read behind ≡ Ok (length s.groups, indexed s ++ listed s))
count_way s bytes rest behind front h is marked read =
    let same = ok_is (front, behind) (front_of s, grouped s) (sym read ∙ front_way s bytes rest h is marked) in
    (ap (λ (y : Front × List ℕ). y.0) same, ap (λ (y : Front × List ℕ). u16_field.read y.1) same ∙ count_read s h)

pub heads_way : (s : Contents) (bytes rest behind after : List ℕ) (front : Front) (n : ℕ) → IsSavepoint s → bytes ≡ savepoint_bytes s → length bytes < 2 ^ 64 → (mark (codes "WSP2")).read bytes ≡ Ok (codes "WSP2", rest)
    → front_field.read rest ≡ Ok (front, behind) → u16_field.read behind ≡ Ok (n, after) → (chain (λ _. any_head) None n).read after ≡ Ok (the_heads s, listed s)
heads_way s bytes rest behind after front n h is short marked read count =
    let same = ok_is (n, after) (length s.groups, indexed s ++ listed s) (sym count ∙ (count_way s bytes rest behind front h is marked read).1) in
    ap (λ (y : ℕ × List ℕ). (chain {X = GroupHead} (λ _. any_head) None y.0).read y.1) same ∙ heads_read s h (subst (λ (xs : List ℕ). length xs < 2 ^ 64) is short)

gives_read : (r : Result EntriesData ReadFault) (said : Result EntriesData FieldFault) (entries : EntriesData) → said ≡ Ok entries → Gives (λ e. e) r said → GivesEntries Memory r entries
gives_read (Ok e) said entries is h = sym (ok_is entries e (sym is ∙ h))
gives_read (Err fault) said entries is h = fails_memory fault said entries is h

pub gives_located : (r : Result EntriesData ReadFault) (kinds : List Kind) (group : ℕ) (gs : List SavedGroup) (bytes : List ℕ) (head : GroupHead) → IsLocated kinds group gs bytes head
    → (head.place ≤ length bytes → Gives (λ e. e) r (value_read (entries_read kinds ((chain (entry_after kinds) None head.count).read (drop head.place bytes))))) → GivesEntries Memory r (entries_in (length kinds) group gs)
gives_located r kinds group gs bytes head at h =
    let said = value_read (entries_read kinds ((chain (entry_after kinds) None head.count).read (drop head.place bytes))) in
    gives_read r said (entries_in (length kinds) group gs) (ap (λ (x : Result (List EntryData × List ℕ) FieldFault). value_read (entries_read kinds x)) at.read ∙ ap (λ (e : EntriesData). Ok e) (sym at.is)) (h at.within)
