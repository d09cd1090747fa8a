-- Spellings that begin alike are those of the same: none is a proper front of another's.
use Rattle.std.proofs.Common.{◌≡◌, ℕ, ◌+◌, ◌*◌, true, false, List, [], ◌∷◌, ◌++◌, length, Option, Some, None, refl, sym, ap, subst, ◌∙◌, append_assoc, inl, inr}
use Rattle.std.specs.Prelude.{nat_lt, codes}
use Rattle.std.specs.List.{All, flat_map}
use Rattle.std.proofs.lemmas.List.{append-nil, append_cancel_left}
use Rattle.byte_fields.specs.declared.fault.FieldFault.TheVariants.{Order, Range}
use Rattle.byte_fields.specs.Format.{Format, where_it}
use Rattle.byte_fields.specs.Lists.{chain}
use Rattle.byte_fields.specs.Fields.{u16_field, u64_field}
use Rattle.byte_fields.proofs.Exact.{IsExact, both, ok_is, no_front, one_value, u16_exact, u64_exact}
use Rattle.aggregates.specs.declared.kind.Kind.{Kind}
use Rattle.savepoint_codec.specs.declared.savepoint.SavedGroup.{SavedGroup}
use Rattle.savepoint_codec.specs.declared.savepoint.Front.{Front}
use Rattle.savepoint_codec.specs.declared.savepoint.Contents.{Contents}
use Rattle.savepoint_codec.specs.EntriesData.{EntryData}
use Rattle.savepoint_codec.specs.Fields.{group_number, is_number_after, group_after}
use Rattle.savepoint_codec.specs.Layout.{IsSavepoint, front_field, front_of, contents_of, unindexed_bytes, unindexed_format}
use Rattle.savepoint_codec.specs.Writing.{AreOfKinds}
use Rattle.savepoint_codec.proofs.Facts.{front_exact, in_parts, short_contents, unindexed_exact}
use Rattle.savepoint_index.specs.declared.head.GroupHead.{GroupHead}
use Rattle.savepoint_index.specs.Index.{lists_field, entry_length, first_place, groups_of, heads_of, lists_of, indexed_groups}
use Rattle.savepoint_index.specs.Layout.{Spells, begin_of, has_index, indexed_fields, indexed_format, savepoint_bytes}
use Rattle.savepoint_index.specs.Writing.{head_bytes, group_bytes}
use Rattle.savepoint_index.proofs.IndexExact.{groups_back, lists_exact}
use Rattle.savepoint_index.proofs.Fits.{GroupsFit, all_wide, first_fits, groups_fit, lists_fit}
use Rattle.savepoint_index.proofs.Marks.{is_marked, is_unmarked}
use Rattle.savepoint_index.proofs.Spelled.{groups-spell, lists-spell}

-- values of an exact format whose spellings begin alike are the same, and so is what stands behind them
exact_apart : {X : Type 0} (f : Format X) → IsExact f → (a b : X) (x y : List ℕ) → f.fits a ≡ true → f.fits b ≡ true → f.spell a ++ x ≡ f.spell b ++ y → (a ≡ b) × (x ≡ y)
exact_apart {X} f exact a b x y p q e =
    let same = ok_is (a, x) (b, y) (sym (exact.again a x p) ∙ ap f.read e ∙ exact.again b y q) in
    (ap (λ (z : X × List ℕ). z.0) same, ap (λ (z : X × List ℕ). z.1) same)

pub short_number : (max : ℕ) (last : Option ℕ) (n : ℕ) → (group_number max last).fits n ≡ true → u16_field.fits n ≡ true
unfolding group_number
short_number max last n h = (both (u16_field.fits n) (nat_lt n max) (both ((where_it (λ n. nat_lt n max) Range u16_field).fits n) (is_number_after last n) h).0).0

pub long_count : (n : ℕ) → (where_it (nat_lt 0) Order u64_field).fits n ≡ true → u64_field.fits n ≡ true
long_count n h = (both (u64_field.fits n) (nat_lt 0 n) h).0

-- one after the other, each opened
opened : (a b d heads behind : List ℕ) → (((a ++ b) ++ d) ++ heads) ++ behind ≡ a ++ (b ++ (d ++ (heads ++ behind)))
opened a b d heads behind = append_assoc ((a ++ b) ++ d) heads behind ∙ append_assoc (a ++ b) d (heads ++ behind) ∙ append_assoc a b (d ++ (heads ++ behind))

heads_apart : (max : ℕ) (kinds : List Kind) (size place : ℕ) (last other : Option SavedGroup) (gs hs : List SavedGroup) (x y : List ℕ) → length gs ≡ length hs → (chain (group_after max kinds) last (length gs)).fits gs ≡ true
    → (chain (group_after max kinds) other (length hs)).fits hs ≡ true → flat_map head_bytes (heads_of size place gs) ++ x ≡ flat_map head_bytes (heads_of size place hs) ++ y → (heads_of size place gs ≡ heads_of size place hs) × (x ≡ y)
heads_apart max kinds size place last other [] [] x y same f f' e = (refl, e)
heads_apart max kinds size place last other [] (h ∷ hs) x y same f f' e = absurd cc
heads_apart max kinds size place last other (g ∷ gs) [] x y same f f' e = absurd cc
heads_apart max kinds size place last other (g ∷ gs) (h ∷ hs) x y same f f' e =
    let one = first_fits max kinds last g gs f in
    let two = first_fits max kinds other h hs f' in
    let m = length g.entries.entries in
    let n = length h.entries.entries in
    let at = u64_field.spell place in
    let rest = flat_map head_bytes (heads_of size (place + size * m) gs) in
    let rest' : ℕ → List ℕ = λ k. flat_map head_bytes (heads_of size (place + size * k) hs) in
    let begun = sym (opened (u16_field.spell g.group) (u64_field.spell m) at rest x) ∙ e ∙ opened (u16_field.spell h.group) (u64_field.spell n) at (rest' n) y in
    let groups = exact_apart u16_field u16_exact g.group h.group (u64_field.spell m ++ (at ++ (rest ++ x))) (u64_field.spell n ++ (at ++ (rest' n ++ y))) (short_number max _ g.group one.0.number) (short_number max _ h.group two.0.number) begun in
    let counts = exact_apart u64_field u64_exact m n (at ++ (rest ++ x)) (at ++ (rest' n ++ y)) (long_count m one.0.count) (long_count n two.0.count) groups.1 in
    let behind : rest ++ x ≡ rest' n ++ y = append_cancel_left at (rest ++ x) (rest' n ++ y) counts.1 in
    let like : rest ++ x ≡ rest' m ++ y = behind ∙ ap (λ (k : ℕ). rest' k ++ y) (sym counts.0) in
    let others = heads_apart max kinds size (place + size * m) (Some g) (Some h) gs hs x y (cc) one.1 two.1 like in
    let head : ℕ → ℕ → GroupHead = λ group count. record { group = group; count = count; place = place } in
    (ap (λ (hs : List GroupHead). head g.group m ∷ hs) others.0 ∙ ap (λ (k : ℕ). head g.group k ∷ heads_of size (place + size * k) hs) counts.0 ∙ ap (λ (k : ℕ). head k n ∷ heads_of size (place + size * n) hs) groups.0, others.1)

-- what key groups are spelled with, without the index's place before the entries
groups_apart : (max : ℕ) (kinds : List Kind) (begin : ℕ) (gs hs : List SavedGroup) (x y : List ℕ) → GroupsFit max kinds gs → GroupsFit max kinds hs → All (AreOfKinds kinds) gs → All (AreOfKinds kinds) hs
    → (indexed_groups max kinds begin).spell gs ++ x ≡ (indexed_groups max kinds begin).spell hs ++ y → (gs ≡ hs) × (x ≡ y)
groups_apart max kinds begin gs hs x y f f' of of' e =
    let size = entry_length kinds in
    let heads : ℕ → List SavedGroup → List GroupHead = λ n ks. heads_of size (first_place begin n) ks in
    let index : ℕ → List SavedGroup → List ℕ = λ n ks. flat_map head_bytes (heads n ks) in
    let lists : List SavedGroup → List ℕ = λ ks. flat_map group_bytes ks in
    let m = length gs in
    let n = length hs in
    let nested : (ks : List SavedGroup) (behind : List ℕ) → All (AreOfKinds kinds) ks → (indexed_groups max kinds begin).spell ks ++ behind ≡ u16_field.spell (length ks) ++ (index (length ks) ks ++ (lists ks ++ behind)) =
    λ ks behind all. ap (λ (bytes : List ℕ). bytes ++ behind) (groups-spell max kinds begin ks all) ∙ append_assoc (u16_field.spell (length ks)) (index (length ks) ks ++ lists ks) behind
    ∙ ap (λ (bytes : List ℕ). u16_field.spell (length ks) ++ bytes) (append_assoc (index (length ks) ks) (lists ks) behind) in
    let counts = exact_apart u16_field u16_exact m n (index m gs ++ (lists gs ++ x)) (index n hs ++ (lists hs ++ y)) f.few f'.few (sym (nested gs x of) ∙ e ∙ nested hs y of') in
    let indexed : index m gs ++ (lists gs ++ x) ≡ index m hs ++ (lists hs ++ y) = counts.1 ∙ ap (λ (k : ℕ). index k hs ++ (lists hs ++ y)) (sym counts.0) in
    let same = heads_apart max kinds size (first_place begin m) None None gs hs (lists gs ++ x) (lists hs ++ y) counts.0 f.chained f'.chained indexed in
    let field = lists_field kinds (heads m gs) in
    let spelled : field.spell (lists_of gs) ++ x ≡ field.spell (lists_of hs) ++ y =
    ap (λ (bytes : List ℕ). bytes ++ x) (lists-spell kinds size (first_place begin m) gs of) ∙ same.1 ∙ ap (λ (bytes : List ℕ). bytes ++ y) (sym (lists-spell kinds size (first_place begin m) hs of'))
    ∙ ap (λ (hs' : List GroupHead). (lists_field kinds hs').spell (lists_of hs) ++ y) (sym same.0) in
    let fits : field.fits (lists_of hs) ≡ true = subst (λ (hs' : List GroupHead). (lists_field kinds hs').fits (lists_of hs) ≡ true) (sym same.0) (lists_fit max kinds None size (first_place begin m) hs f'.chained) in
    let all = exact_apart field (lists_exact kinds (heads m gs)) (lists_of gs) (lists_of hs) x y (lists_fit max kinds None size (first_place begin m) gs f.chained) fits spelled in (
      sym (groups_back kinds size (first_place begin m) gs (all_wide max kinds None gs f.chained)) ∙ ap (λ (hs' : List GroupHead). groups_of kinds hs' (lists_of gs)) same.0
          ∙ ap (λ (ls : List (List EntryData)). groups_of kinds (heads m hs) ls) all.0 ∙ groups_back kinds size (first_place begin m) hs (all_wide max kinds None hs f'.chained),
      all.1,
    )

contents_apart : (a b : Contents) (x y : List ℕ) → IsSavepoint a → IsSavepoint b → savepoint_bytes a ++ x ≡ savepoint_bytes b ++ y → (a ≡ b) × (x ≡ y)
unfolding indexed_format indexed_fields
contents_apart a b x y p q e =
    let groups : Front → List SavedGroup → List ℕ = λ front gs. (indexed_groups front.max front.kinds (begin_of front)).spell gs in
    let nested : (s : Contents) (behind : List ℕ) → savepoint_bytes s ++ behind ≡ codes "WSP2" ++ (front_field.spell (front_of s) ++ (groups (front_of s) s.groups ++ behind)) =
    λ s behind. append_assoc (codes "WSP2") (front_field.spell (front_of s) ++ groups (front_of s) s.groups) behind ∙ ap (λ (bytes : List ℕ). codes "WSP2" ++ bytes) (append_assoc (front_field.spell (front_of s)) (groups (front_of s) s.groups) behind) in
    let fields = append_cancel_left (codes "WSP2") (front_field.spell (front_of a) ++ (groups (front_of a) a.groups ++ x)) (front_field.spell (front_of b) ++ (groups (front_of b) b.groups ++ y)) (sym (nested a x) ∙ e ∙ nested b y) in
    let fronts = exact_apart front_field front_exact (front_of a) (front_of b) (groups (front_of a) a.groups ++ x) (groups (front_of b) b.groups ++ y) (in_parts a p).0 (in_parts b q).0 fields in
    let back = sym fronts.0 in
    let behind : groups (front_of a) a.groups ++ x ≡ groups (front_of a) b.groups ++ y = fronts.1 ∙ ap (λ (front : Front). groups front b.groups ++ y) back in
    let fit : GroupsFit a.max a.kinds b.groups = subst (λ (front : Front). GroupsFit front.max front.kinds b.groups) back (groups_fit b.max b.kinds b.groups (in_parts b q).1) in
    let of : All (AreOfKinds a.kinds) b.groups = subst (λ (front : Front). All (AreOfKinds front.kinds) b.groups) back (short_contents b q).groups in
    let same = groups_apart a.max a.kinds (begin_of (front_of a)) a.groups b.groups x y (groups_fit a.max a.kinds a.groups (in_parts a p).1) fit (short_contents a p).groups of behind in
    (ap (λ (front : Front). contents_of (front, a.groups)) fronts.0 ∙ ap (λ (gs : List SavedGroup). contents_of (front_of b, gs)) same.0, same.1)

-- the layouts' marks differ
marks_differ : {A : Type 0} (a b : List ℕ) → codes "WSP2" ++ a ≡ codes "WSP1" ++ b → A
marks_differ a b e =
    let wrong : true ≡ false = sym (is_marked a) ∙ ap has_index e ∙ is_unmarked b in
    absurd cc

plain_begins : (s : Contents) → (behind : List ℕ) × (unindexed_bytes s ≡ codes "WSP1" ++ behind)
unfolding unindexed_format
plain_begins s = (_, refl)

indexed_begins : (s : Contents) → (behind : List ℕ) × (savepoint_bytes s ≡ codes "WSP2" ++ behind)
unfolding indexed_format
indexed_begins s = (_, refl)

never_alike : {A : Type 0} (a b : Contents) (x y : List ℕ) → savepoint_bytes a ++ x ≡ unindexed_bytes b ++ y → A
never_alike a b x y e =
    let one = indexed_begins a in
    let two = plain_begins b in
    marks_differ (one.0 ++ x) (two.0 ++ y)
    (sym (append_assoc (codes "WSP2") one.0 x) ∙ ap (λ (bytes : List ℕ). bytes ++ x) (sym one.1) ∙ e ∙ ap (λ (bytes : List ℕ). bytes ++ y) two.1 ∙ append_assoc (codes "WSP1") two.0 y)

pub no_prefix : (a b : Contents) (short long more : List ℕ) → IsSavepoint a → IsSavepoint b → Spells short a → Spells long b → short ++ more ≡ long → more ≡ []
no_prefix a b short long more p q (inl is) (inl next) e =
    (contents_apart a b more [] p q (ap (λ (bytes : List ℕ). bytes ++ more) (sym is) ∙ e ∙ next ∙ sym (append-nil (savepoint_bytes b)))).1
no_prefix a b short long more p q (inl is) (inr next) e = never_alike a b more [] (ap (λ (bytes : List ℕ). bytes ++ more) (sym is) ∙ e ∙ next ∙ sym (append-nil (unindexed_bytes b)))
no_prefix a b short long more p q (inr is) (inl next) e = never_alike b a [] more (append-nil (savepoint_bytes b) ∙ sym next ∙ sym e ∙ ap (λ (bytes : List ℕ). bytes ++ more) is)
no_prefix a b short long more p q (inr is) (inr next) e = no_front unindexed_format unindexed_exact a b more p q (ap (λ (bytes : List ℕ). bytes ++ more) (sym is) ∙ e ∙ next)

pub one_content : (a b : Contents) (bytes : List ℕ) → IsSavepoint a → IsSavepoint b → Spells bytes a → Spells bytes b → a ≡ b
one_content a b bytes p q (inl is) (inl same) = (contents_apart a b [] [] p q (ap (λ (xs : List ℕ). xs ++ []) (sym is ∙ same))).0
one_content a b bytes p q (inl is) (inr same) = never_alike a b [] [] (ap (λ (xs : List ℕ). xs ++ []) (sym is ∙ same))
one_content a b bytes p q (inr is) (inl same) = never_alike b a [] [] (ap (λ (xs : List ℕ). xs ++ []) (sym same ∙ is))
one_content a b bytes p q (inr is) (inr same) = one_value unindexed_format unindexed_exact a b p q (sym is ∙ same)
