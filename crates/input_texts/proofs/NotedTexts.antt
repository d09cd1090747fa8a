-- The text that the members of a document say, where each is of its form, and what is seen of its sources.
use Rattle.std.proofs.Common.{◌≡◌, ℕ, ℤ, ◌+◌, ◌==◌, length, Bool, true, false, not, ◌&&◌, ◌||◌, cond, List, [], ◌∷◌, map, Option, Some, None, option_map, option_and_then, is_some, bytes_eq, nat_cmp, Ordering, Less, Equal, Greater, is_eq, is_lt, Err, refl, sym, ap, ◌∙◌, arith}
use Rattle.std.proofs.lemmas.Bool.{and_parts, or_parts, not-true, not-false}
use Rattle.std.proofs.lemmas.Bool.Decides.{nat_tests}
use Rattle.std.proofs.lemmas.Map.Text.{is_eq-slice_cmp}
use Rattle.std.proofs.lemmas.Slice.Eq.{bytes_eq-Decides}
use Rattle.std.specs.Cmp.Lexicographic.{slice_cmp, nat_list_eq_equiv}
use Rattle.std.specs.FinMap.Entries as entries
use Rattle.std.specs.Prelude.{IsTrue, String, string_bytes, ◌↔◌}
use Rattle.std.specs.List.{list_all, list_any, find}
use Rattle.std.specs.Option.{option_map_or}
use Rattle.std.specs.Ordering.{match_ordering}
use Rattle.serde_json.specs.Data.{Data, object, Members, no_members, member}
use Rattle.serde_json.specs.Find.{as_object, get_member}
use Rattle.json_parts.specs.Members.{each_member, members_text}
use Rattle.json_parts.specs.Parts.{list_text, names_of}
use Rattle.plan_model.specs.declared.spec.SourceSpec.{SourceSpec}
use Rattle.plan_model.specs.PlanData.{PlanData}
use Rattle.input_texts.specs.Answer.{input_or_fault}
use Rattle.input_texts.specs.declared.fault.InputFault.TheVariants.{Source}
use Rattle.input_texts.specs.declared.text.EntryText.{EntryText}
use Rattle.input_texts.specs.InputText.{entry_text, InputText, input_text}
use Rattle.input_texts.specs.Requirements.{requirements, has_sources}
use Rattle.input_texts.specs.Said.{partitions_under}
use Rattle.input_texts.specs.Document.{Document, pairs, names_in, is_source, is_other, is_other_slot, IsNoted, AreSeen}
use Rattle.input_texts.specs.Seen.{SourceSeen, bound_under, source_seen, slot_of}
use Rattle.input_texts.proofs.Sources.{found_at}
use Rattle.input_texts.proofs.Pairs.{same_some, under}
use Rattle.json_tokens.proofs.Facts.{equal_from}

-- places of what stands behind i others
abbrev form : Data → Option (List (List EntryText))
form = list_text (list_text entry_text)

-- ---- a text of another form

pub no_document : (d : Data) → as_object d ≡ None → input_text d ≡ None
unfolding input_text members_text
no_document d none = rw none refl

no_more : {X : Type 0} (l : List ℕ) (x : Option X) (o : Option (List (List ℕ × X))) → o ≡ None → option_and_then (λ y. option_and_then (λ rest. Some ((l, y) ∷ rest)) o) x ≡ None
no_more l None o h = refl
no_more l (Some y) o h = ap (option_and_then (λ rest. Some ((l, y) ∷ rest))) h

none_by : (o : Ordering) (k : List ℕ) (d : Data) (l : List ℕ) (e : Data) (ms : Members) → form d ≡ None → match_ordering o (get_member k ms) (Some e) (get_member k ms) ≡ Some d
    → (get_member k ms ≡ Some d → each_member form ms ≡ None) → each_member form (member l e ms) ≡ None
none_by Less k d l e ms none h later = no_more l (form e) (each_member form ms) (later h)
none_by Equal k d l e ms none h later = let here : form e ≡ None = ap form (same_some e d h) ∙ none in rw here refl
none_by Greater k d l e ms none h later = no_more l (form e) (each_member form ms) (later h)

none_each : (k : List ℕ) (d : Data) (ms : Members) → form d ≡ None → get_member k ms ≡ Some d → each_member form ms ≡ None
none_each k d no_members none h = absurd (cc)
none_each k d (member l e ms) none h = none_by (slice_cmp nat_cmp k l) k d l e ms none h (none_each k d ms none)

-- a member whose value has another form
abbrev HasOther : Members → Type 0
HasOther ms = (k : List ℕ) × (d : Data) × (get_member k ms ≡ Some d) × (form d ≡ None)

no_text : (ms : Members) → HasOther ms → input_text (object ms) ≡ None
unfolding input_text members_text
no_text ms other = none_each other.0 other.1 ms other.3 other.2

no_form : (bound : Option ℤ) (plan : PlanData) (o : Option (List (List EntryText))) → is_some (option_map (source_seen bound plan.columns plan.window.time) o) ≡ false → o ≡ None
no_form bound plan None h = refl
no_form bound plan (Some ps) h = absurd (cc)

slot_other : (plan : PlanData) (ms : Members) (k : List ℕ) (o : Option Data) → get_member k ms ≡ o → is_other_slot (option_map (slot_of plan k) o) ≡ true → HasOther ms
slot_other plan ms k None got h = absurd (cc)
slot_other plan ms k (Some d) got h = (k, d, got, no_form (bound_under plan k) plan (form d) (not-true (is_some (slot_of plan k d)) h))

either_by : (a b : Bool) {P : Type 0} → (a || b) ≡ true → (a ≡ true → P) → (b ≡ true → P) → P
either_by true b h f g = f refl
either_by false b h f g = g h

slots_other : (plan : PlanData) (ms : Members) (ss : List SourceSpec) → list_any is_other_slot (map (λ s. option_map (slot_of plan s.uid) (get_member s.uid ms)) ss) ≡ true → HasOther ms
slots_other plan ms [] h = absurd (cc)
slots_other plan ms (s ∷ ss) h =
    either_by (is_other_slot (option_map (slot_of plan s.uid) (get_member s.uid ms))) (list_any is_other_slot (map (λ o. option_map (slot_of plan o.uid) (get_member o.uid ms)) ss)) h
    (slot_other plan ms s.uid (get_member s.uid ms) refl) (slots_other plan ms ss)

got_other : (plan : PlanData) (ms : Members) (k : List ℕ) (o : Option Data) → get_member k ms ≡ o → option_map_or (λ d. not (is_some (slot_of plan k d))) o false ≡ true → HasOther ms
got_other plan ms k None got h = absurd (cc)
got_other plan ms k (Some d) got h = (k, d, got, no_form (bound_under plan k) plan (form d) (not-true (is_some (slot_of plan k d)) h))

same_bytes : (k : List ℕ) → bytes_eq k k ≡ true
same_bytes k = (bytes_eq-Decides k k).1 refl

abbrev is_empty : {X : Type 0} → List X → Bool
is_empty [] = true
is_empty (x ∷ xs) = false

names_other : (plan : PlanData) (ms : Members) (names : List (List ℕ)) → ((k : List ℕ) → list_any (bytes_eq k) names ≡ true → is_other plan ms k ≡ true) → is_empty names ≡ false → HasOther ms
names_other plan ms [] named h = absurd (cc)
names_other plan ms (k ∷ ks) named h =
    let here : (bytes_eq k k || list_any (bytes_eq k) ks) ≡ true = ap (λ b. b || list_any (bytes_eq k) ks) (same_bytes k) in
    got_other plan ms k (get_member k ms) refl (and_parts (not (is_source plan k)) (option_map_or (λ d. not (is_some (slot_of plan k d))) (get_member k ms) false) (named k here)).1

no_items : {X : Type 0} (xs : List X) → (length xs == 0) ≡ is_empty xs
no_items [] = refl
no_items (x ∷ xs) = grind (arith, nat_tests)

pub empty_is : {A : Type 0} (keys : List (String A)) (r : Bool) → IsTrue r ↔ (length keys ≡ 0) → r ≡ (length (map (λ s. string_bytes s) keys) == 0)
empty_is [] r h = h.1 refl
empty_is (x ∷ xs) true h = absurd (omega (arith, h.0 refl))
empty_is (x ∷ xs) false h = sym (no_items (string_bytes x ∷ map (λ s. string_bytes s) xs))

pub other_text : (plan : PlanData) (most : ℕ) (ms : Members) (document : Document) (a b : Bool) → IsNoted plan most ms document → a ≡ list_any is_other_slot document.slots.items → b ≡ (length (names_in document.names) == 0) → (a || not b) ≡ true
    → input_text (object ms) ≡ None
other_text plan most ms document a b i slots names h =
    no_text ms (either_by a (not b) h
    (λ any. slots_other plan ms plan.sources (ap (list_any is_other_slot) (sym i.filled) ∙ sym slots ∙ any))
    (λ any. names_other plan ms (names_in document.names) i.named (sym (no_items (names_in document.names)) ∙ sym names ∙ not-true b any)))

-- ---- a text of the form

-- what the members say
pub data Said : Members → InputText → Type 0 where
  none_said : Said no_members []
  one_said : {l : List ℕ} {e : Data} {ms : Members} {y : List (List EntryText)} {ps : InputText} → form e ≡ Some y → Said ms ps → Said (member l e ms) ((l, y) ∷ ps)

each_said : {ms : Members} {text : InputText} → Said ms text → each_member form ms ≡ Some text
each_said none_said = refl
each_said (one_said first others) = rw (first, each_said others) refl

pub says_text : (ms : Members) (text : InputText) → Said ms text → input_text (object ms) ≡ Some text
unfolding input_text members_text
says_text ms text said = each_said said

below_by : (o : Ordering) (e : Data) (x : Option Data) → is_lt o ≡ true → x ≡ None → match_ordering o x (Some e) x ≡ None
below_by Less e x h none = none
below_by Equal e x h none = absurd (cc)
below_by Greater e x h none = absurd (cc)

below_none : (l : List ℕ) (ms : Members) → entries.below_all (slice_cmp nat_cmp) l (pairs ms) ≡ true → get_member l ms ≡ None
below_none l no_members h = refl
below_none l (member m e ms) h =
    let parts = and_parts (is_lt (slice_cmp nat_cmp l m)) (entries.below_all (slice_cmp nat_cmp) l (pairs ms)) h in
    below_by (slice_cmp nat_cmp l m) e (get_member l ms) parts.0 (below_none l ms parts.1)

own : (l : List ℕ) (e : Data) (ms : Members) → get_member l (member l e ms) ≡ Some e
own l e ms = let same : slice_cmp nat_cmp l l ≡ Equal = equal_from (slice_cmp nat_cmp l l) (is_eq-slice_cmp l l ∙ same_bytes l) in rw same refl

deeper : (o : Ordering) (k l : List ℕ) (d e : Data) (ms : Members) → slice_cmp nat_cmp k l ≡ o → get_member k ms ≡ Some d → get_member l ms ≡ None → match_ordering o (get_member k ms) (Some e) (get_member k ms) ≡ Some d
deeper Less k l d e ms order got none = got
deeper Equal k l d e ms order got none =
    let same : k ≡ l = (bytes_eq-Decides k l).0 (sym (is_eq-slice_cmp k l) ∙ ap is_eq order) in
    absurd (let here : get_member l ms ≡ Some d = ap (λ n. get_member n ms) (sym same) ∙ got in cc)
deeper Greater k l d e ms order got none = got

some_of : {X : Type 0} (o : Option X) → is_some o ≡ true → (x : X) × (o ≡ Some x)
some_of None h = absurd (cc)
some_of (Some x) h = (x, refl)

all_said : (ms : Members) → entries.is_sorted (slice_cmp nat_cmp) (pairs ms) ≡ true → ((k : List ℕ) (d : Data) → get_member k ms ≡ Some d → is_some (form d) ≡ true) → (text : InputText) × Said ms text
all_said no_members sorted each = ([], none_said)
all_said (member l e ms) sorted each =
    let parts = and_parts (entries.below_all (slice_cmp nat_cmp) l (pairs ms)) (entries.is_sorted (slice_cmp nat_cmp) (pairs ms)) sorted in
    let first = some_of (form e) (each l e (own l e ms)) in
    let others = all_said ms parts.1 (λ k d got. each k d (deeper (slice_cmp nat_cmp k l) k l d e ms refl got (below_none l ms parts.0))) in
    ((l, first.0) ∷ others.0, one_said first.1 others.1)

mapped_some : {A B : Type 0} (f : A → B) (o : Option A) → is_some (option_map f o) ≡ is_some o
mapped_some f None = refl
mapped_some f (Some a) = refl

source_by : (plan : PlanData) (ms : Members) (k : List ℕ) (d : Data) (b : Bool) (s : SourceSpec) → bytes_eq s.uid k ≡ b → get_member k ms ≡ Some d → is_other_slot (option_map (slot_of plan s.uid) (get_member s.uid ms)) ≡ false
    → (b ≡ false → is_some (slot_of plan k d) ≡ true) → is_some (slot_of plan k d) ≡ true
source_by plan ms k d true s equal got h later =
    let same : s.uid ≡ k = (bytes_eq-Decides s.uid k).0 equal in
    let here : option_map (slot_of plan s.uid) (get_member s.uid ms) ≡ Some (slot_of plan k d) = ap (λ n. option_map (slot_of plan n) (get_member n ms)) same ∙ ap (option_map (slot_of plan k)) got in
    not-false (is_some (slot_of plan k d)) (ap is_other_slot (sym here) ∙ h)
source_by plan ms k d false s apart got h later = later refl

source_form : (plan : PlanData) (ms : Members) (k : List ℕ) (d : Data) (ss : List SourceSpec) → list_any (λ s. bytes_eq s.uid k) ss ≡ true → list_any is_other_slot (map (λ s. option_map (slot_of plan s.uid) (get_member s.uid ms)) ss) ≡ false
    → get_member k ms ≡ Some d → is_some (slot_of plan k d) ≡ true
source_form plan ms k d [] known h got = absurd (cc)
source_form plan ms k d (s ∷ ss) known h got =
    let parts = or_parts (is_other_slot (option_map (slot_of plan s.uid) (get_member s.uid ms))) (list_any is_other_slot (map (λ o. option_map (slot_of plan o.uid) (get_member o.uid ms)) ss)) h in
    source_by plan ms k d (bytes_eq s.uid k) s refl got parts.0
    (λ apart. source_form plan ms k d ss (sym (ap (λ b. b || list_any (λ o. bytes_eq o.uid k) ss) apart) ∙ known) parts.1 got)

other_form : (plan : PlanData) (ms : Members) (k : List ℕ) (d : Data) (b : Bool) → is_some (slot_of plan k d) ≡ b → is_source plan k ≡ false → get_member k ms ≡ Some d → (is_other plan ms k ≡ true → ⊥) → b ≡ true
other_form plan ms k d true form unknown got never = refl
other_form plan ms k d false form unknown got never =
    absurd (never (rw (unknown, got, form) refl))

empty_names : (names : List (List ℕ)) (k : List ℕ) → is_empty names ≡ true → list_any (bytes_eq k) names ≡ true → ⊥
empty_names [] k h any = cc
empty_names (n ∷ ns) k h any = cc

formed_by : (plan : PlanData) (most : ℕ) (ms : Members) (document : Document) (k : List ℕ) (d : Data) (b : Bool) → IsNoted plan most ms document → list_any is_other_slot document.slots.items ≡ false → is_empty (names_in document.names) ≡ true
    → document.are_more ≡ false → is_source plan k ≡ b → get_member k ms ≡ Some d → is_some (slot_of plan k d) ≡ true
formed_by plan most ms document k d true i slots names all known got = source_form plan ms k d plan.sources known (ap (list_any is_other_slot) (sym i.filled) ∙ slots) got
formed_by plan most ms document k d false i slots names all unknown got =
    other_form plan ms k d (is_some (slot_of plan k d)) refl unknown got (λ other. empty_names (names_in document.names) k names (i.told all k other))

pub text_noted : (plan : PlanData) (most : ℕ) (ms : Members) (document : Document) (a b : Bool) → IsNoted plan most ms document → a ≡ list_any is_other_slot document.slots.items → b ≡ (length (names_in document.names) == 0) → (a || not b) ≡ false
    → document.are_more ≡ false → (text : InputText) × Said ms text
text_noted plan most ms document a b i slots names h all =
    let parts = or_parts a (not b) h in
    let empty : is_empty (names_in document.names) ≡ true = sym (no_items (names_in document.names)) ∙ sym names ∙ not-false b parts.1 in
    all_said ms i.ordered (λ k d got. sym (mapped_some (source_seen (bound_under plan k) plan.columns plan.window.time) (form d))
    ∙ formed_by plan most ms document k d (is_source plan k) i (sym slots ∙ parts.0) empty all refl got)

-- ---- what is seen of the sources of that text

below_said : {ms : Members} {text : InputText} (l : List ℕ) → Said ms text → entries.below_all (slice_cmp nat_cmp) l (pairs ms) ≡ entries.below_all (slice_cmp nat_cmp) l text
below_said l none_said = refl
below_said l (one_said {l = m} first others) = ap (λ b. is_lt (slice_cmp nat_cmp l m) && b) (below_said l others)

sorted_said : {ms : Members} {text : InputText} → Said ms text → entries.is_sorted (slice_cmp nat_cmp) (pairs ms) ≡ entries.is_sorted (slice_cmp nat_cmp) text
sorted_said none_said = refl
sorted_said (one_said {l = l} first others) = λ o. below_said l others o && sorted_said others o

named_said : {ms : Members} {text : InputText} (test : List ℕ → Bool) → Said ms text → list_all test (names_of ms) ≡ list_all (λ m. test m.0) text
named_said test none_said = refl
named_said test (one_said {l = l} first others) = ap (λ b. test l && b) (named_said test others)

found_by : (o : Ordering) (b : Bool) (l : List ℕ) (e : Data) (y : List (List EntryText)) (g : Option Data) (p : Option (List ℕ × List (List EntryText))) → is_eq o ≡ b → form e ≡ Some y
    → option_map form g ≡ option_map Some (option_map (λ m. m.1) p) → option_map form (match_ordering o g (Some e) g) ≡ option_map Some (option_map (λ m. m.1) (cond b (Some (l, y)) p))
found_by Less true l e y g p order first others = absurd (cc)
found_by Less false l e y g p order first others = others
found_by Equal true l e y g p order first others = ap Some first
found_by Equal false l e y g p order first others = absurd (cc)
found_by Greater true l e y g p order first others = absurd (cc)
found_by Greater false l e y g p order first others = others

found_said : {ms : Members} {text : InputText} (uid : List ℕ) → Said ms text → option_map form (get_member uid ms) ≡ option_map Some (under uid text)
found_said uid none_said = refl
found_said uid (one_said {l = l} {e = e} {ms = ms} {y = y} {ps = ps} first others) =
    found_by (slice_cmp nat_cmp uid l) (bytes_eq l uid) l e y (get_member uid ms) (find (λ m. bytes_eq m.0 uid) ps) (is_eq-slice_cmp uid l ∙ nat_list_eq_equiv.symm uid l) first (found_said uid others)

seen_once : (plan : PlanData) (uid : List ℕ) (o : Option Data) → option_map (slot_of plan uid) o ≡ option_map (option_map (source_seen (bound_under plan uid) plan.columns plan.window.time)) (option_map form o)
seen_once plan uid None = refl
seen_once plan uid (Some d) = refl

seen_twice : (plan : PlanData) (bound : Option ℤ) (o : Option (List (List EntryText))) → option_map (option_map (source_seen bound plan.columns plan.window.time)) (option_map Some o) ≡ option_map (λ ps. Some (source_seen bound plan.columns plan.window.time ps)) o
seen_twice plan bound None = refl
seen_twice plan bound (Some ps) = refl

-- what the place of a source has, by the text
abbrev slot_in : PlanData → InputText → SourceSpec → Option (Option SourceSeen)
slot_in plan text s = option_map (λ ps. Some (source_seen (bound_under plan s.uid) plan.columns plan.window.time ps)) (under s.uid text)

slot_said : (plan : PlanData) (ms : Members) (text : InputText) (uid : List ℕ) → Said ms text → option_map (slot_of plan uid) (get_member uid ms) ≡ option_map (λ ps. Some (source_seen (bound_under plan uid) plan.columns plan.window.time ps)) (under uid text)
slot_said plan ms text uid said =
    seen_once plan uid (get_member uid ms) ∙ ap (option_map (option_map (source_seen (bound_under plan uid) plan.columns plan.window.time))) (found_said uid said) ∙ seen_twice plan (bound_under plan uid) (under uid text)

slots_said : (plan : PlanData) (ms : Members) (text : InputText) (ss : List SourceSpec) → Said ms text → map (λ s. option_map (slot_of plan s.uid) (get_member s.uid ms)) ss ≡ map (slot_in plan text) ss
slots_said plan ms text [] said = refl
slots_said plan ms text (s ∷ ss) said = λ o. slot_said plan ms text s.uid said o ∷ slots_said plan ms text ss said o

given_by : {Y : Type 0} (f : List (List EntryText) → Y) (b : Bool) (p : List ℕ × List (List EntryText)) (o : Option (List ℕ × List (List EntryText))) (any : Bool)
    → is_some (option_map f (option_map (λ m. m.1) o)) ≡ any → is_some (option_map f (option_map (λ m. m.1) (cond b (Some p) o))) ≡ (b || any)
given_by f true p o any h = refl
given_by f false p o any h = h

is_given : {Y : Type 0} (f : List (List EntryText) → Y) (text : InputText) (uid : List ℕ) → is_some (option_map f (under uid text)) ≡ list_any (λ m. bytes_eq m.0 uid) text
is_given f [] uid = refl
is_given f (m ∷ ms) uid = given_by f (bytes_eq m.0 uid) m (find (λ o. bytes_eq o.0 uid) ms) (list_any (λ o. bytes_eq o.0 uid) ms) (is_given f ms uid)

all_given : (plan : PlanData) (text : InputText) (ss : List SourceSpec) → list_all is_some (map (slot_in plan text) ss) ≡ list_all (λ s. list_any (λ m. bytes_eq m.0 s.uid) text) ss
all_given plan text [] = refl
all_given plan text (s ∷ ss) = λ o. is_given (λ ps. Some (source_seen (bound_under plan s.uid) plan.columns plan.window.time ps)) text s.uid o && all_given plan text ss o

named_as : (plan : PlanData) (most : ℕ) (ms : Members) (document : Document) (text : InputText) → IsNoted plan most ms document → Said ms text → has_sources plan text ≡ (document.is_planned && list_all is_some document.slots.items)
unfolding has_sources
named_as plan most ms document text i said =
    sym ((λ o. (i.planned ∙ named_said (is_source plan) said) o && list_all is_some ((i.filled ∙ slots_said plan ms text plan.sources said) o))
    ∙ ap (λ b. list_all (λ m. is_source plan m.0) text && b) (all_given plan text plan.sources))

pub source_fault : (plan : PlanData) (most : ℕ) (ms : Members) (document : Document) (text : InputText) → IsNoted plan most ms document → Said ms text → (document.is_planned && list_all is_some document.slots.items) ≡ false
    → input_or_fault plan text ≡ Err Source
unfolding requirements
source_fault plan most ms document text i said h = rw (named_as plan most ms document text i said, h) refl

seen_given : (plan : PlanData) (text : InputText) (ss : List SourceSpec) (found : List SourceSeen) → map (slot_in plan text) ss ≡ map (λ (x : SourceSeen). Some (Some x)) found
    → found ≡ map (λ s. source_seen (bound_under plan s.uid) plan.columns plan.window.time (partitions_under s.uid text)) ss
seen_given plan text [] [] are = refl
seen_given plan text [] (x ∷ xs) are = absurd (cc)
seen_given plan text (s ∷ ss) [] are = absurd (cc)
seen_given plan text (s ∷ ss) (x ∷ xs) are =
    let first : slot_in plan text s ≡ Some (Some x) = cc in
    let others : map (slot_in plan text) ss ≡ map (λ (y : SourceSeen). Some (Some y)) xs = cc in
    let here = found_at (λ (m : List ℕ × List (List EntryText)). m.1) (λ ps. Some (source_seen (bound_under plan s.uid) plan.columns plan.window.time ps)) (find (λ m. bytes_eq m.0 s.uid) text) (Some x) first in
    let same : x ≡ source_seen (bound_under plan s.uid) plan.columns plan.window.time (partitions_under s.uid text) = same_some x (source_seen (bound_under plan s.uid) plan.columns plan.window.time (partitions_under s.uid text)) here.2 in
    λ o. same o ∷ seen_given plan text ss xs others o

pub are_seen : (plan : PlanData) (most : ℕ) (ms : Members) (document : Document) (text : InputText) (found : List SourceSeen) → IsNoted plan most ms document → Said ms text
    → (document.is_planned && list_all is_some document.slots.items) ≡ true → document.slots.items ≡ map (λ (x : SourceSeen). Some (Some x)) found → AreSeen plan text found
are_seen plan most ms document text found i said named slots = record {
  ordered = sym (sorted_said said) ∙ i.ordered;
  named = named_as plan most ms document text i said ∙ named;
  seen = seen_given plan text plan.sources found (sym (i.filled ∙ slots_said plan ms text plan.sources said) ∙ slots);
}
