-- The sources of an object that was read member by member.
use Rattle.std.proofs.Common.{◌≡◌, ℕ, ℤ, Bool, true, false, cond, ◌==◌, List, [], ◌∷◌, map, set, length, Option, Some, None, option_and_then, bytes_eq, refl, sym, ap, ◌∙◌}
use Rattle.std.proofs.lemmas.Bool.{and_parts}
use Rattle.std.proofs.lemmas.List.{length-map}
use Rattle.std.proofs.lemmas.List.Folds.{list_any_at}
use Rattle.std.proofs.lemmas.List.Quantifiers.{position-Some}
use Rattle.std.proofs.lemmas.Slice.Eq.{bytes_eq-Decides}
use Rattle.std.specs.Option.{option_map_or}
use Rattle.std.specs.List.{list_all, list_any, find, position, zip}
use Rattle.serde_json.specs.Data.{Data, Members, no_members, object, put}
use Rattle.serde_json.specs.Read.{read}
use Rattle.json_parts.specs.Parts.{list_text}
use Rattle.json_parts.specs.Members.{members_text}
use Rattle.plan_model.specs.declared.spec.SourceSpec.{SourceSpec}
use Rattle.plan_model.specs.PlanData.{PlanData, IsPlan}
use Rattle.stream_model.specs.declared.entry.Marked.{Marked}
use Rattle.input_texts.specs.declared.text.EntryText.{EntryText}
use Rattle.input_texts.specs.InputText.{entry_text, InputText, input_text}
use Rattle.input_texts.specs.Said.{marked_of, partitions_under}
use Rattle.input_texts.specs.Seen.{bound_under}
use Rattle.input_texts.specs.Requirements.{is_wide, is_whole, is_sized, is_timely, is_kind, every_entry, has_sources, has_partitions, has_width, has_numbers, has_rows, has_times, has_kinds}
use Rattle.stream_input.specs.Fit.{is_fit, is_own, own_entry, partitions_at, IsSlots, IsFit, IsRead}
use Rattle.stream_input.proofs.Refines.{list_refines, own_refines}
use Rattle.stream_input.proofs.Asked.{asked}
use Rattle.input_texts.proofs.Facts.{all_weaker, distinct_sources, each_member-put, find_any, found_at, list_all_map, list_all-put_pair, one_replaced, own_bounds, put_pair}

some_of : {A : Type 0} (test : A → Bool) (xs : List A) (place : ℕ) → position test xs ≡ Some place → A
some_of test [] place found = absurd (cc)
some_of test (x ∷ xs) place found = x

-- one more member
pub member_put : (plan : PlanData) (ms : Members) (slots : List (Option (List (List Marked)))) (k : List ℕ) (d : Data) (ps : List (List Marked)) (place : ℕ) → IsPlan plan → IsSlots plan ms slots
    → list_text (list_text (own_entry (bound_under plan k) plan.columns plan.window.time)) d ≡ Some ps → position (λ (s : SourceSpec). bytes_eq s.uid k) plan.sources ≡ Some place → IsSlots plan (put k d ms) (set slots place (Some ps))
member_put plan ms slots k d ps place sound i said found =
    let e = some_of (λ (s : SourceSpec). bytes_eq s.uid k) plan.sources place found in
    let columns = plan.columns in
    let time = plan.window.time in
    let build = λ (uid : List ℕ). marked_of (bound_under plan uid) columns time in
    let own = λ (uid : List ℕ). is_own (bound_under plan uid) columns time in
    let strict = own_entry (bound_under plan k) columns time in
    let one = list_refines strict entry_text (own k) (build k) (own_refines (bound_under plan k) columns time) in
    let texts = list_refines (list_text strict) (list_text entry_text) (list_all (own k)) (map (build k)) one d ps said in
    let at_place = position-Some (λ (s : SourceSpec). bytes_eq s.uid k) plan.sources place e found in
    let named : list_any (λ (s : SourceSpec). bytes_eq s.uid k) plan.sources ≡ true = list_any_at (λ (s : SourceSpec). bytes_eq s.uid k) plan.sources place e at_place.0 at_place.1 in
    record {
      text = put_pair k texts.0 i.text;
      says = each_member-put (list_text (list_text entry_text)) k d texts.0 ms i.text texts.1 i.says;
      planned = list_all-put_pair (λ m. list_any (λ (s : SourceSpec). bytes_eq s.uid m.0) plan.sources) k texts.0 i.text named i.planned;
      fit = list_all-put_pair (λ m. list_all (list_all (own m.0)) m.1) k texts.0 i.text texts.3 i.fit;
      filled = ap (λ xs. set xs place (Some ps)) i.filled ∙ ap (λ x. set (map (λ (s : SourceSpec). partitions_at plan i.text s.uid) plan.sources) place (Some x)) texts.2
          ∙ sym (one_replaced (λ (s : SourceSpec). s.uid) (λ uid. map (map (build uid))) k texts.0 i.text plan.sources place e at_place.0 at_place.1 (distinct_sources plan sound));
    }

pub no_members_yet : (plan : PlanData) (slots : List (Option (List (List Marked)))) → slots ≡ map (λ (s : SourceSpec). None) plan.sources → IsSlots plan no_members slots
no_members_yet plan slots are = record { text = []; says = refl; planned = refl; fit = refl; filled = are }

-- ---- where there is a member for each source

abbrev built : PlanData → InputText → SourceSpec → List (List Marked)
built plan text s = map (map (marked_of (bound_under plan s.uid) plan.columns plan.window.time)) (partitions_under s.uid text)

given : (plan : PlanData) (text : InputText) (specs : List SourceSpec) (sources : List (List (List Marked))) → map (λ s. partitions_at plan text s.uid) specs ≡ map Some sources
    → (sources ≡ map (built plan text) specs) × (list_all (λ s. list_any (λ m. bytes_eq m.0 s.uid) text) specs ≡ true)
given plan text [] [] are = (refl, refl)
given plan text [] (x ∷ xs) are = absurd (cc)
given plan text (s ∷ ss) [] are = absurd (cc)
given plan text (s ∷ ss) (x ∷ xs) are =
    let first : partitions_at plan text s.uid ≡ Some x = cc in
    let others : map (λ (o : SourceSpec). partitions_at plan text o.uid) ss ≡ map Some xs = cc in
    let found = found_at (λ (m : List ℕ × List (List EntryText)). m.1) (map (map (marked_of (bound_under plan s.uid) plan.columns plan.window.time))) (find (λ m. bytes_eq m.0 s.uid) text) x first in
    let more = given plan text ss xs others in
    let here = find_any (λ (m : List ℕ × List (List EntryText)). bytes_eq m.0 s.uid) text found.0 found.1 in
    (ap (λ y. y ∷ xs) found.2 ∙ ap (λ ys. built plan text s ∷ ys) more.0, rw (here, more.1) refl)

counts : (plan : PlanData) (text : InputText) (specs : List SourceSpec)
    → list_all (λ p. length p.0 == p.1.partitions) (zip (map (built plan text) specs) specs) ≡ list_all (λ s. length (partitions_under s.uid text) == s.partitions) specs
counts plan text [] = refl
counts plan text (s ∷ ss) = rw (length-map (partitions_under s.uid text) (map (marked_of (bound_under plan s.uid) plan.columns plan.window.time)), counts plan text ss) refl

-- what every entry of a member is, the entries under its name are
module _ (q : List ℕ → EntryText → Bool) where
  named_by : (b : Bool) (uid : List ℕ) (m : List ℕ × List (List EntryText)) (rest : Option (List ℕ × List (List EntryText))) → bytes_eq m.0 uid ≡ b → list_all (list_all (q m.0)) m.1 ≡ true
      → list_all (list_all (q uid)) (option_map_or (λ o. o.1) rest []) ≡ true → list_all (list_all (q uid)) (option_map_or (λ o. o.1) (cond b (Some m) rest) []) ≡ true
  named_by true uid m rest equal first others = ap (λ n. list_all (list_all (q n)) m.1) (sym ((bytes_eq-Decides m.0 uid).0 equal)) ∙ first
  named_by false uid m rest apart first others = others

  under_named : (uid : List ℕ) (text : InputText) → list_all (λ m. list_all (list_all (q m.0)) m.1) text ≡ true → list_all (list_all (q uid)) (partitions_under uid text) ≡ true
  under_named uid [] all = refl
  under_named uid (m ∷ ms) all =
      let parts = and_parts (list_all (list_all (q m.0)) m.1) (list_all (λ o. list_all (list_all (q o.0)) o.1) ms) all in
      named_by (bytes_eq m.0 uid) uid m (find (λ o. bytes_eq o.0 uid) ms) refl parts.0 (under_named uid ms parts.1)

module _ (plan : PlanData) (text : InputText) (fit : list_all (λ m. list_all (list_all (is_own (bound_under plan m.0) plan.columns plan.window.time)) m.1) text ≡ true) where
  abbrev own : List ℕ → EntryText → Bool
  own uid = is_own (bound_under plan uid) plan.columns plan.window.time

  every : (p : EntryText → Bool) → ((e : EntryText) → is_fit plan.columns plan.window.time e ≡ true → p e ≡ true) → every_entry p text ≡ true
  every p implies =
      all_weaker (λ m. list_all (list_all (own m.0)) m.1) (λ m. list_all (list_all p) m.1)
      (λ m. all_weaker (list_all (own m.0)) (list_all p) (all_weaker (own m.0) p (λ e h. implies e (and_parts (is_fit plan.columns plan.window.time e) (is_kind (bound_under plan m.0) e) h).0)) m.1) text fit

  abbrev kind : Option ℤ → SourceSpec → Bool
  kind bound s = list_all (list_all (is_kind bound)) (partitions_under s.uid text)

  kind_at : (s : SourceSpec) → kind (bound_under plan s.uid) s ≡ true
  kind_at s =
      let bound = bound_under plan s.uid in
      all_weaker (list_all (own s.uid)) (list_all (is_kind bound)) (all_weaker (own s.uid) (is_kind bound) (λ e h. (and_parts (is_fit plan.columns plan.window.time e) (is_kind bound e) h).1)) (partitions_under s.uid text)
      (under_named own s.uid text fit)

  each_kind : (ss : List SourceSpec) → list_all (λ s. kind (bound_under plan s.uid) s) ss ≡ true
  each_kind [] = refl
  each_kind (s ∷ ss) = rw (kind_at s, each_kind ss) refl

  kinds : IsPlan plan → has_kinds plan text ≡ true
  unfolding has_kinds
  kinds sound =
      sym (list_all_map (λ b. b) (λ (s : SourceSpec). kind s.bound s) plan.sources) ∙ ap (list_all (λ b. b)) (sym (own_bounds plan kind sound))
      ∙ list_all_map (λ b. b) (λ (s : SourceSpec). kind (bound_under plan s.uid) s) plan.sources ∙ each_kind plan.sources

pub all_fit : (plan : PlanData) (ms : Members) (slots : List (Option (List (List Marked)))) (sources : List (List (List Marked))) (bytes : List ℕ) → IsPlan plan → read bytes ≡ Some (object ms) → IsSlots plan ms slots
    → slots ≡ map Some sources → list_all (λ p. length p.0 == p.1.partitions) (zip sources plan.sources) ≡ true → IsRead plan (option_and_then input_text (read bytes)) sources
unfolding has_sources has_partitions has_width has_numbers has_rows has_times input_text members_text
all_fit plan ms slots sources bytes sound is i full counted =
    let text = i.text in
    let columns = plan.columns in
    let time = plan.window.time in
    let there = given plan text plan.sources sources (sym i.filled ∙ full) in
    let said = there.0 ∙ own_bounds plan (λ bound s. map (map (marked_of bound columns time)) (partitions_under s.uid text)) sound in
    let fit : IsFit plan text = record {
      named = rw (i.planned, there.1) refl;
      counted = sym (counts plan text plan.sources) ∙ ap (λ xs. list_all (λ p. length p.0 == p.1.partitions) (zip xs plan.sources)) (sym there.0) ∙ counted;
      wide = every plan text i.fit (is_wide columns) (λ e h. (asked columns time e h).wide);
      whole = every plan text i.fit is_whole (λ e h. (asked columns time e h).whole);
      sized = every plan text i.fit is_sized (λ e h. (asked columns time e h).sized);
      timely = every plan text i.fit (is_timely time) (λ e h. (asked columns time e h).timely);
      kinds = kinds plan text i.fit sound;
    } in
    (text, ap (option_and_then input_text) is ∙ i.says, (fit, said))
