-- A receipt as a JSON value: what is written of it, and that it is read back.
use Rattle.std.proofs.Common.{◌≡◌, ◌<◌, ◌≤◌, ◌^◌, ◌++◌, ℕ, true, false, List, [], ◌∷◌, codes, decimal, Option, Some, None, option_map, option_and_then, refl, sym, ap, ◌∙◌, append_assoc, append-nil, arith}
use Rattle.std.specs.Prelude.{IfSome}
use Rattle.std.specs.List.{list_all}
use Rattle.json.specs.Tree as tree
use Rattle.plan_model.specs.declared.spec.SourceSpec.{SourceSpec}
use Rattle.serde_json.specs.Data.{unsigned, Data, number, string, object, Members, no_members, member, put}
use Rattle.serde_json.specs.Read.{of_json, of_members, max_depth}
use Rattle.serde_json.specs.Written.{outline, members_outline, members_text, compact_text}
use Rattle.serde_json.proofs.Numbers.{number_of-decimal}
use Rattle.json_parts.specs.Parts.{has_only, text_at}
use Rattle.receipts.specs.declared.digests.Counted.{Counted}
use Rattle.receipts.specs.declared.receipt.Receipt.{Receipt}
use Rattle.receipts.specs.ReceiptText.{count_members, counted_text, head_text, label, names_member, next_label, quoted, read_members, sources_text}
use Rattle.receipts.specs.Said.{count_at, counted_at, counted_if_there, counted_said, receipt_said, sources_at, sources_said}
use Rattle.receipts.specs.ReadBack.{IsCounted, is_plain}
use Rattle.receipts.proofs.Plains.{IsPlain, ArePlainMembers, member_text, string_text}
use Rattle.receipts.proofs.Values.{counted_data, counted_plain, counted_read, counted_back, counted_spelled}

-- a member with others behind it
abbrev more : List ℕ → List ℕ → List ℕ → List ℕ
more name value rest = 44 ∷ ((34 ∷ (name ++ 34 ∷ [])) ++ 58 ∷ (value ++ rest))

-- the text of a receipt, by the texts of its parts
abbrev whole : List ℕ → List ℕ → List ℕ → List ℕ → List ℕ → List ℕ
whole version legs plan sources rest = 123 ∷ ((34 ∷ (codes "version" ++ 34 ∷ [])) ++ 58 ∷ ((34 ∷ (version ++ 34 ∷ [])) ++ more (codes "legs") legs (more (codes "plan") plan (more (codes "sources") sources rest))))

abbrev counts : List ℕ → List ℕ → List ℕ
counts records rows = more (codes "records") records (more (codes "rows") rows (125 ∷ []))

-- the value
abbrev pub count_data : Receipt → Members
count_data r = member (codes "records") (number (unsigned r.records)) (member (codes "rows") (counted_data r.rows) no_members)

abbrev pub rest_data : Receipt → Option Counted → Members
rest_data r None = count_data r
rest_data r (Some names) = member (codes "names") (counted_data names) (count_data r)

abbrev pub receipt_data : List ℕ → Receipt → Members → Option Counted → Data
receipt_data version r sources names =
    object (member (codes "version") (string version) (member (codes "legs") (number (unsigned r.legs)) (member (codes "plan") (counted_data r.plan) (member (codes "sources") (object sources) (rest_data r names)))))

-- ---- its text

spelled_unnamed : (kv kl kp ks km kw v l p s m w : List ℕ) → (codes "{" ++ (label kv ++ (quoted v ++ (next_label kl ++ l)))) ++ (((next_label kp ++ p) ++ (next_label ks ++ (s ++ []))) ++ ((next_label km ++ (m ++ (next_label kw ++ w))) ++ codes "}"))
    ≡ 123 ∷ ((34 ∷ (kv ++ 34 ∷ [])) ++ 58 ∷ ((34 ∷ (v ++ 34 ∷ [])) ++ more kl l (more kp p (more ks s (more km m (more kw w (125 ∷ [])))))))
spelled_unnamed kv kl kp ks km kw v l p s m w = simp (append_assoc, append-nil)

spelled_named : (kv kl kp ks kn km kw v l p s n m w : List ℕ) → (codes "{" ++ (label kv ++ (quoted v ++ (next_label kl ++ l)))) ++ (((next_label kp ++ p) ++ (next_label ks ++ (s ++ (next_label kn ++ n)))) ++ ((next_label km ++ (m ++ (next_label kw ++ w))) ++ codes "}"))
    ≡ 123 ∷ ((34 ∷ (kv ++ 34 ∷ [])) ++ 58 ∷ ((34 ∷ (v ++ 34 ∷ [])) ++ more kl l (more kp p (more ks s (more kn n (more km m (more kw w (125 ∷ []))))))))
spelled_named kv kl kp ks kn km kw v l p s n m w = simp append_assoc

-- the text without its line feed
abbrev pub body : List ℕ → List SourceSpec → Receipt → List ℕ
body version ss r = head_text version r.legs ++ (read_members ss r ++ (count_members r ++ codes "}"))

-- one whose counts are of 64 bits, and whose digests are of 32 bytes
pub record AreCounts (r : Receipt) (told : Option Counted) : Type 0 where
  pub legs : r.legs < 2 ^ 64
  pub plan : IsCounted r.plan
  pub records : r.records < 2 ^ 64
  pub rows : IsCounted r.rows
  pub names : IfSome told IsCounted

abbrev with_names : List ℕ → List SourceSpec → Receipt → List ℕ → List ℕ
with_names version ss r names = head_text version r.legs ++ (((next_label (codes "plan") ++ counted_text r.plan) ++ (next_label (codes "sources") ++ (sources_text ss r.sources ++ names))) ++ (count_members r ++ codes "}"))

counts_spelled : (r : Receipt) → IsCounted r.rows → members_text true (count_data r) ≡ counts (decimal r.records) (counted_text r.rows)
counts_spelled r is = member_text true (codes "records") (number (unsigned r.records)) (member (codes "rows") (counted_data r.rows) no_members) (decimal r.records) _ refl refl (member_text true (codes "rows") (counted_data r.rows) no_members (counted_text r.rows) (125 ∷ []) refl (sym (counted_spelled r.rows is)) refl)

head_spelled : (version : List ℕ) (r : Receipt) (sources : Members) (names : Option Counted) (s rest : List ℕ) → list_all is_plain version ≡ true → IsCounted r.plan → compact_text (object sources) ≡ s → members_text true (rest_data r names) ≡ rest
    → compact_text (receipt_data version r sources names) ≡ whole version (decimal r.legs) (counted_text r.plan) s rest
head_spelled version r sources names s rest plain is spelled others =
    let others_data = rest_data r names in
    let with_sources = member (codes "sources") (object sources) others_data in
    let with_plan = member (codes "plan") (counted_data r.plan) with_sources in
    let with_legs = member (codes "legs") (number (unsigned r.legs)) with_plan in
    let from_sources = member_text true (codes "sources") (object sources) others_data s rest refl spelled others in
    let from_plan = member_text true (codes "plan") (counted_data r.plan) with_sources (counted_text r.plan) _ refl (sym (counted_spelled r.plan is)) from_sources in
    let from_legs = member_text true (codes "legs") (number (unsigned r.legs)) with_plan (decimal r.legs) _ refl refl from_plan in
    ap (λ (t : List ℕ). 123 ∷ t) (member_text false (codes "version") (string version) with_legs _ _ refl (string_text version plain) from_legs)

pub body_spelled : (version : List ℕ) (ss : List SourceSpec) (r : Receipt) (sources : Members) (names : Option Counted) → list_all is_plain version ≡ true → AreCounts r names → r.names ≡ names → compact_text (object sources) ≡ sources_text ss r.sources
    → body version ss r ≡ compact_text (receipt_data version r sources names)
body_spelled version ss r sources None plain is e spelled =
    ap (λ n. with_names version ss r (names_member n)) e ∙ spelled_unnamed (codes "version") (codes "legs") (codes "plan") (codes "sources") (codes "records") (codes "rows") version (decimal r.legs) (counted_text r.plan) (sources_text ss r.sources) (decimal r.records) (counted_text r.rows)
    ∙ sym (head_spelled version r sources None (sources_text ss r.sources) _ plain is.plan spelled (counts_spelled r is.rows))
body_spelled version ss r sources (Some n) plain is e spelled =
    let others = member_text true (codes "names") (counted_data n) (count_data r) (counted_text n) _ refl (sym (counted_spelled n is.names)) (counts_spelled r is.rows) in
    ap (λ n. with_names version ss r (names_member n)) e ∙ spelled_named (codes "version") (codes "legs") (codes "plan") (codes "sources") (codes "names") (codes "records") (codes "rows") version (decimal r.legs) (counted_text r.plan) (sources_text ss r.sources) (counted_text n) (decimal r.records) (counted_text r.rows)
    ∙ sym (head_spelled version r sources (Some n) (sources_text ss r.sources) _ plain is.plan spelled others)

-- ---- what is read of it

step : (k : List ℕ) (d : Data) (ms found : Members) (e : Data) → of_json (outline d) ≡ Some e → of_members (members_outline (member k d ms)) found ≡ of_members (members_outline ms) (put k e found)
step k d ms found e is = ap (option_and_then (λ x. of_members (members_outline ms) (put k x found))) is

number_read : (n : ℕ) → n < 2 ^ 64 → of_json (outline (number (unsigned n))) ≡ Some (number (unsigned n))
number_read n h = ap (option_map number) (number_of-decimal n h)

abbrev head_found : List ℕ → Receipt → Data → Members
head_found version r sources = put (codes "sources") sources (put (codes "plan") (counted_data r.plan) (put (codes "legs") (number (unsigned r.legs)) (put (codes "version") (string version) no_members)))

abbrev counts_found : Receipt → Members → Members
counts_found r found = put (codes "rows") (counted_data r.rows) (put (codes "records") (number (unsigned r.records)) found)

abbrev rest_found : Receipt → Option Counted → Members → Members
rest_found r None found = counts_found r found
rest_found r (Some n) found = counts_found r (put (codes "names") (counted_data n) found)

counts_read : (r : Receipt) (found : Members) → r.records < 2 ^ 64 → IsCounted r.rows → of_members (members_outline (count_data r)) found ≡ Some (counts_found r found)
counts_read r found few is =
    step (codes "records") (number (unsigned r.records)) (member (codes "rows") (counted_data r.rows) no_members) found _ (number_read r.records few)
    ∙ step (codes "rows") (counted_data r.rows) no_members (put (codes "records") (number (unsigned r.records)) found) _ (counted_read r.rows is)

rest_read : (r : Receipt) (names : Option Counted) (found : Members) → AreCounts r names → of_members (members_outline (rest_data r names)) found ≡ Some (rest_found r names found)
rest_read r None found is = counts_read r found is.records is.rows
rest_read r (Some n) found is = step (codes "names") (counted_data n) (count_data r) found _ (counted_read n is.names) ∙ counts_read r (put (codes "names") (counted_data n) found) is.records is.rows

pub receipt_read : (version : List ℕ) (r : Receipt) (sources : Members) (names : Option Counted) (read : Data) → AreCounts r names → of_json (outline (object sources)) ≡ Some read
    → of_json (outline (receipt_data version r sources names)) ≡ Some (object (rest_found r names (head_found version r read)))
receipt_read version r sources names read is sources_read =
    let rest = rest_data r names in
    let with_sources = member (codes "sources") (object sources) rest in
    let with_plan = member (codes "plan") (counted_data r.plan) with_sources in
    let with_legs = member (codes "legs") (number (unsigned r.legs)) with_plan in
    let version_found = put (codes "version") (string version) no_members in
    let legs_found = put (codes "legs") (number (unsigned r.legs)) version_found in
    let plan_found = put (codes "plan") (counted_data r.plan) legs_found in
    ap (option_map object)
    (step (codes "version") (string version) with_legs no_members _ refl
    ∙ step (codes "legs") (number (unsigned r.legs)) with_plan version_found _ (number_read r.legs is.legs)
    ∙ step (codes "plan") (counted_data r.plan) with_sources legs_found _ (counted_read r.plan is.plan)
    ∙ step (codes "sources") (object sources) rest plan_found _ sources_read
    ∙ rest_read r names (head_found version r read) is)

-- ---- and what that says

parts_back : (version : List ℕ) (ss : List SourceSpec) (r : Receipt) (p s w : Data) → counted_said p ≡ Some r.plan → sources_said ss s ≡ Some r.sources → counted_said w ≡ Some r.rows
    → receipt_said ss (object (put (codes "rows") w (put (codes "records") (number (unsigned r.records)) (put (codes "sources") s (put (codes "plan") p (put (codes "legs") (number (unsigned r.legs)) (put (codes "version") (string version) no_members)))))))
    ≡ Some (record { legs = r.legs; plan = r.plan; sources = r.sources; records = r.records; rows = r.rows; names = None })
unfolding receipt_said count_at counted_at counted_if_there sources_at text_at has_only
parts_back version ss r p s w is_plan are is_rows = rw (is_plan, are, is_rows) refl

named_back : (version : List ℕ) (ss : List SourceSpec) (r : Receipt) (n : Counted) (p s w t : Data) → counted_said p ≡ Some r.plan → sources_said ss s ≡ Some r.sources → counted_said w ≡ Some r.rows → counted_said t ≡ Some n
    → receipt_said ss (object (put (codes "rows") w (put (codes "records") (number (unsigned r.records)) (put (codes "names") t (put (codes "sources") s (put (codes "plan") p (put (codes "legs") (number (unsigned r.legs)) (put (codes "version") (string version) no_members))))))))
    ≡ Some (record { legs = r.legs; plan = r.plan; sources = r.sources; records = r.records; rows = r.rows; names = Some n })
unfolding receipt_said count_at counted_at counted_if_there sources_at text_at has_only
named_back version ss r n p s w t is_plan are is_rows is_names = rw (is_plan, are, is_rows, is_names) refl

pub receipt_back : (version : List ℕ) (ss : List SourceSpec) (r : Receipt) (names : Option Counted) (read : Data) → AreCounts r names → r.names ≡ names → sources_said ss read ≡ Some r.sources
    → receipt_said ss (object (rest_found r names (head_found version r read))) ≡ Some r
receipt_back version ss r None read is e are =
    parts_back version ss r (counted_data r.plan) read (counted_data r.rows) (counted_back r.plan is.plan) are (counted_back r.rows is.rows)
    ∙ ap (λ (n : Option Counted). Some (record { legs = r.legs; plan = r.plan; sources = r.sources; records = r.records; rows = r.rows; names = n })) (sym e)
receipt_back version ss r (Some n) read is e are =
    named_back version ss r n (counted_data r.plan) read (counted_data r.rows) (counted_data n) (counted_back r.plan is.plan) are (counted_back r.rows is.rows) (counted_back n is.names)
    ∙ ap (λ (n : Option Counted). Some (record { legs = r.legs; plan = r.plan; sources = r.sources; records = r.records; rows = r.rows; names = n })) (sym e)

-- ---- it is plain, and not deep

rest_plain : (r : Receipt) (names : Option Counted) → AreCounts r names → ArePlainMembers (rest_data r names)
rest_plain r None is = (refl, (is.records, (refl, (counted_plain r.rows is.rows, tt))))
rest_plain r (Some n) is = (refl, (counted_plain n is.names, (refl, (is.records, (refl, (counted_plain r.rows is.rows, tt))))))

pub receipt_plain : (version : List ℕ) (r : Receipt) (sources : Members) (names : Option Counted) → list_all is_plain version ≡ true → AreCounts r names → ArePlainMembers sources → IsPlain (receipt_data version r sources names)
receipt_plain version r sources names plain is are = (refl, (plain, (refl, (is.legs, (refl, (counted_plain r.plan is.plan, (refl, (are, rest_plain r names is))))))))

rest_flat : (r : Receipt) (names : Option Counted) → tree.members_depth (members_outline (rest_data r names)) ≤ 2
rest_flat r None = omega arith
rest_flat r (Some n) = omega arith

pub receipt_flat : (version : List ℕ) (r : Receipt) (sources : Members) (names : Option Counted) → tree.members_depth (members_outline sources) ≤ 2 → tree.depth (outline (receipt_data version r sources names)) ≤ max_depth
receipt_flat version r sources names flat = omega (arith, flat, rest_flat r names)
