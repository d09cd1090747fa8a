-- A receipt is read as it was written.
use Rattle.std.proofs.Common.{◌≡◌, ◌-◌, ◌++◌, ℕ, suc, true, List, [], ◌∷◌, length, drop, get_or, map, zip, codes, Option, Some, option_map, refl, ap, ◌∙◌, append_assoc, length-append, arith}
use Rattle.std.proofs.Math.Seq.{take-append_seam, drop-append_seam}
use Rattle.std.proofs.lemmas.Str.{IsUtf8-from_ascii, is_utf8-from_IsUtf8}
use Rattle.std.specs.List.{All, list_all}
use Rattle.plan_model.specs.PlanData.{PlanData, IsPlan}
use Rattle.plan_model.specs.declared.spec.SourceSpec.{SourceSpec}
use Rattle.serde_json.specs.Data.{Data, object, no_members}
use Rattle.serde_json.specs.Read.{read}
use Rattle.serde_json.specs.Written.{compact_text}
use Rattle.json_parts.specs.Parts.{◌>>=◌, json_of}
use Rattle.receipts.specs.declared.digests.Counted.{Counted}
use Rattle.receipts.specs.declared.receipt.Receipt.{Receipt}
use Rattle.receipts.specs.ReceiptText.{count_members, head_text, read_members, receipt_text}
use Rattle.receipts.specs.Said.{receipt_of_bytes, receipt_said, without_line_feed}
use Rattle.receipts.specs.ReadBack.{IsCounted, IsReceipt, is_plain}
use Rattle.receipts.proofs.Plains.{IsPlain, ascii_text}
use Rattle.receipts.proofs.Puts.{put_all}
use Rattle.receipts.proofs.Receipts.{AreCounts, body, body_spelled, receipt_back, receipt_data, receipt_flat, receipt_plain, receipt_read}
use Rattle.receipts.proofs.Sources.{ArePairs, are_counted, members_flat, members_from, members_plain, members_read, named, sources_spelled}
use Rattle.receipts.proofs.SourcesBack.{AreOf, sources_back}
use Rattle.receipts.proofs.Uids.{ArePlainUids, uids_distinct, uids_plain}
use Rattle.receipts.proofs.Written.{value_read}

of_shape : (ss : List SourceSpec) (rs : List (List Counted)) → map (λ r. length r) rs ≡ map (λ s. s.partitions) ss → All (λ r. All IsCounted r) rs → AreOf ss rs
of_shape [] [] e all = tt
of_shape [] (r ∷ rs) e all = absurd cc
of_shape (s ∷ ss) [] e all = absurd cc
of_shape (s ∷ ss) (r ∷ rs) e all = ((ap (λ (ns : List ℕ). get_or ns 0 0) e, are_counted r (all 0 r (omega arith))), of_shape ss rs (ap (λ (ns : List ℕ). drop 1 ns) e) (λ k d within. all (suc k) d (omega (arith, within))))

are_pairs : (ss : List SourceSpec) (rs : List (List Counted)) → ArePlainUids ss → AreOf ss rs → ArePairs (zip ss rs)
are_pairs [] [] plain are = tt
are_pairs [] (r ∷ rs) plain are = absurd are
are_pairs (s ∷ ss) [] plain are = absurd are
are_pairs (s ∷ ss) (r ∷ rs) plain are = ((plain.0, are.0.1), are_pairs ss rs plain.1 are.1)

-- ---- the line feed

line_feed : (s : List ℕ) → without_line_feed (s ++ 10 ∷ []) ≡ s
line_feed s =
    let long : length (s ++ 10 ∷ []) - 1 ≡ length s = omega (arith, length-append s (10 ∷ [])) in
    rw (long, drop-append_seam s (10 ∷ []), take-append_seam s (10 ∷ [])) refl

regroup : (h r c : List ℕ) → h ++ (r ++ (c ++ codes "}\n")) ≡ (h ++ (r ++ (c ++ codes "}"))) ++ 10 ∷ []
regroup h r c = simp append_assoc

without : (version : List ℕ) (ss : List SourceSpec) (r : Receipt) → without_line_feed (receipt_text version ss r) ≡ body version ss r
without version ss r = ap without_line_feed (regroup (head_text version r.legs) (read_members ss r) (count_members r)) ∙ line_feed (body version ss r)

-- ---- all together

json_back : (d read_as : Data) → IsPlain d → read (compact_text d) ≡ Some read_as → json_of (compact_text d) ≡ Some read_as
unfolding json_of
json_back d read_as plain is = rw (is_utf8-from_IsUtf8 (compact_text d) (IsUtf8-from_ascii (compact_text d) (ascii_text d plain))) is

pub read_back : (version : List ℕ) (p : PlanData) (r : Receipt) → list_all is_plain version ≡ true → IsPlan p → IsReceipt p r → receipt_of_bytes p.sources (receipt_text version p.sources r) ≡ Some r
unfolding receipt_of_bytes
read_back version p r plain is_plan is =
    let ss = p.sources in
    let are = of_shape ss r.sources is.shape is.sources in
    let zs = zip ss r.sources in
    let pairs = are_pairs ss r.sources (uids_plain p is_plan) are in
    let sources = members_from (map named zs) in
    let read_as = object (put_all (map named zs) no_members) in
    let counts : AreCounts r r.names = record { legs = is.legs; plan = is.plan; records = is.records; rows = is.rows; names = is.names } in
    let d = receipt_data version r sources r.names in
    let plain_data = receipt_plain version r sources r.names plain counts (members_plain zs pairs) in
    let text = body_spelled version ss r sources r.names plain counts refl (sources_spelled ss r.sources pairs) in
    let value = value_read d plain_data (receipt_flat version r sources r.names (members_flat zs)) ∙ receipt_read version r sources r.names read_as counts (ap (option_map object) (members_read zs no_members pairs)) in
    ap (λ (b : List ℕ). json_of b >>= receipt_said ss) (without version ss r ∙ text) ∙ ap (λ (o : Option Data). o >>= receipt_said ss) (json_back d _ plain_data value)
    ∙ receipt_back version ss r r.names read_as counts refl (sources_back ss r.sources (uids_distinct p is_plan) are)
