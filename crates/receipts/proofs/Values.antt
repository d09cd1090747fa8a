-- The values of a receipt: what is written of them, and that they are read back.
use Rattle.std.proofs.Common.{◌≡◌, ◌++◌, ℕ, true, false, List, [], ◌∷◌, codes, decimal, Some, refl, sym, ap, ◌∙◌, append_assoc}
use Rattle.std.specs.List.{list_all}
use Rattle.hex.specs.Hex.{encode_lower}
use Rattle.hex.proofs.HexLemmas.{decode_sized-encode_lower}
use Rattle.serde_json.specs.Data.{unsigned, Data, number, string, object, no_members, member}
use Rattle.serde_json.specs.Read.{of_json}
use Rattle.serde_json.specs.Written.{outline, compact_text}
use Rattle.serde_json.proofs.Numbers.{number_of-decimal}
use Rattle.json_parts.specs.Parts.{has_only, text_at}
use Rattle.receipts.specs.declared.digests.Counted.{Counted}
use Rattle.receipts.specs.ReceiptText.{count_name, digest_name, counted_text, label, next_label, quoted}
use Rattle.receipts.specs.Said.{counted_said, count_at, digest_said}
use Rattle.receipts.specs.ReadBack.{IsCounted, is_plain}
use Rattle.receipts.proofs.Digits.{hex_plain}
use Rattle.receipts.proofs.Plains.{IsPlain, member_text, string_text}

-- the value that is written of a count and a digest
abbrev pub counted_data : Counted → Data
counted_data c = object (member count_name (number (unsigned c.count)) (member digest_name (string (encode_lower c.digest)) no_members))

-- it is read back as itself
pub counted_read : (c : Counted) → IsCounted c → of_json (outline (counted_data c)) ≡ Some (counted_data c)
unfolding count_name digest_name
counted_read c is = rw (number_of-decimal c.count is.count) refl

-- and says what was written
pub counted_back : (c : Counted) → IsCounted c → counted_said (counted_data c) ≡ Some c
unfolding counted_said count_at digest_said count_name digest_name has_only text_at
counted_back c is = rw (decode_sized-encode_lower c.digest 32 is.long is.bytes) refl

spelled : (count_key digest_key n hex : List ℕ) → codes "{" ++ (label count_key ++ (n ++ (next_label digest_key ++ (quoted hex ++ codes "}")))) ≡ 123 ∷ ((34 ∷ (count_key ++ 34 ∷ [])) ++ 58 ∷ (n ++ 44 ∷ ((34 ∷ (digest_key ++ 34 ∷ [])) ++ 58 ∷ ((34 ∷ (hex ++ 34 ∷ [])) ++ 125 ∷ []))))
spelled count_key digest_key n hex = simp append_assoc

count_plain : list_all is_plain count_name ≡ true
unfolding count_name
count_plain = refl

digest_plain : list_all is_plain digest_name ≡ true
unfolding digest_name
digest_plain = refl

pub counted_spelled : (c : Counted) → IsCounted c → counted_text c ≡ compact_text (counted_data c)
counted_spelled c is =
    let hex = encode_lower c.digest in
    let plain = hex_plain c.digest is.bytes in
    let digest = member_text true digest_name (string hex) no_members _ (125 ∷ []) digest_plain (string_text hex plain) refl in
    spelled count_name digest_name (decimal c.count) hex
    ∙ sym (ap (λ (s : List ℕ). 123 ∷ s) (member_text false count_name (number (unsigned c.count)) (member digest_name (string hex) no_members) (decimal c.count) _ count_plain refl digest))

pub counted_plain : (c : Counted) → IsCounted c → IsPlain (counted_data c)
counted_plain c is = (count_plain, (is.count, (digest_plain, (hex_plain c.digest is.bytes, tt))))
