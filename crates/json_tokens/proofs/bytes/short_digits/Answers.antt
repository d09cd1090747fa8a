use Rattle.std.proofs.Common.{arith, ◌≡◌, ◌<◌, ℕ, List, length, drop, get_or, inl, inr, ap, sym, ◌∙◌, add-zero}
use Rattle.std.proofs.lemmas.List.{get_or-drop, get_or_default, take_rest}
use Rattle.json.specs.Word.{head}
use Rattle.json_tokens.specs.Lexemes.{ends_number}
use Rattle.json_tokens.proofs.bytes.short_digits.Goals as goal

-- the byte at a place is the one that the rest of the text begins with
byte_at : (t : List ℕ) (n : ℕ) → n < length t → get_or t n 0 ≡ head (drop n t)
byte_at t n within = get_or_default t n 0 32 within ∙ ap (λ k. get_or t k 32) (sym (add-zero n)) ∙ sym (get_or-drop n t 0 32)

pub returns : goal.returns
returns c =
    let t = c.args.text.now in
    let found = c.in_ok-count in
    let n = found.count in
    record {
      count = n;
      counted = found.ensures.counted;
      some = omega arith;
      no_zero = λ zero. elim c.if-count-ne1.either [ inl one ↦ one.1 | inr other ↦ absurd (other (byte_at t 0 (omega (arith, found.ensures.more)) ∙ zero)) ];
      over = take_rest t n;
      ends = ap (λ r. ends_number (head r)) (take_rest t n) ∙ ap ends_number (sym (byte_at t n found.ensures.more)) ∙ sym c.ends_number.ensures ∙ c.if-not-ends_number.false;
      says = found.ensures.says;
    }
