-- A name at the front of a text.
use Rattle.std.proofs.Common.{◌≡◌, ℕ, ◌+◌, Bool, true, false, not, cond, ◌||◌, ◌==◌, nat_lt, List, [], ◌∷◌, take, drop, Some, None, refl, sym, ap, ◌∙◌, one-add}
use Rattle.std.specs.List.{prefix_len}
use Rattle.json.specs.Token.{string}
use Rattle.json.specs.Text.{content, plain, after_backslash, prepend}
use Rattle.json.specs.Word.{is_operator, is_space}
use Rattle.json.specs.Lex.{Lexeme, token, colon, string_token, quote, backslash, operator, space, other, Mode, between, in_string, lex_byte, lex}
use Rattle.json.specs.Run.{is_plain}
use Rattle.json_tokens.specs.Lexemes.{BeginsName}

record Plain (x : ℕ) : Type 0 where
  no_quote : (x == 34) ≡ false
  no_backslash : (x == 92) ≡ false
  no_control : nat_lt x 32 ≡ false

parts : (a b c : Bool) → not (a || b || c) ≡ true → (a ≡ false) × (b ≡ false) × (c ≡ false)
parts true b c h = absurd (cc)
parts false true c h = absurd (cc)
parts false false true h = absurd (cc)
parts false false false h = (refl, refl, refl)

plain_is : (x : ℕ) → is_plain x ≡ true → Plain x
plain_is x h = let p = parts (x == 34) (x == 92) (nat_lt x 32) h in record { no_quote = p.0; no_backslash = p.1; no_control = p.2 }

plain_content : (x : ℕ) (xs : List ℕ) → Plain x → content plain (x ∷ xs) ≡ prepend (x ∷ []) (content plain xs)
unfolding content
plain_content x xs p =
    ap (λ b. cond b (Some []) (cond (x == 92) (content after_backslash xs) (cond (nat_lt x 32) None (prepend (x ∷ []) (content plain xs))))) p.no_quote
    ∙ ap (λ b. cond b (content after_backslash xs) (cond (nat_lt x 32) None (prepend (x ∷ []) (content plain xs)))) p.no_backslash ∙ ap (λ b. cond b None (prepend (x ∷ []) (content plain xs))) p.no_control

quote_content : (xs : List ℕ) → content plain (34 ∷ xs) ≡ Some []
unfolding content
quote_content xs = refl

passes : (o s : Bool) (x : ℕ) (xs : List ℕ) (k : Mode → List Lexeme) → lex_byte in_string (cond o operator (cond s space other)) x xs k ≡ k in_string
passes true s x xs k = refl
passes false true x xs k = refl
passes false false x xs k = refl

plain_lexed : (x : ℕ) (xs : List ℕ) → Plain x → lex in_string (x ∷ xs) ≡ lex in_string xs
unfolding lex
plain_lexed x xs p =
    ap (λ b. lex_byte in_string (cond b quote (cond (x == 92) backslash (cond (is_operator x) operator (cond (is_space x) space other)))) x xs (λ next. lex next xs)) p.no_quote
    ∙ ap (λ b. lex_byte in_string (cond b backslash (cond (is_operator x) operator (cond (is_space x) space other))) x xs (λ next. lex next xs)) p.no_backslash
    ∙ passes (is_operator x) (is_space x) x xs (λ next. lex next xs)

quote_lexed : (xs : List ℕ) → lex in_string (34 ∷ xs) ≡ lex between xs
unfolding lex
quote_lexed xs = refl

content_over : (u r : List ℕ) → drop (prefix_len is_plain u) u ≡ 34 ∷ r → content plain u ≡ Some (take (prefix_len is_plain u) u)
content_over [] r = λ e. absurd (cc)
content_over (x ∷ xs) r = by_first (content_over xs r) (is_plain x) refl
  where
    by_first : (drop (prefix_len is_plain xs) xs ≡ 34 ∷ r → content plain xs ≡ Some (take (prefix_len is_plain xs) xs)) → (b : Bool) → is_plain x ≡ b
        → drop (cond b (1 + prefix_len is_plain xs) 0) (x ∷ xs) ≡ 34 ∷ r → content plain (x ∷ xs) ≡ Some (take (cond b (1 + prefix_len is_plain xs) 0) (x ∷ xs))
    by_first more true p e =
        let n = prefix_len is_plain xs in
        plain_content x xs (plain_is x p) ∙ ap (prepend (x ∷ [])) (more (ap (λ k. drop k (x ∷ xs)) (sym (one-add n)) ∙ e)) ∙ ap (λ k. Some (take k (x ∷ xs))) (sym (one-add n))
    by_first more false p e = ap (content plain) e ∙ quote_content r

string_over : (u r : List ℕ) → drop (prefix_len is_plain u) u ≡ 34 ∷ r → lex in_string u ≡ lex between r
string_over [] r = λ e. absurd (cc)
string_over (x ∷ xs) r = by_first (string_over xs r) (is_plain x) refl
  where
    by_first : (drop (prefix_len is_plain xs) xs ≡ 34 ∷ r → lex in_string xs ≡ lex between r) → (b : Bool) → is_plain x ≡ b
        → drop (cond b (1 + prefix_len is_plain xs) 0) (x ∷ xs) ≡ 34 ∷ r → lex in_string (x ∷ xs) ≡ lex between r
    by_first more true p e = plain_lexed x xs (plain_is x p) ∙ more (ap (λ k. drop k (x ∷ xs)) (sym (one-add (prefix_len is_plain xs))) ∙ e)
    by_first more false p e = ap (lex in_string) e ∙ quote_lexed r

string_first : (u : List ℕ) → lex between (34 ∷ u) ≡ token (string_token (content plain u)) ∷ lex in_string u
unfolding lex
string_first u = refl

colon_first : (r : List ℕ) → lex between (58 ∷ r) ≡ colon ∷ lex between r
unfolding lex
colon_first r = refl

pub name_lexed : (t u v w r : List ℕ) (n : ℕ) → t ≡ 34 ∷ u → n ≡ prefix_len is_plain u → drop n u ≡ 34 ∷ v → lex between w ≡ lex between v → w ≡ 58 ∷ r → BeginsName t (take n u) r
name_lexed t u v w r n quoted counted closed spaced colon_next =
    let end : drop (prefix_len is_plain u) u ≡ 34 ∷ v = ap (λ k. drop k u) (sym counted) ∙ closed in
    ap (lex between) quoted ∙ string_first u ∙ ap (λ o. token (string_token o) ∷ lex in_string u) (content_over u v end) ∙ ap (λ k. token (string (take k u)) ∷ lex in_string u) (sym counted)
    ∙ ap (λ ls. token (string (take n u)) ∷ ls) (string_over u v end ∙ sym spaced ∙ ap (lex between) colon_next ∙ colon_first r)
