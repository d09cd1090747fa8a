-- The next token of a text, by the byte that it begins with.
use Rattle.std.proofs.Common.{◌≡◌, ◌<◌, ℕ, ℤ, Bool, true, false, ◌==◌, List, [], ◌∷◌, length, Some, None, refl, sym, ap, ◌∙◌, arith}
use Rattle.std.proofs.lemmas.Bool.{eqb-true}
use Rattle.json.specs.Token.{Token, begin_object, end_object, begin_array, end_array, key, string, number}
use Rattle.json.specs.Lex.{Lexeme, token, colon, between, lex, Place, fresh, after_value, after_comma, after_key, may_begin, punctuate}
use Rattle.json.specs.Json.{after_end_array, read_key}
use Rattle.json_parts.specs.Parts.{whole}
use Rattle.json_tokens.specs.Ahead.{part}
use Rattle.json_tokens.specs.Lexemes.{place, tokens_from, Begins, BeginsWhole, BeginsName}
use Rattle.json_tokens.proofs.NumberTexts.{number_said}

-- ---- where a value or a name begins

comma_over : (r : List ℕ) → punctuate after_value (lex between (44 ∷ r)) ≡ punctuate after_comma (lex between r)
unfolding lex punctuate
comma_over r = refl

pub starts : (text t : List ℕ) → lex between t ≡ lex between text → Begins (tokens_from false text) t
starts text t e = (fresh, refl, ap (punctuate fresh) (sym e))

pub starts_over_comma : (text t r s : List ℕ) → lex between t ≡ lex between text → t ≡ 44 ∷ r → lex between s ≡ lex between r → Begins (tokens_from true text) s
starts_over_comma text t r s e comma f = (after_comma, refl, ap (punctuate after_value) (sym e ∙ ap (lex between) comma) ∙ comma_over r ∙ ap (punctuate after_comma) (sym f))

bracket_first : (p : Place) (r : List ℕ) → may_begin p ≡ true → punctuate p (lex between (91 ∷ r)) ≡ begin_array ∷ punctuate fresh (lex between r)
unfolding lex punctuate
bracket_first fresh r e = refl
bracket_first after_value r e = absurd (cc)
bracket_first after_comma r e = refl
bracket_first after_key r e = absurd (cc)

brace_first : (p : Place) (r : List ℕ) → may_begin p ≡ true → punctuate p (lex between (123 ∷ r)) ≡ begin_object ∷ punctuate fresh (lex between r)
unfolding lex punctuate
brace_first fresh r e = refl
brace_first after_value r e = absurd (cc)
brace_first after_comma r e = refl
brace_first after_key r e = absurd (cc)

number_first : (p : Place) (s : List ℕ) (ls : List Lexeme) → may_begin p ≡ true → punctuate p (token (number s) ∷ ls) ≡ number s ∷ punctuate after_value ls
unfolding punctuate
number_first fresh s ls e = refl
number_first after_value s ls e = absurd (cc)
number_first after_comma s ls e = refl
number_first after_key s ls e = absurd (cc)

name_first : (p : Place) (s : List ℕ) (ls : List Lexeme) → may_begin p ≡ true → punctuate p (token (string s) ∷ colon ∷ ls) ≡ key s ∷ punctuate fresh ls
unfolding punctuate
name_first fresh s ls e = refl
name_first after_value s ls e = absurd (cc)
name_first after_comma s ls e = refl
name_first after_key s ls e = absurd (cc)

-- the bracket may stand behind white space
pub bracket_begins : (ts : List Token) (t r : List ℕ) → Begins ts t → lex between t ≡ lex between (91 ∷ r) → ts ≡ begin_array ∷ tokens_from false r
bracket_begins ts t r b e = b.2 ∙ ap (punctuate b.0) e ∙ bracket_first b.0 r b.1

pub list_begins : (ts : List Token) (t r : List ℕ) → Begins ts t → t ≡ 91 ∷ r → ts ≡ begin_array ∷ tokens_from false r
list_begins ts t r b e = bracket_begins ts t r b (ap (lex between) e)

pub object_begins : (ts : List Token) (t r : List ℕ) → Begins ts t → t ≡ 123 ∷ r → ts ≡ begin_object ∷ tokens_from false r
object_begins ts t r b e = b.2 ∙ ap (λ u. punctuate b.0 (lex between u)) e ∙ brace_first b.0 r b.1

pub whole_begins : (ts : List Token) (t : List ℕ) (n : ℤ) (r : List ℕ) → Begins ts t → (w : BeginsWhole t n r) → ts ≡ number w.0 ∷ tokens_from true r
whole_begins ts t n r b w = b.2 ∙ ap (punctuate b.0) w.1 ∙ number_first b.0 w.0 (lex between r) b.1

pub whole_said : (ts : List Token) (t : List ℕ) (n : ℤ) (r : List ℕ) → Begins ts t → BeginsWhole t n r → (depth : ℕ) → part whole depth ts ≡ Some (n, tokens_from true r)
whole_said ts t n r b w depth = ap (part whole depth) (whole_begins ts t n r b w) ∙ number_said depth w.0 (tokens_from true r) n w.2

pub whole_shorter : (ts : List Token) (t : List ℕ) (n : ℤ) (r : List ℕ) → Begins ts t → BeginsWhole t n r → length (tokens_from true r) < length ts
whole_shorter ts t n r b w = omega (arith, ap length (whole_begins ts t n r b w))

pub name_begins : (ts : List Token) (t s r : List ℕ) → Begins ts t → BeginsName t s r → ts ≡ key s ∷ tokens_from false r
name_begins ts t s r b w = b.2 ∙ ap (punctuate b.0) w ∙ name_first b.0 s (lex between r) b.1

-- ---- where a list, an object or the text ends

bracket_closes : (b : Bool) (r : List ℕ) → punctuate (place b) (lex between (93 ∷ r)) ≡ end_array ∷ punctuate after_value (lex between r)
unfolding lex punctuate
bracket_closes true r = refl
bracket_closes false r = refl

brace_closes : (b : Bool) (r : List ℕ) → punctuate (place b) (lex between (125 ∷ r)) ≡ end_object ∷ punctuate after_value (lex between r)
unfolding lex punctuate
brace_closes true r = refl
brace_closes false r = refl

pub list_ends : (b : Bool) (text t r : List ℕ) → lex between t ≡ lex between text → t ≡ 93 ∷ r → after_end_array (tokens_from b text) ≡ Some (tokens_from true r)
list_ends b text t r e close = ap after_end_array (ap (punctuate (place b)) (sym e ∙ ap (lex between) close) ∙ bracket_closes b r)

pub object_ends : (b : Bool) (text t r : List ℕ) → lex between t ≡ lex between text → t ≡ 125 ∷ r → read_key (tokens_from b text) ≡ Some (None, tokens_from true r)
object_ends b text t r e close = ap read_key (ap (punctuate (place b)) (sym e ∙ ap (lex between) close) ∙ brace_closes b r)

empty_lexed : (b : Bool) → tokens_from b [] ≡ []
unfolding lex punctuate
empty_lexed true = refl
empty_lexed false = refl

nothing : (t : List ℕ) → (length t == 0) ≡ true → t ≡ []
nothing [] h = refl
nothing (x ∷ xs) h = absurd (omega (arith, eqb-true (length (x ∷ xs)) 0 h))

pub text_ends : (b : Bool) (text t : List ℕ) → lex between t ≡ lex between text → (length t == 0) ≡ true → tokens_from b text ≡ []
text_ends b text t e h = ap (punctuate (place b)) (sym e ∙ ap (lex between) (nothing t h)) ∙ empty_lexed b
