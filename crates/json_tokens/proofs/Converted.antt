-- What was read, under a function that may refuse it.
use Rattle.std.proofs.Common.{◌≡◌, ℕ, List, [], Option, Some, None, option_map, option_and_then, refl, ap, ◌∙◌}
use Rattle.json.specs.Token.{Token}
use Rattle.json.specs.Lex.{tokens}
use Rattle.json.specs.Json as json
use Rattle.json.specs.Json.{parse_map, value, if_last}
use Rattle.serde_json.specs.Data.{Data}
use Rattle.serde_json.specs.Read.{of_json, converted, read}

abbrev pick : {A : Type 0} → A → Option A → A
pick d None = d
pick d (Some a) = a

found : {A B : Type 0} (a : A) (r s : List Token) (x : Option B) (b : B) → option_map {U = B × List Token} (λ y. (y, r)) x ≡ Some (b, s) → (r ≡ s) × (x ≡ Some b)
found a r s None b e = absurd (cc)
found a r s (Some y) b e = let same = ap (pick (y, r)) e in (ap (λ p. p.1) same, ap (λ p. Some p.0) same)

pub converted_some : {A B : Type 0} (f : A → Option B) (o : Option (A × List Token)) (b : B) (r : List Token) → converted f o ≡ Some (b, r) → (a : A) × (o ≡ Some (a, r)) × (f a ≡ Some b)
converted_some f None b r e = absurd (cc)
converted_some f (Some p) b r e = let both = found p.0 p.1 r (f p.0) b e in (p.0, ap (λ s. Some (p.0, s)) both.0, both.1)

pub twice : {A B : Type 0} (g : A → B) (r : List Token) (x : Option A) → option_map (λ b. (b, r)) (option_map g x) ≡ parse_map g (option_map (λ a. (a, r)) x)
twice g r None = refl
twice g r (Some a) = refl

-- what f says, under g
pub then_said : {X Y : Type 0} (f : Data → Option X) (g : X → Option Y) (o : Option (Data × List Token)) (x : X) (y : Y) (r : List Token) → converted f o ≡ Some (x, r) → g x ≡ Some y
    → converted (λ d. option_and_then g (f d)) o ≡ Some (y, r)
then_said f g o x y r e h =
    let d = converted_some f o x r e in
    ap (converted (λ d. option_and_then g (f d))) d.1 ∙ ap (λ m. option_map (λ b. (b, r)) (option_and_then g m)) d.2 ∙ ap (option_map (λ b. (b, r))) h

abbrev whole_text : Option (json.Json × List Token) → Option Data
whole_text o = option_and_then of_json (option_and_then (λ p. if_last p.0 p.1) o)

-- a text of one value
pub text_read : (text : List ℕ) (d : Data) → converted of_json (value 127 (tokens text)) ≡ Some (d, []) → read text ≡ Some d
text_read text d e = let j = converted_some of_json (value 127 (tokens text)) d [] e in ap whole_text j.1 ∙ j.2
