-- The grammar's loop over the items of a list, a turn at a time, under what the items say.
use Rattle.std.proofs.Common.{arith, ◌≡◌, ℕ, ◌-◌, ◌<◌, ◌≤◌, List, [], ◌∷◌, ◌++◌, length, Option, Some, None, option_map, option_and_then, refl, sym, ap, ◌∙◌, append_assoc, append-nil}
use Rattle.json.specs.Token.{Token}
use Rattle.json.specs.Json.{parse_map, after_end_array, items, value}
use Rattle.json.proofs.Grammar.{items_end, items_more, value-begin_array, value_is}
use Rattle.serde_json.specs.Data.{Data, array, Items, item}
use Rattle.serde_json.specs.Read.{of_json, of_items, converted}
use Rattle.json_parts.specs.Parts.{list_of, each, list_text}
use Rattle.json_tokens.specs.Ahead.{part, parts_in, parts}
use Rattle.json_tokens.proofs.Converted.{converted_some}
use Rattle.json_tokens.proofs.Passed.{converted-array, with_item}

-- with what was read before
abbrev pub behind : {X : Type 0} → List X → Option (List X × List Token) → Option (List X × List Token)
behind front o = parse_map (λ xs. front ++ xs) o

behind_none : {X : Type 0} (o : Option (List X × List Token)) → o ≡ behind [] o
behind_none None = refl
behind_none (Some p) = refl

behind_one : {X : Type 0} (front : List X) (x : X) (o : Option (List X × List Token)) → behind front (parse_map (λ xs. x ∷ xs) o) ≡ behind (front ++ x ∷ []) o
behind_one front x None = refl
behind_one front x (Some p) = ap (λ xs. Some (xs, p.1)) (simp append_assoc)

module _ {X : Type 0} (f : Data → Option X) where
  abbrev pub all : Items → Option (List X)
  all ds = each f (list_of ds)

  of_list : (o : Option (Items × List Token)) → converted (list_text f) (parse_map array o) ≡ converted all o
  unfolding list_text
  of_list None = refl
  of_list (Some p) = refl

  cons_out : (x : X) (r : List Token) (o : Option (List X)) → option_map (λ b. (b, r)) (option_and_then (λ xs. Some (x ∷ xs)) o) ≡ parse_map (λ xs. x ∷ xs) (option_map (λ b. (b, r)) o)
  cons_out x r None = refl
  cons_out x r (Some xs) = refl

  with_said : (d : Data) (x : X) → f d ≡ Some x → (o : Option (Items × List Token)) → converted all (parse_map (item d) o) ≡ parse_map (λ xs. x ∷ xs) (converted all o)
  with_said d x e None = refl
  with_said d x e (Some p) = rw e (cons_out x p.1 (all p.0))

  -- a list opens
  pub list_opens : (depth : ℕ) (ts : List Token) → 0 < depth → part (list_text f) depth (Token.begin_array ∷ ts) ≡ parts f (depth - 1) ts
  list_opens depth ts some =
      ap (λ o. converted (list_text f) (converted of_json o)) (value-begin_array depth ts some) ∙ ap (converted (list_text f)) (converted-array (items (value (depth - 1)) (length ts) ts)) ∙ of_list _

  one_more : (depth n : ℕ) (ts r : List Token) (x : X) → 0 < n → after_end_array ts ≡ None → part f depth ts ≡ Some (x, r)
      → parts_in f depth n ts ≡ parse_map (λ xs. x ∷ xs) (parts_in f depth (n - 1) r)
  one_more depth n ts r x some going e =
      let d = converted_some f (converted of_json (value depth ts)) x r e in
      let j = converted_some of_json (value depth ts) d.0 r d.1 in
      ap (λ o. converted all (converted of_items o)) (items_more (value depth) n ts r j.0 some going j.1) ∙ ap (converted all) (with_item j.0 d.0 j.2 _) ∙ with_said d.0 x d.2 _

  no_end : (depth : ℕ) (ts r : List Token) (x : X) → part f depth ts ≡ Some (x, r) → after_end_array ts ≡ None
  no_end depth [] r x e = refl
  no_end depth (Token.begin_object ∷ ts) r x e = refl
  no_end depth (Token.end_object ∷ ts) r x e = refl
  no_end depth (Token.begin_array ∷ ts) r x e = refl
  no_end depth (Token.end_array ∷ ts) r x e = absurd (let no = sym (ap (λ o. converted f (converted of_json o)) (value_is depth (Token.end_array ∷ ts))) ∙ e in cc)
  no_end depth (Token.key s ∷ ts) r x e = refl
  no_end depth (Token.string s ∷ ts) r x e = refl
  no_end depth (Token.number s ∷ ts) r x e = refl
  no_end depth (Token.boolean b ∷ ts) r x e = refl
  no_end depth (Token.null ∷ ts) r x e = refl
  no_end depth (Token.bad ∷ ts) r x e = refl

  no_more : (depth n : ℕ) (ts r : List Token) → length ts ≤ n → after_end_array ts ≡ Some r → parts_in f depth n ts ≡ Some ([], r)
  no_more depth n ts r enough e = ap (λ o. converted all (converted of_items o)) (items_end (value depth) n ts r enough e)

  -- of the items that began at `start`, those that say xs have been read, and `rest` is still to come
  pub record ItemsRead (depth : ℕ) (start : List Token) (xs : List X) (rest : List Token) : Type 0 where
    pub turns : ℕ
    pub enough : length rest ≤ turns
    pub shorter : length rest ≤ length start
    pub so_far : parts f depth start ≡ behind xs (parts_in f depth turns rest)

  pub items_begin : (depth : ℕ) (ts : List Token) → ItemsRead depth ts [] ts
  items_begin depth ts = record { turns = length ts; enough = omega arith; shorter = omega arith; so_far = behind_none (parts f depth ts) }

  pub items_go_on : (depth : ℕ) (start ts r : List Token) (xs : List X) (x : X) → ItemsRead depth start xs ts → after_end_array ts ≡ None → part f depth ts ≡ Some (x, r) → length r < length ts
      → ItemsRead depth start (xs ++ x ∷ []) r
  items_go_on depth start ts r xs x i going e less = record {
    turns = i.turns - 1;
    enough = omega arith;
    shorter = omega arith;
    so_far = i.so_far ∙ ap (behind xs) (one_more depth i.turns ts r x (omega arith) going e) ∙ behind_one xs x _;
  }

  -- the same where the value that was read tells that the list went on
  pub items_next : (depth : ℕ) (start ts r : List Token) (xs : List X) (x : X) → ItemsRead depth start xs ts → part f depth ts ≡ Some (x, r) → length r < length ts → ItemsRead depth start (xs ++ x ∷ []) r
  items_next depth start ts r xs x i e less = items_go_on depth start ts r xs x i (no_end depth ts r x e) e less

  pub items_over : (depth : ℕ) (start ts r : List Token) (xs : List X) → ItemsRead depth start xs ts → after_end_array ts ≡ Some r → parts f depth start ≡ Some (xs, r)
  items_over depth start ts r xs i e = i.so_far ∙ ap (behind xs) (no_more depth i.turns ts r i.enough e) ∙ ap (λ ys. Some (ys, r)) (append-nil xs)
