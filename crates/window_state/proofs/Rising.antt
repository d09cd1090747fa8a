-- Panes that rise, from start to start.
use Rattle.std.proofs.Common.{◌≡◌, ℤ, Bool, true, false, ◌||◌, ◌&&◌, List, [], ◌∷◌, ◌++◌, refl, sym, ap, subst, ◌∙◌, arith}
use Rattle.std.specs.Prelude.{int_lt}
use Rattle.std.specs.Global.{Vec}
use Rattle.std.specs.List.{AllByRecursion}
use Rattle.std.specs.List.Sorted.{IsStrictlySortedBy}
use Rattle.std.specs.Map.{keys_of}
use Rattle.std.specs.Ordering.{int_cmp, int_eq, is_eq}
use Rattle.std.specs.declared.cmp.Ordering.TheVariants.{Less}
use Rattle.std.proofs.lemmas.Int.{ints}
use Rattle.plan_model.specs.declared.spec.Pane.{Pane}
use Rattle.plan_model.specs.Rows.{pane_cmp}
use Rattle.window_state.specs.Open.{has_key, panes_from}
use Rattle.window_state.specs.Windows.{has_pane}
use Rattle.window_state.proofs.Entries.{tied}
use Rattle.window_state.proofs.InOrder.{itself}
use Rattle.window_state.proofs.Starts.{has_both, panes_of_start, same_start}

less_by_start : (p q : Pane) (from : ℤ) → int_lt p.start from ≡ true → int_lt q.start from ≡ false → pane_cmp p q ≡ Less
less_by_start p q from before later = grind (arith, ints)

joined_all : (P : Pane → Type 0) (xs ys : List Pane) → AllByRecursion P xs → AllByRecursion P ys → AllByRecursion P (xs ++ ys)
joined_all P [] ys h k = k
joined_all P (x ∷ xs) ys h k = (h.0, joined_all P xs ys h.1 k)

all_later : (p : Pane) (from : ℤ) (ys : List Pane) → int_lt p.start from ≡ true → AllByRecursion (λ q. int_lt q.start from ≡ false) ys → AllByRecursion (λ q. pane_cmp p q ≡ Less) ys
all_later p from [] before h = tt
all_later p from (y ∷ ys) before h = (less_by_start p y from before h.0, all_later p from ys before h.1)

pub joined_strict : (xs ys : List Pane) (from : ℤ) → IsStrictlySortedBy pane_cmp xs → IsStrictlySortedBy pane_cmp ys → AllByRecursion (λ q. int_lt q.start from ≡ true) xs
    → AllByRecursion (λ q. int_lt q.start from ≡ false) ys → IsStrictlySortedBy pane_cmp (xs ++ ys)
unfolding IsStrictlySortedBy
joined_strict [] ys from h k before later = k
joined_strict (x ∷ xs) ys from h k before later =
    (joined_all (λ q. pane_cmp x q ≡ Less) xs ys h.0 (all_later x from ys before.0 later), joined_strict xs ys from h.1 k before.1 later)

-- ---- the panes of a start

of_panes : (P : Pane → Type 0) (ps : List Pane) → ((q : Pane) → has_pane ps q ≡ true → P q) → AllByRecursion P ps
of_panes P [] h = tt
of_panes P (p ∷ ps) h = (h p (ap (λ b. b || has_pane ps p) (tied p p ∙ itself p.start p.key)), of_panes P ps (λ q has. h q (ap (λ b. is_eq (pane_cmp q p) || b) has ∙ or_true (is_eq (pane_cmp q p)))))
  where
    or_true : (b : Bool) → (b || true) ≡ true
    or_true true = refl
    or_true false = refl

by_key : (s a b : ℤ) → int_cmp a b ≡ Less → pane_cmp (record { start = s; key = a }) (record { start = s; key = b }) ≡ Less
by_key s a b h = grind (arith, ints)

keys_below : (s k : ℤ) (ks : List ℤ) → AllByRecursion (λ y. int_cmp k y ≡ Less) ks → AllByRecursion (λ q. pane_cmp (record { start = s; key = k }) q ≡ Less) (panes_from s ks)
keys_below s k [] h = tt
keys_below s k (x ∷ ks) h = (by_key s k x h.0, keys_below s k ks h.1)

start_rises : (s : ℤ) (ks : List ℤ) → IsStrictlySortedBy int_cmp ks → IsStrictlySortedBy pane_cmp (panes_from s ks)
unfolding IsStrictlySortedBy
start_rises s [] h = tt
start_rises s (k ∷ ks) h = (keys_below s k ks h.0, start_rises s ks h.1)

not_below : (s : ℤ) → int_lt s s ≡ false
not_below s = grind (arith, ints)

all_there : (s : ℤ) (ks : List ℤ) → AllByRecursion (λ q. int_lt q.start s ≡ false) (panes_from s ks)
all_there s [] = tt
all_there s (k ∷ ks) = (not_below s, all_there s ks)

-- ---- panes before the starts that are left

pub record Rises (panes : List Pane) (left : List (ℤ × Vec ℤ)) : Type 0 where
  pub strict : IsStrictlySortedBy pane_cmp panes
  pub below : (q : Pane) → has_pane panes q ≡ true → AllByRecursion (λ s. int_lt q.start s ≡ true) (keys_of left)

-- no panes do
pub none_rise : (panes : List Pane) (left : List (ℤ × Vec ℤ)) → panes ≡ [] → Rises panes left
unfolding IsStrictlySortedBy
none_rise [] left is = record { strict = tt; below = λ q has. absurd (let no : false ≡ true = has in cc) }
none_rise (p ∷ panes) left is = absurd cc

starts_above : (z s : ℤ) (es : List (ℤ × Vec ℤ)) → z ≡ s → AllByRecursion (λ y. int_cmp s y ≡ Less) (keys_of es) → AllByRecursion (λ y. int_lt z y ≡ true) (keys_of es)
starts_above z s [] same h = tt
starts_above z s (e ∷ es) same h = (above z s e.0 same h.0, starts_above z s es same h.1)
  where
    above : (z s y : ℤ) → z ≡ s → int_cmp s y ≡ Less → int_lt z y ≡ true
    above z s y same less = grind (arith, ints)

-- those of the next start behind them
pub next_rises : (so_far now : List Pane) (e : ℤ × Vec ℤ) (ks : List ℤ) (left rest : List (ℤ × Vec ℤ)) → now ≡ so_far ++ panes_from e.0 ks → left ≡ e ∷ rest
    → IsStrictlySortedBy int_cmp (keys_of left) → IsStrictlySortedBy int_cmp ks → Rises so_far left → Rises now rest
unfolding IsStrictlySortedBy
next_rises so_far now e ks [] rest is steps sorted keys h = absurd cc
next_rises so_far now e ks (x ∷ left) rest is steps sorted keys h =
    let same : x ≡ e = cc in
    let tail : left ≡ rest = cc in
    let before = of_panes (λ q. int_lt q.start e.0 ≡ true) so_far (λ q has. subst (λ (y : ℤ × Vec ℤ). int_lt q.start y.0 ≡ true) same (h.below q has).0) in
    let above = subst (λ (y : ℤ × Vec ℤ). AllByRecursion (λ z. int_cmp y.0 z ≡ Less) (keys_of left)) same sorted.0 in
    record {
      strict = subst (IsStrictlySortedBy pane_cmp) (sym is) (joined_strict so_far (panes_from e.0 ks) e.0 h.strict (start_rises e.0 ks keys) before (all_there e.0 ks));
      below = λ q has. subst (λ l. AllByRecursion (λ s. int_lt q.start s ≡ true) (keys_of l)) tail
          (by_case q above (has_pane so_far q) refl (int_eq q.start e.0) refl
          (ap (λ b. has_pane so_far q || b) (sym (panes_of_start e.0 ks q)) ∙ sym (has_both so_far (panes_from e.0 ks) q) ∙ ap (λ l. has_pane l q) (sym is) ∙ has));
    }
  where
    by_case : (q : Pane) → AllByRecursion (λ z. int_cmp e.0 z ≡ Less) (keys_of left) → (a : Bool) → has_pane so_far q ≡ a → (b : Bool) → int_eq q.start e.0 ≡ b → (a || (b && has_key q.key ks)) ≡ true
        → AllByRecursion (λ s. int_lt q.start s ≡ true) (keys_of left)
    by_case q above true here b at has = (h.below q here).1
    by_case q above false here true at has = starts_above q.start e.0 left (sym (same_start q.start e.0 at)) above
    by_case q above false here false at has = absurd (let no : false ≡ true = has in cc)

-- or none of them
pub left_rises : (panes : List Pane) (e : ℤ × Vec ℤ) (left rest : List (ℤ × Vec ℤ)) → left ≡ e ∷ rest → Rises panes left → Rises panes rest
left_rises panes e [] rest steps h = absurd cc
left_rises panes e (x ∷ left) rest steps h =
    let tail : left ≡ rest = cc in record {
      strict = h.strict;
      below = λ q has. subst (λ l. AllByRecursion (λ s. int_lt q.start s ≡ true) (keys_of l)) tail (h.below q has).1;
    }
