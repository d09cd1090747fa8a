-- Open panes by their starts: what is put in, and what is taken out.
use Rattle.std.proofs.Common.{◌≡◌, ℤ, pos, ◌+ℤ◌, ◌-ℤ◌, Bool, true, false, cond, ◌&&◌, ◌||◌, List, [], ◌∷◌, ◌++◌, ◌-◌, ◌<◌, length, slice_get, refl, sym, ap, subst, ◌∙◌, arith, Option, Some, None}
use Rattle.std.specs.Prelude.{int_le, IfSome}
use Rattle.std.specs.Global.{Vec}
use Rattle.std.specs.List.{All, AllByRecursion}
use Rattle.std.specs.List.Sorted.{IsStrictlySortedBy}
use Rattle.std.specs.Map.{keys_of, lookup, set_value}
use Rattle.std.specs.BTreeMap.{insert_entry}
use Rattle.std.specs.BTreeMap.Range.{IsLeBy, IsLtBy}
use Rattle.std.specs.Ordering.{int_cmp, int_eq, is_eq, is_gt, is_lt, match_ordering, ordering_then}
use Rattle.std.specs.declared.cmp.Ordering.{Ordering}
use Rattle.std.specs.declared.cmp.Ordering.TheVariants.{Less, Equal, Greater}
use Rattle.std.proofs.lemmas.Int.{ints}
use Rattle.std.proofs.lemmas.List.Elements.{All-nil, All-cons, All-head, All-tail}
use Rattle.std.proofs.lemmas.Option.{get_or_from_slice_get}
use Rattle.plan_model.specs.declared.spec.WindowSpec.{WindowSpec}
use Rattle.plan_model.specs.declared.spec.Pane.{Pane}
use Rattle.aggregates.specs.Kinds.{AccData}
use Rattle.plan_model.specs.Rows.{is_due, pane_cmp}
use Rattle.plan_model.proofs.Facts.{and_false, or_false}
use Rattle.window_state.specs.Windows.{has_pane, is_pane}
use Rattle.window_state.specs.Open.{has_key, has_open, panes_from}
use Rattle.window_state.proofs.Entries.{tied}

or_swap : (a b c : Bool) → (a || (b || c)) ≡ (b || (a || c))
or_swap true b c = elim b as (λ b. true ≡ (b || true)) [ true ↦ refl | false ↦ refl ]
or_swap false b c = refl

and_or : (a b c d : Bool) → ((a && (b || c)) || d) ≡ ((a && b) || ((a && c) || d))
and_or true true c d = refl
and_or true false c d = refl
and_or false b c d = refl

pub same_start : (s a : ℤ) → int_eq s a ≡ true → a ≡ s
same_start s a h = grind (arith, ints)

-- ---- keys of a start that has some

-- the keys of a start are others, and so its panes
pub has_set : (es : List (ℤ × Vec ℤ)) (s : ℤ) (old new : Vec ℤ) (q : Pane) (b : Bool) → lookup (int_eq s) es ≡ Some old → has_key q.key new.items ≡ (b || has_key q.key old.items)
    → has_open (set_value (int_eq s) es new) q ≡ ((int_eq q.start s && b) || has_open es q)
has_set [] s old new q b there is = absurd cc
has_set (e ∷ es) s old new q b there is = by_case (int_eq s e.0) refl there (λ found. has_set es s old new q b found is)
  where
    by_case : (t : Bool) → int_eq s e.0 ≡ t → cond t (Some e.1) (lookup (int_eq s) es) ≡ Some old
        → (lookup (int_eq s) es ≡ Some old → has_open (set_value (int_eq s) es new) q ≡ ((int_eq q.start s && b) || has_open es q))
        → has_open (cond t ((e.0, new) ∷ es) (e ∷ set_value (int_eq s) es new)) q ≡ ((int_eq q.start s && b) || has_open (e ∷ es) q)
    by_case true here found later =
        let start : e.0 ≡ s = same_start s e.0 here in
        let was : e.1 ≡ old = cc in
        (λ i. (int_eq q.start (start i) && is i) || has_open es q)
        ∙ and_or (int_eq q.start s) b (has_key q.key old.items) (has_open es q)
        ∙ (λ i. (int_eq q.start s && b) || ((int_eq q.start (sym start i) && has_key q.key (sym was i).items) || has_open es q))
    by_case false other found later =
        ap (λ t. (int_eq q.start e.0 && has_key q.key e.1.items) || t) (later found)
        ∙ or_swap (int_eq q.start e.0 && has_key q.key e.1.items) (int_eq q.start s && b) (has_open es q)

-- one key more behind others
pub key_more : (k x : ℤ) (keys : List ℤ) → has_key k (keys ++ x ∷ []) ≡ (int_eq k x || has_key k keys)
key_more k x [] = refl
key_more k x (y ∷ keys) = ap (λ t. int_eq k y || t) (key_more k x keys) ∙ or_swap (int_eq k y) (int_eq k x) (has_key k keys)

-- ---- a start that had none

none_equal : (s a : ℤ) (v : Vec ℤ) (rest : Option (Vec ℤ)) → int_cmp s a ≡ Equal → cond (int_eq s a) (Some v) rest ≡ None → true ≡ false
none_equal s a v rest e none = absurd (let no : Some v ≡ None = sym (ap (λ t. cond t (Some v) rest) (ap is_eq e)) ∙ none in cc)

pub has_new : (es : List (ℤ × Vec ℤ)) (s : ℤ) (v : Vec ℤ) (q : Pane) → lookup (int_eq s) es ≡ None → has_open (insert_entry int_cmp es s v) q ≡ ((int_eq q.start s && has_key q.key v.items) || has_open es q)
has_new [] s v q none = refl
has_new (e ∷ es) s v q none = by_case (int_cmp s e.0) refl (has_new es s v q)
  where
    later : int_cmp s e.0 ≡ Greater → lookup (int_eq s) es ≡ None
    later g = sym (ap (λ (o : Ordering). cond (is_eq o) (Some e.1) (lookup (int_eq s) es)) g) ∙ none

    by_case : (o : Ordering) → int_cmp s e.0 ≡ o → (lookup (int_eq s) es ≡ None → has_open (insert_entry int_cmp es s v) q ≡ ((int_eq q.start s && has_key q.key v.items) || has_open es q))
        → has_open (match_ordering o ((s, v) ∷ e ∷ es) ((e.0, v) ∷ es) (e ∷ insert_entry int_cmp es s v)) q ≡ ((int_eq q.start s && has_key q.key v.items) || has_open (e ∷ es) q)
    by_case Less l on = refl
    by_case Equal same on = absurd (let no = none_equal s e.0 e.1 (lookup (int_eq s) es) same none in cc)
    by_case Greater g on =
        ap (λ t. (int_eq q.start e.0 && has_key q.key e.1.items) || t) (on (later g))
        ∙ or_swap (int_eq q.start e.0 && has_key q.key e.1.items) (int_eq q.start s && has_key q.key v.items) (has_open es q)

-- ---- one pane more

one_key : (q p : Pane) → (int_eq q.start p.start && int_eq q.key p.key) ≡ is_pane p q
one_key q p = flip q.start p.start q.key p.key
  where
    flip : (a b c d : ℤ) → (int_eq a b && int_eq c d) ≡ (int_eq b a && int_eq d c)
    flip a b c d = grind (arith, ints)

or_if : (a b : Bool) → (a || b) ≡ cond a true b
or_if true b = refl
or_if false b = refl

pub opened_in : (es : List (ℤ × Vec ℤ)) (p q : Pane) (old new : Vec ℤ) → lookup (int_eq p.start) es ≡ Some old → new.items ≡ old.items ++ p.key ∷ []
    → has_open (set_value (int_eq p.start) es new) q ≡ cond (is_pane p q) true (has_open es q)
opened_in es p q old new there is =
    has_set es p.start old new q (int_eq q.key p.key) there (ap (has_key q.key) is ∙ key_more q.key p.key old.items)
    ∙ ap (λ t. t || has_open es q) (one_key q p) ∙ or_if (is_pane p q) (has_open es q)

pub opened_same : (es : List (ℤ × Vec ℤ)) (s : ℤ) (q : Pane) (old new : Vec ℤ) → lookup (int_eq s) es ≡ Some old → new.items ≡ old.items → has_open (set_value (int_eq s) es new) q ≡ has_open es q
opened_same es s q old new there is = has_set es s old new q false there (ap (has_key q.key) is) ∙ ap (λ t. t || has_open es q) (and_false (int_eq q.start s))

pub opened_new : (es : List (ℤ × Vec ℤ)) (p q : Pane) (new : Vec ℤ) → lookup (int_eq p.start) es ≡ None → new.items ≡ p.key ∷ []
    → has_open (insert_entry int_cmp es p.start new) q ≡ cond (is_pane p q) true (has_open es q)
opened_new es p q new none is =
    has_new es p.start new q none
    ∙ ap (λ l. (int_eq q.start p.start && has_key q.key l) || has_open es q) is
    ∙ ap (λ t. (int_eq q.start p.start && t) || has_open es q) (or_false (int_eq q.key p.key))
    ∙ ap (λ t. t || has_open es q) (one_key q p) ∙ or_if (is_pane p q) (has_open es q)

-- ---- the first start

not_later : (s a b : ℤ) → int_cmp s a ≡ Less → int_eq b s ≡ true → int_eq b a ≡ false
not_later s a b h same = grind (arith, ints)

pub none_later : (es : List (ℤ × Vec ℤ)) (s : ℤ) (q : Pane) → All (IsLtBy int_cmp s) (keys_of es) → int_eq q.start s ≡ true → has_open es q ≡ false
none_later [] s q above here = refl
none_later (e ∷ es) s q above here =
    ap (λ t. (t && has_key q.key e.1.items) || has_open es q) (not_later s e.0 q.start (All-head (IsLtBy int_cmp s) e.0 (keys_of es) above) here)
    ∙ none_later es s q (All-tail (IsLtBy int_cmp s) e.0 (keys_of es) above) here

pub first_taken : (old new : List (ℤ × Vec ℤ)) (e : ℤ × Vec ℤ) (q : Pane) → old ≡ e ∷ new → All (IsLtBy int_cmp e.0) (keys_of new) → has_open new q ≡ cond (int_eq q.start e.0) false (has_open old q)
first_taken old new e q is above = by_case (int_eq q.start e.0) refl
  where
    by_case : (t : Bool) → int_eq q.start e.0 ≡ t → has_open new q ≡ cond t false (has_open old q)
    by_case true here = none_later new e.0 q above here
    by_case false other = sym (ap (λ l. has_open l q) is ∙ ap (λ t. (t && has_key q.key e.1.items) || has_open new q) other)

pub first_those : (old new : List (ℤ × Vec ℤ)) (e : ℤ × Vec ℤ) (q : Pane) → old ≡ e ∷ new → All (IsLtBy int_cmp e.0) (keys_of new) → int_eq q.start e.0 ≡ true → has_open old q ≡ has_key q.key e.1.items
first_those old new e q is above here =
    ap (λ l. has_open l q) is
    ∙ (λ i. (here i && has_key q.key e.1.items) || none_later new e.0 q above here i)
    ∙ or_false (has_key q.key e.1.items)

-- what is popped, if anything is
pub popped_taken : (r : Option (ℤ × Vec ℤ)) (old new : List (ℤ × Vec ℤ)) → IfSome r (λ p. old ≡ p ∷ new) → IfSome r (λ p. All (IsLtBy int_cmp p.0) (keys_of new))
    → IfSome r (λ first. (q : Pane) → has_open new q ≡ cond (int_eq q.start first.0) false (has_open old q))
popped_taken None old new is above = tt
popped_taken (Some e) old new is above = λ q. first_taken old new e q is above

pub popped_those : (r : Option (ℤ × Vec ℤ)) (old new : List (ℤ × Vec ℤ)) → IfSome r (λ p. old ≡ p ∷ new) → IfSome r (λ p. All (IsLtBy int_cmp p.0) (keys_of new))
    → IfSome r (λ first. (q : Pane) → int_eq q.start first.0 ≡ true → has_open old q ≡ has_key q.key first.1.items)
popped_those None old new is above = tt
popped_those (Some e) old new is above = λ q here. first_those old new e q is above here

-- ---- windows that fire come first

not_before : (a b size t : ℤ) → int_le (a +ℤ size -ℤ pos 1) t ≡ false → is_gt (int_cmp a b) ≡ false → int_le (b +ℤ size -ℤ pos 1) t ≡ false
not_before a b size t h least = grind (arith, ints)

-- where the first does not fire, none does
pub none_due : (w : WindowSpec) (t a : ℤ) (es : List (ℤ × Vec ℤ)) → All (IsLeBy int_cmp a) (keys_of es) → is_due w t a ≡ false → All (λ e. is_due w t e.0 ≡ false) es
none_due w t a [] from h = All-nil (λ (e : ℤ × Vec ℤ). is_due w t e.0 ≡ false)
none_due w t a (e ∷ es) from h =
    All-cons (λ (e : ℤ × Vec ℤ). is_due w t e.0 ≡ false) e es (not_before a e.0 w.size t h (All-head (IsLeBy int_cmp a) e.0 (keys_of es) from))
    (none_due w t a es (All-tail (IsLeBy int_cmp a) e.0 (keys_of es) from) h)

not_after : (a b size t : ℤ) → int_le (a +ℤ size -ℤ pos 1) t ≡ true → is_lt (int_cmp a b) ≡ false → int_le (b +ℤ size -ℤ pos 1) t ≡ true
not_after a b size t h greatest = grind (arith, ints)

-- where the last fires, each does
pub all_due : (w : WindowSpec) (t a : ℤ) (es : List (ℤ × Vec ℤ)) → All (λ s. is_lt (int_cmp a s) ≡ false) (keys_of es) → is_due w t a ≡ true → All (λ e. is_due w t e.0 ≡ true) es
all_due w t a [] up h = All-nil (λ (e : ℤ × Vec ℤ). is_due w t e.0 ≡ true)
all_due w t a (e ∷ es) up h =
    All-cons (λ (e : ℤ × Vec ℤ). is_due w t e.0 ≡ true) e es (not_after a e.0 w.size t h (All-head (λ s. is_lt (int_cmp a s) ≡ false) e.0 (keys_of es) up))
    (all_due w t a es (All-tail (λ s. is_lt (int_cmp a s) ≡ false) e.0 (keys_of es) up) h)

-- and only then
pub last_due : (w : WindowSpec) (t : ℤ) (p : ℤ × Vec ℤ) (es : List (ℤ × Vec ℤ)) → slice_get es (length es - 1) ≡ Some p → All (λ e. is_due w t e.0 ≡ true) es → is_due w t p.0 ≡ true
last_due w t p [] last h = absurd cc
last_due w t p (x ∷ es) last h =
    let inside : length (x ∷ es) - 1 < length (x ∷ es) = omega arith in
    subst (λ (e : ℤ × Vec ℤ). is_due w t e.0 ≡ true) (get_or_from_slice_get (x ∷ es) (length (x ∷ es) - 1) p p last) (h (length (x ∷ es) - 1) p inside)

-- ---- the panes of a start behind others

pub panes_of_start : (s : ℤ) (keys : List ℤ) (q : Pane) → has_pane (panes_from s keys) q ≡ (int_eq q.start s && has_key q.key keys)
panes_of_start s [] q = sym (and_false (int_eq q.start s))
panes_of_start s (k ∷ keys) q =
    (λ i. tied q (record { start = s; key = k }) i || panes_of_start s keys q i)
    ∙ split (int_eq q.start s) (int_eq q.key k) (has_key q.key keys)
  where
    split : (a b c : Bool) → ((a && b) || (a && c)) ≡ (a && (b || c))
    split true b c = refl
    split false b c = refl

pub has_both : (ps more : List Pane) (q : Pane) → has_pane (ps ++ more) q ≡ (has_pane ps q || has_pane more q)
has_both [] more q = refl
has_both (p ∷ ps) more q = ap (λ t. is_eq (pane_cmp q p) || t) (has_both ps more q) ∙ or_assoc (is_eq (pane_cmp q p)) (has_pane ps q) (has_pane more q)
  where
    or_assoc : (a b c : Bool) → (a || (b || c)) ≡ ((a || b) || c)
    or_assoc true b c = refl
    or_assoc false b c = refl

-- ---- the panes of windows that fire

-- where the next start passes a test, its panes come behind those so far
pub next_taken : (d : ℤ → Bool) (so_far now : List Pane) (e : ℤ × Vec ℤ) (ks : List ℤ) (left rest : List (ℤ × Vec ℤ)) (q : Pane) → now ≡ so_far ++ panes_from e.0 ks
    → ((k : ℤ) → has_key k ks ≡ has_key k e.1.items) → left ≡ e ∷ rest
    → d e.0 ≡ true → (has_pane now q || (d q.start && has_open rest q)) ≡ (has_pane so_far q || (d q.start && has_open left q))
next_taken d so_far now e ks left rest q is same steps passes =
    ap (λ l. has_pane l q || (d q.start && has_open rest q)) is
    ∙ ap (λ b. b || (d q.start && has_open rest q))
    (has_both so_far (panes_from e.0 ks) q ∙ ap (λ b. has_pane so_far q || b) (panes_of_start e.0 ks q ∙ ap (λ b. int_eq q.start e.0 && b) (same q.key)))
    ∙ inside (has_pane so_far q) (int_eq q.start e.0) (has_key q.key e.1.items) (d q.start) (has_open rest q) (λ here. ap d (sym (same_start q.start e.0 here)) ∙ passes)
    ∙ ap (λ l. has_pane so_far q || (d q.start && has_open l q)) (sym steps)
  where
    inside : (x b k d r : Bool) → (b ≡ true → d ≡ true) → ((x || (b && k)) || (d && r)) ≡ (x || (d && ((b && k) || r)))
    inside true b k d r h = refl
    inside false false k d r h = refl
    inside false true k true r h = refl
    inside false true k false r h = absurd (let no = h refl in cc)

-- and where it fails, they do not
pub next_left : (d : ℤ → Bool) (so_far : List Pane) (e : ℤ × Vec ℤ) (left rest : List (ℤ × Vec ℤ)) (q : Pane) → left ≡ e ∷ rest → d e.0 ≡ false
    → (has_pane so_far q || (d q.start && has_open rest q)) ≡ (has_pane so_far q || (d q.start && has_open left q))
next_left d so_far e left rest q steps fails =
    ap (λ b. has_pane so_far q || b) (outside (int_eq q.start e.0) (has_key q.key e.1.items) (d q.start) (has_open rest q) (λ here. ap d (sym (same_start q.start e.0 here)) ∙ fails))
    ∙ ap (λ l. has_pane so_far q || (d q.start && has_open l q)) (sym steps)
  where
    outside : (b k d r : Bool) → (b ≡ true → d ≡ false) → (d && r) ≡ (d && ((b && k) || r))
    outside b k false r h = refl
    outside false k true r h = refl
    outside true k true r h = absurd (let no = h refl in cc)

-- then there are no more
pub no_more : (d : ℤ → Bool) (panes : List Pane) (left : List (ℤ × Vec ℤ)) (q : Pane) → left ≡ [] → has_pane panes q ≡ (has_pane panes q || (d q.start && has_open left q))
no_more d panes left q end = sym (ap (λ l. has_pane panes q || (d q.start && has_open l q)) end ∙ ap (λ b. has_pane panes q || b) (and_false (d q.start)) ∙ or_false (has_pane panes q))

later_not : (a b size t : ℤ) → int_le (a +ℤ size -ℤ pos 1) t ≡ false → int_cmp a b ≡ Less → int_le (b +ℤ size -ℤ pos 1) t ≡ false
later_not a b size t h less = grind (arith, ints)

none_after : (w : WindowSpec) (t a : ℤ) (es : List (ℤ × Vec ℤ)) → AllByRecursion (λ s. int_cmp a s ≡ Less) (keys_of es) → is_due w t a ≡ false → All (λ e. is_due w t e.0 ≡ false) es
none_after w t a [] less h = All-nil (λ (e : ℤ × Vec ℤ). is_due w t e.0 ≡ false)
none_after w t a (e ∷ es) less h = All-cons (λ (e : ℤ × Vec ℤ). is_due w t e.0 ≡ false) e es (later_not a e.0 w.size t h less.0) (none_after w t a es less.1 h)

pub none_from : (w : WindowSpec) (t : ℤ) (e : ℤ × Vec ℤ) (es : List (ℤ × Vec ℤ)) → IsStrictlySortedBy int_cmp (keys_of (e ∷ es)) → is_due w t e.0 ≡ false → All (λ e. is_due w t e.0 ≡ false) (e ∷ es)
unfolding IsStrictlySortedBy
none_from w t e es sorted h = All-cons (λ (e : ℤ × Vec ℤ). is_due w t e.0 ≡ false) e es h (none_after w t e.0 es sorted.0 h)

-- starts that do not fire have no pane that does
pub due_none : (w : WindowSpec) (t : ℤ) (es : List (ℤ × Vec ℤ)) (q : Pane) → All (λ e. is_due w t e.0 ≡ false) es → (is_due w t q.start && has_open es q) ≡ false
due_none w t [] q none = and_false (is_due w t q.start)
due_none w t (e ∷ es) q none =
    by_case (int_eq q.start e.0) (has_key q.key e.1.items) (is_due w t q.start) (has_open es q)
    (λ here. ap (is_due w t) (sym (same_start q.start e.0 here)) ∙ All-head (λ (e : ℤ × Vec ℤ). is_due w t e.0 ≡ false) e es none)
    (due_none w t es q (All-tail (λ (e : ℤ × Vec ℤ). is_due w t e.0 ≡ false) e es none))
  where
    by_case : (b k d r : Bool) → (b ≡ true → d ≡ false) → (d && r) ≡ false → (d && ((b && k) || r)) ≡ false
    by_case false k d r h later = later
    by_case true k false r h later = refl
    by_case true k true r h later = absurd (let no = h refl in cc)

-- then those so far are all
pub all_so_far : (w : WindowSpec) (t : ℤ) (panes : List Pane) (left all : List (ℤ × Vec ℤ)) (q : Pane) → All (λ e. is_due w t e.0 ≡ false) left
    → (has_pane panes q || (is_due w t q.start && has_open left q)) ≡ (is_due w t q.start && has_open all q) → has_pane panes q ≡ (is_due w t q.start && has_open all q)
all_so_far w t panes left all q none so_far = sym (or_false (has_pane panes q)) ∙ ap (λ b. has_pane panes q || b) (sym (due_none w t left q none)) ∙ so_far

pub starts_left : (e : ℤ × Vec ℤ) (left rest : List (ℤ × Vec ℤ)) → IsStrictlySortedBy int_cmp (keys_of left) → left ≡ e ∷ rest → IsStrictlySortedBy int_cmp (keys_of rest)
unfolding IsStrictlySortedBy
starts_left e [] rest sorted is = absurd cc
starts_left e (x ∷ left) rest sorted is = let same : left ≡ rest = cc in subst (λ l. IsStrictlySortedBy int_cmp (keys_of l)) same sorted.1

-- ---- what is taken out of the places

key_gone_by : (a b c : Bool) (o : Option AccData) → cond (a && b) None (cond (a && c) None o) ≡ cond (a && (b || c)) None o
key_gone_by false b c o = refl
key_gone_by true true c o = refl
key_gone_by true false c o = refl

-- one key more of a start
pub key_gone : (s k : ℤ) (keys : List ℤ) (q : Pane) (o : Option AccData)
    → cond (is_pane (record { start = s; key = k }) q) None (cond (int_eq q.start s && has_key q.key keys) None o) ≡ cond (int_eq q.start s && has_key q.key (keys ++ k ∷ [])) None o
key_gone s k keys q o =
    ap (λ b. cond b None (cond (int_eq q.start s && has_key q.key keys) None o)) (sym (one_key q (record { start = s; key = k })))
    ∙ key_gone_by (int_eq q.start s) (int_eq q.key k) (has_key q.key keys) o
    ∙ ap (λ b. cond (int_eq q.start s && b) None o) (sym (key_more q.key k keys))

-- ---- panes that all fire

has_itself : (p : Pane) (ps : List Pane) → has_pane (p ∷ ps) p ≡ true
has_itself p ps = ap (λ b. b || has_pane ps p) (same p.start p.key)
  where
    same : (a b : ℤ) → is_eq (ordering_then (int_cmp a a) (int_cmp b b)) ≡ true
    same a b = grind (arith, ints)

-- what is so of each pane that is among them
pub each_pane : (P : Pane → Type 0) (ps : List Pane) → ((q : Pane) → has_pane ps q ≡ true → P q) → All P ps
each_pane P [] h = All-nil P
each_pane P (p ∷ ps) h = All-cons P p ps (h p (has_itself p ps)) (each_pane P ps (λ q has. h q (ap (λ b. is_eq (pane_cmp q p) || b) has ∙ either (is_eq (pane_cmp q p)))))
  where
    either : (b : Bool) → (b || true) ≡ true
    either true = refl
    either false = refl

pub both_first : (a b c : Bool) → c ≡ (a && b) → c ≡ true → a ≡ true
both_first true b c is c_is = refl
both_first false b c is c_is = sym is ∙ c_is

-- what is due has an entry just where one stands
pub found_due : (a b c : Bool) → c ≡ (a && b) → a ≡ true → c ≡ b
found_due true b c is due = is
found_due false b c is due = absurd (let no = due in cc)
