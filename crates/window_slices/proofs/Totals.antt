-- What a window comes to is what its slices come to, merged.
use Rattle.std.proofs.Common.{◌≡◌, ℕ, ℤ, pos, ◌+◌, ◌≤ℤ◌, Bool, true, false, cond, ◌&&◌, ◌||◌, List, [], ◌∷◌, ◌++◌, map, refl, sym, ap, ◌∙◌, arith, Option, None, if◌then◌else◌}
use Rattle.std.specs.List.{All, AllByRecursion, Contains, IsDistinct, filter, fold, list_any, sum_by}
use Rattle.std.specs.Ordering.{int_eq}
use Rattle.std.proofs.lemmas.Bool.{and_parts, and_from, false_from_ne_true, both_ways}
use Rattle.std.proofs.lemmas.Cmp.{int_eq_equiv}
use Rattle.std.proofs.lemmas.List.Elements.{All-head, All-tail}
use Rattle.std.proofs.lemmas.List.Sums.{sum_by-cons, sum_by-append}
use Rattle.std.proofs.lemmas.Map.Keys.{IsDistinct-head, IsDistinct-tail}
use Rattle.std.proofs.lemmas.Map.Views.{list_any-from_Contains}
use Rattle.plain_data.specs.Record.{Record, at}
use Rattle.plan_model.specs.declared.spec.Aggregate.{Aggregate}
use Rattle.plan_model.specs.declared.spec.Pane.{Pane}
use Rattle.plan_model.specs.declared.spec.WindowSpec.{WindowSpec}
use Rattle.plan_model.specs.Bag.{IsSameBag}
use Rattle.plan_model.specs.Windows.{is_start, is_within, is_at}
use Rattle.plan_model.specs.Aggregates.{Aggregated, aggregate_of, merge}
use Rattle.plan_model.specs.Rows.{records_of}
use Rattle.plan_model.specs.Laws.{AggregatesIgnoreOrder, AggregatesMerge}
use Rattle.plan_model.proofs.Facts.{merge_assoc, merge_None, and_false}
use Rattle.window_slices.specs.Slices.{slice_start, is_in_slice}
use Rattle.window_slices.specs.Laws.{WindowsAreTheirSlices}
use Rattle.window_slices.proofs.Starts.{eq_from, eq_to}
use Rattle.window_slices.proofs.Boundaries.{windows_have_whole_slices}

-- ---- what passes one of two tests, of which nothing passes both

one_more : {X : Type 0} (f : X → ℕ) (x : X) (a b : Bool) (us vs ws : List X) → (a && b) ≡ false → sum_by f us ≡ sum_by f vs + sum_by f ws
    → sum_by f (cond (a || b) (x ∷ us) us) ≡ sum_by f (cond a (x ∷ vs) vs) + sum_by f (cond b (x ∷ ws) ws)
one_more f x true true us vs ws h e = absurd (both_ways true h refl)
one_more f x true false us vs ws h e = omega (arith, sum_by-cons f x us, sum_by-cons f x vs, e)
one_more f x false true us vs ws h e = omega (arith, sum_by-cons f x us, sum_by-cons f x ws, e)
one_more f x false false us vs ws h e = e

sums_apart : {X : Type 0} (f : X → ℕ) (s t : X → Bool) (xs : List X) → ((x : X) → (s x && t x) ≡ false)
    → sum_by f (filter (λ x. s x || t x) xs) ≡ sum_by f (filter s xs) + sum_by f (filter t xs)
sums_apart f s t [] h = refl
sums_apart f s t (x ∷ xs) h =
    one_more f x (s x) (t x) (filter (λ x. s x || t x) xs) (filter s xs) (filter t xs) (h x) (sums_apart f s t xs h)

bags_apart : {X : Type 0} (s t : X → Bool) (xs : List X) → ((x : X) → (s x && t x) ≡ false)
    → IsSameBag (filter (λ x. s x || t x) xs) (filter s xs ++ filter t xs)
bags_apart s t xs h f = sums_apart f s t xs h ∙ sym (sum_by-append f (filter s xs) (filter t xs))

-- ---- what lists of records come to, one after the other

merged_from : (ks : List Aggregate) (a : Option Aggregated) (xs : List (Option Aggregated)) → fold (merge ks) a xs ≡ merge ks a (fold (merge ks) None xs)
merged_from ks a [] = sym (merge_None ks a)
merged_from ks a (x ∷ xs) =
    merged_from ks (merge ks a x) xs ∙ merge_assoc ks a x (fold (merge ks) None xs) ∙ ap (merge ks a) (sym (merged_from ks x xs))

apart_from_each : (a b c : Bool) → (a && b) ≡ false → (a && c) ≡ false → (a && (b || c)) ≡ false
apart_from_each false b c h k = refl
apart_from_each true true c h k = h
apart_from_each true false c h k = k

apart_from_all : (a : Bool) (t : ℤ → Bool) (b : ℤ) (bs : List ℤ) → ((c : ℤ) → int_eq b c ≡ false → (a && t c) ≡ false) → AllByRecursion (λ c. int_eq b c ≡ false) bs
    → (a && list_any t bs) ≡ false
apart_from_all a t b [] h all = and_false a
apart_from_all a t b (c ∷ cs) h all = apart_from_each a (t c) (list_any t cs) (h c all.0) (apart_from_all a t b cs h all.1)

nothing : {X : Type 0} (xs : List X) → filter (λ x. false) xs ≡ []
nothing [] = refl
nothing (x ∷ xs) = nothing xs

-- what passes one of many tests, of which nothing passes two
merged : AggregatesIgnoreOrder → AggregatesMerge → (ks : List Aggregate) (s : ℤ → Record → Bool) (rs : List Record) (bs : List ℤ)
    → ((b c : ℤ) (r : Record) → int_eq b c ≡ false → (s b r && s c r) ≡ false) → IsDistinct int_eq bs
    → aggregate_of ks (filter (λ r. list_any (λ b. s b r) bs) rs) ≡ fold (merge ks) None (map (λ b. aggregate_of ks (filter (s b) rs)) bs)
merged order merges ks s rs [] apart distinct = ap (aggregate_of ks) (nothing rs)
merged order merges ks s rs (b ∷ bs) apart distinct =
    let rest = λ (r : Record). list_any (λ c. s c r) bs in
    let none : (r : Record) → (s b r && rest r) ≡ false = λ r. apart_from_all (s b r) (λ c. s c r) b bs (λ c ne. apart b c r ne) (IsDistinct-head int_eq b bs distinct) in
    order ks (filter (λ r. s b r || rest r) rs) (filter (s b) rs ++ filter rest rs) (bags_apart (s b) rest rs none)
    ∙ merges ks (filter (s b) rs) (filter rest rs)
    ∙ ap (merge ks (aggregate_of ks (filter (s b) rs))) (merged order merges ks s rs bs apart (IsDistinct-tail int_eq b bs distinct))
    ∙ sym (merged_from ks (aggregate_of ks (filter (s b) rs)) (map (λ c. aggregate_of ks (filter (s c) rs)) bs))

-- ---- the records of a window are those of its slices

slices_apart : (w : WindowSpec) (key b c : ℤ) (r : Record) → int_eq b c ≡ false → (is_in_slice w key b r && is_in_slice w key c r) ≡ false
slices_apart w key b c r ne = false_from_ne_true _ (λ h.
    let two = and_parts (is_in_slice w key b r) (is_in_slice w key c r) h in
    let own = int_eq (at w.key r) key in
    let e : slice_start w (at w.time r) ≡ b = eq_from _ _ (and_parts own (int_eq (slice_start w (at w.time r)) b) two.0).1 in
    let f : slice_start w (at w.time r) ≡ c = eq_from _ _ (and_parts own (int_eq (slice_start w (at w.time r)) c) two.1).1 in
    both_ways (int_eq b c) ne (eq_to b c (sym e ∙ f)))

-- a record of the pane is in one of its slices
any_own : (a : Bool) (t : ℤ → Bool) (bs : List ℤ) → a ≡ true → list_any t bs ≡ true → list_any (λ b. a && t b) bs ≡ true
any_own a t bs h k = rw h k

in_one : (w : WindowSpec) (q : Pane) (bs : List ℤ) (r : Record) → is_at w q r ≡ true → Contains bs (slice_start w (at w.time r)) → list_any (λ b. is_in_slice w q.key b r) bs ≡ true
in_one w q bs r h has =
    let parts = and_parts (int_eq (at w.key r) q.key) (is_within w q.start (at w.time r)) h in
    any_own (int_eq (at w.key r) q.key) (int_eq (slice_start w (at w.time r))) bs parts.0
    (list_any-from_Contains int_eq_equiv (slice_start w (at w.time r)) bs has)

-- and no other record is
none_of : (P : ℤ → Type 0) (t : ℤ → Bool) (bs : List ℤ) → ((b : ℤ) → P b → t b ≡ false) → All P bs → list_any t bs ≡ false
none_of P t [] h all = refl
none_of P t (b ∷ bs) h all = rw (h b (All-head P b bs all)) (none_of P t bs h (All-tail P b bs all))

in_none : (w : WindowSpec) (q : Pane) (bs : List ℤ) (r : Record) → pos 1 ≤ℤ w.slide → is_start w q.start ≡ true → All (λ b. is_within w q.start b ≡ true) bs
    → is_at w q r ≡ false → list_any (λ b. is_in_slice w q.key b r) bs ≡ false
in_none w q bs r slides start inside h =
    none_of (λ b. is_within w q.start b ≡ true) (λ b. is_in_slice w q.key b r) bs (λ b within. false_from_ne_true _ (λ is.
    let t = at w.time r in
    let parts = and_parts (int_eq (at w.key r) q.key) (int_eq (slice_start w t) b) is in
    let whole : is_within w q.start t ≡ true = windows_have_whole_slices w q.start t slides start ∙ ap (is_within w q.start) (eq_from _ _ parts.1) ∙ within in
    both_ways (is_at w q r) h (and_from _ _ parts.0 whole))) inside

-- two tests agree on a list where what passes the one, and has what each that it keeps has, passes the other too
agree : {X : Type 0} (p t : X → Bool) (Q : X → Type 0) → ((x : X) → p x ≡ true → Q x → t x ≡ true) → ((x : X) → p x ≡ false → t x ≡ false)
    → (xs : List X) → All Q (filter p xs) → filter p xs ≡ filter t xs
agree p t Q some none [] all = refl
agree {X} p t Q some none (x ∷ xs) all =
    (elim (p x) as (λ b. p x ≡ b → All Q (cond b (x ∷ filter p xs) (filter p xs)) → cond b (x ∷ filter p xs) (filter p xs) ≡ cond (t x) (x ∷ filter t xs) (filter t xs)) [
      | true ↦ λ e has. rw (some x e (All-head Q x (filter p xs) has)) (ap (λ (l : List X). x ∷ l) (agree p t Q some none xs (All-tail Q x (filter p xs) has)))
      | false ↦ λ e has. rw (none x e) (agree p t Q some none xs has)
    ]) refl all

pub windows_are_their_slices : AggregatesIgnoreOrder → AggregatesMerge → WindowsAreTheirSlices
windows_are_their_slices order merges w records q bs slides start are =
    let any = λ (r : Record). list_any (λ b. is_in_slice w q.key b r) bs in
    let same : records_of w q records ≡ filter any records =
    agree (is_at w q) any (λ r. Contains bs (slice_start w (at w.time r))) (λ r h has. in_one w q bs r h has) (λ r h. in_none w q bs r slides start are.inside h) records are.each in
    ap (λ (b : Bool). if b then aggregate_of w.aggregates (records_of w q records) else None) start
    ∙ ap (aggregate_of w.aggregates) same
    ∙ merged order merges w.aggregates (is_in_slice w q.key) records bs (λ b c r ne. slices_apart w q.key b c r ne) are.distinct
