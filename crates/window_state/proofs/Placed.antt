-- What the places of a state keep.
use Rattle.std.proofs.Common.{◌≡◌, ℕ, ℤ, pos, negsuc, ◌+◌, ◌-◌, ◌*◌, ◌≤◌, Bool, true, false, cond, T, List, [], ◌∷◌, ◌++◌, map, length, replicate, take, min, refl, sym, ap, subst, ◌∙◌, arith, Option, Some, None, Fits, FitsSigned, to_z, of_z, nat_abs}
use lib.Signed.{non_neg}
use Rattle.std.specs.Prelude.{OnErr, OnOk}
use Rattle.std.proofs.Common.{Result, Ok, Err}
use Rattle.std.specs.Int.{w64}
use Rattle.std.specs.List.{All, IsDistinct, list_any, position}
use Rattle.std.specs.Option.{is_some}
use Rattle.std.proofs.lemmas.Int.{ints, to_z-of_z}
use Rattle.std.proofs.lemmas.List.{length-map, length-append, length-replicate, length-take}
use Rattle.byte_fields.specs.Fields.{is_i64}
use Rattle.plain_data.specs.Record.{Record}
use Rattle.plan_model.specs.declared.spec.WindowSpec.{WindowSpec}
use Rattle.plan_model.specs.declared.spec.Pane.{Pane}
use Rattle.plan_model.specs.declared.spec.Aggregate.{Aggregate}
use Rattle.plan_model.specs.Aggregates.{number_of, aggregate_of, merge}
use Rattle.aggregates.specs.declared.kind.Kind.{Kind}
use Rattle.aggregates.specs.Kinds.{AccData, IsAcc, kind_of, merge_all}
use Rattle.aggregates.proofs.Accs.{one_numbers, merge_numbers-kinds}
use Rattle.window_state.specs.Windows.{IsOperator, IsStart, acc_at, is_pane}
use Rattle.window_state.specs.Places.{ArePlaces}
use Rattle.place_words.specs.Words.{stride, word, count_of, numbers_at, acc_in, entries_in, IsWritten}
use Rattle.window_state.specs.declared.places.Places.TheInside.{Inside}
use Rattle.place_words.proofs.Numbers.{width-few}
use Rattle.window_state.proofs.Spread.{Stands, stands, writes_place, found-any, keys-entries, one_less}
use Rattle.window_state.proofs.Entries.{windows_taken, sound_taken, none_there}
use Rattle.window_state.proofs.Updates.{pane_from_test, Writes, windows_written, sound_written}

abbrev pub kinds_of : WindowSpec → List Kind
kinds_of w = map kind_of w.aggregates

pub few_words : (w : WindowSpec) (n : ℕ) → IsOperator w → n ≡ stride (kinds_of w) → n ≤ 17
few_words w n h is = omega (arith, is, width-few (kinds_of w), length-map w.aggregates kind_of, h.few)

pub no_place : (ks : List Kind) (ws : List ℤ) (ps : List Pane) (q : Pane) → list_any (is_pane q) ps ≡ false → acc_at (entries_in ks ws 0 ps) q ≡ None
no_place ks ws ps q h = none_there _ (found-any ks ws 0 ps q ∙ h)

-- the place of a pane
pub its_place : (w : WindowSpec) (n : ℕ) (ps : List Pane) (ws : List ℤ) (p : Pane) (i : ℕ) → ArePlaces w n ps ws → position (is_pane p) ps ≡ Some i → Stands (kinds_of w) ws ps n p i
its_place w n ps ws p i h index = stands (kinds_of w) ws ps n p i h.stride h.len index

pub distinct_panes : (w : WindowSpec) (n : ℕ) (ps : List Pane) (ws : List ℤ) → ArePlaces w n ps ws → IsDistinct is_pane ps
distinct_panes w n ps ws h = subst (IsDistinct is_pane) (keys-entries (kinds_of w) ws 0 ps) h.windows.distinct

-- a place's words are written
pub kept_written : (w : WindowSpec) (n : ℕ) (ps : List Pane) (ws vs : List ℤ) (p : Pane) (i : ℕ) → ArePlaces w n ps ws → Stands (kinds_of w) ws ps n p i
    → IsWritten (i * n) (i * n + stride (kinds_of w)) ws vs → IsAcc (acc_in (kinds_of w) vs (i * n)) → ArePlaces w n ps vs
kept_written w n ps ws vs p i h st written sound =
    let ks = kinds_of w in
    let writes = writes_place ks ws vs ps n p i h.stride (distinct_panes w n ps ws h) st written in
    let a = acc_in ks vs (i * n) in
    record {
      operator = h.operator;
      stride = h.stride;
      len = written.len ∙ h.len;
      windows = windows_written w p a (entries_in ks ws 0 ps) (entries_in ks vs 0 ps) writes h.windows refl (h.windows.starts p (acc_in ks ws (i * n)) st.here);
      sound = sound_written p a (entries_in ks ws 0 ps) (entries_in ks vs 0 ps) writes h.sound sound;
    }

-- a pane more has a place
pub kept_pushed : (w : WindowSpec) (n : ℕ) (ps qs : List Pane) (ws vs : List ℤ) (p : Pane) → ArePlaces w n ps ws → qs ≡ ps ++ p ∷ []
    → Writes p (acc_in (kinds_of w) vs (length ws)) (entries_in (kinds_of w) ws 0 ps) (entries_in (kinds_of w) vs 0 qs)
    → IsWritten (length ws) (length ws + stride (kinds_of w)) (ws ++ replicate n (pos 0)) vs → IsAcc (acc_in (kinds_of w) vs (length ws)) → IsStart p.start → ArePlaces w n qs vs
kept_pushed w n ps qs ws vs p h is writes written sound start =
    let ks = kinds_of w in
    let a = acc_in ks vs (length ws) in
    let more : length qs ≡ length ps + 1 = ap length is ∙ length-append ps (p ∷ []) in
    let whole : (length ps + 1) * n ≡ length ps * n + n = grind arith in
    let all : length (ws ++ replicate n (pos 0)) ≡ length ws + n = length-append ws (replicate n (pos 0)) ∙ ap (λ m. length ws + m) (length-replicate n (pos 0)) in
    record {
      operator = h.operator;
      stride = h.stride;
      len = written.len ∙ all ∙ ap (λ m. m + n) h.len ∙ sym whole ∙ ap (λ m. m * n) (sym more);
      windows = windows_written w p a (entries_in ks ws 0 ps) (entries_in ks vs 0 qs) writes h.windows refl start;
      sound = sound_written p a (entries_in ks ws 0 ps) (entries_in ks vs 0 qs) writes h.sound sound;
    }

-- a pane's place is taken
pub kept_taken : (w : WindowSpec) (n : ℕ) (ps qs : List Pane) (ws us vs : List ℤ) (p : Pane) → ArePlaces w n ps ws → length qs + 1 ≡ length ps → IsDistinct is_pane qs
    → vs ≡ take (length ws - n) us → length us ≡ length ws
    → ((q : Pane) → acc_at (entries_in (kinds_of w) vs 0 qs) q ≡ cond (is_pane p q) None (acc_at (entries_in (kinds_of w) ws 0 ps) q)) → ArePlaces w n qs vs
kept_taken w n ps qs ws us vs p h one distinct cut whole taken =
    let ks = kinds_of w in
    let m = entries_in ks ws 0 ps in
    let least : min (length ws - n) (length us) ≡ length ws - n = omega (arith, whole) in
    let fewer : length ps - 1 ≡ length qs = omega (arith, one) in
    record {
      operator = h.operator;
      stride = h.stride;
      len = ap length cut ∙ length-take (length ws - n) us ∙ least ∙ ap (λ l. l - n) h.len ∙ one_less (length ps) n (omega (arith, one)) ∙ ap (λ l. l * n) fewer;
      windows = windows_taken w p m (entries_in ks vs 0 qs) h.windows (subst (IsDistinct is_pane) (sym (keys-entries ks vs 0 qs)) distinct) taken;
      sound = sound_taken p m (entries_in ks vs 0 qs) h.sound taken;
    }

-- where it has none
pub none_taken : (m : List (Pane × AccData)) (p q : Pane) → acc_at m p ≡ None → acc_at m q ≡ cond (is_pane p q) None (acc_at m q)
none_taken m p q h = by_case (is_pane p q) refl
  where
    by_case : (b : Bool) → is_pane p q ≡ b → acc_at m q ≡ cond b None (acc_at m q)
    by_case true e = ap (acc_at m) (sym (pane_from_test p q e)) ∙ h
    by_case false e = refl

-- ---- records

-- one record makes an accumulator
pub one_sound : (w : WindowSpec) (r : Record) → IsOperator w → All (λ a. is_i64 (number_of a r []) ≡ true) w.aggregates
    → IsAcc (record { kinds = kinds_of w; total = record { count = 1; numbers = map (λ a. number_of a r []) w.aggregates } })
one_sound w r h fit = record {
  some = omega (arith, h.some, length-map w.aggregates kind_of);
  few = omega (arith, h.few, length-map w.aggregates kind_of);
  counted = omega arith;
  bounded = omega arith;
  numbers = one_numbers w.aggregates r fit;
}

-- one record more
pub total_more : (aggregates others : List Aggregate) (r : Record) (ws ms vs : List ℤ) (x : ℕ) → others ≡ aggregates → ms ≡ ws
    → count_of (word vs x) ≡ count_of (word ms x) + 1
    → (acc_in (map kind_of others) vs x).total.numbers ≡ merge_all (map kind_of others) (acc_in (map kind_of others) ms x).total.numbers (map (λ a. number_of a r []) others)
    → Some (acc_in (map kind_of aggregates) vs x).total ≡ merge aggregates (Some (acc_in (map kind_of aggregates) ws x).total) (aggregate_of aggregates (r ∷ []))
total_more aggregates others r ws ms vs x e1 e2 count numbers =
    let f = λ (a : Aggregate). number_of a r [] in
    let counts : count_of (word vs x) ≡ count_of (word ws x) + 1 = count ∙ ap (λ l. count_of (word l x) + 1) e2 in
    let all = (λ t. (acc_in (map kind_of (sym e1 t)) vs x).total.numbers) ∙ numbers ∙ (λ t. merge_all (map kind_of (e1 t)) (acc_in (map kind_of (e1 t)) (e2 t) x).total.numbers (map f (e1 t)))
    ∙ sym (merge_numbers-kinds aggregates (acc_in (map kind_of aggregates) ws x).total.numbers (map f aggregates)) in
    λ t. Some (record { count = counts t; numbers = all t })

pub some_cond : (b : Bool) (a : AccData) (o : Option AccData) → is_some (cond b (Some a) o) ≡ cond b true (is_some o)
some_cond true a o = refl
some_cond false a o = refl

-- ---- a count read

pub cast_fits : (z : ℤ) → FitsSigned w64 z → 1 ≤ count_of z → T (non_neg (to_z w64 (of_z w64 z))) × Fits w64 (nat_abs (to_z w64 (of_z w64 z)))
cast_fits (pos n) h some = subst (λ y. T (non_neg y) × Fits w64 (nat_abs y)) (sym (to_z-of_z w64 (pos n) h)) (tt, grind (arith, ints))
cast_fits (negsuc n) h some = absurd (omega (arith, some))

pub cast_is : (z : ℤ) → FitsSigned w64 z → 1 ≤ count_of z → nat_abs (to_z w64 (of_z w64 z)) ≡ count_of z
cast_is (pos n) h some = ap nat_abs (to_z-of_z w64 (pos n) h)
cast_is (negsuc n) h some = absurd (omega (arith, some))

-- what is read is what stands in the place
pub read_acc : (s : Inside) (at : ℕ) (z : ℤ) (kinds : List Kind) (numbers : List ℤ) → kinds ≡ kinds_of s.window → z ≡ word s.words.items at → FitsSigned w64 z → 1 ≤ count_of (word s.words.items at)
    → numbers ≡ numbers_at (nat_abs (to_z w64 (of_z w64 z))) (kinds_of s.window) s.words.items (at + 1)
    → acc_in (kinds_of s.window) s.words.items at ≡ record { kinds = kinds; total = record { count = nat_abs (to_z w64 (of_z w64 z)); numbers = numbers } }
read_acc s at z kinds numbers same here fits counted all =
    let count : nat_abs (to_z w64 (of_z w64 z)) ≡ count_of (word s.words.items at) =
    ap (λ y. nat_abs (to_z w64 (of_z w64 y))) here ∙ cast_is (word s.words.items at) (subst (FitsSigned w64) here fits) counted in
    sym (λ t. record { kinds = same t; total = record { count = count t; numbers = (all ∙ ap (λ n. numbers_at n (kinds_of s.window) s.words.items (at + 1)) count) t } })

pub on_err : {A B X : Type 0} (r : Result A B) → X → OnErr r X
on_err (Ok a) x = tt
on_err (Err b) x = x

pub on_ok : {A B X Y : Type 0} (r : Result A B) → (X → Y) → OnOk r X → OnOk r Y
on_ok (Ok a) f x = f x
on_ok (Err b) f x = tt
