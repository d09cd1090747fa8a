-- Records of which some are listed first, and brought in together later.
use Rattle.std.proofs.Common.{◌≡◌, ◌∙◌, ℕ, ℤ, pos, ◌+◌, ◌++◌, ◌-ℤ◌, ◌^◌, ◌<◌, ◌≤◌, Bool, true, false, cond, List, [], ◌∷◌, take, get_or, length, refl, sym, ap, subst, arith, Option, Some, None, FitsSigned, to_z, of_z}
use Rattle.std.specs.Global.{Vec}
use Rattle.std.specs.Option.{is_some}
use Rattle.std.specs.Int.{w64, int_min, int_max, int_rem_euclid}
use Rattle.std.proofs.lemmas.Int.{ints, clamps}
use Rattle.std.proofs.lemmas.List.{map-append, take_more}
use Rattle.plain_data.specs.Record.{Record, at}
use Rattle.plan_model.specs.declared.spec.Aggregate.{Aggregate}
use Rattle.plan_model.specs.declared.spec.Aggregate.TheVariants.{Count, Sum, Least, Greatest}
use Rattle.plan_model.specs.declared.spec.WindowSpec.{WindowSpec}
use Rattle.plan_model.specs.declared.spec.Pane.{Pane}
use Rattle.plan_model.specs.PlanData.{IsWindow}
use Rattle.plan_model.specs.Windows.{IsTime}
use Rattle.plan_model.specs.Aggregates.{Aggregated, aggregate_of, merge, merge_number, merge_numbers}
use Rattle.plan_model.specs.Rows.{aggregate_at}
use Rattle.plan_model.proofs.Facts.{aggregate_at-append, count_or, count_at, merge_assoc, merge_None}
use Rattle.place_words.specs.declared.words.PlacedRow.{PlacedRow}
use Rattle.window_state.specs.Placing.{last_pane, records_placed}
use Rattle.aggregates.specs.Kinds.{AccData}
use Rattle.window_state.specs.Open.{has_open, AreOpen}
use Rattle.window_state.specs.State.{HasRoom}
use Rattle.window_state.specs.Windows.{acc_at, is_pane, total_at, IsStart}
use Rattle.window_state.proofs.RecordsPlaced.{at_last}
use Rattle.window_state.proofs.Slides.{held, key_is, rows_step, sliding_by, start_in_range, start_is, Sliding}
use Rattle.window_state.proofs.Standing.{some_total}
use Rattle.window_state.proofs.Updates.{pane_from_test}

-- ---- merging is commutative

add_comm : (a b : ℤ) → merge_number Count a b ≡ merge_number Count b a
add_comm a b = omega (arith, ints)

min_comm : (a b : ℤ) → int_min a b ≡ int_min b a
min_comm a b = omega (arith, ints, clamps)

max_comm : (a b : ℤ) → int_max a b ≡ int_max b a
max_comm a b = omega (arith, ints, clamps)

merge_number_comm : (k : Aggregate) (a b : ℤ) → merge_number k a b ≡ merge_number k b a
merge_number_comm Count a b = add_comm a b
merge_number_comm (Sum c) a b = add_comm a b
merge_number_comm (Least c) a b = min_comm a b
merge_number_comm (Greatest c) a b = max_comm a b

merge_numbers_comm : (ks : List Aggregate) (xs ys : List ℤ) → merge_numbers ks xs ys ≡ merge_numbers ks ys xs
merge_numbers_comm [] xs ys = refl
merge_numbers_comm (k ∷ ks) [] [] = refl
merge_numbers_comm (k ∷ ks) [] (y ∷ ys) = refl
merge_numbers_comm (k ∷ ks) (x ∷ xs) [] = refl
merge_numbers_comm (k ∷ ks) (x ∷ xs) (y ∷ ys) = λ i. merge_number_comm k x y i ∷ merge_numbers_comm ks xs ys i

merge_comm : (ks : List Aggregate) (a b : Option Aggregated) → merge ks a b ≡ merge ks b a
merge_comm ks None None = refl
merge_comm ks None (Some b) = refl
merge_comm ks (Some a) None = refl
merge_comm ks (Some a) (Some b) =
    let count : a.count + b.count ≡ b.count + a.count = omega arith in
    λ i. Some (record { count = count i; numbers = merge_numbers_comm ks a.numbers b.numbers i })

-- ---- a record that is the first of its pane, where windows are as long as their slide

pub put_first : (w : WindowSpec) (r : Record) (p q : Pane) (before : Pane → Option Aggregated) (after : Option Aggregated) → IsWindow w → w.slide ≡ w.size → p ≡ last_pane w r → before p ≡ None
    → after ≡ cond (is_pane p q) (aggregate_of w.aggregates (r ∷ [])) (before q) → after ≡ merge w.aggregates (before q) (aggregate_at w (r ∷ []) q)
put_first w r p q before after range one is none put =
    put ∙ by_case (is_pane p q) refl
    ∙ sym (ap (merge w.aggregates (before q)) (at_last w r q range one ∙ ap (λ x. cond (is_pane x q) (aggregate_of w.aggregates (r ∷ [])) None) (sym is)))
  where
    by_case : (b : Bool) → is_pane p q ≡ b → cond b (aggregate_of w.aggregates (r ∷ [])) (before q) ≡ merge w.aggregates (before q) (cond b (aggregate_of w.aggregates (r ∷ [])) None)
    by_case true here = sym (ap (λ x. merge w.aggregates x (aggregate_of w.aggregates (r ∷ []))) (ap before (sym (pane_from_test p q here)) ∙ none))
    by_case false other = sym (merge_None w.aggregates (before q))

-- ---- what stands in a pane, with the listed records

-- the records of the rows, with one more
pub listed_more : (records : List Record) (rows : List PlacedRow) (row : PlacedRow) → records_placed records (rows ++ row ∷ []) ≡ records_placed records rows ++ get_or records row.row [] ∷ []
listed_more records rows row = map-append (λ (r : PlacedRow). get_or records r.row []) rows (row ∷ [])

-- a record is listed
pub step_listed : (w : WindowSpec) (rs ls : List Record) (i : ℕ) (old now : Option Aggregated) (q : Pane) → i < length rs
    → merge w.aggregates now (aggregate_at w ls q) ≡ merge w.aggregates old (aggregate_at w (take i rs) q)
    → merge w.aggregates now (aggregate_at w (ls ++ get_or rs i [] ∷ []) q) ≡ merge w.aggregates old (aggregate_at w (take (i + 1) rs) q)
step_listed w rs ls i old now q h is =
    let one = aggregate_at w (get_or rs i [] ∷ []) q in
    rows_step w rs i old (merge w.aggregates now (aggregate_at w ls q)) (merge w.aggregates now (aggregate_at w (ls ++ get_or rs i [] ∷ []) q)) q h is
    (ap (merge w.aggregates now) (aggregate_at-append w ls (get_or rs i [] ∷ []) q) ∙ sym (merge_assoc w.aggregates now (aggregate_at w ls q) one))

-- a record is brought in, beside those
pub step_first : (w : WindowSpec) (rs ls : List Record) (i : ℕ) (old now after : Option Aggregated) (q : Pane) → i < length rs
    → merge w.aggregates now (aggregate_at w ls q) ≡ merge w.aggregates old (aggregate_at w (take i rs) q)
    → after ≡ merge w.aggregates now (aggregate_at w (get_or rs i [] ∷ []) q)
    → merge w.aggregates after (aggregate_at w ls q) ≡ merge w.aggregates old (aggregate_at w (take (i + 1) rs) q)
step_first w rs ls i old now after q h is more =
    let ks = w.aggregates in
    let one = aggregate_at w (get_or rs i [] ∷ []) q in
    let listed = aggregate_at w ls q in
    rows_step w rs i old (merge ks now listed) (merge ks after listed) q h is
    (ap (λ o. merge ks o listed) more ∙ merge_assoc ks now one listed ∙ ap (merge ks now) (merge_comm ks one listed) ∙ sym (merge_assoc ks now listed one))

-- the pane has some of the records wherever it has some of the listed ones
abbrev pub Has : Option Aggregated → Option Aggregated → Type 0
Has listed all = is_some listed ≡ true → is_some all ≡ true

has_both : (ks : List Aggregate) (listed all one : Option Aggregated) → Has listed all → Has (merge ks listed one) (merge ks all one)
has_both ks listed (Some a) None has some = refl
has_both ks listed (Some a) (Some b) has some = refl
has_both ks None None one has some = some
has_both ks (Some l) None one has some = absurd (let no : false ≡ true = has refl in cc)

has_more : (ks : List Aggregate) (listed all one : Option Aggregated) → Has listed all → Has listed (merge ks all one)
has_more ks listed (Some a) None has some = refl
has_more ks listed (Some a) (Some b) has some = refl
has_more ks None None one has some = absurd cc
has_more ks (Some l) None one has some = absurd (let no : false ≡ true = has refl in cc)

taken : (w : WindowSpec) (rs : List Record) (i : ℕ) (q : Pane) → i < length rs
    → aggregate_at w (take (i + 1) rs) q ≡ merge w.aggregates (aggregate_at w (take i rs) q) (aggregate_at w (get_or rs i [] ∷ []) q)
taken w rs i q h = ap (λ l. aggregate_at w l q) (take_more rs i [] h) ∙ aggregate_at-append w (take i rs) (get_or rs i [] ∷ []) q

pub has_listed : (w : WindowSpec) (rs ls : List Record) (i : ℕ) (q : Pane) → i < length rs → Has (aggregate_at w ls q) (aggregate_at w (take i rs) q)
    → Has (aggregate_at w (ls ++ get_or rs i [] ∷ []) q) (aggregate_at w (take (i + 1) rs) q)
has_listed w rs ls i q h has some =
    let one = aggregate_at w (get_or rs i [] ∷ []) q in
    ap is_some (taken w rs i q h)
    ∙ has_both w.aggregates (aggregate_at w ls q) (aggregate_at w (take i rs) q) one has (sym (ap is_some (aggregate_at-append w ls (get_or rs i [] ∷ []) q)) ∙ some)

pub has_first : (w : WindowSpec) (rs ls : List Record) (i : ℕ) (q : Pane) → i < length rs → Has (aggregate_at w ls q) (aggregate_at w (take i rs) q)
    → Has (aggregate_at w ls q) (aggregate_at w (take (i + 1) rs) q)
has_first w rs ls i q h has some =
    ap is_some (taken w rs i q h) ∙ has_more w.aggregates (aggregate_at w ls q) (aggregate_at w (take i rs) q) (aggregate_at w (get_or rs i [] ∷ []) q) has some

-- ---- in the end there is room for the listed records

room_at : (ks : List Aggregate) (now listed old all : Option Aggregated) → merge ks now listed ≡ merge ks old all → Has listed all → count_or all ≤ 2 ^ 41
    → ((x y : Aggregated) → old ≡ Some x → all ≡ Some y → x.count + y.count ≤ 2 ^ 41) → (a b : Aggregated) → now ≡ Some a → listed ≡ Some b → a.count + b.count ≤ 2 ^ 41
room_at ks now listed old None is has few room a b there reached = absurd (let no : false ≡ true = has (ap is_some reached) in cc)
room_at ks now listed None (Some y) is has few room a b there reached =
    let counted : a.count + b.count ≡ y.count = sym (λ i. count_or (merge ks (there i) (reached i))) ∙ ap count_or is in
    omega (arith, counted, few)
room_at ks now listed (Some x) (Some y) is has few room a b there reached =
    let counted : a.count + b.count ≡ x.count + y.count = sym (λ i. count_or (merge ks (there i) (reached i))) ∙ ap count_or is in
    omega (arith, counted, room x y refl refl)

pub room_listed : (w : WindowSpec) (rs ls : List Record) (old now : Pane → Option Aggregated) → length rs ≤ 2 ^ 41 → HasRoom w rs old
    → ((q : Pane) → merge w.aggregates (now q) (aggregate_at w ls q) ≡ merge w.aggregates (old q) (aggregate_at w rs q)) → ((q : Pane) → Has (aggregate_at w ls q) (aggregate_at w rs q))
    → HasRoom w ls now
room_listed w rs ls old now few room is has q =
    room_at w.aggregates (now q) (aggregate_at w ls q) (old q) (aggregate_at w rs q) (is q) (has q) (omega (arith, count_at w rs q, few)) (room q)

-- ---- the panes that have a place

-- a pane that has a place now and had none has the start of a window
abbrev pub StartsNew : List (Pane × AccData) → List (Pane × AccData) → Type 0
StartsNew old now = (q : Pane) → is_some (acc_at now q) ≡ true → is_some (acc_at old q) ≡ false → IsStart q.start

pub starts_more : (old now after : List (Pane × AccData)) (p : Pane) → IsStart p.start → StartsNew old now
    → ((q : Pane) → is_some (acc_at after q) ≡ cond (is_pane p q) true (is_some (acc_at now q))) → StartsNew old after
starts_more old now after p start starts put q some none = by_case (is_pane p q) refl (sym (put q) ∙ some)
  where
    by_case : (b : Bool) → is_pane p q ≡ b → cond b true (is_some (acc_at now q)) ≡ true → IsStart q.start
    by_case true here there = subst (λ (x : Pane). IsStart x.start) (pane_from_test p q here) start
    by_case false other there = starts q there none

-- what has a place is open, once its pane is
pub open_more : (opened after_opened : List (ℤ × Vec ℤ)) (now after : List (Pane × AccData)) (p : Pane) → AreOpen opened (total_at now)
    → ((q : Pane) → has_open after_opened q ≡ cond (is_pane p q) true (has_open opened q))
    → ((q : Pane) → is_some (acc_at after q) ≡ cond (is_pane p q) true (is_some (acc_at now q))) → AreOpen after_opened (total_at after)
open_more opened after_opened now after p are opens put q some = by_case (is_pane p q) refl (sym (put q) ∙ sym (some_total (acc_at after q)) ∙ some)
  where
    by_case : (b : Bool) → is_pane p q ≡ b → cond b true (is_some (acc_at now q)) ≡ true → has_open after_opened q ≡ true
    by_case true here there = opens q ∙ ap (λ b. cond b true (has_open opened q)) here
    by_case false other there = opens q ∙ ap (λ b. cond b true (has_open opened q)) other ∙ are q (some_total (acc_at now q) ∙ there)

-- ---- the pane of a record, as the code computes it

abbrev pub pane_held : ℤ → ℤ → ℕ → Pane
pane_held time key rest = record { start = to_z w64 (of_z w64 (to_z w64 (of_z w64 time) -ℤ to_z w64 rest)); key = to_z w64 (of_z w64 key) }

-- the pane is that of the last window of the record's time
pub record Lands (w : WindowSpec) (r : Record) (p : Pane) : Type 0 where
  pub pane : p ≡ last_pane w r
  pub start : IsStart p.start

pub lands : (w held_w : WindowSpec) (r : Record) (time key : ℤ) (rest : ℕ) → IsWindow w → IsTime (at w.time r) → FitsSigned w64 time → FitsSigned w64 key → time ≡ at w.time r → key ≡ at w.key r
    → held_w ≡ w → int_rem_euclid (to_z w64 (of_z w64 time) -ℤ held_w.offset) held_w.slide ≡ pos rest → Lands w r (pane_held time key rest)
lands w held_w r time key rest range in_time time_fits key_fits time_is key_is_at same back =
    let rem : int_rem_euclid (at w.time r -ℤ w.offset) w.slide ≡ pos rest = sym (λ i. int_rem_euclid (key_is (at w.time r) time time_fits time_is i -ℤ (same i).offset) (same i).slide) ∙ back in
    let s : Sliding w r (held w.slide) (held w.size) rest = sliding_by w w r rest refl range rem in
    let start = start_is (at w.time r) time rest time_fits time_is in_time (omega (arith, s.low, s.slide_small)) in
    record {
      pane = λ i. record { start = (start ∙ ap (λ (z : ℤ). at w.time r -ℤ z) (sym rem)) i; key = key_is (at w.key r) key key_fits key_is_at i };
      start = subst IsStart (sym start) (start_in_range (at w.time r) rest in_time (omega (arith, s.low, s.slide_small)));
    }
