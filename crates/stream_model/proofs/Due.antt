-- What is due at a cut is settled there, and stays due: no record outside the cut lies in a window that is due.
use Rattle.std.proofs.Common.{◌≡◌, ℕ, suc, ℤ, pos, ◌+ℤ◌, ◌-ℤ◌, ◌≤ℤ◌, ◌<ℤ◌, ◌+◌, ◌<◌, ◌==◌, Bool, true, false, cond, ◌&&◌, List, [], ◌∷◌, ◌++◌, take, drop, map, length, get_or, refl, sym, ap, ◌∙◌, arith, None, if◌then◌else◌, ◌-◌, inl, inr, ◌≤◌}
use Rattle.std.specs.Int.{int_max, int_min}
use Rattle.std.specs.Int.RustNames.{int_le}
use Rattle.std.specs.List.{AllByRecursion, AllZip, filter, flat_map, fold, All}
use Rattle.std.specs.Ordering.{int_eq}
use Rattle.std.proofs.lemmas.Int.{ints, clamps}
use Rattle.std.proofs.lemmas.Bool.{ne_eqb, eq-eqb, cases_lt}
use Rattle.std.proofs.lemmas.List.{take-append-drop, length-drop, get_or-drop, append-nil, take_all}
use Rattle.std.proofs.lemmas.List.Concat.{flat_map-append}
use Rattle.std.proofs.lemmas.List.Sums.{fold-append}
use Rattle.std.proofs.lemmas.List.Elements.{All-take, All-append, All-nil, All-head, All-tail, filter-append, All-weaker}
use Rattle.std.proofs.Math.Seq.{take-add}
use Rattle.std.specs.Int.Signed.{≤ℤ_refl}
use Rattle.plain_data.proofs.Facts.{filter_turned}
use Rattle.plain_data.specs.Record.{Record, at}
use Rattle.plan_model.specs.declared.spec.WindowSpec.{WindowSpec}
use Rattle.plan_model.specs.declared.spec.Pane.{Pane}
use Rattle.plan_model.specs.PlanData.{PlanData}
use Rattle.plan_model.specs.Windows.{passes, is_start, is_at, is_within}
use Rattle.plan_model.specs.Aggregates.{aggregate_of}
use Rattle.plan_model.specs.Rows.{records_of, is_due}
use Rattle.stream_model.specs.declared.entry.Marked.{Marked}
use Rattle.stream_model.specs.InputData.{records_of_entry, records_in}
use Rattle.stream_model.specs.Watermarks.{IsOrderlyPartition, IsOrderly, IsBefore, IsCut, full_cut, merged_watermark, source_watermark, records_before, records_before_in, partition_watermark, watermark_of_entry}
use Rattle.plain_data.specs.Times.{lowest, highest}
use Rattle.stream_model.specs.PlanRows.{passing, plan_aggregate}
use Rattle.plan_model.proofs.Facts.{le_from_test}

pub le_trans_z : (a b c : ℤ) → a ≤ℤ b → b ≤ℤ c → a ≤ℤ c
le_trans_z a b c h k = omega (arith, ints)

pub le_max : (a b : ℤ) → a ≤ℤ int_max a b
le_max a b = omega (arith, ints, clamps)

-- a running greatest only rises
pub le_fold : (a : ℤ) (xs : List Marked) → a ≤ℤ fold (λ w e. int_max w (watermark_of_entry e)) a xs
le_fold a [] = omega (arith, ints)
le_fold a (x ∷ xs) = le_trans_z a (int_max a (watermark_of_entry x)) _ (le_max a (watermark_of_entry x)) (le_fold (int_max a (watermark_of_entry x)) xs)

-- a partition's watermark only rises, short of its end
pub partition_watermark-rises : (p : List Marked) (n k : ℕ) → n + k < length p → partition_watermark p n ≤ℤ partition_watermark p (n + k)
partition_watermark-rises p n k h =
    let here : (n == length p) ≡ false = ne_eqb n (length p) (λ e. omega arith) in
    let there : ((n + k) == length p) ≡ false = ne_eqb (n + k) (length p) (λ e. omega arith) in
    let step = λ (w : ℤ) (e : Marked). int_max w (watermark_of_entry e) in
    rw (here, there, take-add n k p, fold-append step lowest (take n p) (take k (drop n p))) (le_fold (fold step lowest (take n p)) (take k (drop n p)))

pub all_in : {X : Type 0} (Q : Record → Type 0) (g : X → List Record) (xs : List X) → ((k : ℕ) (d : X) → k < length xs → All Q (g (get_or xs k d))) → All Q (flat_map g xs)
all_in Q g [] h = All-nil Q
all_in Q g (x ∷ xs) h = All-append Q (g x) (flat_map g xs) (h 0 x (omega arith)) (all_in Q g xs (λ k d k_in. h (suc k) d (omega arith)))

pub filter_nothing : {X : Type 0} (p : X → Bool) (xs : List X) → All (λ x. p x ≡ false) xs → filter p xs ≡ []
filter_nothing p [] h = refl
filter_nothing p (x ∷ xs) h = ap (λ b. cond b (x ∷ filter p xs) (filter p xs)) (All-head (λ y. p y ≡ false) x xs h) ∙ filter_nothing p xs (All-tail (λ y. p y ≡ false) x xs h)

-- a time after a window's end is not in it
past_end : (w : WindowSpec) (s t : ℤ) → (s +ℤ w.size -ℤ pos 1) <ℤ t → is_within w s t ≡ false
past_end w s t h = grind (arith, ints)

pub not_at : (a b : Bool) → b ≡ false → (a && b) ≡ false
not_at false b e = refl
not_at true b e = e

lt_of_le_lt : (a b c d : ℤ) → a ≤ℤ b → b ≤ℤ c → c <ℤ d → a <ℤ d
lt_of_le_lt a b c d h k l = omega (arith, ints)

-- in one partition
one_partition : (w : WindowSpec) (q : Pane) (p : List Marked) (n : ℕ) → IsOrderlyPartition w.time p → (q.start +ℤ w.size -ℤ pos 1) ≤ℤ partition_watermark p n
    → filter (is_at w q) (records_in p) ≡ filter (is_at w q) (records_in (take n p))
one_partition w q p n orderly due =
    let test : Record → Bool = is_at w q in
    let late : All (λ r. test r ≡ false) (records_in (drop n p)) =
    all_in (λ r. test r ≡ false) records_of_entry (drop n p) (λ k d k_in.
    let inside : n + k < length p = omega (arith, length-drop n p) in
    let times : All (λ r. partition_watermark p (n + k) <ℤ at w.time r) (records_of_entry (get_or (drop n p) k d)) = rw get_or-drop (orderly (n + k) d inside) in
    All-weaker (λ r. partition_watermark p (n + k) <ℤ at w.time r) (λ r. test r ≡ false)
    (λ r later. not_at (int_eq (at w.key r) q.key) _
    (past_end w q.start (at w.time r) (lt_of_le_lt _ (partition_watermark p n) (partition_watermark p (n + k)) _ due (partition_watermark-rises p n k inside) later)))
    _ times) in
    ap (λ l. filter test (records_in l)) (sym (take-append-drop n p))
    ∙ ap (filter test) (flat_map-append records_of_entry (take n p) (drop n p))
    ∙ filter-append test (records_in (take n p)) (records_in (drop n p))
    ∙ ap (λ l. filter test (records_in (take n p)) ++ l) (filter_nothing test (records_in (drop n p)) late)
    ∙ append-nil (filter test (records_in (take n p)))

min_first : (a b c : ℤ) → c ≤ℤ int_min a b → c ≤ℤ a
min_first a b c h = omega (arith, ints, clamps)

min_second : (a b c : ℤ) → c ≤ℤ int_min a b → c ≤ℤ b
min_second a b c h = omega (arith, ints, clamps)

-- in one source
one_source : (w : WindowSpec) (q : Pane) (ps : List (List Marked)) (ns : List ℕ) → AllByRecursion (IsOrderlyPartition w.time) ps → AllZip (λ p n. n ≤ length p) ps ns
    → (q.start +ℤ w.size -ℤ pos 1) ≤ℤ source_watermark ps ns → filter (is_at w q) (records_before_in ps (map (λ p. length p) ps)) ≡ filter (is_at w q) (records_before_in ps ns)
one_source w q [] ns orderly cut due = refl
one_source w q (p ∷ ps) [] orderly cut due = absurd cut
one_source w q (p ∷ ps) (n ∷ ns) orderly cut due =
    let test : Record → Bool = is_at w q in
    ap (λ l. filter test (records_in l ++ records_before_in ps (map (λ p. length p) ps))) (take_all (length p) p (omega arith))
    ∙ filter-append test (records_in p) (records_before_in ps (map (λ p. length p) ps))
    ∙ (λ i. one_partition w q p n orderly.0 (min_first _ _ _ due) i ++ one_source w q ps ns orderly.1 cut.1 (min_second _ _ _ due) i)
    ∙ sym (filter-append test (records_in (take n p)) (records_before_in ps ns))

-- in all sources
settled : (w : WindowSpec) (q : Pane) (ss : List (List (List Marked))) (cs : List (List ℕ)) → IsOrderly w.time ss → IsCut ss cs
    → (q.start +ℤ w.size -ℤ pos 1) ≤ℤ merged_watermark ss cs → filter (is_at w q) (records_before ss (full_cut ss)) ≡ filter (is_at w q) (records_before ss cs)
settled w q [] cs orderly cut due = refl
settled w q (s ∷ ss) [] orderly cut due = absurd cut
settled w q (s ∷ ss) (c ∷ cs) orderly cut due =
    let test : Record → Bool = is_at w q in
    filter-append test (records_before_in s (map (λ p. length p) s)) (records_before ss (full_cut ss))
    ∙ (λ i. one_source w q s c orderly.0 cut.0 (min_first _ _ _ due) i ++ settled w q ss cs orderly.1 cut.1 (min_second _ _ _ due) i)
    ∙ sym (filter-append test (records_before_in s c) (records_before ss cs))

-- a window that is due at a cut has there all that it will ever have
pub due_is_settled : (plan : PlanData) (ss : List (List (List Marked))) (cut : List (List ℕ)) (q : Pane) → IsOrderly plan.window.time ss → IsCut ss cut
    → is_due plan.window (merged_watermark ss cut) q.start ≡ true → plan_aggregate plan (records_before ss (full_cut ss)) q ≡ plan_aggregate plan (records_before ss cut) q
due_is_settled plan ss cut q orderly is_cut due =
    let w = plan.window in
    let same : records_of w q (passing plan (records_before ss (full_cut ss))) ≡ records_of w q (passing plan (records_before ss cut)) =
    filter_turned (is_at w q) (passes plan.filters) (records_before ss (full_cut ss))
    ∙ ap (filter (passes plan.filters)) (settled w q ss cut orderly is_cut (le_from_test _ _ due))
    ∙ sym (filter_turned (is_at w q) (passes plan.filters) (records_before ss cut)) in
    ap (λ g. if is_start w q.start then aggregate_of w.aggregates g else None) same

-- ---- what is due stays due

min_rises : (a b c d : ℤ) → a ≤ℤ c → b ≤ℤ d → int_min a b ≤ℤ int_min c d
min_rises a b c d h k = omega (arith, ints, clamps)

max_within : (a b c : ℤ) → a ≤ℤ c → b ≤ℤ c → int_max a b ≤ℤ c
max_within a b c h k = omega (arith, ints, clamps)

fold_within : (c a : ℤ) (xs : List Marked) → a ≤ℤ c → All (λ e. watermark_of_entry e ≤ℤ c) xs → fold (λ w e. int_max w (watermark_of_entry e)) a xs ≤ℤ c
fold_within c a [] h all = h
fold_within c a (x ∷ xs) h all =
    fold_within c (int_max a (watermark_of_entry x)) xs
    (max_within a (watermark_of_entry x) c h (All-head (λ e. watermark_of_entry e ≤ℤ c) x xs all))
    (All-tail (λ e. watermark_of_entry e ≤ℤ c) x xs all)

pub lowest_highest : lowest ≤ℤ highest
lowest_highest = omega (arith, ints)

pub partition_watermark-highest : (p : List Marked) (n : ℕ) → All (λ e. watermark_of_entry e ≤ℤ highest) p → partition_watermark p n ≤ℤ highest
partition_watermark-highest p n all =
    elim (n == length p) as (λ b. (if b then highest else fold (λ w e. int_max w (watermark_of_entry e)) lowest (take n p)) ≤ℤ highest) [
      | true ↦ ≤ℤ_refl highest
      | false ↦ fold_within highest lowest (take n p) lowest_highest (All-take (λ e. watermark_of_entry e ≤ℤ highest) n p all)
    ]

partition_watermark-later : (p : List Marked) (m n : ℕ) → All (λ e. watermark_of_entry e ≤ℤ highest) p → m ≤ n → n ≤ length p → partition_watermark p m ≤ℤ partition_watermark p n
partition_watermark-later p m n all h k =
    elim (cases_lt n (length p)) [
      | inl short ↦
          let e : m + (n - m) ≡ n = omega arith in
          let inside : m + (n - m) < length p = omega arith in
          rw e at (partition_watermark-rises p m (n - m) inside)
      | inr whole ↦
          let e : (n == length p) ≡ true = eq-eqb n (length p) (omega arith) in
          rw e (partition_watermark-highest p m all)
    ]

source_watermark-later : (ps : List (List Marked)) (ms ns : List ℕ) → AllByRecursion (λ p. All (λ e. watermark_of_entry e ≤ℤ highest) p) ps → AllZip (λ m n. m ≤ n) ms ns → AllZip (λ p n. n ≤ length p) ps ns
    → source_watermark ps ms ≤ℤ source_watermark ps ns
source_watermark-later [] ms ns all before cut = ≤ℤ_refl highest
source_watermark-later (p ∷ ps) [] [] all before cut = ≤ℤ_refl highest
source_watermark-later (p ∷ ps) [] (n ∷ ns) all before cut = absurd before
source_watermark-later (p ∷ ps) (m ∷ ms) [] all before cut = absurd before
source_watermark-later (p ∷ ps) (m ∷ ms) (n ∷ ns) all before cut =
    min_rises _ _ _ _ (partition_watermark-later p m n all.0 before.0 cut.0) (source_watermark-later ps ms ns all.1 before.1 cut.1)

-- the merged watermark only rises from cut to cut
pub merged_watermark-later : (ss : List (List (List Marked))) (bs cs : List (List ℕ)) → AllByRecursion (AllByRecursion (λ p. All (λ e. watermark_of_entry e ≤ℤ highest) p)) ss → IsBefore bs cs → IsCut ss cs
    → merged_watermark ss bs ≤ℤ merged_watermark ss cs
merged_watermark-later [] bs cs all before cut = ≤ℤ_refl highest
merged_watermark-later (s ∷ ss) [] [] all before cut = ≤ℤ_refl highest
merged_watermark-later (s ∷ ss) [] (c ∷ cs) all before cut = absurd before
merged_watermark-later (s ∷ ss) (b ∷ bs) [] all before cut = absurd before
merged_watermark-later (s ∷ ss) (b ∷ bs) (c ∷ cs) all before cut =
    min_rises _ _ _ _ (source_watermark-later s b c all.0 before.0 cut.0) (merged_watermark-later ss bs cs all.1 before.1 cut.1)

test_later : (a b c : ℤ) → b ≤ℤ c → int_le a b ≡ true → int_le a c ≡ true
test_later a b c h k = grind (arith, ints)

-- what is due at a cut is due at each later one
pub due_stays : (w : WindowSpec) (ss : List (List (List Marked))) (bs cs : List (List ℕ)) (s : ℤ) → AllByRecursion (AllByRecursion (λ p. All (λ e. watermark_of_entry e ≤ℤ highest) p)) ss
    → IsBefore bs cs → IsCut ss cs → is_due w (merged_watermark ss bs) s ≡ true → is_due w (merged_watermark ss cs) s ≡ true
due_stays w ss bs cs s all before cut due =
    test_later _ (merged_watermark ss bs) (merged_watermark ss cs) (merged_watermark-later ss bs cs all before cut) due
