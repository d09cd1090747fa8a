-- The rows on all parts are those on the whole.
use Rattle.std.proofs.Common.{◌≡◌, ◌≢◌, ℕ, zero, suc, ◌<◌, ◌≤◌, ℤ, Bool, List, [], ◌∷◌, ◌++◌, length, get_or, None, refl, sym, ap, ◌∙◌, arith, if◌then◌else◌}
use Rattle.std.specs.List.{filter, flat_map}
use Rattle.std.specs.Option.{option_to_list}
use Rattle.std.proofs.lemmas.Bool.{eq-eqb, ne_eqb}
use Rattle.std.proofs.lemmas.List.{append-nil}
use Rattle.std.proofs.lemmas.List.Elements.{filter-append}
use Rattle.std.proofs.Math.Nat.{mod-lt}
use Rattle.key_groups.proofs.Facts.{share_below}
use Rattle.key_groups.specs.Groups.{key_group}
use Rattle.plan_model.specs.PlanData.{PlanData}
use Rattle.plan_model.specs.Rows.{row_is_at}
use Rattle.stream_model.specs.PlanRows.{plan_rows}
use Rattle.input_parts.specs.Parts.{part_of_key}
use Rattle.input_parts.specs.Laws.{RowsOfPartsAreAll}
use Rattle.input_parts.proofs.Own.{parts_have_their_rows}

-- a key stands in one of the parts
in_one : (plan : PlanData) (parts : ℕ) (key : ℤ) → 1 ≤ plan.max → 1 ≤ parts → part_of_key plan parts key < parts
in_one plan parts key h k = share_below (key_group plan.max key) parts plan.max (mod-lt _ (omega arith)) k

nothing_in : {X : Type 0} (p : X → Bool) (lists : List (List X)) → ((i : ℕ) → i < length lists → filter p (get_or lists i []) ≡ []) → filter p (flat_map (λ l. l) lists) ≡ []
nothing_in p [] h = refl
nothing_in p (l ∷ ls) h = filter-append p l (flat_map (λ l. l) ls) ∙ (λ i. h 0 (omega arith) i ++ nothing_in p ls (λ n lt. h (suc n) (omega arith)) i)

-- what passes a test in one of the lists alone
one_in : {X : Type 0} (p : X → Bool) (one : List X) (k : ℕ) (lists : List (List X)) → k < length lists → filter p (get_or lists k []) ≡ one
    → ((i : ℕ) → i < length lists → i ≢ k → filter p (get_or lists i []) ≡ []) → filter p (flat_map (λ l. l) lists) ≡ one
one_in p one k [] lt here there = absurd (omega arith)
one_in p one zero (l ∷ ls) lt here there =
    filter-append p l (flat_map (λ l. l) ls)
    ∙ (λ i. here i ++ nothing_in p ls (λ n n_in. there (suc n) (omega arith) (λ e. omega arith)) i)
    ∙ append-nil one
one_in p one (suc k) (l ∷ ls) lt here there =
    filter-append p l (flat_map (λ l. l) ls)
    ∙ (λ i. there 0 (omega arith) (λ e. omega arith) i ++ one_in p one k ls (omega arith) here (λ n n_in ne. there (suc n) (omega arith) (λ e. ne (omega arith))) i)

pub rows_of_parts_are_all : RowsOfPartsAreAll
rows_of_parts_are_all plan parts input lists sound some count are q =
    let k = part_of_key plan parts q.key in
    let row = plan_rows plan input.sources q in
    let inside : k < parts = in_one plan parts q.key sound.grouped some in
    one_in (row_is_at q) (option_to_list row) k lists (omega arith)
    (are k inside q ∙ ap option_to_list (parts_have_their_rows plan parts k input q ∙ ap (λ (b : Bool). if b then row else None) (eq-eqb k k refl)))
    (λ i i_in ne. are i (omega arith) q ∙ ap option_to_list (parts_have_their_rows plan parts i input q ∙ ap (λ (b : Bool). if b then row else None) (ne_eqb k i (λ e. ne (sym e)))))
