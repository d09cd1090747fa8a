-- The rows of legs add up.
use Rattle.std.proofs.Common.{◌≡◌, ◌∙◌, Bool, true, false, ◌++◌, Option, Some, None, if◌then◌else◌, refl, sym, ap}
use Rattle.std.specs.Option.{option_and_then, option_to_list}
use Rattle.std.proofs.lemmas.List.Elements.{filter-append}
use Rattle.plan_model.specs.Rows.{is_due, kept_row, row_is_at}
use Rattle.plan_model.specs.declared.spec.Row.{Row}
use Rattle.stream_model.specs.Watermarks.{empty_cut, merged_watermark}
use Rattle.stream_model.specs.PlanRows.{plan_aggregate, plan_rows, due_rows}
use Rattle.stream_model.specs.Laws.{DueIsSettled, DueRowsStay}
use Rattle.input_flow.proofs.Facts.{empty_is_cut}
use Rattle.job_legs.specs.Laws.{EachRowAddsUp, NothingDueAtFirst, RowsAddUp}
use Rattle.stream_model.proofs.Facts.{empty_records}

joined : (due : Bool) (row later : Option Row) → (due ≡ true → (r : Row) → row ≡ Some r → later ≡ Some r) → (row ≡ None → later ≡ None)
    → option_to_list (if due then row else None) ++ option_to_list (if due then None else later) ≡ option_to_list later
joined true (Some r) later stays none = sym (ap option_to_list (stays refl r refl))
joined true None later stays none = sym (ap option_to_list (none refl))
joined false row later stays none = refl

none_of : {X : Type 0} (b : Bool) (x : Option X) → x ≡ None → (let none : Option X = None in (if b then x else none) ≡ none)
none_of true x e = e
none_of false x e = refl

pub each_row_adds_up : DueRowsStay → EachRowAddsUp
each_row_adds_up stay p i b c q input earlier cut =
    joined (is_due p.window (merged_watermark i.sources b) q.start) (plan_rows p i.sources q) (due_rows p i.sources c q)
    (λ d r e. stay p i b c q r input earlier cut (rw d e))
    (none_of (is_due p.window (merged_watermark i.sources c) q.start) (plan_rows p i.sources q))

pub rows_add_up : EachRowAddsUp → RowsAddUp
rows_add_up add p i b c before between input earlier cut due later q = filter-append (row_is_at q) before between ∙ (λ k. due q k ++ later q k) ∙ add p i b c q input earlier cut

-- where a test decides, only what it gives where it holds
if_due : {X : Type 0} (b : Bool) (x : Option X) → (b ≡ true → x ≡ None) → (let none : Option X = None in (if b then x else none) ≡ none)
if_due true x e = e refl
if_due false x e = refl

none_in : {X : Type 0} (b : Bool) → (let none : Option X = None in (if b then none else none) ≡ none)
none_in true = refl
none_in false = refl

pub nothing_due_at_first : DueIsSettled → NothingDueAtFirst
nothing_due_at_first settled p i q orderly =
    if_due (is_due p.window (merged_watermark i.sources (empty_cut i.sources)) q.start) (plan_rows p i.sources q) (λ due.
    ap (option_and_then (kept_row p.window q)) (settled p i.sources (empty_cut i.sources) q orderly (empty_is_cut i.sources) due ∙ ap (λ records. plan_aggregate p records q) (empty_records i.sources) ∙ none_in _))
