-- What bytes say as a plan is one.
use Rattle.std.proofs.Common.{◌≡◌, ℕ, ℤ, pos, List, [], ◌∷◌, Option, Some, None, Result, Ok, Err, codes, FitsSigned, refl, subst}
use Rattle.std.specs.Int.{w64}
use Rattle.std.specs.List.{All}
use Rattle.std.specs.Option.{option_map_or}
use Rattle.std.proofs.lemmas.List.Elements.{All-map}
use Rattle.answers.specs.Answer.{first_unmet}
use Rattle.answers.proofs.Facts.{no_fault}
use Rattle.serde_json.specs.Data.{Data}
use Rattle.serde_json.specs.Find.{get}
use Rattle.json_parts.specs.Parts.{each_at, each_or_empty, has_only, json_of, text_at, whole, whole_at, whole_or}
use Rattle.plan_model.specs.PlanData.{IsPlan}
use Rattle.logical_plan.specs.declared.fault.PlanFault.{PlanFault}
use Rattle.logical_plan.specs.declared.fault.PlanFault.TheVariants.{NotJson, Member}
use Rattle.logical_plan.specs.declared.text.FilterText.{FilterText}
use Rattle.logical_plan.specs.declared.text.HavingText.{HavingText}
use Rattle.logical_plan.specs.declared.text.PlanText.{PlanText}
use Rattle.logical_plan.specs.declared.text.WindowText.{WindowText}
use Rattle.logical_plan.specs.PlanText.{aggregate_text, cmp_text, filter_text, having_text, plan_text, source_text, window_at, window_text}
use Rattle.logical_plan.specs.Requirements.{requirements}
use Rattle.logical_plan.specs.Answer.{filter_data, having_data, plan_data, plan_of_bytes, plan_of_json, plan_or_fault}
use Rattle.logical_plan.specs.Laws.{SaidIsPlan}
use Rattle.logical_plan.proofs.Fits.{Fits, and_then_parts, get_fits, if_parts, list_at_holds, said_fits, same_some, whole_fits}
use Rattle.logical_plan.proofs.Meets.{is_plan, meets}

whole_at_fits : (name : List ℕ) (d : Data) (z : ℤ) → Fits d → whole_at name d ≡ Some z → FitsSigned w64 z
unfolding whole_at
whole_at_fits name d z fit h =
    let (e, there, is) = and_then_parts whole (get name d) z h in
    whole_fits e z (get_fits name d e fit there) is

filter_fits : (d : Data) (f : FilterText) → Fits d → filter_text d ≡ Some f → FitsSigned w64 f.value
unfolding filter_text
filter_fits d f fit h =
    let all = if_parts (has_only (codes "uid" ∷ codes "column" ∷ codes "op" ∷ codes "value" ∷ []) d) _ f h in
    let (uid, a, of_uid) = and_then_parts _ (text_at (codes "uid") d) f all in
    let (column, b, of_column) = and_then_parts _ (whole_at (codes "column") d) f of_uid in
    let (cmp, c, of_cmp) = and_then_parts _ (cmp_text d) f of_column in
    let (value, there, is) = and_then_parts _ (whole_at (codes "value") d) f of_cmp in
    subst (λ (x : FilterText). FitsSigned w64 x.value) (same_some _ f is) (whole_at_fits (codes "value") d value fit there)

having_fits : (d : Data) (x : HavingText) → Fits d → having_text d ≡ Some x → FitsSigned w64 x.value
unfolding having_text
having_fits d x fit h =
    let all = if_parts (has_only (codes "aggregate" ∷ codes "op" ∷ codes "value" ∷ []) d) _ x h in
    let (aggregate, a, of_aggregate) = and_then_parts _ (whole_at (codes "aggregate") d) x all in
    let (cmp, b, of_cmp) = and_then_parts _ (cmp_text d) x of_aggregate in
    let (value, there, is) = and_then_parts _ (whole_at (codes "value") d) x of_cmp in
    subst (λ (y : HavingText). FitsSigned w64 y.value) (same_some _ x is) (whole_at_fits (codes "value") d value fit there)

window_fits : (d : Data) (w : WindowText) → Fits d → window_text d ≡ Some w → All (λ x. FitsSigned w64 x.value) w.having
unfolding window_text
window_fits d w fit h =
    let all = if_parts (has_only (codes "uid" ∷ codes "size" ∷ codes "slide" ∷ codes "offset" ∷ codes "aggregates" ∷ codes "having" ∷ []) d) _ w h in
    let (uid, a, of_uid) = and_then_parts _ (text_at (codes "uid") d) w all in
    let (size, b, of_size) = and_then_parts _ (whole_at (codes "size") d) w of_uid in
    let (slide, c, of_slide) = and_then_parts _ (whole_or (codes "slide") size d) w of_size in
    let (offset, e, of_offset) = and_then_parts _ (whole_or (codes "offset") (pos 0) d) w of_slide in
    let (aggregates, g, of_aggregates) = and_then_parts _ (each_at aggregate_text (codes "aggregates") d) w of_offset in
    let (having, there, is) = and_then_parts _ (each_or_empty having_text (codes "having") d) w of_aggregates in
    subst (λ (x : WindowText). All (λ y. FitsSigned w64 y.value) x.having) (same_some _ w is)
    (list_at_holds having_text (λ x. FitsSigned w64 x.value) having_fits (codes "having") d having fit there)

window_at_fits : (d : Data) (w : WindowText) → Fits d → window_at d ≡ Some w → All (λ x. FitsSigned w64 x.value) w.having
unfolding window_at
window_at_fits d w fit h =
    let (e, there, is) = and_then_parts window_text (get (codes "window") d) w h in
    window_fits e w (get_fits (codes "window") d e fit there) is

-- the numbers of a plan that no requirement bounds
record AreFit (t : PlanText) : Type 0 where
  filters : All (λ f. FitsSigned w64 f.value) t.filters
  having : All (λ x. FitsSigned w64 x.value) t.window.having

plan_fits : (d : Data) (t : PlanText) → Fits d → plan_text d ≡ Some t → AreFit t
unfolding plan_text
plan_fits d t fit h =
    let all = if_parts (has_only (codes "columns" ∷ codes "maxParallelism" ∷ codes "time" ∷ codes "key" ∷ codes "sources" ∷ codes "filters" ∷ codes "window" ∷ []) d) _ t h in
    let (columns, a, of_columns) = and_then_parts _ (whole_at (codes "columns") d) t all in
    let (max, b, of_max) = and_then_parts _ (whole_at (codes "maxParallelism") d) t of_columns in
    let (time, c, of_time) = and_then_parts _ (whole_at (codes "time") d) t of_max in
    let (key, e, of_key) = and_then_parts _ (whole_at (codes "key") d) t of_time in
    let (sources, g, of_sources) = and_then_parts _ (each_at source_text (codes "sources") d) t of_key in
    let (filters, some, of_filters) = and_then_parts _ (each_or_empty filter_text (codes "filters") d) t of_sources in
    let (window, last, is) = and_then_parts _ (window_at d) t of_filters in
    subst AreFit (same_some _ t is)
    (record {
      filters = list_at_holds filter_text (λ f. FitsSigned w64 f.value) filter_fits (codes "filters") d filters fit some;
      having = window_at_fits d window fit last;
    })

-- ---- a plan

or_fault : {X Y : Type 0} (f : X → Result Y PlanFault) (o : Option X) (fault : PlanFault) (y : Y) → option_map_or f o (Err fault) ≡ Ok y → (x : X) × (o ≡ Some x) × (f x ≡ Ok y)
or_fault f None fault y h = absurd (cc)
or_fault f (Some x) fault y h = (x, refl, h)

pub said_is_plan : SaidIsPlan
unfolding plan_of_bytes plan_of_json
said_is_plan bytes p h =
    let (d, read, of_json) = or_fault plan_of_json (json_of bytes) NotJson p h in
    let (t, said, of_text) = or_fault plan_or_fault (plan_text d) Member p of_json in
    let (none, is) = no_fault (first_unmet requirements t) (plan_data t) p of_text in
    let fit = plan_fits d t (said_fits bytes d read) said in
    subst IsPlan is
    (is_plan t (meets t none) (All-map (λ f. FitsSigned w64 f.value) filter_data t.filters fit.filters) (All-map (λ x. FitsSigned w64 x.value) having_data t.window.having fit.having))
