-- Cuts that have the same counts for the partitions of sources.
use Rattle.std.proofs.Common.{◌≡◌, ℕ, ◌<◌, cond, refl, sym, ap, subst, ◌∙◌, inl, inr, ℤ, ◌≤ℤ◌}
use Rattle.std.proofs.lemmas.Bool.{cases_Bool}
use Rattle.plan_model.specs.declared.spec.Pane.{Pane}
use Rattle.plan_model.specs.PlanData.{PlanData}
use Rattle.dataflow_model.specs.declared.role.Role.TheVariants.{Source}
use Rattle.dataflow_model.specs.Role.{is_source}
use Rattle.dataflow_model.specs.AbstractLayout.{AbstractLayout}
use Rattle.dataflow_model.specs.Cuts.{IsMergedWatermark, records_until, aggregate_until}
use Rattle.dataflow_model.proofs.Facts.{total_same, source_yes}
use Rattle.dataflow_laws.proofs.Reader.{below}
use Rattle.dataflow_laws.proofs.Same.{same_aggregate}
use Rattle.dataflow_laws.proofs.Graph.{input_weight, read_weight}

-- two cuts agree on the partitions of sources
abbrev pub AreSameCuts : AbstractLayout → (ℕ → ℕ → ℕ) → (ℕ → ℕ → ℕ) → Type 0
AreSameCuts l c d = (t q : ℕ) → t < l.before → (l.task t).role ≡ Source → q < (l.task t).inputs → c t q ≡ d t q

pub same_merged : (l : AbstractLayout) (c d : ℕ → ℕ → ℕ) (w : ℤ) → AreSameCuts l c d → IsMergedWatermark l c w → IsMergedWatermark l d w
same_merged l c d w e m = record {
  bound = m.bound;
  below = λ t q b a k. subst (λ n. w ≤ℤ (l.task t).watermark q n) (e t q b a k) (m.below t q b a k);
  greatest = λ v top f. m.greatest v top (λ t q b a k. subst (λ n. v ≤ℤ (l.task t).watermark q n) (sym (e t q b a k)) (f t q b a k));
}

pub same_until : (p : PlanData) (l : AbstractLayout) (c d : ℕ → ℕ → ℕ) (q : Pane) → AreSameCuts l c d → aggregate_until p l c q ≡ aggregate_until p l d q
same_until p l c d q e = same_aggregate p.window q (records_until l c) (records_until l d) (λ h s.
    input_weight l h c
    ∙ total_same l.before (read_weight l h c) (read_weight l h d) (λ t m. elim (cases_Bool (is_source (l.task t).role)) [
      | inr z ↦ rw z refl
      | inl z ↦ rw z (total_same (l.task t).inputs _ _ (λ x k. ap (below (λ r. cond (l.pass r) (h r) 0) ((l.task t).entry x)) (e t x m (source_yes (l.task t).role z) k)))
    ])
    ∙ sym (input_weight l h d))
