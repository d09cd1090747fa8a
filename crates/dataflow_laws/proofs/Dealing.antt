-- A cut of an input and the same cut of a layout that deals the input.
use Rattle.std.proofs.Common.{◌≡◌, ℕ, suc, ◌<◌, ◌≤◌, false, cond, eqb, refl, sym, ap, subst, ◌∙◌, inl, inr, ℤ, ◌≤ℤ◌, ◌<ℤ◌}
use Rattle.std.proofs.lemmas.Bool.{cases_Bool, eq-eqb, ne_eqb, eqb-true}
use Rattle.std.specs.Int.{int_max}
use Rattle.std.specs.List.{All}
use Rattle.plain_data.specs.Record.{Record, at}
use Rattle.plain_data.specs.Times.{lowest}
use Rattle.plan_model.specs.declared.spec.Pane.{Pane}
use Rattle.plan_model.specs.PlanData.{PlanData}
use Rattle.dataflow_model.specs.declared.role.Role.TheVariants.{Source}
use Rattle.dataflow_model.specs.Message.{records_of}
use Rattle.dataflow_model.specs.Role.{is_source}
use Rattle.dataflow_model.specs.Leg.{Leg}
use Rattle.dataflow_model.specs.Sums.{total}
use Rattle.dataflow_model.specs.AbstractLayout.{AbstractLayout, AbstractInput, Deals, reader_of, place_in_reader, partition_read}
use Rattle.dataflow_model.specs.Cuts.{AreOrderlySources, IsMergedWatermark, records_until, aggregate_until}
use Rattle.dataflow_model.specs.InputCuts.{IsOrderlyInput, IsWatermarkAt, records_up_to, aggregate_up_to}
use Rattle.dataflow_model.proofs.Facts.{total_same, total_none, total_swap, total_at, total_places, eqb_swap, no_source, source_yes}
use Rattle.dataflow_laws.proofs.Streams.{weigh}
use Rattle.dataflow_laws.proofs.Logs.{weigh_of, weigh_same, weigh_filter}
use Rattle.dataflow_laws.proofs.Reader.{below}
use Rattle.dataflow_laws.proofs.Same.{same_aggregate}
use Rattle.dataflow_laws.proofs.Graph.{weigh_joined, input_weight, read_weight}

-- what the records up to a cut weigh, partition by partition
pub weight_up_to : (i : AbstractInput) (h : Record → ℕ) (cut : ℕ → ℕ) → weigh h (records_up_to i cut) ≡ total i.partitions (λ q. below (λ r. cond (i.pass r) (h r) 0) (i.entry q) (cut q))
weight_up_to i h cut =
    weigh_joined h i.partitions _
    ∙ total_same i.partitions _ (λ q. below (λ r. cond (i.pass r) (h r) 0) (i.entry q) (cut q)) (λ q k. weigh_joined h (cut q) _ ∙ total_same (cut q) _ _ (λ n z. weigh_filter h i.pass (records_of (i.entry q n)) ∙ weigh_of (λ r. cond (i.pass r) (h r) 0) (i.entry q n)))

module _ (i : AbstractInput) (leg : Leg) (l : AbstractLayout) (d : Deals i leg l) where
  -- a cut of the input, as the tasks have it
  abbrev pub IsSame : (ℕ → ℕ → ℕ) → (ℕ → ℕ) → Type 0
  IsSame mine cut = (t k : ℕ) → t < l.before → (l.task t).role ≡ Source → k < (l.task t).inputs → mine t k ≡ cut (partition_read i l t k)

  -- what the partitions at the places of one task come to
  one_task : (f : ℕ → ℕ) (t : ℕ) → t < l.before → cond (is_source (l.task t).role) (total (l.task t).inputs (λ k. f (partition_read i l t k))) 0 ≡ total i.partitions (λ q. cond (eqb (reader_of i l q) t) (f q) 0)
  one_task f t m =
      elim (cases_Bool (is_source (l.task t).role)) [
        | inr e ↦ rw e (sym (total_same i.partitions _ (λ q. 0) (λ q k. let x = d.dealt q k in let ne : eqb (reader_of i l q) t ≡ false = ne_eqb (reader_of i l q) t (λ z. no_source (l.task t) e (ap (λ y. (l.task y).role) (sym z) ∙ x.reads.role)) in rw ne refl) ∙ total_none i.partitions))
        | inl e ↦ rw e (
            let a = source_yes (l.task t).role e in
            sym (total_places i.partitions (l.task t).inputs (λ q. eqb (reader_of i l q) t) (place_in_reader i l) (partition_read i l t) (λ p. f (partition_read i l t p))
            (λ p k. let x = d.there t p m a k in (x.some, eq-eqb (reader_of i l (partition_read i l t p)) t x.task, x.place))
            (λ q k z. let x = d.dealt q k in let y = eqb-true (reader_of i l q) t z in (subst (λ n. place_in_reader i l q < (l.task n).inputs) y x.place, ap (λ n. partition_read i l n (place_in_reader i l q)) (sym y) ∙ x.back)))
            ∙ total_same i.partitions _ _ (λ q k. elim (cases_Bool (eqb (reader_of i l q) t)) [
              | inr z ↦ rw z refl
              | inl z ↦ rw z (let x = d.dealt q k in let y = eqb-true (reader_of i l q) t z in ap f (ap (λ n. partition_read i l n (place_in_reader i l q)) (sym y) ∙ x.back))
            ]))
      ]

  -- a sum over the places of all tasks that read is the one over the partitions
  pub total_dealt : (f : ℕ → ℕ) → total l.before (λ t. cond (is_source (l.task t).role) (total (l.task t).inputs (λ k. f (partition_read i l t k))) 0) ≡ total i.partitions f
  total_dealt f =
      total_same l.before _ (λ t. total i.partitions (λ q. cond (eqb (reader_of i l q) t) (f q) 0)) (one_task f)
      ∙ total_swap l.before i.partitions (λ t q. cond (eqb (reader_of i l q) t) (f q) 0)
      ∙ total_same i.partitions _ f (λ q k. total_same l.before _ (λ t. cond (eqb t (reader_of i l q)) (f q) 0) (λ t z. ap (λ x. cond x (f q) 0) (eqb_swap (reader_of i l q) t)) ∙ total_at l.before (reader_of i l q) (f q) (d.dealt q k).reads.early)

  -- what a source task has read weighs what its partitions have
  task_weight : (h : Record → ℕ) (mine : ℕ → ℕ → ℕ) (cut : ℕ → ℕ) → IsSame mine cut → (t : ℕ) → t < l.before
      → read_weight l h mine t ≡ cond (is_source (l.task t).role) (total (l.task t).inputs (λ p. below (λ r. cond (i.pass r) (h r) 0) (i.entry (partition_read i l t p)) (cut (partition_read i l t p)))) 0
  task_weight h mine cut same t m =
      let f : ℕ → ℕ = λ q. below (λ r. cond (i.pass r) (h r) 0) (i.entry q) (cut q) in
      elim (cases_Bool (is_source (l.task t).role)) [
        | inr e ↦ rw e refl
        | inl e ↦ rw e (
            let a = source_yes (l.task t).role e in
            total_same (l.task t).inputs _ (λ p. f (partition_read i l t p)) (λ p k.
            let x = d.there t p m a k in
            ap (below (λ r. cond (l.pass r) (h r) 0) ((l.task t).entry p)) (same t p m a k)
            ∙ total_same (cut (partition_read i l t p)) _ _ (λ n z. sym (weigh_of (λ r. cond (l.pass r) (h r) 0) ((l.task t).entry p n)) ∙ ap (λ y. weigh (λ r. cond (l.pass r) (h r) 0) (records_of y)) (x.entry n)
            ∙ weigh_same (λ r. cond (l.pass r) (h r) 0) (λ r. cond (i.pass r) (h r) 0) (λ r. ap (λ y. cond y (h r) 0) (d.pass r)) (records_of (i.entry (partition_read i l t p) n)) ∙ weigh_of (λ r. cond (i.pass r) (h r) 0) (i.entry (partition_read i l t p) n))))
      ]

  pub weights : (h : Record → ℕ) (mine : ℕ → ℕ → ℕ) (cut : ℕ → ℕ) → IsSame mine cut → weigh h (records_until l mine) ≡ weigh h (records_up_to i cut)
  weights h mine cut same =
      let f : ℕ → ℕ = λ q. below (λ r. cond (i.pass r) (h r) 0) (i.entry q) (cut q) in
      input_weight l h mine
      ∙ total_same l.before (read_weight l h mine) (λ t. cond (is_source (l.task t).role) (total (l.task t).inputs (λ p. f (partition_read i l t p))) 0) (task_weight h mine cut same)
      ∙ total_dealt f
      ∙ sym (weight_up_to i h cut)

  pub same_up_to : (p : PlanData) (mine : ℕ → ℕ → ℕ) (cut : ℕ → ℕ) → IsSame mine cut → (q : Pane) → aggregate_until p l mine q ≡ aggregate_up_to p i cut q
  same_up_to p mine cut same q = same_aggregate p.window q (records_until l mine) (records_up_to i cut) (λ h s. weights h mine cut same)

  -- the watermark of a partition where its task is
  watermark_is : (t k : ℕ) (mine : ℕ → ℕ → ℕ) (cut : ℕ → ℕ) → IsSame mine cut → t < l.before → (l.task t).role ≡ Source → k < (l.task t).inputs → (l.task t).watermark k (mine t k) ≡ i.watermark (partition_read i l t k) (cut (partition_read i l t k))
  watermark_is t k mine cut same b a kl = (d.there t k b a kl).watermark (mine t k) ∙ ap (i.watermark (partition_read i l t k)) (same t k b a kl)

  pub merged_of : (mine : ℕ → ℕ → ℕ) (cut : ℕ → ℕ) (w : ℤ) → IsSame mine cut → IsWatermarkAt i cut w → IsMergedWatermark l mine w
  merged_of mine cut w same m = record {
    bound = m.bound;
    below = λ t k b a kl. subst (λ x. w ≤ℤ x) (sym (watermark_is t k mine cut same b a kl)) (m.below (partition_read i l t k) (d.there t k b a kl).some);
    greatest = λ v top h. m.greatest v top (λ q ql.
        let x = d.dealt q ql in
        let y = h (reader_of i l q) (place_in_reader i l q) x.reads.early x.reads.role x.place in
        subst (λ n. v ≤ℤ i.watermark n (cut n)) x.back (subst (λ z. v ≤ℤ z) (watermark_is (reader_of i l q) (place_in_reader i l q) mine cut same x.reads.early x.reads.role x.place) y));
  }

  pub orderly_of : (p : PlanData) → IsOrderlyInput p i → AreOrderlySources p l
  orderly_of p o t b a = record {
    moves = λ k n kl nl.
        let x = d.there t k b a kl in
        let c = partition_read i l t k in
        x.watermark (suc n) ∙ o.moves c n x.some (subst (λ z. n < z) x.size nl) ∙ sym (λ j. int_max (x.watermark n j) (x.brings n j));
    bounded = λ k n kl nl.
        let x = d.there t k b a kl in
        subst (λ z. lowest ≤ℤ z) (sym (x.watermark n)) (o.bounded (partition_read i l t k) n x.some (subst (λ z. n ≤ z) x.size nl));
    late = λ k n kl nl.
        let x = d.there t k b a kl in
        let c = partition_read i l t k in
        let old = o.late c n x.some (subst (λ z. n < z) x.size nl) in
        subst (λ m. All (λ r. (l.task t).watermark k n <ℤ at p.window.time r) (records_of m)) (sym (x.entry n)) (subst (λ z. All (λ r. z <ℤ at p.window.time r) (records_of (i.entry c n))) (sym (x.watermark n)) old);
  }
