-- The places of tasks, one after another.
use Rattle.std.proofs.Common.{◌≡◌, ℕ, zero, suc, ◌+◌, ◌<◌, ◌≤◌, List, [], ◌∷◌, ◌++◌, length, map, get_or, None, append-nil, append_assoc, refl, sym, ap, subst, ◌∙◌, arith}
use Rattle.std.proofs.lemmas.List.{get_or_default}
use Rattle.std.proofs.lemmas.List.FromFn.{length-map-range_with_len, map-range_with_len_more, get_or-map-range_with_len}
use Rattle.std.specs.List.{range_with_len}
use Rattle.layout_rules.specs.declared.stage.Stage.{Stage}
use Rattle.layout_rules.specs.declared.stage.TaskPlace.{TaskPlace}
use Rattle.layout_rules.specs.Below.{sum_below}
use Rattle.layout_rules.specs.Stages.{stage_from, stage_at, task_stage, parallelism_at, task_count, stage_of, subtask_of, place_of}
use Rattle.layout_rules.proofs.Facts.{row_at, is_subtask}
use Rattle.plan_compiler.specs.Tables.{each_task}

abbrev pub subtask_place : ℕ → ℕ → TaskPlace
subtask_place a i = record { stage = a; subtask = i }

pub subtask_more : (a i : ℕ) (xs ys zs : List TaskPlace) → ys ≡ xs ++ map (subtask_place a) (range_with_len 0 i) → zs ≡ ys ++ subtask_place a i ∷ [] → zs ≡ xs ++ map (subtask_place a) (range_with_len 0 (i + 1))
subtask_more a i xs ys zs e f =
    f ∙ ap (λ l. l ++ subtask_place a i ∷ []) e
    ∙ append_assoc xs (map (subtask_place a) (range_with_len 0 i)) (subtask_place a i ∷ [])
    ∙ ap (λ l. xs ++ l) (sym (map-range_with_len_more (subtask_place a) 0 i i (omega arith)))

module _ (stages : List Stage) where
  abbrev F : ℕ → ℕ
  F = sum_below (parallelism_at stages)

  abbrev below : ℕ → List TaskPlace
  below n = map (place_of stages) (range_with_len 0 n)

  part : (a i : ℕ) → a < length stages → i ≤ parallelism_at stages a → below (F a + i) ≡ below (F a) ++ map (subtask_place a) (range_with_len 0 i)
  part a zero l m = let q : F a + 0 ≡ F a = omega arith in ap below q ∙ sym (append-nil (below (F a)))
  part a (suc i) l m =
      let r = row_at (parallelism_at stages) (length stages) a i l (omega (arith, m)) in
      let s : subtask_of stages (F a + i) ≡ i = (let y : F (stage_of stages (F a + i)) ≡ F a = ap F r.0 in omega (arith, y)) in
      let here : place_of stages (F a + i) ≡ subtask_place a i = ap (λ x. subtask_place x (subtask_of stages (F a + i))) r.0 ∙ ap (subtask_place a) s in
      let q : F a + suc i ≡ (F a + i) + 1 = omega arith in
      let n : i + 1 ≡ suc i = omega arith in
      ap below q
      ∙ map-range_with_len_more (place_of stages) 0 (F a + i) (F a + i) (omega arith)
      ∙ ap (λ x. below (F a + i) ++ x ∷ []) here
      ∙ subtask_more a i (below (F a)) (below (F a + i)) (below (F a + i) ++ subtask_place a i ∷ []) (part a i l (omega (arith, m))) refl
      ∙ ap (λ k. below (F a) ++ map (subtask_place a) (range_with_len 0 k)) n

pub stage_more : (stages : List Stage) (a w : ℕ) (xs ys : List TaskPlace) → a < length stages → w ≡ parallelism_at stages a → xs ≡ map (place_of stages) (range_with_len 0 (sum_below (parallelism_at stages) a)) → ys ≡ xs ++ map (subtask_place a) (range_with_len 0 w) → ys ≡ map (place_of stages) (range_with_len 0 (sum_below (parallelism_at stages) (a + 1)))
stage_more stages a w xs ys l v e f =
    let q : a + 1 ≡ suc a = omega arith in
    f ∙ ap (λ zs. zs ++ map (subtask_place a) (range_with_len 0 w)) e
    ∙ ap (λ k. map (place_of stages) (range_with_len 0 (sum_below (parallelism_at stages) a)) ++ map (subtask_place a) (range_with_len 0 k)) v
    ∙ sym (part stages a (parallelism_at stages a) l (omega arith))
    ∙ ap (λ k. map (place_of stages) (range_with_len 0 (sum_below (parallelism_at stages) k))) (sym q)

-- the table of places, read at a task
pub place_count : (stages : List Stage) (places : List TaskPlace) → places ≡ each_task stages (place_of stages) → length places ≡ task_count stages
place_count stages places e = ap length e ∙ length-map-range_with_len (place_of stages) 0 (task_count stages)

-- the stage of a task is there, and has the task
pub stage_within : (stages : List Stage) (t : ℕ) → t < task_count stages → stage_of stages t < length stages
stage_within stages t l = (is_subtask stages t l).stage

pub subtask_within : (stages : List Stage) (t : ℕ) → t < task_count stages → subtask_of stages t < (task_stage stages t).parallelism
subtask_within stages t l = (is_subtask stages t l).subtask

pub stage_at_place : (stages : List Stage) (a t : ℕ) (d : Stage) → t < task_count stages → a ≡ stage_of stages t → get_or stages a d ≡ task_stage stages t
stage_at_place stages a t d l e = ap (λ b. get_or stages b d) e ∙ get_or_default stages (stage_of stages t) d (stage_from 0 [] None) (stage_within stages t l)
