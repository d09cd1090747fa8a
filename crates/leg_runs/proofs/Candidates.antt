-- The steps that a task may be asked for, by their numbers.
use Rattle.std.proofs.Common.{◌≡◌, ℕ, suc, ◌<◌, ◌≤◌, ◌+◌, ◌-◌, List, length, get_or, sym, ap, subst, ◌∙◌, arith}
use Rattle.std.specs.Prelude.{slice_get, Some}
use Rattle.std.proofs.lemmas.Option.{slice_get-get_or}
use Rattle.dataflow_laws.specs.declared.step.Step.TheVariants.{Open, Read, Save, Stop, Close, Take, Put}
use Rattle.layout_rules.specs.Stages.{inputs_of, partitions_of}
use Rattle.plan_compiler.specs.LayoutData.{LayoutData}
use Rattle.leg_runs.specs.Choosing.{steps_of}
use Rattle.leg_runs.proofs.ByKind.{length_kinds, at_read, behind_reads, at_take, at_put}

abbrev parts_in : LayoutData → ℕ → List ℕ
parts_in l t = partitions_of l.partitions l.stages t

abbrev inputs_in : LayoutData → ℕ → ℕ
inputs_in l t = length (inputs_of l.stages t)

pub length_is : (l : LayoutData) (t : ℕ) (ps is : List ℕ) → ps ≡ partitions_of l.partitions l.stages t → is ≡ inputs_of l.stages t → length (steps_of l t) ≡ 5 + length ps + length is
length_is l t ps is p i =
    let all = length_kinds (Open t) (Save t) (Stop t) (Close t) (Put t) (Read t) (Take t) (parts_in l t) (inputs_in l t) in
    let a = ap length p in
    let b = ap length i in
    omega (arith, all, a, b)

pub read_is : (l : LayoutData) (t number q d : ℕ) (ps : List ℕ) → ps ≡ partitions_of l.partitions l.stages t → 0 < number → number - 1 < length ps → q ≡ get_or ps (number - 1) d → slice_get (steps_of l t) number ≡ Some (Read t q)
read_is l t number q d ps p some less is =
    let e : suc (number - 1) ≡ number = omega (arith, some) in
    let here : slice_get ps (number - 1) ≡ Some q = slice_get-get_or ps (number - 1) d less ∙ ap Some (sym is) in
    let there : slice_get (parts_in l t) (number - 1) ≡ Some q = subst (λ xs. slice_get xs (number - 1) ≡ Some q) p here in
    ap (slice_get (steps_of l t)) (sym e) ∙ at_read (Open t) (Save t) (Stop t) (Close t) (Put t) (Read t) (Take t) (parts_in l t) (inputs_in l t) (number - 1) q there (subst (λ xs. number - 1 < length xs) p less)

-- what stands behind the reads
pub save_is : (l : LayoutData) (t number : ℕ) (ps : List ℕ) → ps ≡ partitions_of l.partitions l.stages t → 0 < number → length ps ≤ number - 1 → number - 1 - length ps ≡ 0 → slice_get (steps_of l t) number ≡ Some (Save t)
save_is l t number ps p some past is =
    let e = ap length p in
    behind_reads (Open t) (Save t) (Stop t) (Close t) (Put t) (Read t) (Take t) (parts_in l t) (inputs_in l t) 0 number (omega (arith, some, past, is, e))

pub stop_is : (l : LayoutData) (t number : ℕ) (ps : List ℕ) → ps ≡ partitions_of l.partitions l.stages t → 0 < number → length ps ≤ number - 1 → number - 1 - length ps ≡ 1 → slice_get (steps_of l t) number ≡ Some (Stop t)
stop_is l t number ps p some past is =
    let e = ap length p in
    behind_reads (Open t) (Save t) (Stop t) (Close t) (Put t) (Read t) (Take t) (parts_in l t) (inputs_in l t) 1 number (omega (arith, some, past, is, e))

pub close_is : (l : LayoutData) (t number : ℕ) (ps : List ℕ) → ps ≡ partitions_of l.partitions l.stages t → 0 < number → length ps ≤ number - 1 → number - 1 - length ps ≡ 2 → slice_get (steps_of l t) number ≡ Some (Close t)
close_is l t number ps p some past is =
    let e = ap length p in
    behind_reads (Open t) (Save t) (Stop t) (Close t) (Put t) (Read t) (Take t) (parts_in l t) (inputs_in l t) 2 number (omega (arith, some, past, is, e))

pub take_is : (l : LayoutData) (t number input : ℕ) (ps is : List ℕ) → ps ≡ partitions_of l.partitions l.stages t → is ≡ inputs_of l.stages t → 4 + length ps ≤ number → number - 1 - length ps - 3 ≡ input → input < length is → slice_get (steps_of l t) number ≡ Some (Take t input)
take_is l t number input ps is p i past at less =
    let e = ap length p in
    at_take (Open t) (Save t) (Stop t) (Close t) (Put t) (Read t) (Take t) (parts_in l t) (inputs_in l t) input number (omega (arith, past, at, e)) (subst (λ xs. input < length xs) i less)

pub put_is : (l : LayoutData) (t number : ℕ) (ps is : List ℕ) → ps ≡ partitions_of l.partitions l.stages t → is ≡ inputs_of l.stages t → 4 + length ps + length is ≤ number → number < length (steps_of l t) → slice_get (steps_of l t) number ≡ Some (Put t)
put_is l t number ps is p i past within =
    let a = ap length p in
    let b = ap length i in
    let all = length_is l t ps is p i in
    at_put (Open t) (Save t) (Stop t) (Close t) (Put t) (Read t) (Take t) (parts_in l t) (inputs_in l t) number (omega (arith, past, within, a, b, all))
