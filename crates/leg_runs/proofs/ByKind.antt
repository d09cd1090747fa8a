-- A list of steps by their kinds: one, some by partition, three, some by input, and one.
use Rattle.std.proofs.Common.{◌≡◌, ℕ, suc, ◌<◌, ◌+◌, List, [], ◌∷◌, ◌++◌, length, map, ap, ◌∙◌, arith}
use Rattle.std.specs.Prelude.{slice_get, Some, option_map}
use Rattle.std.specs.List.{range_with_len}
use Rattle.std.proofs.lemmas.List.{length-append, length-map}
use Rattle.std.proofs.lemmas.Option.{slice_get-map, slice_get-get_or}
use Rattle.std.proofs.lemmas.List.FromFn.{length-map-range_with_len, get_or-map-range_with_len}
use Rattle.leg_runs.proofs.Selecting.{before_seam, behind_seam, at_seam}

abbrev kinds : {X : Type 0} (first save stop close last : X) (read take : ℕ → X) (ps : List ℕ) (n : ℕ) → List X
kinds first save stop close last read take ps n = first ∷ (map read ps ++ (save ∷ stop ∷ close ∷ (map take (range_with_len 0 n) ++ last ∷ [])))

pub length_kinds : {X : Type 0} (first save stop close last : X) (read take : ℕ → X) (ps : List ℕ) (n : ℕ) → length (kinds first save stop close last read take ps n) ≡ 5 + length ps + n
length_kinds {X} first save stop close last read take ps n =
    let reads : List X = map read ps in
    let takes : List X = map take (range_with_len 0 n) in
    let a = length-append reads (save ∷ stop ∷ close ∷ (takes ++ last ∷ [])) in
    let b = length-append takes (last ∷ []) in
    let c = length-map ps read in
    let d = length-map-range_with_len take 0 n in
    omega (arith, a, b, c, d)

pub at_read : {X : Type 0} (first save stop close last : X) (read take : ℕ → X) (ps : List ℕ) (n i q : ℕ) → slice_get ps i ≡ Some q → i < length ps → slice_get (kinds first save stop close last read take ps n) (suc i) ≡ Some (read q)
at_read {X} first save stop close last read take ps n i q is l =
    let reads : List X = map read ps in
    let within : i < length reads = (let c = length-map ps read in omega (arith, l, c)) in
    before_seam reads (save ∷ stop ∷ close ∷ (map take (range_with_len 0 n) ++ last ∷ [])) i within ∙ slice_get-map read ps i ∙ ap (λ o. option_map read o) is

pub behind_reads : {X : Type 0} (first save stop close last : X) (read take : ℕ → X) (ps : List ℕ) (n i number : ℕ) → number ≡ suc (length ps + i) → slice_get (kinds first save stop close last read take ps n) number ≡ slice_get (save ∷ stop ∷ close ∷ (map take (range_with_len 0 n) ++ last ∷ [])) i
behind_reads {X} first save stop close last read take ps n i number is =
    let reads : List X = map read ps in
    let at : number ≡ suc (length reads + i) = (let c = length-map ps read in omega (arith, is, c)) in
    ap (slice_get (kinds first save stop close last read take ps n)) at ∙ behind_seam reads (save ∷ stop ∷ close ∷ (map take (range_with_len 0 n) ++ last ∷ [])) i

pub at_take : {X : Type 0} (first save stop close last : X) (read take : ℕ → X) (ps : List ℕ) (n i number : ℕ) → number ≡ 4 + length ps + i → i < n → slice_get (kinds first save stop close last read take ps n) number ≡ Some (take i)
at_take {X} first save stop close last read take ps n i number is l =
    let takes : List X = map take (range_with_len 0 n) in
    let long = length-map-range_with_len take 0 n in
    let at : number ≡ suc (length ps + suc (suc (suc i))) = omega (arith, is) in
    behind_reads first save stop close last read take ps n (suc (suc (suc i))) number at
    ∙ before_seam takes (last ∷ []) i (omega (arith, l, long))
    ∙ slice_get-get_or takes i last (omega (arith, l, long))
    ∙ ap Some (get_or-map-range_with_len take 0 n i i last l (omega (arith)))

pub at_put : {X : Type 0} (first save stop close last : X) (read take : ℕ → X) (ps : List ℕ) (n number : ℕ) → number ≡ 4 + length ps + n → slice_get (kinds first save stop close last read take ps n) number ≡ Some last
at_put {X} first save stop close last read take ps n number is =
    let takes : List X = map take (range_with_len 0 n) in
    let long = length-map-range_with_len take 0 n in
    let at : number ≡ suc (length ps + suc (suc (suc (length takes)))) = omega (arith, is, long) in
    behind_reads first save stop close last read take ps n (suc (suc (suc (length takes)))) number at ∙ at_seam takes last []
