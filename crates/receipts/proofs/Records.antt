-- Records that are counted partition by partition.
use Rattle.std.proofs.Common.{◌≡◌, ℕ, ◌+◌, ◌-◌, ◌^◌, ◌≤◌, min, List, [], ◌∷◌, length, ap, ◌∙◌, take, arith, length-append}
use Rattle.std.specs.List.{fold, zip}
use Rattle.stream_model.specs.declared.entry.Marked.{Marked}
use Rattle.stream_model.specs.InputData.{records_in}
use Rattle.stream_model.specs.Watermarks.{records_before_in, records_before}
use Rattle.receipts.specs.Counts.{with_partition}

-- so many and so many more, as far as they can be counted
abbrev past : ℕ → ℕ → ℕ
past r n = min (r + n) (2 ^ 64 - 1)

still : (r : ℕ) → r ≤ 2 ^ 64 - 1 → r ≡ past r 0
still r h = omega arith

within : (r n : ℕ) → past r n ≤ 2 ^ 64 - 1
within r n = omega arith

twice : (r n m k : ℕ) → k ≡ n + m → past (past r n) m ≡ past r k
twice r n m k e = omega (arith, e)

in_source : (ps : List (List Marked)) (ns : List ℕ) (r : ℕ) → r ≤ 2 ^ 64 - 1 → fold with_partition r (zip ps ns) ≡ past r (length (records_before_in ps ns))
in_source [] ns r h = still r h
in_source (p ∷ ps) [] r h = still r h
in_source (p ∷ ps) (n ∷ ns) r h =
    let here = records_in (take n p) in
    let rest = records_before_in ps ns in
    in_source ps ns (past r (length here)) (within r (length here)) ∙ twice r (length here) (length rest) _ (length-append here rest)

in_sources : (ss : List (List (List Marked))) (cut : List (List ℕ)) (r : ℕ) → r ≤ 2 ^ 64 - 1 → fold (λ n x. fold with_partition n (zip x.0 x.1)) r (zip ss cut) ≡ past r (length (records_before ss cut))
in_sources [] cut r h = still r h
in_sources (s ∷ ss) [] r h = still r h
in_sources (s ∷ ss) (c ∷ cs) r h =
    let here = records_before_in s c in
    let rest = records_before ss cs in
    ap (λ z. fold (λ n x. fold with_partition n (zip x.0 x.1)) z (zip ss cs)) (in_source s c r h)
    ∙ in_sources ss cs (past r (length here)) (within r (length here)) ∙ twice r (length here) (length rest) _ (length-append here rest)

from_none : (n : ℕ) → past 0 n ≡ min n (2 ^ 64 - 1)
from_none n = omega arith

pub all_counted : (ss : List (List (List Marked))) (cut : List (List ℕ)) → fold (λ n x. fold with_partition n (zip x.0 x.1)) 0 (zip ss cut) ≡ min (length (records_before ss cut)) (2 ^ 64 - 1)
all_counted ss cut = in_sources ss cut 0 (omega arith) ∙ from_none (length (records_before ss cut))
