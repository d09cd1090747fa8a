-- What is lost in two steps is lost in one.
use Rattle.std.proofs.Common.{◌≡◌, ◌≤◌, ◌-◌, ◌+◌, ◌++◌, ℕ, List, Option, length, arith, length-append}
use Rattle.std.specs.Io.KnownBytes.{Consumes}
use Rattle.std.proofs.KnownBytes.{Consumes-trans}
use Rattle.job_texts.specs.Readers.{LosesAtMost}

pub loses_more : (most : ℕ) (a b c : Option (List ℕ)) (bs : List ℕ) (n : ℕ) → Consumes a b bs → n ≡ length bs → n ≤ most → LosesAtMost (most - n) b c → LosesAtMost most a c
loses_more most a b c bs n first is fits then =
    let all : length (bs ++ then.0) ≡ length bs + length then.0 = length-append bs then.0 in
    (bs ++ then.0, omega (arith, all, is, fits, then.1), Consumes-trans a b c bs then.0 first then.2)
