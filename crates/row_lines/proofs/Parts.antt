-- The parts of a text, one after another, where what was yielded is told before how.
use Rattle.std.proofs.Common.{◌≡◌, ◌<◌, List, length, map, get_or, Option, Some, None}
use Rattle.core.specs.Iterator.{Yields}
use Rattle.std.proofs.lemmas.Iterator.{YieldsList}
use Rattle.std.proofs.lemmas.Iterator.Consumers.{YieldsList-at, YieldsList-turn, YieldsList-end}

pub part_there : {S A B : Type 0} {steps : S → Option A → S → Type 0} {v : A → B} {s t : S} {all : List B} (xs : List A) (u : S) → Yields steps s xs u → s ≡ t → YieldsList steps v t all → (r : Option A) (w : S) (x : A) → r ≡ Some x → steps u r w
    → (length xs < length all) × (v x ≡ get_or all (length xs) (v x))
part_there xs u before at road r w x is step = YieldsList-turn (YieldsList-at at road) xs u before r w x is step

pub all_parts : {S A B : Type 0} {steps : S → Option A → S → Type 0} {v : A → B} {s t : S} {all : List B} (xs : List A) (u : S) → Yields steps s xs u → s ≡ t → YieldsList steps v t all → (r : Option A) (w : S) → r ≡ None → steps u r w
    → (map v xs ≡ all) × (length xs ≡ length all)
all_parts xs u before at road r w is step = YieldsList-end (YieldsList-at at road) xs u before r w is step
