-- Reading the members of an object one after the other, as a loop does.
use Rattle.std.proofs.Common.{◌≡◌, ℕ, List, [], ◌∷◌, ◌++◌, Option, Some, sym, ◌∙◌}
use Rattle.serde_json.specs.Data.{Data, Members, member}
use Rattle.json_parts.specs.Members.{each_member}
use Rattle.json_parts.proofs.Each.{with_front, regroup}

pub member_goes_on : {X : Type 0} (f : Data → Option X) (front : List (List ℕ × X)) (name copied : List ℕ) (d : Data) (x : X) (ms : Members) (total : Option (List (List ℕ × X)))
    → copied ≡ name → f d ≡ Some x → with_front front (each_member f (member name d ms)) ≡ total → with_front (front ++ (copied, x) ∷ []) (each_member f ms) ≡ total
member_goes_on f front name copied d x ms total same is so_far =
    let one : with_front front (each_member f (member name d ms)) ≡ with_front (front ++ (copied, x) ∷ []) (each_member f ms) = rw (is, same) (regroup front (name, x) (each_member f ms)) in
    sym one ∙ so_far
