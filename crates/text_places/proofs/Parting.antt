-- Values of a list or an object that are found one after another.
use Rattle.std.proofs.Common.{◌≡◌, List, [], ◌∷◌, ◌++◌, All, subst, sym}
use Rattle.std.proofs.lemmas.List.Elements.{All-push}
use Rattle.text_places.specs.Parts.{IsPartOf}
use Rattle.text_places.specs.declared.spot.Spot.{Spot}
use Rattle.text_places.specs.declared.part.Part.{Part}

-- one part more is found
pub part_on : (spots : List Spot) (xs ys : List Part) (p : Part) → IsPartOf spots p → ys ≡ xs ++ p ∷ [] → All (IsPartOf spots) xs → All (IsPartOf spots) ys
part_on spots xs ys p here pushed h =
    let P : List Part → Type 0 = All (IsPartOf spots) in subst P (sym pushed) (All-push (IsPartOf spots) xs p h here)
