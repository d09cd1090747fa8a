-- What is written to the files of the parts.
use Rattle.std.specs.Prelude.{◌≡◌, ℕ, List, [], Option, length}
use Rattle.std.specs.List.{All}
use Rattle.part_texts.specs.Streams.{kept_of, Got}
use Rattle.part_texts.specs.declared.part.PartText.{PartText}

-- so many streams are opened, and nothing is written to them yet
pub record AreOpened {W : Type 0} (count : ℕ) (texts : List (PartText W)) : Type 0 where
  pub all : length texts ≡ count
  pub fresh : All (λ text. kept_of text ≡ []) texts

-- since so many streams were opened each has got just this, by its place
pub record HaveTexts {W : Type 0} (contents : W → Option (List ℕ)) (count : ℕ) (text : ℕ → List ℕ) (texts : List (PartText W)) : Type 0 where
  pub opened : List (PartText W)
  pub are_opened : AreOpened count opened
  pub got : Got contents text opened texts
