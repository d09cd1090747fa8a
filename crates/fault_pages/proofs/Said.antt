-- The first page with a code, in a table of references and in a table of texts.
use Rattle.std.proofs.Common.{◌≡◌, ℕ, Bool, true, false, cond, map, List, [], ◌∷◌, Option, Some, None, option_map, refl}
use Rattle.std.specs.Borrow.{Bor}
use Rattle.std.specs.List.{find}
use Rattle.std.specs.Option.{option_or}
use Rattle.fault_pages.specs.Pages.{same_code, page_said}

step : (is : Bool) (page : Bor (List ℕ) × Bor (List ℕ)) (texts : Option (List ℕ × List ℕ)) (pages : Option (Bor (List ℕ) × Bor (List ℕ)))
    → option_map (λ p. p.1) texts ≡ option_map (λ p. p.1.now) pages → option_map (λ p. p.1) (cond is (Some (page.0.now, page.1.now)) texts) ≡ option_map (λ p. p.1.now) (cond is (Some page) pages)
step true page texts pages same = refl
step false page texts pages same = same

pub said : (pages : List (Bor (List ℕ) × Bor (List ℕ))) (code : List ℕ)
    → page_said (map (λ page. (page.0.now, page.1.now)) pages) code ≡ option_map (λ page. page.1.now) (find (λ page. same_code page.0.now code) pages)
unfolding page_said
said [] code = refl
said (page ∷ pages) code = step (same_code page.0.now code) page _ _ (said pages code)

-- what the first of two answers says, and otherwise the second
pub first_said : (found : Option (Bor (List ℕ))) (text : Bor (List ℕ)) (first second : Option (List ℕ)) → option_map (λ t. t.now) found ≡ first → found ≡ Some text → Some text.now ≡ option_or first second
first_said found text first second says is = rw (← says, is) refl

pub second_said : (found other : Option (Bor (List ℕ))) (first second : Option (List ℕ)) → option_map (λ t. t.now) found ≡ first → found ≡ None → option_map (λ t. t.now) other ≡ second → option_map (λ t. t.now) other ≡ option_or first second
second_said found other first second says is others = rw (← says, is) others
