-- PUBLIC: the lemmas of what is answered. Nothing else of proofs/ is for crates above to import.
use Rattle.std.proofs.Common.{◌≡◌, Bool, true, false, cond, Option, Some, None, Ok, Err, refl}
use Rattle.std.specs.Option.{option_or, option_map_or}

-- where no requirement is unmet, the first is met, and none of the others is unmet
pub met_first : {F : Type 0} (fault : F) (b : Bool) (rest : Option F) → option_or (cond b None (Some fault)) rest ≡ None → (b ≡ true) × (rest ≡ None)
met_first fault true rest h = (refl, h)
met_first fault false rest h = absurd cc

-- a value is answered where there is no fault
pub no_fault : {X F : Type 0} (o : Option F) (said x : X) → option_map_or Err o (Ok said) ≡ Ok x → (o ≡ None) × (said ≡ x)
no_fault None said x h = (refl, cc)
no_fault (Some fault) said x h = absurd cc
