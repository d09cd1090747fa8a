-- A table that was added is known.
use Rattle.std.proofs.Common.{◌≡◌, ℕ, List, ◌∷◌, [], ◌++◌, Result, Ok, Err, subst, sym, inr}
use Rattle.std.specs.Result.{IfOk}
use Rattle.std.specs.List.{Contains}
use Rattle.std.proofs.lemmas.List.Elements.{Contains-push}
use Rattle.jiff_tz.specs.declared.tzif.Tzif.{Tzif as Table}
use Rattle.calendar_numbers.specs.Named.{HasZone, IsAdded}

added : (old new : List Table) (name bytes : List ℕ) → IsAdded old new name bytes → HasZone new name
added old new name bytes a =
    inr (a.table, subst (λ (tables : List Table). Contains tables a.table) (sym a.added) (Contains-push old a.table), a.named)

pub known : {A E : Type 0} (old new : List Table) (name bytes : List ℕ) (r : Result A E) → IfOk r (λ u. IsAdded old new name bytes) → IfOk r (λ u. HasZone new name)
known old new name bytes (Ok u) a = added old new name bytes a
known old new name bytes (Err e) a = a
