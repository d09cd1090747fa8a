-- What tests of roles and of shut inputs say.
use Rattle.std.proofs.Common.{◌≡◌, ℕ, zero, suc, ◌<◌, List, [], ◌∷◌, true, false, replicate, refl, sym, ap, ◌∙◌, arith}
use Rattle.std.proofs.lemmas.Bool.{false≢true}
use Rattle.input_state.specs.declared.inputs.Shut.{Shut}
use Rattle.input_state.specs.declared.inputs.Shut.TheVariants.{Free, Held, Ended}
use Rattle.input_state.specs.Inputs.{is_free, shut_at, let_go, released}
use Rattle.dataflow_model.specs.declared.role.Role.{Role}
use Rattle.dataflow_model.specs.declared.role.Role.TheVariants.{Source, Chain, Window, Sink}
use Rattle.dataflow_model.specs.Role.{is_source}
use Rattle.dataflow_model.specs.AbstractTask.{AbstractTask}

pub source_yes : (r : Role) → is_source r ≡ true → r ≡ Source
source_yes Source e = refl
source_yes Chain e = absurd cc
source_yes Window e = absurd cc
source_yes Sink e = absurd cc

pub not_a_source : (r : Role) → (r ≡ Source → ⊥) → is_source r ≡ false
not_a_source Source n = absurd (n refl)
not_a_source Chain n = refl
not_a_source Window n = refl
not_a_source Sink n = refl

pub no_source : (k : AbstractTask) → is_source k.role ≡ false → k.role ≡ Source → ⊥
no_source k e a = false≢true (sym e ∙ ap is_source a)

pub free_is : (v : Shut) → is_free v ≡ true → v ≡ Free
free_is Free e = refl
free_is Held e = absurd cc
free_is Ended e = absurd cc

pub released_at : (ss : List Shut) (i : ℕ) → shut_at (released ss) i ≡ let_go (shut_at ss i)
released_at [] i = refl
released_at (s ∷ ss) zero = refl
released_at (s ∷ ss) (suc i) = released_at ss i

pub get_free : (n i : ℕ) → i < n → shut_at (replicate n Free) i ≡ Free
get_free zero i l = absurd (omega arith)
get_free (suc n) zero l = refl
get_free (suc n) (suc i) l = get_free n i (omega (arith, l))
