-- The names of the members of an object that is open.
use Rattle.std.specs.Prelude.{ℕ, List, Bool, false}
use Rattle.std.specs.BTreeSet.{contains_by}
use Rattle.std.specs.Cmp.Lexicographic.{slice_cmp}
use Rattle.std.specs.Ordering.{nat_cmp}
use Rattle.text_warnings.specs.declared.open.Open.{Open}
use Rattle.text_warnings.specs.declared.open.Open.TheVariants.{List as OpenList, Object}

-- whether one of them is a name; in a list there is none
abbrev pub has_name : Open → List ℕ → Bool
has_name OpenList name = false
has_name (Object names) name = contains_by (λ n. slice_cmp nat_cmp name n.now) names
