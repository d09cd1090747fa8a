-- The names of files that are none of the user's.
use Rattle.std.specs.Prelude.{◌≡◌, ℕ, Bool, true, false, List, ◌++◌, Option, Some, None, codes, string_bytes}
use Rattle.new_files.specs.declared.file.Target.{Target}
use Rattle.new_files.specs.declared.file.Target.TheVariants.{Standard, Standing, Beside}

-- a name beside the one at a path: that path, a point, some text and `.part`
abbrev pub IsBeside : List ℕ → List ℕ → Type 0
IsBeside path beside = (text : List ℕ) × (beside ≡ path ++ (codes "." ++ (text ++ codes ".part")))

-- the path of a lock is that of some file, and `.lock`
abbrev pub IsLock : Option (List ℕ) → Type 0
IsLock None = Unit {0}
IsLock (Some lock) = (path : List ℕ) × (lock ≡ path ++ codes ".lock")

-- what takes the place of a file has a name beside it until then
abbrev pub IsTarget : Target → Type 0
IsTarget Standard = Unit {0}
IsTarget (Standing path) = Unit {0}
IsTarget (Beside path beside) = IsBeside (string_bytes path) (string_bytes beside)

-- no name of a file that is none of the user's is there to be given up
abbrev pub has_no_name : Target → Bool
has_no_name Standard = true
has_no_name (Standing path) = true
has_no_name (Beside path beside) = false
