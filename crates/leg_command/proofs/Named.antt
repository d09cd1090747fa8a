-- A file that is read just where one is named.
use Rattle.std.proofs.Common.{◌≡◌, Option, Some, None, option_map, is_some, refl}

pub some_map : {X Y : Type 0} (f : X → Y) (x : Option X) → is_some (option_map f x) ≡ is_some x
some_map f (Some x) = refl
some_map f None = refl
