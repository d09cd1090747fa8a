-- The uids that a set holds, in order.
use Rattle.std.specs.Prelude.{ℕ, List, map, String, string_bytes}
use Rattle.std.specs.declared.alloc.Global.{Global}
use Rattle.std.specs.declared.hash.FoldHasher.{FoldHasher}
use Rattle.std.specs.declared.hash.BuildHasherDefault.{BuildHasherDefault}
use Rattle.indexmap.specs.IndexSet.{IndexSet}

abbrev pub Uids : Type 0
Uids = IndexSet (String Global) (BuildHasherDefault FoldHasher)

abbrev pub texts : Uids → List (List ℕ)
texts s = map string_bytes s.keys
