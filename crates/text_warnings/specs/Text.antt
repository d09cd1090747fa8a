-- What a text has to be so that anything is told of it.
use Rattle.std.specs.Prelude.{ℕ, List, IsSome, IsUtf8}
use Rattle.json.specs.Json.{document}

-- bytes that are one JSON value in UTF-8
abbrev pub IsJson : List ℕ → Type 0
IsJson bytes = IsUtf8 bytes × IsSome (document bytes)
