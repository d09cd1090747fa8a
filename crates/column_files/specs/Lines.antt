-- Columns that stand in a file.
use Rattle.std.specs.Prelude.{ℕ, ◌-◌, ◌==◌, Bool, not, ◌&&◌, List, [], ◌∷◌, length, take, get_or, if◌then◌else◌}
use Rattle.std.specs.List.{list_any, flat_map}

-- a word names a file: it begins with @, and has no comma, as a list of columns has
abbrev pub names_file : List ℕ → Bool
names_file word = (get_or word 0 0 == 64) && not (list_any (λ b. b == 44) word)

-- without the line feed that a text may end with
abbrev pub without_end : List ℕ → List ℕ
without_end text = if get_or text (length text - 1) 0 == 10 then take (length text - 1) text else text

-- a comma stands for the end of a line, and nothing for a carriage return
abbrev pub column_byte : ℕ → List ℕ
column_byte b = if b == 13 then [] else if b == 10 then 44 ∷ [] else b ∷ []

-- the word of the columns that stand in lines
abbrev pub columns_in_lines : List ℕ → List ℕ
columns_in_lines text = flat_map column_byte (without_end text)
