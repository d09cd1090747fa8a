-- What the program says of its version.
use Rattle.std.specs.Prelude.{ℕ, nat_le, Bool, ◌&&◌, List, [], ◌++◌, length, Option, Some, None, codes, if◌then◌else◌}
use Rattle.std.specs.List.{list_all}
use Rattle.user_texts.specs.declared.version.TheConstants.{VERSION, LONGEST_COMMIT}

-- a printable character of ASCII
abbrev pub is_printable : ℕ → Bool
is_printable b = nat_le 32 b && nat_le b 126

-- the name of a commit
abbrev pub is_commit : List ℕ → Bool
is_commit text = nat_le 1 (length text) && nat_le (length text) LONGEST_COMMIT && list_all is_printable text

abbrev pub commit_line : List ℕ → List ℕ
commit_line commit = codes "commit " ++ (commit ++ codes "\n")

-- the line of a commit, where a text may be the name of one
abbrev pub commit_said : List ℕ → List ℕ
commit_said text = if is_commit text then commit_line text else []

-- the lines of the version and the toolchain, and that of the commit where one is given
abbrev pub version_text : Option (List ℕ) → List ℕ
version_text None = VERSION.now
version_text (Some text) = VERSION.now ++ commit_said text
