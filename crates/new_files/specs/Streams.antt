-- What is written to.
use Rattle.std.specs.Prelude.{ℕ, List, Option, None}
use Rattle.std.specs.Io.KnownBytes.{Appends}
use Rattle.new_files.specs.declared.file.Target.{Target}
use Rattle.new_files.specs.declared.file.Target.TheVariants as target
use Rattle.new_files.specs.declared.stream.NewStream.{NewStream}
use Rattle.new_files.specs.declared.stream.NewStream.TheVariants.{File, Standard}

-- what a stream is known to hold: of a file what that says, and nothing of the standard output
abbrev pub stream_contents : {R F D : Type 0} → (F → Option (List ℕ)) → NewStream R F D → Option (List ℕ)
stream_contents contents (File file) = contents file
stream_contents contents (Standard out) = None

-- bytes were written behind what a writer held
abbrev pub HasWritten : {W : Type 0} → (W → Option (List ℕ)) → W → List ℕ → Type 0
HasWritten {W} contents written bytes = (opened : W) × Appends (contents opened) (contents written) bytes

-- and so it is of a stream that is a file; of the standard output nothing is known
abbrev pub HasGot : {R F D : Type 0} → (F → Option (List ℕ)) → NewStream R F D → List ℕ → Type 0
HasGot contents (File file) bytes = HasWritten contents file bytes
HasGot contents (Standard out) bytes = Unit {0}

-- a stream is the standard output just where that is written to
abbrev pub IsStreamOf : {R F D : Type 0} → Target → NewStream R F D → Type 0
IsStreamOf target.Standard (Standard out) = Unit {0}
IsStreamOf target.Standard (File file) = ⊥
IsStreamOf (target.Standing path) (Standard out) = ⊥
IsStreamOf (target.Standing path) (File file) = Unit {0}
IsStreamOf (target.Beside path beside) (Standard out) = ⊥
IsStreamOf (target.Beside path beside) (File file) = Unit {0}
