-- A format: how a value is spelled in bytes, which values have a spelling, and how it is read from the front of bytes,
-- with the first fault. Larger formats are put together from smaller ones.
use Rattle.std.specs.Prelude.{ℕ, ◌^◌, Bool, bytes_eq, ◌&&◌, ◌==◌, List, ◌++◌, length, take, drop, Result, Ok, Err, nat_lt, if◌then◌else◌}
use Rattle.std.specs.Int.{Width, byte_len, from_be_bytes, to_be_bytes}
use Rattle.byte_fields.specs.declared.fault.FieldFault.{FieldFault}
use Rattle.byte_fields.specs.declared.fault.FieldFault.TheVariants.{Magic, Truncated, Trailing}

infixl 10 ◌>>=◌
abbrev pub ◌>>=◌ : {A B : Type 0} → Result A FieldFault → (A → Result B FieldFault) → Result B FieldFault
(Ok x) >>= f = f x
(Err e) >>= f = Err e

pub record Format (X : Type 0) : Type 0 where
  pub spell : X → List ℕ
  pub fits : X → Bool
  pub read : List ℕ → Result (X × List ℕ) FieldFault

-- so many bytes
abbrev pub raw : ℕ → Format (List ℕ)
raw n = record {
  spell = λ x. x;
  fits = λ x. length x == n;
  read = λ bytes. if nat_lt (length bytes) n then Err Truncated else Ok (take n bytes, drop n bytes);
}

-- a number, its highest byte first
abbrev pub number : Width → Format ℕ
number w = record {
  spell = to_be_bytes w;
  fits = λ n. nat_lt n (256 ^ byte_len w);
  read = λ bytes. if nat_lt (length bytes) (byte_len w) then Err Truncated else Ok (from_be_bytes w (take (byte_len w) bytes), drop (byte_len w) bytes);
}

-- the values of a format that pass a test; the fault of one that does not comes after those of its fields
abbrev pub where_it : {X : Type 0} → (X → Bool) → FieldFault → Format X → Format X
where_it test fault f = record {
  spell = f.spell;
  fits = λ x. f.fits x && test x;
  read = λ bytes. f.read bytes >>= λ x. if test x.0 then Ok x else Err fault;
}

-- one format, and behind it another, which may depend on the first value
abbrev pub before : {A B : Type 0} → Format A → (A → Format B) → Format (A × B)
before f g = record {
  spell = λ x. f.spell x.0 ++ (g x.0).spell x.1;
  fits = λ x. f.fits x.0 && (g x.0).fits x.1;
  read = λ bytes. f.read bytes >>= λ a. (g a.0).read a.1 >>= λ b. Ok ((a.0, b.0), b.1);
}

-- the values of a format, seen as others
abbrev pub seen_as : {X Y : Type 0} → (X → Y) → (Y → X) → (Y → Bool) → Format X → Format Y
seen_as to from fits f = record {
  spell = λ y. f.spell (from y);
  fits = fits;
  read = λ bytes. f.read bytes >>= λ x. Ok (to x.0, x.1);
}

-- the values of a format, each seen as one other value
abbrev pub as_record : {X Y : Type 0} → (X → Y) → (Y → X) → Format X → Format Y
as_record to from f = seen_as to from (λ y. f.fits (from y)) f

-- certain bytes
abbrev pub mark : List ℕ → Format (List ℕ)
mark magic = where_it (bytes_eq magic) Magic (raw (length magic))

-- certain bytes, and behind them a format
abbrev pub marked : {X : Type 0} → List ℕ → Format X → Format X
marked magic f = record {
  spell = λ x. magic ++ f.spell x;
  fits = f.fits;
  read = λ bytes. (mark magic).read bytes >>= λ m. f.read m.1;
}

-- a value that is all of the bytes
abbrev pub whole : {X : Type 0} → Format X → List ℕ → Result X FieldFault
whole f bytes = f.read bytes >>= λ x. if length x.1 == 0 then Ok x.0 else Err Trailing
