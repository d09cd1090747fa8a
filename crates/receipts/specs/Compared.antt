-- Whether what a receipt tells of is still so.
use Rattle.std.specs.Prelude.{◌≡◌, ◌≢◌, ◌==◌, ◌&&◌, ◌<◌, ℕ, nat_le, Bool, List, [], length, take, bytes_eq, slice_index_or, Option, Some, None, Result, Ok, Err, if◌then◌else◌}
use Rattle.sha2.specs.Sha256.{sha256}
use Rattle.receipts.specs.declared.digests.Counted.{Counted}
use Rattle.receipts.specs.declared.fault.ReceiptFault.{ReceiptFault}
use Rattle.receipts.specs.declared.fault.ReceiptFault.TheVariants.{Plan, Cut, Entries, Names, Memory}

-- how many bytes, and their digest
abbrev pub counted_bytes : List ℕ → Counted
counted_bytes bytes = record { count = length bytes; digest = sha256 bytes }

abbrev pub is_same : Counted → Counted → Bool
is_same a b = (a.count == b.count) && bytes_eq a.digest b.digest

-- a plan's record is the one that was told of
abbrev pub plan_checked : Counted → List ℕ → Result (Unit {0}) ReceiptFault
plan_checked told bytes = if is_same (counted_bytes bytes) told then Ok tt else Err Plan

-- bytes begin with those that were told of
abbrev pub begins_with : Counted → List ℕ → Bool
begins_with told bytes = nat_le told.count (length bytes) && is_same (counted_bytes (take told.count bytes)) told

-- and so does a table of names, if one was told of
abbrev pub names_checked : Option Counted → Option (List ℕ) → Result (Unit {0}) ReceiptFault
names_checked None names = Ok tt
names_checked (Some told) None = Err Names
names_checked (Some told) (Some bytes) = if begins_with told bytes then Ok tt else Err Names

-- a partition of a source is as it was told of; else the number of its entries is another, or their digest is
abbrev pub ChecksPartition : List ℕ → ℕ → Counted → Counted → Result (Unit {0}) ReceiptFault → Type 0
ChecksPartition uid n told read (Ok _) = told ≡ read
ChecksPartition uid n told read (Err (Cut name m)) = (name ≡ uid) × (m ≡ n) × (told.count ≢ read.count)
ChecksPartition uid n told read (Err (Entries name m)) = (name ≡ uid) × (m ≡ n) × (told.count ≡ read.count) × (told.digest ≢ read.digest)
ChecksPartition uid n told read (Err Memory) = Unit {0}
ChecksPartition uid n told read (Err fault) = ⊥

-- the fault is that of the first partition of a source that is not
pub record IsFirstIn (uid : List ℕ) (told read : List Counted) (n : ℕ) (fault : ReceiptFault) : Type 0 where
  pub within : n < length told
  pub before : take n told ≡ take n read
  pub here : (d e : Counted) → ChecksPartition uid n (slice_index_or told n d) (slice_index_or read n e) (Err fault)

abbrev pub ChecksSource : List ℕ → List Counted → List Counted → Result (Unit {0}) ReceiptFault → Type 0
ChecksSource uid told read (Ok _) = told ≡ read
ChecksSource uid told read (Err fault) = (n : ℕ) × IsFirstIn uid told read n fault

-- and of the first source
pub record IsFirstAmong (uids : List (List ℕ)) (told read : List (List Counted)) (n : ℕ) (fault : ReceiptFault) : Type 0 where
  pub within : n < length told
  pub before : take n told ≡ take n read
  pub here : ChecksSource (slice_index_or uids n []) (slice_index_or told n []) (slice_index_or read n []) (Err fault)

abbrev pub ChecksSources : List (List ℕ) → List (List Counted) → List (List Counted) → Result (Unit {0}) ReceiptFault → Type 0
ChecksSources uids told read (Ok _) = told ≡ read
ChecksSources uids told read (Err fault) = (n : ℕ) × IsFirstAmong uids told read n fault
