-- A receipt that is read has the sources of the plan, each with its partitions.
use Rattle.std.proofs.Common.{◌≡◌, ◌==◌, ℕ, Bool, true, false, List, [], ◌∷◌, length, map, cond, codes, Option, Some, None, option_and_then, refl, sym, ap, ap₂, ◌∙◌}
use Rattle.std.proofs.lemmas.Bool.{eqb-true}
use Rattle.serde_json.specs.Data.{Data}
use Rattle.serde_json.specs.Find.{get}
use Rattle.json_parts.specs.Parts.{◌>>=◌, each_at, has_only, json_of, text_at}
use Rattle.plan_model.specs.declared.spec.SourceSpec.{SourceSpec}
use Rattle.receipts.specs.declared.digests.Counted.{Counted}
use Rattle.receipts.specs.declared.receipt.Receipt.{Receipt}
use Rattle.receipts.specs.Said.{counted_said, count_at, counted_at, counted_if_there, if_as_many, source_said, each_source, sources_said, sources_at, member_names, receipt_said, without_line_feed, receipt_of_bytes}

-- what comes of a part comes of one that is there
there : {A B : Type 0} (f : A → Option B) (o : Option A) (y : B) → option_and_then f o ≡ Some y → (x : A) × (o ≡ Some x) × (f x ≡ Some y)
there f None y e = absurd cc
there f (Some x) y e = (x, refl, e)

same_some : {A : Type 0} (x y : A) → Some x ≡ Some y → x ≡ y
same_some x y e = cc

if_so : {A : Type 0} (b : Bool) (o : Option A) (y : A) → cond b o None ≡ Some y → (b ≡ true) × (o ≡ Some y)
if_so true o y e = (refl, e)
if_so false o y e = absurd cc

counted : (n : ℕ) (o : Option (List Counted)) (ps : List Counted) → option_and_then (if_as_many n) o ≡ Some ps → length ps ≡ n
counted n o ps e =
    let some = there (if_as_many n) o ps e in
    let as_many = if_so (length some.0 == n) (Some some.0) ps some.2 in
    ap (λ xs. length xs) (sym (same_some some.0 ps as_many.1)) ∙ eqb-true (length some.0) n as_many.0

each_shape : (d : Data) (ss : List SourceSpec) (rs : List (List Counted)) → each_source d ss ≡ Some rs → map (λ r. length r) rs ≡ map (λ s. s.partitions) ss
each_shape d [] rs e = ap (map (λ r. length r)) (sym (same_some [] rs e))
each_shape d (s ∷ ss) rs e =
    let first = there (λ ps. each_source d ss >>= λ rest. Some (ps ∷ rest)) (source_said d s) rs e in
    let others = there (λ rest. Some (first.0 ∷ rest)) (each_source d ss) rs first.2 in
    ap (map (λ r. length r)) (sym (same_some (first.0 ∷ others.0) rs others.2)) ∙ ap₂ (λ (n : ℕ) (ns : List ℕ). n ∷ ns) (counted s.partitions (each_at counted_said s.uid d) first.0 first.1) (each_shape d ss others.0 others.1)

sources_shape : (ss : List SourceSpec) (d : Data) (rs : List (List Counted)) → sources_said ss d ≡ Some rs → map (λ r. length r) rs ≡ map (λ s. s.partitions) ss
unfolding sources_said
sources_shape ss d rs e = each_shape d ss rs (if_so (has_only (map (λ s. s.uid) ss) d) (each_source d ss) rs e).1

pub said_shape : (ss : List SourceSpec) (d : Data) (r : Receipt) → receipt_said ss d ≡ Some r → map (λ x. length x) r.sources ≡ map (λ s. s.partitions) ss
unfolding receipt_said sources_at
said_shape ss d r e =
    let inside = (if_so (has_only member_names d) _ r e).1 in
    let version = there _ (text_at (codes "version") d) r inside in
    let legs = there _ (count_at (codes "legs") d) r version.2 in
    let plan = there _ (counted_at (codes "plan") d) r legs.2 in
    let read = there _ (sources_at (codes "sources") ss d) r plan.2 in
    let records = there _ (count_at (codes "records") d) r read.2 in
    let rows = there _ (counted_at (codes "rows") d) r records.2 in
    let names = there _ (counted_if_there (codes "names") d) r rows.2 in
    let value = there (sources_said ss) (get (codes "sources") d) read.0 read.1 in
    let same : read.0 ≡ r.sources = ap (λ o. o.sources) (same_some _ r names.2) in
    ap (map (λ x. length x)) (sym same) ∙ sources_shape ss value.0 read.0 value.2

pub shape : (ss : List SourceSpec) (bytes : List ℕ) (r : Receipt) → receipt_of_bytes ss bytes ≡ Some r → map (λ x. length x) r.sources ≡ map (λ s. s.partitions) ss
unfolding receipt_of_bytes
shape ss bytes r e =
    let value = there (receipt_said ss) (json_of (without_line_feed bytes)) r e in
    said_shape ss value.0 r value.2
