-- The sources of a plan, found by their names among the members that were written.
use Rattle.std.proofs.Common.{◌≡◌, ◌==◌, ℕ, true, List, [], ◌∷◌, length, map, zip, Option, Some, refl, sym, ap, ◌∙◌, subst, arith}
use Rattle.std.specs.List.{list_all}
use Rattle.plan_model.specs.declared.spec.SourceSpec.{SourceSpec}
use Rattle.serde_json.specs.Data.{object, Members, no_members}
use Rattle.serde_json.specs.Find.{get_member}
use Rattle.json_parts.specs.Parts.{each_at, has_only, is_one_of, names_of, object_of}
use Rattle.receipts.specs.declared.digests.Counted.{Counted}
use Rattle.receipts.specs.Said.{source_said, each_source, sources_said}
use Rattle.receipts.proofs.Puts.{AreThere, Distinct, put_all, names_in, all_there, no_other}
use Rattle.receipts.proofs.Sources.{AreCounted, named, partitions_data, partitions_back}

-- partitions of each source, as many as the plan's
abbrev pub AreOf : List SourceSpec → List (List Counted) → Type 0
AreOf [] [] = Unit {0}
AreOf [] (r ∷ rs) = ⊥
AreOf (s ∷ ss) [] = ⊥
AreOf (s ∷ ss) (r ∷ rs) = ((length r ≡ s.partitions) × AreCounted r) × AreOf ss rs

pub names_are : (ss : List SourceSpec) (rs : List (List Counted)) → AreOf ss rs → names_in (map named (zip ss rs)) ≡ map (λ s. s.uid) ss
names_are [] [] are = refl
names_are [] (r ∷ rs) are = absurd are
names_are (s ∷ ss) [] are = absurd are
names_are (s ∷ ss) (r ∷ rs) are = ap (λ (names : List (List ℕ)). s.uid ∷ names) (names_are ss rs are.1)

same_number : (n m : ℕ) → n ≡ m → (n == m) ≡ true
same_number n m e = grind (arith, e)

source_back : (ms : Members) (s : SourceSpec) (r : List Counted) → get_member s.uid ms ≡ Some (partitions_data r) → length r ≡ s.partitions → AreCounted r → source_said (object ms) s ≡ Some r
unfolding each_at
source_back ms s r there long are = rw (there, partitions_back r are, same_number (length r) s.partitions long) refl

each_back : (ms : Members) (ss : List SourceSpec) (rs : List (List Counted)) → AreOf ss rs → AreThere ms (map named (zip ss rs)) → each_source (object ms) ss ≡ Some rs
each_back ms [] [] are there = refl
each_back ms [] (r ∷ rs) are there = absurd are
each_back ms (s ∷ ss) [] are there = absurd are
each_back ms (s ∷ ss) (r ∷ rs) are there = rw (source_back ms s r there.0 are.0.0 are.0.1, each_back ms ss rs are.1 there.1) refl

only : (names : List (List ℕ)) (ms : Members) (said : Option (List (List Counted))) → list_all (is_one_of names) (names_of ms) ≡ true → object_of names (object ms) said ≡ said
unfolding has_only
only names ms said e = rw e refl

pub sources_back : (ss : List SourceSpec) (rs : List (List Counted)) → Distinct (map (λ s. s.uid) ss) → AreOf ss rs → sources_said ss (object (put_all (map named (zip ss rs)) no_members)) ≡ Some rs
unfolding sources_said
sources_back ss rs distinct are =
    let zs = map named (zip ss rs) in
    let ms = put_all zs no_members in
    let names = names_are ss rs are in
    only (map (λ s. s.uid) ss) ms (each_source (object ms) ss) (ap (λ (ks : List (List ℕ)). list_all (is_one_of ks) (names_of ms)) (sym names) ∙ no_other zs)
    ∙ each_back ms ss rs are (all_there zs no_members (subst Distinct (sym names) distinct))
