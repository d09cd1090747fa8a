-- Starts at cuts of an input.
use Rattle.std.proofs.Common.{◌≡◌, ℕ, suc, ◌≤◌, ◌^◌, List, [], ◌∷◌, length, map, refl, sym, ap, subst, ◌∙◌, arith}
use Rattle.std.specs.Prelude.{Some, None}
use Rattle.std.specs.List.{AllZip}
use Rattle.std.specs.FinMap.{get-empty}
use Rattle.plan_model.specs.PlanData.{PlanData}
use Rattle.plan_model.specs.Rows.{pane_cmp}
use Rattle.stream_model.specs.declared.entry.Marked.{Marked}
use Rattle.stream_model.specs.InputData.{InputData}
use Rattle.stream_model.specs.Watermarks.{IsCut, empty_cut}
use Rattle.stream_model.specs.PlanRows.{snapshot}
use Rattle.stream_model.proofs.Facts.{nothing_at_first}
use Rattle.input_flow.proofs.Facts.{empty_is_cut}
use Rattle.redistribute.specs.StartData.{offsets_of}
use Rattle.redistribute.specs.Snapshots.{saved_source, saved_sources, start_at}
use Rattle.redistribute.specs.Begins.{IsStartIn, HasSnapshot}

-- the start at a cut begins there
pub offsets_in : (ps : List (List Marked)) (ns : List ℕ) → AllZip (λ p n. n ≤ length p) ps ns → map (λ p. p.offset) (saved_source ps ns) ≡ ns
offsets_in [] [] h = refl
offsets_in [] (n ∷ ns) h = absurd h
offsets_in (p ∷ ps) [] h = absurd h
offsets_in (p ∷ ps) (n ∷ ns) h = ap (λ z. n ∷ z) (offsets_in ps ns h.1)

pub offsets_at : (ss : List (List (List Marked))) (cs : List (List ℕ)) (n : ℕ) → IsCut ss cs → offsets_of (start_at ss cs n) ≡ cs
offsets_at [] [] n h = refl
offsets_at [] (c ∷ cs) n h = absurd h
offsets_at (s ∷ ss) [] n h = absurd h
offsets_at (s ∷ ss) (c ∷ cs) n h = λ j. offsets_in s c h.0 j ∷ offsets_at ss cs n h.1 j

-- each source has all its partitions
saved_in_source : (ps : List (List Marked)) (ns : List ℕ) → AllZip (λ p n. n ≤ length p) ps ns → length (saved_source ps ns) ≡ length ps
saved_in_source [] [] h = refl
saved_in_source [] (n ∷ ns) h = absurd h
saved_in_source (p ∷ ps) [] h = absurd h
saved_in_source (p ∷ ps) (n ∷ ns) h = ap suc (saved_in_source ps ns h.1)

pub shaped : (ss : List (List (List Marked))) (cs : List (List ℕ)) → IsCut ss cs → map (λ ps. length ps) (saved_sources ss cs) ≡ map (λ ps. length ps) ss
shaped [] [] h = refl
shaped [] (c ∷ cs) h = absurd h
shaped (s ∷ ss) [] h = absurd h
shaped (s ∷ ss) (c ∷ cs) h = λ j. saved_in_source s c h.0 j ∷ shaped ss cs h.1 j

pub starts_in : (p : PlanData) (i : InputData) (cut : List (List ℕ)) (n : ℕ) → IsCut i.sources cut → n ≤ 2 ^ 63 → IsStartIn p i (start_at i.sources cut n)
starts_in p i cut n is_cut few =
    let same = offsets_at i.sources cut n is_cut in
    record {
      cut = subst (IsCut i.sources) (sym same) is_cut;
      partitions = ap (saved_sources i.sources) (sym same);
      windows = λ k d l. absurd (omega (arith, l));
      counts = λ q a e. absurd (let z : None ≡ Some a = sym (get-empty pane_cmp q) ∙ e in cc);
      number = few;
    }

-- ---- the empty cut

pub empty_has_snapshot : (p : PlanData) (i : InputData) (n : ℕ) → HasSnapshot p i (start_at i.sources (empty_cut i.sources) n)
empty_has_snapshot p i n q =
    get-empty pane_cmp q ∙ sym (ap (λ cut. snapshot p i.sources cut q) (offsets_at i.sources (empty_cut i.sources) n (empty_is_cut i.sources)) ∙ nothing_at_first p i.sources q)
