-- The laws of these cuts.
use Rattle.std.specs.Prelude.{◌≡◌, ℤ, pos, ◌+ℤ◌, ◌-ℤ◌, ◌≤ℤ◌, ℕ, true, List}
use Rattle.plain_data.specs.Times.{highest}
use Rattle.plan_model.specs.declared.spec.WindowSpec.{WindowSpec}
use Rattle.plan_model.specs.Rows.{is_due}
use Rattle.stream_model.specs.declared.entry.Marked.{Marked}
use Rattle.stream_model.specs.Watermarks.{merged_watermark, IsCut, IsBefore}
use Rattle.input_cuts.specs.Cuts.{first_cut}

-- it is a cut with a merged watermark of at least w, and no cut with such a watermark is behind it in any place
pub record IsFirstAt (w : ℤ) (sources : List (List (List Marked))) (cut : List (List ℕ)) : Type 0 where
  pub is : IsCut sources cut
  pub reached : w ≤ℤ merged_watermark sources cut
  pub first : (b : List (List ℕ)) → IsCut sources b → w ≤ℤ merged_watermark sources b → IsBefore cut b

abbrev pub FirstCutIsFirst : Type 0
FirstCutIsFirst = (w : ℤ) (sources : List (List (List Marked))) → w ≤ℤ highest → IsFirstAt w sources (first_cut w sources)

-- so at the first cut for t - 1 each window that ends by t is due
abbrev pub FirstCutIsDue : Type 0
FirstCutIsDue = (o : WindowSpec) (t s : ℤ) (sources : List (List (List Marked))) → (t -ℤ pos 1) ≤ℤ highest → (s +ℤ o.size) ≤ℤ t → is_due o (merged_watermark sources (first_cut (t -ℤ pos 1) sources)) s ≡ true
