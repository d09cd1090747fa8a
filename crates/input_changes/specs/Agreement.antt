-- What two inputs have in common before a cut.
use Rattle.std.specs.Prelude.{◌≡◌, ◌⊎◌, ℕ, ◌<◌, ℤ, List, [], ◌∷◌, ◌++◌, take, length}
use Rattle.plan_model.specs.PlanData.{PlanData}
use Rattle.plan_model.specs.declared.spec.Pane.{Pane}
use Rattle.stream_model.specs.declared.entry.Marked.{Marked}
use Rattle.stream_model.specs.InputData.{InputData}
use Rattle.stream_model.specs.Watermarks.{IsCut, merged_watermark, partition_watermark, records_before}
use Rattle.stream_model.specs.PlanRows.{due_rows, snapshot}

-- the first entries of each partition of a source, and of every source, as many as the cut says
abbrev pub entries_before_in : List (List Marked) → List ℕ → List (List Marked)
entries_before_in [] counts = []
entries_before_in (p ∷ ps) [] = []
entries_before_in (p ∷ ps) (n ∷ ns) = take n p ∷ entries_before_in ps ns

abbrev pub entries_before : List (List (List Marked)) → List (List ℕ) → List (List (List Marked))
entries_before [] cut = []
entries_before (s ∷ ss) [] = []
entries_before (s ∷ ss) (c ∷ cs) = entries_before_in s c ∷ entries_before ss cs

-- the watermark of each partition of a source, and of every source, at the cut
abbrev pub watermarks_at_in : List (List Marked) → List ℕ → List ℤ
watermarks_at_in [] counts = []
watermarks_at_in (p ∷ ps) [] = []
watermarks_at_in (p ∷ ps) (n ∷ ns) = partition_watermark p n ∷ watermarks_at_in ps ns

abbrev pub watermarks_at : List (List (List Marked)) → List (List ℕ) → List (List ℤ)
watermarks_at [] cut = []
watermarks_at (s ∷ ss) [] = []
watermarks_at (s ∷ ss) (c ∷ cs) = watermarks_at_in s c ∷ watermarks_at ss cs

-- the first entries of each partition are the same in both inputs, as many as the cut says
abbrev pub HaveSameEntries : InputData → InputData → List (List ℕ) → Type 0
HaveSameEntries old new cut = entries_before old.sources cut ≡ entries_before new.sources cut

-- and so are the watermarks of the partitions there
abbrev pub HaveSameWatermarks : InputData → InputData → List (List ℕ) → Type 0
HaveSameWatermarks old new cut = watermarks_at old.sources cut ≡ watermarks_at new.sources cut

-- two inputs agree before a cut: they have the same columns and time, it is a cut of both, so they have as many sources
-- and partitions, and the entries before it are the same, and the watermarks there
pub record AgreeBefore (old new : InputData) (cut : List (List ℕ)) : Type 0 where
  pub columns : old.columns ≡ new.columns
  pub time : old.time ≡ new.time
  pub of_old : IsCut old.sources cut
  pub of_new : IsCut new.sources cut
  pub entries : HaveSameEntries old new cut
  pub watermarks : HaveSameWatermarks old new cut

-- what the plan makes of both at the cut is the same
pub record AreSameAt (plan : PlanData) (old new : InputData) (cut : List (List ℕ)) : Type 0 where
  pub records : records_before old.sources cut ≡ records_before new.sources cut
  pub watermark : merged_watermark old.sources cut ≡ merged_watermark new.sources cut
  pub due : (q : Pane) → due_rows plan old.sources cut q ≡ due_rows plan new.sources cut q
  pub snapshot : (q : Pane) → snapshot plan old.sources cut q ≡ snapshot plan new.sources cut q

-- what may become of a partition of which the first n entries are kept: one that has more goes on with any others, one
-- at least, and one that ends there stays as it is
abbrev pub MayBecome : ℕ → List Marked → List Marked → Type 0
MayBecome n before after = ((n < length before) × ((e : Marked) × (rest : List Marked) × (after ≡ take n before ++ (e ∷ rest)))) ⊎ ((n ≡ length before) × (after ≡ before))

-- so it is of each partition of a source, and of every source, by a cut
abbrev pub GoOnIn : List (List Marked) → List (List Marked) → List ℕ → Type 0
GoOnIn [] [] [] = Unit {0}
GoOnIn (p ∷ ps) (r ∷ rs) (n ∷ ns) = MayBecome n p r × GoOnIn ps rs ns
GoOnIn ps rs ns = ⊥

abbrev pub GoOn : List (List (List Marked)) → List (List (List Marked)) → List (List ℕ) → Type 0
GoOn [] [] [] = Unit {0}
GoOn (s ∷ ss) (r ∷ rs) (c ∷ cs) = GoOnIn s r c × GoOn ss rs cs
GoOn ss rs cs = ⊥
