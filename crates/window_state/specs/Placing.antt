-- Panes with their places.
use Rattle.std.specs.Prelude.{◌≡◌, ℕ, ◌*◌, ◌-ℤ◌, map, slice_get, slice_index_or, List, [], Some}
use Rattle.std.specs.Int.{int_rem_euclid}
use Rattle.std.specs.Map.{keys_of}
use Rattle.plain_data.specs.Record.{Record, at}
use Rattle.plan_model.specs.declared.spec.Pane.{Pane}
use Rattle.plan_model.specs.declared.spec.WindowSpec.{WindowSpec}
use Rattle.aggregates.specs.Kinds.{AccData, kind_of}
use Rattle.place_words.specs.declared.words.PlacedRow.{PlacedRow}
use Rattle.place_words.specs.Words.{stride}
use Rattle.window_state.specs.declared.places.Placed.{Placed}
use Rattle.window_state.specs.Places.{PlacesData}

-- the panes
abbrev pub panes_placed : List Placed → List Pane
panes_placed placed = map (λ it. it.pane) placed

-- the pane has this place among entries one after the other
abbrev pub IsPlaceIn : List (Pane × AccData) → Placed → Type 0
IsPlaceIn entries it = slice_get (keys_of entries) it.place ≡ Some it.pane

-- the words of the pane's place begin at x
pub record HasWordsAt (places : PlacesData) (pane : Pane) (x : ℕ) : Type 0 where
  pub place : ℕ
  pub there : slice_get (keys_of places.entries) place ≡ Some pane
  pub begins : x ≡ place * stride (map kind_of places.window.aggregates)

-- the pane of the last window of a record's time
abbrev pub last_pane : WindowSpec → Record → Pane
last_pane w r = record { start = at w.time r -ℤ int_rem_euclid (at w.time r -ℤ w.offset) w.slide; key = at w.key r }

-- the records of rows of a batch
abbrev pub records_placed : List Record → List PlacedRow → List Record
records_placed records rows = map (λ r. slice_index_or records r.row []) rows
