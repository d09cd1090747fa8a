-- The fields of places, and the value that they stand for.
use Rattle.std.specs.Prelude.{map, List}
use Rattle.plan_model.specs.declared.spec.Pane.{Pane}
use Rattle.aggregates.specs.Kinds.{AccData, kind_of}
use Rattle.window_state.specs.declared.places.Places.TheInside.{Inside}
use Rattle.place_words.specs.Words.{entries_in}
use Rattle.window_state.specs.Places.{PlacesData, ArePlaces}

abbrev pub entries_inside : Inside → List (Pane × AccData)
entries_inside s = entries_in (map kind_of s.window.aggregates) s.words.items 0 s.panes.keys

abbrev pub places_view : Inside → PlacesData
places_view s = record { window = s.window; entries = entries_inside s }

abbrev pub IsPlacesInside : Inside → Type 0
IsPlacesInside s = ArePlaces s.window s.stride s.panes.keys s.words.items
