-- Tests of what a task does.
use Rattle.std.specs.Prelude.{Bool, true, false}
use Rattle.dataflow_model.specs.declared.role.Role.{Role}
use Rattle.dataflow_model.specs.declared.role.Role.TheVariants.{Source, Chain, Window, Sink}

abbrev pub is_source : Role → Bool
is_source Source = true
is_source Chain = false
is_source Window = false
is_source Sink = false

abbrev pub is_window : Role → Bool
is_window Source = false
is_window Chain = false
is_window Window = true
is_window Sink = false

abbrev pub takes_rows : Role → Bool
takes_rows Source = false
takes_rows Chain = true
takes_rows Window = true
takes_rows Sink = false

abbrev pub takes_fired : Role → Bool
takes_fired Source = false
takes_fired Chain = false
takes_fired Window = false
takes_fired Sink = true
