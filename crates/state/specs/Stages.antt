-- The stages. Definitions only.
-- Assumes nothing.
use Rattle.std.specs.Prelude.{Bool, true, false, ◌||◌}
use Rattle.state.specs.declared.Stage.{Stage}
use Rattle.state.specs.declared.Stage.TheVariants.{Building, Built, Reading, Read}

abbrev pub is_building : Stage → Bool
is_building Building = true
is_building Built = false
is_building Reading = false
is_building Read = false

abbrev pub is_built : Stage → Bool
is_built Building = false
is_built Built = true
is_built Reading = false
is_built Read = false

abbrev pub is_reading : Stage → Bool
is_reading Building = false
is_reading Built = false
is_reading Reading = true
is_reading Read = false

abbrev pub is_read : Stage → Bool
is_read Building = false
is_read Built = false
is_read Reading = false
is_read Read = true

-- The forest is numbered: it was opened to be read.
abbrev pub is_numbered : Stage → Bool
is_numbered stage = is_reading stage || is_read stage
