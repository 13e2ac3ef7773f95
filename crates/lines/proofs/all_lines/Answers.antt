-- `lines::all_lines` meets its contract.
-- Assumes nothing.
use native.Mathlib.Omega.{arith}
use Rattle.lines.specs.Report.{report_lines}
use Rattle.text.specs.Laws.Put.{put_then}
use Rattle.lines.specs.Laws.Written.{soles_room}
use Rattle.lines.proofs.all_lines.Goals as goal

pub soles-requires : goal.soles-requires
soles-requires c = let p = c.requires in (p, soles_room p (omega (arith, c.fragments-second.ensures.short, c.first_line-first.ensures.short)))

pub returns : goal.returns
unfolding report_lines
returns c = put_then c.first_line-first.ensures.put (put_then c.fragments-second.ensures.put c.soles.ensures)
