-- `lines::written` meets its contract.
-- Assumes nothing.
use native.Mathlib.Omega.{arith}
use mathlib.Core.Path.{refl}
use Rattle.text.specs.Laws.Put.{put_is, store_short, store_done}
use Rattle.lines.specs.Laws.Threads.{threads_done}
use Rattle.lines.specs.Laws.Written.{lines_kept}
use Rattle.lines.proofs.written.Goals as goal

pub all_lines-size-requires : goal.all_lines-size-requires
all_lines-size-requires c = threads_done c.requires c.thread.ensures

pub returns-then-out-size : goal.returns-then-out-size
returns-then-out-size c = let t = c.thread.ensures in (store_short (put_is (lines_kept _ _ _ t) c.all_lines-size.ensures) _ _ refl (omega arith), t.only)

pub all_lines-requires : goal.all_lines-requires
all_lines-requires c = threads_done c.requires c.thread.ensures

pub returns : goal.returns
returns c =
    let t = c.thread.ensures in (store_done (put_is (lines_kept _ _ _ t) c.all_lines-size.ensures) _ _ _ (omega arith) (put_is (lines_kept _ _ _ t) c.all_lines.ensures), t.only)
