-- What is stored of n fragments between two links: the forest so far, the notes, the marks and the held links. Definitions only.
-- Assumes nothing.
use Rattle.std.specs.Prelude.{ℕ, pred, Bool, false, cond, List, [], get_or, set, replicate, ltb}
use Rattle.base.specs.Link.{Link}

pub record Tables : Type 0 where
  -- the parent of a placed fragment, itself for a root; 0 for an unplaced one
  pub parent : List ℕ
  -- one more than the level of a placed fragment; 0 for an unplaced one
  pub level : List ℕ
  -- Building: one more than the fragment noted, 0 for none. Reading: how far the note lies under the fragment's own level.
  pub note : List ℕ
  -- Building: 1 where the piece with this smallest member was marked lost. Reading: 1 where the parent link was seen.
  pub mark : List ℕ
  -- the held links, smaller end first, in order of arrival
  pub held : List Link
  -- Reading: the pass is false
  pub crossed : Bool

unfoldable pub parent_of : Tables → ℕ → ℕ
parent_of t v = get_or t.parent v 0

unfoldable pub rank : Tables → ℕ → ℕ
rank t v = get_or t.level v 0

unfoldable pub note_of : Tables → ℕ → ℕ
note_of t v = get_or t.note v 0

unfoldable pub mark_of : Tables → ℕ → ℕ
mark_of t v = get_or t.mark v 0

unfoldable pub placed : Tables → ℕ → Bool
placed t v = ltb 0 (rank t v)

-- The forest that stands: an unplaced fragment counts as a root by itself.
unfoldable pub par : Tables → ℕ → ℕ
par t v = cond (placed t v) (parent_of t v) v

unfoldable pub lev : Tables → ℕ → ℕ
lev t v = pred (rank t v)

-- 'Start (n, k) gives Building with nothing placed.'
unfoldable pub fresh : ℕ → Tables
fresh n = record { parent = replicate n 0; level = replicate n 0; note = replicate n 0; mark = replicate n 0; held = []; crossed = false }

-- The tables with one of their parts changed.
unfoldable pub place : ℕ → ℕ → ℕ → Tables → Tables
place v p r t = record { parent = set t.parent v p; level = set t.level v r; note = t.note; mark = t.mark; held = t.held; crossed = t.crossed }

unfoldable pub put_note : ℕ → ℕ → Tables → Tables
put_note v x t = record { parent = t.parent; level = t.level; note = set t.note v x; mark = t.mark; held = t.held; crossed = t.crossed }

unfoldable pub put_mark : ℕ → Tables → Tables
put_mark v t = record { parent = t.parent; level = t.level; note = t.note; mark = set t.mark v 1; held = t.held; crossed = t.crossed }

unfoldable pub put_held : List Link → Tables → Tables
put_held h t = record { parent = t.parent; level = t.level; note = t.note; mark = t.mark; held = h; crossed = t.crossed }

unfoldable pub put_crossed : Bool → Tables → Tables
put_crossed b t = record { parent = t.parent; level = t.level; note = t.note; mark = t.mark; held = t.held; crossed = b }

-- 'the notes are cleared': the marks go with them, and the false mark of a reading pass.
abbrev pub clear_notes : ℕ → Tables → Tables
clear_notes n t = record { parent = t.parent; level = t.level; note = replicate n 0; mark = replicate n 0; held = t.held; crossed = false }

-- Held links are cleared.
abbrev pub clear_held : Tables → Tables
clear_held t = record { parent = t.parent; level = t.level; note = t.note; mark = t.mark; held = []; crossed = t.crossed }

-- Both, as B6 has it; outside Building no link is held, and clearing the notes comes to the same.
unfoldable pub cleared : ℕ → Tables → Tables
cleared n t = clear_notes n (clear_held t)
