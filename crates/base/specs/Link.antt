-- A link, in document 01's words.
-- Assumes nothing.
use Rattle.std.specs.Prelude.{ℕ}

-- 'links, each two fragment numbers (0 to n-1) in either order'
abbrev pub Link : Type 0
Link = ℕ × ℕ
