-- The words that the laws of the list writer are stated in.
-- Assumes nothing.
use Rattle.std.specs.Prelude.{List, [], ◌∷◌, ℕ}
use Rattle.base.specs.Link.{Link}

-- Links as words, two each.
unfoldable pub words_of : List Link → List ℕ
words_of [] = []
words_of ((a, b) ∷ ls) = a ∷ b ∷ words_of ls
