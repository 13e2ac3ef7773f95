-- Sole links, cut fragments and pieces by removal: 'What these mean on the list read'. Definitions only.
-- Assumes nothing.
use Rattle.std.specs.Prelude.{ℕ, ◌≤◌, Bool, not, ◌||◌, cond, List, [], ◌∷◌, ◌≢◌, T, eqb}
use Rattle.base.specs.Link.{Link}
use Rattle.rules.specs.Links.{Links, between, linked, JoinedBy}

-- The entries of a list that pass a test.
unfoldable pub keep : (Link → Bool) → List Link → List Link
keep p [] = []
keep p (l ∷ g) = cond (p l) (l ∷ keep p g) (keep p g)

-- The link l ends at v.
unfoldable pub touches : ℕ → Link → Bool
touches v (a, b) = eqb a v || eqb b v

-- The list with every entry of the link a-b taken away.
abbrev pub without_link : ℕ → ℕ → List Link → List Link
without_link a b g = keep (λ l. not (between l a b)) g

-- The list with the fragment v and all its links taken away.
abbrev pub without_fragment : ℕ → List Link → List Link
without_fragment v g = keep (λ l. not (touches v l)) g

-- 'a link is sole when its ends are not joined by the other links'
pub record Sole (g : List Link) (a b : ℕ) : Type 0 where
  pub listed : T (linked g a b)
  pub alone : JoinedBy (linked (without_link a b g)) a b → ⊥

-- v parts a from b: they are joined, and every chain between them goes through v.
pub record Parts (g : List Link) (v a b : ℕ) : Type 0 where
  pub joined : JoinedBy (linked g) a b
  pub through : JoinedBy (linked (without_fragment v g)) a b → ⊥

-- 'a fragment is cut when two others are joined, and every chain between them goes through it'
pub record Cut (g : List Link) (v : ℕ) : Type 0 where
  pub one : ℕ
  pub two : ℕ
  pub other_one : one ≢ v
  pub other_two : two ≢ v
  pub parts : Parts g v one two

-- p is the smallest fragment that v is joined with, by the links of a set,
pub record PieceIn (E : Links) (v p : ℕ) : Type 0 where
  pub joined : JoinedBy E v p
  pub smallest : (u : ℕ) → JoinedBy E v u → p ≤ u

-- by those of a list.
abbrev pub Piece : List Link → ℕ → ℕ → Type 0
Piece g = PieceIn (linked g)
