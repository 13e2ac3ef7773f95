-- The reaches, pieces, sole links and cuts in scratch, as the passes leave them. Definitions only.
-- Assumes nothing.
use Rattle.std.specs.Prelude.{ℕ, ◌+◌, ◌*◌, ◌≤◌, ◌<◌, ◌≡◌, Bool, ◌&&◌, not, List, length, get_or, set, leb, eqb}
use Rattle.base.specs.Pick.{pick}
use Rattle.rules.specs.Search.{count, some}
use Rattle.rules.specs.Tables.{Tables, par, lev}
use Rattle.rules.specs.Reading.{reach, child_of, piece}
use Rattle.state.specs.Layout.{forest_in}
use Rattle.testing.specs.Whole.{Whole}
use Rattle.testing.specs.Only.{Only, Blank}
use Rattle.reaches.specs.Spread.{flag, sole_at}

pub record Lows (n : ℕ) (f g : List ℕ) : Type 0 where
  pub only : Only (10 * n) (11 * n) f g
  pub each : (v : ℕ) → v < n → get_or g (10 * n + v) 0 ≡ reach n (forest_in n f) v

pub record Pieces (n : ℕ) (f g : List ℕ) : Type 0 where
  pub only : Only (7 * n) (8 * n) f g
  pub each : (v : ℕ) → v < n → get_or g (7 * n + v) 0 ≡ piece n (forest_in n f) v

-- Section 10 has the reaches.
pub record Reached (n : ℕ) (f : List ℕ) : Type 0 where
  pub whole : Whole n f
  pub each : (v : ℕ) → v < n → get_or f (10 * n + v) 0 ≡ reach n (forest_in n f) v

-- The sole links of the first k fragments.
pub record Soles (n k : ℕ) (f g : List ℕ) : Type 0 where
  pub only : Only (9 * n) (10 * n) f g
  pub each : (v : ℕ) → v < k → get_or g (9 * n + v) 0 ≡ sole_at n (forest_in n f) v

-- Whether p is cut by its child c, where section 11 says whether it had one before.
unfoldable pub cuts_at : (n p c : ℕ) → List ℕ → Bool
cuts_at n p c f =
    pick (eqb (par (forest_in n f) p) p)
    (not (eqb (get_or f (11 * n + p) 0) 0))
    (leb (lev (forest_in n f) p) (get_or f (10 * n + c) 0))

-- Its word in section 8 then; and p has a child.
unfoldable pub cut_word : (n p c : ℕ) → List ℕ → ℕ
cut_word n p c f = pick (cuts_at n p c f) 1 (get_or f (8 * n + p) 0)

unfoldable pub cut_by : (n p c : ℕ) → List ℕ → List ℕ
cut_by n p c f = set (set f (8 * n + p) (cut_word n p c f)) (11 * n + p) 1

unfoldable pub cut_one : (n c : ℕ) → List ℕ → List ℕ
cut_one n c f = pick (eqb (par (forest_in n f) c) c) f (cut_by n (par (forest_in n f) c) c f)

-- v is cut, as far as the first k fragments say.
unfoldable pub cut_so : ℕ → Tables → ℕ → ℕ → Bool
cut_so n t k v =
    pick (eqb (par t v) v)
    (leb 2 (count (child_of t v) k))
    (some (λ c. child_of t v c && leb (lev t v) (reach n t c)) k)

pub record Cuttable (n : ℕ) (f : List ℕ) : Type 0 where
  pub reached : Reached n f
  pub no_cut : Blank (8 * n) (9 * n) f
  pub no_child : Blank (11 * n) (12 * n) f

pub record Cuts (n k : ℕ) (f g : List ℕ) : Type 0 where
  pub long : length g ≡ length f
  pub before : (i : ℕ) → i < 8 * n → get_or g i 0 ≡ get_or f i 0
  pub between : (i : ℕ) → 9 * n ≤ i → i < 11 * n → get_or g i 0 ≡ get_or f i 0
  pub behind : (i : ℕ) → 12 * n ≤ i → get_or g i 0 ≡ get_or f i 0
  pub each : (v : ℕ) → v < n → get_or g (8 * n + v) 0 ≡ flag (cut_so n (forest_in n f) k v)
  pub child : (v : ℕ) → v < n → get_or g (11 * n + v) 0 ≡ flag (some (child_of (forest_in n f) v) k)
