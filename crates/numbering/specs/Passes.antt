-- What the passes over the fragments do. Definitions only.
-- Assumes nothing.
use Rattle.std.specs.Prelude.{ℕ, suc, ◌+◌, ◌*◌, ◌≤◌, ◌<◌, ◌≡◌, Bool, ◌&&◌, List, get_or, set, leb, eqb}
use Rattle.base.specs.Pick.{pick}
use Rattle.rules.specs.Search.{sum}
use Rattle.rules.specs.Tables.{Tables, par}
use Rattle.rules.specs.Reading.{child_of}
use Rattle.rules.specs.Numbers.{below, below_if, passed, turn, end}
use Rattle.state.specs.Layout.{forest_in}
use Rattle.testing.specs.Whole.{Whole}
use Rattle.testing.specs.Only.{Only, Blank}
use Rattle.numbering.specs.Order.{spot_of, Ordered}

-- A whole table with an order.
pub record Ready (n : ℕ) (f : List ℕ) : Type 0 where
  pub whole : Whole n f
  pub ordered : Ordered n (forest_in n f) f

-- The words of section j are small.
abbrev pub Small : (j n : ℕ) → List ℕ → Type 0
Small j n f = (v : ℕ) → v < n → get_or f (j * n + v) 0 < n

-- v and those below it are added to those below its parent, in section 9.
unfoldable pub grown_at : (n v : ℕ) → List ℕ → List ℕ
grown_at n v f =
    pick (eqb (par (forest_in n f) v) v)
    f
    (set f (9 * n + par (forest_in n f) v) (get_or f (9 * n + par (forest_in n f) v) 0 + get_or f (9 * n + v) 0 + 1))

-- c is a child of v, from spot i on.
unfoldable pub late : (n : ℕ) → Tables → (i v c : ℕ) → Bool
late n t i v c = leb i (spot_of n t c) && child_of t v c

pub record Growable (n : ℕ) (f : List ℕ) : Type 0 where
  pub ready : Ready n f
  pub blank : Blank (9 * n) (10 * n) f

-- The fragments from spot i on have been added.
pub record Growing (n i : ℕ) (f g : List ℕ) : Type 0 where
  pub only : Only (9 * n) (10 * n) f g
  pub each : (v : ℕ) → v < n → get_or g (9 * n + v) 0 ≡ sum (below_if n (forest_in n f) (late n (forest_in n f) i v)) n

-- Section 9 has how many stand below each fragment, itself not counted.
pub record Sizes (n : ℕ) (f g : List ℕ) : Type 0 where
  pub only : Only (9 * n) (10 * n) f g
  pub each : (v : ℕ) → v < n → suc (get_or g (9 * n + v) 0) ≡ below n (forest_in n f) v

-- The word that counts those below the ones beside v: for the children of a fragment in section 5, for the roots the first of section 6.
unfoldable pub seat_of : ℕ → Tables → ℕ → ℕ
seat_of n t v = pick (eqb (par t v) v) (6 * n) (5 * n + par t v)

unfoldable pub sits : ℕ → Tables → (s v : ℕ) → Bool
sits n t s v = eqb (seat_of n t v) s

pub record Sized (n : ℕ) (f : List ℕ) : Type 0 where
  pub whole : Whole n f
  pub blank : Blank (4 * n) (7 * n) f
  pub each : (v : ℕ) → v < n → suc (get_or f (9 * n + v) 0) ≡ below n (forest_in n f) v

-- Section 4 has for the first k fragments how many stand below the smaller ones beside each.
pub record Passing (n k : ℕ) (f g : List ℕ) : Type 0 where
  pub only : Only (4 * n) (7 * n) f g
  pub each : (v : ℕ) → v < k → get_or g (4 * n + v) 0 ≡ passed n (forest_in n f) v
  pub seats : (s : ℕ) → 5 * n ≤ s → s < 7 * n → get_or g s 0 ≡ sum (below_if n (forest_in n f) (sits n (forest_in n f) s)) k

-- v comes behind its parent, in section 4.
unfoldable pub turned_at : (n v : ℕ) → List ℕ → List ℕ
turned_at n v f =
    pick (eqb (par (forest_in n f) v) v)
    f
    (set f (4 * n + v) (get_or f (4 * n + par (forest_in n f) v) 0 + get_or f (4 * n + v) 0 + 1))

pub record Turnable (n : ℕ) (f : List ℕ) : Type 0 where
  pub ready : Ready n f
  pub each : (v : ℕ) → v < n → get_or f (4 * n + v) 0 ≡ passed n (forest_in n f) v

-- The fragments before spot i have their turns.
pub record Turning (n i : ℕ) (f g : List ℕ) : Type 0 where
  pub only : Only (4 * n) (5 * n) f g
  pub done : (v : ℕ) → v < n → spot_of n (forest_in n f) v < i → get_or g (4 * n + v) 0 ≡ turn n (forest_in n f) v
  pub left : (v : ℕ) → v < n → i ≤ spot_of n (forest_in n f) v → get_or g (4 * n + v) 0 ≡ passed n (forest_in n f) v

pub record Turns (n : ℕ) (f g : List ℕ) : Type 0 where
  pub only : Only (4 * n) (5 * n) f g
  pub each : (v : ℕ) → v < n → get_or g (4 * n + v) 0 ≡ turn n (forest_in n f) v

pub record Turned (n : ℕ) (f : List ℕ) : Type 0 where
  pub whole : Whole n f
  pub turns : (v : ℕ) → v < n → get_or f (4 * n + v) 0 ≡ turn n (forest_in n f) v
  pub sizes : (v : ℕ) → v < n → suc (get_or f (9 * n + v) 0) ≡ below n (forest_in n f) v

-- Section 5 has where those below the first k fragments end, and section 6 has each of these at its turn.
pub record Ends (n k : ℕ) (f g : List ℕ) : Type 0 where
  pub only : Only (5 * n) (7 * n) f g
  pub ends : (v : ℕ) → v < k → get_or g (5 * n + v) 0 ≡ end n (forest_in n f) v
  pub whose : (v : ℕ) → v < k → get_or g (6 * n + turn n (forest_in n f) v) 0 ≡ v
