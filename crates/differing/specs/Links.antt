-- The test of the held links but for the quota of their pieces. Definitions only.
-- Assumes nothing.
use Rattle.std.specs.Prelude.{ℕ, ◌*◌, ◌≤◌, ◌<◌, Bool, ◌&&◌, not, List, length, ltb, eqb}
use Rattle.base.specs.Pick.{pick}
use Rattle.base.specs.Link.{Link}
use Rattle.rules.specs.Tables.{Tables, placed}
use Rattle.state.specs.Layout.{words, forest_in, held_links}
use Rattle.state.specs.Call.{fragments_most, room_most}
use Rattle.state.specs.Test.{is_building, ends_fit, none_twice}
use Rattle.state.specs.declared.State.{State}
use Rattle.testing.specs.Test.{head_but_links}
use Rattle.differing.specs.Laws.Scratch.{Blank}

-- A held link joins different unplaced fragments.
unfoldable pub link_fits : ℕ → Tables → ℕ → ℕ → Bool
link_fits n t a b = ltb a b && (ltb b n && (not (placed t a) && not (placed t b)))

-- 'held links join different unplaced fragments, none twice'
unfoldable pub links_differ : ℕ → Tables → List Link → Bool
links_differ n t held = ends_fit n t held && none_twice held

-- 'Order: 1, 2, 3, 6, 11': the refusal due at the head of a call in Building before the quota of its pieces is looked at; 0 where none is.
unfoldable pub head_but_quota : State → List ℕ → List ℕ → ℕ
head_but_quota s f h =
    pick (not (eqb (head_but_links (is_building s.stage) s f h) 0)) (head_but_links (is_building s.stage) s f h)
    (pick (not (links_differ s.n (forest_in s.n f) (held_links s.held h))) 11
    0)

-- The held links can be looked at.
pub record Lookable (n k count : ℕ) (f h : List ℕ) : Type 0 where
  pub few_fragments : n ≤ fragments_most
  pub some_room : 0 < k
  pub room : k ≤ room_most
  pub long : words * n ≤ length f
  pub blank : Blank n f
  pub few : count ≤ k * n
  pub there : count ≤ length h
