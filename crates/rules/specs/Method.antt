-- What a method of building owes to all that comes after building. Definitions only.
-- Assumes nothing.
use Rattle.std.specs.Prelude.{ℕ, ◌<◌, ◌≤◌, ◌≡◌, List, [], ◌∷◌, ◌++◌, ◌≢◌, length, T}
use Rattle.base.specs.Link.{Link}
use Rattle.rules.specs.Links.{Links, Among, Tells, Each}
use Rattle.rules.specs.Forest.{DepthFirst}
use Rattle.rules.specs.Tables.{Tables, placed, par, fresh}
use Rattle.rules.specs.Building.{build_link, close_building, done, ceiling}
use Rattle.rules.specs.Facts.{Standing}

-- A method, on what it stores (S): where it begins, what a told link does, what a close does, the forest that stands, and how many passes there
-- may be.
pub record Method (S : Type 0) : Type 0 where
  pub first : S
  pub tell : S → Link → S
  pub close : S → S
  pub forest : S → Tables
  pub most : S → ℕ

-- What is stored after a list, and after passes that each tell a list and close.
unfoldable pub tell_list : {S : Type 0} → Method S → S → List Link → S
tell_list M s [] = s
tell_list M s (e ∷ g) = tell_list M (M.tell s e) g

unfoldable pub tell_passes : {S : Type 0} → Method S → S → List (List Link) → S
tell_passes M s [] = s
tell_passes M s (g ∷ gs) = tell_passes M (M.close (tell_list M s g)) gs

abbrev pub after : {S : Type 0} → Method S → List (List Link) → S
after M gs = tell_passes M M.first gs

-- What a method owes for n fragments, by a fact (Sound) that it keeps of what it stores.
pub record Owes {S : Type 0} (n : ℕ) (M : Method S) (Sound : S → Type 0) : Type 0 where
  -- it holds at first, after each told link, after each close,
  pub at_first : Sound M.first
  pub after_link : (s : S) (a b : ℕ) → a < n → b < n → a ≢ b → Sound s → Sound (M.tell s (a, b))
  pub after_close_lem : (s : S) → Sound s → Sound (M.close s)
  -- and where it holds a forest stands
  pub stands : (s : S) → Sound s → Standing n (M.forest s)
  -- telling places nothing
  pub places_nothing : (s : S) (a b : ℕ) → a < n → b < n → a ≢ b → Sound s → (v : ℕ) → placed (M.forest (M.tell s (a, b))) v ≡ placed (M.forest s) v
  -- where every pass told the set: what is done is a depth-first forest of it,
  pub ends : (E : Links) (gs : List (List Link)) → Among n E → Each (Tells E) gs → T (done n (M.forest (after M gs))) → DepthFirst n (par (M.forest (after M gs))) E
  -- and passes that left something unplaced, and one more, are few
  pub few : (E : Links) (gs : List (List Link)) (g : List Link) → Among n E → Each (Tells E) gs → Tells E g → (T (done n (M.forest (after M gs))) → ⊥) → length (gs ++ (g ∷ [])) ≤ M.most (after M (gs ++ (g ∷ [])))

-- B1 to B6 as a method.
unfoldable pub first_method : ℕ → ℕ → Method Tables
first_method n k = record { first = fresh n; tell = build_link n k; close = close_building n; forest = λ t. t; most = λ t. ceiling n k }
