-- The tables that each accepted call leaves agree with the state that it leaves.
-- Assumes nothing.
use Rattle.std.specs.Prelude.{ℕ, suc, ◌+◌, ◌≤◌, ◌<◌, ◌≡◌, List, [], ◌∷◌, ◌≢◌, T, length}
use Rattle.std.proofs.Common.{sym, inl, inr, arith}
use Rattle.base.specs.Pick.{pick_true, pick_false}
use Rattle.base.specs.Answer.{gives}
use Rattle.base.specs.Truth.{or_l, or_cases, T_dec, T_true, T_false}
use Rattle.base.specs.Link.{Link}
use Rattle.lists.specs.List.{block_links}
use Rattle.lists.specs.Words.{Sound as Fits}
use Rattle.lists.specs.Theorems.{accepted_sound, accepted_count}
use Rattle.rules.specs.Links.{linked, Among}
use Rattle.rules.specs.Tables.{Tables, clear_notes}
use Rattle.rules.specs.Building.{close_building, done}
use Rattle.rules.specs.Reading.{accepted}
use Rattle.rules.proofs.Laws.Links.{linked_nil, linked_cases}
use Rattle.rules.proofs.Laws.Split.{by_between}
use Rattle.state.specs.Layout.{tables_in}
use Rattle.state.specs.Test.{entries_most, is_building, is_reading, is_read}
use Rattle.state.specs.Call.{moved}
use Rattle.state.specs.Take.{takes, tell}
use Rattle.state.specs.Close.{opens}
use Rattle.state.proofs.Laws.Sound.{Agrees}
use Rattle.state.proofs.Laws.Keeps.{Head}
use Rattle.state.proofs.Laws.KeepsReading.{not_building, cleared_agrees, read_agrees, accepted_agrees}
use Rattle.state.proofs.Laws.KeepsBuilding.{build_agrees, close_agrees}
use Rattle.state.specs.declared.State.{State}
use Rattle.state.specs.declared.Stage.{Stage}
use Rattle.state.specs.declared.Stage.TheVariants.{Building, Built, Reading, Read}

-- The links that the scan of a block lets through.
pub among_links : (n : ℕ) (g : List Link) → Fits n g → Among n (linked g)
among_links n [] s u v t = absurd (linked_nil u v t)
among_links n ((a, b) ∷ g) (i, j, d, s) u v t = elim (linked_cases (a, b) g u v t) [
  | inl e ↦ by_between (λ x y. (x < n) × (y < n) × (x ≢ y)) (λ x y (p, q, r). (q, p, λ z. r (sym z))) a b u v e (i, j, d)
  | inr r ↦ among_links n g s u v r
]

-- Links told, in Building or in Reading.
tell_agrees : (s : State) (t : Tables) (g : List Link) (e : ℕ) → 1 ≤ s.k → T (takes s.stage) → Agrees s t → Among s.n (linked g) → e ≤ entries_most
    → Agrees (moved s.stage s.passes e (tell s t g) s) (tell s t g)
unfolding tell
tell_agrees s t g e some c a A few = elim (T_dec (is_building s.stage)) [
  | yes b ↦ rw (T_true (is_building s.stage) b, pick_true) (build_agrees s t a b g A e few)
  | no b ↦ rw (T_false (is_building s.stage) b, pick_false) (elim (or_cases (is_building s.stage) (is_reading s.stage) c) [
    | inl x ↦ absurd (b x)
    | inr r ↦ read_agrees s t a some r g A e few
  ])
]

opens_settled : (g : Stage) → T (opens g) → T (is_building g) → ⊥
opens_settled Building o b = o
opens_settled Built o b = b
opens_settled Reading o b = b
opens_settled Read o b = b

pub reads_settled : (g : Stage) → T (is_reading g) → T (is_building g) → ⊥
reads_settled g r = not_building g (or_l (is_reading g) (is_read g) r)

-- The tables that each call leaves agree with the state that it leaves.
module _ (s : State) (f h : List ℕ) where
  abbrev tables_found : Tables
  tables_found = tables_in s f h

  pub take_agrees : Head takes s f h → (block : List ℕ) (g : List Link) → block_links s.n s.entries block ≡ gives g
      → Agrees (moved s.stage s.passes (s.entries + length g) (tell s tables_found g) s) (tell s tables_found g)
  take_agrees H block g e =
      tell_agrees s tables_found g (s.entries + length g) H.bounds.some_room H.allows H.agrees
      (among_links s.n g (accepted_sound s.n s.entries block g e))
      (omega (arith, H.agrees.entries_few, accepted_count s.n s.entries block g e))

  pub open_agrees : Head opens s f h → Agrees (moved Reading s.passes 0 (clear_notes s.n tables_found) s) (clear_notes s.n tables_found)
  open_agrees H = cleared_agrees s tables_found H.agrees H.bounds.some_room (opens_settled s.stage H.allows) Reading (λ b. b) (λ b. b)

  module _ (H : Head takes s f h) (b : T (is_building s.stage)) where
    pub whole_agrees : T (done s.n (close_building s.n tables_found)) → Agrees (moved Built (suc s.passes) 0 (close_building s.n tables_found) s) (close_building s.n tables_found)
    whole_agrees d = close_agrees s tables_found H.agrees b H.bounds.some_room Built (λ x. absurd x) (λ x. d) (λ x. x)

    pub more_agrees : (T (done s.n (close_building s.n tables_found)) → ⊥) → Agrees (moved Building (suc s.passes) 0 (close_building s.n tables_found) s) (close_building s.n tables_found)
    more_agrees d = close_agrees s tables_found H.agrees b H.bounds.some_room Building (λ x. d) (λ x. absurd (x tt)) (λ x. x)

  module _ (H : Head takes s f h) (r : T (is_reading s.stage)) where
    pub read_agrees_at : T (accepted s.n tables_found) → Agrees (moved Read s.passes s.entries tables_found s) tables_found
    read_agrees_at x = accepted_agrees s tables_found H.agrees H.bounds.some_room r x

    pub false_agrees : Agrees (moved Built s.passes 0 (clear_notes s.n tables_found) s) (clear_notes s.n tables_found)
    false_agrees = cleared_agrees s tables_found H.agrees H.bounds.some_room (reads_settled s.stage r) Built (λ b. b) (λ b. b)
