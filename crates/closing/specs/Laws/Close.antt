-- Close in Building: its refusal, what its end asks, and what it leaves.
-- Assumes nothing.
use Rattle.std.specs.Prelude.{ℕ, suc, ◌+◌, ◌-◌, ◌*◌, ◌≤◌, ◌≡◌, true, false, List, ◌++◌, length, take, drop, replicate, T, Ok, Err}
use Rattle.std.proofs.Math.Path.{refl, sym, ap}
use Rattle.std.proofs.Common.{◌∙◌, add-one, length-take, drop_at}
use native.Mathlib.Omega.{arith}
use Rattle.base.specs.Pick.{pick_true, pick_false, tests}
use Rattle.base.specs.Truth.{true_T}
use Rattle.base.specs.Answer.{gives}
use Rattle.rules.specs.Search.{every}
use Rattle.rules.specs.Tables.{Tables, placed, cleared}
use Rattle.rules.specs.Building.{close_building, done}
use Rattle.rules.proofs.Laws.Facts.{Standing, Underway}
use Rattle.rules.proofs.Laws.Search.{count_le}
use Rattle.rules.proofs.Laws.Tables.{SameForest, same_placed, standing_cleared}
use Rattle.rules.proofs.Laws.Links.{linked_nil}
use Rattle.rules.proofs.Laws.Close.{closing}
use Rattle.rules.proofs.Laws.CloseAny.{learnt_shown}
use Rattle.state.specs.Layout.{moved_on, wiped, tables_in, forest_in, frag_of, held_of}
use Rattle.state.specs.Test.{is_building, is_numbered}
use Rattle.state.specs.Call.{head_refusal, headed, moved, leaves}
use Rattle.state.specs.Close.{more, whole, end_building, close_in}
use Rattle.state.specs.Answers.{closed_told}
use Rattle.state.proofs.Laws.Clear.{wiped_is}
use Rattle.state.proofs.Laws.Lists.{zeros, zeros_between}
use Rattle.state.proofs.Laws.Layout.{tables_state}
use Rattle.state.proofs.Laws.Behind.{plain_zero}
use Rattle.state.proofs.Laws.Lay.{frag_plain, tables_laid}
use Rattle.state.proofs.Laws.Sound.{underway}
use Rattle.state.specs.declared.State.{State}
use Rattle.state.specs.declared.Stage.{Stage}
use Rattle.state.specs.declared.Stage.TheVariants.{Building, Built}
use Rattle.state.specs.declared.Closed.TheVariants.{More, Done}
use Rattle.closing.specs.Closing.{Endable, EndsPass}
use Rattle.pieces.specs.Gathered.{held_tables, holds, gathered_in}
use Rattle.pieces.specs.Laws.Gathered.{gathered_not}
use Rattle.pieces.specs.Laws.Passed.{Passed, passed}

-- The held words cleared, where those behind them are 0 as far as the table goes.
wiped_held : (c b : ℕ) (h : List ℕ) → c ≤ b → b ≤ length h → (h ≡ take c h ++ (replicate (b - c) 0 ++ drop b h)) → wiped 0 c h ≡ replicate b 0 ++ drop b h
wiped_held c b h l g e =
    let z : c - 0 ≡ c = omega arith in
    let k : length (take c h) ≡ c = simp length-take (omega arith) in
    let d : drop c h ≡ replicate (b - c) 0 ++ drop b h = ap (drop c) e ∙ drop_at (take c h) (replicate (b - c) 0 ++ drop b h) c k in
    rw (wiped_is 0 c h (omega arith) (omega arith), z, d) (sym (zeros c (b - c) b (drop b h) (omega arith)))

module _ (s : State) (f h : List ℕ) where
  pub close_head : (r : ℕ) → r ≡ head_refusal is_building s f h → (r ≡ 0 → ⊥) → (g : List ℕ) → g ≡ gathered_in s f h → closed_told s (Err (record { number = r; place = 0 })) g h ≡ close_in is_building s f h
  unfolding close_in headed
  close_head r e d g q = rw (q ∙ sym (gathered_not s f h (λ z. d (e ∙ z))), ← e) (simp tests)

  -- The state to go on with.
  abbrev pub ended : Stage → State
  ended g = moved_on s g (s.passes + 1) 0 0 false

  module _ (z : head_refusal is_building s f h ≡ 0) where
    P : Passed s f h
    P = passed s f h z

    in_building : is_building s.stage ≡ true
    in_building = ap is_building P.stage

    same_tables : held_tables s.n s.held f h ≡ tables_in s f h
    same_tables = tables_state s (holds s.n s.held) f h refl refl (sym (P.found.agrees.uncrossed (λ x. (rw P.stage at x))))

    on_way : Underway s.n s.k (tables_in s f h)
    on_way = underway s (tables_in s f h) P.found.agrees (true_T (is_building s.stage) in_building)

    held_within : s.held ≤ length h
    held_within = omega (arith, P.found.agrees.held_room, P.bounds.held_long)

    pub close_ends : Endable s.n s.held f h
    close_ends = record {
      some = P.bounds.some_fragments;
      wide = record { few = P.bounds.fragments; long = P.bounds.frag_long };
      there = held_within;
      blank = plain_zero s.stage s.n (tables_in s f h) f (λ x. (rw P.stage at x)) P.found.back;
      room = s.k;
      underway = rw same_tables on_way;
      ends = rw same_tables P.found.agrees.ends_fit_lem;
    }

    pub close_counts : s.passes ≤ 32769
    close_counts = omega (arith, P.found.agrees.passes_few, count_le (placed (tables_in s f h)) s.n, P.bounds.fragments)

    module _ (f' h' : List ℕ) (E : EndsPass s.n s.held f h f' h') where
      abbrev t : Tables
      t = close_building s.n (tables_in s f h)

      standing_then : Standing s.n t
      unfolding close_building
      standing_then = standing_cleared (closing on_way.standing (learnt_shown on_way) s.n (omega arith)).standing

      frag_is : (g : Stage) → (T (is_numbered g) → ⊥) → f' ≡ frag_of g s.n t f
      frag_is g b = E.frag ∙ ap (λ (x : Tables). frag_of Building s.n (close_building s.n x) f) same_tables ∙ frag_plain Building g s.n t f (λ x. x) b

      held_is : h' ≡ held_of s.n s.k t h
      unfolding close_building cleared held_of
      held_is =
          let b = s.k * s.n in
          let e : b - 0 ≡ b = omega arith in
          E.held ∙ wiped_held s.held b h P.found.agrees.held_room P.bounds.held_long (zeros_between s.held b h P.found.agrees.held_room P.bounds.held_long P.found.unused) ∙ rw e

      tables_then : tables_in (ended Built) f' h' ≡ t
      unfolding close_building cleared
      tables_then =
          let S = standing_then in
          rw (frag_is Built (λ x. x), held_is) (tables_laid (ended Built) t f h S.long_parent S.long_level S.long_note S.long_mark refl (λ u v l. absurd (linked_nil u v l)) refl)

      done_is : done s.n (forest_in s.n f') ≡ done s.n t
      unfolding done tables_in
      done_is =
          let same : SameForest (forest_in s.n f') (tables_in (ended Built) f' h') = record { same_parent = refl; same_level = refl } in
          ap (λ p. every p s.n) (same_placed same ∙ ap placed tables_then)

      moved_is : (g : Stage) → ended g ≡ moved g (suc s.passes) 0 t s
      unfolding moved close_building cleared
      moved_is g = ap (λ (p : ℕ). moved_on s g p 0 0 false) (add-one s.passes)

      close_on : end_building s t f h ≡ close_in is_building s f h
      unfolding close_in headed
      close_on = rw (z, in_building) (simp tests)

      pub close_done : true ≡ done s.n (forest_in s.n f') → closed_told s (Ok (Done (ended Built))) f' h' ≡ close_in is_building s f h
      unfolding end_building leaves moved
      close_done e = (λ i. record { answer = gives whole; state = moved_is Built i; frag = frag_is Built (λ x. x) i; held = held_is i }) ∙ rw (← done_is, ← e, pick_true) at close_on

      pub close_more : false ≡ done s.n (forest_in s.n f') → closed_told s (Ok (More (ended Building))) f' h' ≡ close_in is_building s f h
      unfolding end_building leaves moved
      close_more e = (λ i. record { answer = gives more; state = moved_is Building i; frag = frag_is Building (λ x. x) i; held = held_is i }) ∙ rw (← done_is, ← e, pick_false) at close_on
