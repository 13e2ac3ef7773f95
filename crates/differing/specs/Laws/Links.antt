-- The answers of the test of the held links' ends, link by link, and what they come to.
-- Assumes nothing.
use Rattle.std.specs.Prelude.{ℕ, suc, ◌+◌, ◌-◌, ◌≤◌, ◌<◌, ◌≡◌, Bool, true, false, not, List, [], ◌∷◌, eqb, length, drop}
use Rattle.std.proofs.Common.{sym, ◌∙◌, arith, add-one, drop-cons, eq-eqb, ne_eqb}
use Rattle.std.proofs.Math.Decide.{ℕ_discrete}
use Rattle.base.specs.Pick.{tests}
use Rattle.base.specs.Link.{Link}
use Rattle.rules.specs.Tables.{Tables, rank, placed}
use Rattle.state.specs.Layout.{held_links, held_link}
use Rattle.state.specs.Test.{is_building, ends_fit, none_twice}
use Rattle.state.specs.declared.State.{State}
use Rattle.testing.specs.Laws.Fragment.{placed_so, placed_not}
use Rattle.testing.specs.Laws.Test.{but_room, but_blank}
use Rattle.testing.specs.Laws.Head.{Headed, headed_bounds}
use Rattle.differing.specs.Links.{link_fits, links_differ, Lookable}

-- Whether a fragment is unplaced, by its word r.
loose_is : (t : Tables) (v r : ℕ) (er : r ≡ rank t v) → eqb r 0 ≡ not (placed t v)
loose_is t v r er = elim (ℕ_discrete r 0) [
  | yes e ↦ rw (eq-eqb r 0 e, placed_not t v r er e)
  | no d ↦ rw (ne_eqb r 0 d, placed_so t v r er d)
]

-- A held link's ends.
module _ (n : ℕ) (t : Tables) (a b : ℕ) where
  pub link_turned : b ≤ a → false ≡ link_fits n t a b
  unfolding link_fits
  link_turned p = simp tests

  module _ (h1 : a < b) where
    pub link_far : n ≤ b → false ≡ link_fits n t a b
    unfolding link_fits
    link_far p = simp tests

    module _ (h2 : b < n) (r : ℕ) (er : r ≡ rank t a) where
      pub link_placed : (r ≡ 0 → ⊥) → false ≡ link_fits n t a b
      unfolding link_fits
      link_placed d = rw (placed_so t a r er d) (simp tests)

      pub link_loose : r ≡ 0 → (q : ℕ) → q ≡ rank t b → eqb q 0 ≡ link_fits n t a b
      unfolding link_fits
      link_loose e q eq = rw (placed_not t a r er e, loose_is t b q eq) (simp tests)

-- The links that are left to look at from word i on.
abbrev pub left : List ℕ → ℕ → ℕ → List Link
left h to i = held_links (to - i) (drop i h)

pub left_whole : (h : List ℕ) (to : ℕ) → left h to 0 ≡ held_links to h
left_whole h to = let e : to - 0 ≡ to = omega arith in rw e

pub left_none : (h : List ℕ) (to i : ℕ) → to ≤ i → left h to i ≡ []
left_none h to i l = let e : to - i ≡ 0 = omega arith in rw e

module _ (h : List ℕ) (to i : ℕ) (l : i < to) (b : to ≤ length h) (c d : ℕ) (ec : c ≡ (held_link h i).0) (ed : d ≡ (held_link h i).1) where
  pub left_next : left h to i ≡ (c, d) ∷ left h to (i + 1)
  left_next =
      let q : to - i ≡ suc (to - suc i) = omega arith in
      let pair : held_link h i ≡ (c, d) = λ j. (sym ec j, sym ed j) in
      rw (add-one, q, drop-cons h i 0 (omega arith), pair)

  module _ (n : ℕ) (t : Tables) where
    pub ends_more : true ≡ link_fits n t c d → ends_fit n t (left h to (i + 1)) ≡ ends_fit n t (left h to i)
    unfolding ends_fit link_fits
    ends_more e = rw (left_next, ← e)

    pub ends_off : false ≡ link_fits n t c d → false ≡ ends_fit n t (left h to i)
    unfolding ends_fit link_fits
    ends_off e = rw (left_next, ← e)

-- Nothing is left.
module _ (h : List ℕ) (to i : ℕ) (l : to ≤ i) where
  pub ends_all : (n : ℕ) (t : Tables) → true ≡ ends_fit n t (left h to i)
  unfolding ends_fit
  ends_all n t = rw (left_none h to i l)

-- The held links.
module _ (n : ℕ) (t : Tables) (l : List Link) where
  pub differ_ends : false ≡ ends_fit n t l → false ≡ links_differ n t l
  unfolding links_differ
  differ_ends e = rw (← e)

  pub differ_twice : true ≡ ends_fit n t l → (b : Bool) → b ≡ none_twice l → b ≡ links_differ n t l
  unfolding links_differ
  differ_twice e b q = rw (← e) q

-- Where no refusal is due before them the held links can be looked at.
pub headed_lookable : {b : Bool} {s : State} {f h : List ℕ} → b ≡ is_building s.stage → Headed b s f h → Lookable s.n s.k s.held f h
headed_lookable {s = s} {f = f} {h = h} e P =
    let B = headed_bounds P in
    let few = but_room s f h P.but_links in
    record {
      few_fragments = B.fragments;
      some_room = B.some_room;
      room = B.room;
      long = B.frag_long;
      blank = but_blank s f h P.but_links (sym e ∙ P.may);
      few = few;
      there = omega (arith, B.held_long);
    }
