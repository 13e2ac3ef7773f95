-- The head of a call but for the quota of its pieces: which refusal is due, what is known where none is, and how it is the head of the calls in Building.
-- Assumes nothing.
use Rattle.std.specs.Prelude.{ℕ, ◌≡◌, refl, Bool, true, false, ◌&&◌, List, T}
use Rattle.std.proofs.Math.Path.{sym}
use Rattle.std.proofs.Common.{◌∙◌, arith}
use Rattle.std.proofs.Math.Decide.{ℕ_discrete}
use Rattle.base.specs.Pick.{tests}
use Rattle.base.specs.Truth.{T_dec, T_true, T_false, and_l, and_r}
use Rattle.base.specs.Link.{Link}
use Rattle.rules.specs.Tables.{Tables}
use Rattle.state.specs.Layout.{forest_in, held_links}
use Rattle.state.specs.Test.{is_building, ends_fit, none_twice, quota_fits}
use Rattle.state.specs.Call.{head_refusal}
use Rattle.state.specs.declared.State.{State}
use Rattle.testing.specs.Test.{head_but_links, links_fit}
use Rattle.testing.specs.Laws.Head.{head_refused, links_unsound, links_sound}
use Rattle.differing.specs.Links.{links_differ, head_but_quota}

-- Which refusal is due: r is the one before the held links are looked at, b whether the stage is Building.
module _ (b : Bool) (s : State) (f h : List ℕ) (eb : b ≡ is_building s.stage) (r : ℕ) (er : r ≡ head_but_links b s f h) where
  pub quota_due : (r ≡ 0 → ⊥) → r ≡ head_but_quota s f h
  unfolding head_but_quota
  quota_due d = rw (← eb, ← er) (simp tests)

  module _ (z : r ≡ 0) where
    pub quota_links : false ≡ links_differ s.n (forest_in s.n f) (held_links s.held h) → 11 ≡ head_but_quota s f h
    unfolding head_but_quota
    quota_links e = rw (← eb, ← er, z, ← e) (simp tests)

    pub quota_none : true ≡ links_differ s.n (forest_in s.n f) (held_links s.held h) → 0 ≡ head_but_quota s f h
    unfolding head_but_quota
    quota_none e = rw (← eb, ← er, z, ← e) (simp tests)

and_off : (a b c : Bool) → false ≡ (a && b) → false ≡ (a && (b && c))
and_off false b c e = refl
and_off true b c e = rw (← e)

module _ (n : ℕ) (t : Tables) (l : List Link) where
  differ_off : (k : ℕ) → false ≡ links_differ n t l → false ≡ links_fit n k t l
  unfolding links_differ links_fit
  differ_off k e = and_off (ends_fit n t l) (none_twice l) (quota_fits n k l) e

  links_quota : (k : ℕ) → true ≡ ends_fit n t l → true ≡ none_twice l → (b : Bool) → b ≡ quota_fits n k l → b ≡ links_fit n k t l
  unfolding links_fit
  links_quota k d e b q = rw (← d, ← e) q

  differ_both : T (links_differ n t l) → (true ≡ ends_fit n t l) × (true ≡ none_twice l)
  unfolding links_differ
  differ_both x = (sym (T_true (ends_fit n t l) (and_l (ends_fit n t l) (none_twice l) x)), sym (T_true (none_twice l) (and_r (ends_fit n t l) (none_twice l) x)))

-- What is known where none is due.
pub record Differing (s : State) (f h : List ℕ) : Type 0 where
  pub due : head_but_links (is_building s.stage) s f h ≡ 0
  pub ends : true ≡ ends_fit s.n (forest_in s.n f) (held_links s.held h)
  pub once : true ≡ none_twice (held_links s.held h)

module _ (s : State) (f h : List ℕ) where
  abbrev head : ℕ
  head = head_but_links (is_building s.stage) s f h

  abbrev differ : Bool
  differ = links_differ s.n (forest_in s.n f) (held_links s.held h)

  pub quota_known : head_but_quota s f h ≡ 0 → Differing s f h
  quota_known e = elim (ℕ_discrete head 0) [
    | no d ↦ absurd (d (quota_due _ s f h refl _ refl d ∙ e))
    | yes z ↦ elim (T_dec differ) [
      | no x ↦ absurd (omega (arith, quota_links _ s f h refl _ refl z (sym (T_false differ x)) ∙ e))
      | yes x ↦
          let d = differ_both s.n (forest_in s.n f) (held_links s.held h) x in
          record { due = z; ends = d.0; once = d.1 }
    ]
  ]

  -- A call that is allowed in Building: r is this head, and where it is 0 the quota decides.
  module _ (r : ℕ) (er : r ≡ head_but_quota s f h) where
    pub quota_refused : (r ≡ 0 → ⊥) → r ≡ head_refusal is_building s f h
    quota_refused d = elim (ℕ_discrete head 0) [
      | no q ↦ er ∙ sym (quota_due _ s f h refl _ refl q) ∙ head_refused s f h _ _ refl refl q
      | yes z ↦ elim (T_dec differ) [
        | no x ↦
            let w = sym (T_false differ x) in
            er ∙ sym (quota_links _ s f h refl _ refl z w) ∙ links_unsound s f h _ _ refl refl z (differ_off s.n (forest_in s.n f) (held_links s.held h) s.k w)
        | yes x ↦ absurd (d (er ∙ sym (quota_none _ s f h refl _ refl z (sym (T_true differ x)))))
      ]
    ]

    module _ (z : r ≡ 0) where
      known : Differing s f h
      known = quota_known (sym er ∙ z)

      pub quota_unsound : false ≡ quota_fits s.n s.k (held_links s.held h) → 11 ≡ head_refusal is_building s f h
      quota_unsound e = links_unsound s f h _ _ refl refl known.due (links_quota s.n (forest_in s.n f) (held_links s.held h) s.k known.ends known.once _ e)

      pub quota_sound : true ≡ quota_fits s.n s.k (held_links s.held h) → 0 ≡ head_refusal is_building s f h
      quota_sound e = links_sound s f h _ _ refl refl known.due (links_quota s.n (forest_in s.n f) (held_links s.held h) s.k known.ends known.once _ e)
