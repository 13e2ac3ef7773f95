-- The head of a call: which refusal is due, what is known where none is, and how it is the head of the calls by stage.
-- Assumes nothing.
use Rattle.std.specs.Prelude.{ℕ, ◌≡◌, refl, Bool, true, false, List, T, length}
use Rattle.std.proofs.Common.{sym, ◌∙◌, arith}
use Rattle.std.proofs.Math.Decide.{ℕ_discrete}
use Rattle.base.specs.Pick.{tests}
use Rattle.base.specs.Truth.{T_dec, T_true, T_false}
use Rattle.state.specs.Layout.{forest_in, held_links}
use Rattle.state.specs.Test.{is_building, sound}
use Rattle.state.specs.Call.{bounds_refusal, head_refusal}
use Rattle.state.proofs.Laws.Bounds.{Bounds, bounds_known}
use Rattle.state.proofs.Laws.Sound.{Sound, sound_known}
use Rattle.state.proofs.Laws.Tests as plain
use Rattle.state.specs.declared.State.{State}
use Rattle.state.specs.declared.Stage.{Stage}
use Rattle.state.specs.declared.Stage.TheVariants.{Building, Built, Reading, Read}
use Rattle.testing.specs.Test.{sound_but_links, links_fit, head_but_links}
use Rattle.testing.specs.Laws.Test.{sound_is, sound_outside}

-- Which refusal is due: b is the answer of the bounds.
module _ (allowed : Bool) (s : State) (f h : List ℕ) (b : ℕ) (eb : b ≡ bounds_refusal s.n s.k (length f) (length h)) where
  pub due_bounds : (b ≡ 0 → ⊥) → b ≡ head_but_links allowed s f h
  unfolding head_but_links
  due_bounds d = rw (← eb) (simp tests)

  module _ (h1 : b ≡ 0) where
    pub due_stage : allowed ≡ false → 6 ≡ head_but_links allowed s f h
    unfolding head_but_links
    due_stage e = rw (← eb, h1, e) (simp tests)

    module _ (h2 : allowed ≡ true) where
      pub due_tables : false ≡ sound_but_links s f h → 11 ≡ head_but_links allowed s f h
      unfolding head_but_links
      due_tables e = rw (← eb, h1, h2, ← e) (simp tests)

      pub due_none : true ≡ sound_but_links s f h → 0 ≡ head_but_links allowed s f h
      unfolding head_but_links
      due_none e = rw (← eb, h1, h2, ← e) (simp tests)

-- What is known where none is due.
pub record Headed (allowed : Bool) (s : State) (f h : List ℕ) : Type 0 where
  pub within : bounds_refusal s.n s.k (length f) (length h) ≡ 0
  pub may : allowed ≡ true
  pub but_links : T (sound_but_links s f h)

pub head_known : (allowed : Bool) (s : State) (f h : List ℕ) → head_but_links allowed s f h ≡ 0 → Headed allowed s f h
head_known allowed s f h e = elim (ℕ_discrete (bounds_refusal s.n s.k (length f) (length h)) 0) [
  | no d ↦ absurd (d (due_bounds allowed s f h _ refl d ∙ e))
  | yes q ↦ elim (T_dec allowed) [
    | no a ↦ absurd (omega (arith, due_stage allowed s f h _ refl q (T_false allowed a) ∙ e))
    | yes a ↦ elim (T_dec (sound_but_links s f h)) [
      | no x ↦ absurd (omega (arith, due_tables allowed s f h _ refl q (T_true allowed a) (sym (T_false (sound_but_links s f h) x)) ∙ e))
      | yes x ↦ record { within = q; may = T_true allowed a; but_links = x }
    ]
  ]
]

pub headed_bounds : {allowed : Bool} {s : State} {f h : List ℕ} → Headed allowed s f h → Bounds s.n s.k (length f) (length h)
headed_bounds {allowed} {s} {f} {h} p = bounds_known s.n s.k (length f) (length h) p.within

-- What is known outside Building where none is due.
pub record Passed (s : State) (f h : List ℕ) : Type 0 where
  pub bounds : Bounds s.n s.k (length f) (length h)
  pub settled : is_building s.stage ≡ false
  pub found : Sound s f h

-- A stage in which a call is allowed that never is in Building.
later : (allowed : Stage → Bool) → allowed Building ≡ false → (g : Stage) → allowed g ≡ true → is_building g ≡ false
later allowed never Building e = sym e ∙ never
later allowed never Built e = refl
later allowed never Reading e = refl
later allowed never Read e = refl

-- A call that is allowed in some stages, but never in Building: this is its head, and what it lets pass.
module _ (allowed : Stage → Bool) (never : allowed Building ≡ false) (s : State) (f h : List ℕ) (r : ℕ) (b : Bool) (eb : b ≡ allowed s.stage)
    (er : r ≡ head_but_links b s f h) where
  pub head_is : r ≡ head_refusal allowed s f h
  head_is = er ∙ elim (ℕ_discrete (bounds_refusal s.n s.k (length f) (length h)) 0) [
    | no d ↦ sym (due_bounds b s f h _ refl d) ∙ plain.head_bounds allowed s f h _ refl d
    | yes q ↦ elim (T_dec (allowed s.stage)) [
      | no a ↦ let z = T_false (allowed s.stage) a in sym (due_stage b s f h _ refl q (eb ∙ z)) ∙ plain.head_stage allowed s f h _ refl q z
      | yes a ↦
          let z = T_true (allowed s.stage) a in
          let same = sound_outside s f h (later allowed never s.stage z) in
          elim (T_dec (sound_but_links s f h)) [
            | no x ↦ let w = T_false (sound_but_links s f h) x in sym (due_tables b s f h _ refl q (eb ∙ z) (sym w)) ∙ plain.head_unsound allowed s f h _ refl q z (sym (same ∙ w))
            | yes x ↦ let w = T_true (sound_but_links s f h) x in sym (due_none b s f h _ refl q (eb ∙ z) (sym w)) ∙ plain.head_sound allowed s f h _ refl q z (sym (same ∙ w))
          ]
    ]
  ]

  pub head_passed : r ≡ 0 → Passed s f h
  head_passed z =
      let k = head_known b s f h (sym er ∙ z) in
      let g = later allowed never s.stage (sym eb ∙ k.may) in
      let x : T (sound s f h) = rw (sound_outside s f h g) k.but_links in
      record { bounds = headed_bounds k; settled = g; found = sound_known s f h (headed_bounds k) x }

-- A call that is allowed in Building: r is this head, and where it is 0 the held links decide.
module _ (s : State) (f h : List ℕ) (r : ℕ) (b : Bool) (eb : b ≡ is_building s.stage) (er : r ≡ head_but_links b s f h) where
  pub head_refused : (r ≡ 0 → ⊥) → r ≡ head_refusal is_building s f h
  head_refused d = elim (ℕ_discrete (bounds_refusal s.n s.k (length f) (length h)) 0) [
    | no q ↦ er ∙ sym (due_bounds b s f h _ refl q) ∙ plain.head_bounds is_building s f h _ refl q
    | yes q ↦ elim (T_dec (is_building s.stage)) [
      | no a ↦ let z = T_false (is_building s.stage) a in er ∙ sym (due_stage b s f h _ refl q (eb ∙ z)) ∙ plain.head_stage is_building s f h _ refl q z
      | yes a ↦
          let z = T_true (is_building s.stage) a in
          elim (T_dec (sound_but_links s f h)) [
            | no x ↦
                let w = T_false (sound_but_links s f h) x in
                let v : false ≡ sound s f h = rw (sound_is s f h, w) in
                er ∙ sym (due_tables b s f h _ refl q (eb ∙ z) (sym w)) ∙ plain.head_unsound is_building s f h _ refl q z v
            | yes x ↦ absurd (d (er ∙ sym (due_none b s f h _ refl q (eb ∙ z) (sym (T_true (sound_but_links s f h) x)))))
          ]
    ]
  ]

  module _ (h1 : r ≡ 0) where
    known : Headed b s f h
    known = head_known b s f h (sym er ∙ h1)

    pub links_unsound : false ≡ links_fit s.n s.k (forest_in s.n f) (held_links s.held h) → 11 ≡ head_refusal is_building s f h
    links_unsound e =
        let w : false ≡ sound s f h = rw (sound_is s f h, T_true (sound_but_links s f h) known.but_links) e in
        plain.head_unsound is_building s f h _ refl known.within (sym eb ∙ known.may) w

    pub links_sound : true ≡ links_fit s.n s.k (forest_in s.n f) (held_links s.held h) → 0 ≡ head_refusal is_building s f h
    links_sound e =
        let w : true ≡ sound s f h = rw (sound_is s f h, T_true (sound_but_links s f h) known.but_links) e in
        plain.head_sound is_building s f h _ refl known.within (sym eb ∙ known.may) w
