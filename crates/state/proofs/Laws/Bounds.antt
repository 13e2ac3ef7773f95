-- The ladder of the refusals 1, 2 and 3: which is due, and what is known where none is.
-- Assumes nothing.
use Rattle.std.specs.Prelude.{ℕ, suc, ◌*◌, ◌≤◌, ◌<◌, ◌≡◌}
use Rattle.std.proofs.Common.{◌∙◌, arith}
use Rattle.std.proofs.Math.Decide.{ℕ_discrete, dec_le}
use Rattle.base.specs.Pick.{tests}
use Rattle.state.specs.Layout.{words}
use Rattle.state.specs.Call.{bounds_refusal, fragments_most, room_most}

-- Which refusal of 1, 2 and 3 is due, and when none is.
module _ (n k frags helds : ℕ) where
  pub no_fragments : n ≡ 0 → 1 ≡ bounds_refusal n k frags helds
  unfolding bounds_refusal
  no_fragments p = simp tests

  module _ (h1 : n ≡ 0 → ⊥) where
    pub many_fragments : fragments_most < n → 1 ≡ bounds_refusal n k frags helds
    unfolding bounds_refusal
    many_fragments p = simp tests

    module _ (h2 : n ≤ fragments_most) where
      pub no_room : k ≡ 0 → 2 ≡ bounds_refusal n k frags helds
      unfolding bounds_refusal
      no_room p = simp tests

      module _ (h3 : k ≡ 0 → ⊥) where
        pub much_room : room_most < k → 2 ≡ bounds_refusal n k frags helds
        unfolding bounds_refusal
        much_room p = simp tests

        module _ (h4 : k ≤ room_most) where
          pub short_frag : frags < words * n → 3 ≡ bounds_refusal n k frags helds
          unfolding bounds_refusal
          short_frag p = simp tests

          module _ (h5 : words * n ≤ frags) where
            pub short_held : helds < k * n → 3 ≡ bounds_refusal n k frags helds
            unfolding bounds_refusal
            short_held p = simp tests

            pub within_bounds : k * n ≤ helds → 0 ≡ bounds_refusal n k frags helds
            unfolding bounds_refusal
            within_bounds p = simp tests

-- What is known where none of them is due.
pub record Bounds (n k frags helds : ℕ) : Type 0 where
  pub some_fragments : 0 < n
  pub fragments : n ≤ fragments_most
  pub some_room : 0 < k
  pub room : k ≤ room_most
  pub frag_long : words * n ≤ frags
  pub held_long : k * n ≤ helds

pub bounds_known : (n k frags helds : ℕ) → bounds_refusal n k frags helds ≡ 0 → Bounds n k frags helds
bounds_known n k frags helds e =
    elim (ℕ_discrete n 0) [
      | yes p ↦ absurd (clash (no_fragments n k frags helds p))
      | no p ↦ elim (dec_le n fragments_most) [
        | no q ↦ absurd (clash (many_fragments n k frags helds p (omega arith)))
        | yes q ↦ elim (ℕ_discrete k 0) [
          | yes r ↦ absurd (clash (no_room n k frags helds p q r))
          | no r ↦ elim (dec_le k room_most) [
            | no s ↦ absurd (clash (much_room n k frags helds p q r (omega arith)))
            | yes s ↦ elim (dec_le (words * n) frags) [
              | no u ↦ absurd (clash (short_frag n k frags helds p q r s (omega arith)))
              | yes u ↦ elim (dec_le (k * n) helds) [
                | no w ↦ absurd (clash (short_held n k frags helds p q r s u (omega arith)))
                | yes w ↦ record { some_fragments = omega arith; fragments = q; some_room = omega arith; room = s; frag_long = u; held_long = w }
              ]
            ]
          ]
        ]
      ]
    ]
  where
    clash : {m : ℕ} → suc m ≡ bounds_refusal n k frags helds → ⊥
    clash g = omega (arith, g ∙ e)
