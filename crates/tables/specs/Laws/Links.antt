-- The word of a link.
-- Assumes nothing.
use Prim.Native.Nat.{ℕ, ◌+◌, ◌*◌, ◌≤◌, ◌<◌, min, max}
use Rattle.std.specs.Prelude.{◌≡◌}
use native.Mathlib.Omega.{arith}
use Rattle.base.specs.Pick.{tests}
use Rattle.state.specs.Layout.{radix, word_of, link_word}

module _ (a b : ℕ) where
  pub word_first : radix ≤ a → 0 ≡ link_word a b
  unfolding link_word
  word_first h = simp tests

  module _ (h1 : a < radix) where
    pub word_second : radix ≤ b → 0 ≡ link_word a b
    unfolding link_word
    word_second h = simp tests

    pub word_within : b < radix → link_word a b ≡ word_of (min a b, max a b)
    unfolding link_word
    word_within h = simp tests

    pub word_rising : b < radix → a < b → a * radix + b ≡ link_word a b
    unfolding word_of
    word_rising h l =
        let e : min a b ≡ a = omega arith in
        let g : max a b ≡ b = omega arith in
        rw (word_within h, e, g)

    pub word_falling : b < radix → b ≤ a → b * radix + a ≡ link_word a b
    unfolding word_of
    word_falling h l =
        let e : min a b ≡ b = omega arith in
        let g : max a b ≡ a = omega arith in
        rw (word_within h, e, g)
