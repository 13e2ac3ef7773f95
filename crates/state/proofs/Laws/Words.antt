-- A held link goes into a word and out again.
-- Assumes nothing.
use Rattle.std.specs.Prelude.{ℕ, ◌+◌, ◌*◌, ◌/◌, ◌%◌, ◌<◌, ◌≡◌, refl, ◌&&◌, ◌||◌, List, [], ◌∷◌, map, T, eqb}
use Rattle.std.proofs.Common.{arith}
use Rattle.std.proofs.Math.Dec.{eqb_refl}
use Rattle.base.specs.Truth.{and_intro, or_l, or_r}
use Rattle.base.specs.Link.{Link}
use Rattle.rules.specs.Links.{between, linked}
use Rattle.state.specs.Layout.{radix, link_in, word_of}

pub link_word_lem : (a b : ℕ) → b < radix → link_in (word_of (a, b)) ≡ (a, b)
unfolding link_in word_of
link_word_lem a b h =
    let p : (a * radix + b) / radix ≡ a = omega arith in
    let q : (a * radix + b) % radix ≡ b = omega arith in
    λ i. (p i, q i)

pub word_link : (w : ℕ) → word_of (link_in w) ≡ w
unfolding link_in word_of
word_link w = omega arith

pub words_links : (l : List ℕ) → map word_of (map link_in l) ≡ l
words_links [] = refl
words_links (w ∷ l) = λ i. word_link w i ∷ words_links l i

-- The other way, where no end is beyond the word's lower part.
pub links_words : (l : List Link) → ((u v : ℕ) → T (linked l u v) → v < radix) → map link_in (map word_of l) ≡ l
unfolding linked between
links_words [] h = refl
links_words ((a, b) ∷ l) h =
    let m : T ((eqb a a && eqb b b) || (eqb a b && eqb b a)) = or_l (eqb a a && eqb b b) (eqb a b && eqb b a) (and_intro (eqb a a) (eqb b b) (eqb_refl a) (eqb_refl b)) in
    λ i. link_word_lem a b (h a b (or_l (between (a, b) a b) (linked l a b) m)) i ∷ links_words l (λ u v t. h u v (or_r (between (a, b) u v) (linked l u v) t)) i

-- A word holds every link, and no word that holds one is 0.
pub word_small : (a b : ℕ) → a < radix → b < radix → word_of (a, b) < 1073741824
unfolding word_of
word_small a b p q = omega arith

pub word_some : (a b : ℕ) → a < b → 0 < word_of (a, b)
unfolding word_of
word_some a b p = omega arith
