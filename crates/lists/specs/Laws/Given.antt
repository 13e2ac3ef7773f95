-- What the links of accepted bytes are: sound, counted, and the bytes their one form.
-- Assumes nothing.
use Rattle.std.specs.Prelude.{List, [], ◌∷◌, ◌≡◌, refl, ℕ, ◌+◌, ◌-◌, ◌≤◌, ◌<◌, length, drop}
use Rattle.std.proofs.Common.{inl, inr, ◌∙◌, arith, drop_of_length-le}
use Rattle.base.specs.Answer.{gives}
use Rattle.base.specs.Link.{Link}
use Rattle.numbers.specs.Words.{Bytes}
use Rattle.numbers.proofs.Theorems.{number_form}
use Rattle.lists.specs.List.{entries_most, links_at, written_links}
use Rattle.lists.specs.Words.{Sound}
use Rattle.lists.specs.Laws.Link.{link_accepted}
use Rattle.lists.specs.Laws.Block.{walked}

-- Links of n fragments, and no more than the pass has room for.
pub sound_in : (n : ℕ) (s : List ℕ) (ls : List Link) (e at : ℕ) → links_at n e s at ≡ gives ls → Sound n ls × (length ls ≤ entries_most - e)
sound_in n s [] e at p = (tt, omega arith)
sound_in n s (x ∷ xs) e at p = elim (walked n s e at (x ∷ xs) p) [
  | inl (h, z) ↦ let y : ◌≡◌ {A = ℕ} 0 1 = cc in absurd (omega arith)
  | inr (l, ms, q, r, z) ↦
      let a = link_accepted n e s at l q in
      let y : ms ≡ xs = cc in
      let w : l.link ≡ x = cc in
      let ih = sound_in n s xs (e + 1) l.next (rw y at r) in
      let f : x.0 < n = (rw w at a.first) in
      let g : x.1 < n = (rw w at a.second) in
      let d : x.0 ≡ x.1 → ⊥ = (rw w at a.differ) in
      ((f, g, d, ih.0), omega arith)
]

-- The bytes are those of the links.
pub form_in : (n : ℕ) (s : List ℕ) → Bytes s → (ls : List Link) (e at : ℕ) → links_at n e s at ≡ gives ls → drop at s ≡ written_links ls
unfolding written_links
form_in n s b [] e at p = elim (walked n s e at [] p) [
  | inl (h, z) ↦ drop_of_length-le s h
  | inr (l, ms, q, r, z) ↦ let y : ◌≡◌ {A = ℕ} 0 1 = cc in absurd (omega arith)
]
form_in n s b (x ∷ xs) e at p = elim (walked n s e at (x ∷ xs) p) [
  | inl (h, z) ↦ let y : ◌≡◌ {A = ℕ} 0 1 = cc in absurd (omega arith)
  | inr (l, ms, q, r, z) ↦
      let d = (link_accepted n e s at l q).told in
      let y : ms ≡ xs = cc in
      let w : l.link ≡ x = cc in
      let ih = form_in n s b xs (e + 1) l.next (rw y at r) in
      number_form s at _ d.first b ∙ rw (number_form s d.middle _ d.second b, ih, w) refl
]
