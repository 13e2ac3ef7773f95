-- Facts about reading the links of a block one after another.
-- Assumes nothing.
use Rattle.std.specs.Prelude.{Bool, true, false, List, [], ◌∷◌, ◌++◌, ◌⊎◌, ◌≡◌, leb}
use Rattle.std.proofs.Math.Logic.{inl, inr}
use Rattle.std.proofs.Math.Path.{refl, sym, ap}
use Rattle.std.proofs.Common.{◌∙◌}
use native.Mathlib.Omega.{arith}
use Rattle.std.proofs.Math.Decide.{dec_le}
use Prim.Native.Nat.{ℕ, zero, suc, ◌+◌, ◌-◌, ◌≤◌, ◌<◌}
use Rattle.std.proofs.Math.ListN.{length, length-append}
use Rattle.std.proofs.lemmas.Bool.{lt-leb}
use Rattle.base.specs.Pick.{pick, pick_true, pick_false, tests}
use Rattle.base.specs.Answer.{Answer, gives, refuses}
use Rattle.base.specs.Link.{Link}
use Rattle.lists.specs.List.{fragments_most, and_then, no_size, sized, before, LinkAt, read_link, scan_link, links_in, links_at, block_links, scan_block}
use Rattle.lists.specs.Words.{shifted}
use Rattle.lists.specs.Laws.Link.{and_then_same, and_then_gives, answered, never_both, sized_gives, sized_within, link_accepted, link_behind, link_more, ahead}

module _ (n : ℕ) (s : List ℕ) where
  -- Turns enough are as good as more.
  turns : (k m e at : ℕ) → length s - at ≤ k → length s - at ≤ m → links_in k n e s at ≡ links_in m n e s at
  unfolding links_in
  turns zero zero e at p q = refl
  turns zero (suc m) e at p q = let h : length s ≤ at = omega arith in simp tests
  turns (suc k) zero e at p q = let h : length s ≤ at = omega arith in simp tests
  turns (suc k) (suc m) e at p q =
      elim (dec_le (length s) at) [
        | yes h ↦ simp tests
        | no h ↦ ap (pick (leb (length s) at) (gives []))
            (and_then_same (read_link n e s at) _ _ λ l r.
            let a = link_accepted n e s at l r in
            ap (before l.link) (turns k m (e + 1) l.next (omega arith) (omega arith)))
      ]

  pub links_end : (e at : ℕ) → length s ≤ at → links_at n e s at ≡ gives []
  unfolding links_at links_in
  links_end e at h = let z : length s - at ≡ 0 = omega arith in rw z refl

  pub links_step : (e at : ℕ) → at < length s
      → links_at n e s at ≡ and_then (read_link n e s at) (λ l. before l.link (links_at n (e + 1) s l.next))
  unfolding links_at links_in
  links_step e at h =
      turns (length s - at) (suc (length s)) e at (omega arith) (omega arith)
      ∙ ap (λ (b : Bool). pick b (gives []) (and_then (read_link n e s at) λ l. before l.link (links_in (length s) n (e + 1) s l.next))) (lt-leb _ _ h)
      ∙ pick_false _ _
      ∙ and_then_same (read_link n e s at) _ _ (λ l r.
      let a = link_accepted n e s at l r in
      ap (before l.link) (turns (length s) (length s - l.next) (e + 1) l.next (omega arith) (omega arith)))

  pub links_go : (e at : ℕ) (l : LinkAt) → read_link n e s at ≡ gives l → links_at n e s at ≡ before l.link (links_at n (e + 1) s l.next)
  unfolding and_then
  links_go e at l r =
      let a = link_accepted n e s at l r in
      links_step e at (omega arith) ∙ rw r refl

  pub links_stop : (e at number place : ℕ) → at < length s → read_link n e s at ≡ refuses number place → links_at n e s at ≡ refuses number place
  unfolding and_then
  links_stop e at number place h r = links_step e at h ∙ rw r refl

  -- Links that are accepted: none is left, or one is and others after it.
  pub walked : (e at : ℕ) (ls : List Link) → links_at n e s at ≡ gives ls
      → ((length s ≤ at) × (ls ≡ []))
      ⊎ ((l : LinkAt) × (ms : List Link) × (read_link n e s at ≡ gives l) × (links_at n (e + 1) s l.next ≡ gives ms) × (ls ≡ l.link ∷ ms))
  unfolding before
  walked e at ls p = elim (dec_le (length s) at) [
    | yes h ↦ let r = links_end e at h in inl (h, cc)
    | no h ↦
        let (l, q, r) = and_then_gives (read_link n e s at) _ ls (sym (links_step e at (omega arith)) ∙ p) in
        let (ms, q', r') = and_then_gives (links_at n (e + 1) s l.next) _ ls r in
        inr (l, ms, q, q', cc)
  ]

  -- Where links that are accepted are left, the next one alone is given.
  pub next_given : n ≤ fragments_most → (e at : ℕ) (ls : List Link) → links_at n e s at ≡ gives ls → at < length s
      → (number place : ℕ) → scan_link n e s at ≡ refuses number place → ⊥
  unfolding scan_link
  next_given few e at ls p h number place r = elim (walked e at ls p) [
    | inl (k, z) ↦ omega arith
    | inr (l, ms, q, q', z) ↦
        let a = link_accepted n e s at l q in
        never_both (sized_within n (read_link n e s at) (λ y. omega arith) few ∙ q) r
  ]

-- A count is given or refused as the links are.
pub count_gives : (x : Answer (List Link)) (count : ℕ) → (and_then x λ ls. gives (length ls)) ≡ gives count → (ls : List Link) × (x ≡ gives ls) × (count ≡ length ls)
count_gives x count e = let (ls, p, q) = and_then_gives x _ count e in (ls, p, cc)

pub count_refuses : (x : Answer (List Link)) (number place : ℕ) → (and_then x λ ls. gives (length ls)) ≡ refuses number place → x ≡ refuses number place
unfolding and_then
count_refuses (gives ls) number place e = absurd (never_both refl e)
count_refuses (refuses k p) number place e = cc

-- So is the scan of a block, for an n within its bounds.
module _ (n e : ℕ) (s : List ℕ) where
  pub scan_gives : (count : ℕ) → scan_block n e s ≡ gives count → (ls : List Link) × (block_links n e s ≡ gives ls) × (count ≡ length ls)
  unfolding scan_block
  scan_gives count r = count_gives (block_links n e s) count (sized_gives n _ count r).2

  pub scan_refuses : (n ≡ 0 → ⊥) → n ≤ fragments_most → (number place : ℕ) → scan_block n e s ≡ refuses number place → block_links n e s ≡ refuses number place
  unfolding scan_block
  scan_refuses z h number place r = count_refuses (block_links n e s) number place (sym (sized_within n _ z h) ∙ r)

before_refuses : (l : Link) (x : Answer (List Link)) (number place : ℕ) → before l x ≡ refuses number place → x ≡ refuses number place
unfolding before and_then
before_refuses l (gives ls) number place e = absurd (never_both refl e)
before_refuses l (refuses k p) number place e = e

-- Links that are refused: the next one is, or others after it.
pub stopped : (n : ℕ) (s : List ℕ) (e at number place : ℕ) → links_at n e s at ≡ refuses number place
    → (at < length s)
    × ((read_link n e s at ≡ refuses number place)
    ⊎ ((l : LinkAt) × (read_link n e s at ≡ gives l) × (links_at n (e + 1) s l.next ≡ refuses number place)))
stopped n s e at number place r = elim (dec_le (length s) at) [
  | yes h ↦ absurd (never_both (links_end n s e at h) r)
  | no h ↦ elim (answered (read_link n e s at)) [
    | inl (l, p) ↦ (omega arith, inr (l, p, before_refuses l.link _ number place (sym (links_go n s e at l p) ∙ r)))
    | inr (k, q, p) ↦ let y = links_stop n s e at k q (omega arith) p in (omega arith, inl (cc))
  ]
]

-- A link goes before others wherever their refusal stands.
before_shifted : (by : ℕ) (l : Link) (x : Answer (List Link)) → shifted by (before l x) ≡ before l (shifted by x)
unfolding and_then before shifted
before_shifted by l (gives ls) = refl
before_shifted by l (refuses number place) = refl

module _ (n : ℕ) (s t : List ℕ) where
  behind_end : (e at : ℕ) → length t ≤ at → links_at n e (s ++ t) (length s + at) ≡ shifted (length s) (links_at n e t at)
  unfolding shifted
  behind_end e at l = rw (links_end n (s ++ t) e (length s + at) (simp length-append (omega arith)), links_end n t e at l) refl

  behind_in : (k e at : ℕ) → length t - at ≤ k → links_at n e (s ++ t) (length s + at) ≡ shifted (length s) (links_at n e t at)
  unfolding and_then shifted
  behind_in zero e at h = behind_end e at (omega arith)
  behind_in (suc k) e at h = elim (dec_le (length t) at) [
    | yes l ↦ behind_end e at l
    | no l ↦ elim (answered (read_link n e t at)) [
      | inl (m, p) ↦
          let a = link_accepted n e t at m p in
          links_go n (s ++ t) e (length s + at) (ahead (length s) m) (link_behind n e s t at ∙ rw p refl)
          ∙ ap (before m.link) (behind_in k (e + 1) m.next (omega arith))
          ∙ sym (before_shifted (length s) m.link (links_at n (e + 1) t m.next))
          ∙ ap (shifted (length s)) (sym (links_go n t e at m p))
      | inr (number, place, p) ↦
          links_stop n (s ++ t) e (length s + at) number (length s + place) (simp length-append (omega arith)) (link_behind n e s t at ∙ rw p refl)
          ∙ ap (shifted (length s)) (sym (links_stop n t e at number place (omega arith) p))
    ]
  ]

  -- The bytes before a block only move its places.
  pub links_behind : (e at : ℕ) → links_at n e (s ++ t) (length s + at) ≡ shifted (length s) (links_at n e t at)
  links_behind e at = behind_in (length t) e at (omega arith)

  -- The links of the first bytes, and then those of the others.
  abbrev pub joined : Answer (List Link) → ℕ → Answer (List Link)
  joined x e = and_then x λ ls. and_then (shifted (length s) (block_links n (e + length ls) t)) λ ms. gives (ls ++ ms)

  joined_before : (l : Link) (x : Answer (List Link)) (e : ℕ) → before l (joined x (e + 1)) ≡ joined (before l x) e
  unfolding and_then before
  joined_before l (refuses number place) e = refl
  joined_before l (gives ls) e =
      let z : e + 1 + length ls ≡ e + length (l ∷ ls) = omega arith in
      rw z (go (shifted (length s) (block_links n (e + length (l ∷ ls)) t)))
    where
      go : (y : Answer (List Link)) → before l (and_then y λ ms. gives (ls ++ ms)) ≡ and_then y λ ms. gives ((l ∷ ls) ++ ms)
      go (gives ms) = refl
      go (refuses number place) = refl

  joined_end : (e at : ℕ) → at ≡ length s → links_at n e (s ++ t) at ≡ joined (links_at n e s at) e
  unfolding and_then block_links
  joined_end e at h =
      let z : at ≡ length s + 0 = omega arith in
      let y : e + 0 ≡ e = omega arith in
      rw (links_end n s e at (omega arith), y, z, links_behind e 0) (go (shifted (length s) (links_at n e t 0)))
    where
      go : (y : Answer (List Link)) → y ≡ and_then y λ ms. gives ([] ++ ms)
      go (gives ms) = refl
      go (refuses number place) = refl

  joined_in : (k e at : ℕ) → length s - at ≤ k → at ≤ length s → ((place : ℕ) → links_at n e s at ≡ refuses 8 place → ⊥)
      → links_at n e (s ++ t) at ≡ joined (links_at n e s at) e
  unfolding and_then before
  joined_in zero e at h w c = joined_end e at (omega arith)
  joined_in (suc k) e at h w c = elim (dec_le (length s) at) [
    | yes l ↦ joined_end e at (omega arith)
    | no l ↦
        let more : read_link n e (s ++ t) at ≡ read_link n e s at
        = link_more n e s t at (λ p. c at (links_stop n s e at 8 at (omega arith) p)) in
        elim (answered (read_link n e s at)) [
          | inl (m, p) ↦
              let a = link_accepted n e s at m p in
              links_go n (s ++ t) e at m (more ∙ p)
              ∙ ap (before m.link) (joined_in k (e + 1) m.next (omega arith) a.within
              (λ place q. c place (links_go n s e at m p ∙ rw q refl)))
              ∙ joined_before m.link (links_at n (e + 1) s m.next) e
              ∙ ap (λ (x : Answer (List Link)). joined x e) (sym (links_go n s e at m p))
          | inr (number, place, p) ↦
              links_stop n (s ++ t) e at number place (simp length-append (omega arith)) (more ∙ p)
              ∙ ap (λ (x : Answer (List Link)). joined x e) (sym (links_stop n s e at number place (omega arith) p))
        ]
  ]

  pub links_joined : (e at : ℕ) → at ≤ length s → ((place : ℕ) → links_at n e s at ≡ refuses 8 place → ⊥)
      → links_at n e (s ++ t) at ≡ joined (links_at n e s at) e
  links_joined e at w c = joined_in (length s) e at (omega arith) w c

-- The counts of two blocks' links add up where their links do.
count_join : (by : ℕ) (f : ℕ → Answer (List Link)) (x : Answer (List Link))
    → (and_then (and_then x λ ls. and_then (shifted by (f (length ls))) λ ms. gives (ls ++ ms)) λ ls. gives (length ls))
    ≡ (and_then (and_then x λ ls. gives (length ls)) λ c. and_then (shifted by (and_then (f c) λ ls. gives (length ls))) λ d. gives (c + d))
unfolding and_then shifted
count_join by f (refuses number place) = refl
count_join by f (gives ls) = go (f (length ls))
  where
    go : (y : Answer (List Link))
        → (and_then (and_then (shifted by y) λ ms. gives (ls ++ ms)) λ ls. gives (length ls))
        ≡ (and_then (shifted by (and_then y λ ls. gives (length ls))) λ d. gives (length ls + d))
    go (gives ms) = ap gives (length-append ls ms)
    go (refuses number place) = refl

pub scans_joined : (n e : ℕ) (s t : List ℕ)
    → block_links n e (s ++ t) ≡ joined n s t (block_links n e s) e
    → scan_block n e (s ++ t) ≡ and_then (scan_block n e s) λ c. and_then (shifted (length s) (scan_block n (e + c) t)) λ d. gives (c + d)
unfolding scan_block sized and_then
scans_joined n e s t r = go (no_size n)
  where
    go : (b : Bool) → pick b (refuses 1 0) (and_then (block_links n e (s ++ t)) λ ls. gives (length ls))
        ≡ and_then (pick b (refuses 1 0) (and_then (block_links n e s) λ ls. gives (length ls))) λ c.
        and_then (shifted (length s) (pick b (refuses 1 0) (and_then (block_links n (e + c) t) λ ls. gives (length ls)))) λ d. gives (c + d)
    go true = simp pick_true
    go false =
        simp pick_false
        (ap (λ (x : Answer (List Link)). and_then x λ ls. gives (length ls)) r
        ∙ count_join (length s) (λ k. block_links n (e + k) t) (block_links n e s))
