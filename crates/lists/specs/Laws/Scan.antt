-- The scan's steps: what is left from here on gives the whole answer.
-- Assumes nothing.
use Rattle.std.specs.Prelude.{Bool, List, ◌≡◌, ℕ, ◌+◌, ◌-◌, ◌≤◌, ◌<◌, leb, eqb, length}
use Rattle.std.proofs.Math.Bool.{true, false}
use Rattle.std.proofs.Math.Path.{refl, sym, ap}
use Rattle.std.proofs.Common.{◌∙◌, arith, zero-add}
use Rattle.std.proofs.Math.Nat.{sub_self, add-zero}
use Rattle.std.proofs.Math.Decide.{ℕ_discrete, dec_le}
use Rattle.base.specs.Pick.{pick, tests}
use Rattle.base.specs.Answer.{Answer, gives, refuses}
use Rattle.base.specs.Link.{Link}
use Rattle.numbers.specs.Number.{read_number}
use Rattle.lists.specs.List.{entries_most, no_size, and_then, before, joins, bad_ends, counts, LinkAt, read_link, scan_link, links_at, block_links, scan_block}
use Rattle.lists.specs.Scan.{bad_link, scan_end, scan_from}
use Rattle.lists.specs.Laws.Link.{sized_past, sized_on, Ends, NoEnds, no_first, no_second, link_is}
use Rattle.lists.specs.Laws.Block.{links_end, links_go, links_stop}

-- The answers of the test of a link's ends.
module _ (n a b : ℕ) where
  pub bad_first : n ≤ a → 4 ≡ bad_ends n a b
  unfolding bad_ends
  bad_first p = simp tests

  module _ (h : a < n) where
    pub bad_second : n ≤ b → 4 ≡ bad_ends n a b
    unfolding bad_ends
    bad_second p = simp tests

    module _ (k : b < n) where
      pub bad_same : a ≡ b → 5 ≡ bad_ends n a b
      unfolding bad_ends
      bad_same p = simp tests

      pub bad_none : (a ≡ b → ⊥) → 0 ≡ bad_ends n a b
      unfolding bad_ends
      bad_none p = simp tests

-- The answers of a block scanned for an n that is given.
module _ (n e : ℕ) (s : List ℕ) where
  pub scan_past : no_size n ≡ true → scan_end 1 0 0 ≡ scan_block n e s
  unfolding scan_block scan_end
  scan_past h = simp tests (sized_past n _ h)

  pub scan_whole : no_size n ≡ false → scan_from n e s 0 ≡ scan_block n e s
  unfolding scan_block scan_from block_links
  scan_whole h = sym (sized_on n _ h)

-- The answers of a link read for an n that is given.
module _ (n e : ℕ) (s : List ℕ) (at : ℕ) where
  pub alone_past : no_size n ≡ true → refuses 1 0 ≡ scan_link n e s at
  unfolding scan_link
  alone_past h = sized_past n _ h

  pub alone_read : no_size n ≡ false → read_link n e s at ≡ scan_link n e s at
  unfolding scan_link
  alone_read h = sym (sized_on n _ h)

-- The answers of a scan's end.
module _ (bad at count : ℕ) where
  pub end_bad : (bad ≡ 0 → ⊥) → refuses bad at ≡ scan_end bad at count
  unfolding scan_end
  end_bad h = simp tests

  pub end_good : bad ≡ 0 → gives count ≡ scan_end bad at count
  unfolding scan_end
  end_good h = simp tests

-- The same test as the definitions say it.
module _ {A : Type 0} (at : ℕ) (rest : Answer A) where
  -- Both ladders over one set of tests.
  told_bad : (f g i : Bool) → (◌≡◌ {A = ℕ} (pick f 4 (pick g 4 (pick i 5 0))) 0 → ⊥)
      → pick f (refuses 4 at) (pick g (refuses 4 at) (pick i (refuses 5 at) rest)) ≡ refuses (pick f 4 (pick g 4 (pick i 5 0))) at
  unfolding pick
  told_bad true g i k = refl
  told_bad false true i k = refl
  told_bad false false true k = refl
  told_bad false false false k = absurd (k refl)

  told_good : (f g i : Bool) → ◌≡◌ {A = ℕ} (pick f 4 (pick g 4 (pick i 5 0))) 0
      → pick f (refuses 4 at) (pick g (refuses 4 at) (pick i (refuses 5 at) rest)) ≡ rest
  unfolding pick
  told_good true g i k = absurd (omega arith)
  told_good false true i k = absurd (omega arith)
  told_good false false true k = absurd (omega arith)
  told_good false false false k = refl

  module _ (n a b : ℕ) where
    pub joins_bad : (bad_ends n a b ≡ 0 → ⊥) → joins n a b at rest ≡ refuses (bad_ends n a b) at
    unfolding joins bad_ends
    joins_bad h = told_bad (leb n a) (leb n b) (eqb a b) h

    pub joins_good : bad_ends n a b ≡ 0 → joins n a b at rest ≡ rest
    unfolding joins bad_ends
    joins_good h = told_good (leb n a) (leb n b) (eqb a b) h

-- The answers of the test of a link.
module _ (n e a b : ℕ) where
  pub link_ends : (bad : ℕ) → bad ≡ bad_ends n a b → (bad ≡ 0 → ⊥) → bad ≡ bad_link n e a b
  unfolding bad_link
  link_ends bad z h = let k : bad_ends n a b ≡ 0 → ⊥ = (λ y. h (z ∙ y)) in rw z (simp tests)

  module _ (z : bad_ends n a b ≡ 0) where
    pub link_twelve : entries_most ≤ e → 12 ≡ bad_link n e a b
    unfolding bad_link
    link_twelve h = simp tests

    pub link_none : e < entries_most → 0 ≡ bad_link n e a b
    unfolding bad_link
    link_none h = simp tests

  -- A link that nothing is wrong with.
  pub good_link : bad_link n e a b ≡ 0 → (bad_ends n a b ≡ 0) × (e < entries_most)
  good_link z = elim (ℕ_discrete (bad_ends n a b) 0) [
    | no h ↦ absurd (h (link_ends _ refl h ∙ z))
    | yes h ↦ elim (dec_le entries_most e) [
      | yes k ↦ absurd (omega (arith, link_twelve h k))
      | no k ↦ (h, omega arith)
    ]
  ]

-- A link whose numbers were read, by that test.
module _ (n e : ℕ) {s : List ℕ} {at : ℕ} {l : LinkAt} (d : Ends s at l) where
  pub link_bad : (bad : ℕ) → bad ≡ bad_link n e l.link.0 l.link.1 → (bad ≡ 0 → ⊥) → read_link n e s at ≡ refuses bad at
  unfolding counts
  link_bad bad z h = elim (ℕ_discrete (bad_ends n l.link.0 l.link.1) 0) [
    | no y ↦
        link_is n e d ∙ joins_bad at _ n _ _ y ∙ ap (λ (k : ℕ). refuses k at) (link_ends n e _ _ _ refl y ∙ sym z)
    | yes y ↦ elim (dec_le entries_most e) [
      | yes k ↦ rw (z ∙ sym (link_twelve n e _ _ y k)) (link_is n e d ∙ joins_good at _ n _ _ y ∙ simp tests)
      | no k ↦ absurd (h (z ∙ sym (link_none n e _ _ y (omega arith))))
    ]
  ]

  pub link_good : bad_link n e l.link.0 l.link.1 ≡ 0 → read_link n e s at ≡ gives l
  unfolding counts
  link_good z =
      let (y, h) = good_link n e _ _ z in
      link_is n e d ∙ joins_good at _ n _ _ y ∙ simp tests

-- How many of the numbers of the link at `at` are read: none, the first (in `second`), or both. The next stands at `next`.
pub record Halfway (s : List ℕ) (at first second next ends : ℕ) : Type 0 where
  pub none : ends ≡ 0 → next ≡ at
  pub one : ends ≡ 1 → read_number s at ≡ gives (record { value = second; next = next })
  pub both : 2 ≤ ends → Ends s at (record { link = (first, second); next = next })
  pub most : ends ≤ 2

pub halfway_starts : (s : List ℕ) (at : ℕ) → Halfway s at 0 0 at 0
halfway_starts s at = record { none = λ p. refl; one = λ p. absurd (omega arith); both = λ p. absurd (omega arith); most = omega arith }

module _ {s : List ℕ} {at first second next ends : ℕ} (w : Halfway s at first second next ends) (h : ends < 2) where
  pub halfway_on : (value after : ℕ) → read_number s next ≡ gives (record { value = value; next = after }) → Halfway s at second value after (ends + 1)
  halfway_on value after r = record {
    none = λ p. absurd (omega arith);
    one = λ p. let z : next ≡ at = w.none (omega arith) in (rw z at r);
    both = λ p. record { middle = next; first = w.one (omega arith); second = r };
    most = omega arith;
  }

  pub halfway_off : (number place : ℕ) → read_number s next ≡ refuses number place → NoEnds s at number place
  halfway_off number place r = elim (ℕ_discrete ends 0) [
    | yes z ↦ let y : next ≡ at = w.none z in no_first (rw y at r)
    | no z ↦ no_second (record { value = second; next = next }) (w.one (omega arith)) r
  ]

-- What is left from `at` on, behind the links told so far, is the whole answer.
pub record Scanning (n entries : ℕ) (s : List ℕ) (from told at bad : ℕ) : Type 0 where
  pub left : (and_then (links_at n told s at) λ ls. gives (told - entries + length ls)) ≡ scan_from n entries s from
  pub more : entries ≤ told
  pub clean : bad ≡ 0

pub scanning_starts : (n entries : ℕ) (s : List ℕ) (from : ℕ) → Scanning n entries s from entries from 0
unfolding scan_from
scanning_starts n entries s from = record { left = simp (sub_self, zero-add); more = omega arith; clean = refl }

one_more : {told entries : ℕ} (l : Link) (x : Answer (List Link)) → entries ≤ told
    → (and_then x λ ls. gives (told + 1 - entries + length ls)) ≡ (and_then (before l x) λ ls. gives (told - entries + length ls))
unfolding and_then before
one_more l (gives ls) h = ap gives (omega arith)
one_more l (refuses number place) h = refl

module _ {n entries : ℕ} {s : List ℕ} {from told at bad : ℕ} (w : Scanning n entries s from told at bad) where
  pub scan_on : (l : LinkAt) → read_link n told s at ≡ gives l → (now : ℕ) → now ≡ 0 → Scanning n entries s from (told + 1) l.next now
  scan_on l r now z = record {
    left =
        one_more l.link (links_at n (told + 1) s l.next) w.more
        ∙ ap (λ (x : Answer (List Link)). and_then x λ ls. gives (told - entries + length ls)) (sym (links_go n s told at l r))
        ∙ w.left;
    more = let m = w.more in omega arith;
    clean = z;
  }

  -- The loop is left with what was found bad with the link at `at`, or past the last link.
  pub scan_off : at < length s → (number : ℕ) → (number ≡ 0 → ⊥) → read_link n told s at ≡ refuses number at
      → (now : ℕ) → now ≡ number → scan_end now at (told - entries) ≡ scan_from n entries s from
  unfolding and_then scan_end
  scan_off h number k r now z = rw z (simp tests (rw (links_stop n s told at number at h r) at w.left))

  pub scan_end_lem : length s ≤ at → (now : ℕ) → now ≡ bad → scan_end now at (told - entries) ≡ scan_from n entries s from
  unfolding and_then scan_end
  scan_end_lem h now z =
      let y : now ≡ 0 = z ∙ w.clean in
      simp tests (simp add-zero at (rw (links_end n s told at h) at w.left))
