-- The pieces that held links make: one label for each fragment, the smallest member of its piece.
-- Assumes nothing.
use Prim.Native.Nat.{ℕ, ◌<◌, ◌≤◌, min, max}
use Rattle.std.specs.Prelude.{◌≡◌, refl, ◌≢◌, ◌↔◌, length, T, eqb}
use Rattle.std.proofs.Common.{sym, ◌∙◌, inl, inr, arith, ext_get_or, eqb→eq}
use Rattle.std.proofs.Math.Path.{subst}
use mathlib.Core.List.{List, [], ◌∷◌, ◌++◌, map, append-nil}
use Rattle.std.proofs.Math.Decide.{ℕ_discrete, dec_le}
use Rattle.std.proofs.Math.ListN.{get_or, length-map, get_or-map}
use Rattle.std.proofs.Math.Seq.{append_snoc}
use Rattle.base.specs.Pick.{pick, tests}
use Rattle.base.specs.Truth.{eq_to_eqb}
use Rattle.base.specs.Link.{Link}
use Rattle.rules.specs.Links.{linked, JoinedBy, here}
pub use Rattle.rules.specs.Links.{Inside}
use Rattle.rules.proofs.Laws.Chain.{join, one, carry, wider}
use Rattle.rules.proofs.Laws.Search.{table_length, table_at}
use Rattle.rules.proofs.Laws.Links.{between_here, between_elim, linked_nil, linked_head, linked_tail, append_left, snoc_cases, snoc_last, joined_turn}
use Rattle.rules.specs.Building.{alone, merged, pieces_from, pieces, member}

-- Where a merge finds a label, and where it does not.
module _ (a b : ℕ) (l : List ℕ) where
  pub merged_at : (v : ℕ) → get_or (merged (a, b) l) v 0 ≡ pick (eqb (get_or l v 0) (max (get_or l a 0) (get_or l b 0))) (min (get_or l a 0) (get_or l b 0)) (get_or l v 0)
  unfolding merged
  merged_at v =
      let f : ℕ → ℕ = λ x. pick (eqb x (max (get_or l a 0) (get_or l b 0))) (min (get_or l a 0) (get_or l b 0)) x in
      let z : f 0 ≡ 0 = elim (ℕ_discrete 0 (max (get_or l a 0) (get_or l b 0))) [
        | yes e ↦ simp tests (omega arith)
        | no e ↦ simp tests
      ] in
      subst (λ (d : ℕ). get_or (map f l) v d ≡ f (get_or l v 0)) z (get_or-map f l v 0)

  pub merged_larger : (v : ℕ) → get_or l v 0 ≡ max (get_or l a 0) (get_or l b 0) → get_or (merged (a, b) l) v 0 ≡ min (get_or l a 0) (get_or l b 0)
  merged_larger v e = merged_at v ∙ simp tests

  pub merged_other : (v : ℕ) → get_or l v 0 ≢ max (get_or l a 0) (get_or l b 0) → get_or (merged (a, b) l) v 0 ≡ get_or l v 0
  merged_other v e = merged_at v ∙ simp tests

  pub merged_length : length (merged (a, b) l) ≡ length l
  unfolding merged
  merged_length = length-map l _

  -- A link inside a piece changes no label.
  pub merged_inside : get_or l a 0 ≡ get_or l b 0 → merged (a, b) l ≡ l
  merged_inside e = ext_get_or 0 (merged (a, b) l) l merged_length (λ v h. elim (ℕ_discrete (get_or l v 0) (max (get_or l a 0) (get_or l b 0))) [
    | yes q ↦ omega (arith, merged_larger v q)
    | no q ↦ merged_other v q
  ])

  -- The ends of the link get the smaller label.
  pub merged_one : get_or (merged (a, b) l) a 0 ≡ min (get_or l a 0) (get_or l b 0)
  merged_one = elim (ℕ_discrete (get_or l a 0) (max (get_or l a 0) (get_or l b 0))) [
    | yes q ↦ merged_larger a q
    | no q ↦ omega (arith, merged_other a q)
  ]

  pub merged_two : get_or (merged (a, b) l) b 0 ≡ min (get_or l a 0) (get_or l b 0)
  merged_two = elim (ℕ_discrete (get_or l b 0) (max (get_or l a 0) (get_or l b 0))) [
    | yes q ↦ merged_larger b q
    | no q ↦ omega (arith, merged_other b q)
  ]

  -- Fragments of one piece stay in one piece.
  pub merged_keeps : (u v : ℕ) → get_or l u 0 ≡ get_or l v 0 → get_or (merged (a, b) l) u 0 ≡ get_or (merged (a, b) l) v 0
  merged_keeps u v e = merged_at u ∙ rw e (sym (merged_at v))

  -- A label grows no larger.
  pub merged_le : (v : ℕ) → get_or (merged (a, b) l) v 0 ≤ get_or l v 0
  merged_le v = elim (ℕ_discrete (get_or l v 0) (max (get_or l a 0) (get_or l b 0))) [
    | yes q ↦ omega (arith, merged_larger v q)
    | no q ↦ omega (arith, merged_other v q)
  ]

pub alone_length : (n : ℕ) → length (alone n) ≡ n
unfolding alone
alone_length n = table_length (λ v. v) n

pub alone_at : (n v : ℕ) → v < n → get_or (alone n) v 0 ≡ v
unfolding alone
alone_at n v h = table_at (λ v. v) n v 0 h

from_snoc : (l : List ℕ) (held : List Link) (e : Link) → pieces_from l (held ++ (e ∷ [])) ≡ merged e (pieces_from l held)
unfolding pieces_from
from_snoc l [] e = refl
from_snoc l (x ∷ held) e = from_snoc (merged x l) held e

pub pieces_nil : (n : ℕ) → pieces n [] ≡ alone n
unfolding pieces pieces_from
pieces_nil n = refl

-- One more held link merges the pieces of its ends.
pub pieces_snoc : (n : ℕ) (held : List Link) (e : Link) → pieces n (held ++ (e ∷ [])) ≡ merged e (pieces n held)
unfolding pieces
pieces_snoc n held e = from_snoc (alone n) held e

from_length : (l : List ℕ) (held : List Link) → length (pieces_from l held) ≡ length l
unfolding pieces_from
from_length l [] = refl
from_length l ((a, b) ∷ held) = from_length (merged (a, b) l) held ∙ merged_length a b l

pub pieces_length : (n : ℕ) (held : List Link) → length (pieces n held) ≡ n
unfolding pieces
pieces_length n held = from_length (alone n) held ∙ alone_length n

-- The labels l are those of the pieces that the held links make.
record Labelled (n : ℕ) (held : List Link) (l : List ℕ) : Type 0 where
  low : (v : ℕ) → v < n → get_or l v 0 ≤ v
  joined : (v : ℕ) → v < n → JoinedBy (linked held) v (get_or l v 0)
  same : (u v : ℕ) → T (linked held u v) → get_or l u 0 ≡ get_or l v 0

labelled_alone : (n : ℕ) → Labelled n [] (alone n)
labelled_alone n = record {
  low = λ v h. omega (arith, alone_at n v h);
  joined = λ v h. rw (alone_at n v h) here;
  same = λ u v t. absurd (linked_nil u v t);
}

module _ (n a b : ℕ) (held : List Link) (l : List ℕ) (L : Labelled n held l) (ha : a < n) (hb : b < n) where
  more : {u v : ℕ} → JoinedBy (linked held) u v → JoinedBy (linked (held ++ ((a, b) ∷ []))) u v
  more c = wider (append_left held ((a, b) ∷ [])) c

  ab : JoinedBy (linked (held ++ ((a, b) ∷ []))) a b
  ab = one (snoc_last held (a, b) a b (between_here a b))

  la : JoinedBy (linked (held ++ ((a, b) ∷ []))) a (get_or l a 0)
  la = more (L.joined a ha)

  lb : JoinedBy (linked (held ++ ((a, b) ∷ []))) b (get_or l b 0)
  lb = more (L.joined b hb)

  turn : {u v : ℕ} → JoinedBy (linked (held ++ ((a, b) ∷ []))) u v → JoinedBy (linked (held ++ ((a, b) ∷ []))) v u
  turn c = joined_turn (held ++ ((a, b) ∷ [])) c

  -- The larger of the two labels is joined with the smaller.
  across : (x : ℕ) → x ≡ max (get_or l a 0) (get_or l b 0) → JoinedBy (linked (held ++ ((a, b) ∷ []))) x (min (get_or l a 0) (get_or l b 0))
  across x e = elim (dec_le (get_or l a 0) (get_or l b 0)) [
    | yes q ↦
        let f : x ≡ get_or l b 0 = omega arith in
        let g : min (get_or l a 0) (get_or l b 0) ≡ get_or l a 0 = omega arith in
        rw (f, g) (join (turn lb) (join (turn ab) la))
    | no q ↦
        let f : x ≡ get_or l a 0 = omega arith in
        let g : min (get_or l a 0) (get_or l b 0) ≡ get_or l b 0 = omega arith in
        rw (f, g) (join (turn la) (join ab lb))
  ]

  labelled_merged : Labelled n (held ++ ((a, b) ∷ [])) (merged (a, b) l)
  labelled_merged = record {
    low = λ v h. omega (arith, merged_le a b l v, L.low v h);
    joined = λ v h. elim (ℕ_discrete (get_or l v 0) (max (get_or l a 0) (get_or l b 0))) [
      | yes q ↦ rw (merged_larger a b l v q) (join (more (L.joined v h)) (across _ q))
      | no q ↦ rw (merged_other a b l v q) (more (L.joined v h))
    ];
    same = λ u v t. elim (snoc_cases held (a, b) u v t) [
      | inl s ↦ merged_keeps a b l u v (L.same u v s)
      | inr s ↦ elim (between_elim a b u v s) [
        | inl (e, f) ↦ rw (← e, ← f) (merged_one a b l ∙ sym (merged_two a b l))
        | inr (e, f) ↦ rw (← e, ← f) (merged_two a b l ∙ sym (merged_one a b l))
      ]
    ];
  }

labelled_from : (n : ℕ) (told held : List Link) (l : List ℕ) → Labelled n told l → Inside n held → Labelled n (told ++ held) (pieces_from l held)
unfolding pieces_from
labelled_from n told [] l L h = rw append-nil L
labelled_from n told ((a, b) ∷ held) l L h =
    let i : (a < n) × (b < n) = h a b (linked_head (a, b) held a b (between_here a b)) in
    subst (λ (g : List Link). Labelled n g (pieces_from (merged (a, b) l) held)) (append_snoc told (a, b) held)
    (labelled_from n (told ++ ((a, b) ∷ [])) held (merged (a, b) l) (labelled_merged n a b told l L i.0 i.1) (λ u v t. h u v (linked_tail (a, b) held u v t)))

module _ (n : ℕ) (held : List Link) (inside : Inside n held) where
  labels : Labelled n held (pieces n held)
  unfolding pieces
  labels = labelled_from n [] held (alone n) (labelled_alone n) inside

  pub label_le : (v : ℕ) → v < n → get_or (pieces n held) v 0 ≤ v
  label_le v h = labels.low v h

  pub label_in : (v : ℕ) → v < n → get_or (pieces n held) v 0 < n
  label_in v h = omega (arith, label_le v h)

  pub label_joined : (v : ℕ) → v < n → JoinedBy (linked held) v (get_or (pieces n held) v 0)
  label_joined v h = labels.joined v h

  -- Linked and joined fragments have one label.
  pub linked_label : (u v : ℕ) → T (linked held u v) → get_or (pieces n held) u 0 ≡ get_or (pieces n held) v 0
  linked_label u v t = labels.same u v t

  pub joined_label : (u v : ℕ) → JoinedBy (linked held) u v → get_or (pieces n held) u 0 ≡ get_or (pieces n held) v 0
  joined_label u v c = carry (λ w. get_or (pieces n held) u 0 ≡ get_or (pieces n held) w 0) (λ x y t e. e ∙ linked_label x y t) c refl

  -- Fragments of one label are joined.
  pub label_joins : (u v : ℕ) → u < n → v < n → get_or (pieces n held) u 0 ≡ get_or (pieces n held) v 0 → JoinedBy (linked held) u v
  label_joins u v hu hv e = join (rw e at (label_joined u hu)) (joined_turn held (label_joined v hv))

  -- Two fragments have one label exactly when held links join them.
  pub pieces_joined : (u v : ℕ) → u < n → v < n → (get_or (pieces n held) u 0 ≡ get_or (pieces n held) v 0) ↔ JoinedBy (linked held) u v
  pieces_joined u v hu hv = (label_joins u v hu hv, joined_label u v)

  -- A label is its own label.
  pub label_own : (v : ℕ) → v < n → get_or (pieces n held) (get_or (pieces n held) v 0) 0 ≡ get_or (pieces n held) v 0
  label_own v h = sym (joined_label v (get_or (pieces n held) v 0) (label_joined v h))

  pub joined_in : (u v : ℕ) → JoinedBy (linked held) u v → u < n → v < n
  joined_in u v c h = carry (λ w. w < n) (λ x y t i. (inside x y t).1) c h

  -- A label is the smallest member of its piece.
  pub label_least : (u v : ℕ) → v < n → JoinedBy (linked held) v u → get_or (pieces n held) v 0 ≤ u
  label_least u v h c = omega (arith, joined_label v u c, label_le u (joined_in v u c h))

-- A fragment is a member of the piece whose smallest member is its label.
pub member_intro : (l : List ℕ) (p v : ℕ) → get_or l v 0 ≡ p → T (member l p v)
unfolding member
member_intro l p v e = eq_to_eqb (get_or l v 0) p e

pub member_elim : (l : List ℕ) (p v : ℕ) → T (member l p v) → get_or l v 0 ≡ p
unfolding member
member_elim l p v t = eqb→eq (get_or l v 0) p t
