-- The next neighbour of a walk: its place found by halves, and the cursors, which leave only placed fragments behind.
-- Assumes nothing.
use Rattle.std.specs.Prelude.{ℕ, zero, suc, ◌+◌, ◌-◌, ◌*◌, ◌%◌, ◌≤◌, ◌<◌, ◌≡◌, refl, true, false, ◌&&◌, not, List, ◌≢◌, T, leb, length, get_or, set, take, drop}
use Rattle.std.specs.List.Sorted.{IsNonDecreasingBy, IsPartitionPoint}
use Rattle.std.proofs.Common.{sym, ap, ◌∙◌, arith, add-one, T_not}
use Rattle.std.proofs.Math.Decide.{ℕ_discrete, dec_lt}
use Rattle.std.proofs.Math.Dec.{not_T}
use Rattle.std.proofs.lemmas.Bool.{leb-true, leb-false}
use Rattle.std.proofs.lemmas.Grind.{get_or_default_zero}
use Rattle.std.proofs.lemmas.List.{set-get_or, get_or-take, get_or-drop, length-drop, length-take-le}
use Rattle.base.specs.Truth.{and_intro, and_l, and_r}
use Rattle.rules.specs.Links.{linked}
use Rattle.rules.specs.Tables.{placed}
use Rattle.rules.specs.Building.{next_of}
use Rattle.rules.proofs.Laws.Links.{linked_turn}
use Rattle.rules.proofs.Laws.Tables.{placed_rank, rank_placed}
use Rattle.state.specs.Layout.{radix, tables_in, held_links}
use Rattle.state.proofs.Laws.Layout.{level_word}
use Rattle.closing.specs.Arranged.{links_in, start_of, smaller_at, after_at, Arranged}
use Rattle.closing.specs.Walk.{Wide, Placed, greater_of, Smaller, Greater, cursors_at, Found, Findable, Seekable, SeeksSmaller, SeeksGreater, Seeks}
use Rattle.pieces.specs.Gathered.{held_tables, holds}
use Rattle.closing.specs.Laws.Choosing.{first_is}

-- The word after the start of v, as the code reads it.
pub start_next : (n : ℕ) (f : List ℕ) (v : ℕ) → get_or f (4 * n + (v + 1)) 0 ≡ start_of n f (suc v)
start_next n f v = ap (λ (w : ℕ). get_or f (4 * n + w) 0) (add-one v)

-- The place of v among the smaller neighbours of b stands from low to high.
pub record Halved (n b v : ℕ) (f h : List ℕ) (low high : ℕ) : Type 0 where
  pub low_in : start_of n f b ≤ low
  pub high_in : high ≤ start_of n f (suc b)
  pub place : ℕ
  pub after_low : low ≤ place
  pub before_high : place < high
  pub here : smaller_at h place ≡ v

module _ {n b v : ℕ} {f h : List ℕ} (F : Findable n b v f h) where
  pub halved_none : Halved n b v f h (start_of n f b) (get_or f (4 * n + (b + 1)) 0)
  halved_none =
      let e = start_next n f b in
      record { low_in = omega arith; high_in = omega (arith, e); place = F.place; after_low = F.found.from; before_high = omega (arith, e, F.found.to); here = F.found.here }

  module _ {low high : ℕ} (H : Halved n b v f h low high) where
    module _ (m : ℕ) (l : low ≤ m) (g : m < high) where
      pub halved_low : smaller_at h m ≤ v → Halved n b v f h m high
      halved_low e = record {
        low_in = omega (arith, H.low_in);
        high_in = H.high_in;
        place = H.place;
        after_low = elim (dec_lt H.place m) [
          | yes d ↦ absurd (omega (arith, F.rising H.place m (omega (arith, H.low_in, H.after_low)) d (omega (arith, H.high_in)), H.here))
          | no d ↦ omega arith
        ];
        before_high = H.before_high;
        here = H.here;
      }

      pub halved_high : v < smaller_at h m → Halved n b v f h low m
      halved_high e = record {
        low_in = H.low_in;
        high_in = omega (arith, H.high_in);
        place = H.place;
        after_low = H.after_low;
        before_high = elim (dec_lt H.place m) [
          | yes d ↦ d
          | no d ↦ elim (ℕ_discrete H.place m) [
            | yes q ↦ absurd (omega (arith, ap (smaller_at h) q, H.here))
            | no q ↦ absurd (omega (arith, F.rising m H.place (omega (arith, H.low_in)) (omega arith) (omega (arith, H.before_high, H.high_in)), H.here))
          ]
        ];
        here = H.here;
      }

    pub halved_found : high ≤ low + 1 → Found n b v f h low
    halved_found g =
        let e : low ≡ H.place = omega (arith, H.after_low, H.before_high) in
        record { from = H.low_in; to = omega (arith, H.before_high, H.high_in); here = ap (smaller_at h) e ∙ H.here }

-- The smaller neighbours of b rise: behind the first of them come as many that are not above v as v stands behind it.
module _ {n b v : ℕ} {f h : List ℕ} (F : Findable n b v f h) where
  -- Those behind the first, as the code cuts them out of the held table.
  abbrev others : List ℕ
  others = take (get_or f (4 * n + (b + 1)) 0 - (start_of n f b + 1)) (drop (start_of n f b + 1) h)

  others_long : length others ≡ start_of n f (suc b) - (start_of n f b + 1)
  others_long =
      let e = start_next n f b in
      let l = length-drop (start_of n f b + 1) h in
      omega (arith, e, length-take-le (get_or f (4 * n + (b + 1)) 0 - (start_of n f b + 1)) (drop (start_of n f b + 1) h) (omega (arith, e, l, F.there)))

  others_at : (k d : ℕ) → k < length others → get_or others k d % radix ≡ smaller_at h (start_of n f b + 1 + k)
  others_at k d l =
      let e = get_or-take (get_or f (4 * n + (b + 1)) 0 - (start_of n f b + 1)) (drop (start_of n f b + 1) h) k 0 (omega (arith, others_long, start_next n f b)) in
      ap (λ w. w % radix) (get_or_default_zero others k d l ∙ e ∙ get_or-drop (start_of n f b + 1) h k 0)

  pub others_rise : IsNonDecreasingBy (λ w. w % radix) others
  others_rise i j d l m = elim (ℕ_discrete i j) [
    | yes e ↦ rw e (omega arith)
    | no e ↦ omega (arith, others_at i d (omega arith), others_at j d m, F.rising (start_of n f b + 1 + i) (start_of n f b + 1 + j) (omega arith) (omega arith) (omega (arith, others_long)))
  ]

  pub others_passed : (i : ℕ) → IsPartitionPoint (λ w. leb (w % radix) v ≡ true) (λ w. leb (w % radix) v ≡ false) others i → i ≤ length others → Found n b v f h (start_of n f b + i)
  others_passed i P g = elim (dec_lt F.place (start_of n f b + i)) [
    | yes l ↦
        let k = F.place - start_of n f b in
        let m : k < length others = omega (arith, F.found.from) in
        absurd (omega (arith, F.found.from, others_at k 0 m, leb-true _ _ (P.0 k 0 (omega arith) (omega (arith, F.found.from))), F.rising F.place (start_of n f b + 1 + k) F.found.from (omega (arith, F.found.from)) (omega (arith, others_long)), F.found.here))
    | no l ↦ elim (ℕ_discrete (start_of n f b + i) F.place) [
      | yes e ↦ rw e F.found
      | no d ↦
          let m : i < length others = omega (arith, others_long, F.found.to) in
          let above : v < smaller_at h (start_of n f b + 1 + i) = omega (arith, others_at i 0 m, leb-false _ _ (P.1 i 0 (omega arith) m)) in
          elim (ℕ_discrete (start_of n f b + 1 + i) F.place) [
            | yes e ↦ absurd (omega (arith, ap (smaller_at h) e, F.found.here))
            | no e ↦ absurd (omega (arith, F.rising (start_of n f b + 1 + i) F.place (omega arith) (omega arith) F.found.to, F.found.here))
          ]
    ]
  ]

module _ {n c : ℕ} {h₀ f h : List ℕ} (A : Arranged n c h₀ f h) where
  pub arranged_wide : Wide n f
  arranged_wide = record { few = A.few; long = A.long }

  -- All places are within the held table.
  starts_last : (k v : ℕ) → v + k ≡ n → start_of n f v ≤ c
  starts_last zero v e =
      let q : v ≡ n = omega arith in
      rw q A.last
  starts_last (suc k) v e = omega (arith, A.ordered v (omega arith), starts_last k (suc v) (omega arith))

  start_there : (v : ℕ) → v ≤ n → start_of n f v ≤ length h
  start_there v l = omega (arith, starts_last (n - v) v (omega arith), A.there)

  pub smaller_in : (v i : ℕ) → v < n → start_of n f v ≤ i → i < start_of n f (suc v) → smaller_at h i < n
  smaller_in v i l a b = (A.among (smaller_at h i) v (A.smaller v i l a b).1).0

  linked_findable : (b v : ℕ) → v < b → T (links_in c h₀ v b) → Findable n b v f h
  linked_findable b v l t =
      let g : b < n = (A.among v b t).1 in
      let (i, p, q, e) = A.found b v l t in
      record { wide = arranged_wide; in_range = g; there = start_there (suc b) g; rising = λ x y. A.rising b x y g; place = i; found = record { from = p; to = q; here = e } }

  -- One step among the greater neighbours of v.
  module _ (v b i : ℕ) (G : Greater n c h₀ f v (suc b)) (p : Placed n f b) (F : Found n b v f h i) where
    b_in : b < n
    b_in = (A.among v b (G.before b refl).1).1

    passed : (x : ℕ) → v < x → x ≤ b → T (links_in c h₀ v x) → Placed n f x
    passed x m l t = elim (ℕ_discrete x b) [
      | yes e ↦ rw e p
      | no d ↦ (G.before b refl).2 x m (omega arith) t
    ]

    greater_through : after_at h i ≡ b → Greater n c h₀ f v 0
    greater_through e = record {
      through = λ z x l t. elim (dec_lt b x) [
        | yes g ↦ absurd (A.no_after b i b_in F.from F.to e x g (rw F.here t))
        | no g ↦ passed x l (omega arith) t
      ];
      before = λ a z. absurd (omega arith);
    }

    greater_after : after_at h i ≢ b → (b < after_at h i) × (after_at h i < n) × Greater n c h₀ f v (suc (after_at h i))
    greater_after d =
        let (l, t, none) = A.after b i b_in F.from F.to d in
        let linked_on : T (links_in c h₀ v (after_at h i)) = rw F.here at t in (
          l,
          (A.among v (after_at h i) linked_on).1,
          record {
            through = λ z. absurd (omega arith);
            before = λ a z.
                let e : a ≡ after_at h i = omega arith in
                rw e (
                  omega (arith, (G.before b refl).0),
                  linked_on,
                  λ x m k q. elim (dec_lt b x) [
                    | yes g ↦ absurd (none x g k (rw F.here q))
                    | no g ↦ passed x m (omega arith) q
                  ],
                );
          },
        )

-- One step among the smaller neighbours of v.
pub smaller_more : (n : ℕ) (f h : List ℕ) (v s : ℕ) → Smaller n f h v s → s < start_of n f (suc v) → Placed n f (smaller_at h s) → Smaller n f h v (s + 1)
smaller_more n f h v s S l p = record {
  from = omega (arith, S.from);
  to = omega arith;
  before = λ i a b. elim (ℕ_discrete i s) [
    | yes e ↦ rw e p
    | no d ↦ S.before i a (omega arith)
  ];
}

-- The cursor among the greater neighbours of v may move to g, whatever links stand arranged.
abbrev pub Moves : (n v : ℕ) (f h : List ℕ) (g : ℕ) → Type 0
Moves n v f h g = (c : ℕ) (h₀ : List ℕ) → Arranged n c h₀ f h → Greater n c h₀ f v (greater_of n f v) → Greater n c h₀ f v g

module _ {n v : ℕ} {f h : List ℕ} (g : ℕ) (d : g ≢ 0) (M : Moves n v f h g) (p : Placed n f (g - 1)) (i : ℕ) (F : Found n (g - 1) v f h i) where
  moved : {c : ℕ} {h₀ : List ℕ} → Arranged n c h₀ f h → Greater n c h₀ f v (greater_of n f v) → Greater n c h₀ f v (suc (g - 1))
  moved {c} {h₀} A G =
      let e : suc (g - 1) ≡ g = omega arith in
      rw e (M c h₀ A G)

  pub moves_through : after_at h i ≡ g - 1 → Moves n v f h 0
  moves_through e c h₀ A G = greater_through A v (g - 1) i (moved A G) p F e

  pub moves_after : after_at h i ≢ g - 1 → Moves n v f h (after_at h i + 1)
  moves_after e c h₀ A G = rw (add-one (after_at h i)) (greater_after A v (g - 1) i (moved A G) p F e).2

module _ {n v : ℕ} {f h : List ℕ} (K : Seekable n v f h) where
  pub seek_end : start_of n f (suc v) ≤ length h
  seek_end = start_there K.arranged (suc v) K.in_range

  pub seek_in : (s : ℕ) → Smaller n f h v s → s < start_of n f (suc v) → smaller_at h s < n
  seek_in s S l = smaller_in K.arranged v s K.in_range S.from l

  module _ (g : ℕ) (M : Moves n v f h g) where
    pub seek_at : g ≢ 0 → (g - 1 < n) × Findable n (g - 1) v f h
    seek_at d =
        let (l, t, b) = (M K.count K.told K.arranged K.behind.greater).before (g - 1) (omega arith) in
        ((K.arranged.among v (g - 1) t).1, linked_findable K.arranged (g - 1) v l t)

    pub seek_after : (d : g ≢ 0) → Placed n f (g - 1) → (i : ℕ) → Found n (g - 1) v f h i → after_at h i ≢ g - 1 → (g - 1 < after_at h i) × (after_at h i < n)
    seek_after d p i F e = let (a, b, G) = greater_after K.arranged v (g - 1) i (moved g d M p i F K.arranged K.behind.greater) p F e in (a, b)

    pub seek_found : (g ≢ 0 → get_or f (n + (g - 1)) 0 ≡ 0) → SeeksGreater n v g f h
    seek_found z = record {
      within = elim (ℕ_discrete g 0) [
        | yes e ↦ omega arith
        | no d ↦ omega (arith, (seek_at d).0)
      ];
      loose = z;
      behind = M;
    }

-- A fragment that is placed, by its word and by the tables.
module _ (n c : ℕ) (f h : List ℕ) (x : ℕ) (l : x < n) where
  pub placed_word : T (placed (held_tables n c f h) x) → Placed n f x
  placed_word p = omega (arith, placed_rank (held_tables n c f h) x p, level_word (holds n c) f h x l)

  pub word_placed : Placed n f x → T (placed (held_tables n c f h) x)
  word_placed p = rank_placed (held_tables n c f h) x (omega (arith, level_word (holds n c) f h x l))

-- What is next: an unplaced neighbour, where all smaller ones are placed.
next_is : (n c : ℕ) (h₀ f : List ℕ) (v r : ℕ) → r ≤ n → (r < n → T (links_in c h₀ v r) × (get_or f (n + r) 0 ≡ 0)) → ((k : ℕ) → k < r → T (links_in c h₀ v k) → Placed n f k) → r ≡ next_of n (held_tables n c f h₀) v
unfolding next_of tables_in
next_is n c h₀ f v r g a b =
    let t = held_tables n c f h₀ in
    first_is (λ w. linked t.held v w && not (placed t w)) n r g
    (λ m. let (q, z) = a m in and_intro (links_in c h₀ v r) (not (placed t r)) q (not_T (placed t r) (λ p. omega (arith, placed_word n c f h₀ r m p))))
    (λ k m q. T_not (placed t k) (and_r (links_in c h₀ v k) (not (placed t k)) q) (word_placed n c f h₀ k (omega arith) (b k m (and_l (links_in c h₀ v k) (not (placed t k)) q))))

turn : (c : ℕ) (h₀ : List ℕ) (x y : ℕ) → T (links_in c h₀ x y) → T (links_in c h₀ y x)
turn c h₀ x y = linked_turn (held_links c h₀) x y

-- The neighbour that the cursors are at is the next, where it is unplaced.
module _ {n c : ℕ} {h₀ f h : List ℕ} (A : Arranged n c h₀ f h) (v : ℕ) (l : v < n) (s : ℕ) (S : Smaller n f h v s) where
  -- A smaller neighbour is passed that does not stand from the place s on.
  smaller_passed : (k : ℕ) → k < v → T (links_in c h₀ v k) → ((i : ℕ) → s ≤ i → i < start_of n f (suc v) → k ≢ smaller_at h i) → Placed n f k
  smaller_passed k q t d =
      let (i, a, b, w) = A.found v k q (turn c h₀ v k t) in
      elim (dec_lt i s) [
        | yes m ↦ rw (← w) (S.before i a m)
        | no m ↦ absurd (d i (omega arith) b (sym w))
      ]

  next_smaller : s < start_of n f (suc v) → get_or f (n + smaller_at h s) 0 ≡ 0 → smaller_at h s ≡ next_of n (held_tables n c f h₀) v
  next_smaller b z =
      let (m, t) = A.smaller v s l S.from b in
      next_is n c h₀ f v (smaller_at h s) (omega arith) (λ q. (turn c h₀ (smaller_at h s) v t, z))
      (λ k q e. smaller_passed k (omega arith) e (λ i x y w. elim (ℕ_discrete s i) [
        | yes j ↦ omega (arith, ap (smaller_at h) j)
        | no j ↦ omega (arith, A.rising v s i l S.from (omega arith) y)
      ]))

  module _ (through : start_of n f (suc v) ≤ s) where
    -- A neighbour is passed where the greater ones up to it are.
    neighbour_passed : (k : ℕ) → T (links_in c h₀ v k) → (v < k → Placed n f k) → Placed n f k
    neighbour_passed k t d = elim (dec_lt k v) [
      | yes q ↦ smaller_passed k q t (λ i x y. absurd (omega arith))
      | no q ↦ elim (ℕ_discrete v k) [
        | yes e ↦ absurd ((A.among v k t).2 e)
        | no e ↦ d (omega arith)
      ]
    ]

    next_greater : (b : ℕ) → Greater n c h₀ f v (suc b) → get_or f (n + b) 0 ≡ 0 → b ≡ next_of n (held_tables n c f h₀) v
    next_greater b G z =
        let (m, t, before) = G.before b refl in
        next_is n c h₀ f v b (omega (arith, (A.among v b t).1)) (λ q. (t, z)) (λ k q e. neighbour_passed k e (λ a. before k a q e))

    next_none : Greater n c h₀ f v 0 → n ≡ next_of n (held_tables n c f h₀) v
    next_none G = next_is n c h₀ f v n (omega arith) (λ q. absurd (omega arith)) (λ k q e. neighbour_passed k e (λ a. G.through refl k a e))

-- The answers of the search for the next neighbour.
module _ {n v : ℕ} {f h : List ℕ} (K : Seekable n v f h) (s : ℕ) (S : SeeksSmaller n v s f h) (f' : List ℕ) where
  pub seeks_smaller : s < start_of n f (suc v) → f' ≡ set f (15 * n + v) s → (r : ℕ) → r ≡ smaller_at h s → Seeks n v r f h f'
  unfolding cursors_at
  seeks_smaller l e r q = record {
    greater = greater_of n f v;
    smaller = s;
    stores = rw (set-get_or f (14 * n + v) 0) e;
    sought = λ c h₀ A B. record {
      next = q ∙ next_smaller A v K.in_range s S.behind l (S.loose l);
      behind = record { greater = B.greater; smaller = S.behind };
    };
  }

  module _ (through : start_of n f (suc v) ≤ s) (g : ℕ) (G : SeeksGreater n v g f h) (e : f' ≡ cursors_at n v g s f) where
    seeks_on : (r : ℕ) → ((c : ℕ) (h₀ : List ℕ) → Arranged n c h₀ f h → Greater n c h₀ f v g → r ≡ next_of n (held_tables n c f h₀) v) → Seeks n v r f h f'
    seeks_on r d = record {
      greater = g;
      smaller = s;
      stores = e;
      sought = λ c h₀ A B.
          let Z = G.behind c h₀ A B.greater in
          record { next = d c h₀ A Z; behind = record { greater = Z; smaller = S.behind } };
    }

    pub seeks_greater : g ≢ 0 → Seeks n v (g - 1) f h f'
    seeks_greater d =
        let q : suc (g - 1) ≡ g = omega arith in
        seeks_on (g - 1) (λ c h₀ A Z. next_greater A v K.in_range s S.behind through (g - 1) (rw q Z) (G.loose d))

    pub seeks_none : g ≡ 0 → Seeks n v n f h f'
    seeks_none z = seeks_on n (λ c h₀ A Z. next_none A v K.in_range s S.behind through (rw z at Z))
