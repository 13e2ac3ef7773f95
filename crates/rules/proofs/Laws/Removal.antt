-- Sole, cut and joined by removal, read off a depth-first forest: over sets of links, before any list or table.
-- Assumes nothing.
use Rattle.std.specs.Prelude.{ℕ, zero, suc, ◌-◌, ◌≤◌, ◌<◌, ◌≡◌, refl, ◌⊎◌, ◌≢◌, T}
use Rattle.std.proofs.Common.{sym, ap, ◌∙◌, subst, inl, inr, arith}
use Rattle.std.proofs.Math.Decide.{ℕ_discrete, dec_le, dec_lt}
use Rattle.rules.specs.Links.{Links, Undirected, Among, Joined, here, step, JoinedBy}
use Rattle.rules.specs.Forest.{up, Levels, Over}
use Rattle.rules.proofs.Laws.Chain.{join, one, back, carry, wider}
use Rattle.rules.proofs.Laws.Up.{up_add, over_dec, par_in, par_lev, root_lev, child_lev, over_refl, over_lev, over_same, up_over, over_meet, over_trans, over_par, over_par_of, over_up, over_child}

-- A depth-first forest of a set of links, by levels.
pub record Spanned (n : ℕ) (p l : ℕ → ℕ) (E : Links) : Type 0 where
  pub levels : Levels n p l
  pub turn : Undirected E
  pub among : Among n E
  pub tree : (v : ℕ) → v < n → p v ≢ v → T (E v (p v))
  pub spans : (u v : ℕ) → T (E u v) → Over p l u v ⊎ Over p l v u

-- The reach of c: the least of its level and the levels of what is linked to one below it, that one's parent left out.
pub record Reaches (n : ℕ) (p l : ℕ → ℕ) (E : Links) (r : ℕ → ℕ) : Type 0 where
  pub reach_level : (c : ℕ) → c < n → r c ≤ l c
  pub reach_link : (c w x : ℕ) → w < n → Over p l c w → T (E w x) → x ≢ p w → r c ≤ l x
  pub reach_hit : (c : ℕ) → c < n → (r c ≡ l c) ⊎ ((w : ℕ) × (x : ℕ) × (w < n) × Over p l c w × T (E w x) × (x ≢ p w) × (r c ≡ l x))

-- The links other than c-d.
abbrev pub Other : Links → ℕ → ℕ → ℕ → ℕ → Type 0
Other E c d u v = T (E u v) × (u ≡ c → v ≢ d) × (u ≡ d → v ≢ c)

-- The links that do not end at v.
abbrev pub Off : Links → ℕ → ℕ → ℕ → Type 0
Off E v u w = T (E u w) × (u ≢ v) × (w ≢ v)

-- Tree links lead from s up to a.
pub climb : {n : ℕ} {p l : ℕ → ℕ} (L : Levels n p l) (R : ℕ → ℕ → Type 0) (a s : ℕ) → ((b : ℕ) → b < n → Over p l b s → Over p l a b → b ≢ a → p b ≢ b → R b (p b)) → s < n → Over p l a s → Joined R s a
climb {n} {p} {l} L R a s f h o = go (l s) s h (over_refl L s) o refl
  where
    stop : {b : ℕ} → b ≡ a → Joined R b a
    stop {b} d = subst (λ (x : ℕ). Joined R b x) d here

    go : (k b : ℕ) → b < n → Over p l b s → Over p l a b → l b ≡ k → Joined R b a
    go zero b g u o e = stop (sym (over_same L a b o (omega (arith, over_lev L a b g o))))
    go (suc k) b g u o e = elim (ℕ_discrete b a) [
      | yes d ↦ stop d
      | no d ↦ step (f b g u o d (λ q. omega (arith, root_lev L b g q)))
          (go k (p b) (par_in L b g) (over_par_of L b s h u) (over_up L a b g o (λ q. d (sym q))) (omega (arith, par_lev L b g)))
    ]

module _ {n : ℕ} {p l : ℕ → ℕ} {E : Links} (S : Spanned n p l E) where
  open S use {levels as L, turn, among, tree, spans}

  other_turn : (c d u v : ℕ) → Other E c d u v → Other E c d v u
  other_turn c d u v (t, f, g) = (turn u v t, λ e k. g k e, λ e k. f k e)

  off_turn : (v u w : ℕ) → Off E v u w → Off E v w u
  off_turn v u w (t, f, g) = (turn u w t, g, f)

  -- Every tree link but c's own is another one.
  other_tree : (c b : ℕ) → c < n → b < n → b ≢ c → p b ≢ b → Other E c (p c) b (p b)
  other_tree c b h g d q = (tree b g q, (λ e. absurd (d e)), (λ e z. omega (arith, child_lev L b g q, par_lev L c h, ap l e, ap l z)))

  off_tree : (v b : ℕ) → b < n → b ≢ v → p b ≢ v → p b ≢ b → Off E v b (p b)
  off_tree v b g d e q = (tree b g q, d, e)

  -- A link out of the fragments below c goes strictly above c.
  leave : (c u w : ℕ) → c < n → T (E u w) → Over p l c u → (Over p l c w → ⊥) → (l w < l c) × Over p l w c
  leave c u w h t o q = elim (spans u w t) [
    | inl a ↦ absurd (q (over_trans L c u w (among u w t).1 o a))
    | inr a ↦ elim (dec_le (l c) (l w)) [
      | yes g ↦ absurd (q (over_meet L c w u (among u w t).0 o a g))
      | no g ↦ (omega arith, over_meet L w c u (among u w t).0 a o (omega arith))
    ]
  ]

  -- The parent of one below c is below c, but for c's own.
  leave_par : (c u w : ℕ) → u < n → Over p l c u → u ≢ c → (Over p l c w → ⊥) → w ≢ p u
  leave_par c u w h o d q e = q (rw e (over_up L c u h o (λ k. d (sym k))))

  module _ {r : ℕ → ℕ} (Q : Reaches n p l E r) where
    -- Where c's reach is less than m, itself no more than c's level, a link from below c goes above m.
    higher : (c m : ℕ) → c < n → r c < m → m ≤ l c → (w : ℕ) × (x : ℕ) × (w < n) × Over p l c w × T (E w x) × (x ≢ p w) × (l x < m) × Over p l x w
    higher c m h g k = elim (Q.reach_hit c h) [
      | inl e ↦ absurd (omega arith)
      | inr (w, x, hw, o, t, d, e) ↦ elim (spans w x t) [
        | inl a ↦ absurd (omega (arith, over_lev L c w hw o, over_lev L w x (among w x t).1 a))
        | inr a ↦ (w, x, hw, o, t, d, omega arith, a)
      ]
    ]

    -- Sole: where c reaches no higher than itself, nothing but the parent link leaves what is below c.
    pub stay : (c : ℕ) → c < n → p c ≢ c → r c ≡ l c → Joined (Other E c (p c)) c (p c) → ⊥
    stay c h d e j = omega (arith, over_lev L c (p c) (par_in L c h) (carry (Over p l c) keeps j (over_refl L c)), child_lev L c h d)
      where
        keeps : (u w : ℕ) → Other E c (p c) u w → Over p l c u → Over p l c w
        keeps u w (t, f, g) o = elim (over_dec p l c w) [
          | yes a ↦ a
          | no a ↦
              let x : l w < l c = (leave c u w h t o a).0 in
              let y : w ≢ p u = elim (ℕ_discrete u c) [ yes k ↦ (λ z. f k (z ∙ ap p k)) | no k ↦ leave_par c u w (among u w t).0 o k a ] in
              absurd (omega (arith, Q.reach_link c u w (among u w t).0 o t y))
        ]

    -- And where it reaches higher, its ends are joined by the other links.
    round : (c : ℕ) → c < n → p c ≢ c → r c < l c → Joined (Other E c (p c)) c (p c)
    round c h d g =
        let (w, x, hw, o, t, k, m, a) = higher c (l c) h g (omega arith) in
        let hx : x < n = (among w x t).1 in
        let b : Over p l x (p c) = over_up L x c h (over_meet L x c w hw a o (omega arith)) (λ e. omega (arith, ap l e)) in
        join (back (other_turn c (p c)) (climb L (Other E c (p c)) c w (λ b g u v q. other_tree c b h g q) hw o))
        (join (one (t, (λ e z. k (z ∙ ap p (sym e))), (λ e. absurd (omega (arith, over_lev L c w hw o, child_lev L c h d, ap l e)))))
        (back (other_turn c (p c)) (climb L (Other E c (p c)) x (p c) (λ b g u v q. other_tree c b h g (λ e. omega (arith, over_lev L b (p c) (par_in L c h) u, child_lev L c h d, ap l e))) (par_in L c h) b)))

    -- A link whose ends the others do not join is a tree link, and its lower end reaches no higher than itself.
    pub lone : (a b : ℕ) → T (E a b) → (Joined (Other E a b) a b → ⊥) → Over p l a b → (p b ≡ a) × (r b ≡ l b)
    lone a b t f o =
        let hb : b < n = (among a b t).1 in
        let d : b ≢ a = λ e. (among a b t).2 (sym e) in
        let e : p b ≡ a = elim (ℕ_discrete (p b) a) [
          | yes e ↦ e
          | no q ↦ absurd (f (back (other_turn a b) (climb L (Other E a b) a b (λ c g u v k z. (tree c g z, (λ i. absurd (k i)), (λ i j. q (ap p (sym i) ∙ j)))) hb o)))
        ] in (
          e,
          elim (dec_lt (r b) (l b)) [
            | yes g ↦ absurd (f (back (other_turn a b) (wider (λ x y (s, i, j). (s, j, i)) (subst (λ (x : ℕ). Joined (Other E b x) b x) e (round b hb (λ z. d (sym z ∙ e)) g)))))
            | no g ↦ omega (arith, Q.reach_level b hb)
          ],
        )

  -- Cut: what is below a child c of v is left only through v, where no link goes from below c above v.
  sealed : (v c : ℕ) → c < n → p c ≡ v → c ≢ v → ((u w : ℕ) → u < n → Over p l c u → T (E u w) → w ≢ p u → l w < l v → ⊥) → (x : ℕ) → Joined (Off E v) c x → Over p l c x
  sealed v c h e d f x j = carry (Over p l c) keeps j (over_refl L c)
    where
      keeps : (u w : ℕ) → Off E v u w → Over p l c u → Over p l c w
      keeps u w (t, i, k) o = elim (over_dec p l c w) [
        | yes a ↦ a
        | no a ↦
            let (x, y) = leave c u w h t o a in
            let z : Over p l w v = rw e at (over_up L w c h y (λ q. omega (arith, ap l q))) in
            let hv : v < n = rw e at (par_in L c h) in
            let q : w ≢ p u = elim (ℕ_discrete u c) [ yes m ↦ (λ s. k (s ∙ ap p m ∙ e)) | no m ↦ leave_par c u w (among u w t).0 o m a ] in
            absurd (f u w (among u w t).0 o t q (elim (dec_lt (l w) (l v)) [
              | yes m ↦ m
              | no m ↦ absurd (k (over_same L w v z (omega (arith, over_lev L w v hv z))))
            ]))
      ]

  -- Tree links below a child of v, and above v, do not end at v.
  off_below : (v c u : ℕ) → l v < l c → u < n → Over p l c u → Joined (Off E v) u c
  off_below v c u g h o = climb L (Off E v) c u
      (λ b m i j k z. off_tree v b m
      (λ e. omega (arith, over_lev L c b m j, ap l e))
      (λ e. omega (arith, over_lev L c (p b) (par_in L b m) (over_up L c b m j (λ q. k (sym q))), ap l e))
      z)
      h o

  off_above : (v a s : ℕ) → l s < l v → s < n → Over p l a s → Joined (Off E v) s a
  off_above v a s g h o = climb L (Off E v) a s
      (λ b m i j k z. off_tree v b m
      (λ e. omega (arith, over_lev L b s h i, ap l e))
      (λ e. omega (arith, over_lev L b s h i, par_lev L b m, ap l e))
      z)
      h o

  -- A chain through v is led around it, where what is linked to v is joined without v.
  detour : (v : ℕ) → ((u w : ℕ) → T (E u v) → T (E w v) → u ≢ v → w ≢ v → Joined (Off E v) u w) → (a b : ℕ) → a ≢ v → b ≢ v → JoinedBy E a b → Joined (Off E v) a b
  detour v beside a b ha hb j = (carry Led keeps j ((λ d. here), (λ e. absurd (ha e)))).0 hb
    where
      Led : ℕ → Type 0
      Led x = (x ≢ v → Joined (Off E v) a x) × (x ≡ v → (w : ℕ) → T (E w v) → w ≢ v → Joined (Off E v) a w)

      keeps : (u w : ℕ) → T (E u w) → Led u → Led w
      keeps u w t (f, g) = elim (ℕ_discrete u v) [
        | yes e ↦ ((λ d. g e w (turn v w (rw e at t)) d), (λ z. absurd ((among u w t).2 (e ∙ sym z))))
        | no d ↦ ((λ q. join (f d) (one (t, d, q))), (λ z x s q. join (f d) (beside u x (rw z at t) s d q)))
      ]

  -- One linked to v and above it, or below a child of v.
  beside : (u v : ℕ) → v < n → T (E u v) → u ≢ v → Over p l u v ⊎ ((c : ℕ) × (c < n) × (p c ≡ v) × (l c ≡ suc (l v)) × Over p l c u)
  beside u v h t d = elim (spans u v t) [ inl a ↦ inl a | inr a ↦ inr (over_child L v u (among u v t).0 a (λ e. d (sym e))) ]

  -- A root with one child at most is not cut.
  pub root_whole : (v : ℕ) → v < n → p v ≡ v → ((c d : ℕ) → c < n → d < n → p c ≡ v → p d ≡ v → c ≢ v → d ≢ v → c ≡ d) → (a b : ℕ) → a ≢ v → b ≢ v → JoinedBy E a b → Joined (Off E v) a b
  root_whole v h e f = detour v hub
    where
      under : (u : ℕ) → T (E u v) → u ≢ v → (c : ℕ) × (c < n) × (p c ≡ v) × (c ≢ v) × Joined (Off E v) u c
      under u t d = elim (beside u v h t d) [
        | inl a ↦ absurd (d (over_same L u v a (omega (arith, over_lev L u v h a, root_lev L v h e))))
        | inr (c, hc, pc, lc, oc) ↦ (c, hc, pc, (λ q. omega (arith, ap l q)), off_below v c u (omega arith) (among u v t).0 oc)
      ]

      hub : (u w : ℕ) → T (E u v) → T (E w v) → u ≢ v → w ≢ v → Joined (Off E v) u w
      hub u w s t i j =
          let (c, hc, pc, dc, x) = under u s i in
          let (d, hd, pd, dd, y) = under w t j in
          join x (rw (f c d hc hd pc pd dc dd) (back (off_turn v) y))

  -- And one with two children is.
  pub root_parts : (v : ℕ) → v < n → p v ≡ v → (c d : ℕ) → c < n → d < n → p c ≡ v → p d ≡ v → c ≢ v → d ≢ v → c ≢ d → Joined (Off E v) c d → ⊥
  root_parts v h e c d hc hd pc pd dc dd k j =
      let z : l v ≡ 0 = root_lev L v h e in
      let o : Over p l c d = sealed v c hc pc dc (λ u w g a t q m. omega arith) d j in
      k (over_same L c d o (omega (arith, child_lev L c hc (λ i. dc (sym i ∙ pc)), child_lev L d hd (λ i. dd (sym i ∙ pd)), ap l pc, ap l pd)))

  module _ {r : ℕ → ℕ} (Q : Reaches n p l E r) where
    -- A fragment with a parent is not cut where each child reaches above it.
    pub inner_whole : (v : ℕ) → v < n → p v ≢ v → ((c : ℕ) → c < n → p c ≡ v → c ≢ v → r c < l v) → (a b : ℕ) → a ≢ v → b ≢ v → JoinedBy E a b → Joined (Off E v) a b
    inner_whole v h e f = detour v (λ u w s t i j. join (hub u s i) (back (off_turn v) (hub w t j)))
      where
        hv : p v < n
        hv = par_in L v h

        lv : l v ≡ suc (l (p v))
        lv = child_lev L v h e

        above : (x : ℕ) → Over p l x v → x ≢ v → Joined (Off E v) x (p v)
        above x o d = back (off_turn v) (off_above v x (p v) (omega (arith, lv)) hv (over_up L x v h o d))

        around : (c : ℕ) → c < n → p c ≡ v → l c ≡ suc (l v) → Joined (Off E v) c (p v)
        around c hc pc lc =
            let (w, x, hw, o, t, d, m, a) = higher Q c (l v) hc (f c hc pc (λ q. omega (arith, ap l q))) (omega arith) in
            let ov : Over p l v w = over_trans L v c w hw (rw pc at (over_par L c hc)) o in
            let dx : x ≢ v = λ q. omega (arith, ap l q) in
            join (back (off_turn v) (off_below v c w (omega arith) hw o))
            (step (t, (λ q. omega (arith, over_lev L c w hw o, ap l q)), dx) (above x (over_meet L x v w hw a ov (omega arith)) dx))

        hub : (u : ℕ) → T (E u v) → u ≢ v → Joined (Off E v) u (p v)
        hub u t d = elim (beside u v h t d) [
          | inl a ↦ above u a d
          | inr (c, hc, pc, lc, oc) ↦ join (off_below v c u (omega arith) (among u v t).0 oc) (around c hc pc lc)
        ]

    -- And is where one does not: that child and v's parent are parted.
    pub inner_parts : (v : ℕ) → v < n → p v ≢ v → (c : ℕ) → c < n → p c ≡ v → c ≢ v → l v ≤ r c → Joined (Off E v) c (p v) → ⊥
    inner_parts v h e c hc pc dc g j =
        let o : Over p l c (p v) = sealed v c hc pc dc (λ u w i a t q m. omega (arith, Q.reach_link c u w i a t q)) (p v) j in
        omega (arith, over_lev L c (p v) (par_in L v h) o, child_lev L v h e, child_lev L c hc (λ i. dc (sym i ∙ pc)), ap l pc)

  -- Pieces: two fragments are joined exactly where they have one root.
  root_over : (a b : ℕ) → b < n → Over p l a b → up p (l a) a ≡ up p (l b) b
  root_over a b h o = ap (up p (l a)) (sym o) ∙ sym (up_add p (l b - l a) (l a) b) ∙ ap (λ (i : ℕ). up p i b) (omega (arith, over_lev L a b h o))

  pub joined_root : (u v : ℕ) → JoinedBy E u v → up p (l u) u ≡ up p (l v) v
  joined_root u v j = carry (λ x. up p (l u) u ≡ up p (l x) x) keeps j refl
    where
      keeps : (x y : ℕ) → T (E x y) → up p (l u) u ≡ up p (l x) x → up p (l u) u ≡ up p (l y) y
      keeps x y t e = elim (spans x y t) [
        | inl a ↦ e ∙ root_over x y (among x y t).1 a
        | inr a ↦ e ∙ sym (root_over y x (among x y t).0 a)
      ]

  to_root : (v : ℕ) → v < n → JoinedBy E v (up p (l v) v)
  to_root v h = climb L (λ x y. T (E x y)) (up p (l v) v) v (λ b g i j k z. tree b g z) h (up_over L (l v) v h)

  pub root_joined : (u v : ℕ) → u < n → v < n → up p (l u) u ≡ up p (l v) v → JoinedBy E u v
  root_joined u v h g e = join (to_root u h) (rw e (back turn (to_root v g)))
