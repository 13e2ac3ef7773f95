-- A crowded piece is deep: a depth-first walk of it has more than k levels.
-- Assumes nothing.
use Prim.Native.Nat.{ℕ, zero, suc, ◌-◌, ◌*◌, ◌≤◌, ◌<◌}
use Rattle.std.specs.Prelude.{◌≡◌, false, ◌&&◌, List, ◌≢◌, T}
use Rattle.std.proofs.Common.{sym, ◌∙◌, subst, inl, inr, mul-le-mul_right, suc-mul}
use Rattle.std.proofs.Math.Bool.{Bool}
use native.Mathlib.Omega.{arith}
use Rattle.std.proofs.Math.Decide.{dec_le}
use Rattle.base.specs.Truth.{and_intro, and_l, and_r}
use Rattle.base.specs.Link.{Link}
use Rattle.rules.specs.Links.{between, linked, tally, Among, JoinedBy}
use Rattle.rules.specs.Forest.{up}
use Rattle.rules.specs.Search.{count, some}
use Rattle.rules.specs.Tables.{Tables, rank, par, lev}
use Rattle.rules.specs.Facts.{Walked}
use Rattle.rules.proofs.Laws.Split.{tally_none}
use Rattle.rules.proofs.Laws.Facts.{Crowded}
use Rattle.rules.proofs.Laws.Chain.{join}
use Rattle.rules.proofs.Laws.Links.{between_here, between_turn}
use Rattle.rules.proofs.Laws.Search.{some_intro}
use Rattle.rules.proofs.Laws.Up.{up_zero, over_lev}
use Rattle.rules.proofs.Laws.Tables.{lev_rank, standing_levels}
use Rattle.rules.proofs.Laws.Tally.{tally_mono, tally_some, sum_most, sum_count}

-- The link l goes up from v, by at most d levels, and v is one of the crowd.
rises : (ℕ → Bool) → (ℕ → ℕ) → ℕ → ℕ → Link → Bool
rises crowd p d v l = crowd v && some (λ j. between l v (up p (suc j) v)) d

-- Where no link is listed twice, at most d links of a list go up from one fragment by at most d levels; from one outside the crowd, none.
module _ (crowd : ℕ → Bool) (p : ℕ → ℕ) (d : ℕ) (g : List Link) (once : (a b : ℕ) → tally (λ e. between e a b) g ≤ 1) (v : ℕ) where
  rises_most : tally (rises crowd p d v) g ≤ d
  unfolding rises
  rises_most =
      let q : ℕ → Link → Bool = λ j l. between l v (up p (suc j) v) in
      omega (
        arith,
        tally_mono (rises crowd p d v) (λ l. some (λ j. q j l) d) g (λ e _ t. and_r (crowd v) (some (λ j. q j e) d) t),
        tally_some q g d,
        sum_most (λ j. tally (q j) g) 1 d (λ j h. once v (up p (suc j) v)),
      )

  rises_none : (T (crowd v) → ⊥) → tally (rises crowd p d v) g ≡ 0
  unfolding rises
  rises_none out = omega (arith, tally_mono (rises crowd p d v) (λ l. false) g (λ e _ t. out (and_l (crowd v) _ t)), tally_none (λ l. false) g (λ e h f. f))

-- A link to one of the first d fragments above v goes up from v.
rises_up : (crowd : ℕ → Bool) (p : ℕ → ℕ) (d x v a : ℕ) (l : Link) → T (crowd v) → T (between l v a) → v ≢ a → up p x v ≡ a → x ≤ d → T (rises crowd p d v l)
unfolding rises
rises_up crowd p d zero v a l c s ne e h = absurd (ne (sym (up_zero p v) ∙ e))
rises_up crowd p d (suc j) v a l c s ne e h =
    and_intro (crowd v) (some (λ i. between l v (up p (suc i) v)) d) c
    (some_intro (λ i. between l v (up p (suc i) v)) d j h (subst (λ (x : ℕ). T (between l v x)) (sym e) s))

module _ {n top deepest : ℕ} {t w : Tables} (W : Walked n top t w deepest) (among : Among n (linked t.held)) where
  -- No member is further below another than the deepest is below the top.
  span : (a b : ℕ) → a < n → JoinedBy (linked t.held) top a → JoinedBy (linked t.held) top b → lev w b - lev w a ≤ rank w deepest - rank w top
  span a b h ja jb = omega (arith, lev_rank w a, lev_rank w b, lev_rank w top, over_lev (standing_levels W.standing) top a h (W.under_top a ja), W.deepest_most b jb)

  module _ {k m : ℕ} (once : (u v : ℕ) → tally (λ e. between e u v) t.held ≤ 1) (C : Crowded n k t m) (J : JoinedBy (linked t.held) top m) where
    -- Every held link inside the crowd goes up from one of its ends.
    covered : (a b : ℕ) → T (linked t.held a b) → T (C.crowd a && C.crowd b) → T (some (λ v. rises C.crowd (par w) (rank w deepest - rank w top) v (a, b)) n)
    covered a b e c =
        let ca : T (C.crowd a) = and_l (C.crowd a) (C.crowd b) c in
        let cb : T (C.crowd b) = and_r (C.crowd a) (C.crowd b) c in
        let (ha, ja) = C.inside a ca in
        let (hb, jb) = C.inside b cb in
        let far = (among a b e).2 in
        elim (W.spans a b (join J ja) e) [
          | inl o ↦ some_intro _ n b hb (rises_up C.crowd (par w) _ _ b a (a, b) cb (between_turn (a, b) a b (between_here a b)) (λ q. far (sym q)) o (span a b ha (join J ja) (join J jb)))
          | inr o ↦ some_intro _ n a ha (rises_up C.crowd (par w) _ _ a b (a, b) ca (between_here a b) far o (span b a hb (join J jb) (join J ja)))
        ]

    filled : tally (λ e. C.crowd e.0 && C.crowd e.1) t.held ≤ (rank w deepest - rank w top) * count C.crowd n
    filled =
        let q = rises C.crowd (par w) (rank w deepest - rank w top) in
        omega (
          arith,
          tally_mono (λ e. C.crowd e.0 && C.crowd e.1) (λ l. some (λ v. q v l) n) t.held (λ e. covered e.0 e.1),
          tally_some q t.held n,
          sum_count C.crowd (λ v. tally (q v) t.held) (rank w deepest - rank w top) n (rises_most C.crowd (par w) (rank w deepest - rank w top) t.held once) (rises_none C.crowd (par w) (rank w deepest - rank w top) t.held once),
        )

    -- The way from the top to the deepest member has more than k fragments: one more than the levels between them.
    pub more_than_k : k ≤ rank w deepest - rank w top
    more_than_k = elim (dec_le k (rank w deepest - rank w top)) [
      | yes l ↦ l
      | no l ↦ absurd (omega (arith, C.full, C.two, filled, mul-le-mul_right {m = suc (rank w deepest - rank w top)} {n = k} (count C.crowd n) (omega arith), suc-mul (rank w deepest - rank w top) (count C.crowd n)))
    ]
