-- Why a pass from the last to the first finds the least of all below, and one from the first to the last hands the root's value down.
-- Assumes nothing.
use Rattle.std.specs.Prelude.{ℕ, zero, suc, ◌+◌, ◌-◌, ◌*◌, ◌≤◌, ◌<◌, min, ◌≡◌, List, ◌≢◌, length, get_or, set}
use Rattle.std.proofs.Math.Path.{refl}
use Rattle.std.proofs.Common.{sym, ap, ◌∙◌, subst, arith, get_or-set_same, get_or-set_other}
use Rattle.std.proofs.Math.Logic.{inl, inr}
use Rattle.std.proofs.Math.Decide.{ℕ_discrete}
use Rattle.rules.specs.Forest.{up, Over}
use Rattle.rules.specs.Tables.{par, lev}
use Rattle.rules.specs.Reading.{above, lowest, root_of}
use Rattle.rules.proofs.Laws.Search.{least_default, least_le, least_hit}
use Rattle.rules.proofs.Laws.Up.{up_zero, up_suc, up_rest, par_in, child_lev, over_refl, over_par, over_trans, level_below}
use Rattle.rules.proofs.Laws.Reading.{above_test}
use Rattle.state.specs.Layout.{forest_in}
use Rattle.testing.specs.Whole.{Whole}
use Rattle.testing.specs.Only.{Only}
use Rattle.testing.specs.Laws.Whole.{levels}
use Rattle.testing.specs.Laws.Only.{only_refl, only_more, only_forest, only_whole}
use Rattle.reaches.specs.Passes.{Ready, Sinkable, sunk_at, least_below, Sinks, fallen_at, Falls, Low, Own}

-- The least of a fragment and all below it.
module _ {n : ℕ} {f : List ℕ} (w : Whole n f) (value : ℕ → ℕ) where
  below_own : (v : ℕ) → least_below n (forest_in n f) value v ≤ value v
  unfolding least_below
  below_own v = least_default (above (forest_in n f) v) value (value v) n

  pub below_le : (v u : ℕ) → u < n → Over (par (forest_in n f)) (lev (forest_in n f)) v u → least_below n (forest_in n f) value v ≤ value u
  unfolding least_below
  below_le v u h o = least_le (above (forest_in n f) v) value (value v) n u h ((above_test (forest_in n f) v u).1 o)

  -- It is the value of one of them.
  pub below_hit : (v : ℕ) → v < n → (u : ℕ) × (u < n) × Over (par (forest_in n f)) (lev (forest_in n f)) v u × (least_below n (forest_in n f) value v ≡ value u)
  unfolding least_below
  below_hit v h = elim (least_hit (above (forest_in n f) v) value (value v) n) [
    | inl e ↦ (v, h, over_refl (levels w) v, e)
    | inr (u, k, a, e) ↦ (u, k, (above_test (forest_in n f) v u).0 a, e)
  ]

  below_parent : (v : ℕ) → v < n → least_below n (forest_in n f) value (par (forest_in n f) v) ≤ least_below n (forest_in n f) value v
  below_parent v h =
      let (u, k, o, e) = below_hit v h in
      let t = forest_in n f in
      omega (arith, e, below_le (par t v) u k (over_trans (levels w) (par t v) v u k (over_par (levels w) v h) o))

  -- Values that are no greater than these and rise on the way down are the least.
  module _ (x : ℕ → ℕ) (small : (v : ℕ) → v < n → x v ≤ value v) (rising : (v : ℕ) → v < n → x (par (forest_in n f) v) ≤ x v) where
    climbs : (k v : ℕ) → v < n → x (up (par (forest_in n f)) k v) ≤ x v
    climbs zero v h = rw (up_zero (par (forest_in n f)) v) (omega arith)
    climbs (suc k) v h = rw (up_suc (par (forest_in n f)) k v) (omega (arith, climbs k (par (forest_in n f) v) (par_in (levels w) v h), rising v h))

    pub least_found : (v : ℕ) → v < n → least_below n (forest_in n f) value v ≤ x v → x v ≡ least_below n (forest_in n f) value v
    least_found v h g =
        let (u, k, o, e) = below_hit v h in
        let t = forest_in n f in
        let c : x v ≤ x u = subst (λ (z : ℕ). x z ≤ x u) o (climbs (lev t u - lev t v) u k) in
        omega (arith, c, small u k, e)

-- An order stays one where its words and the forest do.
pub ready_by : (n : ℕ) {a b : ℕ} {f g : List ℕ} → 7 * n ≤ a → Only a b f g → Ready n f → Ready n g
ready_by n {a} {b} {f} {g} h k r =
    let o = r.ordered in
    let e : (j : ℕ) → j < n → get_or g (6 * n + j) 0 ≡ get_or f (6 * n + j) 0 = λ j l. k.before (6 * n + j) (omega arith) in
    record {
      whole = only_whole n (omega arith) k r.whole;
      ordered = record {
        turn = o.turn;
        some = λ j l. rw (e j l) (o.some j l);
        inside = o.inside;
        at = λ v l. e (o.turn v) (o.inside v l) ∙ o.at v l;
        rises = rw (only_forest n (omega arith) k) o.rises;
      };
    }

-- From the last to the first: the fragments from turn i on have handed their values up.
pub record Sinking (n base i : ℕ) (f g : List ℕ) : Type 0 where
  pub only : Only base (base + n) f g
  pub small : (v : ℕ) → v < n → get_or g (base + v) 0 ≤ get_or f (base + v) 0
  pub great : (v : ℕ) → v < n → least_below n (forest_in n f) (λ u. get_or f (base + u) 0) v ≤ get_or g (base + v) 0
  pub turn : ℕ → ℕ
  pub inside : (v : ℕ) → v < n → turn v < n
  pub at : (v : ℕ) → v < n → get_or f (6 * n + turn v) 0 ≡ v
  pub rises : (v : ℕ) → v < n → par (forest_in n f) v ≢ v → turn (par (forest_in n f) v) < turn v
  pub done : (v : ℕ) → v < n → i ≤ turn v → get_or g (base + par (forest_in n f) v) 0 ≤ get_or g (base + v) 0

pub sinking_none : (n base : ℕ) (f : List ℕ) → Sinkable n base f → Sinking n base n f f
sinking_none n base f s =
    let o = s.ready.ordered in
    record {
      only = only_refl base (base + n) f;
      small = λ v h. omega arith;
      great = λ v h. below_own s.ready.whole (λ u. get_or f (base + u) 0) v;
      turn = o.turn;
      inside = o.inside;
      at = o.at;
      rises = o.rises;
      done = λ v h l. absurd (omega (arith, o.inside v h));
    }

-- The table stays fit for it.
module _ {n base i : ℕ} {f g : List ℕ} (s : Sinkable n base f) (k : Sinking n base i f g) where
  sinking_forest : forest_in n g ≡ forest_in n f
  sinking_forest = only_forest n (omega (arith, s.scratch)) k.only

  sinking_order : (j : ℕ) → j < n → get_or g (6 * n + j) 0 ≡ get_or f (6 * n + j) 0
  sinking_order j h = k.only.before (6 * n + j) (omega (arith, s.scratch))

  pub sinking_next : (j : ℕ) → j < n → get_or g (6 * n + j) 0 < n
  sinking_next j h = rw (sinking_order j h) (s.ready.ordered.some j h)

  pub sinking_fit : Sinkable n base g
  sinking_fit = record { ready = ready_by n s.scratch k.only s.ready; scratch = s.scratch; inside = s.inside }

-- One fragment more, at turn j.
module _ {n base j : ℕ} {f g : List ℕ} (s : Sinkable n base f) (k : Sinking n base (j + 1) f g) (h : j < n) where
  -- v is there, p its parent, x what the parent's value becomes.
  sinking_by : (v p x : ℕ) → v ≡ get_or f (6 * n + j) 0 → v < n → p ≡ par (forest_in n f) v → p < n → x ≡ min (get_or g (base + p) 0) (get_or g (base + v) 0)
      → Sinking n base j f (set g (base + p) x)
  sinking_by v p x ev hv ep hp ex =
      let t = forest_in n f in
      let w = s.ready.whole in
      let value : ℕ → ℕ = λ u. get_or f (base + u) 0 in
      let long : base + p < length g = omega (arith, w.long, k.only.long, s.inside) in
      let same : get_or (set g (base + p) x) (base + p) 0 ≡ x = get_or-set_same g (base + p) x 0 long in
      let other : (u : ℕ) → u ≢ p → get_or (set g (base + p) x) (base + u) 0 ≡ get_or g (base + u) 0 = λ u d. get_or-set_other g (base + p) (base + u) x 0 (omega arith) in
      let less : (u : ℕ) → get_or (set g (base + p) x) (base + u) 0 ≤ get_or g (base + u) 0 = λ u. elim (ℕ_discrete u p) [
        | yes z ↦ rw z (omega (arith, same, ex))
        | no d ↦ omega (arith, other u d)
      ] in
      record {
        only = only_more k.only (base + p) x (omega arith) (omega arith);
        small = λ u l. omega (arith, less u, k.small u l);
        great = λ u l. elim (ℕ_discrete u p) [
          | yes z ↦ rw z (omega (arith, same, ex, k.great p hp, k.great v hv, below_parent w value v hv, ap (least_below n t value) ep))
          | no d ↦ omega (arith, other u d, k.great u l)
        ];
        turn = k.turn;
        inside = k.inside;
        at = k.at;
        rises = k.rises;
        done = λ u l q. elim (ℕ_discrete u v) [
          | yes z ↦
              let a : get_or (set g (base + p) x) (base + par t u) 0 ≡ x = ap (λ (y : ℕ). get_or (set g (base + p) x) (base + y) 0) (ap (par t) z ∙ sym ep) ∙ same in
              elim (ℕ_discrete u p) [
                | yes y ↦ omega (arith, a, same, ap (λ (m : ℕ). get_or (set g (base + p) x) (base + m) 0) y)
                | no d ↦ omega (arith, a, ex, other u d, ap (λ (m : ℕ). get_or g (base + m) 0) z)
              ]
          | no d ↦
              let b : j ≢ k.turn u = λ y. d (sym (k.at u l) ∙ ap (λ (m : ℕ). get_or f (6 * n + m) 0) (sym y) ∙ sym ev) in
              let c = k.done u l (omega arith) in
              elim (ℕ_discrete u p) [
                | no r ↦ omega (arith, less (par t u), other u r, c)
                | yes r ↦ elim (ℕ_discrete (par t u) u) [
                  | yes y ↦ rw y (omega arith)
                  | no y ↦ elim (ℕ_discrete p v) [
                    | yes z ↦ absurd (d (r ∙ z))
                    | no z ↦
                        -- u is v's parent and has a turn behind j, so v does too and has handed its value up
                        let e : k.turn p < k.turn v = rw (← ep) at (k.rises v hv (λ a. z (ep ∙ a))) in
                        let m : get_or g (base + p) 0 ≤ get_or g (base + v) 0 = rw (← ep) at (k.done v hv (omega (arith, ap k.turn r))) in
                        omega (arith, less (par t u), c, same, ex, ap (λ (m : ℕ). get_or g (base + m) 0) r, ap (λ (m : ℕ). get_or (set g (base + p) x) (base + m) 0) r)
                  ]
                ]
              ]
        ];
      }

  sinking_turn : (v : ℕ) → v ≡ get_or g (6 * n + j) 0 → (g' : List ℕ) → g' ≡ sunk_at n base v g → Sinking n base j f g'
  unfolding sunk_at
  sinking_turn v e g' eg =
      let t = forest_in n f in
      let hv : v < n = rw e (sinking_next s k j h) in
      let et : forest_in n g ≡ t = sinking_forest s k in
      let p = par t v in
      rw (eg, et) (sinking_by v p (min (get_or g (base + p) 0) (get_or g (base + v) 0)) (e ∙ sinking_order s k j h) hv refl (par_in (levels s.ready.whole) v hv) refl)

-- The same by the turn before.
pub sinking_again : {n base i : ℕ} {f g : List ℕ} → Sinkable n base f → Sinking n base i f g → (j : ℕ) → i ≡ j + 1 → j < n → (v : ℕ) → v ≡ get_or g (6 * n + j) 0 → (g' : List ℕ) → g' ≡ sunk_at n base v g
    → Sinking n base j f g'
sinking_again {n} {base} {i} {f} {g} s k j e h = sinking_turn s (rw e at k) h

pub sinking_all : {n base i : ℕ} {f g : List ℕ} → Sinkable n base f → i ≡ 0 → Sinking n base i f g → Sinks n base f g
sinking_all {n} {base} {i} {f} {g} s z k =
    let value : ℕ → ℕ = λ u. get_or f (base + u) 0 in
    record {
      only = k.only;
      each = λ v h. least_found s.ready.whole value (λ u. get_or g (base + u) 0) k.small (λ u l. k.done u l (omega arith)) v h (k.great v h);
    }

-- Where a parent's value is read or written.
pub parent_in : {n : ℕ} {f : List ℕ} → Whole n f → (v p : ℕ) → v < n → p ≡ par (forest_in n f) v → p < n
parent_in w v p h e = rw e (par_in (levels w) v h)

pub sunk_is : (n base v : ℕ) (f : List ℕ) (p x : ℕ) → p ≡ par (forest_in n f) v → x ≡ min (get_or f (base + p) 0) (get_or f (base + v) 0) → set f (base + p) x ≡ sunk_at n base v f
unfolding sunk_at
sunk_is n base v f p x e q = rw (q, e)

-- From the first to the last: the fragments before turn i have their root's value.
pub record Falling (n i : ℕ) (f g : List ℕ) : Type 0 where
  pub only : Only (7 * n) (8 * n) f g
  pub turn : ℕ → ℕ
  pub inside : (v : ℕ) → v < n → turn v < n
  pub at : (v : ℕ) → v < n → get_or f (6 * n + turn v) 0 ≡ v
  pub rises : (v : ℕ) → v < n → par (forest_in n f) v ≢ v → turn (par (forest_in n f) v) < turn v
  pub roots : (v : ℕ) → v < n → par (forest_in n f) v ≡ v → get_or g (7 * n + v) 0 ≡ get_or f (7 * n + v) 0
  pub done : (v : ℕ) → v < n → turn v < i → get_or g (7 * n + v) 0 ≡ get_or f (7 * n + root_of (forest_in n f) v) 0

pub falling_none : (n : ℕ) (f : List ℕ) → Ready n f → Falling n 0 f f
falling_none n f r =
    let o = r.ordered in
    record { only = only_refl (7 * n) (8 * n) f; turn = o.turn; inside = o.inside; at = o.at; rises = o.rises; roots = λ v h e. refl; done = λ v h l. absurd (omega arith) }

-- The root of a root, and of a child.
root_own : (n : ℕ) (f : List ℕ) (v : ℕ) → par (forest_in n f) v ≡ v → root_of (forest_in n f) v ≡ v
unfolding root_of
root_own n f v e = up_rest (par (forest_in n f)) (lev (forest_in n f) v) v e

root_parent : {n : ℕ} {f : List ℕ} → Whole n f → (v : ℕ) → v < n → (par (forest_in n f) v ≡ v → ⊥) → root_of (forest_in n f) (par (forest_in n f) v) ≡ root_of (forest_in n f) v
unfolding root_of
root_parent {n} {f} w v h d =
    let t = forest_in n f in
    let e : lev t v ≡ suc (lev t (par t v)) = child_lev (levels w) v h d in
    sym (up_suc (par t) (lev t (par t v)) v) ∙ ap (λ (k : ℕ). up (par t) k v) (sym e)

module _ {n i : ℕ} {f g : List ℕ} (r : Ready n f) (k : Falling n i f g) where
  falling_order : (j : ℕ) → j < n → get_or g (6 * n + j) 0 ≡ get_or f (6 * n + j) 0
  falling_order j h = k.only.before (6 * n + j) (omega arith)

  pub falling_next : (j : ℕ) → j < n → get_or g (6 * n + j) 0 < n
  falling_next j h = rw (falling_order j h) (r.ordered.some j h)

  pub falling_fit : Ready n g
  falling_fit = ready_by n (omega arith) k.only r

  -- v is at turn i, p its parent, x the parent's value.
  falling_by : i < n → (v p x : ℕ) → v ≡ get_or f (6 * n + i) 0 → v < n → p ≡ par (forest_in n f) v → p < n → x ≡ get_or g (7 * n + p) 0 → Falling n (i + 1) f (set g (7 * n + v) x)
  falling_by h v p x ev hv ep hp ex =
      let t = forest_in n f in
      let long : 7 * n + v < length g = omega (arith, r.whole.long, k.only.long) in
      let same : get_or (set g (7 * n + v) x) (7 * n + v) 0 ≡ x = get_or-set_same g (7 * n + v) x 0 long in
      let other : (u : ℕ) → u ≢ v → get_or (set g (7 * n + v) x) (7 * n + u) 0 ≡ get_or g (7 * n + u) 0 = λ u d. get_or-set_other g (7 * n + v) (7 * n + u) x 0 (omega arith) in
      record {
        only = only_more k.only (7 * n + v) x (omega arith) (omega arith);
        turn = k.turn;
        inside = k.inside;
        at = k.at;
        rises = k.rises;
        roots = λ u l e. elim (ℕ_discrete u v) [
          | yes z ↦
              let q : p ≡ v = ep ∙ ap (par t) (sym z) ∙ e ∙ z in
              rw z (same ∙ ex ∙ ap (λ (y : ℕ). get_or g (7 * n + y) 0) q ∙ k.roots v hv (sym ep ∙ q))
          | no d ↦ other u d ∙ k.roots u l e
        ];
        done = λ u l q. elim (ℕ_discrete u v) [
          | yes z ↦ rw z (same ∙ ex ∙ (elim (ℕ_discrete (par t v) v) [
            | yes y ↦ ap (λ (m : ℕ). get_or g (7 * n + m) 0) (ep ∙ y) ∙ k.roots v hv y ∙ ap (λ (m : ℕ). get_or f (7 * n + m) 0) (sym (root_own n f v y))
            | no y ↦
                let m : k.turn p < k.turn v = rw (← ep) at (k.rises v hv y) in
                let b : k.turn v < i + 1 = rw z at q in
                k.done p hp (omega arith) ∙ ap (λ (e : ℕ). get_or f (7 * n + e) 0) (ap (root_of t) ep ∙ root_parent r.whole v hv y)
          ]))
          | no d ↦
              let b : i ≢ k.turn u = λ y. d (sym (k.at u l) ∙ ap (λ (m : ℕ). get_or f (6 * n + m) 0) (sym y) ∙ sym ev) in
              other u d ∙ k.done u l (omega arith)
        ];
      }

  pub falling_turn : i < n → (v : ℕ) → v ≡ get_or g (6 * n + i) 0 → (g' : List ℕ) → g' ≡ fallen_at n v g → Falling n (i + 1) f g'
  unfolding fallen_at
  falling_turn h v e g' eg =
      let t = forest_in n f in
      let hv : v < n = rw e (falling_next i h) in
      let et : forest_in n g ≡ t = only_forest n (omega arith) k.only in
      rw (eg, et) (falling_by h v (par t v) _ (e ∙ falling_order i h) hv refl (par_in (levels r.whole) v hv) refl)

pub falling_all : {n i : ℕ} {f g : List ℕ} → i ≡ n → Falling n i f g → Falls n f g
falling_all e k = record { only = k.only; each = λ v h. k.done v h (omega (arith, k.inside v h)) }

pub fallen_is : (n v : ℕ) (f : List ℕ) (p : ℕ) → p ≡ par (forest_in n f) v → set f (7 * n + v) (get_or f (7 * n + p) 0) ≡ fallen_at n v f
unfolding fallen_at
fallen_is n v f p e = rw e

-- The values to begin with.
pub low_none : (n : ℕ) (f : List ℕ) → Low n 0 f f
low_none n f = record { only = only_refl (10 * n) (11 * n) f; each = λ v h. absurd (omega arith) }

module _ {n k : ℕ} {f g : List ℕ} (w : Whole n f) (l : Low n k f g) (h : k < n) (x : ℕ) (e : x ≡ lowest (forest_in n g) k) where
  low_own : x ≡ lowest (forest_in n f) k
  low_own = e ∙ ap (λ t. lowest t k) (only_forest n (omega arith) l.only)

  pub low_turn : Low n (k + 1) f (set g (10 * n + k) x)
  low_turn = record {
    only = only_more l.only (10 * n + k) x (omega arith) (omega arith);
    each = λ v i. elim (ℕ_discrete v k) [
      | yes z ↦ rw z (get_or-set_same g (10 * n + k) x 0 (omega (arith, w.long, l.only.long)) ∙ low_own)
      | no d ↦ get_or-set_other g (10 * n + k) (10 * n + v) x 0 (omega arith) ∙ l.each v (omega arith)
    ];
  }

pub low_small : {n k : ℕ} {f g : List ℕ} (w : Whole n f) (l : Low n k f g) (h : k < n) (x : ℕ) (e : x ≡ lowest (forest_in n g) k) → x < n
unfolding lowest
low_small {n} {k} {f} w l h x e = omega (arith, low_own w l h x e, level_below (levels w) k h)

pub low_all : {n k : ℕ} {f g : List ℕ} → k ≡ n → Low n k f g → Low n n f g
low_all {n} {k} {f} {g} e l = rw e at l

pub own_none : (n : ℕ) (f : List ℕ) → Own n 0 f f
own_none n f = record { only = only_refl (7 * n) (8 * n) f; each = λ v h. absurd (omega arith) }

pub own_turn : {n k : ℕ} {f g : List ℕ} → Whole n f → Own n k f g → k < n → Own n (k + 1) f (set g (7 * n + k) k)
own_turn {n} {k} {f} {g} w m h = record {
  only = only_more m.only (7 * n + k) k (omega arith) (omega arith);
  each = λ v i. elim (ℕ_discrete v k) [
    | yes z ↦ rw z (get_or-set_same g (7 * n + k) k 0 (omega (arith, w.long, m.only.long)))
    | no d ↦ get_or-set_other g (7 * n + k) (7 * n + v) k 0 (omega arith) ∙ m.each v (omega arith)
  ];
}

pub own_all : {n k : ℕ} {f g : List ℕ} → k ≡ n → Own n k f g → Own n n f g
own_all {n} {k} {f} {g} e m = rw e at m
