-- The members of each piece chained by rising number, and what is gone through along the chain.
-- Assumes nothing.
use Rattle.std.specs.Prelude.{ℕ, zero, suc, ◌+◌, ◌-◌, ◌*◌, ◌≤◌, ◌<◌, ◌≡◌, refl, List, ◌≢◌, length, get_or, set}
use Rattle.std.proofs.Common.{sym, ap, ◌∙◌, subst, arith, length-set, get_or-set_same, get_or-set_other}
use Rattle.std.proofs.Math.Decide.{ℕ_discrete}
use Rattle.closing.specs.Closing.{label_at, First, Membered, Chainable, Chains, Follows, Chained}

-- Where the labels are the same, so are the first of each.
first_by : {n : ℕ} {f f' : List ℕ} → ((v : ℕ) → v < n → label_at n f' v ≡ label_at n f v) → {from p x : ℕ} → First n f from p x → First n f' from p x
first_by e F = record {
  none = λ z w l g q. F.none z w l g (sym (e w g) ∙ q);
  some = λ w z. let (a, b, c, d) = F.some w z in (a, b, e w b ∙ c, λ y l g q. d y l g (sym (e y (omega arith)) ∙ q));
}

pub membered_by : {n : ℕ} {f f' : List ℕ} → ((i : ℕ) → 7 * n ≤ i → i < 9 * n → get_or f' i 0 ≡ get_or f i 0) → Membered n f → Membered n f'
membered_by {n} {f} {f'} e M v l =
    rw (e (7 * n + v) (omega arith) (omega arith), e (8 * n + v) (omega arith) (omega arith))
    (first_by (λ w g. e (7 * n + w) (omega arith) (omega arith)) (M v l))

-- The fragments from v on are chained.
pub record Chaining (n : ℕ) (f₀ : List ℕ) (v : ℕ) (f : List ℕ) : Type 0 where
  pub same_long : length f ≡ length f₀
  pub before : (i : ℕ) → i < 8 * n → get_or f i 0 ≡ get_or f₀ i 0
  pub members : (u : ℕ) → v ≤ u → u < n → First n f₀ (suc u) (label_at n f₀ u) (get_or f (8 * n + u) 0)
  pub firsts : (p : ℕ) → p < n → First n f₀ v p (get_or f (9 * n + p) 0)
  pub behind : (i : ℕ) → 10 * n ≤ i → get_or f i 0 ≡ get_or f₀ i 0

pub chaining_none : (n : ℕ) (f : List ℕ) → Chainable n f → Chaining n f n f
chaining_none n f W = record {
  same_long = refl;
  before = λ i l. refl;
  members = λ u l g. absurd (omega arith);
  firsts = λ p l. record { none = λ z w a b. absurd (omega arith); some = λ w z. absurd (omega (arith, W.blank p l)) };
  behind = λ i l. refl;
}

module _ (n : ℕ) (f₀ : List ℕ) (v : ℕ) (f : List ℕ) (W : Chainable n f₀) (C : Chaining n f₀ (suc v) f) (l : v < n) where
  abbrev own : ℕ
  own = label_at n f₀ v

  -- The two words stored.
  abbrev linked : List ℕ
  linked = set f (8 * n + v) (get_or f (9 * n + own) 0)

  abbrev chained : List ℕ
  chained = set linked (9 * n + own) (v + 1)

  long : length f ≡ length f₀
  long = C.same_long

  kept : (i : ℕ) → i ≢ 8 * n + v → i ≢ 9 * n + own → get_or chained i 0 ≡ get_or f i 0
  kept i d e = get_or-set_other linked (9 * n + own) i (v + 1) 0 e ∙ get_or-set_other f (8 * n + v) i (get_or f (9 * n + own) 0) 0 d

  here : get_or chained (8 * n + v) 0 ≡ get_or f (9 * n + own) 0
  here =
      get_or-set_other linked (9 * n + own) (8 * n + v) (v + 1) 0 (λ e. omega arith)
      ∙ get_or-set_same f (8 * n + v) (get_or f (9 * n + own) 0) 0 (omega (arith, long, W.wide.long))

  mine : get_or chained (9 * n + own) 0 ≡ suc v
  mine = get_or-set_same linked (9 * n + own) (v + 1) 0 (simp length-set (omega (arith, long, W.wide.long, W.labels v l))) ∙ omega arith

  first_now : (p : ℕ) → p < n → First n f₀ v p (get_or chained (9 * n + p) 0)
  first_now p g = elim (ℕ_discrete p own) [
    | yes e ↦ rw (e, mine) (record {
      none = λ z. absurd (omega arith);
      some = λ w z. let q : w ≡ v = omega arith in rw q (omega arith, l, refl, λ y a b. absurd (omega arith));
    })
    | no d ↦ rw (kept (9 * n + p) (λ e. omega arith) (λ e. d (omega arith))) (record {
      none = λ z w a b q. elim (ℕ_discrete w v) [
        | yes e ↦ d (sym q ∙ ap (label_at n f₀) e)
        | no h ↦ (C.firsts p g).none z w (omega arith) b q
      ];
      some = λ w z.
          let (a, b, c, h) = (C.firsts p g).some w z in (
            omega arith,
            b,
            c,
            λ y i j q. elim (ℕ_discrete y v) [
              | yes e ↦ d (sym q ∙ ap (label_at n f₀) e)
              | no k ↦ h y (omega arith) j q
            ],
          );
    })
  ]

  chaining_more : Chaining n f₀ v chained
  chaining_more = record {
    same_long = simp length-set C.same_long;
    before = λ i g. kept i (λ e. omega arith) (λ e. omega arith) ∙ C.before i g;
    members = λ u a b. elim (ℕ_discrete u v) [
      | yes e ↦ rw (e, here) (C.firsts own (W.labels v l))
      | no d ↦ rw (kept (8 * n + u) (λ e. d (omega arith)) (λ e. omega arith)) (C.members u (omega arith) b)
    ];
    firsts = first_now;
    behind = λ i g. kept i (λ e. omega arith) (λ e. omega (arith, W.labels v l)) ∙ C.behind i g;
  }

-- A turn of the loop, by the words read.
module _ (n : ℕ) (f₀ : List ℕ) (m : ℕ) (f : List ℕ) (W : Chainable n f₀) (C : Chaining n f₀ m f) (some : 0 < m) (most : m ≤ n) (p : ℕ) (e : p ≡ get_or f (7 * n + (m - 1)) 0) where
  label_is : p ≡ label_at n f₀ (m - 1)
  label_is = e ∙ C.before (7 * n + (m - 1)) (omega arith)

  pub label_small : p < n
  label_small = omega (arith, label_is, W.labels (m - 1) (omega arith))

  pub chaining_turn : Chaining n f₀ (m - 1) (set (set f (8 * n + (m - 1)) (get_or f (9 * n + p) 0)) (9 * n + p) (m - 1 + 1))
  chaining_turn =
      let one_more : m ≡ suc (m - 1) = omega arith in
      rw label_is (chaining_more n f₀ (m - 1) f W (subst (λ (k : ℕ). Chaining n f₀ k f) one_more C) (omega arith))

pub chaining_all : (n : ℕ) (f₀ f : List ℕ) → Chaining n f₀ 0 f → Chains n f₀ f
chaining_all n f₀ f C =
    let same : (v : ℕ) → v < n → label_at n f v ≡ label_at n f₀ v = λ v l. C.before (7 * n + v) (omega arith) in
    record {
      same_long = C.same_long;
      before = C.before;
      membered = λ v l. rw (same v l) (first_by same (C.members v (omega arith) l));
      firsts = λ p l. first_by same (C.firsts p l);
      behind = C.behind;
    }

-- The answers of the step to the next member.
module _ (n v : ℕ) (f : List ℕ) (M : Membered n f) (l : v < n) where
  pub follows_none : get_or f (8 * n + v) 0 ≡ 0 → Follows n v f n
  follows_none z = record {
    on = l;
    within = omega arith;
    member = λ g. absurd (omega arith);
    between = λ x a b. (M v l).none z x (omega arith) b;
  }

  pub follows_next : (r : ℕ) → get_or f (8 * n + v) 0 ≡ suc r → Follows n v f r
  follows_next r e =
      let (a, b, c, d) = (M v l).some r e in
      record { on = omega arith; within = omega arith; member = λ g. c; between = λ x i j. d x (omega arith) j }

pub follows_by : {n v r : ℕ} {f f' : List ℕ} → v < n → ((u : ℕ) → u < n → label_at n f' u ≡ label_at n f u) → Follows n v f' r → Follows n v f r
follows_by {n} {v} {r} l e F = record {
  on = F.on;
  within = F.within;
  member = λ g. sym (e r g) ∙ F.member g ∙ e v l;
  between = λ x a b q. F.between x a b (e x (omega (arith, F.within)) ∙ q ∙ sym (e v l));
}

-- Along the chain of the piece p: at a member, or behind the last.
pub record Along (n p : ℕ) (f : List ℕ) (v : ℕ) : Type 0 where
  pub within : v ≤ n
  pub member : v < n → label_at n f v ≡ p

pub along_first : {n p : ℕ} {f : List ℕ} → Chained n p f → Along n p f p
along_first C = record { within = omega (arith, C.in_range); member = λ l. C.own }

pub along_next : {n p v r : ℕ} {f : List ℕ} → Along n p f v → v < n → Follows n v f r → Along n p f r
along_next A l F = record { within = F.within; member = λ g. F.member g ∙ A.member l }

-- No fragment between two members is one.
pub none_between : {n p v r : ℕ} {f : List ℕ} → Along n p f v → v < n → Follows n v f r → (k : ℕ) → suc v ≤ k → k < r → label_at n f k ≢ p
none_between A l F k a b e = F.between k (omega arith) b (e ∙ sym (A.member l))

-- What every fragment that is skipped keeps holds behind them.
pub skip : (X : ℕ → Type 0) (a b : ℕ) → a ≤ b → ((k : ℕ) → a ≤ k → k < b → X k → X (suc k)) → X a → X b
skip X a zero l f x = subst X (omega arith) x
skip X a (suc b) l f x = elim (ℕ_discrete a (suc b)) [
  | yes e ↦ subst X e x
  | no d ↦ f b (omega arith) (omega arith) (skip X a b (omega arith) (λ k g h. f k g (omega arith)) x)
]
