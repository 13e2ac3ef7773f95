-- A queue: fragments that follow each other, each greater than the one before and beginning where that one ends, without a gap from lo to hi.
-- Assumes nothing.
use Rattle.std.specs.Prelude.{ℕ, zero, suc, ◌+◌, ◌-◌, ◌≤◌, ◌<◌, ◌≡◌, Bool, ◌⊎◌, T}
use Rattle.std.proofs.Common.{ap, inl, inr, arith}
use Rattle.std.proofs.Math.Decide.{ℕ_discrete, dec_lt, dec_le}
use Rattle.base.specs.Pick.{pick, pick_true, pick_false}
use Rattle.base.specs.Truth.{T_dec, T_true, T_false}
use Rattle.rules.specs.Search.{sum}
use Rattle.rules.proofs.Laws.Sums.{sum_zero, sum_suc}

-- The fragments below n that pass a test are a queue; P is where each begins, E where it ends.
pub record Queue (n : ℕ) (P E : ℕ → ℕ) (test : ℕ → Bool) (lo hi : ℕ) : Type 0 where
  pub wide : (c : ℕ) → c < n → P c < E c
  pub same : (c d : ℕ) → c < n → d < n → P c ≡ P d → c ≡ d
  pub low : (c : ℕ) → c < n → T (test c) → lo ≤ P c
  pub start : (lo ≡ hi) ⊎ ((w : ℕ) × (w < n) × T (test w) × (P w ≡ lo))
  pub next : (c : ℕ) → c < n → T (test c) → (E c ≡ hi) ⊎ ((w : ℕ) × (w < n) × T (test w) × (c < w) × (P w ≡ E c))

-- How wide c is, where it passes the test.
unfoldable pub size_if : (ℕ → ℕ) → (ℕ → ℕ) → (ℕ → Bool) → ℕ → ℕ
size_if P E test c = pick (test c) (E c - P c) 0

-- What is left of a queue from m on begins with w, where the sizes of those below m add up to.
record Left (n : ℕ) (P E : ℕ → ℕ) (test : ℕ → Bool) (lo m w : ℕ) : Type 0 where
  inside : w < n
  passes : T (test w)
  from : m ≤ w
  begins : P w ≡ lo + sum (size_if P E test) m
  none : (d : ℕ) → d < n → m ≤ d → d < w → T (test d) → ⊥

-- Nothing is left of it, and it ends there.
record Done (n : ℕ) (P E : ℕ → ℕ) (test : ℕ → Bool) (lo hi m : ℕ) : Type 0 where
  ends : hi ≡ lo + sum (size_if P E test) m
  none : (d : ℕ) → d < n → m ≤ d → T (test d) → ⊥

module _ (P E : ℕ → ℕ) (test : ℕ → Bool) (c : ℕ) where
  size_yes : T (test c) → size_if P E test c ≡ E c - P c
  unfolding size_if
  size_yes q = rw (T_true (test c) q, pick_true)

  size_no : (T (test c) → ⊥) → size_if P E test c ≡ 0
  unfolding size_if
  size_no q = rw (T_false (test c) q, pick_false)

module _ {n : ℕ} {P E : ℕ → ℕ} {test : ℕ → Bool} {lo hi : ℕ} (Q : Queue n P E test lo hi) where
  ends_by : (k c : ℕ) → n ≤ c + k → c < n → T (test c) → E c ≤ hi
  ends_by zero c g h q = absurd (omega arith)
  ends_by (suc k) c g h q = elim (Q.next c h q) [
    | inl e ↦ omega arith
    | inr (w, hw, qw, l, e) ↦ omega (arith, ends_by k w (omega arith) hw qw, Q.wide w hw)
  ]

  -- Nothing of a queue ends behind it.
  pub queue_end : (c : ℕ) → c < n → T (test c) → E c ≤ hi
  queue_end c = ends_by n c (omega arith)

  cover_by : (k c i : ℕ) → n ≤ c + k → c < n → T (test c) → P c ≤ i → i < hi → (d : ℕ) × (d < n) × T (test d) × (P d ≤ i) × (i < E d)
  cover_by zero c i g h q a b = absurd (omega arith)
  cover_by (suc k) c i g h q a b = elim (dec_lt i (E c)) [
    | yes l ↦ (c, h, q, a, l)
    | no l ↦ elim (Q.next c h q) [
      | inl e ↦ absurd (omega arith)
      | inr (w, hw, qw, r, e) ↦ cover_by k w i (omega arith) hw qw (omega arith) b
    ]
  ]

  -- Each place of a queue is in one of its fragments.
  pub queue_cover : (i : ℕ) → lo ≤ i → i < hi → (d : ℕ) × (d < n) × T (test d) × (P d ≤ i) × (i < E d)
  queue_cover i a b = elim Q.start [
    | inl e ↦ absurd (omega arith)
    | inr (w, hw, qw, e) ↦ cover_by n w i (omega arith) hw qw (omega arith) b
  ]

  -- Where no two overlap.
  module _ (apart : (c d : ℕ) → c < n → d < n → T (test c) → T (test d) → P c ≤ P d → P d < E c → c ≡ d) where
    after : (c d : ℕ) → c < n → d < n → T (test c) → T (test d) → P c < P d → E c ≤ P d
    after c d hc hd qc qd l = elim (dec_le (E c) (P d)) [
      | yes g ↦ g
      | no g ↦ absurd (omega (arith, ap P (apart c d hc hd qc qd (omega arith) (omega arith))))
    ]

    rises_by : (k c d : ℕ) → n ≤ c + k → c < n → d < n → T (test c) → T (test d) → P c < P d → c < d
    rises_by zero c d g hc hd qc qd l = absurd (omega arith)
    rises_by (suc k) c d g hc hd qc qd l =
        let a : E c ≤ P d = after c d hc hd qc qd l in
        elim (Q.next c hc qc) [
          | inl e ↦ absurd (omega (arith, queue_end d hd qd, Q.wide d hd))
          | inr (w, hw, qw, r, e) ↦ elim (dec_lt (P w) (P d)) [
            | yes m ↦ omega (arith, rises_by k w d (omega arith) hw hd qw qd m)
            | no m ↦ omega (arith, Q.same w d hw hd (omega arith))
          ]
        ]

    -- What is greater comes later.
    later : (c d : ℕ) → c < n → d < n → T (test c) → T (test d) → c < d → P c < P d
    later c d hc hd qc qd l = elim (dec_lt (P c) (P d)) [
      | yes g ↦ g
      | no g ↦ elim (ℕ_discrete (P d) (P c)) [
        | yes e ↦ absurd (omega (arith, Q.same d c hd hc e))
        | no e ↦ absurd (omega (arith, rises_by n d c (omega arith) hd hc qd qc (omega arith)))
      ]
    ]

    -- From the first on.
    left_start : ((w : ℕ) × Left n P E test lo 0 w) ⊎ Done n P E test lo hi 0
    left_start = elim Q.start [
      | inl e ↦ inr (record {
        ends = omega (arith, sum_zero (size_if P E test));
        none = λ d h g q. omega (arith, Q.low d h q, Q.wide d h, queue_end d h q);
      })
      | inr (w, h, q, e) ↦ inl (
        w,
        record {
          inside = h;
          passes = q;
          from = omega arith;
          begins = omega (arith, sum_zero (size_if P E test));
          none = λ d hd g l qd. omega (arith, Q.low d hd qd, later d w hd h qd q l);
        },
      )
    ]

    -- Past c, which is in the queue.
    left_next : (c : ℕ) → c < n → T (test c) → P c ≡ lo + sum (size_if P E test) c → ((w : ℕ) × Left n P E test lo (suc c) w) ⊎ Done n P E test lo hi (suc c)
    left_next c h q b =
        let s : E c ≡ lo + sum (size_if P E test) (suc c) = omega (arith, sum_suc (size_if P E test) c, size_yes P E test c q, Q.wide c h) in
        elim (Q.next c h q) [
          | inl e ↦ inr (record {
            ends = omega arith;
            none = λ d hd g qd. omega (arith, after c d h hd q qd (later c d h hd q qd (omega arith)), Q.wide d hd, queue_end d hd qd);
          })
          | inr (w, hw, qw, l, e) ↦ inl (
            w,
            record {
              inside = hw;
              passes = qw;
              from = omega arith;
              begins = omega arith;
              none = λ d hd g r qd. omega (arith, after c d h hd q qd (later c d h hd q qd (omega arith)), later d w hd hw qd qw r);
            },
          )
        ]

    left : (m : ℕ) → m < suc n → ((w : ℕ) × Left n P E test lo m w) ⊎ Done n P E test lo hi m
    left zero h = left_start
    left (suc m) h = elim (T_dec (test m)) [
      | yes q ↦ elim (left m (omega arith)) [
        | inl (w, W) ↦ elim (ℕ_discrete w m) [
          | yes e ↦ left_next m (omega arith) q (rw e at W.begins)
          | no d ↦ absurd (W.none m (omega arith) (omega arith) (omega (arith, W.from)) q)
        ]
        | inr D ↦ absurd (D.none m (omega arith) (omega arith) q)
      ]
      | no q ↦
          let s : sum (size_if P E test) (suc m) ≡ sum (size_if P E test) m = omega (arith, sum_suc (size_if P E test) m, size_no P E test m q) in
          elim (left m (omega arith)) [
            | inl (w, W) ↦ inl (
              w,
              record {
                inside = W.inside;
                passes = W.passes;
                from = elim (ℕ_discrete w m) [ yes e ↦ absurd (q (rw e at W.passes)) | no d ↦ omega (arith, W.from) ];
                begins = omega (arith, W.begins);
                none = λ d hd g. W.none d hd (omega arith);
              },
            )
            | inr D ↦ inr (record { ends = omega (arith, D.ends); none = λ d hd g. D.none d hd (omega arith) })
          ]
    ]

    -- Each begins where the sizes of the smaller ones add up to, and the queue ends where those of all do.
    pub queue_begins : (c : ℕ) → c < n → T (test c) → P c ≡ lo + sum (size_if P E test) c
    queue_begins c h q = elim (left c (omega arith)) [
      | inl (w, W) ↦ elim (ℕ_discrete w c) [
        | yes e ↦ rw e at W.begins
        | no d ↦ absurd (W.none c h (omega arith) (omega (arith, W.from)) q)
      ]
      | inr D ↦ absurd (D.none c h (omega arith) q)
    ]

    pub queue_sum : hi ≡ lo + sum (size_if P E test) n
    queue_sum = elim (left n (omega arith)) [
      | inl (w, W) ↦ absurd (omega (arith, W.inside, W.from))
      | inr D ↦ D.ends
    ]
