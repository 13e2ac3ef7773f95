-- Where those below each fragment end, and whose each turn is.
-- Assumes nothing.
use Rattle.std.specs.Prelude.{ℕ, ◌+◌, ◌*◌, ◌<◌, ◌≡◌, refl, List, ◌≢◌, length, get_or, set}
use Rattle.std.proofs.Common.{sym, ap, ◌∙◌, arith, get_or-set_same, get_or-set_other}
use Rattle.std.proofs.Math.Decide.{ℕ_discrete}
use Rattle.rules.specs.Tables.{Tables}
use Rattle.rules.specs.Numbers.{below, turn, end, at_turn}
use Rattle.rules.proofs.Laws.Numbers.{turn_in_lem, turn_one, turn_at_lem}
use Rattle.state.specs.Layout.{forest_in}
use Rattle.testing.specs.Whole.{Whole}
use Rattle.testing.specs.Laws.Whole.{levels}
use Rattle.testing.specs.Laws.Only.{only_refl, only_more}
use Rattle.numbering.specs.Passes.{Turned, Ends}
use Rattle.numbering.specs.Laws.Sizes.{below_most}

end_is : (n : ℕ) (t : Tables) (v : ℕ) → end n t v ≡ turn n t v + below n t v
unfolding end
end_is n t v = refl

pub ends_none : (n : ℕ) (f : List ℕ) → Ends n 0 f f
ends_none n f = record { only = only_refl (5 * n) (7 * n) f; ends = λ v h. absurd (omega arith); whose = λ v h. absurd (omega arith) }

module _ {n k : ℕ} {f g : List ℕ} (r : Turned n f) (p : Ends n k f g) (h : k < n) where
  turn_word : get_or g (4 * n + k) 0 ≡ turn n (forest_in n f) k
  turn_word = p.only.before (4 * n + k) (omega arith) ∙ r.turns k h

  pub ends_turn_small : get_or g (4 * n + k) 0 < n
  ends_turn_small = rw turn_word (turn_in_lem n (forest_in n f) (levels r.whole) k h)

  size_word : get_or g (9 * n + k) 0 + 1 ≡ below n (forest_in n f) k
  size_word = omega (arith, p.only.behind (9 * n + k) (omega arith), r.sizes k h)

  pub ends_size_small : get_or g (9 * n + k) 0 < n
  ends_size_small = omega (arith, size_word, below_most n (forest_in n f) k)

  ends_by : (x y : ℕ) → x ≡ turn n (forest_in n f) k → y ≡ end n (forest_in n f) k → Ends n (k + 1) f (set (set g (5 * n + k) y) (6 * n + x) k)
  ends_by x y ex ey =
      let t = forest_in n f in
      let L = levels r.whole in
      let hx : x < n = rw ex (turn_in_lem n t L k h) in
      let one = only_more p.only (5 * n + k) y (omega arith) (omega arith) in
      let long : 6 * n + x < length g = omega (arith, r.whole.long, p.only.long) in
      record {
        only = only_more one (6 * n + x) k (omega arith) (omega arith);
        ends = λ v l. get_or-set_other (set g (5 * n + k) y) (6 * n + x) (5 * n + v) k 0 (omega arith) ∙ (elim (ℕ_discrete v k) [
          | yes z ↦ rw z (get_or-set_same g (5 * n + k) y 0 (omega arith) ∙ ey)
          | no d ↦ get_or-set_other g (5 * n + k) (5 * n + v) y 0 (omega arith) ∙ p.ends v (omega arith)
        ]);
        whose = λ v l. elim (ℕ_discrete v k) [
          | yes z ↦ rw (z, ← ex) (get_or-set_same (set g (5 * n + k) y) (6 * n + x) k 0 (omega (arith, one.long, p.only.long)))
          | no d ↦
              let a : turn n t v ≢ x = λ e. d (turn_one n t L v k (omega arith) h (e ∙ ex)) in
              get_or-set_other (set g (5 * n + k) y) (6 * n + x) (6 * n + turn n t v) k 0 (omega arith)
              ∙ get_or-set_other g (5 * n + k) (6 * n + turn n t v) y 0 (omega arith) ∙ p.whose v (omega arith)
        ];
      }

  pub ends_turn : (x : ℕ) → x ≡ get_or g (4 * n + k) 0 → Ends n (k + 1) f (set (set g (5 * n + k) (get_or g (4 * n + k) 0 + get_or g (9 * n + k) 0 + 1)) (6 * n + x) k)
  ends_turn x e = ends_by x _ (e ∙ turn_word) (omega (arith, turn_word, size_word, end_is n (forest_in n f) k))

pub ends_all : {n k : ℕ} {f g : List ℕ} → k ≡ n → Ends n k f g → Ends n n f g
ends_all {n} {k} {f} {g} e p = rw e at p

-- Each turn is some fragment's.
pub ends_whose : {n : ℕ} {f g : List ℕ} → Whole n f → Ends n n f g → (i : ℕ) → i < n → get_or g (6 * n + i) 0 ≡ at_turn n (forest_in n f) i
ends_whose {n} {f} {g} w p i h =
    let t = forest_in n f in
    let (l, e) = turn_at_lem n t (levels w) i h in
    ap (λ (x : ℕ). get_or g (6 * n + x) 0) (sym e) ∙ p.whose (at_turn n t i) l
