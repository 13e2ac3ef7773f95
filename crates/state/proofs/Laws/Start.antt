-- The answers of start, and what a cleared table holds.
-- Assumes nothing.
use Rattle.std.specs.Prelude.{ℕ, ◌-◌, ◌*◌, ◌≤◌, ◌<◌, ◌≡◌, refl, List, ◌++◌, length, drop, replicate, Ok, Err}
use Rattle.std.proofs.Common.{sym, ap, ◌∙◌, arith}
use Rattle.std.proofs.lemmas.List.{length-replicate}
use Rattle.base.specs.Pick.{tests}
use Rattle.rules.specs.Tables.{fresh, placed, parent_of}
use Rattle.rules.specs.Building.{done}
use Rattle.rules.proofs.Laws.Links.{linked_nil}
use Rattle.rules.proofs.Laws.Tables.{fresh_standing, fresh_rested, fresh_loose, placed_loose, getD_zeros}
use Rattle.rules.proofs.Laws.Search.{every_at}
use Rattle.state.specs.Layout.{wiped, words, tables_in, frag_of, held_of}
use Rattle.state.specs.Call.{Begun, bounds_refusal}
use Rattle.state.specs.Start.{started, start_call}
use Rattle.state.specs.Answers.{Started, begun_told}
use Rattle.state.proofs.Laws.Lists.{zeros}
use Rattle.state.proofs.Laws.Clear.{wiped_is}
use Rattle.state.proofs.Laws.Behind.{behind_plain}
use Rattle.state.proofs.Laws.Lay.{tables_laid}
use Rattle.state.proofs.Laws.Sound.{Agrees}
use Rattle.state.proofs.Laws.Keeps.{rested_agrees}
use Rattle.state.specs.declared.State.{State}
use Rattle.state.specs.declared.Stage.TheVariants.{Building}

-- Cleared from the first word on.
first_wiped : (m : ℕ) (l : List ℕ) → m ≤ length l → wiped 0 m l ≡ replicate m 0 ++ drop m l
first_wiped m l h = let e : m - 0 ≡ m = omega arith in wiped_is 0 m l (omega arith) h ∙ ap (λ i. replicate i 0 ++ drop m l) e

pub frag_fresh : (n : ℕ) (f : List ℕ) → words * n ≤ length f → wiped 0 (words * n) f ≡ frag_of Building n (fresh n) f
unfolding frag_of fresh
frag_fresh n f h =
    first_wiped (16 * n) f h ∙
    zeros n (15 * n) (16 * n) (drop (16 * n) f) (omega arith) ∙ ap (λ l. replicate {A = ℕ} n 0 ++ l)
    (zeros n (14 * n) (15 * n) (drop (16 * n) f) (omega arith) ∙ ap (λ l. replicate {A = ℕ} n 0 ++ l)
    (zeros n (13 * n) (14 * n) (drop (16 * n) f) (omega arith) ∙ ap (λ l. replicate {A = ℕ} n 0 ++ l)
    (zeros n (12 * n) (13 * n) (drop (16 * n) f) (omega arith) ∙ ap (λ l. replicate {A = ℕ} n 0 ++ (l ++ drop (16 * n) f)) (sym (behind_plain n (fresh n) Building (λ b. b))))))

pub held_fresh : (n k : ℕ) (h : List ℕ) → k * n ≤ length h → wiped 0 (k * n) h ≡ held_of n k (fresh n) h
unfolding held_of fresh
held_fresh n k h l = let e : k * n ≡ k * n - 0 = omega arith in first_wiped (k * n) h l ∙ ap (λ m. replicate {A = ℕ} m 0 ++ drop (k * n) h) e

-- The two answers of a call that begins a state.
module _ (n k : ℕ) (f h : List ℕ) where
  pub start_refused : (r : ℕ) → r ≡ bounds_refusal n k (length f) (length h) → (r ≡ 0 → ⊥) → begun_told (Err (record { number = r; place = 0 })) f h ≡ start_call n k f h
  unfolding start_call
  start_refused r e p = rw (← e) (simp tests)

  pub start_ready : bounds_refusal n k (length f) (length h) ≡ 0 → (s : State) → s ≡ started n k → (f' h' : List ℕ) → f' ≡ frag_of Building n (fresh n) f → h' ≡ held_of n k (fresh n) h → begun_told (Ok s) f' h' ≡ start_call n k f h
  unfolding start_call
  start_ready e s a f' h' p q = rw (e, a, p, q) (simp tests)

no_parent : (n v : ℕ) → parent_of (fresh n) v ≡ 0
unfolding fresh parent_of
no_parent n v = getD_zeros n v

-- The tables of a fresh start agree with its state.
pub fresh_agrees : (n k : ℕ) → 0 < n → 0 < k → Agrees (started n k) (fresh n)
unfolding fresh done
fresh_agrees n k p q =
    rested_agrees (started n k) (fresh n) (fresh_standing n) (fresh_rested n) q refl refl refl (omega arith) (λ v l e. no_parent n v)
    (λ b t. placed_loose (fresh n) 0 (every_at (placed (fresh n)) n t 0 p) (fresh_loose n 0)) (λ b. absurd (b tt)) (λ b. b)

pub fresh_laid : (n k : ℕ) (f h : List ℕ) → tables_in (started n k) (frag_of Building n (fresh n) f) (held_of n k (fresh n) h) ≡ fresh n
unfolding fresh
fresh_laid n k f h =
    let l : length (replicate {A = ℕ} n 0) ≡ n = length-replicate n 0 in
    tables_laid (started n k) (fresh n) f h l l l l refl (λ u v t. absurd (linked_nil u v t)) refl

-- An answer is decided by what it tells.
same_answer : (a b : Started) (f g h i : List ℕ) → (begun_told a f h).answer ≡ (begun_told b g i).answer → a ≡ b
same_answer (Ok s) (Ok t) f g h i e = cc
same_answer (Ok s) (Err r) f g h i e = cc
same_answer (Err r) (Ok s) f g h i e = cc
same_answer (Err r) (Err q) f g h i e =
    let p : r.number ≡ q.number = cc in
    let l : r.place ≡ q.place = cc in
    λ j. Err (record { number = p j; place = l j })

same_frag : (a : Started) (f h : List ℕ) → (begun_told a f h).frag ≡ f
same_frag (Ok s) f h = refl
same_frag (Err r) f h = refl

same_held : (a : Started) (f h : List ℕ) → (begun_told a f h).held ≡ h
same_held (Ok s) f h = refl
same_held (Err r) f h = refl

pub told_once : (a b : Started) (f g h i : List ℕ) → begun_told a f h ≡ begun_told b g i → (a ≡ b) × (f ≡ g) × (h ≡ i)
told_once a b f g h i e = (
  same_answer a b f g h i (ap (λ (x : Begun). x.answer) e),
  sym (same_frag a f h) ∙ ap (λ (x : Begun). x.frag) e ∙ same_frag b g i,
  sym (same_held a f h) ∙ ap (λ (x : Begun). x.held) e ∙ same_held b g i,
)
