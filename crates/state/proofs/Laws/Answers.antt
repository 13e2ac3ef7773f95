-- What is told of an answer is told of no other.
-- Assumes nothing.
use Rattle.std.specs.Prelude.{ℕ, ◌≡◌, refl, Bool, true, false, List, length, T, Ok, Err}
use Rattle.std.proofs.Common.{sym, ap, ◌∙◌, subst, arith, ne_eqb}
use Rattle.std.proofs.Math.Decide.{ℕ_discrete}
use Rattle.base.specs.Pick.{pick, pick_all, tests}
use Rattle.base.specs.Truth.{T_dec, T_true, T_false, false_T}
use Rattle.base.specs.Answer.{Answer, refuses}
use Rattle.numbers.specs.declared.Refusal.{Refusal}
use Rattle.rules.specs.Building.{close_building}
use Rattle.state.specs.Layout.{tables_in}
use Rattle.state.specs.Test.{is_building}
use Rattle.state.specs.Call.{Left, refused, bounds_refusal, head_refusal, headed, leaves, moved}
use Rattle.state.specs.Close.{Ending, end_building, end_reading, close_in}
use Rattle.state.specs.Answers.{Asked, Ended, Judged, Taken, taken_told, closed_told, asked_told, judged_told}
use Rattle.state.specs.declared.State.{State}
use Rattle.state.specs.declared.Stage.{Stage}
use Rattle.state.specs.declared.Stage.TheVariants.{Built}
use Rattle.state.specs.declared.Closed.TheVariants.{More, Done, Read, False}

same_refusal : {A : Type 0} (r q : Refusal) → ◌≡◌ {A = Answer A} (refuses r.number r.place) (refuses q.number q.place) → r ≡ q
same_refusal r q e =
    let n : r.number ≡ q.number = cc in
    let p : r.place ≡ q.place = cc in
    λ i. record { number = n i; place = p i }

-- The questions.
pub asked_once : (a b : Asked) → asked_told a ≡ asked_told b → a ≡ b
asked_once (Ok x) (Ok y) e = cc
asked_once (Ok x) (Err q) e = cc
asked_once (Err r) (Ok y) e = cc
asked_once (Err r) (Err q) e = ap Err (same_refusal r q e)

pub judged_once : (a b : Judged) → judged_told a ≡ judged_told b → a ≡ b
judged_once (Ok x) (Ok y) e = cc
judged_once (Ok x) (Err q) e = cc
judged_once (Err r) (Ok y) e = cc
judged_once (Err r) (Err q) e = ap Err (same_refusal r q e)

-- Taking and opening.
same_taken : (s : State) (a b : Taken) (f g h i : List ℕ) → (taken_told s a f h).answer ≡ (taken_told s b g i).answer → (taken_told s a f h).state ≡ (taken_told s b g i).state → a ≡ b
same_taken s (Ok x) (Ok y) f g h i e q = ap Ok q
same_taken s (Ok x) (Err r) f g h i e q = cc
same_taken s (Err r) (Ok y) f g h i e q = cc
same_taken s (Err r) (Err q) f g h i e z = ap Err (same_refusal r q e)

taken_frag : (s : State) (a : Taken) (f h : List ℕ) → (taken_told s a f h).frag ≡ f
taken_frag s (Ok x) f h = refl
taken_frag s (Err r) f h = refl

taken_held : (s : State) (a : Taken) (f h : List ℕ) → (taken_told s a f h).held ≡ h
taken_held s (Ok x) f h = refl
taken_held s (Err r) f h = refl

pub taken_once : (s : State) (a b : Taken) (f g h i : List ℕ) → taken_told s a f h ≡ taken_told s b g i → (a ≡ b) × (f ≡ g) × (h ≡ i)
taken_once s a b f g h i e = (
  same_taken s a b f g h i (ap (λ (x : Left (Unit {0})). x.answer) e) (ap (λ (x : Left (Unit {0})). x.state) e),
  sym (taken_frag s a f h) ∙ ap (λ (x : Left (Unit {0})). x.frag) e ∙ taken_frag s b g i,
  sym (taken_held s a f h) ∙ ap (λ (x : Left (Unit {0})). x.held) e ∙ taken_held s b g i,
)

-- Closing: refusal 9 is told by False alone, and not by a plain refusal that carries its number.
pub nine : Ended → Type 0
nine (Ok (More x)) = ⊥
nine (Ok (Done x)) = ⊥
nine (Ok (Read x)) = ⊥
nine (Ok (False x)) = ⊥
nine (Err r) = r.number ≡ 9

same_closed : (s : State) (a b : Ended) (f g h i : List ℕ) → (nine a → ⊥) → (nine b → ⊥) → (closed_told s a f h).answer ≡ (closed_told s b g i).answer → (closed_told s a f h).state ≡ (closed_told s b g i).state → a ≡ b
unfolding nine
same_closed s (Ok (More x)) (Ok (More y)) f g h i m n e q = ap (λ x. Ok (More x)) q
same_closed s (Ok (More x)) (Ok (Done y)) f g h i m n e q = cc
same_closed s (Ok (More x)) (Ok (Read y)) f g h i m n e q = cc
same_closed s (Ok (More x)) (Ok (False y)) f g h i m n e q = cc
same_closed s (Ok (More x)) (Err r) f g h i m n e q = cc
same_closed s (Ok (Done x)) (Ok (More y)) f g h i m n e q = cc
same_closed s (Ok (Done x)) (Ok (Done y)) f g h i m n e q = ap (λ x. Ok (Done x)) q
same_closed s (Ok (Done x)) (Ok (Read y)) f g h i m n e q = cc
same_closed s (Ok (Done x)) (Ok (False y)) f g h i m n e q = cc
same_closed s (Ok (Done x)) (Err r) f g h i m n e q = cc
same_closed s (Ok (Read x)) (Ok (More y)) f g h i m n e q = cc
same_closed s (Ok (Read x)) (Ok (Done y)) f g h i m n e q = cc
same_closed s (Ok (Read x)) (Ok (Read y)) f g h i m n e q = ap (λ x. Ok (Read x)) q
same_closed s (Ok (Read x)) (Ok (False y)) f g h i m n e q = cc
same_closed s (Ok (Read x)) (Err r) f g h i m n e q = cc
same_closed s (Ok (False x)) (Ok (More y)) f g h i m n e q = cc
same_closed s (Ok (False x)) (Ok (Done y)) f g h i m n e q = cc
same_closed s (Ok (False x)) (Ok (Read y)) f g h i m n e q = cc
same_closed s (Ok (False x)) (Ok (False y)) f g h i m n e q = ap (λ x. Ok (False x)) q
same_closed s (Ok (False x)) (Err r) f g h i m n e q = let z : 9 ≡ r.number = cc in absurd (n (sym z))
same_closed s (Err r) (Ok (More y)) f g h i m n e q = cc
same_closed s (Err r) (Ok (Done y)) f g h i m n e q = cc
same_closed s (Err r) (Ok (Read y)) f g h i m n e q = cc
same_closed s (Err r) (Ok (False y)) f g h i m n e q = let z : r.number ≡ 9 = cc in absurd (m z)
same_closed s (Err r) (Err t) f g h i m n e q = ap Err (same_refusal r t e)

closed_frag : (s : State) (a : Ended) (f h : List ℕ) → (closed_told s a f h).frag ≡ f
closed_frag s (Ok (More x)) f h = refl
closed_frag s (Ok (Done x)) f h = refl
closed_frag s (Ok (Read x)) f h = refl
closed_frag s (Ok (False x)) f h = refl
closed_frag s (Err r) f h = refl

closed_held : (s : State) (a : Ended) (f h : List ℕ) → (closed_told s a f h).held ≡ h
closed_held s (Ok (More x)) f h = refl
closed_held s (Ok (Done x)) f h = refl
closed_held s (Ok (Read x)) f h = refl
closed_held s (Ok (False x)) f h = refl
closed_held s (Err r) f h = refl

pub closed_once : (s : State) (a b : Ended) (f g h i : List ℕ) → (nine a → ⊥) → (nine b → ⊥) → closed_told s a f h ≡ closed_told s b g i → (a ≡ b) × (f ≡ g) × (h ≡ i)
closed_once s a b f g h i m n e = (
  same_closed s a b f g h i m n (ap (λ (x : Left Ending). x.answer) e) (ap (λ (x : Left Ending). x.state) e),
  sym (closed_frag s a f h) ∙ ap (λ (x : Left Ending). x.frag) e ∙ closed_frag s b g i,
  sym (closed_held s a f h) ∙ ap (λ (x : Left Ending). x.held) e ∙ closed_held s b g i,
)

-- A call that is refused at its head, and one that is not.
module _ {A : Type 0} (allowed : Stage → Bool) (s : State) (f h : List ℕ) (rest : Left A) (r : ℕ) (e : r ≡ head_refusal allowed s f h) where
  pub headed_refused : (r ≡ 0 → ⊥) → refused s f h r 0 ≡ headed allowed s f h rest
  unfolding headed
  headed_refused d = rw (← e) (simp tests)

  pub headed_passed : r ≡ 0 → rest ≡ headed allowed s f h rest
  unfolding headed
  headed_passed d = rw (← e) (simp tests)

-- The head gives no refusal 9.
Other : ℕ → Type 0
Other x = x ≡ 9 → ⊥

bounds_other : (n k a b : ℕ) → Other (bounds_refusal n k a b)
unfolding bounds_refusal Other
bounds_other n k a b = pick_all Other _ 1 _ (λ e. omega arith) (pick_all Other _ 2 _ (λ e. omega arith) (pick_all Other _ 3 0 (λ e. omega arith) (λ e. omega arith)))

head_other : (allowed : Stage → Bool) (s : State) (f h : List ℕ) → Other (head_refusal allowed s f h)
unfolding head_refusal Other
head_other allowed s f h =
    pick_all Other _ _ _ (bounds_other s.n s.k (length f) (length h))
    (pick_all Other _ 6 _ (λ e. omega arith) (pick_all Other _ 11 0 (λ e. omega arith) (λ e. omega arith)))

-- A close that goes on past its head and gives refusal 9 goes back to Built.
Back : ℕ → Left Ending → Type 0
Back p x = x.answer ≡ refuses 9 p → x.state.stage ≡ Built

ends_back : (p : ℕ) (s : State) (f h : List ℕ) → Back p (pick (is_building s.stage) (end_building s (close_building s.n (tables_in s f h)) f h) (end_reading s (tables_in s f h) f h))
unfolding Back end_building end_reading leaves moved
ends_back p s f h =
    pick_all (Back p) (is_building s.stage) _ _
    (pick_all (Back p) _ _ _ (λ e. cc) (λ e. cc))
    (pick_all (Back p) _ _ _ (λ e. cc) (λ e. refl))

head_allows : (allowed : Stage → Bool) (s : State) (f h : List ℕ) → head_refusal allowed s f h ≡ 0 → allowed s.stage ≡ true
unfolding head_refusal
head_allows allowed s f h z = elim (ℕ_discrete (bounds_refusal s.n s.k (length f) (length h)) 0) [
  | no d ↦ absurd (d (simp tests at (rw (ne_eqb (bounds_refusal s.n s.k (length f) (length h)) 0 d) at z)))
  | yes e ↦ elim (T_dec (allowed s.stage)) [
    | yes t ↦ T_true (allowed s.stage) t
    | no t ↦ absurd (omega (arith, simp tests at (rw (e, T_false (allowed s.stage) t) at z)))
  ]
]

-- So a plain refusal that meets close's promise has another number, where the call is not allowed in Built.
pub close_other : (allowed : Stage → Bool) → allowed Built ≡ false → (s : State) (f h f' h' : List ℕ) (a : Ended) → closed_told s a f' h' ≡ close_in allowed s f h → nine a → ⊥
unfolding nine close_in Back Other
close_other allowed b s f h f' h' (Ok (More x)) e n = n
close_other allowed b s f h f' h' (Ok (Done x)) e n = n
close_other allowed b s f h f' h' (Ok (Read x)) e n = n
close_other allowed b s f h f' h' (Ok (False x)) e n = n
close_other allowed b s f h f' h' (Err r) e n = elim (ℕ_discrete (head_refusal allowed s f h) 0) [
  | no d ↦
      let q = ap (λ (x : Left Ending). x.answer) (e ∙ sym (headed_refused allowed s f h _ _ refl d)) in
      let g : r.number ≡ head_refusal allowed s f h = cc in
      head_other allowed s f h (sym g ∙ n)
  | yes z ↦
      let q = e ∙ sym (headed_passed allowed s f h _ _ refl z) in
      let back = ends_back r.place s f h (sym (ap (λ (x : Left Ending). x.answer) q) ∙ ap (λ m. refuses m r.place) n) in
      let built : s.stage ≡ Built = ap (λ (x : Left Ending). x.state.stage) q ∙ back in
      false_T (allowed Built) b (subst T (sym (head_allows allowed s f h z) ∙ ap allowed built) tt)
]
