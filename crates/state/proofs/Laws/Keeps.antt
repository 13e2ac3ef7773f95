-- What passes the test, and what the head of a call gives: the part that the calls have in common.
-- Assumes nothing.
use Prim.Native.Nat.{ℕ, suc, ◌*◌, ◌≤◌, ◌<◌}
use Rattle.std.specs.Prelude.{◌≡◌, Bool, true, false, not, List, ◌≢◌, ◌↔◌, T, eqb, length, take, drop}
use Rattle.std.proofs.Math.Path.{refl}
use Rattle.std.proofs.Common.{sym, ap, ◌∙◌, inl, arith, eq-eqb, ne_eqb}
use Rattle.std.proofs.Math.Decide.{ℕ_discrete, dec_lt}
use Rattle.std.proofs.Math.ListN.{get_or-eq_default}
use Rattle.base.specs.Pick.{pick, pick_true, pick_false, pick_all}
use Rattle.base.specs.Truth.{and_intro, T_true, T_false}
use Rattle.rules.specs.Search.{count}
use Rattle.rules.specs.Tables.{Tables, parent_of, mark_of, placed, put_mark}
use Rattle.rules.specs.Building.{done}
use Rattle.rules.proofs.Laws.Facts.{Standing, Rested, Loose}
use Rattle.rules.proofs.Laws.Step.{rested_underway}
use Rattle.rules.proofs.Laws.Tables.{rested_note, rested_mark, same_mark_of, mark_of_put_mark_same, mark_of_put_mark_other, put_mark_length}
use Rattle.state.specs.Layout.{words, tables_in, frag_of, held_of}
use Rattle.state.specs.Test.{is_building, is_read, all_zero, ends_fit, rest_zero, sound}
use Rattle.state.specs.Call.{bounds_refusal, Left, refused, head_refusal, headed}
use Rattle.state.proofs.Laws.Bounds.{Bounds, bounds_known, within_bounds}
use Rattle.state.proofs.Laws.Behind.{behind_made}
use Rattle.state.proofs.Laws.Lay.{frag_length, held_length}
use Rattle.state.proofs.Laws.Agrees.{fits_made}
use Rattle.state.proofs.Laws.Made.{clauses_made}
use Rattle.state.proofs.Laws.Sound.{Agrees, Sound, sound_known, sound_laid}
use Rattle.state.specs.declared.State.{State}
use Rattle.state.specs.declared.Stage.{Stage}

-- The facts are exactly what the test asks.
sound_made : (s : State) (f h : List ℕ) → words * s.n ≤ length f → Sound s f h → T (sound s f h)
unfolding sound rest_zero
sound_made s f h l S =
    let (z, x) = behind_made s (tables_in s f h) f l S.back in
    fits_made s (tables_in s f h) f h (clauses_made s (tables_in s f h) S.agrees)
    (and_intro (all_zero (drop s.held (take (s.k * s.n) h))) _ S.unused z) x

pub sound_exact : (s : State) (f h : List ℕ) → Bounds s.n s.k (length f) (length h) → T (sound s f h) ↔ Sound s f h
sound_exact s f h b = (sound_known s f h b, sound_made s f h b.frag_long)

-- 'passes this test': no refusal of 1, 2, 3 and 11 is due.
pub record Passes (s : State) (f h : List ℕ) : Type 0 where
  pub in_bounds : bounds_refusal s.n s.k (length f) (length h) ≡ 0
  pub tested : T (sound s f h)

-- Tables that agree with a state, laid out, pass the test.
pub laid_passes : (s : State) (t : Tables) (f h : List ℕ) → Agrees s t → Bounds s.n s.k (length f) (length h) → Passes s (frag_of s.stage s.n t f) (held_of s.n s.k t h)
laid_passes s t f h a b =
    let S = a.standing in
    record {
      in_bounds = rw (
        frag_length s.stage s.n t f S.long_parent S.long_level S.long_note S.long_mark b.frag_long,
        held_length s.n s.k t h (omega (arith, a.as_many, a.held_room)) b.held_long,
      ) (sym (within_bounds s.n s.k (length f) (length h) (omega arith) b.fragments (omega arith) b.room b.frag_long b.held_long));
      tested = sound_laid s t f h b.fragments a b.frag_long;
    }

-- What the head of a call gives where it refuses nothing.
pub record Head (allowed : Stage → Bool) (s : State) (f h : List ℕ) : Type 0 where
  pub bounds : Bounds s.n s.k (length f) (length h)
  pub allows : T (allowed s.stage)
  pub passes : Passes s f h
  pub agrees : Agrees s (tables_in s f h)

-- Where a ladder of refusals ends with none due, no rung of it was.
pub none_due : (r rest : ℕ) → pick (not (eqb r 0)) r rest ≡ 0 → (r ≡ 0) × (rest ≡ 0)
none_due r rest e = elim (ℕ_discrete r 0) [
  | yes z ↦ (z, sym (rw (eq-eqb r 0 z) (pick_false _ _)) ∙ e)
  | no d ↦ absurd (d (sym (rw (ne_eqb r 0 d) (pick_true _ _)) ∙ e))
]

pub rung : (test : Bool) (m rest : ℕ) → pick test (suc m) rest ≡ 0 → (T test → ⊥) × (rest ≡ 0)
unfolding pick
rung true m rest e = absurd (omega arith)
rung false m rest e = (λ t. t, e)

pub rung_not : (test : Bool) (m rest : ℕ) → pick (not test) (suc m) rest ≡ 0 → T test × (rest ≡ 0)
unfolding pick
rung_not true m rest e = (tt, e)
rung_not false m rest e = absurd (omega arith)

bounds_other : (n k frags helds : ℕ) → bounds_refusal n k frags helds ≢ 9
unfolding bounds_refusal
bounds_other n k frags helds =
    let P : ℕ → Type 0 = λ x. x ≢ 9 in
    pick_all P _ 1 _ (omega arith) (pick_all P _ 2 _ (omega arith) (pick_all P _ 3 0 (omega arith) (omega arith)))

module _ (allowed : Stage → Bool) (s : State) (f h : List ℕ) where
  abbrev due : ℕ
  due = bounds_refusal s.n s.k (length f) (length h)

  -- What passes the test meets no refusal at the head of a call that its stage allows, and 6 at any other.
  pub headed_on : {A : Type 0} → Passes s f h → T (allowed s.stage) → (rest : Left A) → headed allowed s f h rest ≡ rest
  unfolding headed head_refusal pick
  headed_on p a rest = rw (p.in_bounds, T_true (allowed s.stage) a, T_true (sound s f h) p.tested) refl

  pub headed_off : {A : Type 0} → Passes s f h → (T (allowed s.stage) → ⊥) → (rest : Left A) → headed allowed s f h rest ≡ refused s f h 6 0
  unfolding headed head_refusal pick
  headed_off p a rest = rw (p.in_bounds, T_false (allowed s.stage) a) refl

  pub head_passes : Passes s f h → T (allowed s.stage) → Head allowed s f h
  head_passes p a =
      let b = bounds_known s.n s.k (length f) (length h) p.in_bounds in
      record { bounds = b; allows = a; passes = p; agrees = (sound_known s f h b p.tested).agrees }

  pub head_known : head_refusal allowed s f h ≡ 0 → Head allowed s f h
  unfolding head_refusal
  head_known e =
      let (z, e1) = none_due due _ e in
      let (a, e2) = rung_not (allowed s.stage) 5 _ e1 in
      let (t, e3) = rung_not (sound s f h) 10 0 e2 in
      head_passes (record { in_bounds = z; tested = t }) a

  -- The head never refuses with 9.
  head_other : head_refusal allowed s f h ≢ 9
  unfolding head_refusal
  head_other =
      let P : ℕ → Type 0 = λ x. x ≢ 9 in
      pick_all P _ due _ (bounds_other s.n s.k (length f) (length h)) (pick_all P _ 6 _ (omega arith) (pick_all P _ 11 0 (omega arith) (omega arith)))

  -- What holds of what the call goes on to, and of every refusal at its head, holds of the call.
  pub headed_all : {A : Type 0} (P : Left A → Type 0) (rest : Left A) → (Head allowed s f h → P rest) → ((r : ℕ) → r ≢ 9 → P (refused s f h r 0)) → P (headed allowed s f h rest)
  unfolding headed
  headed_all P rest on out = elim (ℕ_discrete (head_refusal allowed s f h) 0) [
    | yes e ↦ rw (eq-eqb (head_refusal allowed s f h) 0 e, pick_true) (on (head_known e))
    | no d ↦ rw (ne_eqb (head_refusal allowed s f h) 0 d, pick_false) (out (head_refusal allowed s f h) head_other)
  ]

-- What a call leaves passes the test.
abbrev pub Stands : {A : Type 0} → Left A → Type 0
Stands l = Passes l.state l.frag l.held

-- 'leaves state and tables as found'
abbrev pub AsFound : {A : Type 0} → State → List ℕ → List ℕ → Left A → Type 0
AsFound s f h l = (l.state ≡ s) × (l.frag ≡ f) × (l.held ≡ h)

-- Marks are 0 or 1, and stay so.
abbrev pub Bits : ℕ → Tables → Type 0
Bits n t = (v : ℕ) → v < n → mark_of t v ≤ 1

pub mark_bits : {n : ℕ} (v : ℕ) (t : Tables) → Bits n t → Bits n (put_mark v t)
unfolding mark_of
mark_bits v t b u l = elim (ℕ_discrete u v) [
  | yes e ↦ elim (dec_lt v (length t.mark)) [
    | yes h ↦ rw e (omega (arith, mark_of_put_mark_same v t h))
    | no h ↦ rw e (omega (arith, get_or-eq_default (put_mark v t).mark 0 {n = v} (omega (arith, put_mark_length v t))))
  ]
  | no e ↦ omega (arith, mark_of_put_mark_other v t u e, b u l)
]

pub bits_same : {n : ℕ} (s t : Tables) → s.mark ≡ t.mark → Bits n t → Bits n s
bits_same s t e b v l = omega (arith, same_mark_of s t e v, b v l)

-- Tables at rest, as start, adopt, open reading, a Building close and refusal 9 leave them.
module _ (s : State) (t : Tables) (S : Standing s.n t) (R : Rested s.n t) where
  none_ends : T (ends_fit s.n t t.held)
  unfolding ends_fit
  none_ends = rw R.no_held tt

  pub rested_agrees : 1 ≤ s.k → s.held ≡ 0 → s.crossed ≡ false → s.entries ≡ 0 → s.passes ≤ suc (count (placed t) s.n)
      → ((v : ℕ) → v < s.n → Loose t v → parent_of t v ≡ 0)
      → (T (is_building s.stage) → T (done s.n t) → ⊥) → ((T (is_building s.stage) → ⊥) → (v : ℕ) → v < s.n → T (placed t v))
      → (T (is_read s.stage) → ⊥) → Agrees s t
  rested_agrees k e c z p o u w r =
      let U = rested_underway s.n s.k t k S R in
      record {
        standing = S;
        as_many = e ∙ sym (ap length R.no_held);
        as_crossed = c ∙ sym R.no_cross;
        ends_fit_lem = none_ends;
        holding = U.holding;
        held_room = omega arith;
        entries_few = omega arith;
        passes_few = p;
        mark_bit = λ v l. omega (arith, rested_mark R v);
        loose_parent = o;
        unfinished = u;
        noting = λ b. U.noting;
        mark_loose = λ b v l. inl (rested_mark R v);
        all_placed = w;
        none_held = λ b. e;
        rested = λ b. R;
        no_entries = λ b. z;
        low = λ b v l. omega (arith, rested_note R v);
        mark_child = λ b v l. inl (rested_mark R v);
        whole = λ b. absurd (r b);
        uncrossed = λ b. c;
      }
