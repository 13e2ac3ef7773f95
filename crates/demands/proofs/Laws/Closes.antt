-- What close answers: of any state and tables where it refuses, and at the moments of runs.
-- Assumes nothing.
use Rattle.std.specs.Prelude.{ℕ, ◌≡◌, List, ◌≢◌, ◌↔◌, T, Ok, Err}
use Rattle.std.proofs.Common.{sym, ap, ◌∙◌, subst, eqb→eq}
use Rattle.base.specs.Answer.{refuses}
use Rattle.base.specs.Truth.{T_dec}
use Rattle.numbers.specs.declared.Refusal.{Refusal}
use Rattle.lists.specs.Laws.Link.{never_both}
use Rattle.rules.specs.Links.{linked}
use Rattle.rules.specs.Forest.{DepthFirst}
use Rattle.rules.specs.Tables.{par}
use Rattle.rules.specs.Reading.{accepted}
use Rattle.state.specs.Close.{close_call}
use Rattle.state.proofs.Laws.KeepsCalls.{close_keeps}
use Rattle.state.proofs.Laws.KeepsTables.{reads_settled}
use Rattle.state.specs.declared.State.{State}
use Rattle.state.specs.declared.Closed.TheVariants.{False}
use Rattle.demands.specs.Promises.{CloseAnswer, ends_building, ends_read, ends_false, changes}
use Rattle.demands.specs.Run.{Origin, close, Moment, next, CloseAt, fragments, tables_at}
use Rattle.demands.specs.Claims.{InBuilding, InReading, InRead, NotesLost}
use Rattle.demands.proofs.Laws.Refusals.{close_loses, nine_at}
use Rattle.demands.proofs.Laws.Answered.{next_step, closed_refused, closed_false, closed_building, closed_read, false_nine, nine_false}
use Rattle.demands.proofs.Laws.Runs.{Holds}
use Rattle.demands.proofs.Laws.Results.{building_told, accepts_exactly, close_read, close_false, read_next}
use Rattle.state.specs.Answers.{Ended}

module _ (s : State) (f h : List ℕ) (a : CloseAnswer s f h) where
  -- A plain refusal is none of those that change something.
  pub close_refused : (r : Refusal) → a.answer ≡ Err r → (T (changes r.number) → ⊥) × (a.frag ≡ f) × (a.held ≡ h)
  close_refused r e =
      let (x, p, q) = closed_refused a r e in
      let other : r.number ≢ 9 = λ z.
      let y : (close_call s f h).answer ≡ refuses 9 r.place = x ∙ ap (λ (i : ℕ). refuses i r.place) z in
      subst (λ (t : Ended). T (ends_false t)) e (nine_false s f h a (y ∙ ap (refuses 9) (nine_at s f h r.place y))) in
      let (_, u, v) = (close_keeps s f h).same _ _ other x in
      (λ t. other (eqb→eq r.number 9 t), p ∙ u, q ∙ v)

  pub close_lost : (s' : State) → a.answer ≡ Ok (False s') → NotesLost s f h s' a.frag a.held
  close_lost s' e =
      let (x, i, p, q) = closed_false a s' e in
      let L = (close_loses s f h 0 x).1 in
      record { was_reading = L.was_reading; state_after = i ∙ L.state_after; frag_before = L.frag_before; frag_after = p ∙ L.frag_after; held_after = q ∙ L.held_after }

module _ {o : Origin} {m : Moment} (H : Holds o m) where
  pub building_closes : InBuilding m → (a : CloseAt m) → T (ends_building a.answer)
  building_closes b a = subst T (sym (closed_building a)) (building_told H b)

  module _ (c : InReading m) (a : CloseAt m) where
    pub close_exactly : T (ends_read a.answer) ↔ DepthFirst (fragments o) (par (tables_at m)) (linked m.telling)
    close_exactly =
        let A = accepts_exactly H (reads_settled m.state.stage c) in (
          (λ t. elim (T_dec (accepted (fragments o) (tables_at m))) [ yes x ↦ A.0 x | no x ↦ absurd (never_both ((closed_read a).1 t) (close_false H c x)) ]),
          (λ d. (closed_read a).0 (close_read H c (A.1 d))),
        )

    pub false_exactly : T (ends_false a.answer) ↔ (DepthFirst (fragments o) (par (tables_at m)) (linked m.telling) → ⊥)
    false_exactly =
        let A = accepts_exactly H (reads_settled m.state.stage c) in (
          (λ t d. never_both (close_read H c (A.1 d)) (false_nine a t)),
          (λ d. nine_false m.state m.frag m.held a (close_false H c (λ x. d (A.0 x)))),
        )

    -- An accepted one leads to Read, and keeps what it told.
    pub read_answered : T (accepted (fragments o) (tables_at m)) → InRead (next m close a) × ((next m close a).telling ≡ m.telling)
    read_answered x = rw (next_step m close a) (read_next H c x)
