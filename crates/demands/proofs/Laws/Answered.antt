-- What an answer that meets a promise comes to: the moment that the definition of the call makes. And there is one to each call, so that runs of answers are
-- runs of the definitions.
-- Assumes nothing.
use Rattle.std.specs.Prelude.{ℕ, ◌≡◌, refl, Bool, true, false, List, ◌≢◌, ◌↔◌, T, Ok, Err}
use Rattle.std.proofs.Common.{sym, ap, ◌∙◌, subst}
use Rattle.std.proofs.Math.Decide.{ℕ_discrete}
use Rattle.base.specs.Answer.{Answer, gives, refuses}
use Rattle.numbers.specs.declared.Refusal.{Refusal}
use Rattle.lists.specs.List.{block_links}
use Rattle.lists.specs.Laws.Link.{never_both}
use Rattle.state.specs.Call.{Begun, Left}
use Rattle.state.specs.Close.{Ending, more, whole, read, close_call}
use Rattle.state.specs.Take.{takes}
use Rattle.state.specs.Ask.{piece_call, cut_call, sole_call}
use Rattle.state.specs.Answers.{Asked, Ended, Judged, Started, Taken, begun_told, taken_told, closed_told, asked_told, judged_told}
use Rattle.state.proofs.Unique.{closed_decided}
use Rattle.state.proofs.Laws.KeepsCalls.{close_keeps}
use Rattle.state.specs.declared.State.{State}
use Rattle.state.specs.declared.Closed.TheVariants.{More, Done, Read, False}
use Rattle.demands.specs.Promises.{Begins, Takes, Closes, Asks, TakeAnswer, OpenAnswer, CloseAnswer, PieceAnswer, SoleAnswer, CutAnswer, goes_on, ends_building, ends_read, ends_false}
use Rattle.demands.specs.Run.{Call, take, close, open_reading, Moment, Answered, next, after_take, after_close, after_open}
use Rattle.demands.specs.Step.{step}
use Rattle.demands.specs.Claims.{Gives, Decides}
use Rattle.demands.proofs.Laws.Refusals.{take_unchanged, open_unchanged, nine_at}

pub next_step : (m : Moment) (c : Call) (a : Answered m c) → next m c a ≡ step m c
unfolding next step
next_step m (take block) a = ap (after_take m (block_links m.state.n m.state.entries block)) a.promise
next_step m close a = ap (after_close m) a.promise
next_step m open_reading a = ap (after_open m) a.promise

-- Start and adopt.
module _ {x : Begun} (a : Begins x) where
  pub begun_ready : (s : State) → a.answer ≡ Ok s → (x.answer ≡ gives s) × (a.frag ≡ x.frag) × (a.held ≡ x.held)
  begun_ready s e =
      let p = subst (λ (t : Started). begun_told t a.frag a.held ≡ x) e a.promise in
      (sym (ap (λ (b : Begun). b.answer) p), ap (λ (b : Begun). b.frag) p, ap (λ (b : Begun). b.held) p)

  pub begun_refused : (r : Refusal) → a.answer ≡ Err r → (x.answer ≡ refuses r.number r.place) × (a.frag ≡ x.frag) × (a.held ≡ x.held)
  begun_refused r e =
      let p = subst (λ (t : Started). begun_told t a.frag a.held ≡ x) e a.promise in
      (sym (ap (λ (b : Begun). b.answer) p), ap (λ (b : Begun). b.frag) p, ap (λ (b : Begun). b.held) p)

  pub begun_given : (s : State) → x.answer ≡ gives s → a.answer ≡ Ok s
  begun_given s e = go a.answer (ap (λ (b : Begun). b.answer) a.promise ∙ e)
    where
      go : (t : Started) → (begun_told t a.frag a.held).answer ≡ gives s → t ≡ Ok s
      go (Ok y) p = cc
      go (Err r) p = absurd (never_both p refl)

  pub begun_number : (number place : ℕ) → x.answer ≡ refuses number place → a.answer ≡ Err (record { number = number; place = place })
  begun_number number place e = go a.answer (ap (λ (b : Begun). b.answer) a.promise ∙ e)
    where
      go : (t : Started) → (begun_told t a.frag a.held).answer ≡ refuses number place → t ≡ Err (record { number = number; place = place })
      go (Ok y) p = absurd (never_both refl p)
      go (Err r) p =
          let n : r.number ≡ number = cc in
          let q : r.place ≡ place = cc in
          λ i. Err (record { number = n i; place = q i })

-- Take and open reading.
module _ {s : State} {x : Left (Unit {0})} (a : Takes s x) where
  pub taken_refused : (r : Refusal) → a.answer ≡ Err r → (x.answer ≡ refuses r.number r.place) × (a.frag ≡ x.frag) × (a.held ≡ x.held)
  taken_refused r e =
      let p = subst (λ (t : Taken). taken_told s t a.frag a.held ≡ x) e a.promise in
      (sym (ap (λ (l : Left (Unit {0})). l.answer) p), ap (λ (l : Left (Unit {0})). l.frag) p, ap (λ (l : Left (Unit {0})). l.held) p)

  pub taken_on : x.answer ≡ gives tt → T (goes_on a.answer)
  taken_on e = go a.answer (ap (λ (l : Left (Unit {0})). l.answer) a.promise)
    where
      go : (t : Taken) → (taken_told s t a.frag a.held).answer ≡ x.answer → T (goes_on t)
      go (Ok s') p = tt
      go (Err r) p = absurd (never_both e (sym p))

  pub taken_number : (number place : ℕ) → x.answer ≡ refuses number place → a.answer ≡ Err (record { number = number; place = place })
  taken_number number place e = go a.answer (ap (λ (l : Left (Unit {0})). l.answer) a.promise ∙ e)
    where
      go : (t : Taken) → (taken_told s t a.frag a.held).answer ≡ refuses number place → t ≡ Err (record { number = number; place = place })
      go (Ok y) p = absurd (never_both refl p)
      go (Err r) p =
          let n : r.number ≡ number = cc in
          let q : r.place ≡ place = cc in
          λ i. Err (record { number = n i; place = q i })

-- How a pass ended, as it is told.
abbrev pub building_said : Answer Ending → Bool
building_said (gives more) = true
building_said (gives whole) = true
building_said (gives read) = false
building_said (refuses number place) = false

abbrev read_said : Answer Ending → Bool
read_said (gives more) = false
read_said (gives whole) = false
read_said (gives read) = true
read_said (refuses number place) = false

-- Close.
module _ {s : State} {x : Left Ending} (a : Closes s x) where
  pub closed_refused : (r : Refusal) → a.answer ≡ Err r → (x.answer ≡ refuses r.number r.place) × (a.frag ≡ x.frag) × (a.held ≡ x.held)
  closed_refused r e =
      let p = subst (λ (t : Ended). closed_told s t a.frag a.held ≡ x) e a.promise in
      (sym (ap (λ (l : Left Ending). l.answer) p), ap (λ (l : Left Ending). l.frag) p, ap (λ (l : Left Ending). l.held) p)

  pub closed_false : (s' : State) → a.answer ≡ Ok (False s') → (x.answer ≡ refuses 9 0) × (s' ≡ x.state) × (a.frag ≡ x.frag) × (a.held ≡ x.held)
  closed_false s' e =
      let p = subst (λ (t : Ended). closed_told s t a.frag a.held ≡ x) e a.promise in
      (sym (ap (λ (l : Left Ending). l.answer) p), ap (λ (l : Left Ending). l.state) p, ap (λ (l : Left Ending). l.frag) p, ap (λ (l : Left Ending). l.held) p)

  abbrev said : Ended → Answer Ending
  said t = (closed_told s t a.frag a.held).answer

  told_said : said a.answer ≡ x.answer
  told_said = ap (λ (l : Left Ending). l.answer) a.promise

  pub closed_building : ends_building a.answer ≡ building_said x.answer
  closed_building = go a.answer ∙ ap building_said told_said
    where
      go : (t : Ended) → ends_building t ≡ building_said (said t)
      go (Ok (More s')) = refl
      go (Ok (Done s')) = refl
      go (Ok (Read s')) = refl
      go (Ok (False s')) = refl
      go (Err r) = refl

  pub closed_read : (x.answer ≡ gives read) ↔ T (ends_read a.answer)
  closed_read = (λ e. subst T (sym (same ∙ ap read_said e)) tt, λ t. back x.answer (subst T same t))
    where
      go : (t : Ended) → ends_read t ≡ read_said (said t)
      go (Ok (More s')) = refl
      go (Ok (Done s')) = refl
      go (Ok (Read s')) = refl
      go (Ok (False s')) = refl
      go (Err r) = refl

      same : ends_read a.answer ≡ read_said x.answer
      same = go a.answer ∙ ap read_said told_said

      back : (y : Answer Ending) → T (read_said y) → y ≡ gives read
      back (gives more) z = absurd z
      back (gives whole) z = absurd z
      back (gives read) z = refl
      back (refuses number place) z = absurd z

  pub false_nine : T (ends_false a.answer) → x.answer ≡ refuses 9 0
  false_nine z = sym told_said ∙ go a.answer z
    where
      go : (t : Ended) → T (ends_false t) → said t ≡ refuses 9 0
      go (Ok (More s')) z = absurd z
      go (Ok (Done s')) z = absurd z
      go (Ok (Read s')) z = absurd z
      go (Ok (False s')) z = refl
      go (Err r) z = absurd z

  pub closed_number : (number place : ℕ) → number ≢ 9 → x.answer ≡ refuses number place → a.answer ≡ Err (record { number = number; place = place })
  closed_number number place d e = go a.answer (told_said ∙ e)
    where
      go : (t : Ended) → said t ≡ refuses number place → t ≡ Err (record { number = number; place = place })
      go (Ok (More y)) p = absurd (never_both refl p)
      go (Ok (Done y)) p = absurd (never_both refl p)
      go (Ok (Read y)) p = absurd (never_both refl p)
      go (Ok (False y)) p = let z : number ≡ 9 = cc in absurd (d z)
      go (Err r) p =
          let n : r.number ≡ number = cc in
          let q : r.place ≡ place = cc in
          λ i. Err (record { number = n i; place = q i })

-- No plain refusal has the number 9: it is told by False.
pub nine_false : (s : State) (f h : List ℕ) (a : CloseAnswer s f h) → (close_call s f h).answer ≡ refuses 9 0 → T (ends_false a.answer)
unfolding close_call
nine_false s f h a e =
    let x = close_call s f h in
    let q = sym e in
    let told : closed_told s (Ok (False x.state)) x.frag x.held ≡ x = λ i. record { answer = q i; state = x.state; frag = x.frag; held = x.held } in
    let (same, _, _) = closed_decided takes refl s f h a.answer (Ok (False x.state)) a.frag x.frag a.held x.held a.promise told in
    subst (λ (t : Ended). T (ends_false t)) (sym same) tt

pub false_state : (t : Ended) → T (ends_false t) → (s : State) × (t ≡ Ok (False s))
false_state (Ok (More s)) z = absurd z
false_state (Ok (Done s)) z = absurd z
false_state (Ok (Read s)) z = absurd z
false_state (Ok (False s)) z = (s, refl)
false_state (Err r) z = absurd z

-- The questions.
pub asked_refused : {x : Answer ℕ} (a : Asks x) (r : Refusal) → a.answer ≡ Err r → x ≡ refuses r.number r.place
asked_refused {x} a r e = sym (subst (λ (t : Asked). asked_told t ≡ x) e a.promise)

pub judged_refused : {x : Answer Bool} (t : Judged) → judged_told t ≡ x → (r : Refusal) → t ≡ Err r → x ≡ refuses r.number r.place
judged_refused {x} t p r e = sym (subst (λ (t : Judged). judged_told t ≡ x) e p)

pub asked_gives : (P : ℕ → Type 0) {x : Answer ℕ} (a : Asks x) (v : ℕ) → x ≡ gives v → P v → Gives P a.answer
asked_gives P {x} a v e p = go a.answer (a.promise ∙ e)
  where
    go : (t : Asked) → asked_told t ≡ gives v → Gives P t
    go (Ok y) q = let same : v ≡ y = cc in subst P same p
    go (Err r) q = absurd (never_both q refl)

pub judged_decides : {P : Type 0} (t : Judged) (b : Bool) → judged_told t ≡ gives b → T b ↔ P → Decides P t
judged_decides (Ok true) b q (i, j) = let same : true ≡ b = cc in i (subst T same tt)
judged_decides (Ok false) b q (i, j) = let same : b ≡ false = cc in λ p. subst T same (j p)
judged_decides (Err r) b q z = absurd (never_both q refl)

-- What a promise asks for is told of some answer.
pub begun_exists : (x : Begun) → Begins x
begun_exists x = go x.answer refl
  where
    go : (a : Answer State) → a ≡ x.answer → Begins x
    go (gives s) e = record { answer = Ok s; frag = x.frag; held = x.held; promise = λ i. record { answer = e i; frag = x.frag; held = x.held } }
    go (refuses number place) e = record {
      answer = Err (record { number = number; place = place });
      frag = x.frag;
      held = x.held;
      promise = λ i. record { answer = e i; frag = x.frag; held = x.held };
    }

taken_exists : (s : State) (x : Left (Unit {0})) → ((number place : ℕ) → x.answer ≡ refuses number place → x.state ≡ s) → Takes s x
taken_exists s x same = go x.answer refl
  where
    go : (a : Answer (Unit {0})) → a ≡ x.answer → Takes s x
    go (gives _) e = record { answer = Ok x.state; frag = x.frag; held = x.held; promise = λ i. record { answer = e i; state = x.state; frag = x.frag; held = x.held } }
    go (refuses number place) e =
        let q = sym (same number place (sym e)) in
        record {
          answer = Err (record { number = number; place = place });
          frag = x.frag;
          held = x.held;
          promise = λ i. record { answer = e i; state = q i; frag = x.frag; held = x.held };
        }

pub take_exists : (s : State) (f h block : List ℕ) → TakeAnswer s f h block
take_exists s f h block = taken_exists s _ (λ number place e. (take_unchanged s f h block number place e).0)

pub open_exists : (s : State) (f h : List ℕ) → OpenAnswer s f h
open_exists s f h = taken_exists s _ (λ number place e. (open_unchanged s f h number place e).0)

pub close_exists : (s : State) (f h : List ℕ) → CloseAnswer s f h
close_exists s f h = go x.answer refl
  where
    x : Left Ending
    x = close_call s f h

    go : (a : Answer Ending) → a ≡ x.answer → Closes s x
    go (gives more) e = record { answer = Ok (More x.state); frag = x.frag; held = x.held; promise = λ i. record { answer = e i; state = x.state; frag = x.frag; held = x.held } }
    go (gives whole) e = record { answer = Ok (Done x.state); frag = x.frag; held = x.held; promise = λ i. record { answer = e i; state = x.state; frag = x.frag; held = x.held } }
    go (gives read) e = record { answer = Ok (Read x.state); frag = x.frag; held = x.held; promise = λ i. record { answer = e i; state = x.state; frag = x.frag; held = x.held } }
    go (refuses number place) e = elim (ℕ_discrete number 9) [
      | yes z ↦
          let p : refuses 9 0 ≡ x.answer = ap (λ (i : ℕ). refuses i 0) (sym z) ∙ ap (refuses number) (sym (nine_at s f h place (sym e ∙ ap (λ (i : ℕ). refuses i place) z))) ∙ e in
          record { answer = Ok (False x.state); frag = x.frag; held = x.held; promise = λ i. record { answer = p i; state = x.state; frag = x.frag; held = x.held } }
      | no d ↦
          let q = sym ((close_keeps s f h).same number place d (sym e)).0 in
          record {
            answer = Err (record { number = number; place = place });
            frag = x.frag;
            held = x.held;
            promise = λ i. record { answer = e i; state = q i; frag = x.frag; held = x.held };
          }
    ]

-- The questions: parent and level; piece; sole; cut.
pub asked_exists : (x : Answer ℕ) → Asks x
asked_exists (gives v) = record { answer = Ok v; promise = refl }
asked_exists (refuses number place) = record { answer = Err (record { number = number; place = place }); promise = refl }

pub piece_exists : (s : State) (f h : List ℕ) (v : ℕ) → PieceAnswer s f h v
piece_exists s f h v = let a = asked_exists (piece_call s f h v) in record { answer = a.answer; frag = f; promise = (a.promise, refl) }

judged_exists : (x : Answer Bool) → (a : Judged) × (judged_told a ≡ x)
judged_exists (gives true) = ((Ok true), refl)
judged_exists (gives false) = ((Ok false), refl)
judged_exists (refuses number place) = (Err (record { number = number; place = place }), refl)

pub sole_exists : (s : State) (f h : List ℕ) (u v : ℕ) → SoleAnswer s f h u v
sole_exists s f h u v = let (a, p) = judged_exists (sole_call s f h u v) in record { answer = a; promise = p }

pub cut_exists : (s : State) (f h : List ℕ) (v : ℕ) → CutAnswer s f h v
cut_exists s f h v = let (a, p) = judged_exists (cut_call s f h v) in record { answer = a; promise = p }
