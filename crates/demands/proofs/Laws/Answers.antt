-- What is asked at a moment of a run, and what no call of a run answers.
-- Assumes nothing.
use Rattle.std.specs.Prelude.{ℕ, ◌≤◌, ◌<◌, ◌≡◌, List, ◌⊎◌, ◌≢◌, T, Ok}
use Rattle.std.proofs.Common.{sym, ◌∙◌, subst, inl, inr, arith}
use Rattle.std.proofs.Math.Path.{ap}
use Rattle.std.proofs.Math.Decide.{dec_lt}
use Rattle.std.proofs.Math.Dec.{not_T}
use Rattle.base.specs.Answer.{Answer, gives, refuses}
use Rattle.rules.specs.Links.{Links, SameSet, Tells, Each}
use Rattle.rules.specs.Removal.{PieceIn, Piece}
use Rattle.rules.specs.Tables.{parent_of, par, lev}
use Rattle.rules.specs.Reading.{accepted, piece, sole, cut}
use Rattle.rules.specs.Facts.{SameReports}
use Rattle.rules.proofs.Laws.Tables.{par_placed}
use Rattle.rules.proofs.Theorems.{level_steps}
use Rattle.state.specs.Test.{is_building, is_read}
use Rattle.state.proofs.Unique.{asked_decided, judged_decided}
use Rattle.state.specs.Ask.{asks, parent_call, level_call, piece_call, cut_call, sole_call}
use Rattle.state.specs.declared.State.{State}
use Rattle.state.specs.declared.Stage.{Stage}
use Rattle.state.specs.declared.Stage.TheVariants.{Building, Built, Reading, Read}
use Rattle.demands.specs.Promises.{Asks, PieceAnswer}
use Rattle.demands.specs.Run.{Origin, start, Moment, ParentAt, LevelAt, PieceAt, fragments, tables_at}
use Rattle.demands.specs.Step.{parent_at, piece_at, cut_at, sole_at}
use Rattle.demands.specs.Claims.{InBuilding, InRead, Gives, StepsToRoot, Never, Truly, Alike}
use Rattle.demands.proofs.Laws.Answered.{taken_refused, closed_refused, asked_refused, judged_refused, asked_gives, judged_decides}
use Rattle.demands.proofs.Laws.Runs.{Holds, agrees_at}
use Rattle.demands.proofs.Laws.Refusals.{Only, Other, one_given, one_far, two_given, two_far, two_same, two_cases, take_only, open_only, close_only, one_only, two_only}
use Rattle.demands.proofs.Laws.Results.{placed_at, sole_removes, cut_removes, piece_removes, pieces_finished, reports_alike}

-- Read is not Building.
pub read_settled : (g : Stage) → T (is_read g) → T (is_building g) → ⊥
read_settled Building r b = r
read_settled Built r b = b
read_settled Reading r b = b
read_settled Read r b = b

-- What piece answers is a number asked for.
abbrev number_of : {s : State} {f h : List ℕ} {v : ℕ} → PieceAnswer s f h v → Asks (piece_call s f h v)
number_of a = record { answer = a.answer; promise = a.promise.0 }

other_met : {A : Type 0} (x : Answer A) (number place : ℕ) → Only Other x → x ≡ refuses number place → number ≢ 11
other_met x number place o e = subst (Only Other) e o

module _ {o : Origin} {m : Moment} (H : Holds o m) where
  abbrev s : State
  s = m.state

  abbrev f : List ℕ
  f = m.frag

  abbrev h : List ℕ
  h = m.held

  -- 11 is never answered.
  pub never_eleven : Never m 11
  unfolding parent_call level_call piece_call cut_call sole_call
  never_eleven = record {
    take_never = λ block a r e. other_met _ _ _ (take_only s f h H.tested block) (taken_refused a r e).0;
    close_never = λ a r e. other_met _ _ _ (close_only s f h H.tested) (closed_refused a r e).0;
    open_never = λ a r e. other_met _ _ _ (open_only s f h H.tested) (taken_refused a r e).0;
    parent_never = λ v a r e. other_met _ _ _ (one_only s f h H.tested asks (parent_of (tables_at m) v) v) (asked_refused a r e);
    level_never = λ v a r e. other_met _ _ _ (one_only s f h H.tested asks (lev (tables_at m) v) v) (asked_refused a r e);
    piece_never = λ v a r e. other_met _ _ _ (one_only s f h H.tested asks (piece s.n (tables_at m) v) v) (asked_refused (number_of a) r e);
    cut_never = λ v a r e. other_met _ _ _ (one_only s f h H.tested is_read (cut s.n (tables_at m) v) v) (judged_refused a.answer a.promise r e);
    sole_never = λ u v a r e. other_met _ _ _ (two_only s f h H.tested is_read (sole s.n (tables_at m) u v) u v) (judged_refused a.answer a.promise r e);
  }

  -- Questions outside Building.
  module _ (b : InBuilding m → ⊥) (v : ℕ) (l : v < fragments o) where
    parent_asked : parent_at m v ≡ gives (par (tables_at m) v)
    unfolding parent_call
    parent_asked = one_given asks s f h H.tested v _ (not_T (is_building s.stage) b) (omega (arith, H.size)) ∙ ap gives (sym (par_placed (tables_at m) v (placed_at H b v l)))

    pub answers_parent : (a : ParentAt m v) → a.answer ≡ Ok (par (tables_at m) v)
    answers_parent a = asked_decided _ a.answer (Ok (par (tables_at m) v)) a.promise (sym parent_asked)

    pub answers_level : (a : LevelAt m v) → Gives (StepsToRoot (par (tables_at m)) v) a.answer
    unfolding level_call
    answers_level a = asked_gives (StepsToRoot (par (tables_at m)) v) a _ (one_given asks s f h H.tested v _ (not_T (is_building s.stage) b) (omega (arith, H.size)))
        (level_steps s.n (tables_at m) (agrees_at H).standing v (omega (arith, H.size)))

    piece_asked : piece_at m v ≡ gives (piece (fragments o) (tables_at m) v)
    unfolding piece_call
    piece_asked = one_given asks s f h H.tested v _ (not_T (is_building s.stage) b) (omega (arith, H.size)) ∙ ap (λ (i : ℕ). gives (piece i (tables_at m) v)) H.size

  -- Questions in Read.
  module _ (r : InRead m) where
    pub settled_at : InBuilding m → ⊥
    settled_at = read_settled s.stage r

    pub accepted_at : T (accepted (fragments o) (tables_at m))
    accepted_at = subst (λ (i : ℕ). T (accepted i (tables_at m))) H.size ((agrees_at H).whole r)

    pub cut_asked : (v : ℕ) → v < fragments o → cut_at m v ≡ gives (cut (fragments o) (tables_at m) v)
    unfolding cut_call
    cut_asked v l = one_given is_read s f h H.tested v _ r (omega (arith, H.size)) ∙ ap (λ (i : ℕ). gives (cut i (tables_at m) v)) H.size

    pub sole_asked : (a b : ℕ) → a < fragments o → b < fragments o → a ≢ b → sole_at m a b ≡ gives (sole (fragments o) (tables_at m) a b)
    unfolding sole_call
    sole_asked a b l i d = two_given is_read s f h H.tested a b _ r (omega (arith, H.size)) (omega (arith, H.size)) d ∙ ap (λ (i : ℕ). gives (sole i (tables_at m) a b)) H.size

    pub truly_at : Truly (fragments o) m
    truly_at = record {
      piece_true = λ v l a. asked_gives (Piece m.telling v) (number_of a) _ (piece_asked settled_at v l) (piece_removes H settled_at accepted_at v l);
      sole_true = λ u v l i d a. judged_decides a.answer _ (a.promise ∙ sole_asked u v l i d) (sole_removes H settled_at accepted_at u v l i);
      cut_true = λ v l a. judged_decides a.answer _ (a.promise ∙ cut_asked v l) (cut_removes H settled_at accepted_at v l);
    }

    -- Fragments that are none, and one fragment twice.
    pub far_alike : (v : ℕ) → fragments o ≤ v → (piece_at m v ≡ refuses 4 0) × (cut_at m v ≡ refuses 4 0)
    unfolding piece_call cut_call
    far_alike v l = (
      one_far asks s f h H.tested v _ (not_T (is_building s.stage) settled_at) (omega (arith, H.size)),
      one_far is_read s f h H.tested v _ r (omega (arith, H.size)),
    )

    pub sole_far : (a b : ℕ) → (fragments o ≤ a) ⊎ (fragments o ≤ b) → sole_at m a b ≡ refuses 4 0
    unfolding sole_call
    sole_far a b z = two_far is_read s f h H.tested a b _ r (rw H.size z)

    pub sole_same : (a b : ℕ) → a < fragments o → b < fragments o → a ≡ b → sole_at m a b ≡ refuses 5 0
    unfolding sole_call
    sole_same a b l i e = two_same is_read s f h H.tested a b _ r (omega (arith, H.size)) (omega (arith, H.size)) e

-- Pieces where every pass told one set.
pub answers_piece : {n k : ℕ} {m : Moment} → Holds (start n k) m → (InBuilding m → ⊥) → (E : Links) → Each (Tells E) m.told → (v : ℕ) → v < n → (a : PieceAt m v) → Gives (PieceIn E v) a.answer
answers_piece H b E e v l a = asked_gives (PieceIn E v) (number_of a) _ (piece_asked H b v l) (pieces_finished H b E e v l)

-- Two runs that read one set answer alike.
module _ {o q : Origin} {m w : Moment} (H : Holds o m) (K : Holds q w) (even : fragments o ≡ fragments q) (same : SameSet m.telling w.telling) (r : InRead m) (z : InRead w) where
  both : SameReports (fragments o) (tables_at m) (tables_at w)
  both = reports_alike H K even same (settled_at H r) (settled_at K z) (accepted_at H r) (accepted_at K z)

  pieces_told : (v : ℕ) → piece_at m v ≡ piece_at w v
  pieces_told v = elim (dec_lt v (fragments o)) [
    | yes l ↦ piece_asked H (settled_at H r) v l ∙ ap gives (both.same_piece v l ∙ ap (λ (i : ℕ). piece i (tables_at w) v) even) ∙ sym (piece_asked K (settled_at K z) v (omega (arith, even)))
    | no l ↦ (far_alike H r v (omega arith)).0 ∙ sym (far_alike K z v (omega (arith, even))).0
  ]

  soles_told : (a b : ℕ) → sole_at m a b ≡ sole_at w a b
  soles_told a b = elim (two_cases (fragments o) a b) [
    | inl x ↦ sole_far H r a b x ∙ sym (sole_far K z a b (rw (← even) x))
    | inr (l, i, x) ↦ elim x [
      | yes e ↦ sole_same H r a b l i e ∙ sym (sole_same K z a b (rw (← even) l) (rw (← even) i) e)
      | no d ↦ sole_asked H r a b l i d ∙ ap gives (both.same_sole a b l i ∙ ap (λ (i : ℕ). sole i (tables_at w) a b) even) ∙ sym (sole_asked K z a b (rw (← even) l) (rw (← even) i) d)
    ]
  ]

  cuts_told : (v : ℕ) → cut_at m v ≡ cut_at w v
  cuts_told v = elim (dec_lt v (fragments o)) [
    | yes l ↦ cut_asked H r v l ∙ ap gives (both.same_cut v l ∙ ap (λ (i : ℕ). cut i (tables_at w) v) even) ∙ sym (cut_asked K z v (omega (arith, even)))
    | no l ↦ (far_alike H r v (omega arith)).1 ∙ sym (far_alike K z v (omega (arith, even))).1
  ]

  pub alike_at : Alike m w
  alike_at = record {
    pieces_alike = λ v a b. asked_decided _ a.answer b.answer (a.promise.0 ∙ pieces_told v) b.promise.0;
    soles_alike = λ u v a b. judged_decided _ a.answer b.answer (a.promise ∙ soles_told u v) b.promise;
    cuts_alike = λ v a b. judged_decided _ a.answer b.answer (a.promise ∙ cuts_told v) b.promise;
  }
