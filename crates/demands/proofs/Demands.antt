-- Demands 1 to 3 of the letter, of what the functions of `forest` answer and leave, to be read alone. An answer is one that meets the promise of its function
-- (Promises.antt; Calls.antt: every answer of the code does), a run is calls with their answers (Run.antt). Behind each theorem stands the instance of P1 to
-- P10 that meets its premises (Laws.Met). That P1 to P10 themselves hold of the calls, as one table, is Known.known-calls.
-- Assumes nothing.
use Rattle.std.specs.Prelude.{ℕ, ◌+◌, ◌≤◌, ◌<◌, ◌≡◌, refl, List, ◌++◌, ◌⊎◌, ◌↔◌, T, length, drop, Ok, Err}
use Rattle.std.proofs.Common.{sym, ap, ◌∙◌, inl, inr, arith}
use Rattle.base.specs.Answer.{Answer, gives}
use Rattle.base.specs.Truth.{T_dec}
use Rattle.base.specs.Link.{Link}
use Rattle.numbers.specs.Number.{read_number, written_number, Numeral, write_number}
use Rattle.numbers.specs.Words.{Bytes}
use Rattle.numbers.proofs.Theorems.{written_read, number_form}
use Rattle.numbers.specs.declared.Refusal.{Refusal}
use Rattle.lists.specs.List.{and_then, block_links}
use Rattle.lists.specs.Words.{shifted}
use Rattle.lists.specs.Laws.Link.{never_both}
use Rattle.lists.specs.Theorems.{blocks_join}
use Rattle.rules.specs.Links.{Links, linked, SameSet, Tells, Each}
use Rattle.rules.specs.Forest.{DepthFirst}
use Rattle.rules.specs.Removal.{PieceIn}
use Rattle.rules.specs.Tables.{par}
use Rattle.rules.specs.Building.{ceiling, lower_ceiling}
use Rattle.rules.specs.Reading.{accepted}
use Rattle.rules.specs.Adopting.{parent_in}
use Rattle.state.specs.Test.{sound}
use Rattle.state.specs.Call.{bounds_refusal}
use Rattle.state.specs.Adopt.{adopted_state}
use Rattle.state.specs.Take.{takes}
use Rattle.state.specs.Close.{opens}
use Rattle.state.proofs.Laws.KeepsBegun.{start_keeps, adopt_keeps}
use Rattle.state.proofs.Laws.KeepsLeft.{take_makes, open_makes}
use Rattle.state.proofs.Laws.KeepsTables.{reads_settled}
use Rattle.state.specs.declared.State.{State}
use Rattle.state.specs.declared.Closed.TheVariants.{False}
use Rattle.demands.specs.Promises.{Asks, StartAnswer, AdoptAnswer, TakeAnswer, OpenAnswer, CloseAnswer, PieceAnswer, goes_on, ends_building, ends_read, ends_false, changes}
use Rattle.demands.specs.Run.{Origin, start, adopt, Call, close, Moment, Answered, next, TakeAt, CloseAt, OpenAt, ParentAt, LevelAt, PieceAt, SoleAt, CutAt, BeginAnswer, Run, begins, goes, calls, closes_in, accepted_closes, fragments, tables_of, tables_at}
use Rattle.demands.specs.Course.{Adds, PassTells, AllTell, build_calls, read_calls}
use Rattle.demands.specs.Claims.{InBuilding, InReading, InRead, Gives, Leading, StepsToRoot, NotesLost, Never, Truly, Alike, Finished}
use Rattle.demands.proofs.Laws.Answered.{begun_refused, begun_given, begun_number, taken_refused, taken_on, begun_exists, asked_exists, sole_exists, piece_exists, cut_exists}
use Rattle.demands.proofs.Laws.Refusals.{take_unchanged, open_unchanged, adopt_good, adopt_ten}
use Rattle.demands.proofs.Laws.Runs.{run_holds}
use Rattle.demands.proofs.Laws.Results.{accepts_exactly, forest_finished, reads_accepted, below_ceiling, below_more}
use Rattle.demands.proofs.Laws.Counts.{closes_told, within_ceiling, all_accepted, adopted_settled, adopted_forest}
use Rattle.demands.proofs.Laws.Answers.{never_eleven, answers_parent, answers_level, answers_piece, truly_at, alike_at}
use Rattle.demands.proofs.Laws.Closes.{close_refused, close_lost, building_closes, close_exactly, false_exactly, read_answered}
use Rattle.demands.proofs.Laws.Courses.{some_answer, follow, course_ends, adopted_reads}

-- Demand 1. 'Every call, with every list, table and number, ends and touches nothing outside what was lent' is what the prover shows of every function;
-- 'Bad input gets the refusal that document 01 names for it' is each call's promise. The promises ask for nothing that cannot be answered: to each call there is
-- an answer, so that from every accepted first call there is a run of any calls.
pub some_begin : (o : Origin) (f h : List ℕ) → BeginAnswer o f h
some_begin o f h = begun_exists _

pub some_call : (m : Moment) (c : Call) → Answered m c
some_call = some_answer

-- (parent and level)
pub some_number : (x : Answer ℕ) → Asks x
some_number = asked_exists

pub some_piece : (m : Moment) (v : ℕ) → PieceAt m v
some_piece m v = piece_exists m.state m.frag m.held v

pub some_sole : (m : Moment) (u v : ℕ) → SoleAt m u v
some_sole m u v = sole_exists m.state m.frag m.held u v

pub some_cut : (m : Moment) (v : ℕ) → CutAt m v
some_cut m v = cut_exists m.state m.frag m.held v

pub some_run : {o : Origin} {m : Moment} (r : Run o m) (cs : List Call) → (w : Moment) × (q : Run o w) × (calls q ≡ calls r ++ cs)
some_run r cs = let (q, e) = follow r cs in (_, q, e)

-- 'a refused call changes no byte': of any state and any tables, those of no run included. A refusal gives no state: the caller's stays. (met-refused, met-open, met-close.)
pub demand_1_take : (s : State) (f h block : List ℕ) (a : TakeAnswer s f h block) (r : Refusal) → a.answer ≡ Err r → (a.frag ≡ f) × (a.held ≡ h)
demand_1_take s f h block a r e = let (x, p, q) = taken_refused a r e in let (_, u, v) = take_unchanged s f h block _ _ x in (p ∙ u, q ∙ v)

pub demand_1_open : (s : State) (f h : List ℕ) (a : OpenAnswer s f h) (r : Refusal) → a.answer ≡ Err r → (a.frag ≡ f) × (a.held ≡ h)
demand_1_open s f h a r e = let (x, p, q) = taken_refused a r e in let (_, u, v) = open_unchanged s f h _ _ x in (p ∙ u, q ∙ v)

-- Close tells a refusal that changes something by an answer of its own.
pub demand_1_close : (s : State) (f h : List ℕ) (a : CloseAnswer s f h) (r : Refusal) → a.answer ≡ Err r → (T (changes r.number) → ⊥) × (a.frag ≡ f) × (a.held ≡ h)
demand_1_close = close_refused

-- A refused start or adopt leaves the words as they were lent. (met-start; P10: met-adopt.)
pub demand_1_start : (n k : ℕ) (f h : List ℕ) (a : StartAnswer n k f h) (r : Refusal) → a.answer ≡ Err r → (a.frag ≡ f) × (a.held ≡ h)
demand_1_start n k f h a r e = let (x, p, q) = begun_refused a r e in let (u, v) = (start_keeps n k f h).same _ _ x in (p ∙ u, q ∙ v)

pub demand_1_adopt : (n k : ℕ) (ps f h : List ℕ) (a : AdoptAnswer n k ps f h) (r : Refusal) → a.answer ≡ Err r → (a.frag ≡ f) × (a.held ≡ h)
demand_1_adopt n k ps f h a r e = let (x, p, q) = begun_refused a r e in let (u, v) = (adopt_keeps n k f h ps).same _ _ x in (p ∙ u, q ∙ v)

-- A question changes nothing, whatever it answers: only piece is lent a table to write in.
pub demand_1_piece : (s : State) (f h : List ℕ) (v : ℕ) (a : PieceAnswer s f h v) → a.frag ≡ f
demand_1_piece s f h v a = a.promise.1

-- 'only a false reading pass loses its notes' (P8: met-lost.)
pub demand_1_false : (s : State) (f h : List ℕ) (a : CloseAnswer s f h) (s' : State) → a.answer ≡ Ok (False s') → NotesLost s f h s' a.frag a.held
demand_1_false = close_lost

-- 'What an accepted call leaves, or a refusal that changes something, passes this test': at every moment of every run no refusal 1, 2, 3 or 11 is due.
pub demand_1_tested : {o : Origin} {m : Moment} → Run o m → (bounds_refusal m.state.n m.state.k (length m.frag) (length m.held) ≡ 0) × T (sound m.state m.frag m.held)
demand_1_tested r = let p = (run_holds r).tested in (p.in_bounds, p.tested)

-- So no call of a run meets 11.
pub demand_1_never : {o : Origin} {m : Moment} → Run o m → Never m 11
demand_1_never r = never_eleven (run_holds r)

-- Only what the stage or the block asks for is refused: else every take, every close in Building and every open reading of a run is accepted.
pub demand_1_takes : {o : Origin} {m : Moment} → Run o m → (block : List ℕ) (g : List Link) → T (takes m.state.stage) → block_links m.state.n m.state.entries block ≡ gives g
    → (a : TakeAt m block) → T (goes_on a.answer)
demand_1_takes {o} {m} r block g c e a = taken_on a (take_makes m.state m.frag m.held (run_holds r).tested c block g e).answer

pub demand_1_closes : {o : Origin} {m : Moment} → Run o m → InBuilding m → (a : CloseAt m) → T (ends_building a.answer)
demand_1_closes r = building_closes (run_holds r)

pub demand_1_opens : {o : Origin} {m : Moment} → Run o m → T (opens m.state.stage) → (a : OpenAt m) → T (goes_on a.answer)
demand_1_opens {o} {m} r c a = taken_on a (open_makes m.state m.frag m.held (run_holds r).tested c).answer

-- Demand 2. 'Each step does what the rules in 01 say': at every moment the tables are what the rules make of what was told.
pub demand_2_rules : {o : Origin} {m : Moment} → Run o m → tables_at m ≡ tables_of o m
demand_2_rules r = (run_holds r).tables

-- 'Where every pass told the same links, the finished table is a depth-first forest of them' (P1: met-forest.)
pub demand_2_forest : {n k : ℕ} {m : Moment} → Run (start n k) m → (InBuilding m → ⊥) → (E : Links) → Each (Tells E) m.told → DepthFirst n (par (tables_at m)) E
demand_2_forest r = forest_finished (run_holds r)

-- The finished table is what is answered for parents, and a level is the number of steps to the root.
pub demand_2_parents : {o : Origin} {m : Moment} → Run o m → (InBuilding m → ⊥) → (v : ℕ) → v < fragments o → (a : ParentAt m v) → a.answer ≡ Ok (par (tables_at m) v)
demand_2_parents r = answers_parent (run_holds r)

pub demand_2_levels : {o : Origin} {m : Moment} → Run o m → (InBuilding m → ⊥) → (v : ℕ) → v < fragments o → (a : LevelAt m v) → Gives (StepsToRoot (par (tables_at m)) v) a.answer
demand_2_levels r = answers_level (run_holds r)

-- A piece is that of the links built from, before any reading too. (P1: met-piece.)
pub demand_2_pieces : {n k : ℕ} {m : Moment} → Run (start n k) m → (InBuilding m → ⊥) → (E : Links) → Each (Tells E) m.told → (v : ℕ) → v < n → (a : PieceAt m v) → Gives (PieceIn E v) a.answer
demand_2_pieces r = answers_piece (run_holds r)

-- A reading pass is accepted exactly when the table, adopted or built, is a depth-first forest of what it told; else it is refused with 9. (P1: met-accepts; P8: met-none.)
pub demand_2_reading : {o : Origin} {m : Moment} → Run o m → InReading m → (a : CloseAt m) → T (ends_read a.answer) ↔ DepthFirst (fragments o) (par (tables_at m)) (linked m.telling)
demand_2_reading r = close_exactly (run_holds r)

pub demand_2_false : {o : Origin} {m : Moment} → Run o m → InReading m → (a : CloseAt m) → T (ends_false a.answer) ↔ (DepthFirst (fragments o) (par (tables_at m)) (linked m.telling) → ⊥)
demand_2_false r = false_exactly (run_holds r)

-- A table of parents is adopted exactly when its parents are fragments and lead to roots; else it is refused with 10. (P10: met-cycle.)
module _ (n k : ℕ) (ps f h : List ℕ) (b : bounds_refusal n k (length f) (length h) ≡ 0) (l : n ≤ length ps) where
  pub demand_2_adopts : (a : AdoptAnswer n k ps f h) → Leading n ps → a.answer ≡ Ok (adopted_state n k)
  demand_2_adopts a x = begun_given a _ (adopt_good n k ps f h b l x)

  pub demand_2_ten : (a : AdoptAnswer n k ps f h) → (Leading n ps → ⊥) → a.answer ≡ Err (record { number = 10; place = 0 })
  demand_2_ten a x = begun_number a 10 0 (adopt_ten n k ps f h b l x)

  -- 'A forest from elsewhere is accepted exactly when this holds': every table of parents is accepted, and its reading accepted, exactly when it is a depth-first
  -- forest of the list read. (P8: met-adopted.)
  pub demand_2_adopted : (a : AdoptAnswer n k ps f h) (blocks : List (List ℕ)) (g : List Link) → Adds n 0 blocks g
      → ((a.answer ≡ Ok (adopted_state n k)) × ((m : Moment) (r : Run (adopt n k ps) m) → calls r ≡ read_calls blocks → InRead m)) ↔ DepthFirst n (parent_in ps) (linked g)
  unfolding calls
  demand_2_adopted a blocks g d = (
    (λ (e, read). let (r, c) = follow (begins f h a (adopted_state n k) e) (read_calls blocks) in (adopted_reads r blocks g d c).0 (read _ r c)),
    (λ x. (demand_2_adopts a (x.inside, x.rooted), λ m r c. (adopted_reads r blocks g d c).1 x)),
  )

-- So at any moment of a run, whatever else it called. (P8: met-none.)
pub demand_2_adopted_at : {n k : ℕ} {ps : List ℕ} {m : Moment} → Run (adopt n k ps) m → InReading m → (a : CloseAt m) → T (ends_read a.answer) ↔ DepthFirst n (parent_in ps) (linked m.telling)
demand_2_adopted_at r c a = let (i, j) = demand_2_reading r c a in let (b, e) = adopted_settled r in let (p, q) = adopted_forest (run_holds r) b e in (λ t. p (i t), λ d. j (q d))

-- 'Numbers are written and read back alike.' (met-number.)
pub demand_2_numbers : (v : ℕ) (buffer : List ℕ) (at end : ℕ) → (write_number v buffer at).answer ≡ gives end → read_number (write_number v buffer at).buffer at ≡ gives (record { value = v; next = end })
demand_2_numbers = written_read

pub demand_2_forms : (s : List ℕ) (at : ℕ) (x : Numeral) → read_number s at ≡ gives x → Bytes s → drop at s ≡ written_number x.value ++ drop x.next s
demand_2_forms = number_form

-- Blocks add up: two that are accepted one after the other are one block of the links of both.
pub demand_2_blocks : (n e : ℕ) (s t : List ℕ) (g h : List Link) → block_links n e s ≡ gives g → block_links n (e + length g) t ≡ gives h → block_links n e (s ++ t) ≡ gives (g ++ h)
unfolding and_then shifted
demand_2_blocks n e s t g h p q = blocks_join n e s t (λ place x. never_both p x) ∙ rw (p, q) refl

-- 'The count of passes in the state equals the number of closes accepted since the start, those of Building only; after adopt it is 0.'
pub pass_count : {o : Origin} {m : Moment} (r : Run o m) → m.state.passes ≡ accepted_closes r
pass_count r = (run_holds r).counted ∙ sym (closes_told r)

pub pass_count_adopted : {n k : ℕ} {ps : List ℕ} {m : Moment} → Run (adopt n k ps) m → m.state.passes ≡ 0
pass_count_adopted r = (run_holds r).counted ∙ ap length (adopted_settled r).1

-- The entry count is that of the list told.
pub entry_count : {o : Origin} {m : Moment} → Run o m → m.state.entries ≡ length m.telling
entry_count r = (run_holds r).entered

-- Demand 3. 'building with room k for n fragments ends within n/k passes, rounded up': so many closes are accepted in Building at most, whatever was told,
-- and even n/(k + 1), rounded up. (P1 reaches that: met-count.)
pub demand_3_ceiling : {n k : ℕ} {m : Moment} (r : Run (start n k) m) → (accepted_closes r ≤ ceiling n k) × (accepted_closes r ≤ lower_ceiling n k)
demand_3_ceiling r = rw (closes_told r) (within_ceiling r)

-- It ends: a run that has called close so many times is out of Building, whatever else it called. (P1: met-ends.)
pub demand_3_ends : {n k : ℕ} {m : Moment} (r : Run (start n k) m) → (ceiling n k ≤ closes_in (calls r)) ⊎ (lower_ceiling n k ≤ closes_in (calls r)) → InBuilding m → ⊥
demand_3_ends r (inl l) b = omega (arith, all_accepted r b, below_ceiling (run_holds r) b)
demand_3_ends r (inr l) b = omega (arith, all_accepted r b, below_more (run_holds r) b)

-- 'Where every pass tells the same set of links, in any order, .. the reading pass accepts' (P1: met-accepts.)
pub demand_3_accepts : {n k : ℕ} {m : Moment} → Run (start n k) m → InReading m → (E : Links) → Each (Tells E) m.told → Tells E m.telling → (a : CloseAt m) → T (ends_read a.answer)
demand_3_accepts {n} {k} {m} r c E e t a = (demand_2_reading r c a).1 ((accepts_exactly (run_holds r) (reads_settled m.state.stage c)).0 (reads_accepted (run_holds r) c E e t))

-- 'The pieces, sole links and cut fragments reported are then those that taking the link or fragment away would show.' In Read of every run, built or adopted. (P1: met-sole.)
pub demand_3_truly : {o : Origin} {m : Moment} → Run o m → InRead m → Truly (fragments o) m
demand_3_truly r = truly_at (run_holds r)

-- 'Two rooms, or two orders, give equal reports of these': two runs on n fragments, of any rooms, orders and blocks, that read lists of one set. (P1 and P2: met-alike.)
pub demand_3_alike : {o q : Origin} {m w : Moment} → Run o m → Run q w → fragments o ≡ fragments q → SameSet m.telling w.telling → InRead m → InRead w → Alike m w
demand_3_alike r z = alike_at (run_holds r) (run_holds z)

-- Where a run built and then read E, it is finished.
pub demand_3_finished : {n k : ℕ} {E : Links} {m : Moment} → Run (start n k) m → InRead m → Tells E m.telling → Finished n k E m
demand_3_finished r z t = record { run = r; read_whole = z; read_set = t; passes_few = rw (pass_count r) (demand_3_ceiling r).0; reports_true = demand_3_truly r z }

-- The whole of it in calls, for every n and k, every set E and every blocks: a start, then passes that each tell E, as many as the ceiling says or more (those past
-- the last are refused with 6), then a reading pass that tells E. It ends in Read. (P1: met-course.)
pub demand_3_course : {n k : ℕ} {m : Moment} (r : Run (start n k) m) (E : Links) (passes : List (List (List ℕ))) (reading : List (List ℕ)) → calls r ≡ build_calls passes ++ read_calls reading
    → AllTell n E passes → PassTells n E reading → ceiling n k ≤ length passes → Finished n k E m
demand_3_course r E passes reading c each told l = let (z, t) = course_ends r E passes reading c each told l in demand_3_finished r z t

-- and two such courses, of any rooms, orders and blocks, report alike.
pub demand_3_rooms : {n k l : ℕ} {E : Links} {m w : Moment} → Finished n k E m → Finished n l E w → Alike m w
demand_3_rooms c d = demand_3_alike c.run d.run refl (λ u v. c.read_set u v ∙ sym (d.read_set u v)) c.read_whole d.read_whole

-- 'If passes told different lists, reading refuses or reports truly on the list it read last.'
pub demand_3_whatever : {o : Origin} {m : Moment} → Run o m → InReading m → (a : CloseAt m)
    → T (ends_false a.answer) ⊎ (T (ends_read a.answer) × ((next m close a).telling ≡ m.telling) × Truly (fragments o) (next m close a))
demand_3_whatever {o} {m} r c a =
    let H = run_holds r in
    let A = accepts_exactly H (reads_settled m.state.stage c) in
    elim (T_dec (accepted (fragments o) (tables_at m))) [
      | no x ↦ inl ((false_exactly H c a).1 (λ d. x (A.1 d)))
      | yes x ↦ let (z, e) = read_answered H c a x in inr ((close_exactly H c a).1 (A.0 x), e, demand_3_truly (goes r close a) z)
    ]
