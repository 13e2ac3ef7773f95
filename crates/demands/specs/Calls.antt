-- The answers of the code are those of Promises.antt. For `State::start` and each function of `forest`: whatever a caller learns from its contract, as the checker
-- reads it (`Learnt`), of its arguments a, its result r and the parameters e at exit, is an answer that meets the promise, with r and the tables of e in it.
-- Assumes nothing.
use contract.Lifetimes.{Lfts}
use borrow.Fn.World.{ArgsD, ResD}
use borrow.Fn.Kinds.{ended_of}
use denote.Triple.Clauses.{AtExit}
use Rattle.demands.specs.Promises.{StartAnswer, AdoptAnswer, TakeAnswer, OpenAnswer, CloseAnswer, ParentAnswer, LevelAnswer, PieceAnswer, SoleAnswer, CutAnswer}
use Rattle.state.specs.contracts.State.start as start
use Rattle.state.proofs.State.start.Kinds as start-kinds
use Rattle.state.proofs.State.start.Reads as start-reads
use Rattle.forest.specs.contracts.adopt as adopt
use Rattle.forest.proofs.adopt.Kinds as adopt-kinds
use Rattle.forest.proofs.adopt.Reads as adopt-reads
use Rattle.forest.specs.contracts.take as take
use Rattle.forest.proofs.take.Kinds as take-kinds
use Rattle.forest.proofs.take.Reads as take-reads
use Rattle.forest.specs.contracts.open_reading as open-reading
use Rattle.forest.proofs.open_reading.Kinds as open-reading-kinds
use Rattle.forest.proofs.open_reading.Reads as open-reading-reads
use Rattle.forest.specs.contracts.close as close
use Rattle.forest.proofs.close.Kinds as close-kinds
use Rattle.forest.proofs.close.Reads as close-reads
use Rattle.forest.specs.contracts.parent as parent
use Rattle.forest.proofs.parent.Kinds as parent-kinds
use Rattle.forest.proofs.parent.Reads as parent-reads
use Rattle.forest.specs.contracts.level as level
use Rattle.forest.proofs.level.Kinds as level-kinds
use Rattle.forest.proofs.level.Reads as level-reads
use Rattle.forest.specs.contracts.piece as piece
use Rattle.forest.proofs.piece.Kinds as piece-kinds
use Rattle.forest.proofs.piece.Reads as piece-reads
use Rattle.forest.specs.contracts.sole as sole
use Rattle.forest.proofs.sole.Kinds as sole-kinds
use Rattle.forest.proofs.sole.Reads as Sole-reads
use Rattle.forest.specs.contracts.cut as cut
use Rattle.forest.proofs.cut.Kinds as cut-kinds
use Rattle.forest.proofs.cut.Reads as cut-reads

abbrev pub start_answered : (κs : Lfts 2) (a : ArgsD start.signature κs) (r : ResD start.signature κs) (e : AtExit (ended_of 2 start-kinds.ps start-kinds.r) κs) → start-reads.Learnt κs a r e
    → StartAnswer a.0 a.1.0 a.1.1.0.now a.1.1.1.0.now
start_answered κs a r e l = record { answer = r; frag = e.1.1.0.now; held = e.1.1.1.0.now; promise = l }

abbrev pub adopt_answered : (κs : Lfts 3) (a : ArgsD adopt.signature κs) (r : ResD adopt.signature κs) (e : AtExit (ended_of 3 adopt-kinds.ps adopt-kinds.r) κs) → adopt-reads.Learnt κs a r e
    → AdoptAnswer a.0 a.1.0 a.1.1.0.now a.1.1.1.0.now a.1.1.1.1.0.now
adopt_answered κs a r e l = record { answer = r; frag = e.1.1.1.0.now; held = e.1.1.1.1.0.now; promise = l }

abbrev pub take_answered : (κs : Lfts 3) (a : ArgsD take.signature κs) (r : ResD take.signature κs) (e : AtExit (ended_of 3 take-kinds.ps take-kinds.r) κs) → take-reads.Learnt κs a r e
    → TakeAnswer a.0 a.1.0.now a.1.1.0.now a.1.1.1.0.now
take_answered κs a r e l = record { answer = r; frag = e.1.0.now; held = e.1.1.0.now; promise = l }

abbrev pub open_reading_answered : (κs : Lfts 2) (a : ArgsD open-reading.signature κs) (r : ResD open-reading.signature κs) (e : AtExit (ended_of 2 open-reading-kinds.ps open-reading-kinds.r) κs) → open-reading-reads.Learnt κs a r e
    → OpenAnswer a.0 a.1.0.now a.1.1.0.now
open_reading_answered κs a r e l = record { answer = r; frag = e.1.0.now; held = e.1.1.0.now; promise = l }

abbrev pub close_answered : (κs : Lfts 2) (a : ArgsD close.signature κs) (r : ResD close.signature κs) (e : AtExit (ended_of 2 close-kinds.ps close-kinds.r) κs) → close-reads.Learnt κs a r e
    → CloseAnswer a.0 a.1.0.now a.1.1.0.now
close_answered κs a r e l = record { answer = r; frag = e.1.0.now; held = e.1.1.0.now; promise = l }

abbrev pub parent_answered : (κs : Lfts 2) (a : ArgsD parent.signature κs) (r : ResD parent.signature κs) (e : AtExit (ended_of 2 parent-kinds.ps parent-kinds.r) κs) → parent-reads.Learnt κs a r e
    → ParentAnswer a.0 a.1.0.now a.1.1.0.now a.1.1.1.0
parent_answered κs a r e l = record { answer = r; promise = l }

abbrev pub level_answered : (κs : Lfts 2) (a : ArgsD level.signature κs) (r : ResD level.signature κs) (e : AtExit (ended_of 2 level-kinds.ps level-kinds.r) κs) → level-reads.Learnt κs a r e
    → LevelAnswer a.0 a.1.0.now a.1.1.0.now a.1.1.1.0
level_answered κs a r e l = record { answer = r; promise = l }

abbrev pub piece_answered : (κs : Lfts 2) (a : ArgsD piece.signature κs) (r : ResD piece.signature κs) (e : AtExit (ended_of 2 piece-kinds.ps piece-kinds.r) κs) → piece-reads.Learnt κs a r e
    → PieceAnswer a.0 a.1.0.now a.1.1.0.now a.1.1.1.0
piece_answered κs a r e l = record { answer = r; frag = e.1.0.now; promise = l }

abbrev pub sole_answered : (κs : Lfts 2) (a : ArgsD sole.signature κs) (r : ResD sole.signature κs) (e : AtExit (ended_of 2 sole-kinds.ps sole-kinds.r) κs) → Sole-reads.Learnt κs a r e
    → SoleAnswer a.0 a.1.0.now a.1.1.0.now a.1.1.1.0 a.1.1.1.1.0
sole_answered κs a r e l = record { answer = r; promise = l }

abbrev pub cut_answered : (κs : Lfts 2) (a : ArgsD cut.signature κs) (r : ResD cut.signature κs) (e : AtExit (ended_of 2 cut-kinds.ps cut-kinds.r) κs) → cut-reads.Learnt κs a r e
    → CutAnswer a.0 a.1.0.now a.1.1.0.now a.1.1.1.0
cut_answered κs a r e l = record { answer = r; promise = l }
