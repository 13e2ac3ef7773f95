-- `c_telling::words::heard_in` meets its contract.
-- Assumes nothing.
use Rattle.c_telling.specs.Laws.Steps.{heard_end, heard_failed, heard_none, heard_bytes}
use native.Mathlib.Omega.{arith}
use Rattle.c_telling.proofs.words.heard_in.Goals as goal

pub returns-then-heard-eq0 : goal.returns-then-heard-eq0
returns-then-heard-eq0 c = heard_end _ (omega arith)

pub returns-then-heard-eq-FAILED : goal.returns-then-heard-eq-FAILED
returns-then-heard-eq-FAILED c = heard_failed _ (omega arith) (omega arith)

pub returns-then-heard-eq-NO_FILE : goal.returns-then-heard-eq-NO_FILE
returns-then-heard-eq-NO_FILE c = heard_none _ (omega arith) (omega arith) (omega arith)

pub returns : goal.returns
returns c = heard_bytes _ (omega arith) (omega arith) (omega arith)
