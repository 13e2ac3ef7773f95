-- What is proved of start, over its definition: it leaves a state that passes the test, with nothing placed; and its promise decides everything.
-- Assumes nothing.
use Rattle.std.specs.Prelude.{ℕ, ◌≡◌, List, T, length}
use Rattle.std.proofs.Common.{sym, ◌∙◌}
use Rattle.rules.specs.Tables.{fresh}
use Rattle.state.specs.Layout.{tables_in, frag_of, held_of}
use Rattle.state.specs.Test.{sound}
use Rattle.state.specs.Call.{bounds_refusal}
use Rattle.state.specs.Start.{started, start_call}
use Rattle.state.specs.Answers.{Started, begun_told}
use Rattle.state.proofs.Laws.Bounds.{bounds_known}
use Rattle.state.proofs.Laws.Sound.{sound_laid}
use Rattle.state.proofs.Laws.Start.{fresh_agrees, fresh_laid, told_once}
use Rattle.state.specs.declared.Stage.TheVariants.{Building}

-- 'What an accepted call leaves .. passes this test.'
pub start_sound : (n k : ℕ) (f h : List ℕ) → bounds_refusal n k (length f) (length h) ≡ 0
    → T (sound (started n k) (frag_of Building n (fresh n) f) (held_of n k (fresh n) h))
start_sound n k f h e =
    let b = bounds_known n k (length f) (length h) e in
    sound_laid (started n k) (fresh n) f h b.fragments (fresh_agrees n k b.some_fragments b.some_room) b.frag_long

-- 'Start (n, k) gives Building with nothing placed.'
pub start_fresh : (n k : ℕ) (f h : List ℕ) → tables_in (started n k) (frag_of Building n (fresh n) f) (held_of n k (fresh n) h) ≡ fresh n
start_fresh = fresh_laid

-- Two answers that meet start's promise are equal, and so are the tables that they leave.
pub start_decided : (n k : ℕ) (f h : List ℕ) (a b : Started) (fa fb ha hb : List ℕ)
    → begun_told a fa ha ≡ start_call n k f h → begun_told b fb hb ≡ start_call n k f h → (a ≡ b) × (fa ≡ fb) × (ha ≡ hb)
start_decided n k f h a b fa fb ha hb p q = told_once a b fa fb ha hb (p ∙ sym q)
