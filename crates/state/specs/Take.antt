-- Take: 'Take (a block) is allowed in Building and Reading.' Definitions only.
-- Assumes nothing.
use Rattle.std.specs.Prelude.{ℕ, ◌+◌, Bool, ◌||◌, List, length}
use Rattle.base.specs.Pick.{pick}
use Rattle.base.specs.Answer.{Answer, gives, refuses}
use Rattle.base.specs.Link.{Link}
use Rattle.lists.specs.List.{block_links}
use Rattle.rules.specs.Tables.{Tables}
use Rattle.rules.specs.Building.{build_links}
use Rattle.rules.specs.Reading.{read_links}
use Rattle.state.specs.Layout.{tables_in}
use Rattle.state.specs.Test.{is_building, is_reading}
use Rattle.state.specs.Call.{Left, refused, headed, leaves, moved}
use Rattle.state.specs.declared.State.{State}
use Rattle.state.specs.declared.Stage.{Stage}

abbrev pub takes : Stage → Bool
takes stage = is_building stage || is_reading stage

-- The links are told by the building rules in Building, by the reading rules in Reading.
unfoldable pub tell : State → Tables → List Link → Tables
tell s t links = pick (is_building s.stage) (build_links s.n s.k t links) (read_links t links)

-- 'A bad link refuses its whole block.'
unfoldable pub taken : State → List ℕ → List ℕ → Answer (List Link) → Left (Unit {0})
taken s f h (gives links) =
    leaves tt (moved s.stage s.passes (s.entries + length links) (tell s (tables_in s f h) links) s)
    (tell s (tables_in s f h) links) f h
taken s f h (refuses number place) = refused s f h number place

-- A take that is allowed in some stages.
unfoldable pub take_in : (Stage → Bool) → State → List ℕ → List ℕ → List ℕ → Left (Unit {0})
take_in allowed s f h block = headed allowed s f h (taken s f h (block_links s.n s.entries block))

unfoldable pub take_call : State → List ℕ → List ℕ → List ℕ → Left (Unit {0})
take_call s f h block = take_in takes s f h block
