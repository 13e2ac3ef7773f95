-- Adopting a forest made elsewhere. Definitions only.
-- Assumes nothing.
use Rattle.std.specs.Prelude.{ℕ, suc, Bool, false, ◌&&◌, List, [], get_or, take, replicate, ltb, eqb}
use Rattle.rules.specs.Forest.{up, depth}
use Rattle.rules.specs.Search.{every, table}
use Rattle.rules.specs.Tables.{Tables}

-- The parent of v in a table of parents.
abbrev pub parent_in : List ℕ → ℕ → ℕ
parent_in ps v = get_or ps v 0

-- v's way ends at a root: a way without a cycle is there within n steps.
unfoldable pub rooted_in : ℕ → List ℕ → ℕ → Bool
rooted_in n ps v = eqb (parent_in ps (up (parent_in ps) n v)) (up (parent_in ps) n v)

-- Refusal 10 is given unless this holds: 'an adopted parent is n or more, or parents run in a cycle of two or more'
unfoldable pub adoptable : ℕ → List ℕ → Bool
adoptable n ps = every (λ v. ltb (parent_in ps v) n) n && every (rooted_in n ps) n

-- 'Adopt (n, k, a parent table of at least n words, of which the first n are read) gives Built.'
unfoldable pub adopted : ℕ → List ℕ → Tables
adopted n ps = record {
  parent = take n ps;
  level = table (λ v. suc (depth (parent_in ps) n v)) n;
  note = replicate n 0;
  mark = replicate n 0;
  held = [];
  crossed = false;
}
