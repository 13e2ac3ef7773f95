-- Known instances that meet the premises of the theorems on reading and adopting, so that these are not empty.
-- Assumes nothing.
use Rattle.std.specs.Prelude.{ℕ, ◌≤◌, refl, List, [], ◌∷◌, T, length}
use Rattle.std.proofs.Common.{arith}
use Rattle.base.specs.Pick.{pick}
use Rattle.rules.specs.Links.{between, linked}
use Rattle.rules.specs.Forest.{up, depth, DepthFirst}
use Rattle.rules.specs.Search.{count, some, every, least, table}
use Rattle.rules.specs.Tables.{Tables, parent_of, rank, note_of, mark_of, placed, par, lev, put_note, put_mark, put_crossed, cleared}
use Rattle.rules.specs.Removal.{Sole, Cut}
use Rattle.rules.specs.Adopting.{parent_in, rooted_in, adoptable, adopted}
use Rattle.rules.specs.Reading.{above, hear, read_link, read_links, seen, accepted, lowest, reach, child_of, sole_below, sole, cut}
use Rattle.rules.specs.Known.{square}
use Rattle.rules.specs.Facts.{Standing, SameReports}
use Rattle.rules.proofs.Laws.Adopting.{adopted_stands, adopted_exact}
use Rattle.rules.proofs.Laws.Reports.{sole_exact, cut_exact, equal_reports}
use Rattle.rules.proofs.Laws.Met.{met_among}

-- Two depth-first forests of P1's links, and a reading of these links after adopting one of them.
unfoldable pub low : List ℕ
low = 0 ∷ 0 ∷ 1 ∷ 0 ∷ []

unfoldable pub high : List ℕ
high = 1 ∷ 2 ∷ 2 ∷ 0 ∷ []

abbrev read_back : List ℕ → Tables
read_back ps = read_links (cleared 4 (adopted 4 ps)) square

met_standing : Standing 4 (adopted 4 low) × Standing 4 (adopted 4 high)
unfolding low high up rooted_in every adoptable
met_standing = (adopted_stands 4 low (omega arith) tt, adopted_stands 4 high (omega arith) tt)

-- Both are accepted; 0-3 is sole and 0 is cut, by the tests,
met_tests : T (accepted 4 (read_back low)) × T (accepted 4 (read_back high)) × T (sole 4 (read_back low) 0 3) × T (cut 4 (read_back low) 0)
unfolding pick between linked up depth count some every least table parent_of rank note_of mark_of placed par lev put_note put_mark put_crossed cleared rooted_in adoptable adopted above hear read_link read_links seen accepted lowest reach child_of sole_below sole cut square low high
met_tests = (tt, tt, tt, tt)

-- and so by removal; and both report the same.
pub met_sole : Sole square 0 3
met_sole = (sole_exact met_standing.0 square met_among met_tests.0 0 3 (omega arith) (omega arith)).0 met_tests.2

pub met_cut : Cut square 0
met_cut = (cut_exact met_standing.0 square met_among met_tests.0 0 (omega arith)).0 met_tests.3

pub met_equal : SameReports 4 (read_back low) (read_back high)
met_equal = equal_reports met_standing.0 met_standing.1 square square met_among (λ u v. refl) met_tests.0 met_tests.1

-- The first is adopted, and its reading accepted; so it is a depth-first forest of P1's links.
met_adopting : (4 ≤ length low) × T (adoptable 4 low) × T (accepted 4 (read_links (adopted 4 low) square))
unfolding pick between linked up depth every table parent_of rank note_of mark_of placed par lev put_note put_mark put_crossed rooted_in adoptable adopted above hear read_link read_links seen accepted square low
met_adopting = (omega arith, tt, tt)

pub met_adopted : DepthFirst 4 (parent_in low) (linked square)
met_adopted = let (long, a, r) = met_adopting in (adopted_exact 4 low square long met_among).0 (a, r)
