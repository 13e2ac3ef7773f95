-- The answers of take in Reading.
-- Assumes nothing.
use Rattle.std.specs.Prelude.{ℕ, ◌+◌, ◌≤◌, ◌≡◌, Bool, List, Ok, Err}
use Rattle.std.proofs.Math.Path.{refl, sym, ap}
use Rattle.std.proofs.Common.{◌∙◌, arith}
use Rattle.std.proofs.Math.ListN.{length}
use Rattle.base.specs.Pick.{pick_false}
use Rattle.base.specs.Truth.{false_T}
use Rattle.base.specs.Answer.{gives, refuses}
use Rattle.base.specs.Link.{Link}
use Rattle.rules.specs.Tables.{Tables}
use Rattle.rules.specs.Reading.{read_links}
use Rattle.rules.proofs.Laws.Tables.{SameForest}
use Rattle.lists.specs.List.{block_links, scan_block}
use Rattle.lists.specs.Laws.Block.{scan_gives, scan_refuses}
use Rattle.lists.specs.Theorems.{accepted_count}
use Rattle.state.specs.Layout.{moved_on, held_links, tables_in, frag_of, held_of}
use Rattle.state.specs.Test.{is_building, is_reading}
use Rattle.state.specs.Call.{head_refusal, leaves, moved}
use Rattle.state.specs.Take.{tell, taken, take_in}
use Rattle.state.specs.Answers.{taken_told}
use Rattle.state.proofs.Laws.Answers.{headed_refused, headed_passed}
use Rattle.state.proofs.Laws.Behind.{behind_same}
use Rattle.state.proofs.Laws.Lay.{frag_kept, held_laid}
use Rattle.state.specs.declared.State.{State}
use Rattle.reading.specs.Tell.{crossed_in, Reads, Given, links_of}
use Rattle.testing.specs.Laws.Head.{Passed}
use Rattle.reading.specs.Pass.{told}
use Rattle.reading.specs.Laws.Tell.{kept_forest}

-- What the scan of a block says of its links.
pub record Scanned (n entries : ℕ) (block : List ℕ) (count : ℕ) : Type 0 where
  pub given : Given n entries block
  pub counted : count ≡ length given.links

pub scanned : (n entries : ℕ) (block : List ℕ) (count : ℕ) → gives count ≡ scan_block n entries block → Scanned n entries block count
scanned n entries block count e =
    let (ls, p, z) = scan_gives n entries block count (sym e) in
    record { given = record { links = ls; are = p }; counted = z }

pub scanned_few : {n entries : ℕ} {block : List ℕ} {count : ℕ} → Scanned n entries block count → count ≤ 16777215
scanned_few {n} {entries} {block} s = omega (arith, s.counted, accepted_count n entries block s.given.links s.given.are)

module _ (s : State) (f h block : List ℕ) (r : ℕ) (e : r ≡ head_refusal is_reading s f h) where
  pub take_refused : (r ≡ 0 → ⊥) → taken_told s (Err (record { number = r; place = 0 })) f h ≡ take_in is_reading s f h block
  unfolding take_in
  take_refused d = headed_refused is_reading s f h _ r e d

  module _ (z : r ≡ 0) where
    pub take_bad : Passed s f h → (number place : ℕ) → refuses number place ≡ scan_block s.n s.entries block
        → taken_told s (Err (record { number = number; place = place })) f h ≡ take_in is_reading s f h block
    unfolding take_in taken
    take_bad p number place q = sym (ap (taken s f h) (scan_refuses s.n s.entries block (λ x. omega (arith, p.bounds)) p.bounds.fragments number place (sym q))) ∙ headed_passed is_reading s f h _ r e z

    module _ (p : Passed s f h) (crossed : Bool) (f' : List ℕ) (entries count : ℕ) (sc : Scanned s.n s.entries block count)
        (o : Reads s.n s.crossed f crossed f' (links_of (block_links s.n s.entries block))) (ec : entries ≡ s.entries + count) where
      abbrev links : List Link
      links = sc.given.links

      q : block_links s.n s.entries block ≡ gives links
      q = sc.given.are

      g : Reads s.n s.crossed f crossed f' links
      unfolding links_of
      g = rw q at o

      c : entries ≡ s.entries + length links
      c = omega (arith, sc.counted)

      none : s.held ≡ 0
      none = p.found.agrees.none_held (false_T (is_building s.stage) p.settled)

      no_links : (s' : State) (g' : List ℕ) → s'.n ≡ s.n → s'.held ≡ 0 → tables_in s' g' h ≡ crossed_in s.n s'.crossed g'
      unfolding tables_in
      no_links s' g' en eh = rw (en, eh)

      reads : tables_in (told s crossed entries) f' h ≡ read_links (tables_in s f h) links
      reads = no_links (told s crossed entries) f' refl none ∙ g.tables ∙ ap (λ (t : Tables). read_links t links) (sym (no_links s f refl none))

      told_is : tell s (tables_in s f h) links ≡ tables_in (told s crossed entries) f' h
      unfolding tell
      told_is = rw (p.settled, pick_false) (sym reads)

      frag_left : f' ≡ frag_of s.stage s.n (tables_in (told s crossed entries) f' h) f
      unfolding tables_in
      frag_left =
          let e = kept_forest g.kept in
          let same : SameForest (tables_in s f h) (tables_in (told s crossed entries) f' h) = record { same_parent = sym e.same_parent; same_level = sym e.same_level } in
          frag_kept (told s crossed entries) f f' h _ refl (omega (arith, p.bounds.frag_long, g.kept.long)) (p.found.back ∙ behind_same same s.stage s.n) g.kept.rest

      held_left : h ≡ held_of s.n s.k (tables_in (told s crossed entries) f' h) h
      held_left = held_laid (told s crossed entries) f' h h _ refl p.found.agrees.held_room p.bounds.held_long p.found.unused refl

      left : taken_told s (Ok (told s crossed entries)) f' h
          ≡ leaves tt (moved s.stage s.passes (s.entries + length links) (tables_in (told s crossed entries) f' h) s) (tables_in (told s crossed entries) f' h) f h
      unfolding leaves moved tables_in
      left =
          let m : s.held ≡ length (held_links s.held h) = rw none in
          λ i. record {
            answer = gives tt;
            state = moved_on s s.stage s.passes (c i) (m i) crossed;
            frag = frag_left i;
            held = held_left i;
          }

      pub take_on : (x : State) → x ≡ told s crossed entries → taken_told s (Ok x) f' h ≡ take_in is_reading s f h block
      unfolding take_in taken
      take_on x ex =
          ap (λ (y : State). taken_told s (Ok y) f' h) ex ∙ left ∙ ap (λ (t : Tables). leaves tt (moved s.stage s.passes (s.entries + length links) t s) t f h) (sym told_is)
          ∙ sym (ap (taken s f h) q) ∙ headed_passed is_reading s f h _ r e z
