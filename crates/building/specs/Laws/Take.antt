-- Take in Building: what is known where its head refuses nothing, its refusals, and what an accepted block leaves.
-- Assumes nothing.
use Rattle.std.specs.Prelude.{ℕ, zero, suc, ◌+◌, ◌-◌, ◌*◌, ◌/◌, ◌%◌, ◌≤◌, ◌≡◌, refl, Bool, true, false, ◌&&◌, not, List, [], ◌∷◌, T, ltb, eqb, take, drop, Ok, Err}
use Rattle.std.proofs.Math.Path.{sym, ap}
use Rattle.std.proofs.Common.{◌∙◌, arith, ltb→lt, drop-drop}
use Rattle.std.proofs.Math.ListN.{length}
use Rattle.base.specs.Pick.{pick_true, tests}
use Rattle.base.specs.Truth.{and_l, and_r, true_T}
use Rattle.base.specs.Answer.{gives, refuses}
use Rattle.base.specs.Link.{Link}
use Rattle.lists.specs.List.{block_links, scan_block}
use Rattle.lists.specs.Laws.Block.{scan_gives, scan_refuses}
use Rattle.rules.specs.Tables.{Tables, placed}
use Rattle.rules.specs.Building.{build_links}
use Rattle.state.specs.Layout.{moved_on, words, held_links, wiped, radix, link_in, tables_in, frag_of, held_of}
use Rattle.state.specs.Test.{is_building, all_zero, ends_fit}
use Rattle.state.specs.Call.{head_refusal, headed, moved, leaves}
use Rattle.state.specs.Take.{tell, taken, take_in}
use Rattle.state.specs.Answers.{taken_told}
use Rattle.state.proofs.Laws.Lists.{drop_take}
use Rattle.state.proofs.Laws.Layout.{tables_state}
use Rattle.state.proofs.Laws.Behind.{rest, plain_rest, plain_zero}
use Rattle.state.proofs.Laws.Lay.{frag_laid, held_laid}
use Rattle.state.proofs.Laws.Sound.{underway}
use Rattle.state.specs.declared.State.{State}
use Rattle.state.specs.declared.Stage.TheVariants.{Building}
use Rattle.pieces.specs.Pieces.{Gathers}
use Rattle.pieces.specs.Laws.Passed.{Passed, passed}
use Rattle.pieces.specs.Laws.Scratch.{pieces_back}
use Rattle.pieces.specs.Laws.Gathered.{laid_gathers, gathered_not, gathered_is}
use Rattle.building.specs.Laws.Telling.{drop_more, gatherable}
use Rattle.pieces.specs.Gathered.{holds, held_tables, with_pieces, gathered_in}
use Rattle.building.specs.Telling.{Rising, Rest, Tellable, Settles, MayTell, TellsAll}

-- Held links that pass the test stand with the smaller end first.
abbrev word_fits : ℕ → Tables → ℕ → Bool
word_fits n t x = ltb (x / radix) (x % radix) && (ltb (x % radix) n && (not (placed t (x / radix)) && not (placed t (x % radix))))

ends_rising : (n : ℕ) (t : Tables) (h : List ℕ) (m : ℕ) → m ≤ length h → T (ends_fit n t (held_links m h)) → Rising m h
unfolding ends_fit link_in
ends_rising n t [] m b e i l = absurd (omega arith)
ends_rising n t (x ∷ h) zero b e i l = absurd (omega arith)
ends_rising n t (x ∷ h) (suc m) b e zero l = ltb→lt _ _ (and_l (ltb (x / radix) (x % radix)) _ (and_l (word_fits n t x) _ e))
ends_rising n t (x ∷ h) (suc m) b e (suc i) l = ends_rising n t h m (omega arith) (and_r (word_fits n t x) _ e) i (omega arith)

-- A block that was scanned tells links.
pub block_rest : (n entries : ℕ) (block : List ℕ) (count : ℕ) → gives count ≡ scan_block n entries block → Rest n entries block 0
unfolding block_links
block_rest n entries block count e = let (links, p, q) = scan_gives n entries block count (sym e) in record { links = links; are = p }

-- Words from c on that are 0 are 0 from d on.
zeros_drop : (m : ℕ) (l : List ℕ) → T (all_zero l) → T (all_zero (drop m l))
unfolding all_zero
zeros_drop zero l t = t
zeros_drop (suc m) [] t = t
zeros_drop (suc m) (x ∷ l) t = zeros_drop m l (and_r (eqb x 0) (all_zero l) t)

zeros_on : (c d : ℕ) (l : List ℕ) → c ≤ d → T (all_zero (drop c l)) → T (all_zero (drop d l))
zeros_on c d l b t =
    let e : d ≡ c + (d - c) = omega arith in
    rw (e, ← drop-drop (d - c) c l) (zeros_drop (d - c) (drop c l) t)

-- A table that is the same from d on, up to b.
same_on : (d b : ℕ) (h h' : List ℕ) → d ≤ b → drop d h' ≡ drop d h → drop d (take b h') ≡ drop d (take b h)
same_on d b h h' l e =
    let z : d + (b - d) ≡ b = omega arith in
    ap (λ i. drop d (take i h')) (sym z) ∙ drop_take d (b - d) h' ∙ ap (λ x. take (b - d) x) e ∙ sym (drop_take d (b - d) h) ∙ ap (λ i. drop d (take i h)) z

-- The answers of take. Its first step leaves the fragment table g and the refusal r.
module _ (s : State) (f h block g : List ℕ) (same : g ≡ gathered_in s f h) (r : ℕ) (er : r ≡ head_refusal is_building s f h) where
  pub take_head : (r ≡ 0 → ⊥) → taken_told s (Err (record { number = r; place = 0 })) g h ≡ take_in is_building s f h block
  unfolding take_in headed
  take_head d = rw (same ∙ sym (gathered_not s f h (λ z. d (er ∙ z))), ← er) (simp tests)

  module _ (none : r ≡ 0) where
    take_on : taken s f h (block_links s.n s.entries block) ≡ take_in is_building s f h block
    unfolding take_in headed
    take_on = rw (← er, none) (simp tests)

    pub take_passed : Passed s f h
    take_passed = passed s f h (sym er ∙ none)

    open take_passed use {bounds, stage, found}

    in_building : is_building s.stage ≡ true
    in_building = ap is_building stage

    same_tables : held_tables s.n s.held f h ≡ tables_in s f h
    same_tables = tables_state s (holds s.n s.held) f h refl refl (sym (found.agrees.uncrossed (λ x. (rw stage at x))))

    held_rising : Rising s.held h
    unfolding tables_in
    held_rising = ends_rising s.n (tables_in s f h) h s.held (omega (arith, bounds, found.agrees.held_room)) found.agrees.ends_fit_lem

    scratch : T (all_zero (rest s.n f))
    scratch = plain_zero s.stage s.n (tables_in s f h) f (λ x. (rw stage at x)) found.back

    tellable : Tellable s.n s.k s.held f h
    tellable = record {
      few_fragments = bounds.fragments;
      some_room = bounds.some_room;
      few_room = bounds.room;
      long = bounds.frag_long;
      held_long = bounds.held_long;
      underway = rw same_tables (underway s (tables_in s f h) found.agrees (true_T (is_building s.stage) in_building));
      as_many = rw same_tables (sym found.agrees.as_many);
      rising = held_rising;
      blank = scratch;
    }

    laid_here : g ≡ with_pieces s.n (held_links s.held h) f
    laid_here = same ∙ sym (gathered_is s f h (sym er ∙ none))

    gathers : Gathers s.n f h s.held g
    gathers = rw laid_here (laid_gathers (gatherable tellable))

    pub take_tells : MayTell s.n s.k s.held g h
    take_tells = record { found = f; tellable = tellable; gathers = gathers }

    -- A block that is refused leaves the table as it was found.
    pub take_refused : (number place : ℕ) → refuses number place ≡ scan_block s.n s.entries block → (f' : List ℕ) → f' ≡ wiped (4 * s.n) (7 * s.n) g → taken_told s (Err (record { number = number; place = place })) f' h ≡ take_in is_building s f h block
    unfolding taken
    take_refused number place e f' w =
        let back : f' ≡ f = w ∙ pieces_back s.n f g bounds.frag_long scratch gathers.kept in
        rw back (rw (scan_refuses s.n s.entries block (λ z. omega (arith, bounds)) bounds.fragments number place (sym e)) at take_on)

    -- The state to go on with.
    abbrev after : (count held : ℕ) → State
    after count held = moved_on s Building s.passes (s.entries + count) held false

    module _ (links : List Link) (held : ℕ) (f' h' : List ℕ) (S : Settles s.n s.k s.held f h held f' h' (build_links s.n s.k (held_tables s.n s.held f h) links)) where
      abbrev t : Tables
      t = tell s (tables_in s f h) links

      told_is : build_links s.n s.k (held_tables s.n s.held f h) links ≡ t
      unfolding tell
      told_is = rw (in_building, pick_true, same_tables)

      tables_are : tables_in (after (length links) held) f' h' ≡ t
      tables_are = tables_state (holds s.n held) (after (length links) held) f' h' refl refl refl ∙ S.tables ∙ told_is

      as_many : length t.held ≡ held
      as_many = rw (← told_is) S.as_many

      crossed_is : t.crossed ≡ false
      unfolding tables_in
      crossed_is = sym (ap (λ x. x.crossed) tables_are)

      frag_is : f' ≡ frag_of s.stage s.n t f
      frag_is =
          let long : words * s.n ≤ length f' = omega (arith, bounds, S.frag_length) in
          frag_laid (after (length links) held) f f' h' t tables_are long (plain_rest Building s.n t f' (λ x. x) long S.blank) S.frag_past ∙ ap (λ g. frag_of g s.n t f) (sym stage)

      held_is : h' ≡ held_of s.n s.k t h
      held_is =
          held_laid (after (length links) held) f' h h' t tables_are S.room (omega (arith, bounds, S.held_length))
          (rw (same_on held (s.k * s.n) h h' S.room S.held_past) (zeros_on s.held held (take (s.k * s.n) h) S.more found.unused))
          (drop_more held (s.k * s.n) h h' S.room S.held_past)

      moved_is : after (length links) held ≡ moved s.stage s.passes (s.entries + length links) t s
      unfolding moved
      moved_is = λ i. record { n = s.n; k = s.k; stage = sym stage i; passes = s.passes; entries = s.entries + length links; held = sym as_many i; crossed = sym crossed_is i }

      accepted : taken_told s (Ok (after (length links) held)) f' h' ≡ taken s f h (gives links)
      unfolding taken leaves moved
      accepted = λ i. record { answer = gives tt; state = moved_is i; frag = frag_is i; held = held_is i }

    pub take_accepted : (count : ℕ) → gives count ≡ scan_block s.n s.entries block → (x held : ℕ) (f' h' : List ℕ) → x ≡ count
        → TellsAll s.n s.k s.held s.entries block g h held f' h' → taken_told s (Ok (after x held)) f' h' ≡ take_in is_building s f h block
    unfolding block_links
    take_accepted count e x held f' h' ex D =
        let (links, p, q) = scan_gives s.n s.entries block count (sym e) in
        ap (λ c. taken_told s (Ok (after c held)) f' h') (ex ∙ q) ∙ accepted links held f' h' (D f tellable gathers links p) ∙ sym (ap (taken s f h) p) ∙ take_on
