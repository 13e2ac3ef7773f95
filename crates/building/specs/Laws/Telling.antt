-- What a told link leaves in the two tables, their pieces in scratch: a note, a held link, a lost mark, or nothing.
-- Assumes nothing.
use Prim.Native.Nat.{ℕ, zero, suc, ◌+◌, ◌-◌, ◌*◌, ◌≤◌, ◌<◌, min, max}
use Rattle.std.specs.Prelude.{◌≡◌, Bool, T, ltb, length, set, take, drop, replicate}
use Rattle.std.proofs.Math.Path.{refl, sym, ap}
use Rattle.std.proofs.Common.{◌∙◌, true≢false, arith, add-one, get_or-set_same, take-take, drop-drop, take_at}
use Rattle.std.proofs.Math.Bool.{true, false}
use Rattle.std.proofs.lemmas.Bool.{false≢true}
use mathlib.Core.List.{List, [], ◌∷◌, ◌++◌}
use Rattle.std.proofs.Math.Logic.{inl, inr}
use Rattle.std.proofs.Math.Decide.{ℕ_discrete}
use Rattle.std.proofs.Math.Nat.{mul-le-mul}
use Rattle.std.proofs.Math.ListN.{get_or, length-set, length-append}
use Rattle.std.proofs.lemmas.List.{length-replicate, set-get_or}
use Rattle.std.proofs.Math.Seq.{get_or-set_other, drop-set-lt}
use Rattle.base.specs.Pick.{pick, pick_true, pick_false, tests}
use Rattle.base.specs.Answer.{Answer, gives, refuses}
use Rattle.lists.specs.List.{scan_link, links_at}
use Rattle.lists.specs.Laws.Link.{Accepted, link_read, link_told_lem}
use Rattle.lists.specs.Laws.Block.{links_end, walked, next_given}
use Rattle.base.specs.Truth.{T_true, T_false}
use Rattle.base.specs.Link.{Link}
use Rattle.rules.specs.Links.{linked}
use Rattle.rules.specs.Tables.{Tables, rank, note_of, placed, put_mark, put_held}
use Rattle.rules.specs.Building.{pieces, better, note_link, hold, fill, hold_link, build_link, build_links}
use Rattle.rules.proofs.Laws.Facts.{Underway, Loose}
use Rattle.rules.proofs.Laws.Pieces.{linked_label, label_in, label_own}
use Rattle.rules.proofs.Laws.Tables.{placed_loose, rank_placed}
use Rattle.rules.proofs.Laws.Quota.{held_few}
use Rattle.rules.proofs.Laws.Step.{building_kept}
use Rattle.state.specs.Layout.{wiped, words, stored, word_of, link_word, tables_in, forest_in, held_links}
use Rattle.state.specs.Test.{all_zero}
use Rattle.state.proofs.Laws.Clear.{wiped_length, wiped_front, wiped_rest, wiped_past}
use Rattle.state.proofs.Laws.Lists.{zeros_pass}
use Rattle.state.proofs.Laws.Words.{link_word_lem}
use Rattle.state.proofs.Laws.Layout.{store_note, store_mark, store_held, tables_frag_same}
use Rattle.pieces.specs.Joined.{found, joined}
use Rattle.pieces.specs.Pieces.{held_most, Gathered, Finds, Gatherable, Gathers}
use Rattle.building.specs.Noted.{Ends, Noted, Apart, Askable, Answers, Learnable, Unnoted}
use Rattle.differing.specs.Laws.Scratch.{blank_at}
use Rattle.pieces.specs.Laws.Pieces.{front_at, rest_at, gathered_by}
use Rattle.building.specs.Laws.Noted.{noted_none, noted_keeps}
use Rattle.pieces.specs.Laws.Ways.{finds_by}
use Rattle.pieces.specs.Laws.Gather.{joined_joins, link_there}
use Rattle.pieces.specs.Gathered.{holds, held_tables}
use Rattle.tables.specs.Laws.Links.{word_within}
use Rattle.building.specs.Telling.{Rising, Telling, Leaves, noting, Notable, room_at, Sized, Holdable, Holds, Between, Within, MayHold, Rest, Tells, Tellable, Told}

-- The better note in its place.
module _ {n u p : ℕ} {f : List ℕ} (N : Notable n u p f) where
  pub note_stored : (x y : ℕ) → y ≡ note_of (forest_in n f) u → x ≡ better (forest_in n f) y (p + 1) → set f (2 * n + u) x ≡ noting n u p f
  unfolding noting
  note_stored x y e z = rw (z, e, add-one)

pub room_is : (n k p : ℕ) (f : List ℕ) (x y : ℕ) → x ≡ get_or f (6 * n + p) 0 → y ≡ get_or f (5 * n + p) 0 → ltb x (k * (y + 1) - 1) ≡ room_at n k p f
unfolding room_at
room_is n k p f x y d e = rw (d, e, add-one)

-- A table that goes on as another from one word goes on so from a later one.
pub drop_more : (c d : ℕ) (h h' : List ℕ) → c ≤ d → drop c h' ≡ drop c h → drop d h' ≡ drop d h
drop_more c d h h' l e =
    let z : d ≡ c + (d - c) = omega arith in
    rw z (sym (drop-drop (d - c) c h') ∙ ap (λ x. drop (d - c) x) e ∙ drop-drop (d - c) c h)

-- Where only the sections of the links noted change, the stored ones and the pieces stand.
module _ {n : ℕ} {f f' : List ℕ} (A : Apart n f f') where
  apart_stored : take (stored * n) f' ≡ take (stored * n) f
  apart_stored = sym (take-take (stored * n) (7 * n) f' (omega arith)) ∙ ap (λ x. take (stored * n) x) A.before ∙ take-take (stored * n) (7 * n) f (omega arith)

  apart_gathered : (held : List Link) → Gathered n held f → Gathered n held f'
  apart_gathered held G = gathered_by n held f f' A.same_long (λ i l g. front_at (7 * n) f f' A.before i g) G

module _ {n k count : ℕ} {f h : List ℕ} (S : Telling n k count f h) where
  abbrev t : Tables
  t = held_tables n count f h

  pub leaves_same : Leaves n k count f h count f h t
  leaves_same = record { telling = S; tables = refl; frag_length = refl; frag_past = refl; held_length = refl; held_past = refl; more = omega arith }

  -- Words in scratch changed, and the pieces and the links noted stand there.
  leaves_scratch : (f' : List ℕ) → length f' ≡ length f → take (stored * n) f' ≡ take (stored * n) f → drop (words * n) f' ≡ drop (words * n) f → Gathered n t.held f' → Noted n t.held f' → Leaves n k count f h count f' h t
  leaves_scratch f' l e d G N =
      let same : held_tables n count f' h ≡ t = tables_frag_same (holds n count) f f' h e in
      record {
        telling = record {
          few_fragments = S.few_fragments;
          some_room = S.some_room;
          few_room = S.few_room;
          long = omega (arith, S.long);
          held_long = S.held_long;
          underway = rw same S.underway;
          gathered = rw same G;
          as_many = rw same S.as_many;
          rising = S.rising;
          noted = rw same N;
        };
        tables = same;
        frag_length = l;
        frag_past = d;
        held_length = refl;
        held_past = refl;
        more = omega arith;
      }

  leaves_found : (v r : ℕ) (f' : List ℕ) → Finds n v f r f' → Leaves n k count f h count f' h t
  leaves_found v r f' F =
      leaves_scratch f' F.kept.same_length F.kept.before (drop_more (7 * n) (words * n) f f' (omega arith) F.kept.behind)
      (F.stays t.held S.gathered) (noted_keeps n t.held f f' F.kept.same_length F.kept.behind S.noted)

  leaves_asked : (a b : ℕ) (r : Bool) (f' : List ℕ) → Answers n count a b f h r f' → Leaves n k count f h count f' h t
  unfolding tables_in
  leaves_asked a b r f' A = leaves_scratch f' A.apart.same_long (apart_stored A.apart) A.apart.past (apart_gathered A.apart t.held S.gathered) A.noted

  -- A store in a stored section.
  leaves_stored : (i x : ℕ) (t' : Tables) → i < stored * n → held_tables n count (set f i x) h ≡ t' → Underway n k t' → Leaves n k count f h count (set f i x) h t'
  unfolding tables_in
  leaves_stored i x t' l e u = record {
    telling = record {
      few_fragments = S.few_fragments;
      some_room = S.some_room;
      few_room = S.few_room;
      long = omega (arith, S.long, length-set f i x);
      held_long = S.held_long;
      underway = rw e u;
      gathered = gathered_by n _ f (set f i x) (length-set f i x) (λ j p q. get_or-set_other f i j x 0 (λ z. omega arith)) S.gathered;
      as_many = S.as_many;
      rising = S.rising;
      noted = noted_keeps n _ f (set f i x) (length-set f i x) (drop-set-lt (7 * n) f i x (omega arith)) S.noted;
    };
    tables = e;
    frag_length = length-set f i x;
    frag_past = drop-set-lt (words * n) f i x (omega arith);
    held_length = refl;
    held_past = refl;
    more = omega arith;
  }

  -- Which fragments are placed.
  ranks_loose : (v x : ℕ) → x ≡ rank (forest_in n f) v → x ≡ 0 → Loose t v
  unfolding tables_in rank
  ranks_loose v x e z = sym e ∙ z

  ranks_placed : (v x : ℕ) → x ≡ rank (forest_in n f) v → (x ≡ 0 → ⊥) → placed t v ≡ true
  unfolding tables_in rank
  ranks_placed v x e d = T_true (placed t v) (rank_placed t v (omega arith))

  loose_not : (v : ℕ) → Loose t v → placed t v ≡ false
  loose_not v e = T_false (placed t v) (λ q. placed_loose t v q e)

  note_few : (u x : ℕ) → note_of t u ≡ x → x ≤ n
  note_few u zero e = omega arith
  note_few u (suc x) e = omega (arith, (S.underway.noting u x e).1)

  pub notable : (u p : ℕ) → u < n → p < n → Notable n u p f
  unfolding tables_in note_of
  notable u p l q = record {
    few_fragments = S.few_fragments;
    long = S.long;
    first = l;
    second = q;
    note_in = note_few u _ refl;
  }

  noting_tables : (u p : ℕ) → u < n → held_tables n count (noting n u p f) h ≡ note_link u p t
  unfolding noting note_link tables_in note_of better rank
  noting_tables u p l = store_note (holds n count) f h u _ l

  leaves_noted : (u p : ℕ) → u < n → Underway n k (note_link u p t) → Leaves n k count f h count (noting n u p f) h (note_link u p t)
  unfolding noting
  leaves_noted u p l U = leaves_stored (2 * n + u) _ (note_link u p t) (omega arith) (noting_tables u p l) U

  -- One link more.
  module _ {a b : ℕ} (E : Ends n a b) where
    build_kept : Underway n k (build_link n k t (a, b))
    build_kept = building_kept E.first E.second E.differ S.underway

    leaves_note : (u p : ℕ) → u < n → build_link n k t (a, b) ≡ note_link u p t → (f' : List ℕ) → f' ≡ noting n u p f → Leaves n k count f h count f' h (build_link n k t (a, b))
    leaves_note u p l e f' z = rw (z, e) (leaves_noted u p l (rw e at build_kept))

    both_loose : Loose t a → Loose t b → build_link n k t (a, b) ≡ hold_link n k a b t
    unfolding build_link
    both_loose p q = rw (loose_not a p, loose_not b q) (simp pick_false)

    -- By the ranks x and y of its ends.
    module _ (x y : ℕ) (ex : x ≡ rank (forest_in n f) a) (ey : y ≡ rank (forest_in n f) b) where
      pub build_skip : (x ≡ 0 → ⊥) → (y ≡ 0 → ⊥) → Leaves n k count f h count f h (build_link n k t (a, b))
      unfolding build_link
      build_skip p q = rw (ranks_placed a x ex p, ranks_placed b y ey q) (simp pick_true leaves_same)

      pub build_note_second : (x ≡ 0 → ⊥) → y ≡ 0 → (f' : List ℕ) → f' ≡ noting n b a f → Leaves n k count f h count f' h (build_link n k t (a, b))
      unfolding build_link
      build_note_second p q = leaves_note b a E.second (rw (ranks_placed a x ex p, loose_not b (ranks_loose b y ey q), pick_true, pick_false))

      pub build_note_first : x ≡ 0 → (y ≡ 0 → ⊥) → (f' : List ℕ) → f' ≡ noting n a b f → Leaves n k count f h count f' h (build_link n k t (a, b))
      unfolding build_link
      build_note_first p q = leaves_note a b E.first (rw (loose_not a (ranks_loose a x ex p), ranks_placed b y ey q, pick_false, pick_true))

      module _ (p : x ≡ 0) (q : y ≡ 0) where
        pub build_between : Between n k count a b f h
        build_between = record { telling = S; ends = E; loose_first = ranks_loose a x ex p; loose_second = ranks_loose b y ey q }

        pub build_hold : {count' : ℕ} {f' h' : List ℕ} → Leaves n k count f h count' f' h' (hold_link n k a b t) → Leaves n k count f h count' f' h' (build_link n k t (a, b))
        build_hold L = rw (both_loose (ranks_loose a x ex p) (ranks_loose b y ey q)) L

-- One thing told after another.
pub leaves_next : {n k c₀ c c' : ℕ} {f₀ h₀ f h f' h' : List ℕ} {t t' : Tables} → Leaves n k c₀ f₀ h₀ c f h t → Leaves n k c f h c' f' h' t' → Leaves n k c₀ f₀ h₀ c' f' h' t'
leaves_next {n} {k} {c₀} {c} {c'} {f₀} {h₀} {f} {h} L M = record {
  telling = M.telling;
  tables = M.tables;
  frag_length = M.frag_length ∙ L.frag_length;
  frag_past = M.frag_past ∙ L.frag_past;
  held_length = M.held_length ∙ L.held_length;
  held_past = M.held_past ∙ drop_more c c' h₀ h M.more L.held_past;
  more = omega (arith, L.more, M.more);
}

pub leaves_as : {n k c c' : ℕ} {f h f' h' : List ℕ} {t t' : Tables} → Leaves n k c f h c' f' h' t → t ≡ t' → Leaves n k c f h c' f' h' t'
leaves_as L e = rw (← e) L

-- A link between two unplaced fragments.
module _ {n k count a b : ℕ} {f h : List ℕ} (B : Between n k count a b f h) where
  open B use {telling as S, ends as E}

  abbrev t' : Tables
  t' = held_tables n count f h

  abbrev l : List ℕ
  l = pieces n t'.held

  hold_kept : Underway n k (hold_link n k a b t')
  hold_kept = rw (both_loose S E B.loose_first B.loose_second) at (build_kept S E)

  held_there : count ≤ length h
  held_there = omega (arith, held_few n k t' S.underway.holding, S.as_many, S.held_long)

  pub askable : Askable n count a b f h
  unfolding tables_in
  askable = record {
    some = omega (arith, E.first);
    few_fragments = S.few_fragments;
    long = S.long;
    there = held_there;
    ends = E;
    inside = λ i g. (S.rising i g, (S.underway.holding.ends _ _ (link_there h count i g held_there)).1);
    noted = S.noted;
  }

  -- It is the same link where only scratch changed.
  between_next : {f' : List ℕ} → Leaves n k count f h count f' h t' → Between n k count a b f' h
  between_next L = record { telling = L.telling; ends = E; loose_first = rw L.tables B.loose_first; loose_second = rw L.tables B.loose_second }

  pub may_next : {f' f'' : List ℕ} {r : Bool} → Leaves n k count f h count f' h t' → MayHold n k count a b f' h r f'' → MayHold n k count a b f h r f''
  may_next L M = record {
    same = λ e. leaves_next L (leaves_as (M.same e) L.tables);
    new = λ e. (rw L.tables at (M.new e));
    left = λ e. leaves_next L (leaves_as (M.left e) (ap (hold_link n k a b) L.tables));
  }

  -- The smallest members p and q of its ends' pieces are found. Where they differ it is not held already: a held link's ends have one label.
  module _ (p q : ℕ) (f₁ f₂ : List ℕ) (ep : (p, f₁) ≡ found n a f) (eq : (q, f₂) ≡ found n b f₁) where
    P : Finds n a f p f₁
    P = finds_by p f₁ ep S.gathered.pointing E.first

    Q : Finds n b f₁ q f₂
    Q = finds_by q f₂ eq P.pointing E.second

    label_first : p ≡ get_or l a 0
    label_first = P.label t'.held S.gathered

    label_second : q ≡ get_or l b 0
    label_second = Q.label t'.held (P.stays t'.held S.gathered)

    pub found_leaves : Leaves n k count f h count f₂ h t'
    found_leaves =
        let L = leaves_found S a p f₁ P in
        leaves_next L (leaves_as (leaves_found L.telling b q f₂ Q) L.tables)

    pub found_apart : (p ≡ q → ⊥) → MayHold n k count a b f h true f₂
    unfolding hold_link
    found_apart d =
        let two : get_or l a 0 ≡ get_or l b 0 → ⊥ = λ e. d (label_first ∙ e ∙ sym label_second) in
        let none : linked t'.held a b ≡ false = T_false _ (λ s. two (linked_label n t'.held S.gathered.inside a b s)) in
        record {
          same = λ e. found_leaves;
          new = λ e. rw (none, pick_false) (simp tests);
          left = λ e. absurd (true≢false e);
        }

    pub found_within : p ≡ q → Within n k count p a b f₂ h
    found_within e = record {
      between = between_next found_leaves;
      first = rw found_leaves.tables (sym label_first);
      second = rw found_leaves.tables (sym label_second ∙ sym e);
    }

    -- In one piece, what may be told of it then may be told of it before.
    pub found_next : {f' : List ℕ} {r : Bool} → p ≡ q → (Within n k count p a b f₂ h → MayHold n k count a b f₂ h r f') → MayHold n k count a b f h r f'
    found_next e m = may_next found_leaves (m (found_within e))

-- A link inside the piece with smallest member p.
module _ {n k count p a b : ℕ} {f h : List ℕ} (W : Within n k count p a b f h) where
  open W use {between as B}
  open B use {telling as S, ends as E}

  abbrev t₁ : Tables
  t₁ = held_tables n count f h

  own : (p < n) × (get_or (pieces n t₁.held) p 0 ≡ p)
  own =
      let i = S.gathered.inside in
      (rw W.first at (label_in n t₁.held i a E.first), rw W.first at (label_own n t₁.held i a E.first))

  pub within_sized : Sized n k p f
  within_sized = record { few_fragments = S.few_fragments; some_room = S.some_room; few_room = S.few_room; long = S.long; in_range = own.0 }

  -- By whether it is held and whether there is room.
  within_is : (r : Bool) → r ≡ room_at n k p f → hold_link n k a b t₁ ≡ pick (linked t₁.held a b) t₁ (pick r (hold a b t₁) (put_mark p t₁))
  unfolding hold_link fill room_at
  within_is r e =
      rw (e, S.gathered.links p own.0 own.1, S.gathered.size p own.0 own.1, W.first, W.second) (simp tests)

  -- Full and lost: nothing changes.
  pub within_lost : false ≡ room_at n k p f → get_or f (3 * n + p) 0 ≡ 1 → MayHold n k count a b f h false f
  unfolding pick
  within_lost e z =
      let again : put_mark p t₁ ≡ t₁ = sym (store_mark (holds n count) f h p own.0) ∙ ap (λ x. held_tables n count x h) (rw z at (set-get_or f (3 * n + p) 0)) in
      let same : (x : Bool) → pick x t₁ (put_mark p t₁) ≡ t₁ = λ x. elim x as (λ x. pick x t₁ (put_mark p t₁) ≡ t₁) [ true ↦ refl | false ↦ again ] in
      record {
        same = λ x. absurd (false≢true x);
        new = λ x. absurd (false≢true x);
        left = λ x. leaves_as (leaves_same S) (sym (within_is false e ∙ same (linked t₁.held a b)));
      }

  -- By the answer r whether it is held.
  module _ (r : Bool) (f' : List ℕ) (A : Answers n count a b f h r f') where
    asked_leaves : Leaves n k count f h count f' h t₁
    asked_leaves = leaves_asked S a b r f' A

    asked_is : r ≡ linked t₁.held a b
    unfolding tables_in
    asked_is = A.held

    pub within_held : r ≡ true → MayHold n k count a b f h false f'
    unfolding hold_link
    within_held e = record {
      same = λ x. absurd (false≢true x);
      new = λ x. absurd (false≢true x);
      left = λ x. leaves_as asked_leaves (sym (rw (← asked_is, e, pick_true)));
    }

    module _ (none : r ≡ false) where
      pub within_room : true ≡ room_at n k p f → MayHold n k count a b f h true f'
      within_room e = record {
        same = λ x. asked_leaves;
        new = λ x. within_is true e ∙ rw (← asked_is, none, pick_false, pick_true);
        left = λ x. absurd (true≢false x);
      }

      pub within_full : false ≡ room_at n k p f → MayHold n k count a b f h false (set f' (3 * n + p) 1)
      within_full e =
          let lost : hold_link n k a b t₁ ≡ put_mark p t₁ = within_is false e ∙ rw (← asked_is, none, pick_false, pick_false) in
          let M = asked_leaves.telling in
          let marked : held_tables n count (set f' (3 * n + p) 1) h ≡ put_mark p t₁ = store_mark (holds n count) f' h p own.0 ∙ ap (put_mark p) asked_leaves.tables in
          record {
            same = λ x. absurd (false≢true x);
            new = λ x. absurd (false≢true x);
            left = λ x. leaves_next asked_leaves (leaves_as (leaves_stored M (3 * n + p) 1 (put_mark p t₁) (omega (arith, own.0)) marked (rw lost at (hold_kept B))) (sym lost));
          }

-- A new link that is held.
module _ {n k count a b : ℕ} {f₀ f h : List ℕ} (B₀ : Between n k count a b f₀ h) {r : Bool} (M : MayHold n k count a b f₀ h r f) (yes-it : r ≡ true) where
  B : Between n k count a b f h
  B = between_next B₀ (M.same yes-it)

  open B use {telling as S, ends as E}

  abbrev t₂ : Tables
  t₂ = held_tables n count f h

  held_is : hold_link n k a b t₂ ≡ hold a b t₂
  held_is = rw (M.same yes-it).tables (M.new yes-it)

  room : length t₂.held < k * n
  unfolding hold put_held
  room =
      let U : Underway n k (hold a b t₂) = rw held_is at (hold_kept B) in
      omega (arith, held_few n k (hold a b t₂) U.holding, length-append t₂.held ((min a b, max a b) ∷ []))

  few_held : length t₂.held < held_most
  few_held = omega (arith, room, mul-le-mul S.few_room S.few_fragments)

  pub holdable : Holdable n count a b f h
  holdable = record {
    few_fragments = S.few_fragments;
    ends = E;
    there = omega (arith, room, S.as_many, S.held_long);
    joinable = record {
      held = t₂.held;
      gathered = S.gathered;
      room = few_held;
      one = omega (arith, E);
      two = omega (arith, E);
    };
  }

  module _ (f' h' : List ℕ) (H : Holds n count a b f h f' h') where
    held_noted : Noted n t₂.held f'
    held_noted = noted_keeps n t₂.held f f' H.joins.kept.same_length H.joins.kept.behind S.noted

    pub learnable : Learnable n a b f'
    learnable = record {
      some = omega (arith, E.first);
      few_fragments = S.few_fragments;
      long = omega (arith, S.long, H.joins.kept.same_length);
      ends = E;
      held = t₂.held;
      noted = held_noted;
    }

    module _ (f'' : List ℕ) (N : (held : List Link) → Noted n held f' → Noted n (held ++ ((min a b, max a b) ∷ [])) f'') (A : Apart n f' f'') where
      held_tables_lem : held_tables n (count + 1) f'' h' ≡ hold a b t₂
      unfolding hold
      held_tables_lem =
          tables_frag_same (holds n (count + 1)) f f'' h' (apart_stored A ∙ H.joins.kept.before)
          ∙ ap (λ x. held_tables n (count + 1) f x) H.word
          ∙ store_held (holds n count) (holds n (count + 1)) f h refl (word_of (min a b, max a b)) refl refl holdable.there
          ∙ ap (λ x. put_held (t₂.held ++ (x ∷ [])) t₂) (link_word_lem (min a b) (max a b) (omega (arith, S.few_fragments, E)))

      held_gathered : Gathered n (hold a b t₂).held f''
      unfolding hold put_held
      held_gathered = apart_gathered A _ (H.joins.more t₂.held few_held S.gathered)

      held_noted_more : Noted n (hold a b t₂).held f''
      unfolding hold put_held
      held_noted_more = N t₂.held held_noted

      held_many : length (hold a b t₂).held ≡ count + 1
      unfolding hold put_held
      held_many = omega (arith, length-append t₂.held ((min a b, max a b) ∷ []), S.as_many)

      held_rising : Rising (count + 1) h'
      held_rising i g =
          let w = word_of (min a b, max a b) in
          rw H.word (elim (ℕ_discrete i count) [
            | yes e ↦ rw (e, get_or-set_same h count w 0 holdable.there, link_word_lem (min a b) (max a b) (omega (arith, S.few_fragments, E))) (omega (arith, E.differ))
            | no d ↦ rw (get_or-set_other h count i w 0 d) (S.rising i (omega arith))
          ])

      held_leaves : Leaves n k count f h (count + 1) f'' h' (hold_link n k a b t₂)
      held_leaves =
          let long : length f'' ≡ length f = A.same_long ∙ H.joins.kept.same_length in
          let hlong : length h' ≡ length h = ap length H.word ∙ length-set h count (word_of (min a b, max a b)) in
          rw held_is (record {
            telling = record {
              few_fragments = S.few_fragments;
              some_room = S.some_room;
              few_room = S.few_room;
              long = omega (arith, S.long, long);
              held_long = omega (arith, S.held_long, hlong);
              underway = rw (held_tables_lem, ← held_is) (hold_kept B);
              gathered = rw held_tables_lem held_gathered;
              as_many = rw held_tables_lem held_many;
              rising = held_rising;
              noted = rw held_tables_lem held_noted_more;
            };
            tables = held_tables_lem;
            frag_length = long;
            frag_past = A.past ∙ drop_more (7 * n) (words * n) f f' (omega arith) H.joins.kept.behind;
            held_length = hlong;
            held_past = ap (λ x. drop (count + 1) x) H.word ∙ drop-set-lt (count + 1) h count (word_of (min a b, max a b)) (omega arith);
            more = omega arith;
          })

      pub hold_more : Leaves n k count f₀ h (count + 1) f'' h' (hold_link n k a b (held_tables n count f₀ h))
      hold_more = leaves_next (M.same yes-it) (leaves_as held_leaves (ap (hold_link n k a b) (M.same yes-it).tables))

-- A link is held with its smaller end first.
module _ {n count a b : ℕ} {f h h' : List ℕ} (H : Holdable n count a b f h) (z : h' ≡ set h count (link_word a b)) where
  held_word : h' ≡ set h count (word_of (min a b, max a b))
  held_word = z ∙ ap (λ x. set h count x) (word_within a b (omega (arith, H.few_fragments, H.ends.first)) (omega (arith, H.few_fragments, H.ends.second)))

  pub holds_rising : {f' : List ℕ} → a < b → f' ≡ joined n a b f → Holds n count a b f h f' h'
  holds_rising {f'} l j =
      let e : min a b ≡ a = omega arith in
      let g : max a b ≡ b = omega arith in
      let z : f' ≡ joined n (min a b) (max a b) f = rw (e, g) j in
      record { word = held_word; joins = rw z (joined_joins H.joinable) }

  pub holds_falling : {f' : List ℕ} → b ≤ a → f' ≡ joined n b a f → Holds n count a b f h f' h'
  holds_falling {f'} l j =
      let e : min a b ≡ b = omega arith in
      let g : max a b ≡ a = omega arith in
      let z : f' ≡ joined n (min a b) (max a b) f = rw (e, g) j in
      record { word = held_word; joins = rw z (joined_joins H.joinable) }

-- Before byte `at` the block's links are told; those from there on lead to what the whole block leaves.
pub record Midway (n k first entries : ℕ) (block f₀ h₀ : List ℕ) (count : ℕ) (f h : List ℕ) (told at : ℕ) : Type 0 where
  pub rest : Rest n told block at
  pub leaves : Leaves n k first f₀ h₀ count f h (held_tables n count f h)
  pub left : (links : List Link) → links_at n entries block 0 ≡ gives links → build_links n k (held_tables n count f h) rest.links ≡ build_links n k (held_tables n first f₀ h₀) links

one_answer : {x : Answer (List Link)} {l m : List Link} → x ≡ gives l → x ≡ gives m → l ≡ m
one_answer p q = cc

pub midway_starts : {n k first entries : ℕ} {block f h : List ℕ} → Telling n k first f h → Rest n entries block 0 → Midway n k first entries block f h first f h entries 0
midway_starts {n} {k} {first} {entries} {block} {f} {h} S R = record {
  rest = R;
  leaves = leaves_same S;
  left = λ links e. ap (build_links n k (held_tables n first f h)) (one_answer R.are e);
}

module _ {n k first entries : ℕ} {block f₀ h₀ : List ℕ} {count : ℕ} {f h : List ℕ} {told at : ℕ} (M : Midway n k first entries block f₀ h₀ count f h told at) where
  pub midway_bad : (number place : ℕ) → at < length block → scan_link n told block at ≡ refuses number place → ⊥
  midway_bad number place l e = next_given n block M.leaves.telling.few_fragments told at M.rest.links M.rest.are l number place e

  pub midway_end : length block ≤ at → Tells n k first entries block f₀ h₀ count f h
  unfolding build_links
  midway_end l links e =
      let none : M.rest.links ≡ [] = one_answer M.rest.are (links_end n block told at l) in
      leaves_as M.leaves (sym (ap (build_links n k (held_tables n count f h)) none) ∙ M.left links e)

  module _ (a b next : ℕ) (e : scan_link n told block at ≡ gives (record { link = (a, b); next = next })) where
    pub midway_link : Accepted n told block at (record { link = (a, b); next = next })
    midway_link = link_told_lem n told block at _ e

    pub midway_ends : Ends n a b
    midway_ends = record { first = midway_link.first; second = midway_link.second; differ = midway_link.differ }

    pub midway_next : {count' : ℕ} {f' h' : List ℕ} → Leaves n k count f h count' f' h' (build_link n k (held_tables n count f h) (a, b)) → Midway n k first entries block f₀ h₀ count' f' h' (told + 1) next
    unfolding build_links
    midway_next {count'} {f'} {h'} L = elim (walked n block told at M.rest.links M.rest.are) [
      | inl (z, q) ↦ absurd (omega (arith, midway_link))
      | inr (l, ms, q, r, z) ↦
          let read = link_read n told block at _ e in
          let same : l ≡ record { link = (a, b); next = next } = cc (q, read) in
          let R : links_at n (told + 1) block next ≡ gives ms = rw same at r in
          let here : M.rest.links ≡ (a, b) ∷ ms = z ∙ ap (λ x. x.link ∷ ms) same in
          record {
            rest = record { links = ms; are = R };
            leaves = leaves_as (leaves_next M.leaves L) (sym L.tables);
            left = λ links g. ap (λ x. build_links n k x ms) L.tables ∙ sym (ap (build_links n k (held_tables n count f h)) here) ∙ M.left links g;
          }
    ]

-- The whole block: the pieces stand gathered, and scratch is cleared at the end.
module _ (from to : ℕ) (l : List ℕ) (b : from ≤ to) (g : to ≤ length l) where
  wiped_zero : T (all_zero (take (to - from) (drop from (wiped from to l))))
  wiped_zero = rw (wiped_rest from to l b g, take_at (replicate (to - from) 0) (drop to l) (to - from) (length-replicate (to - from) 0)) (zeros_pass (to - from))

module _ {n k count : ℕ} {f h : List ℕ} (W : Tellable n k count f h) where
  open W use {few_fragments, some_room, few_room, long, held_long, underway, as_many, rising, blank}

  few_links : count ≤ k * n
  few_links = omega (arith, held_few n k (held_tables n count f h) underway.holding)

  pub gatherable : Gatherable n f h count
  unfolding tables_in
  gatherable = record {
    few_fragments = few_fragments;
    long = long;
    blank = blank;
    few = omega (arith, few_links, mul-le-mul few_room few_fragments);
    there = omega (arith, few_links);
    inside = λ u v s. let e = underway.holding.ends u v s in (e.0, e.1);
  }

  module _ (g : List ℕ) (G : Gathers n f h count g) where
    same_tables : held_tables n count g h ≡ held_tables n count f h
    same_tables = tables_frag_same (holds n count) f g h G.kept.before

    links_same : (held_tables n count g h).held ≡ held_links count h
    unfolding tables_in
    links_same = refl

    pub unnoted : Unnoted n count g h
    unfolding tables_in
    unnoted = record {
      few_fragments = few_fragments;
      long = omega (arith, G.kept.same_length);
      empty = λ i l q. rest_at (7 * n) f g G.kept.behind i l ∙ blank_at n f long blank i (omega arith) q;
      there = omega (arith, few_links);
      inside = λ i l. (rising i l, (underway.holding.ends _ _ (link_there h count i l (omega (arith, few_links)))).1);
    }

    gathered_telling : Telling n k count g h
    gathered_telling = record {
      few_fragments = few_fragments;
      some_room = some_room;
      few_room = few_room;
      long = unnoted.long;
      held_long = held_long;
      underway = rw same_tables underway;
      gathered = rw links_same G.gathered;
      as_many = rw same_tables as_many;
      rising = rising;
      noted = noted_none n _ g unnoted.long unnoted.empty;
    }

    module _ (g' : List ℕ) (N : Noted n (held_links count h) g') (A : Apart n g g') where
      noted_leaves : Leaves n k count g h count g' h (held_tables n count g h)
      noted_leaves =
          leaves_scratch gathered_telling g' A.same_long (apart_stored A) A.past (apart_gathered A _ gathered_telling.gathered) (rw links_same N)

      pub noted_telling : Telling n k count g' h
      noted_telling = noted_leaves.telling

      pub told_settles : (entries : ℕ) (block : List ℕ) {count' : ℕ} {f' h' : List ℕ} → Tells n k count entries block g' h count' f' h' → (f'' : List ℕ) → f'' ≡ wiped (4 * n) (16 * n) f' → Told n k count entries block f h count' f'' h'
      told_settles entries block {count'} {f'} {h'} D f'' w links e =
          let L = D links e in
          let S = L.telling in
          let kept : held_tables n count' (wiped (4 * n) (16 * n) f') h' ≡ held_tables n count' f' h' =
          tables_frag_same (holds n count') f' (wiped (4 * n) (16 * n) f') h' (wiped_front (4 * n) (16 * n) f' (omega arith) S.long) in
          let z : 16 * n - 4 * n ≡ 12 * n = omega arith in
          let all : build_links n k (held_tables n count g' h) links ≡ build_links n k (held_tables n count f h) links = ap (λ x. build_links n k x links) (noted_leaves.tables ∙ same_tables) in
          rw w (record {
            tables = kept ∙ L.tables ∙ all;
            blank = rw z at (wiped_zero (4 * n) (16 * n) f' (omega arith) S.long);
            frag_length = wiped_length (4 * n) (16 * n) f' (omega arith) S.long ∙ L.frag_length ∙ A.same_long ∙ G.kept.same_length;
            frag_past = wiped_past (4 * n) (16 * n) f' (omega arith) S.long ∙ L.frag_past ∙ A.past ∙ drop_more (7 * n) (16 * n) f g (omega arith) G.kept.behind;
            held_length = L.held_length;
            held_past = L.held_past;
            more = L.more;
            room = omega (arith, held_few n k (held_tables n count' f' h') S.underway.holding, S.as_many);
            as_many = rw (← all, ← L.tables) S.as_many;
          })
