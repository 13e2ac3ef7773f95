-- What the stores of a walk change, and that its loop makes the walk of the rules.
-- Assumes nothing.
use Prim.Native.Nat.{ℕ, zero, suc, pred, ◌+◌, ◌-◌, ◌*◌, ◌≤◌, ◌<◌}
use Rattle.std.specs.Prelude.{◌≡◌, refl, not, ◌≢◌, ltb, eqb, set}
use Rattle.std.proofs.Math.Path.{sym, ap}
use Rattle.std.proofs.Common.{◌∙◌, inr}
use mathlib.Core.List.{List}
use native.Mathlib.Omega.{arith}
use Rattle.std.proofs.Math.Decide.{ℕ_discrete, dec_lt}
use Rattle.std.proofs.Math.Numerals.{add-one}
use borrow.Author.Tests.{eq-eqb, ne_eqb}
use Rattle.std.proofs.Math.Dec.{T, not_T, T_not}
use Rattle.std.proofs.Math.ListN.{length, get_or, drop, length-set}
use Rattle.std.proofs.Math.Seq.{drop-set-lt, get_or-set_same, get_or-set_other}
use Rattle.base.specs.Pick.{pick, pick_true, pick_false, pick_all, tests}
use Rattle.base.specs.Truth.{and_intro, and_r}
use Rattle.rules.specs.Links.{linked, JoinedBy, here}
use Rattle.rules.specs.Tables.{Tables, parent_of, rank, placed, place}
use Rattle.rules.specs.Building.{Walk, pieces, member, hang, next_of, reach_next, go_back, walk_step, walk_steps, walked}
use Rattle.rules.proofs.Laws.Facts.{Standing, Loose}
use Rattle.rules.proofs.Laws.Chain.{join, one}
use Rattle.rules.proofs.Laws.Search.{some_count, count_one_more}
use Rattle.rules.proofs.Laws.Pieces.{Inside, joined_label, member_intro}
use Rattle.rules.proofs.Laws.Tables.{placed_loose, place_held, placed_place_same, placed_place_other, standing_same, standing_place, rank_most}
use Rattle.rules.proofs.Laws.Walk.{step_on, step_back, back_at, back_rest, steps_suc, steps_rest, next_new}
use Rattle.state.specs.Layout.{words, tables_in, forest_in}
use Rattle.state.proofs.Laws.Layout.{level_word, parent_word, store_place, store_scratch}
use Rattle.closing.specs.Arranged.{links_in, start_of, least_of, smaller_at, Arranged, Frame}
use Rattle.closing.specs.Walk.{Placed, greater_of, smaller_of, Behind, cursors_at, entered_at, Seekable, Seeks, put_at, hung_at, reached_at, deeper, Reachable, waits, unreached, Walkable, WalkLeaves}
use Rattle.pieces.specs.Gathered.{held_tables, holds}
use Rattle.closing.specs.Laws.Seeking.{arranged_wide, smaller_in, placed_word, word_placed}

-- What is known of the forest alone.
pub bare_standing : (n c : ℕ) (f h : List ℕ) → Standing n (held_tables n c f h) → Standing n (forest_in n f)
unfolding tables_in
bare_standing n c f h S = standing_same (record { same_parent = refl; same_level = refl }) S.long_note S.long_mark S

pub bare_rank : (n c : ℕ) (f h : List ℕ) (v : ℕ) → rank (forest_in n f) v ≡ rank (held_tables n c f h) v
unfolding tables_in rank
bare_rank n c f h v = refl

pub bare_parent : (n c : ℕ) (f h : List ℕ) (v : ℕ) → parent_of (forest_in n f) v ≡ parent_of (held_tables n c f h) v
unfolding tables_in parent_of
bare_parent n c f h v = refl

pub bare_placed : (n c : ℕ) (f h : List ℕ) (v : ℕ) → placed (forest_in n f) v ≡ placed (held_tables n c f h) v
unfolding tables_in rank placed
bare_placed n c f h v = refl

-- The answers of a fragment reached.
module _ (n at x deepest : ℕ) (f : List ℕ) where
  pub deeper_new : get_or f (n + deepest) 0 < get_or f (n + at) 0 + 1 → x ≡ deeper n at x deepest f
  unfolding deeper
  deeper_new l =
      let g : get_or f (n + deepest) 0 < suc (get_or f (n + at) 0) = omega arith in
      simp tests

  pub deeper_old : get_or f (n + at) 0 + 1 ≤ get_or f (n + deepest) 0 → deepest ≡ deeper n at x deepest f
  unfolding deeper
  deeper_old l =
      let g : suc (get_or f (n + at) 0) ≤ get_or f (n + deepest) 0 = omega arith in
      simp tests

pub reached_put : (n at x : ℕ) (f g g' : List ℕ) → g ≡ put_at n x at (get_or f (n + at) 0 + 1) f → g' ≡ entered_at n x g → g' ≡ reached_at n at x f
unfolding reached_at
reached_put n at x f g g' e d = d ∙ ap (λ (k : List ℕ). entered_at n x k) (e ∙ ap (λ (r : ℕ). put_at n x at r f) (add-one (get_or f (n + at) 0)))

-- What the stores change of the tables.
module _ (n c : ℕ) (f h : List ℕ) where
  put_tables : (v p r : ℕ) → v < n → held_tables n c (put_at n v p r f) h ≡ place v p r (held_tables n c f h)
  unfolding put_at
  put_tables v p r l = store_place (holds n c) f h v r l p

  cursors_tables : (v g s : ℕ) → held_tables n c (cursors_at n v g s f) h ≡ held_tables n c f h
  unfolding cursors_at
  cursors_tables v g s = store_scratch (holds n c) (set f (14 * n + v) g) h (15 * n + v) s (omega arith) ∙ store_scratch (holds n c) f h (14 * n + v) g (omega arith)

  deeper_is : (at x d : ℕ) → at < n → d < n → deeper n at x d f ≡ pick (ltb (rank (held_tables n c f h) d) (suc (rank (held_tables n c f h) at))) x d
  unfolding deeper
  deeper_is at x d l g = rw (level_word (holds n c) f h at l, level_word (holds n c) f h d g)

  pub hung_tables : (top note : ℕ) → top < n → note ≤ n → held_tables n c (hung_at n top note f) h ≡ hang top note (held_tables n c f h)
  unfolding hung_at hang
  hung_tables top note l g = elim (ℕ_discrete note 0) [
    | yes e ↦ rw (eq-eqb note 0 e, pick_true, pick_true) (put_tables top top 1 l)
    | no d ↦ rw (ne_eqb note 0 d, pick_false, pick_false, level_word (holds n c) f h (pred note) (omega arith)) (put_tables top (pred note) (suc (rank (held_tables n c f h) (pred note))) l)
  ]

reached_tables : (n c : ℕ) (f h : List ℕ) (at x : ℕ) → at < n → x < n → held_tables n c (reached_at n at x f) h ≡ place x at (suc (rank (held_tables n c f h) at)) (held_tables n c f h)
unfolding reached_at entered_at
reached_tables n c f h at x l g =
    cursors_tables n c (put_at n x at (suc (get_or f (n + at) 0)) f) h x _ _
    ∙ ap (λ (r : ℕ). held_tables n c (put_at n x at (suc r) f) h) (level_word (holds n c) f h at l)
    ∙ put_tables n c f h x at (suc (rank (held_tables n c f h) at)) g

-- They change nothing but the sections of the parents and the levels.
module _ (n : ℕ) (f : List ℕ) where
  put_kept : (v p r : ℕ) → v < n → drop (2 * n) (put_at n v p r f) ≡ drop (2 * n) f
  unfolding put_at
  put_kept v p r l = drop-set-lt (2 * n) (set f v p) (n + v) r (omega arith) ∙ drop-set-lt (2 * n) f v p (omega arith)

  put_long : (v p r : ℕ) → length (put_at n v p r f) ≡ length f
  unfolding put_at
  put_long v p r = simp length-set

  pub hung_kept : (top note : ℕ) → top < n → drop (2 * n) (hung_at n top note f) ≡ drop (2 * n) f
  unfolding hung_at
  hung_kept top note l = pick_all (λ g. drop (2 * n) g ≡ drop (2 * n) f) (eqb note 0) _ _ (put_kept top top 1 l) (put_kept top (pred note) _ l)

  pub hung_long : (top note : ℕ) → length (hung_at n top note f) ≡ length f
  unfolding hung_at
  hung_long top note = pick_all (λ (g : List ℕ). length g ≡ length f) (eqb note 0) _ _ (put_long top top 1) (put_long top (pred note) _)

  pub hung_root : (top note : ℕ) → note ≡ 0 → put_at n top top 1 f ≡ hung_at n top note f
  unfolding hung_at
  hung_root top note e = simp tests

  pub hung_under : (top note : ℕ) → (note ≡ 0 → ⊥) → put_at n top (note - 1) (get_or f (n + (note - 1)) 0 + 1) f ≡ hung_at n top note f
  unfolding hung_at
  hung_under top note d =
      let e : note - 1 ≡ pred note = omega arith in
      rw (e, add-one, ne_eqb note 0 d, pick_false)

-- Nothing but two words changes where a fragment is placed or its cursors are kept.
pub frame_trans : {n a b : ℕ} {f g k : List ℕ} → Frame n a b f g → Frame n a b g k → Frame n a b f k
frame_trans F G = record {
  same_long = G.same_long ∙ F.same_long;
  within = λ i p q. G.within i p q ∙ F.within i p q;
  past = λ i p. G.past i p ∙ F.past i p;
}

module _ (n : ℕ) (f : List ℕ) (v : ℕ) (l : v < n) where
  module _ (p r : ℕ) where
    put_same : (i : ℕ) → i ≢ v → i ≢ n + v → get_or (put_at n v p r f) i 0 ≡ get_or f i 0
    unfolding put_at
    put_same i a b = get_or-set_other (set f v p) (n + v) i r 0 b ∙ get_or-set_other f v i p 0 a

    put_parent : words * n ≤ length f → get_or (put_at n v p r f) v 0 ≡ p
    unfolding put_at
    put_parent b = get_or-set_other (set f v p) (n + v) v r 0 (omega arith) ∙ get_or-set_same f v p 0 (omega arith)

    put_level : words * n ≤ length f → get_or (put_at n v p r f) (n + v) 0 ≡ r
    unfolding put_at
    put_level b = get_or-set_same (set f v p) (n + v) r 0 (simp length-set (omega arith))

    put_frame : Frame n 2 14 f (put_at n v p r f)
    put_frame = record {
      same_long = put_long n f v p r;
      within = λ i a b. put_same i (omega arith) (omega arith);
      past = λ i a. put_same i (omega arith) (omega arith);
    }

  module _ (g s : ℕ) where
    cursors_same : (i : ℕ) → i ≢ 14 * n + v → i ≢ 15 * n + v → get_or (cursors_at n v g s f) i 0 ≡ get_or f i 0
    unfolding cursors_at
    cursors_same i a b = get_or-set_other (set f (14 * n + v) g) (15 * n + v) i s 0 b ∙ get_or-set_other f (14 * n + v) i g 0 a

    cursors_greater : words * n ≤ length f → greater_of n (cursors_at n v g s f) v ≡ g
    unfolding cursors_at
    cursors_greater b = get_or-set_other (set f (14 * n + v) g) (15 * n + v) (14 * n + v) s 0 (omega arith) ∙ get_or-set_same f (14 * n + v) g 0 (omega arith)

    cursors_smaller : words * n ≤ length f → smaller_of n (cursors_at n v g s f) v ≡ s
    unfolding cursors_at
    cursors_smaller b = get_or-set_same (set f (14 * n + v) g) (15 * n + v) s 0 (simp length-set (omega arith))

    cursors_frame : Frame n 2 14 f (cursors_at n v g s f)
    unfolding cursors_at
    cursors_frame = record {
      same_long = simp length-set;
      within = λ i a b. cursors_same i (omega arith) (omega arith);
      past = λ i a. cursors_same i (omega arith) (omega arith);
    }

-- Links stay arranged while sections 4 to 6 do not change.
pub arranged_kept : {n c : ℕ} {h₀ f h : List ℕ} → Arranged n c h₀ f h → 0 < n → (f' : List ℕ) → length f' ≡ length f → ((i : ℕ) → 4 * n ≤ i → i < 7 * n → get_or f' i 0 ≡ get_or f i 0) → Arranged n c h₀ f' h
arranged_kept {n} {c} {h₀} {f} {h} A some f' long same = record {
  few = A.few;
  long = omega (arith, A.long);
  there = A.there;
  among = A.among;
  ordered = λ v l. omega (arith, A.ordered v l, start v (omega arith), start (suc v) l);
  last = omega (arith, A.last, start n (omega arith));
  smaller = λ v i l a b. A.smaller v i l (from v i l a) (to v i l b);
  rising = λ v i j l a g b. A.rising v i j l (from v i l a) g (to v j l b);
  found = λ v w g t.
      let l : v < n = (A.among w v t).1 in
      let (i, a, b, e) = A.found v w g t in
      (i, omega (arith, start v (omega arith)), omega (arith, start (suc v) l), e);
  no_least = λ a l z. A.no_least a l (sym (least_same a l) ∙ z);
  least = λ a b l e. A.least a b l (sym (least_same a l) ∙ e);
  no_after = λ b i l p q. A.no_after b i l (from b i l p) (to b i l q);
  after = λ b i l p q. A.after b i l (from b i l p) (to b i l q);
}
  where
    start : (v : ℕ) → v ≤ n → start_of n f' v ≡ start_of n f v
    start v l = same (4 * n + v) (omega arith) (omega arith)

    least_same : (v : ℕ) → v < n → least_of n f' v ≡ least_of n f v
    least_same v l = same (6 * n + v) (omega arith) (omega arith)

    from : (v i : ℕ) → v < n → start_of n f' v ≤ i → start_of n f v ≤ i
    from v i l a = omega (arith, start v (omega arith))

    to : (v i : ℕ) → v < n → i < start_of n f' (suc v) → i < start_of n f (suc v)
    to v i l a = omega (arith, start (suc v) l)

framed_arranged : {n c : ℕ} {h₀ f f' h : List ℕ} → Arranged n c h₀ f h → 0 < n → Frame n 2 14 f f' → Arranged n c h₀ f' h
framed_arranged A some F = arranged_kept A some _ F.same_long (λ i a b. F.within i (omega arith) (omega arith))

-- A fragment on the way that the walk came: it is placed, and so is all that its cursors passed.
pub record On (n c : ℕ) (h₀ f h : List ℕ) (v : ℕ) : Type 0 where
  pub in_range : v < n
  pub is_placed : Placed n f v
  pub behind : Behind n c h₀ f h v (greater_of n f v) (smaller_of n f v)

-- What is passed stays so while more is placed.
module _ {n c : ℕ} {h₀ f h : List ℕ} (A : Arranged n c h₀ f h) {f' : List ℕ} (F : Frame n 2 14 f f') (grows : (x : ℕ) → x < n → Placed n f x → Placed n f' x) where
  behind_kept : (v g s : ℕ) → v < n → Behind n c h₀ f h v g s → Behind n c h₀ f' h v g s
  behind_kept v g s l B =
      let p = F.within (4 * n + v) (omega arith) (omega arith) in
      let q = F.within (4 * n + suc v) (omega arith) (omega arith) in
      record {
        greater = record {
          through = λ z x m t. grows x (A.among v x t).1 (B.greater.through z x m t);
          before = λ b z. let (m, t, passed) = B.greater.before b z in (m, t, λ x o k u. grows x (A.among v x u).1 (passed x o k u));
        };
        smaller = record {
          from = omega (arith, p, B.smaller.from);
          to = omega (arith, q, B.smaller.to);
          before = λ i m o. grows (smaller_at h i) (smaller_in A v i l (omega arith) (omega (arith, B.smaller.to))) (B.smaller.before i (omega arith) o);
        };
      }

  on_kept : (v g s : ℕ) → v < n → Placed n f v → greater_of n f' v ≡ g → smaller_of n f' v ≡ s → Behind n c h₀ f h v g s → On n c h₀ f' h v
  on_kept v g s l p d e B = record { in_range = l; is_placed = grows v l p; behind = rw (d, e) (behind_kept v g s l B) }

-- The cursors of v are kept.
module _ {n c : ℕ} {h₀ f h : List ℕ} (A : Arranged n c h₀ f h) (v : ℕ) (l : v < n) (g s : ℕ) where
  cursors_grow : (x : ℕ) → x < n → Placed n f x → Placed n (cursors_at n v g s f) x
  cursors_grow x m p = omega (arith, cursors_same n f v l g s (n + x) (omega arith) (omega arith))

  cursors_arranged : Arranged n c h₀ (cursors_at n v g s f) h
  cursors_arranged = framed_arranged A (omega arith) (cursors_frame n f v l g s)

  module _ (B : Behind n c h₀ f h v g s) where
    cursors_here : Placed n f v → On n c h₀ (cursors_at n v g s f) h v
    cursors_here p = on_kept A (cursors_frame n f v l g s) cursors_grow v g s l p (cursors_greater n f v l g s A.long) (cursors_smaller n f v l g s A.long) B

    cursors_on : (u : ℕ) → On n c h₀ f h u → On n c h₀ (cursors_at n v g s f) h u × (get_or (cursors_at n v g s f) u 0 ≡ get_or f u 0)
    cursors_on u O =
        let i = O.in_range in (
          elim (ℕ_discrete u v) [
            | yes e ↦ rw e (cursors_here (rw e at O.is_placed))
            | no d ↦ on_kept A (cursors_frame n f v l g s) cursors_grow u _ _ i O.is_placed (cursors_same n f v l g s (14 * n + u) (omega arith) (omega arith)) (cursors_same n f v l g s (15 * n + u) (omega arith) (omega arith)) O.behind
          ],
          cursors_same n f v l g s u (omega arith) (omega arith),
        )

-- Cursors at their start have passed nothing.
entered_behind : {n c : ℕ} {h₀ f h : List ℕ} → Arranged n c h₀ f h → (v : ℕ) → v < n → Behind n c h₀ f h v (least_of n f v) (start_of n f v)
entered_behind A v l = record {
  greater = record {
    through = λ z x m t. absurd (A.no_least v l z x m t);
    before = λ b z. let (m, t, none) = A.least v b l z in (m, t, λ x o k u. absurd (none x o k u));
  };
  smaller = record { from = omega arith; to = A.ordered v l; before = λ i m o. absurd (omega arith) };
}

-- The way that the walk came along links, from a fragment back to the top.
pub data Way (n c top : ℕ) (h₀ f h : List ℕ) : ℕ → Type 0 where
  at_top : On n c h₀ f h top → Way n c top h₀ f h top
  below : (v : ℕ) → On n c h₀ f h v → T (links_in c h₀ (get_or f v 0) v) → Way n c top h₀ f h (get_or f v 0) → Way n c top h₀ f h v

way_on : {n c top : ℕ} {h₀ f h : List ℕ} {v : ℕ} → Way n c top h₀ f h v → On n c h₀ f h v
way_on (at_top o) = o
way_on (below v o t w) = o

way_back : {n c top : ℕ} {h₀ f h : List ℕ} {v : ℕ} → Way n c top h₀ f h v → v ≢ top → Way n c top h₀ f h (get_or f v 0)
way_back (at_top o) d = absurd (d refl)
way_back (below v o t w) d = w

way_member : {n c top : ℕ} {h₀ f h : List ℕ} {v : ℕ} → Way n c top h₀ f h v → JoinedBy (links_in c h₀) top v
way_member (at_top o) = here
way_member (below v o t w) = join (way_member w) (one t)

way_kept : {n c top : ℕ} {h₀ f f' h : List ℕ} → ((u : ℕ) → On n c h₀ f h u → On n c h₀ f' h u × (get_or f' u 0 ≡ get_or f u 0)) → {v : ℕ} → Way n c top h₀ f h v → Way n c top h₀ f' h v
way_kept {top = top} k (at_top o) = at_top (k top o).0
way_kept k (below v o t w) = below v (k v o).0 (rw (k v o).1 t) (rw (k v o).1 (way_kept k w))

-- An unplaced fragment that links join with the top waits to be reached.
waits_new : (n top : ℕ) (t : Tables) → Inside n t.held → (x : ℕ) → JoinedBy (linked t.held) top x → Loose t x → T (waits n t top x)
unfolding waits
waits_new n top t inside x c z = and_intro (member (pieces n t.held) (get_or (pieces n t.held) top 0) x) (not (placed t x)) (member_intro (pieces n t.held) _ x (sym (joined_label n t.held inside top x c))) (not_T (placed t x) (λ p. placed_loose t x p z))

-- One less is unreached where it is placed.
module _ (n top : ℕ) (t : Tables) (x : ℕ) (l : x < n) (w : T (waits n t top x)) where
  waits_some : 0 < unreached n t top
  unfolding unreached
  waits_some = some_count (waits n t top) n x l w

  module _ (p r : ℕ) (long : x < length t.level) (some : 0 < r) where
    waits_no_more : T (waits n (place x p r t) top x) → ⊥
    unfolding waits
    waits_no_more q = T_not (placed (place x p r t) x) (and_r (member _ _ x) (not (placed (place x p r t) x)) q) (placed_place_same x p r t long some)

    waits_still : (k : ℕ) → k < n → k ≢ x → waits n (place x p r t) top k ≡ waits n t top k
    unfolding waits
    waits_still k g d = rw (placed_place_other x p r t k d, place_held x p r t)

    waits_less : unreached n t top ≡ suc (unreached n (place x p r t) top)
    unfolding unreached
    waits_less = count_one_more (waits n (place x p r t) top) (waits n t top) n x l waits_no_more w waits_still

-- A walk on its way: the steps that are left make it the whole walk.
abbrev walk_at : (n c : ℕ) (f h : List ℕ) (at deepest : ℕ) → Walk
walk_at n c f h at deepest = record { tables = held_tables n c f h; at = at; deepest = deepest }

pub record Going (n c top : ℕ) (f₀ h₀ h f : List ℕ) (missing left at deepest : ℕ) : Type 0 where
  pub frame : Frame n 2 14 f₀ f
  pub arranged : Arranged n c h₀ f h
  pub steps : walk_steps n top left (walk_at n c f h₀ at deepest) ≡ walked n top (held_tables n c f₀ h₀)
  pub standing : Standing n (held_tables n c f h₀)
  pub way : Way n c top h₀ f h at
  pub deep_in : deepest < n
  pub deep_placed : T (placed (held_tables n c f h₀) deepest)
  pub to_reach : unreached n (held_tables n c f h₀) top ≤ missing

-- From any table in which the top was entered, along any links.
abbrev pub Goes : (n c top missing₀ : ℕ) (f₁ h f : List ℕ) (missing left at deepest : ℕ) → Type 0
Goes n c top missing₀ f₁ h f missing left at deepest = (f₀ h₀ : List ℕ) → f₁ ≡ entered_at n top f₀ → Walkable n c top missing₀ f₀ h₀ h → Going n c top f₀ h₀ h f missing left at deepest

pub going_starts : {n c top missing : ℕ} {f h₀ h : List ℕ} → Walkable n c top missing f h₀ h → (f' : List ℕ) → f' ≡ entered_at n top f → Going n c top f h₀ h f' missing (2 * n) top top
unfolding walked entered_at
going_starts {n} {c} {top} {missing} {f} {h₀} {h} W f' e =
    let A = W.arranged in
    let l = W.top_in in
    let g = least_of n f top in
    let s = start_of n f top in
    let q = cursors_tables n c f h₀ top g s in
    rw e (record {
      frame = cursors_frame n f top l g s;
      arranged = cursors_arranged A top l g s;
      steps = rw q refl;
      standing = rw q W.standing;
      way = at_top (cursors_here A top l g s (entered_behind A top l) (placed_word n c f h₀ top l W.top_placed));
      deep_in = l;
      deep_placed = rw q W.top_placed;
      to_reach = rw q W.left;
    })

module _ {n c top : ℕ} {f₀ h₀ h f : List ℕ} {missing left at deepest : ℕ} (G : Going n c top f₀ h₀ h f missing left at deepest) where
  at_on : On n c h₀ f h at
  at_on = way_on G.way

  at_placed : T (placed (held_tables n c f h₀) at)
  at_placed = word_placed n c f h₀ at at_on.in_range at_on.is_placed

  pub going_seekable : Seekable n at f h
  going_seekable = record { in_range = at_on.in_range; count = c; told = h₀; arranged = G.arranged; behind = at_on.behind }

  -- The cursors where it is have moved on.
  pub going_seeks : (x : ℕ) (f' : List ℕ) → Seeks n at x f h f' → Going n c top f₀ h₀ h f' missing left at deepest × (x ≡ next_of n (held_tables n c f' h₀) at)
  going_seeks x f' S =
      let A = G.arranged in
      let l = at_on.in_range in
      let g = S.greater in
      let s = S.smaller in
      let q = cursors_tables n c f h₀ at g s in
      let Z = S.sought c h₀ A at_on.behind in
      rw S.stores (
        record {
          frame = frame_trans G.frame (cursors_frame n f at l g s);
          arranged = cursors_arranged A at l g s;
          steps = rw q G.steps;
          standing = rw q G.standing;
          way = way_kept (cursors_on A at l g s Z.behind) G.way;
          deep_in = G.deep_in;
          deep_placed = rw q G.deep_placed;
          to_reach = rw q G.to_reach;
        },
        rw q Z.next,
      )

  -- Where it rests, or no step is left, it is the whole walk.
  going_whole : walk_steps n top left (walk_at n c f h₀ at deepest) ≡ walk_at n c f h₀ at deepest → WalkLeaves n c top deepest f₀ h₀ f
  going_whole e =
      let w : walk_at n c f h₀ at deepest ≡ walked n top (held_tables n c f₀ h₀) = sym e ∙ G.steps in
      record {
        tables = ap (λ (x : Walk). x.tables) w;
        deep = ap (λ (x : Walk). x.deepest) w;
        deep_in = G.deep_in;
        deep_placed = G.deep_placed;
        standing = G.standing;
        frame = G.frame;
      }

  pub going_ends : left ≡ 0 → WalkLeaves n c top deepest f₀ h₀ f
  unfolding walk_steps
  going_ends e = going_whole (rw e refl)

  pub going_rests : n ≤ next_of n (held_tables n c f h₀) at → at ≡ top → WalkLeaves n c top deepest f₀ h₀ f
  going_rests g e = going_whole (steps_rest n top (walk_at n c f h₀ at deepest) (step_back n top (walk_at n c f h₀ at deepest) g ∙ back_rest top (walk_at n c f h₀ at deepest) e) left)

  pub going_reachable : (x : ℕ) → x < n → Reachable n at x deepest f
  going_reachable x l = record {
    wide = arranged_wide G.arranged;
    at_in = at_on.in_range;
    new_in = l;
    deepest_in = G.deep_in;
    level = rw (bare_rank n c f h₀ at) (rank_most G.standing at at_on.in_range);
  }

  after : 0 < left → (w : Walk) → walk_step n top (walk_at n c f h₀ at deepest) ≡ w → walk_steps n top (left - 1) w ≡ walked n top (held_tables n c f₀ h₀)
  after some w e =
      let one_more : left ≡ suc (left - 1) = omega arith in
      sym (steps_suc n top (left - 1) (walk_at n c f h₀ at deepest) e) ∙ ap (λ (k : ℕ). walk_steps n top k (walk_at n c f h₀ at deepest)) (sym one_more) ∙ G.steps

  pub going_back : 0 < left → n ≤ next_of n (held_tables n c f h₀) at → at ≢ top → Going n c top f₀ h₀ h f missing (left - 1) (get_or f at 0) deepest
  unfolding go_back
  going_back some g d = record {
    frame = G.frame;
    arranged = G.arranged;
    steps = after some (walk_at n c f h₀ (get_or f at 0) deepest) (step_back n top (walk_at n c f h₀ at deepest) g ∙ ap (λ (x : ℕ). walk_at n c f h₀ x deepest) (back_at top (walk_at n c f h₀ at deepest) d ∙ sym (parent_word (holds n c) f h₀ at at_on.in_range)));
    standing = G.standing;
    way = way_back G.way d;
    deep_in = G.deep_in;
    deep_placed = G.deep_placed;
    to_reach = G.to_reach;
  }

  module _ (x : ℕ) (e : x ≡ next_of n (held_tables n c f h₀) at) (l : x < n) where
    new_linked : T (links_in c h₀ at x)
    unfolding tables_in
    new_linked = rw e (next_new n (held_tables n c f h₀) at (rw e at l)).0

    new_loose : Loose (held_tables n c f h₀) x
    new_loose = rw e (next_new n (held_tables n c f h₀) at (rw e at l)).1

    new_waits : T (waits n (held_tables n c f h₀) top x)
    unfolding tables_in
    new_waits =
        waits_new n top (held_tables n c f h₀) (λ u v t. let (a, b, d) = G.arranged.among u v t in (a, b)) x (join (way_member G.way) (one new_linked)) new_loose

    -- One is missing as long as another is found.
    pub going_missing : 0 < missing
    going_missing = omega (arith, waits_some n top (held_tables n c f h₀) x l new_waits, G.to_reach)

    reach_is : walk_step n top (walk_at n c f h₀ at deepest) ≡ walk_at n c (reached_at n at x f) h₀ x (deeper n at x deepest f)
    unfolding reach_next
    reach_is =
        step_on n top (walk_at n c f h₀ at deepest) (rw e at l)
        ∙ rw (← e, reached_tables n c f h₀ at x at_on.in_range l, deeper_is n c f h₀ at x deepest at_on.in_range G.deep_in)

    level_long : x < length (held_tables n c f h₀).level
    level_long = omega (arith, G.standing.long_level)

    placed_still : (v : ℕ) → T (placed (held_tables n c f h₀) v) → T (placed (held_tables n c (reached_at n at x f) h₀) v)
    placed_still v p =
        let t = held_tables n c f h₀ in
        rw (reached_tables n c f h₀ at x at_on.in_range l, placed_place_other x at (suc (rank t at)) t v (λ q. placed_loose t v p (rw q new_loose))) p

    new_placed : T (placed (held_tables n c (reached_at n at x f) h₀) x)
    new_placed = rw (reached_tables n c f h₀ at x at_on.in_range l) (placed_place_same x at (suc (rank (held_tables n c f h₀) at)) (held_tables n c f h₀) level_long (omega arith))

    -- x is placed, and its cursors are not kept yet.
    abbrev put : List ℕ
    put = put_at n x at (suc (get_or f (n + at) 0)) f

    other : (u : ℕ) → u < n → Placed n f u → u ≢ x
    other u m p q = omega (arith, ap (λ (k : ℕ). get_or f (n + k) 0) q, level_word (holds n c) f h₀ x l, new_loose)

    put_grow : (u : ℕ) → u < n → Placed n f u → Placed n put u
    put_grow u m p =
        let d = other u m p in
        omega (arith, put_same n f x l at (suc (get_or f (n + at) 0)) (n + u) (omega arith) (omega arith))

    put_on : (u : ℕ) → On n c h₀ f h u → On n c h₀ put h u × (get_or put u 0 ≡ get_or f u 0)
    put_on u O =
        let i = O.in_range in
        let d = other u i O.is_placed in
        let same = put_same n f x l at (suc (get_or f (n + at) 0)) in
        (on_kept G.arranged (put_frame n f x l at _) put_grow u _ _ i O.is_placed (same (14 * n + u) (omega arith) (omega arith)) (same (15 * n + u) (omega arith) (omega arith)) O.behind, same u d (omega arith))

    put_arranged : Arranged n c h₀ put h
    put_arranged = framed_arranged G.arranged (omega arith) (put_frame n f x l at _)

    reached_frame : Frame n 2 14 f (reached_at n at x f)
    unfolding reached_at entered_at
    reached_frame = frame_trans (put_frame n f x l at _) (cursors_frame n put x l _ _)

    reached_arranged : Arranged n c h₀ (reached_at n at x f) h
    unfolding reached_at entered_at
    reached_arranged = cursors_arranged put_arranged x l _ _

    reached_way : Way n c top h₀ (reached_at n at x f) h x
    unfolding reached_at entered_at
    reached_way =
        let g = least_of n put x in
        let s = start_of n put x in
        let B = entered_behind put_arranged x l in
        let q = G.arranged.long in
        let parent : get_or (cursors_at n x g s put) x 0 ≡ at = cursors_same n put x l g s x (omega arith) (omega arith) ∙ put_parent n f x l at _ q in
        below x (cursors_here put_arranged x l g s B (omega (arith, put_level n f x l at (suc (get_or f (n + at) 0)) q)))
        (rw parent new_linked)
        (rw parent (way_kept (cursors_on put_arranged x l g s B) (way_kept put_on G.way)))

    reached_on : 0 < left → Going n c top f₀ h₀ h (reached_at n at x f) (missing - 1) (left - 1) x (deeper n at x deepest f)
    unfolding deeper
    reached_on some = record {
      frame = frame_trans G.frame reached_frame;
      arranged = reached_arranged;
      steps = after some (walk_at n c (reached_at n at x f) h₀ x (deeper n at x deepest f)) reach_is;
      standing = rw (reached_tables n c f h₀ at x at_on.in_range l) (standing_place x at (suc (rank (held_tables n c f h₀) at)) G.standing l new_loose (inr (at_on.in_range, at_placed, refl)));
      way = reached_way;
      deep_in = pick_all (λ d. d < n) (ltb (get_or f (n + deepest) 0) (suc (get_or f (n + at) 0))) x deepest l G.deep_in;
      deep_placed = pick_all (λ d. T (placed (held_tables n c (reached_at n at x f) h₀) d)) (ltb (get_or f (n + deepest) 0) (suc (get_or f (n + at) 0))) x deepest new_placed (placed_still deepest G.deep_placed);
      to_reach = rw (reached_tables n c f h₀ at x at_on.in_range l) (omega (arith, waits_less n top (held_tables n c f h₀) x l new_waits at (suc (rank (held_tables n c f h₀) at)) level_long (omega arith), G.to_reach));
    }

    pub going_on : 0 < left → (f' : List ℕ) (d : ℕ) → d ≡ deeper n at x deepest f → f' ≡ reached_at n at x f → Going n c top f₀ h₀ h f' (missing - 1) (left - 1) x d
    going_on some f' d e g = rw (e, g) (reached_on some)

  -- Nothing is next where none is missing.
  none_next : missing ≡ 0 → n ≤ next_of n (held_tables n c f h₀) at
  none_next z = elim (dec_lt (next_of n (held_tables n c f h₀) at) n) [
    | yes l ↦ absurd (omega (arith, going_missing _ refl l))
    | no l ↦ omega arith
  ]

-- Where none is missing the rest of the walk only goes back to the top.
pub going_done : {n c top : ℕ} {f₀ h₀ h f : List ℕ} {missing at deepest : ℕ} (left : ℕ) → Going n c top f₀ h₀ h f missing left at deepest → missing ≡ 0 → WalkLeaves n c top deepest f₀ h₀ f
going_done zero G z = going_ends G refl
going_done {top = top} {at = at} (suc k) G z = elim (ℕ_discrete at top) [
  | yes e ↦ going_rests G (none_next G z) e
  | no d ↦
      let one_less : suc k - 1 ≡ k = omega arith in
      going_done k (rw one_less at (going_back G (omega arith) (none_next G z) d)) z
]
