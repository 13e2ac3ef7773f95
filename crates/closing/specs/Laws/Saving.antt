-- A piece placed: all of its walk, or the path alone where its members' forest is saved and brought back.
-- Assumes nothing.
use Rattle.std.specs.Prelude.{ℕ, zero, suc, ◌+◌, ◌-◌, ◌*◌, ◌≤◌, ◌<◌, ◌≡◌, refl, Bool, true, ◌&&◌, not, ◌≢◌, T, eqb, length, get_or, drop}
use Rattle.std.proofs.Math.Path.{sym}
use Rattle.std.proofs.Common.{ap, ◌∙◌, subst, inr, arith, mul-le-mul_right, ne_eqb, eqb→eq, ext_get_or}
use mathlib.Core.List.{List}
use Rattle.std.proofs.Math.Decide.{ℕ_discrete}
use Rattle.std.proofs.Math.Dec.{eqb_refl, not_T, T_not}
use Rattle.base.specs.Pick.{pick_all}
use Rattle.base.specs.Truth.{and_intro, and_l, and_r, T_ext}
use Rattle.base.specs.Link.{Link}
use Rattle.rules.specs.Links.{linked, JoinedBy, here}
use Rattle.rules.specs.Search.{count}
use Rattle.rules.specs.Tables.{Tables, parent_of, rank, placed, place}
use Rattle.rules.specs.Building.{Walk, pieces, member, size_of, hang, walked, place_path}
use Rattle.rules.proofs.Laws.Facts.{Walked}
use Rattle.rules.proofs.Laws.Search.{count_mono, count_one_more}
use Rattle.rules.proofs.Laws.Pieces.{joined_label, member_intro}
use Rattle.rules.proofs.Laws.Walk.{walk}
use Rattle.rules.proofs.Laws.Tables.{rank_most, parent_of_place_same, parent_of_place_other, rank_place_same, rank_place_other, place_length, place_held}
use Rattle.state.specs.Layout.{section, tables_in}
use Rattle.state.proofs.Laws.Layout.{section_length, section_at, tables_are, parent_word, level_word}
use Rattle.closing.specs.Arranged.{Frame}
use Rattle.closing.specs.Closing.{labels_in, label_at, Chained, Copies, saved_at, Beside, Climbable, Climbs, Hanging, walk_of, PathLeaves, WholeLeaves}
use Rattle.closing.specs.Walk.{Wide, hung_at, Hangable, waits, unreached, Walkable, WalkLeaves}
use Rattle.pieces.specs.Gathered.{held_tables, holds}
use Rattle.closing.specs.Laws.Choosing.{label_by}
use Rattle.closing.specs.Laws.Walking.{bare_standing, bare_rank, bare_placed, hung_tables, hung_kept, hung_long}
use Rattle.closing.specs.Laws.Frames.{section_by, frame_join, low_frame, narrow, wide_by, beside_section, chained_by, arranged_beside}

-- The path placed in two tables, one fragment at a time.
abbrev Alike : Tables → Tables → ℕ → Type 0
Alike s t u = (parent_of s u ≡ parent_of t u) × (rank s u ≡ rank t u)

abbrev Long : ℕ → Tables → Type 0
Long n t = (length t.parent ≡ n) × (length t.level ≡ n)

place_long : {n : ℕ} (v p r : ℕ) (t : Tables) → Long n t → Long n (place v p r t)
place_long v p r t l = let e = place_length v p r t in (e.0 ∙ l.0, e.1 ∙ l.1)

place_other : (v p r : ℕ) (t : Tables) (u : ℕ) → u ≢ v → Alike (place v p r t) t u
place_other v p r t u d = (parent_of_place_other v p r t u d, rank_place_other v p r t u d)

place_alike : {n : ℕ} (v p r : ℕ) (s t : Tables) (u : ℕ) → u < n → Long n s → Long n t → Alike s t u → Alike (place v p r s) (place v p r t) u
place_alike v p r s t u h l m a = elim (ℕ_discrete u v) [
  | yes e ↦ rw e (
    parent_of_place_same v p r s (omega (arith, l.0)) ∙ sym (parent_of_place_same v p r t (omega (arith, m.0))),
    rank_place_same v p r s (omega (arith, l.1)) ∙ sym (rank_place_same v p r t (omega (arith, m.1))),
  )
  | no d ↦
      let (x, y) = place_other v p r s u d in
      let (i, j) = place_other v p r t u d in
      (x ∙ a.0 ∙ sym i, y ∙ a.1 ∙ sym j)
]

-- Where two tables agree on a fragment, so they do after the path is placed in both.
path_alike : {n : ℕ} (w : Tables) (k v : ℕ) (s t : Tables) (u : ℕ) → u < n → Long n s → Long n t → Alike s t u → Alike (place_path w k v s) (place_path w k v t) u
unfolding place_path
path_alike w zero v s t u h l m a = place_alike v (parent_of w v) (rank w v) s t u h l m a
path_alike w (suc k) v s t u h l m a =
    let p = parent_of w v in
    let r = rank w v in
    path_alike w k p (place v p r s) (place v p r t) u h (place_long v p r s l) (place_long v p r t m) (place_alike v p r s t u h l m a)

path_long : {n : ℕ} (w : Tables) (k v : ℕ) (t : Tables) → Long n t → Long n (place_path w k v t)
unfolding place_path
path_long w zero v t l = place_long v (parent_of w v) (rank w v) t l
path_long w (suc k) v t l = path_long w k (parent_of w v) (place v (parent_of w v) (rank w v) t) (place_long v (parent_of w v) (rank w v) t l)

-- Nothing but the forest changes.
path_rest : (w : Tables) (k v : ℕ) (t : Tables) → ((place_path w k v t).note ≡ t.note) × ((place_path w k v t).mark ≡ t.mark) × ((place_path w k v t).held ≡ t.held) × ((place_path w k v t).crossed ≡ t.crossed)
unfolding place_path place
path_rest w zero v t = (refl, refl, refl, refl)
path_rest w (suc k) v t = path_rest w k (parent_of w v) (place v (parent_of w v) (rank w v) t)

-- Up to the top only members are on the path, so nothing else changes.
path_outside : {n top d : ℕ} {t w : Tables} → Walked n top t w d → (k v : ℕ) → JoinedBy (linked t.held) top v → rank w v ≡ rank w top + k
    → (s : Tables) (u : ℕ) → (JoinedBy (linked t.held) top u → ⊥) → Alike (place_path w k v s) s u
unfolding place_path
path_outside {w = w} W zero v m e s u f = place_other v (parent_of w v) (rank w v) s u (λ q. f (rw q m))
path_outside {w = w} W (suc k) v m e s u f =
    let p = parent_of w v in
    let r = rank w v in
    let (i, _, g) = W.below v m (λ q. omega (arith, ap (rank w) q)) in
    let (a, b) = path_outside W k p i (omega arith) (place v p r s) u f in
    let (x, y) = place_other v p r s u (λ q. f (rw q m)) in
    (a ∙ x, b ∙ y)

-- Hanging changes nothing but the top.
module _ (top note : ℕ) (s : Tables) where
  hang_other : (u : ℕ) → u ≢ top → Alike (hang top note s) s u
  unfolding hang
  hang_other u d = pick_all (λ (t : Tables). Alike t s u) (eqb note 0) _ _ (place_other top top 1 s u d) (place_other top _ _ s u d)

  hang_held : (hang top note s).held ≡ s.held
  unfolding hang
  hang_held = pick_all (λ (t : Tables). t.held ≡ s.held) (eqb note 0) _ _ (place_held top top 1 s) (place_held top _ _ s)

-- Where the top is placed, fewer members wait to be reached than the piece has.
module _ (n : ℕ) (t : Tables) (top : ℕ) (l : top < n) (there : T (placed t top)) where
  abbrev own : ℕ → Bool
  own = member (pieces n t.held) (get_or (pieces n t.held) top 0)

  abbrev others : ℕ → Bool
  others v = own v && not (eqb v top)

  waits_other : (v : ℕ) → T (waits n t top v) → T (others v)
  unfolding waits
  waits_other v w =
      and_intro (own v) (not (eqb v top)) (and_l (own v) (not (placed t v)) w)
      (not_T (eqb v top) (λ e. T_not (placed t v) (and_r (own v) (not (placed t v)) w) (rw (eqb→eq v top e) there)))

  all_but_top : count own n ≡ suc (count others n)
  all_but_top =
      count_one_more others own n top l
      (λ o. T_not (eqb top top) (and_r (own top) (not (eqb top top)) o) (eqb_refl top))
      (member_intro (pieces n t.held) (get_or (pieces n t.held) top 0) top refl)
      (λ v g d. rw (ne_eqb v top d) (T_ext _ _ (and_l (own v) true) (λ m. and_intro (own v) true m tt)))

  unreached_few : unreached n t top < size_of n (pieces n t.held) (get_or (pieces n t.held) top 0)
  unfolding unreached size_of
  unreached_few = omega (arith, all_but_top, count_mono (waits n t top) others n (λ v g. waits_other v))

-- A piece is placed: its top is hung and it is walked, in a table f₁ that holds what f does.
module _ (n c p top note : ℕ) (f h₀ h : List ℕ) (W : Hanging n c p top note f h₀ h) (f₁ : List ℕ) (same : held_tables n c f₁ h₀ ≡ held_tables n c f h₀) (apart : Beside n f f₁) where
  wide_now : {g : List ℕ} → length g ≡ length f → Wide n g
  wide_now e = record { few = W.arranged.few; long = omega (arith, W.arranged.long) }

  pub hangable_now : Hangable n top note f₁
  hangable_now = record {
    wide = wide_now apart.same_long;
    top_in = W.ready.top_in;
    note_in = W.note_in;
    levels = λ v l. rw (bare_rank n c f₁ h₀ v, same) (rank_most W.standing v l);
  }

  -- The top's piece is p.
  hung_size : size_of n (pieces n (hang top note (held_tables n c f h₀)).held) (get_or (pieces n (hang top note (held_tables n c f h₀)).held) top 0) ≡ size_of n (labels_in n f) p
  hung_size =
      let e : pieces n (hang top note (held_tables n c f h₀)).held ≡ labels_in n f = ap (pieces n) (hang_held top note (held_tables n c f h₀)) ∙ sym W.labels in
      rw e (ap (size_of n (labels_in n f)) (sym (label_by n f refl top W.ready.top_in) ∙ W.top_of_lem))

  module _ (f₂ : List ℕ) (e₂ : f₂ ≡ hung_at n top note f₁) where
    hung_now : held_tables n c f₂ h₀ ≡ hang top note (held_tables n c f h₀)
    hung_now = ap (λ (g : List ℕ). held_tables n c g h₀) e₂ ∙ hung_tables n c f₁ h₀ top note W.ready.top_in W.note_in ∙ ap (hang top note) same

    hung_frame : Frame n 2 14 f₁ f₂
    hung_frame = low_frame n f₁ f₂ (ap length e₂ ∙ hung_long n f₁ top note) (ap (drop (2 * n)) e₂ ∙ hung_kept n f₁ top note W.ready.top_in)

    pub hung_walkable : (size : ℕ) → size ≡ size_of n (labels_in n f) p → Walkable n c top (size - 1) f₂ h₀ h
    hung_walkable size e = record {
      arranged = arranged_beside (omega (arith, W.ready.top_in)) (frame_join apart (narrow hung_frame)) W.arranged;
      standing = rw hung_now W.ready.standing;
      top_in = W.ready.top_in;
      top_placed = rw hung_now W.ready.top_placed;
      left = rw hung_now (omega (arith, hung_size, unreached_few n (hang top note (held_tables n c f h₀)) top W.ready.top_in W.ready.top_placed));
    }

    module _ (deepest : ℕ) (f₃ : List ℕ) (G : WalkLeaves n c top deepest f₂ h₀ f₃) where
      walk_now : walked n top (held_tables n c f₂ h₀) ≡ walk_of n top note (held_tables n c f h₀)
      walk_now = ap (walked n top) hung_now

      tables_now : held_tables n c f₃ h₀ ≡ (walk_of n top note (held_tables n c f h₀)).tables
      tables_now = G.tables ∙ ap (λ (w : Walk). w.tables) walk_now

      deep_now : deepest ≡ (walk_of n top note (held_tables n c f h₀)).deepest
      deep_now = G.deep ∙ ap (λ (w : Walk). w.deepest) walk_now

      walked_now : Walked n top (hang top note (held_tables n c f h₀)) (held_tables n c f₃ h₀) deepest
      walked_now = rw (tables_now, deep_now) (walk n top (hang top note (held_tables n c f h₀)) W.ready)

      frame_now : Frame n 2 14 f₁ f₃
      frame_now = frame_join hung_frame G.frame

      beside_now : Beside n f f₃
      beside_now = frame_join apart (narrow frame_now)

      pub whole_leaves : WholeLeaves n c top note f h₀ f₃
      whole_leaves = record { tables = tables_now; beside = beside_now }

      walk_climbable : Climbable n top deepest f₃
      walk_climbable = record {
        wide = wide_now beside_now.same_long;
        standing = bare_standing n c f₃ h₀ G.standing;
        top_in = W.ready.top_in;
        deep_in = G.deep_in;
        deep_placed = rw (bare_placed n c f₃ h₀ deepest) G.deep_placed;
        below = rw (bare_rank n c f₃ h₀ top, bare_rank n c f₃ h₀ deepest) (walked_now.deepest_most top here);
      }

-- The members' forest is saved.
saved_beside : {n p : ℕ} {f f₁ : List ℕ} → Copies n p 0 (12 * n) n f f₁ → Beside n f f₁
saved_beside C = record { same_long = C.same_long; within = λ i a b. C.before i b; past = λ i a. C.behind i (omega arith) }

module _ (n c p : ℕ) (f f₁ h : List ℕ) (W : Wide n f) (C : Copies n p 0 (12 * n) n f f₁) where
  same_below : (j : ℕ) → suc j ≤ 12 → section n j f₁ ≡ section n j f
  same_below j l =
      let g = mul-le-mul_right {m = suc j} {n = 12} n l in
      section_by n j j f₁ f (omega (arith, W.long, C.same_long)) (omega (arith, W.long)) (λ v h. C.before (j * n + v) (omega arith))

  saved_tables : held_tables n c f₁ h ≡ held_tables n c f h
  unfolding tables_in
  saved_tables = rw (same_below 0 (omega arith), same_below 1 (omega arith), same_below 2 (omega arith), same_below 3 (omega arith))

-- What is saved of a fragment, by its words.
saved_words : (n c : ℕ) (f h : List ℕ) (v : ℕ) → v < n → (get_or f (12 * n + v) 0 ≡ parent_of (saved_at n c f h) v) × (get_or f (12 * n + n + v) 0 ≡ rank (saved_at n c f h) v)
unfolding saved_at parent_of rank
saved_words n c f h v l = (section_at n f 12 (12 * n + v) v refl l, section_at n f 13 (12 * n + n + v) v (omega arith) l)

saved_long : (n c : ℕ) (f h : List ℕ) → Wide n f → Long n (saved_at n c f h)
unfolding saved_at
saved_long n c f h W = (section_length n f 12 (omega (arith, W.long)), section_length n f 13 (omega (arith, W.long)))

-- What the two words of a fragment say.
low_words : (n c : ℕ) (f h : List ℕ) (v : ℕ) → v < n → (get_or f (0 + v) 0 ≡ parent_of (held_tables n c f h) v) × (get_or f (0 + n + v) 0 ≡ rank (held_tables n c f h) v)
low_words n c f h v l =
    let a : 0 + v ≡ v = omega arith in
    let b : 0 + n + v ≡ n + v = omega arith in
    (ap (λ (i : ℕ). get_or f i 0) a ∙ parent_word (holds n c) f h v l, ap (λ (i : ℕ). get_or f i 0) b ∙ level_word (holds n c) f h v l)

-- Of a lost piece the path is kept where its forest is saved, and brought back with it.
module _ (n c p top note : ℕ) (f h₀ h : List ℕ) (W : Hanging n c p top note f h₀ h) (f₁ : List ℕ) (C₁ : Copies n p 0 (12 * n) n f f₁) where
  abbrev before : Tables
  before = held_tables n c f h₀

  wide : Wide n f
  wide = W.chained.wide

  same₁ : held_tables n c f₁ h₀ ≡ before
  same₁ = saved_tables n c p f f₁ h₀ wide C₁

  apart₁ : Beside n f f₁
  apart₁ = saved_beside C₁

  pub lost_hangable : Hangable n top note f₁
  lost_hangable = hangable_now n c p top note f h₀ h W f₁ same₁ apart₁

  -- What is joined with the top is a member.
  joined_member : (v : ℕ) → v < n → JoinedBy (linked (hang top note before).held) top v → label_at n f v ≡ p
  unfolding tables_in
  joined_member v l m =
      let j = joined_label n before.held (λ u x t. let (a, b, _) = W.arranged.among u x t in (a, b)) top v
      (subst (λ (g : List Link). JoinedBy (linked g) top v) (hang_held top note before) m) in
      label_by n f W.labels v l ∙ sym j ∙ sym (label_by n f W.labels top W.ready.top_in) ∙ W.top_of_lem

  module _ (f₂ : List ℕ) (e₂ : f₂ ≡ hung_at n top note f₁) where
    pub lost_walkable : (size : ℕ) → size ≡ size_of n (labels_in n f) p → Walkable n c top (size - 1) f₂ h₀ h
    lost_walkable = hung_walkable n c p top note f h₀ h W f₁ same₁ apart₁ f₂ e₂

    module _ (deepest : ℕ) (f₃ : List ℕ) (G : WalkLeaves n c top deepest f₂ h₀ f₃) where
      pub lost_climbable : Climbable n top deepest f₃
      lost_climbable = walk_climbable n c p top note f h₀ h W f₁ same₁ apart₁ f₂ e₂ deepest f₃ G

      abbrev after : Tables
      after = held_tables n c f₃ h₀

      abbrev path : Tables
      path = place_path after (rank after deepest - rank after top) deepest before

      apart₃ : Beside n f f₃
      apart₃ = beside_now n c p top note f h₀ h W f₁ same₁ apart₁ f₂ e₂ deepest f₃ G

      walked₃ : Walked n top (hang top note before) after deepest
      walked₃ = walked_now n c p top note f h₀ h W f₁ same₁ apart₁ f₂ e₂ deepest f₃ G

      module _ (f₄ : List ℕ) (G₄ : Climbs n top deepest f₃ f₄) where
        apart₄ : Beside n f f₄
        apart₄ = frame_join apart₃ G₄.beside

        pub again_chained : Chained n p f₄
        again_chained = chained_by apart₄.same_long (λ i a b. apart₄.within i (omega arith) (omega arith)) W.chained

        label₄ : (v : ℕ) → v < n → label_at n f₄ v ≡ label_at n f v
        label₄ v l = apart₄.within (7 * n + v) (omega arith) (omega arith)

        module _ (f₅ : List ℕ) (C₅ : Copies n p (12 * n) 0 n f₄ f₅) where
          apart₅ : Beside n f f₅
          apart₅ = frame_join apart₄ (record { same_long = C₅.same_long; within = λ i a b. C₅.behind i (omega arith); past = λ i a. C₅.behind i (omega arith) })

          -- A member has what was saved of it, or the path's words.
          saved_alike : (v : ℕ) → v < n → label_at n f v ≡ p → Alike (saved_at n c f₃ h₀) before v
          saved_alike v l e =
              let F = frame_now n c p top note f h₀ h W f₁ same₁ apart₁ f₂ e₂ deepest f₃ G in
              let (a, b) = saved_words n c f₃ h₀ v l in
              let (x, y) = C₁.members v l l e in
              let (i, j) = low_words n c f h₀ v l in
              (sym a ∙ F.within (12 * n + v) (omega arith) (omega arith) ∙ x ∙ i, sym b ∙ F.within (12 * n + n + v) (omega arith) (omega arith) ∙ y ∙ j)

          member_alike : (v : ℕ) → v < n → label_at n f v ≡ p → Alike (held_tables n c f₅ h₀) path v
          member_alike v l e =
              let (i, j) = low_words n c f₅ h₀ v l in
              let (x, y) = C₅.members v l l (label₄ v l ∙ e) in
              let (a, b) = saved_words n c f₄ h₀ v l in
              let s = G₄.saved c h₀ in
              let S = W.standing in
              let (q, r) = path_alike after (rank after deepest - rank after top) deepest (saved_at n c f₃ h₀) before v l
              (saved_long n c f₃ h₀ (wide_by apart₃.same_long wide)) (S.long_parent, S.long_level) (saved_alike v l e) in
              (sym i ∙ x ∙ a ∙ ap (λ (t : Tables). parent_of t v) s ∙ q, sym j ∙ y ∙ b ∙ ap (λ (t : Tables). rank t v) s ∙ r)

          -- Every other fragment has what it had: neither the walk nor the path changes it.
          other_alike : (v : ℕ) → v < n → label_at n f v ≢ p → Alike (held_tables n c f₅ h₀) path v
          other_alike v l d =
              let none : JoinedBy (linked (hang top note before).held) top v → ⊥ = λ m. d (joined_member v l m) in
              let (i, j) = low_words n c f₅ h₀ v l in
              let (x, y) = C₅.others v l (inr (λ e. d (sym (label₄ v l) ∙ e))) in
              let (a, b) = low_words n c f₄ h₀ v l in
              let t = G₄.tables c h₀ in
              let (q, r) = hang_other top note before v (λ e. d (ap (label_at n f) e ∙ W.top_of_lem)) in
              let (u, w) = path_outside walked₃ (rank after deepest - rank after top) deepest walked₃.deepest_in (omega (arith, walked₃.deepest_most top here)) before v none in (
                sym i ∙ x ∙ a ∙ ap (λ (t : Tables). parent_of t v) t ∙ walked₃.outside_parent v none ∙ q ∙ sym u,
                sym j ∙ y ∙ b ∙ ap (λ (t : Tables). rank t v) t ∙ walked₃.outside_rank v none ∙ r ∙ sym w,
              )

          alike : (v : ℕ) → v < n → Alike (held_tables n c f₅ h₀) path v
          alike v l = elim (ℕ_discrete (label_at n f v) p) [ yes e ↦ member_alike v l e | no d ↦ other_alike v l d ]

          path_tables : held_tables n c f₅ h₀ ≡ path
          unfolding tables_in parent_of rank
          path_tables =
              let S = W.standing in
              let (lp, ll) = path_long {n = n} after (rank after deepest - rank after top) deepest before (S.long_parent, S.long_level) in
              let (en, em, eh, ec) = path_rest after (rank after deepest - rank after top) deepest before in
              let l0 = section_length n f₅ 0 (omega (arith, wide.long, apart₅.same_long)) in
              let l1 = section_length n f₅ 1 (omega (arith, wide.long, apart₅.same_long)) in
              tables_are (holds n c) f₅ h₀ path
              (ext_get_or 0 (section n 0 f₅) path.parent (l0 ∙ sym lp) (λ v g. (alike v (omega arith)).0))
              (ext_get_or 0 (section n 1 f₅) path.level (l1 ∙ sym ll) (λ v g. (alike v (omega arith)).1))
              (beside_section apart₅ 2 wide (omega arith) (omega arith) ∙ sym en)
              (beside_section apart₅ 3 wide (omega arith) (omega arith) ∙ sym em)
              (sym eh) (sym ec)

          pub path_leaves : PathLeaves n c top note f h₀ f₅
          path_leaves = record {
            tables = rw (
              tables_now n c p top note f h₀ h W f₁ same₁ apart₁ f₂ e₂ deepest f₃ G,
              deep_now n c p top note f h₀ h W f₁ same₁ apart₁ f₂ e₂ deepest f₃ G,
            ) at path_tables;
            beside = apart₅;
          }
