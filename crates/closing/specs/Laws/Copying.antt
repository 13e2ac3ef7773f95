-- The words of members copied to and fro, and the path to the deepest member kept among them.
-- Assumes nothing.
use Prim.Native.Nat.{ℕ, suc, ◌+◌, ◌-◌, ◌*◌, ◌≤◌, ◌<◌}
use Rattle.std.specs.Prelude.{◌≡◌, refl, ◌⊎◌, ◌≢◌, T, length, set}
use Rattle.std.proofs.Math.Path.{sym, ap}
use Rattle.std.proofs.Common.{◌∙◌, inl, inr, mul-le-mul_right}
use mathlib.Core.List.{List, []}
use native.Mathlib.Omega.{arith}
use Rattle.std.proofs.Math.Decide.{ℕ_discrete, dec_lt}
use Rattle.std.proofs.Math.ListN.{get_or, length-set}
use Rattle.std.proofs.Math.Seq.{get_or-set_same, get_or-set_other}
use Rattle.rules.specs.Tables.{Tables, parent_of, rank, placed, place}
use Rattle.rules.specs.Building.{place_path}
use Rattle.rules.proofs.Laws.Facts.{Standing}
use Rattle.rules.proofs.Laws.Kept.{parent_placed}
use Rattle.state.specs.Layout.{section, tables_in, forest_in}
use Rattle.state.proofs.Laws.Layout.{section_set, section_before, section_after, parent_word, level_word}
use Rattle.closing.specs.Closing.{label_at, Follows, Chained, Copyable, copied_at, Copies, saved_at, Beside, Climbable, Climbs}
use Rattle.closing.specs.Walk.{Wide}
use Rattle.pieces.specs.Gathered.{held_tables, holds}
use Rattle.closing.specs.Laws.Members.{Along, follows_by, none_between}
use Rattle.closing.specs.Laws.Walking.{bare_parent}
use Rattle.closing.specs.Laws.Frames.{frame_refl, frame_join, wide_by, chained_by}

-- The words of the members copied, one member after another.
pub copyable_by : {n from to : ℕ} {f f' : List ℕ} → length f' ≡ length f → Copyable n from to f → Copyable n from to f'
copyable_by e W = record { wide = wide_by e W.wide; apart = W.apart; off_chain = W.off_chain; from_in = W.from_in; to_in = W.to_in }

copied_long : (n from to v : ℕ) (f : List ℕ) → length (copied_at n from to v f) ≡ length f
unfolding copied_at
copied_long n from to v f = simp length-set

copied_else : (n from to v : ℕ) (f : List ℕ) (i : ℕ) → i ≢ to + v → i ≢ to + n + v → get_or (copied_at n from to v f) i 0 ≡ get_or f i 0
unfolding copied_at
copied_else n from to v f i a b = get_or-set_other (set f (to + v) (get_or f (from + v) 0)) (to + n + v) i _ 0 b ∙ get_or-set_other f (to + v) i _ 0 a

pub copies_start : (n p from to : ℕ) (f : List ℕ) → Chained n p f → Copies n p from to p f f
copies_start n p from to f C = record {
  same_long = refl;
  members = λ v l g e. absurd (C.least v l e);
  others = λ v l d. (refl, refl);
  before = λ i l. refl;
  behind = λ i l. refl;
}

module _ (n p from to m : ℕ) (f f' : List ℕ) (W : Copyable n from to f) (C : Copies n p from to m f f') where
  chain_kept : (i : ℕ) → 7 * n ≤ i → i < 9 * n → get_or f' i 0 ≡ get_or f i 0
  chain_kept i a b = elim W.off_chain [ inl d ↦ C.before i (omega arith) | inr d ↦ C.behind i (omega arith) ]

  source : (i : ℕ) → from ≤ i → i < from + 2 * n → get_or f' i 0 ≡ get_or f i 0
  source i a b = elim W.apart [ inl d ↦ C.before i (omega arith) | inr d ↦ C.behind i (omega arith) ]

  module _ (l : m < n) (own : label_at n f m ≡ p) where
    abbrev once : List ℕ
    once = set f' (to + m) (get_or f' (from + m) 0)

    stored_else : (i : ℕ) → i ≢ to + m → i ≢ to + n + m → get_or (copied_at n from to m f') i 0 ≡ get_or f' i 0
    stored_else i a b = copied_else n from to m f' i a b

    stored_one : get_or (copied_at n from to m f') (to + m) 0 ≡ get_or f' (from + m) 0
    unfolding copied_at
    stored_one = get_or-set_other once (to + n + m) (to + m) _ 0 (λ e. omega arith) ∙ get_or-set_same f' (to + m) _ 0 (omega (arith, W.to_in, W.wide.long, C.same_long))

    stored_two : get_or (copied_at n from to m f') (to + n + m) 0 ≡ get_or f' (from + n + m) 0
    unfolding copied_at
    stored_two = get_or-set_same once (to + n + m) _ 0 (simp length-set (omega (arith, W.to_in, W.wide.long, C.same_long)))

    copies_more : Copies n p from to (suc m) f (copied_at n from to m f')
    copies_more = record {
      same_long = long;
      members = λ v a b e. elim (ℕ_discrete v m) [
        | yes q ↦ rw q (stored_one ∙ source (from + m) (omega arith) (omega arith), stored_two ∙ source (from + n + m) (omega arith) (omega arith))
        | no q ↦
            let (x, y) = C.members v (omega arith) b e in
            (stored_else (to + v) (λ r. q (omega arith)) (λ r. omega arith) ∙ x, stored_else (to + n + v) (λ r. omega arith) (λ r. q (omega arith)) ∙ y)
      ];
      others = λ v b d.
          let q : v ≢ m = λ q. elim d [ inl x ↦ omega arith | inr x ↦ x (ap (label_at n f) q ∙ own) ] in
          let g : (m ≤ v) ⊎ (label_at n f v ≢ p) = elim d [ inl x ↦ inl (omega arith) | inr x ↦ inr x ] in
          let (x, y) = C.others v b g in
          (stored_else (to + v) (λ r. q (omega arith)) (λ r. omega arith) ∙ x, stored_else (to + n + v) (λ r. omega arith) (λ r. q (omega arith)) ∙ y);
      before = λ i a. stored_else i (λ r. omega arith) (λ r. omega arith) ∙ C.before i a;
      behind = λ i a. stored_else i (λ r. omega arith) (λ r. omega arith) ∙ C.behind i a;
    }
      where
        long : length (copied_at n from to m f') ≡ length f
        long = copied_long n from to m f' ∙ C.same_long

-- No member is skipped.
copies_skip : (n p from to a b : ℕ) (f f' : List ℕ) → ((k : ℕ) → a ≤ k → k < b → label_at n f k ≢ p) → a ≤ b → Copies n p from to a f f' → Copies n p from to b f f'
copies_skip n p from to a b f f' none l C = record {
  same_long = C.same_long;
  members = λ v g h e. elim (dec_lt v a) [ yes x ↦ C.members v x h e | no x ↦ absurd (none v (omega arith) g e) ];
  others = λ v h d. C.others v h (elim d [ inl x ↦ inl (omega arith) | inr x ↦ inr x ]);
  before = C.before;
  behind = C.behind;
}

-- A turn of the loop: the next member is looked for in the changed table.
module _ (n p from to v : ℕ) (f f' : List ℕ) (W : Copyable n from to f) (A : Along n p f v) (l : v < n) (C : Copies n p from to v f f') where
  copied_now : Copies n p from to (suc v) f (copied_at n from to v f')
  copied_now = copies_more n p from to v f f' W C l (A.member l)

  pub copied_chained : Chained n p f → Chained n p (copied_at n from to v f')
  copied_chained K = chained_by copied_now.same_long (chain_kept n p from to (suc v) f (copied_at n from to v f') W copied_now) K

  module _ (r : ℕ) (F : Follows n v (copied_at n from to v f') r) where
    pub follows_copied : Follows n v f r
    follows_copied = follows_by l (λ u g. chain_kept n p from to (suc v) f (copied_at n from to v f') W copied_now (7 * n + u) (omega arith) (omega arith)) F

    pub copies_next : Copies n p from to r f (copied_at n from to v f')
    copies_next = copies_skip n p from to (suc v) r f (copied_at n from to v f') (none_between A l follows_copied) F.on copied_now

-- There is room where the forest is saved.
pub keepable : {n : ℕ} {f : List ℕ} → Wide n f → Copyable n 0 (12 * n) f
keepable W = record { wide = W; apart = inl (omega arith); off_chain = inl (omega arith); from_in = omega arith; to_in = omega arith }

pub restorable : {n : ℕ} {f : List ℕ} → Wide n f → Copyable n (12 * n) 0 f
restorable W = record { wide = W; apart = inr (omega arith); off_chain = inr (omega arith); from_in = omega arith; to_in = omega arith }

-- A fragment is kept as it was walked.
abbrev pub kept : (n v : ℕ) → List ℕ → List ℕ
kept n v f = copied_at n 0 (12 * n) v f

module _ (n : ℕ) (f : List ℕ) (v : ℕ) (l : v < n) where
  kept_is : kept n v f ≡ set (set f (12 * n + v) (get_or f v 0)) (13 * n + v) (get_or f (n + v) 0)
  unfolding copied_at
  kept_is =
      let a : 0 + v ≡ v = omega arith in
      let b : 0 + n + v ≡ n + v = omega arith in
      let c : 12 * n + n + v ≡ 13 * n + v = omega arith in
      rw (a, b, c)

  kept_parent : section n 12 (kept n v f) ≡ set (section n 12 f) v (get_or f v 0)
  kept_parent = rw kept_is (section_before n _ 12 (13 * n + v) _ (omega arith) ∙ section_set n f 12 (12 * n + v) v _ refl l)

  kept_level : section n 13 (kept n v f) ≡ set (section n 13 f) v (get_or f (n + v) 0)
  kept_level = rw kept_is (section_set n _ 13 (13 * n + v) v _ refl l ∙ ap (λ (r : List ℕ). set r v (get_or f (n + v) 0)) (section_after n f 13 (12 * n + v) _ (omega arith)))

  kept_below : (j : ℕ) → suc j ≤ 12 → section n j (kept n v f) ≡ section n j f
  kept_below j g =
      let k = mul-le-mul_right {m = suc j} {n = 12} n g in
      rw kept_is (section_before n _ j (13 * n + v) _ (omega arith) ∙ section_before n f j (12 * n + v) _ (omega arith))

  kept_tables : (c : ℕ) (h : List ℕ) → held_tables n c (kept n v f) h ≡ held_tables n c f h
  unfolding tables_in
  kept_tables c h = rw (kept_below 0 (omega arith), kept_below 1 (omega arith), kept_below 2 (omega arith), kept_below 3 (omega arith))

  kept_saved : (c : ℕ) (h : List ℕ) → saved_at n c (kept n v f) h ≡ place v (parent_of (held_tables n c f h) v) (rank (held_tables n c f h) v) (saved_at n c f h)
  unfolding saved_at place
  kept_saved c h = rw (kept_parent, kept_level, kept_below 2 (omega arith), kept_below 3 (omega arith), ← parent_word (holds n c) f h v l, ← level_word (holds n c) f h v l)

  kept_beside : Beside n f (kept n v f)
  kept_beside = record {
    same_long = copied_long n 0 (12 * n) v f;
    within = λ i a b. copied_else n 0 (12 * n) v f i (λ e. omega arith) (λ e. omega arith);
    past = λ i a. copied_else n 0 (12 * n) v f i (λ e. omega arith) (λ e. omega arith);
  }

-- The path is kept from v up; what is left of it keeps the rest.
pub record Climbing (n top deepest : ℕ) (f₀ f : List ℕ) (v left : ℕ) : Type 0 where
  pub tables : (c : ℕ) (h : List ℕ) → held_tables n c f h ≡ held_tables n c f₀ h
  pub saved : (c : ℕ) (h : List ℕ) → place_path (held_tables n c f₀ h) left v (saved_at n c f h)
      ≡ place_path (held_tables n c f₀ h) (rank (held_tables n c f₀ h) deepest - rank (held_tables n c f₀ h) top) deepest (saved_at n c f₀ h)
  pub beside : Beside n f₀ f
  pub in_range : v < n
  pub on_way : T (placed (forest_in n f₀) v)

pub climbing_starts : (n top deepest : ℕ) (f : List ℕ) → Climbable n top deepest f → Climbing n top deepest f f deepest (get_or f (n + deepest) 0 - get_or f (n + top) 0)
climbing_starts n top deepest f W = record {
  tables = λ c h. refl;
  saved = λ c h. rw (level_word (holds n c) f h deepest W.deep_in, level_word (holds n c) f h top W.top_in);
  beside = frame_refl n 2 12 f;
  in_range = W.deep_in;
  on_way = W.deep_placed;
}

module _ (n top deepest : ℕ) (f₀ f : List ℕ) (v left : ℕ) (G : Climbing n top deepest f₀ f v left) where
  same_after : (c : ℕ) (h : List ℕ) → held_tables n c (kept n v f) h ≡ held_tables n c f₀ h
  same_after c h = kept_tables n f v G.in_range c h ∙ G.tables c h

  saved_after : (c : ℕ) (h : List ℕ) → saved_at n c (kept n v f) h ≡ place v (parent_of (held_tables n c f₀ h) v) (rank (held_tables n c f₀ h) v) (saved_at n c f h)
  saved_after c h = kept_saved n f v G.in_range c h ∙ ap (λ (t : Tables). place v (parent_of t v) (rank t v) (saved_at n c f h)) (G.tables c h)

  -- The word read after the store.
  parent_after_lem : (c : ℕ) (h : List ℕ) → get_or (kept n v f) v 0 ≡ parent_of (held_tables n c f₀ h) v
  parent_after_lem c h = parent_word (holds n c) (kept n v f) h v G.in_range ∙ ap (λ (t : Tables). parent_of t v) (same_after c h)

  pub climbing_up : Standing n (forest_in n f₀) → 0 < left → Climbing n top deepest f₀ (kept n v f) (get_or (kept n v f) v 0) (left - 1)
  unfolding place_path
  climbing_up S g =
      let (i, p) = parent_placed S v G.in_range G.on_way in
      let one_more : left ≡ suc (left - 1) = omega arith in
      let e : get_or (kept n v f) v 0 ≡ parent_of (forest_in n f₀) v = parent_after_lem 0 [] ∙ sym (bare_parent n 0 f₀ [] v) in
      record {
        tables = same_after;
        saved = λ c h. rw (parent_after_lem c h, saved_after c h) (ap (λ (k : ℕ). place_path (held_tables n c f₀ h) k v (saved_at n c f h)) (sym one_more) ∙ G.saved c h);
        beside = frame_join G.beside (kept_beside n f v G.in_range);
        in_range = rw e i;
        on_way = rw e p;
      }

  pub climbing_ends : left ≡ 0 → Climbs n top deepest f₀ (kept n v f)
  unfolding place_path
  climbing_ends e = record {
    tables = same_after;
    saved = λ c h. saved_after c h ∙ ap (λ (k : ℕ). place_path (held_tables n c f₀ h) k v (saved_at n c f h)) (sym e) ∙ G.saved c h;
    beside = frame_join G.beside (kept_beside n f v G.in_range);
  }
