-- What placing only the path to the deepest member leaves: of the walk what lies above its deepest fragment, of everything else what was.
-- Assumes nothing.
use Prim.Native.Nat.{ℕ, zero, suc, ◌+◌, ◌-◌, ◌<◌, ◌≤◌}
use Rattle.std.specs.Prelude.{◌≡◌, refl, List, ◌⊎◌, ◌≢◌, length, T}
use Rattle.std.proofs.Math.Path.{sym, ap}
use Rattle.std.proofs.Common.{◌∙◌, subst, inl, inr, eq-eqb, ne_eqb}
use native.Mathlib.Omega.{arith}
use Rattle.std.proofs.Math.Decide.{ℕ_discrete, dec_le}
use Rattle.base.specs.Pick.{pick_true, pick_false}
use Rattle.base.specs.Link.{Link}
use Rattle.rules.specs.Links.{linked, Among, JoinedBy, here}
use Rattle.rules.specs.Forest.{up, Levels, Over}
use Rattle.rules.specs.Search.{count}
use Rattle.rules.specs.Tables.{Tables, parent_of, rank, placed, par, lev, place}
use Rattle.rules.specs.Building.{hang, place_path}
use Rattle.rules.specs.Facts.{Standing, Loose, Ready, Walked}
use Rattle.rules.proofs.Laws.Up.{up_zero, up_suc, par_lev, up_lev, up_over, over_par_of}
use Rattle.rules.proofs.Laws.Tables.{placed_rank, rank_placed, placed_loose, par_placed, lev_rank, standing_levels, standing_place, place_note, place_mark, place_held, place_crossed, place_length, parent_of_place_same, parent_of_place_other, rank_place_same, rank_place_other}
use Rattle.rules.proofs.Laws.Kept.{Kept, rank_alike, place_count, kept_placed, kept_trans, parent_placed, over_rank}
use Rattle.rules.proofs.Laws.Walk.{member_in, walked_kept}

-- t is s with the top hung: as a root, or under a fragment that is placed in s.
pub record Hung (n top : ℕ) (s t : Tables) : Type 0 where
  pub standing : Standing n t
  pub same_note : t.note ≡ s.note
  pub same_mark : t.mark ≡ s.mark
  pub same_held : t.held ≡ s.held
  pub same_crossed : t.crossed ≡ s.crossed
  pub top_in : top < n
  pub top_placed : T (placed t top)
  pub top_loose : Loose s top
  pub other_parent : (v : ℕ) → v ≢ top → parent_of t v ≡ parent_of s v
  pub other_rank : (v : ℕ) → v ≢ top → rank t v ≡ rank s v
  pub hook : ((parent_of t top ≡ top) × (rank t top ≡ 1)) ⊎ ((parent_of t top < n) × T (placed s (parent_of t top)) × (rank t top ≡ suc (rank s (parent_of t top))))

-- On the path from the top to the deepest fragment that the walk w reached.
abbrev pub OnPath : ℕ → Tables → Tables → ℕ → ℕ → Type 0
OnPath top s w deepest v = JoinedBy (linked s.held) top v × Over (par w) (lev w) v deepest

-- t is s with the path from the top to the deepest placed as it was walked in w.
pub record PathPlaced (n top : ℕ) (s w t : Tables) (deepest : ℕ) : Type 0 where
  pub standing : Standing n t
  pub same_note : t.note ≡ s.note
  pub same_mark : t.mark ≡ s.mark
  pub same_held : t.held ≡ s.held
  pub same_crossed : t.crossed ≡ s.crossed
  pub decided : (v : ℕ) → OnPath top s w deepest v ⊎ (OnPath top s w deepest v → ⊥)
  pub on_placed : (v : ℕ) → OnPath top s w deepest v → T (placed t v)
  pub off_parent : (v : ℕ) → (OnPath top s w deepest v → ⊥) → parent_of t v ≡ parent_of s v
  pub off_rank : (v : ℕ) → (OnPath top s w deepest v → ⊥) → rank t v ≡ rank s v
  -- what is placed is placed as in the walk: so the way up from it is the walk's (Laws.Kept)
  pub agrees : Kept t w
  pub more : count (placed t) n ≡ count (placed s) n + suc (rank w deepest - rank w top)

-- Placing an unplaced top under a hook.
hung_place : {n top p r : ℕ} {s : Tables} → Standing n s → top < n → Loose s top → ((p ≡ top) × (r ≡ 1)) ⊎ ((p < n) × T (placed s p) × (r ≡ suc (rank s p))) → Hung n top s (place top p r s)
hung_place {n} {top} {p} {r} {s} S h e c =
    let hp = parent_of_place_same top p r s (omega (arith, S.long_parent)) in
    let hr = rank_place_same top p r s (omega (arith, S.long_level)) in
    record {
      standing = standing_place top p r S h e c;
      same_note = place_note top p r s;
      same_mark = place_mark top p r s;
      same_held = place_held top p r s;
      same_crossed = place_crossed top p r s;
      top_in = h;
      top_placed = rank_placed (place top p r s) top (elim c [ inl a ↦ omega (arith, hr, a.1) | inr a ↦ omega (arith, hr, a.2) ]);
      top_loose = e;
      other_parent = parent_of_place_other top p r s;
      other_rank = rank_place_other top p r s;
      hook = rw (hp, hr) c;
    }

-- Hanging the top, under what is noted or as a root.
pub hung : (n top note : ℕ) (s : Tables) → Standing n s → top < n → Loose s top → ((p : ℕ) → note ≡ suc p → (p < n) × T (placed s p)) → Hung n top s (hang top note s)
unfolding hang
hung n top zero s S h e c = rw (eq-eqb 0 0 refl, pick_true) (hung_place S h e (inl (refl, refl)))
hung n top (suc p) s S h e c = rw (ne_eqb (suc p) 0 (omega arith), pick_false) (hung_place S h e (inr ((c p refl).0, (c p refl).1, refl)))

-- v placed as it was walked in w.
abbrev laid : Tables → ℕ → Tables → Tables
laid w v t = place v (parent_of w v) (rank w v) t

abbrev Long : ℕ → Tables → Type 0
Long n t = (length t.parent ≡ n) × (length t.level ≡ n)

abbrev Alike : Tables → Tables → ℕ → Type 0
Alike w t u = (parent_of t u ≡ parent_of w u) × (rank t u ≡ rank w u)

laid_long : {n : ℕ} (w t : Tables) (v : ℕ) → Long n t → Long n (laid w v t)
laid_long w t v h = let l = place_length v (parent_of w v) (rank w v) t in (l.0 ∙ h.0, l.1 ∙ h.1)

laid_same : {n : ℕ} (w t : Tables) (v : ℕ) → v < n → Long n t → Alike w (laid w v t) v
laid_same w t v g h = (parent_of_place_same v (parent_of w v) (rank w v) t (omega (arith, h.0)), rank_place_same v (parent_of w v) (rank w v) t (omega (arith, h.1)))

laid_other : (w t : Tables) (v u : ℕ) → u ≢ v → Alike t (laid w v t) u
laid_other w t v u d = (parent_of_place_other v (parent_of w v) (rank w v) t u d, rank_place_other v (parent_of w v) (rank w v) t u d)

-- What each placing keeps, the path keeps.
path_keeps : (w : Tables) (P : Tables → Type 0) → ((v : ℕ) (t : Tables) → P t → P (laid w v t)) → (k v : ℕ) (t : Tables) → P t → P (place_path w k v t)
unfolding place_path
path_keeps w P f zero v t p = f v t p
path_keeps w P f (suc k) v t p = path_keeps w P f k (parent_of w v) (laid w v t) (f v t p)

module _ (w : Tables) (k v : ℕ) (t : Tables) where
  path_note : (place_path w k v t).note ≡ t.note
  path_note = path_keeps w (λ (x : Tables). x.note ≡ t.note) (λ u x e. place_note u (parent_of w u) (rank w u) x ∙ e) k v t refl

  path_mark : (place_path w k v t).mark ≡ t.mark
  path_mark = path_keeps w (λ (x : Tables). x.mark ≡ t.mark) (λ u x e. place_mark u (parent_of w u) (rank w u) x ∙ e) k v t refl

  path_held : (place_path w k v t).held ≡ t.held
  path_held = path_keeps w (λ (x : Tables). x.held ≡ t.held) (λ u x e. place_held u (parent_of w u) (rank w u) x ∙ e) k v t refl

  path_crossed : (place_path w k v t).crossed ≡ t.crossed
  path_crossed = path_keeps w (λ (x : Tables). x.crossed ≡ t.crossed) (λ u x e. place_crossed u (parent_of w u) (rank w u) x ∙ e) k v t refl

-- What is placed as it was walked stays so.
path_alike : {n : ℕ} (w : Tables) (k v : ℕ) (t : Tables) (u : ℕ) → u < n → Long n t → Alike w t u → Alike w (place_path w k v t) u
path_alike {n} w k v t u h l a = (path_keeps w (λ (x : Tables). Long n x × Alike w x u) (λ x r (m, b). (
  laid_long w r x m,
  elim (ℕ_discrete u x) [
    | yes e ↦ rw e (laid_same w r x (rw e at h) m)
    | no e ↦ let o = laid_other w r x u e in (o.0 ∙ b.0, o.1 ∙ b.1)
  ],
)) k v t (l, a)).1

-- u is one of the k + 1 fragments of the way up from v.
abbrev Taken : Tables → ℕ → ℕ → ℕ → Type 0
Taken w k v u = (i : ℕ) × (i ≤ k) × (up (par w) i v ≡ u)

module _ {n : ℕ} {w : Tables} (W : Standing n w) where
  up_next : (i v : ℕ) → T (placed w v) → up (par w) (suc i) v ≡ up (par w) i (parent_of w v)
  up_next i v p = up_suc (par w) i v ∙ ap (up (par w) i) (par_placed w v p)

  path_taken : (k v : ℕ) (t : Tables) (u : ℕ) → v < n → T (placed w v) → Long n t → Taken w k v u → Alike w (place_path w k v t) u
  unfolding place_path
  path_taken zero v t u h p l (zero, g, e) = rw (← e, up_zero) (laid_same w t v h l)
  path_taken zero v t u h p l (suc i, g, e) = absurd (omega arith)
  path_taken (suc k) v t u h p l (zero, g, e) = rw (← e, up_zero) (path_alike w k (parent_of w v) (laid w v t) v h (laid_long w t v l) (laid_same w t v h l))
  path_taken (suc k) v t u h p l (suc i, g, e) =
      let (a, b) = parent_placed W v h p in
      path_taken k (parent_of w v) (laid w v t) u a b (laid_long w t v l) (i, omega arith, sym (up_next i v p) ∙ e)

  path_other : (k v : ℕ) (t : Tables) (u : ℕ) → v < n → T (placed w v) → (Taken w k v u → ⊥) → Alike t (place_path w k v t) u
  unfolding place_path
  path_other zero v t u h p f = laid_other w t v u (λ e. f (0, omega arith, up_zero (par w) v ∙ sym e))
  path_other (suc k) v t u h p f =
      let (a, b) = parent_placed W v h p in
      let o = laid_other w t v u (λ e. f (0, omega arith, up_zero (par w) v ∙ sym e)) in
      let r = path_other k (parent_of w v) (laid w v t) u a b (λ (i, g, e). f (suc i, omega arith, up_next i v p ∙ e)) in
      (r.0 ∙ o.0, r.1 ∙ o.1)

  path_count : (k v : ℕ) (t : Tables) → v < n → T (placed w v) → k ≤ lev w v → Long n t → ((i : ℕ) → i ≤ k → Loose t (up (par w) i v)) → count (placed (place_path w k v t)) n ≡ count (placed t) n + suc k
  unfolding place_path
  path_count zero v t h p g l f = place_count t v (parent_of w v) (rank w v) h l.1 (rw up_zero at (f 0 (omega arith))) (placed_rank w v p) ∙ omega arith
  path_count (suc k) v t h p g l f =
      let (a, b) = parent_placed W v h p in
      let L = standing_levels W in
      let e : par w v ≡ parent_of w v = par_placed w v p in
      let c = place_count t v (parent_of w v) (rank w v) h l.1 (rw up_zero at (f 0 (omega arith))) (placed_rank w v p) in
      path_count k (parent_of w v) (laid w v t) a b (omega (arith, par_lev L v h, ap (lev w) e)) (laid_long w t v l)
      (λ i j. (laid_other w t v (up (par w) i (parent_of w v)) (λ q. omega (arith, ap (lev w) q, up_lev L i (parent_of w v) a, par_lev L v h, ap (lev w) e))).1 ∙ rw (← up_next i v p) (f (suc i) (omega arith)))
      ∙ omega (arith, c)

abbrev Stands : ℕ → Tables → ℕ → Type 0
Stands n t v = ((parent_of t v ≡ v) × (rank t v ≡ 1)) ⊎ ((parent_of t v < n) × T (placed t (parent_of t v)) × (rank t v ≡ suc (rank t (parent_of t v))))

module _ {n top : ℕ} {s t : Tables} (S : Standing n s) (A : Among n (linked s.held)) (loose : (v : ℕ) → JoinedBy (linked s.held) top v → Loose s v) (H : Hung n top s t) where
  after_hung : (v : ℕ) → JoinedBy (linked s.held) top v → JoinedBy (linked t.held) top v
  after_hung v m = subst (λ (g : List Link). JoinedBy (linked g) top v) (sym H.same_held) m

  before_hung : (v : ℕ) → JoinedBy (linked t.held) top v → JoinedBy (linked s.held) top v
  before_hung v m = subst (λ (g : List Link). JoinedBy (linked g) top v) H.same_held m

  pub hung_ready : Ready n top t
  hung_ready = record {
    standing = H.standing;
    among = subst (λ (g : List Link). Among n (linked g)) (sym H.same_held) A;
    top_in = H.top_in;
    top_placed = H.top_placed;
    others = λ v m d. H.other_rank v d ∙ loose v (before_hung v m);
  }

  pub hung_kept : Kept s t
  hung_kept =
      let d : (v : ℕ) → T (placed s v) → v ≢ top = λ v p e. placed_loose s v p (ap (rank s) e ∙ H.top_loose) in
      record { parent = λ v p. H.other_parent v (d v p); level = λ v p. H.other_rank v (d v p) }

  module _ {w : Tables} {deepest : ℕ} (W : Walked n top t w deepest) where
    -- What was placed before the top was hung stays.
    pub hung_walked : Kept s w
    hung_walked = kept_trans hung_kept (walked_kept hung_ready W)

    abbrev On : ℕ → Type 0
    On v = OnPath top s w deepest v

    levels : Levels n (par w) (lev w)
    levels = standing_levels W.standing

    in_walk : (v : ℕ) → JoinedBy (linked t.held) top v → v < n
    in_walk v m = member_in hung_ready v m

    -- The level of a member is no less than the top's.
    top_least : (v : ℕ) → JoinedBy (linked t.held) top v → rank w top ≤ rank w v
    top_least v m = over_rank W.standing top v (in_walk v m) (W.reached v m) (W.under_top v m)

    -- From a member up, as far as the top's level, all are members.
    climb : (i v : ℕ) → JoinedBy (linked t.held) top v → i ≤ rank w v - rank w top → JoinedBy (linked t.held) top (up (par w) i v)
    climb zero v m h = rw up_zero m
    climb (suc i) v m h =
        let (u, l, r) = W.below v m (λ e. omega (arith, ap (rank w) e)) in
        rw (up_next W.standing i v (W.reached v m)) (climb i (parent_of w v) u (omega arith))

    abbrev steps : ℕ
    steps = rank w deepest - rank w top

    on_fits : (v : ℕ) → On v → lev w deepest - lev w v ≤ steps
    on_fits v (m, o) = omega (arith, lev_rank w deepest, lev_rank w v, top_least v (after_hung v m), placed_rank w v (W.reached v (after_hung v m)))

    taken_on : (v : ℕ) → Taken w steps deepest v → On v
    taken_on v (i, h, e) = rw (← e) (before_hung (up (par w) i deepest) (climb i deepest W.deepest_in h), up_over levels i deepest (in_walk deepest W.deepest_in))

    decided : (v : ℕ) → On v ⊎ (On v → ⊥)
    decided v = elim (ℕ_discrete (up (par w) (lev w deepest - lev w v) deepest) v) [
      | no f ↦ inr (λ (m, o). f o)
      | yes o ↦ elim (dec_le (lev w deepest - lev w v) steps) [
        | yes h ↦ inl (taken_on v (lev w deepest - lev w v, h, o))
        | no h ↦ inr (λ q. h (on_fits v q))
      ]
    ]

    abbrev path : Tables
    path = place_path w steps deepest s

    on_alike : (v : ℕ) → On v → Alike w path v
    on_alike v q = path_taken W.standing steps deepest s v (in_walk deepest W.deepest_in) (W.reached deepest W.deepest_in) (S.long_parent, S.long_level) (lev w deepest - lev w v, on_fits v q, q.1)

    off_alike : (v : ℕ) → (On v → ⊥) → Alike s path v
    off_alike v f = path_other W.standing steps deepest s v (in_walk deepest W.deepest_in) (W.reached deepest W.deepest_in) (λ q. f (taken_on v q))

    on_placed : (v : ℕ) → On v → T (placed path v)
    on_placed v q = rw (rank_alike path w v (on_alike v q).1) (W.reached v (after_hung v q.0))

    -- What was placed is no member of the piece, so it stays.
    path_kept : Kept s path
    path_kept =
        let f : (v : ℕ) → T (placed s v) → On v → ⊥ = λ v p q. placed_loose s v p (loose v q.0) in
        record { parent = λ v p. (off_alike v (f v p)).0; level = λ v p. (off_alike v (f v p)).1 }

    hangs : (v u : ℕ) → parent_of path v ≡ u → u < n → T (placed path u) → rank path v ≡ suc (rank path u) → Stands n path v
    hangs v u e h p r = inr (rw e (h, p, r))

    -- What is placed is on the path, or was placed and is kept by the walk too.
    agrees : (v : ℕ) → T (placed path v) → Alike path w v
    agrees v p = elim (decided v) [
      | inl q ↦ let a = on_alike v q in (sym a.0, sym a.1)
      | inr f ↦
          let (e, r) = off_alike v f in
          let b = rw (rank_alike path s v r) at p in
          (hung_walked.parent v b ∙ sym e, hung_walked.level v b ∙ sym r)
    ]

    path_top : On top → Stands n path top
    path_top q =
        let e = (on_alike top q).0 ∙ W.top_parent in
        let r = (on_alike top q).1 ∙ W.top_rank in
        elim H.hook [
          | inl (f, g) ↦ inl (e ∙ f, r ∙ g)
          | inr (h, p, g) ↦ hangs top (parent_of t top) e h (kept_placed path_kept (parent_of t top) p) (r ∙ g ∙ ap suc (sym (path_kept.level (parent_of t top) p)))
        ]

    path_on : (v : ℕ) → v < n → v ≢ top → On v → Stands n path v
    path_on v h d q =
        let m = after_hung v q.0 in
        let (u, l, r) = W.below v m d in
        let o : On (parent_of w v) = (before_hung (parent_of w v) u, rw (par_placed w v (W.reached v m)) at (over_par_of levels v deepest (in_walk deepest W.deepest_in) q.1)) in
        hangs v (parent_of w v) (on_alike v q).0 (in_walk (parent_of w v) u) (on_placed (parent_of w v) o) ((on_alike v q).1 ∙ r ∙ ap suc (sym (on_alike (parent_of w v) o).1))

    path_off : (v : ℕ) → v < n → T (placed path v) → (On v → ⊥) → Stands n path v
    path_off v h p f =
        let (e, r) = off_alike v f in
        elim (S.stands v h (rw (rank_alike path s v r) at p)) [
          | inl (a, b) ↦ inl (e ∙ a, r ∙ b)
          | inr (a, b, c) ↦ hangs v (parent_of s v) e a (kept_placed path_kept (parent_of s v) b) (r ∙ c ∙ ap suc (sym (path_kept.level (parent_of s v) b)))
        ]

    path_standing : Standing n path
    path_standing =
        let l = path_keeps w (Long n) (λ v r m. laid_long w r v m) steps deepest s (S.long_parent, S.long_level) in
        record {
          long_parent = l.0;
          long_level = l.1;
          long_note = ap length (path_note w steps deepest s) ∙ S.long_note;
          long_mark = ap length (path_mark w steps deepest s) ∙ S.long_mark;
          stands = λ v h p. elim (decided v) [
            | inr f ↦ path_off v h p f
            | inl q ↦ elim (ℕ_discrete v top) [ yes e ↦ rw e (path_top (rw e at q)) | no e ↦ path_on v h e q ]
          ];
        }

    pub path_placed : PathPlaced n top s w path deepest
    path_placed = record {
      standing = path_standing;
      same_note = path_note w steps deepest s;
      same_mark = path_mark w steps deepest s;
      same_held = path_held w steps deepest s;
      same_crossed = path_crossed w steps deepest s;
      decided = decided;
      on_placed = on_placed;
      off_parent = λ v f. (off_alike v f).0;
      off_rank = λ v f. (off_alike v f).1;
      agrees = record { parent = λ v p. (agrees v p).0; level = λ v p. (agrees v p).1 };
      more = path_count W.standing steps deepest s (in_walk deepest W.deepest_in) (W.reached deepest W.deepest_in) (omega (arith, lev_rank w deepest, placed_rank w top (W.reached top here))) (S.long_parent, S.long_level) (λ i h. loose (up (par w) i deepest) (taken_on (up (par w) i deepest) (i, h, refl)).0);
    }
