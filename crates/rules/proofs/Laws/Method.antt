-- What follows building, by whatever method; and that B1 to B6 keep what a method owes.
-- Assumes nothing.
use Prim.Native.Nat.{ℕ, ◌≤◌, ◌<◌}
use Rattle.std.specs.Prelude.{◌≡◌, Bool}
use Rattle.std.proofs.Math.Path.{refl, ap, subst}
use Rattle.std.proofs.Common.{sym, ◌∙◌}
use mathlib.Core.List.{List, [], ◌∷◌, ◌++◌}
use Rattle.std.proofs.Math.ListN.{length}
use Rattle.std.proofs.Math.Dec.{T}
use Rattle.base.specs.Link.{Link}
use Rattle.rules.specs.Links.{Links, Undirected, linked, Among, Tells, Each}
use Rattle.rules.specs.Forest.{DepthFirst}
use Rattle.rules.specs.Tables.{Tables, placed, par, fresh, cleared}
use Rattle.rules.specs.Building.{build_link, build_links, close_building, done, pass, passes, ceiling}
use Rattle.rules.specs.Reading.{read_links, accepted, piece}
use Rattle.rules.specs.Removal.{PieceIn}
use Rattle.rules.specs.Facts.{Standing, Underway, SameReports}
use Rattle.rules.specs.Method.{Method, tell_list, tell_passes, after, Owes, first_method}
use Rattle.rules.proofs.Laws.Links.{linked_turn, linked_head, linked_tail, between_here}
use Rattle.rules.proofs.Laws.Search.{every_at}
use Rattle.rules.proofs.Laws.Tables.{same_placed, placed_loose, fresh_loose, fresh_standing, fresh_rested}
use Rattle.rules.proofs.Laws.Step.{link_step, step_forest, building_kept, rested_underway}
use Rattle.rules.proofs.Laws.CloseAny.{close_stands, close_rests}
use Rattle.rules.proofs.Laws.Passes.{result}
use Rattle.rules.proofs.Laws.Ceiling.{within_ceiling}
use Rattle.rules.proofs.Laws.Append.{passes_stand}
use Rattle.rules.proofs.Laws.Reports.{reading_exact, equal_reports, forest_piece}

-- A list that tells a set among n.
among_told : {n : ℕ} {E : Links} → Among n E → (g : List Link) → Tells E g → Among n (linked g)
among_told A g e u v r = A u v (rw (e u v) at r)

each_among : {n : ℕ} (E : Links) → Among n E → (gs : List (List Link)) → Each (Tells E) gs → Each (λ g. Among n (linked g)) gs
each_among E A [] e = tt
each_among E A (g ∷ gs) (e, es) = (among_told A g e, each_among E A gs es)

-- Over a depth-first forest of the set, however it was built.
module _ {n : ℕ} {E : Links} (A : Among n E) where
  set_forest : (g : List Link) → Tells E g → (par : ℕ → ℕ) → DepthFirst n par E → DepthFirst n par (linked g)
  set_forest g e p D = record {
    inside = D.inside;
    rooted = D.rooted;
    tree = λ v h d. rw (e v (p v)) (D.tree v h d);
    spans = λ u v r. D.spans u v (rw (e u v) at r);
  }

  pub forest_accepted : {t : Tables} → Standing n t → DepthFirst n (par t) E → (g : List Link) → Tells E g → T (accepted n (read_links (cleared n t) g))
  forest_accepted {t} S D g e = (reading_exact S g (among_told A g e)).1 (set_forest g e (par t) D)

  pub forests_agree : {s t : Tables} → Standing n s → Standing n t → DepthFirst n (par s) E → DepthFirst n (par t) E → (g h : List Link) → Tells E g → Tells E h → SameReports n (read_links (cleared n s) g) (read_links (cleared n t) h)
  forests_agree S Z C D g h e f = equal_reports S Z g h (among_told A g e) (λ u v. e u v ∙ sym (f u v)) (forest_accepted S C g e) (forest_accepted Z D h f)

-- What a method keeps holds after any passes.
module _ {S : Type 0} {n : ℕ} {M : Method S} {Sound : S → Type 0} (O : Owes n M Sound) where
  list_sound : (s : S) (g : List Link) → Among n (linked g) → Sound s → Sound (tell_list M s g)
  unfolding tell_list
  list_sound s [] A h = h
  list_sound s ((a, b) ∷ g) A h =
      let (i, j, d) = A a b (linked_head (a, b) g a b (between_here a b)) in
      list_sound (M.tell s (a, b)) g (λ u v r. A u v (linked_tail (a, b) g u v r)) (O.after_link s a b i j d h)

  pub passes_sound : (s : S) (gs : List (List Link)) → Each (λ g. Among n (linked g)) gs → Sound s → Sound (tell_passes M s gs)
  unfolding tell_passes
  passes_sound s [] A h = h
  passes_sound s (g ∷ gs) (a, A) h = passes_sound (M.close (tell_list M s g)) gs A (O.after_close_lem (tell_list M s g) (list_sound s g a h))

  -- Passes that told the set.
  module _ (E : Links) (A : Among n E) (gs : List (List Link)) (tells : Each (Tells E) gs) where
    pub method_stands : Standing n (M.forest (after M gs))
    method_stands = O.stands (after M gs) (passes_sound M.first gs (each_among E A gs tells) O.at_first)

    pub method_accepted : T (done n (M.forest (after M gs))) → (g : List Link) → Tells E g → T (accepted n (read_links (cleared n (M.forest (after M gs))) g))
    method_accepted d = forest_accepted A method_stands (O.ends E gs A tells d)

-- Two methods that were told one set report alike.
pub methods_agree : {S Z : Type 0} {n : ℕ} {M : Method S} {N : Method Z} {Sound : S → Type 0} {Whole : Z → Type 0} → Owes n M Sound → Owes n N Whole → (E : Links) → Among n E → (gs hs : List (List Link)) → Each (Tells E) gs → Each (Tells E) hs → T (done n (M.forest (after M gs))) → T (done n (N.forest (after N hs))) → (g h : List Link) → Tells E g → Tells E h → SameReports n (read_links (cleared n (M.forest (after M gs))) g) (read_links (cleared n (N.forest (after N hs))) h)
methods_agree O P E A gs hs e f c d = forests_agree A (method_stands O E A gs e) (method_stands P E A hs f) (O.ends E gs A e c) (P.ends E hs A f d)

-- B1 to B6.
module _ (n k : ℕ) where
  tell_list_lem : (t : Tables) (g : List Link) → tell_list (first_method n k) t g ≡ build_links n k t g
  unfolding tell_list first_method build_links
  tell_list_lem t [] = refl
  tell_list_lem t (e ∷ g) = tell_list_lem (build_link n k t e) g

  pub tell_passes_lem : (t : Tables) (gs : List (List Link)) → tell_passes (first_method n k) t gs ≡ passes n k t gs
  unfolding tell_passes passes pass first_method
  tell_passes_lem t [] = refl
  tell_passes_lem t (g ∷ gs) = ap (λ (s : Tables). tell_passes (first_method n k) (close_building n s) gs) (tell_list_lem t g) ∙ tell_passes_lem (pass n k t g) gs

  pub first_owes : 1 ≤ k → Owes n (first_method n k) (Underway n k)
  unfolding first_method
  first_owes pos = record {
    at_first = rested_underway n k (fresh n) pos (fresh_standing n) (fresh_rested n);
    after_link = λ t a b i j d U. building_kept i j d U;
    after_close_lem = λ t U. rested_underway n k (close_building n t) pos (close_stands U) (close_rests U);
    stands = λ t U. U.standing;
    places_nothing = λ t a b i j d U v. ap (λ (p : ℕ → Bool). p v) (same_placed (step_forest (link_step n k a b t)));
    ends = λ E gs A e. subst (λ (t : Tables). T (done n t) → DepthFirst n (par t) E) (sym (tell_passes_lem (fresh n) gs)) (result pos A gs e);
    few = λ E gs g A e f. subst (λ (t : Tables). (T (done n t) → ⊥) → length (gs ++ (g ∷ [])) ≤ ceiling n k) (sym (tell_passes_lem (fresh n) gs)) (λ left. within_ceiling n k pos gs (each_among E A gs e) left g);
  }

-- The piece in a finished forest, before any reading.
told_undirected : (E : Links) (g : List Link) → Tells E g → Undirected E
told_undirected E g e u v r = rw (e v u) at (linked_turn g u v (rw (e u v) r))

pub finished_piece : (n k : ℕ) → 1 ≤ k → (E : Links) → Among n E → (gs : List (List Link)) → Each (Tells E) gs → T (done n (passes n k (fresh n) gs)) → (v : ℕ) → v < n → PieceIn E v (piece n (passes n k (fresh n) gs) v)
unfolding done
finished_piece n k pos E A [] e d v h = absurd (placed_loose (fresh n) v (every_at (placed (fresh n)) n (unfold passes in d) v h) (fresh_loose n v))
finished_piece n k pos E A (g ∷ gs) (e, es) d v h =
    let S = (passes_stand pos (fresh n) (g ∷ gs) (fresh_standing n) (fresh_rested n) (each_among E A (g ∷ gs) (e, es))).0 in
    forest_piece S (told_undirected E g e) A (result pos A (g ∷ gs) (e, es) d) v h
