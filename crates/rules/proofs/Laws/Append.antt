-- A pass told in parts, and passes one after another.
-- Assumes nothing.
use Prim.Native.Nat.{ℕ, zero, suc, ◌≤◌, ◌<◌}
use Rattle.std.specs.Prelude.{◌≡◌, refl, Bool, List, [], ◌∷◌, ◌++◌}
use Rattle.std.proofs.Common.{sym, ◌∙◌, inl, inr}
use Rattle.std.proofs.Math.Path.{ap}
use Rattle.base.specs.Link.{Link}
use Rattle.rules.specs.Links.{Links, linked, Among, Each}
use Rattle.rules.specs.Forest.{up, DepthFirst}
use Rattle.rules.specs.Tables.{Tables, clear_notes, cleared}
use Rattle.rules.specs.Building.{build_link, build_links, pass, passes}
use Rattle.rules.specs.Facts.{Standing, Rested}
use Rattle.rules.proofs.Laws.Links.{append_cases}
use Rattle.rules.proofs.Laws.Tables.{SameForest}
use Rattle.rules.proofs.Laws.Passes.{pass_stands, pass_rests}

-- Blocks add up to one list.
pub build_append : (n k : ℕ) (t : Tables) (g h : List Link) → build_links n k t (g ++ h) ≡ build_links n k (build_links n k t g) h
unfolding build_links
build_append n k t [] h = refl
build_append n k t (e ∷ g) h = build_append n k (build_link n k t e) g h

pub among_append : (n : ℕ) (g h : List Link) → Among n (linked g) → Among n (linked h) → Among n (linked (g ++ h))
among_append n g h a b u v t = elim (append_cases g h u v t) [ inl x ↦ a u v x | inr x ↦ b u v x ]

-- One pass more.
pub passes_snoc : (n k : ℕ) (t : Tables) (gs : List (List Link)) (g : List Link) → passes n k t (gs ++ (g ∷ [])) ≡ pass n k (passes n k t gs) g
unfolding passes
passes_snoc n k t [] g = refl
passes_snoc n k t (h ∷ gs) g = passes_snoc n k (pass n k t h) gs g

pub each_snoc : (P : List Link → Type 0) (gs : List (List Link)) (g : List Link) → Each P gs → P g → Each P (gs ++ (g ∷ []))
each_snoc P [] g e p = (p, tt)
each_snoc P (h ∷ gs) g (q, e) p = (q, each_snoc P gs g e p)

-- What stands and rests does so after any passes.
pub passes_stand : {n k : ℕ} → 1 ≤ k → (t : Tables) (gs : List (List Link)) → Standing n t → Rested n t → Each (λ g. Among n (linked g)) gs
    → Standing n (passes n k t gs) × Rested n (passes n k t gs)
unfolding passes
passes_stand pos t [] S R a = (S, R)
passes_stand {n} {k} pos t (g ∷ gs) S R (b, a) = passes_stand pos (pass n k t g) gs (pass_stands pos S R g b) (pass_rests pos S R g b) a

-- Clearing leaves the forest alone, and only that.
pub cleared_same : (n : ℕ) {s t : Tables} → SameForest s t → cleared n s ≡ cleared n t
unfolding cleared
cleared_same n e = rw (e.same_parent, e.same_level) refl

put_back : (t : Tables) (a b : List ℕ) (h : List Link) (c : Bool) → t.note ≡ a → t.mark ≡ b → t.held ≡ h → t.crossed ≡ c
    → record { parent = t.parent; level = t.level; note = a; mark = b; held = h; crossed = c } ≡ t
put_back t a b h c p q r s = rw (← p, ← q, ← r, ← s) refl

pub rested_cleared : {n : ℕ} {t : Tables} → Rested n t → cleared n t ≡ t
unfolding cleared
rested_cleared {n} {t} R = put_back t _ _ _ _ R.no_note R.no_mark R.no_held R.no_cross

-- Where no link is held, clearing the notes is clearing both.
pub unheld_cleared : (n : ℕ) (t : Tables) → t.held ≡ [] → clear_notes n t ≡ cleared n t
unfolding cleared
unheld_cleared n t e = rw e refl

-- A depth-first forest is one by the parents of its fragments.
module _ (n : ℕ) (p q : ℕ → ℕ) (same : (v : ℕ) → v < n → p v ≡ q v) (inside : (v : ℕ) → v < n → p v < n) where
  up_same : (k v : ℕ) → v < n → (up p k v ≡ up q k v) × (up p k v < n)
  unfolding up
  up_same zero v h = (refl, h)
  up_same (suc k) v h = let (e, i) = up_same k (p v) (inside v h) in (e ∙ ap (up q k) (same v h), i)

  pub depth_first_same : (E : Links) → Among n E → DepthFirst n p E → DepthFirst n q E
  depth_first_same E a D = record {
    inside = λ v h. rw (← same v h) (inside v h);
    rooted = λ v h. let (k, e) = D.rooted v h in let (z, i) = up_same k v h in (k, sym (ap q z) ∙ sym (same (up p k v) i) ∙ e ∙ z);
    tree = λ v h d. rw (← same v h) (D.tree v h (λ e. d (sym (same v h) ∙ e)));
    spans = λ u v t. elim (D.spans u v t) [
      | inl (k, e) ↦ inl (k, sym (up_same k v (a u v t).1).0 ∙ e)
      | inr (k, e) ↦ inr (k, sym (up_same k u (a u v t).0).0 ∙ e)
    ];
  }
