-- What the theorems of the rules say of a moment of a run.
-- Assumes nothing.
use Rattle.std.specs.Prelude.{ℕ, suc, ◌≤◌, ◌<◌, ◌≡◌, refl, ◌↔◌, length}
use Rattle.std.proofs.Common.{sym, subst, arith}
use Rattle.std.proofs.Math.Path.{fun_ext}
use mathlib.Core.List.{List, [], ◌∷◌}
use Rattle.std.proofs.Math.Dec.{T}
use Rattle.std.proofs.Math.ListN.{length-append}
use Rattle.base.specs.Answer.{gives, refuses}
use Rattle.base.specs.Truth.{T_dec}
use Rattle.base.specs.Link.{Link}
use Rattle.rules.specs.Links.{Links, linked, Among, SameSet, Tells, Each}
use Rattle.rules.specs.Removal.{Sole, Cut, PieceIn, Piece}
use Rattle.rules.specs.Forest.{DepthFirst}
use Rattle.rules.specs.Tables.{Tables, placed, par, fresh, cleared}
use Rattle.rules.specs.Building.{close_building, done, passes, ceiling, lower_ceiling}
use Rattle.rules.specs.Reading.{read_links, accepted, sole, cut, root_of, piece}
use Rattle.rules.specs.Facts.{Standing, SameReports}
use Rattle.rules.proofs.Laws.Search.{every_at, every_intro}
use Rattle.rules.proofs.Laws.Tables.{SameForest, same_placed, same_par, same_lev, placed_loose, fresh_loose}
use Rattle.rules.proofs.Laws.Passes.{told_forest}
use Rattle.rules.proofs.Laws.Reading.{read_forest}
use Rattle.rules.proofs.Theorems.{finished_forest, finished_pieces, passes_within, reading_accepts, sole_by_removal, cut_by_removal, piece_by_removal, reports_equal}
use Rattle.state.specs.Test.{is_building, is_reading, is_read}
use Rattle.state.specs.Call.{moved}
use Rattle.state.specs.Close.{read}
use Rattle.state.proofs.Laws.KeepsLeft.{whole_makes, more_makes, read_makes, false_makes}
use Rattle.state.proofs.Laws.KeepsTables.{reads_settled}
use Rattle.demands.specs.Run.{Origin, start, close, Moment, fragments, forest_of, tables_at}
use Rattle.demands.specs.Step.{close_at, step}
use Rattle.demands.proofs.Laws.Answered.{building_said}
use Rattle.demands.proofs.Laws.Steps.{read_on, false_on}
use Rattle.demands.proofs.Laws.Runs.{Holds, bounds_at, agrees_at, some_room, forest_stands, building_tables, read_tables_lem}

-- Done speaks of the forest alone.
done_same : (n : ℕ) {s t : Tables} → SameForest s t → T (done n s) → T (done n t)
unfolding done
done_same n e d = rw (← same_placed e) d

-- So do pieces.
pieces_same : (n : ℕ) {s t : Tables} → SameForest s t → (v : ℕ) → piece n s v ≡ piece n t v
unfolding piece root_of
pieces_same n e v = rw (same_par e, same_lev e) refl

forest_turn : {s t : Tables} → SameForest s t → SameForest t s
forest_turn e = record { same_parent = sym e.same_parent; same_level = sym e.same_level }

module _ {o : Origin} {m : Moment} (H : Holds o m) where
  abbrev n : ℕ
  n = fragments o

  abbrev F : Tables
  F = forest_of o m.told

  -- Building: something is unplaced after the passes told.
  pub unfinished_at : T (is_building m.state.stage) → T (done n F) → ⊥
  unfinished_at b d =
      let (S, R) = forest_stands H in
      let e = told_forest (some_room H) S R m.telling H.among in
      (agrees_at H).unfinished b (rw (H.tables, building_tables o m b, H.size) (done_same n (forest_turn e) d))

  pub building_told : T (is_building m.state.stage) → T (building_said (close_at m).answer)
  building_told b =
      let t = close_building m.state.n (tables_at m) in
      elim (T_dec (done m.state.n t)) [
        | yes d ↦ rw (whole_makes m.state m.frag m.held H.tested b d).answer tt
        | no d ↦ rw (more_makes m.state m.frag m.held H.tested b d).answer tt
      ]

  -- Every other stage: the forest of the passes told stands whole in the tables.
  module _ (b : T (is_building m.state.stage) → ⊥) where
    pub forest_at : SameForest (tables_at m) F
    forest_at = rw (read_tables_lem H b) (read_forest (forest_stands H).0 m.telling H.among)

    pub placed_at : (v : ℕ) → v < n → T (placed (tables_at m) v)
    placed_at v l = (agrees_at H).all_placed b v (rw H.size l)

    pub done_at : T (done n F)
    unfolding done
    done_at = done_same n forest_at (every_intro (placed (tables_at m)) n placed_at)

    -- Reading accepts exactly the depth-first forests of what was told.
    pub accepts_exactly : T (accepted n (tables_at m)) ↔ DepthFirst n (par (tables_at m)) (linked m.telling)
    accepts_exactly = rw (same_par forest_at, read_tables_lem H b) (reading_accepts n F m.telling (forest_stands H).0 H.among)

    -- Where it accepts, what is asked is what removal shows.
    module _ (x : T (accepted n (tables_at m))) where
      read_accepted : T (accepted n (read_links (cleared n F) m.telling))
      read_accepted = rw (read_tables_lem H b) at x

      pub sole_removes : (a b : ℕ) → a < n → b < n → T (sole n (tables_at m) a b) ↔ Sole m.telling a b
      sole_removes = rw (read_tables_lem H b) (sole_by_removal n F m.telling (forest_stands H).0 H.among read_accepted)

      pub cut_removes : (v : ℕ) → v < n → T (cut n (tables_at m) v) ↔ Cut m.telling v
      cut_removes = rw (read_tables_lem H b) (cut_by_removal n F m.telling (forest_stands H).0 H.among read_accepted)

      pub piece_removes : (v : ℕ) → v < n → Piece m.telling v (piece n (tables_at m) v)
      piece_removes = rw (read_tables_lem H b) (piece_by_removal n F m.telling (forest_stands H).0 H.among read_accepted)

  -- The close of a reading pass.
  module _ (r : T (is_reading m.state.stage)) where
    pub close_read : T (accepted n (tables_at m)) → (close_at m).answer ≡ gives read
    close_read x = (read_makes m.state m.frag m.held H.tested r (subst (λ (i : ℕ). T (accepted i (tables_at m))) (sym H.size) x)).answer

    pub close_false : (T (accepted n (tables_at m)) → ⊥) → (close_at m).answer ≡ refuses 9 0
    close_false x = (false_makes m.state m.frag m.held H.tested r (λ y. x (subst (λ (i : ℕ). T (accepted i (tables_at m))) H.size y))).answer

    -- A false one leads to Built.
    pub read_from : T (is_read (step m close).state.stage) → T (accepted n (tables_at m))
    unfolding moved
    read_from z = elim (T_dec (accepted n (tables_at m))) [
      | yes x ↦ x
      | no x ↦ absurd (rw (false_on m H.tested r (λ y. x (subst (λ (i : ℕ). T (accepted i (tables_at m))) H.size y))).state at z)
    ]

    -- An accepted one leads to Read, and keeps what it told.
    pub read_next : T (accepted n (tables_at m)) → T (is_read (step m close).state.stage) × ((step m close).telling ≡ m.telling)
    unfolding moved
    read_next x = let L = read_on m H.tested r (subst (λ (i : ℕ). T (accepted i (tables_at m))) (sym H.size) x) in (rw L.state tt, L.as_telling)

-- Built from the start.
module _ {n k : ℕ} {m : Moment} (H : Holds (start n k) m) where
  -- Where nothing was told something is unplaced.
  none_told : T (done n (forest_of (start n k) [])) → ⊥
  unfolding forest_of passes done
  none_told d = placed_loose (fresh n) 0 (every_at (placed (fresh n)) n d 0 (omega (arith, (bounds_at H).some_fragments, H.size))) (fresh_loose n 0)

  set_among : (E : Links) (gs : List (List Link)) → Each (λ g. Among n (linked g)) gs → Each (Tells E) gs → T (done n (forest_of (start n k) gs)) → Among n E
  set_among E [] a e d = absurd (none_told d)
  set_among E (g ∷ gs) (a, r) (e, es) d = λ u v t. a u v (rw (e u v) t)

  pub forest_finished : (T (is_building m.state.stage) → ⊥) → (E : Links) → Each (Tells E) m.told → DepthFirst n (par (tables_at m)) E
  unfolding forest_of
  forest_finished b E e = rw (same_par (forest_at H b)) (finished_forest n k E m.told (some_room H) (set_among E m.told H.amongs e (done_at H b)) e (done_at H b))

  pub pieces_finished : (T (is_building m.state.stage) → ⊥) → (E : Links) → Each (Tells E) m.told → (v : ℕ) → v < n → PieceIn E v (piece n (tables_at m) v)
  unfolding forest_of
  pieces_finished b E e v l =
      rw (pieces_same n (forest_at H b) v) (finished_pieces n k E m.told (some_room H) (set_among E m.told H.amongs e (done_at H b)) e (done_at H b) v l)

  -- A reading pass that told the set that every pass told is accepted.
  pub reads_accepted : T (is_reading m.state.stage) → (E : Links) → Each (Tells E) m.told → Tells E m.telling → T (accepted n (tables_at m))
  reads_accepted c E e t =
      let b = reads_settled m.state.stage c in
      let same : E ≡ linked m.telling = sym (fun_ext (λ u. fun_ext (t u))) in
      (accepts_exactly H b).1 (rw same at (forest_finished b E e))

  -- In Building one close more is within the ceiling.
  module _ (b : T (is_building m.state.stage)) where
    pub below_ceiling : suc (length m.told) ≤ ceiling n k
    unfolding forest_of
    below_ceiling = omega (arith, length-append m.told ([] ∷ []), (passes_within n k m.told [] (some_room H) H.amongs (unfinished_at H b)).0)

    pub below_more : suc (length m.told) ≤ lower_ceiling n k
    unfolding forest_of
    below_more = omega (arith, length-append m.told ([] ∷ []), (passes_within n k m.told [] (some_room H) H.amongs (unfinished_at H b)).1)

reports_between : (n p : ℕ) → n ≡ p → (s t : Tables) (g h : List Link) → Standing n s → Standing p t → Among n (linked g) → SameSet g h
    → T (accepted n (read_links (cleared n s) g)) → T (accepted p (read_links (cleared p t) h)) → SameReports n (read_links (cleared n s) g) (read_links (cleared p t) h)
reports_between n p e s t g h = rw (← e) (reports_equal n s t g h)

-- Two moments whose readings told one set.
module _ {o q : Origin} {m w : Moment} (H : Holds o m) (K : Holds q w) (alike : fragments o ≡ fragments q) (same : SameSet m.telling w.telling) where
  pub reports_alike : (b : T (is_building m.state.stage) → ⊥) (c : T (is_building w.state.stage) → ⊥)
      → T (accepted (fragments o) (tables_at m)) → T (accepted (fragments q) (tables_at w)) → SameReports (fragments o) (tables_at m) (tables_at w)
  reports_alike b c x y =
      let X = rw (read_tables_lem H b) at x in
      let Y = rw (read_tables_lem K c) at y in
      rw (read_tables_lem H b, read_tables_lem K c)
      (reports_between (fragments o) (fragments q) alike _ _ m.telling w.telling (forest_stands H).0 (forest_stands K).0 H.among same X Y)
