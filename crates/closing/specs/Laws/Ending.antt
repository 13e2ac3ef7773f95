-- The end of a pass: labels, chains and arranged links, the pieces placed, and all but the forest cleared.
-- Assumes nothing.
use Rattle.std.specs.Prelude.{ℕ, zero, suc, ◌+◌, ◌-◌, ◌*◌, ◌/◌, ◌%◌, ◌≤◌, ◌<◌, ◌≡◌, refl, true, false, ◌&&◌, not, ◌≢◌, T, ltb, get_or, set, take, drop, replicate}
use Rattle.std.proofs.Math.Path.{sym, ap}
use Rattle.std.proofs.Common.{◌∙◌, arith, ltb→lt, T_not, length-set, ext_get_or, get_or-set_same, get_or-set_other, take-add}
use mathlib.Core.List.{List, [], ◌∷◌, ◌++◌, append_assoc}
use Rattle.std.proofs.Math.Decide.{ℕ_discrete}
use Rattle.std.proofs.Math.ListN.{length}
use Rattle.base.specs.Truth.{and_l, and_r, T_true, T_false}
use Rattle.rules.specs.Links.{linked}
use Rattle.rules.specs.Tables.{Tables, placed, cleared}
use Rattle.rules.specs.Building.{pieces, place_pieces, close_building, done}
use Rattle.rules.proofs.Laws.Search.{every_at, every_intro}
use Rattle.rules.proofs.Laws.Pieces.{Inside, label_in, pieces_length}
use Rattle.rules.proofs.Laws.Tables.{placed_rank, rank_placed}
use Rattle.state.specs.Layout.{held_links, wiped, words, stored, radix, section, link_in, tables_in, forest_in, frag_of, bare}
use Rattle.state.specs.Test.{ends_fit, none_twice}
use Rattle.state.proofs.Laws.Clear.{wiped_is, wiped_length, wiped_before, wiped_within, wiped_behind}
use Rattle.state.proofs.Laws.Held.{once_made}
use Rattle.state.proofs.Laws.Layout.{section_length, section_at, level_word}
use Rattle.state.proofs.Laws.Lists.{zeros}
use Rattle.state.proofs.Laws.Behind.{behind_plain}
use Rattle.state.specs.declared.Stage.TheVariants.{Building}
use Rattle.testing.specs.Laid.{Laid}
use Rattle.testing.specs.Laws.Only.{drop_by}
use Rattle.closing.specs.Arranged.{Arrangeable, Arranges}
use Rattle.closing.specs.Arranging.{next_or}
use Rattle.closing.specs.Walk.{Wide}
use Rattle.closing.specs.Closing.{labels_in, Labels, Chainable, Chains, PlacesAll, Endable, Prepares, EndsPass}
use Rattle.pieces.specs.Gathered.{held_tables, pointer_of, size_at, held_at, with_pieces}
use Rattle.differing.specs.Laws.Scratch.{blank_at}
use Rattle.pieces.specs.Laws.Gathered.{pointer_own, pointer_other, pieces_words}
use Rattle.pieces.specs.Laws.Gather.{link_there}
use Rattle.closing.specs.Laws.Members.{membered_by}
use Rattle.closing.specs.Laws.Choosing.{label_by}
use Rattle.closing.specs.Laws.Frames.{section_by, wide_by}

-- The fragments below v have their labels.
pub record Labelling (n : ℕ) (f₀ : List ℕ) (v : ℕ) (f : List ℕ) : Type 0 where
  pub same_long : length f ≡ length f₀
  pub labels : (k : ℕ) → k < v → get_or f (7 * n + k) 0 ≡ next_or k (get_or f₀ (4 * n + k) 0)
  pub before : (i : ℕ) → i < 7 * n → get_or f i 0 ≡ get_or f₀ i 0
  pub behind : (i : ℕ) → 8 * n ≤ i → get_or f i 0 ≡ get_or f₀ i 0

pub labelling_none : (n : ℕ) (f : List ℕ) → Labelling n f 0 f
labelling_none n f = record { same_long = refl; labels = λ k l. absurd (omega arith); before = λ i l. refl; behind = λ i l. refl }

module _ {n : ℕ} {f₀ : List ℕ} {v : ℕ} {f : List ℕ} (W : Wide n f₀) (L : Labelling n f₀ v f) where
  module _ (l : v < n) (r : ℕ) (e : r ≡ next_or v (get_or f (4 * n + v) 0)) where
    label_other : (i : ℕ) → i ≢ 7 * n + v → get_or (set f (7 * n + v) r) i 0 ≡ get_or f i 0
    label_other i d = get_or-set_other f (7 * n + v) i r 0 d

    pub labelling_more : Labelling n f₀ (v + 1) (set f (7 * n + v) r)
    labelling_more = record {
      same_long = length-set f (7 * n + v) r ∙ L.same_long;
      labels = λ k h. elim (ℕ_discrete k v) [
        | yes q ↦ rw q (get_or-set_same f (7 * n + v) r 0 (omega (arith, L.same_long, W.long)) ∙ e ∙ ap (next_or v) (L.before (4 * n + v) (omega arith)))
        | no d ↦ label_other (7 * n + k) (λ q. d (omega arith)) ∙ L.labels k (omega arith)
      ];
      before = λ i h. label_other i (λ q. omega arith) ∙ L.before i h;
      behind = λ i h. label_other i (λ q. omega arith) ∙ L.behind i h;
    }

  pub labelling_all : v ≡ n → Labels n f₀ f
  labelling_all e = record { same_long = L.same_long; labels = λ k h. L.labels k (omega arith); before = L.before; behind = L.behind }

-- The label that a pointer tells.
told_label : (n : ℕ) (l : List ℕ) (v : ℕ) → next_or v (pointer_of l v) ≡ get_or l v 0
unfolding next_or
told_label n l v = elim (ℕ_discrete (get_or l v 0) v) [
  | yes e ↦ rw (pointer_own n l [] v e) (sym e)
  | no d ↦ rw (pointer_other n l [] v d)
]

-- The words of a forest alone: its first two sections.
take_two : (n : ℕ) (f : List ℕ) → take (2 * n) f ≡ section n 0 f ++ section n 1 f
unfolding section
take_two n f =
    let e : 2 * n ≡ n + n = omega arith in
    let a : n ≡ 1 * n = omega arith in
    let b : 0 ≡ 0 * n = omega arith in
    ap (λ (i : ℕ). take i f) e ∙ take-add n n f ∙ ap (λ (r : List ℕ). take n f ++ take n r) (ap (λ (i : ℕ). drop i f) a) ∙ ap (λ (i : ℕ). take n (drop i f) ++ take n (drop (1 * n) f)) b

-- A table of which all but the forest is cleared.
cleared_laid : (n c : ℕ) (f₀ f h : List ℕ) → words * n ≤ length f → drop (words * n) f ≡ drop (words * n) f₀ → wiped (2 * n) (words * n) f ≡ frag_of Building n (cleared n (held_tables n c f h)) f₀
unfolding frag_of cleared tables_in
cleared_laid n c f₀ f h l e =
    let m : words * n - 2 * n ≡ 14 * n = omega arith in
    rw (wiped_is (2 * n) (words * n) f (omega arith) l, e, take_two n f, m, append_assoc)
    (ap (λ (r : List ℕ). section n 0 f ++ (section n 1 f ++ r))
    (zeros n (13 * n) (14 * n) (drop (words * n) f₀) (omega arith) ∙ ap (λ (r : List ℕ). replicate {A = ℕ} n 0 ++ r)
    (zeros n (12 * n) (13 * n) (drop (words * n) f₀) (omega arith) ∙ ap (λ (r : List ℕ). replicate {A = ℕ} n 0 ++ (r ++ drop (words * n) f₀)) (sym (behind_plain n (cleared n (held_tables n c f h)) Building (λ x. x))))))

-- The held words, by what the test asks of their links.
ends_at : (n : ℕ) (t : Tables) (h : List ℕ) (m i : ℕ) → T (ends_fit n t (held_links m h)) → i < m → m ≤ length h → (get_or h i 0 / radix < get_or h i 0 % radix) × (get_or h i 0 % radix < n)
unfolding ends_fit link_in
ends_at n t [] m i x l b = absurd (omega arith)
ends_at n t (w ∷ h) zero i x l b = absurd (omega arith)
ends_at n t (w ∷ h) (suc m) zero x l b =
    let (p, q) = link_in w in
    let y = and_l (ltb p q && (ltb q n && (not (placed t p) && not (placed t q)))) _ x in
    (ltb→lt p q (and_l (ltb p q) _ y), ltb→lt q n (and_l (ltb q n) _ (and_r (ltb p q) _ y)))
ends_at n t (w ∷ h) (suc m) (suc i) x l b =
    let (p, q) = link_in w in
    ends_at n t h m i (and_r (ltb p q && (ltb q n && (not (placed t p) && not (placed t q)))) _ x) (omega arith) (omega arith)

once_at : (h : List ℕ) (m i j : ℕ) → T (none_twice (held_links m h)) → i < j → j < m → m ≤ length h → get_or h i 0 ≢ get_or h j 0
unfolding none_twice link_in
once_at [] m i j x l g b e = omega arith
once_at (w ∷ h) zero i j x l g b e = omega arith
once_at (w ∷ h) (suc m) i zero x l g b e = omega arith
once_at (w ∷ h) (suc m) zero (suc j) x l g b e =
    let s = held_links m h in
    let (p, q) = link_in w in
    T_not (linked s p q) (and_l (not (linked s p q)) _ x) (rw e (link_there h m j (omega arith) (omega arith)))
once_at (w ∷ h) (suc m) (suc i) (suc j) x l g b e =
    let s = held_links m h in
    let (p, q) = link_in w in
    once_at h m i j (and_r (not (linked s p q)) _ x) (omega arith) (omega arith) (omega arith) e

-- Tables whose stored words are the same.
stored_tables : (n c : ℕ) (f f' h : List ℕ) → 4 * n ≤ length f → length f' ≡ length f → ((i : ℕ) → i < 4 * n → get_or f' i 0 ≡ get_or f i 0) → held_tables n c f' h ≡ held_tables n c f h
unfolding tables_in
stored_tables n c f f' h l e same = rw (part 0 (omega arith), part 1 (omega arith), part 2 (omega arith), part 3 (omega arith))
  where
    part : (j : ℕ) → suc j * n ≤ 4 * n → section n j f' ≡ section n j f
    part j g = section_by n j j f' f (omega arith) (omega arith) (λ v k. same (j * n + v) (omega arith))

-- From the table as it was found to the pieces that can be placed.
module _ (n c : ℕ) (f h : List ℕ) (W : Endable n c f h) where
  end_inside : Inside n (held_links c h)
  unfolding tables_in
  end_inside u v t = let (a, b, _, _, _) = W.underway.holding.ends u v t in (a, b)

  module _ (f₁ : List ℕ) (e₁ : f₁ ≡ with_pieces n (held_links c h) f) where
    seven : 7 * n ≤ length f
    seven = omega (arith, W.wide.long)

    abbrev all : List ℕ
    all = pieces n (held_links c h)

    laid₁ : Laid n stored (pointer_of all) (size_at n all) (held_at all (held_links c h)) f f₁
    unfolding with_pieces
    laid₁ = rw e₁ (pieces_words n all (held_links c h) f seven)

    pub end_wide : Wide n f₁
    end_wide = wide_by laid₁.only.long W.wide

    module _ (f₂ : List ℕ) (L : Labels n f₁ f₂) where
      long₂ : length f₂ ≡ length f
      long₂ = L.same_long ∙ laid₁.only.long

      pub end_wipable : 7 * n ≤ length f₂
      end_wipable = omega (arith, W.wide.long, long₂)

      module _ (f₃ : List ℕ) (e₃ : f₃ ≡ wiped (4 * n) (7 * n) f₂) where
        long₃ : length f₃ ≡ length f
        long₃ = ap length e₃ ∙ wiped_length (4 * n) (7 * n) f₂ (omega arith) end_wipable ∙ long₂

        before₃ : (i : ℕ) → i < 4 * n → get_or f₃ i 0 ≡ get_or f i 0
        before₃ i l = ap (λ (g : List ℕ). get_or g i 0) e₃ ∙ wiped_before (4 * n) (7 * n) f₂ (omega arith) end_wipable i l ∙ L.before i (omega arith) ∙ laid₁.only.before i l

        blank₃ : (i : ℕ) → 4 * n ≤ i → i < 7 * n → get_or f₃ i 0 ≡ 0
        blank₃ i a b = ap (λ (g : List ℕ). get_or g i 0) e₃ ∙ wiped_within (4 * n) (7 * n) f₂ (omega arith) end_wipable i a b

        behind₃ : (i : ℕ) → 7 * n ≤ i → get_or f₃ i 0 ≡ get_or f₂ i 0
        behind₃ i l = ap (λ (g : List ℕ). get_or g i 0) e₃ ∙ wiped_behind (4 * n) (7 * n) f₂ (omega arith) end_wipable i l

        rest₃ : (i : ℕ) → 8 * n ≤ i → get_or f₃ i 0 ≡ get_or f i 0
        rest₃ i l = behind₃ i (omega arith) ∙ L.behind i l ∙ laid₁.only.behind i (omega arith)

        found : labels_in n f₂ ≡ all
        found =
            let long : suc 7 * n ≤ length f₂ = omega (arith, W.wide.long, long₂) in
            let k = section_length n f₂ 7 long in
            ext_get_or 0 (labels_in n f₂) all (k ∙ sym (pieces_length n (held_links c h))) (λ i g.
            let l : i < n = omega arith in
            sym (section_at n f₂ 7 (7 * n + i) i refl l) ∙ L.labels i l ∙ ap (next_or i) (laid₁.first i l) ∙ told_label n all i)

        pub end_chainable : Chainable n f₃
        end_chainable = record {
          wide = wide_by long₃ W.wide;
          labels = λ v l. omega (arith, behind₃ (7 * n + v) (omega arith), label_by n f₂ found v l, label_in n (held_links c h) end_inside v l);
          blank = λ p l. rest₃ (9 * n + p) (omega arith) ∙ blank_at n f W.wide.long W.blank (9 * n + p) (omega arith) (omega arith);
        }

        module _ (f₄ : List ℕ) (C : Chains n f₃ f₄) where
          pub end_arrangeable : Arrangeable n c f₄ h
          unfolding tables_in
          end_arrangeable = record {
            some = W.some;
            few = W.wide.few;
            long = omega (arith, W.wide.long, long₃, C.same_long);
            there = W.there;
            blank = λ i a b. C.before i (omega arith) ∙ blank₃ i a b;
            ends = λ i l. ends_at n (held_tables n c f h) h c i W.ends l W.there;
            once = λ i j l g. once_at h c i j (once_made (held_links c h) W.underway.holding.once) l g W.there;
          }

          module _ (f₅ h₅ : List ℕ) (A : Arranges n c f₄ h f₅ h₅) where
            long₅ : length f₅ ≡ length f
            long₅ = A.behind.same_long ∙ C.same_long ∙ long₃

            stored₅ : (i : ℕ) → i < 4 * n → get_or f₅ i 0 ≡ get_or f i 0
            stored₅ i l = A.stored i l ∙ C.before i (omega arith) ∙ before₃ i l

            labels₅ : labels_in n f₅ ≡ labels_in n f₂
            labels₅ = section_by n 7 7 f₅ f₂ (omega (arith, W.wide.long, long₅)) (omega (arith, W.wide.long, long₂)) (λ v l.
                A.behind.within (7 * n + v) (omega arith) (omega arith) ∙ C.before (7 * n + v) (omega arith) ∙ behind₃ (7 * n + v) (omega arith))

            tables₅ : held_tables n c f₅ h ≡ held_tables n c f h
            tables₅ = stored_tables n c f f₅ h (omega (arith, W.wide.long)) long₅ stored₅

            told₅ : labels_in n f₅ ≡ pieces n (held_tables n c f₅ h).held
            unfolding tables_in
            told₅ = labels₅ ∙ found

            pub end_prepares : Prepares n c f h f₅ h₅
            end_prepares = record {
              same_long = long₅;
              stored = stored₅;
              closable = record {
                wide = wide_by long₅ W.wide;
                membered = membered_by (λ i a b. A.behind.within i a (omega arith)) C.membered;
                arranged = A.arranged;
                room = W.room;
                underway = rw tables₅ W.underway;
                labels = told₅;
              };
              past = λ i l. A.behind.past i l ∙ C.behind i (omega arith) ∙ rest₃ i (omega arith);
              held_long = A.held_long;
              held_past = A.held_past;
            }

-- From the pieces placed to the forest alone.
module _ (n c : ℕ) (f h : List ℕ) (W : Endable n c f h) (f₁ h₁ : List ℕ) (P : Prepares n c f h f₁ h₁) (f₂ : List ℕ) (A : PlacesAll n c f₁ h₁ f₂) where
  tables_one : held_tables n c f₁ h ≡ held_tables n c f h
  tables_one = stored_tables n c f f₁ h (omega (arith, W.wide.long)) P.same_long P.stored

  placed_two : held_tables n c f₂ h ≡ place_pieces n (pieces n (held_tables n c f h).held) n (held_tables n c f h)
  placed_two = (A h P.closable).tables ∙ rw (P.closable.labels, tables_one)

  long_two : length f₂ ≡ length f
  long_two = (A h P.closable).beside.same_long ∙ P.same_long

  end_long : words * n ≤ length f₂
  end_long = omega (arith, W.wide.long, long_two)

  past_two : drop (words * n) f₂ ≡ drop (words * n) f
  past_two = drop_by (words * n) f f₂ long_two (λ i l. (A h P.closable).beside.past i l ∙ P.past i l)

  held_same : wiped 0 c h₁ ≡ wiped 0 c h
  held_same = rw (wiped_is 0 c h₁ (omega arith) (omega (arith, W.there, P.held_long)), wiped_is 0 c h (omega arith) W.there, drop_by c h h₁ P.held_long P.held_past)

  pub end_laid : (f₃ h₃ : List ℕ) → f₃ ≡ wiped (2 * n) (words * n) f₂ → h₃ ≡ wiped 0 c h₁ → EndsPass n c f h f₃ h₃
  unfolding close_building
  end_laid f₃ h₃ e g = record {
    same_long = ap length e ∙ wiped_length (2 * n) (words * n) f₂ (omega arith) end_long ∙ long_two;
    frag = e ∙ cleared_laid n c f f₂ h end_long past_two ∙ ap (λ (t : Tables). frag_of Building n (cleared n t) f) placed_two;
    held = g ∙ held_same;
  }

-- Whether every fragment is placed, by the words of their levels.
module _ (n : ℕ) (f : List ℕ) where
  pub not_done : (v : ℕ) → v < n → get_or f (n + v) 0 ≡ 0 → false ≡ done n (forest_in n f)
  unfolding done
  not_done v l e = sym (T_false _ (λ q. omega (arith, level_word (bare n) f [] v l, placed_rank (forest_in n f) v (every_at (placed (forest_in n f)) n q v l))))

  pub all_done : ((v : ℕ) → v < n → get_or f (n + v) 0 ≡ 0 → ⊥) → true ≡ done n (forest_in n f)
  unfolding done
  all_done h = sym (T_true _ (every_intro (placed (forest_in n f)) n (λ v l. rank_placed (forest_in n f) v (omega (arith, level_word (bare n) f [] v l, h v l)))))
