-- What a close finds along a piece's members: its size, its best note, its top, its lost mark.
-- Assumes nothing.
use Rattle.std.specs.Prelude.{ℕ, zero, suc, ◌+◌, ◌*◌, ◌≤◌, ◌<◌, ◌≡◌, Bool, true, false, ◌&&◌, ◌⊎◌, T, get_or}
use Rattle.std.proofs.Math.Path.{refl, sym, ap}
use Rattle.std.proofs.Common.{◌∙◌, inl, inr, arith, eqb→eq, lt→ltb}
use mathlib.Core.List.{List, []}
use Rattle.std.proofs.Math.Decide.{ℕ_discrete, dec_lt}
use Rattle.std.proofs.Math.Dec.{eqb, ltb→lt}
use Rattle.base.specs.Pick.{pick_true, pick_false, tests}
use Rattle.base.specs.Truth.{and_intro, and_l, and_r, T_true, T_false, eq_to_eqb}
use Rattle.rules.specs.Search.{count, first}
use Rattle.rules.specs.Tables.{Tables, rank, note_of, mark_of}
use Rattle.rules.specs.Building.{member, size_of, better, noted, lost, top_of}
use Rattle.rules.proofs.Laws.Pieces.{member_intro, member_elim}
use Rattle.rules.proofs.Laws.Search.{count_le, count_zero, count_yes, count_no, some_count, first_le, first_passes, first_least, some_intro, some_elim}
use Rattle.state.specs.Layout.{section, forest_in, bare}
use Rattle.state.proofs.Laws.Layout.{section_at, note_word, mark_word_lem}
use Rattle.closing.specs.Closing.{labels_in, label_at, Follows, Chained, first_noted, top_by}
use Rattle.closing.specs.Laws.Members.{Along, none_between, skip}

-- The best note of the members so far, and with one fragment more.
module _ (t : Tables) (l : List ℕ) (p : ℕ) where
  noted_none : 0 ≡ noted t l p 0
  unfolding noted
  noted_none = refl

  noted_member : (v : ℕ) → T (member l p v) → better t (noted t l p v) (note_of t v) ≡ noted t l p (suc v)
  unfolding noted
  noted_member v m = rw (T_true (member l p v) m) (sym (pick_true _ _))

  noted_other : (v : ℕ) → (T (member l p v) → ⊥) → noted t l p v ≡ noted t l p (suc v)
  unfolding noted
  noted_other v m = rw (T_false (member l p v) m) (sym (pick_false _ _))

-- A word of the labels.
pub label_by : (n : ℕ) (f : List ℕ) {l : List ℕ} → labels_in n f ≡ l → (v : ℕ) → v < n → label_at n f v ≡ get_or l v 0
label_by n f e v h = section_at n f 7 (7 * n + v) v refl h ∙ ap (λ (x : List ℕ). get_or x v 0) e

-- A member, by the word of its label.
module _ (n : ℕ) (f : List ℕ) (p v : ℕ) (l : v < n) where
  pub label_word : eqb (label_at n f v) p ≡ member (section n 7 f) p v
  unfolding member
  label_word = ap (λ (x : ℕ). eqb x p) (label_by n f refl v l)

  label_member : label_at n f v ≡ p → T (member (section n 7 f) p v)
  label_member e = member_intro (section n 7 f) p v (sym (label_by n f refl v l) ∙ e)

  pub member_label : T (member (section n 7 f) p v) → label_at n f v ≡ p
  member_label m = label_by n f refl v l ∙ member_elim (section n 7 f) p v m

-- How many members are below v.
abbrev pub Counted : (n : ℕ) (f : List ℕ) (p size v : ℕ) → Type 0
Counted n f p size v = size ≡ count (member (section n 7 f) p) v

-- The best note of the members below v.
abbrev pub BestNote : (n : ℕ) (f : List ℕ) (p best v : ℕ) → Type 0
BestNote n f p best v = best ≡ noted (forest_in n f) (section n 7 f) p v

-- No member below v has this note; of the marks likewise.
abbrev pub NoneNoted : (n : ℕ) (f : List ℕ) (p note v : ℕ) → Type 0
NoneNoted n f p note v = (k : ℕ) → k < v → label_at n f k ≡ p → get_or f (2 * n + k) 0 ≡ note → ⊥

abbrev pub NoneMarked : (n : ℕ) (f : List ℕ) (p v : ℕ) → Type 0
NoneMarked n f p v = (k : ℕ) → k < v → label_at n f k ≡ p → get_or f (3 * n + k) 0 ≡ 0

-- They start at the smallest member.
module _ (n p : ℕ) (f : List ℕ) (C : Chained n p f) where
  pub counted_start : Counted n f p 0 p
  counted_start =
      skip (Counted n f p 0) 0 p (omega arith)
      (λ k g l e. e ∙ sym (count_no (member (section n 7 f) p) k (λ m. C.least k l (member_label n f p k (omega (arith, C.in_range)) m))))
      (sym (count_zero (member (section n 7 f) p)))

  pub best_start : BestNote n f p 0 p
  best_start =
      skip (BestNote n f p 0) 0 p (omega arith)
      (λ k g l e. e ∙ noted_other (forest_in n f) (section n 7 f) p k (λ m. C.least k l (member_label n f p k (omega (arith, C.in_range)) m)))
      (noted_none (forest_in n f) (section n 7 f) p)

  pub none_noted_start : (note : ℕ) → NoneNoted n f p note p
  none_noted_start note k l m e = C.least k l m

  pub none_marked_start : NoneMarked n f p p
  none_marked_start k l m = absurd (C.least k l m)

-- And go on from a member to the next.
module _ (n p : ℕ) (f : List ℕ) (v r : ℕ) (A : Along n p f v) (l : v < n) (F : Follows n v f r) where
  pub counted_next : (size : ℕ) → Counted n f p size v → Counted n f p (size + 1) r
  counted_next size e =
      skip (Counted n f p (size + 1)) (suc v) r F.on
      (λ k a b q. q ∙ sym (count_no (member (section n 7 f) p) k (λ m. none_between A l F k a b (member_label n f p k (omega (arith, F.within)) m))))
      (omega (arith, e, count_yes (member (section n 7 f) p) v (label_member n f p v l (A.member l))))

  pub best_next : (best x : ℕ) → BestNote n f p best v → x ≡ better (forest_in n f) best (get_or f (2 * n + v) 0) → BestNote n f p x r
  best_next best x e g =
      skip (BestNote n f p x) (suc v) r F.on
      (λ k a b q. q ∙ noted_other (forest_in n f) (section n 7 f) p k (λ m. none_between A l F k a b (member_label n f p k (omega (arith, F.within)) m)))
      (g ∙ rw (e, note_word (bare n) f [] v l) (noted_member (forest_in n f) (section n 7 f) p v (label_member n f p v l (A.member l))))

  -- A member below the next one is v or below it.
  cases : (k : ℕ) → k < r → label_at n f k ≡ p → (k < v) ⊎ (k ≡ v)
  cases k g m = elim (dec_lt k v) [
    | yes a ↦ inl a
    | no a ↦ elim (ℕ_discrete k v) [
      | yes e ↦ inr e
      | no d ↦ absurd (none_between A l F k (omega arith) g m)
    ]
  ]

  pub none_noted_next : (note : ℕ) → NoneNoted n f p note v → (get_or f (2 * n + v) 0 ≡ note → ⊥) → NoneNoted n f p note r
  none_noted_next note h d k g m e = elim (cases k g m) [ inl a ↦ h k a m e | inr q ↦ d (rw q at e) ]

  pub none_marked_next : NoneMarked n f p v → get_or f (3 * n + v) 0 ≡ 0 → NoneMarked n f p r
  none_marked_next h d k g m = elim (cases k g m) [ inl a ↦ h k a m | inr q ↦ rw q d ]

-- No more members than fragments, and p is one.
pub counted_few : (n : ℕ) (f : List ℕ) (p size v : ℕ) → Counted n f p size v → size ≤ v
counted_few n f p size v e = omega (arith, count_le (member (section n 7 f) p) v)

pub counted_all : (n : ℕ) (f : List ℕ) (p size : ℕ) → Chained n p f → Counted n f p size n → (size ≡ size_of n (section n 7 f) p) × (0 < size)
unfolding size_of
counted_all n f p size C e = (e, omega (arith, some_count (member (section n 7 f) p) n p C.in_range (label_member n f p p C.in_range C.own)))

-- What is found first is the first.
pub first_is : (p : ℕ → Bool) (n r : ℕ) → r ≤ n → (r < n → T (p r)) → ((k : ℕ) → k < r → T (p k) → ⊥) → r ≡ first p n
first_is p n r h a b = elim (dec_lt r (first p n)) [
  | yes l ↦ absurd (first_least p n r l (a (omega (arith, first_le p n))))
  | no l ↦ elim (dec_lt (first p n) r) [
    | yes g ↦ absurd (b (first p n) g (first_passes p n (omega arith)))
    | no g ↦ omega arith
  ]
]

abbrev has_note : ℕ → List ℕ → ℕ → ℕ → ℕ → Bool
has_note n f p note v = member (section n 7 f) p v && eqb (note_of (forest_in n f) v) note

module _ (n : ℕ) (f : List ℕ) (p : ℕ) where
  module _ (note : ℕ) where
    none_passes : (v : ℕ) → v ≤ n → NoneNoted n f p note v → (k : ℕ) → k < v → T (has_note n f p note k) → ⊥
    none_passes v l h k g q =
        h k g (member_label n f p k (omega arith) (and_l (member (section n 7 f) p k) _ q))
        (note_word (bare n) f [] k (omega arith) ∙ eqb→eq (note_of (forest_in n f) k) note (and_r (member (section n 7 f) p k) _ q))

    pub first_found : (v : ℕ) → v < n → NoneNoted n f p note v → label_at n f v ≡ p → get_or f (2 * n + v) 0 ≡ note
        → v ≡ first_noted n (forest_in n f) (section n 7 f) p note
    unfolding first_noted
    first_found v l h m e =
        first_is (has_note n f p note) n v (omega arith)
        (λ g. and_intro (member (section n 7 f) p v) _ (label_member n f p v l m) (eq_to_eqb (note_of (forest_in n f) v) note (sym (note_word (bare n) f [] v l) ∙ e)))
        (none_passes v (omega arith) h)

    pub first_nowhere : NoneNoted n f p note n → n ≡ first_noted n (forest_in n f) (section n 7 f) p note
    unfolding first_noted
    first_nowhere h = first_is (has_note n f p note) n n (omega arith) (λ g. absurd (omega arith)) (none_passes n (omega arith) h)

    pub top_root : note ≡ 0 → p ≡ top_by n (forest_in n f) (section n 7 f) p note
    unfolding top_by
    top_root e = simp tests

    pub top_first : (note ≡ 0 → ⊥) → (r : ℕ) → r ≡ first_noted n (forest_in n f) (section n 7 f) p note → r ≡ top_by n (forest_in n f) (section n 7 f) p note
    unfolding top_by
    top_first d r e = rw e (simp tests)

  pub lost_found : (v : ℕ) → v < n → label_at n f v ≡ p → (get_or f (3 * n + v) 0 ≡ 0 → ⊥) → true ≡ lost n (forest_in n f) (section n 7 f) p
  unfolding lost
  lost_found v l m d = sym (T_true _ (some_intro _ n v l (and_intro (member (section n 7 f) p v) _ (label_member n f p v l m) (lt→ltb 0 (mark_of (forest_in n f) v) (omega (arith, mark_word_lem (bare n) f [] v l))))))

  pub lost_nowhere : NoneMarked n f p n → false ≡ lost n (forest_in n f) (section n 7 f) p
  unfolding lost
  lost_nowhere h = sym (T_false _ (λ q.
      let (k, l, x) = some_elim _ n q in
      omega (arith, h k l (member_label n f p k l (and_l (member (section n 7 f) p k) _ x)), mark_word_lem (bare n) f [] k l, ltb→lt 0 (mark_of (forest_in n f) k) (and_r (member (section n 7 f) p k) _ x))))

-- The choices see only the levels, the notes and the marks.
pub noted_same : (s t : Tables) (l : List ℕ) (p m : ℕ) → s.level ≡ t.level → s.note ≡ t.note → noted s l p m ≡ noted t l p m
unfolding noted better rank note_of
noted_same s t l p zero e g = refl
noted_same s t l p (suc m) e g = rw (noted_same s t l p m e g, e, g)

pub top_by_lem : (n : ℕ) (s t : Tables) (l : List ℕ) (p note : ℕ) → s.note ≡ t.note → note ≡ noted t l p n → top_by n s l p note ≡ top_of n t l p
unfolding top_by first_noted top_of note_of
top_by_lem n s t l p note e g = rw (g, e)
