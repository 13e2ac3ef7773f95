-- Reaches, pieces, sole links and cuts: that the passes find them.
-- Assumes nothing.
use Rattle.std.specs.Prelude.{ℕ, zero, suc, ◌+◌, ◌*◌, ◌≤◌, ◌<◌, ◌≡◌, Bool, false, ◌||◌, ◌&&◌, not, List, [], ◌≢◌, get_or, set, T, leb, eqb}
use Rattle.std.proofs.Math.Path.{refl, ap}
use Rattle.std.proofs.Common.{sym, ◌∙◌, inl, inr, arith, length-set, get_or-set_same, get_or-set_other, leb→le, le→leb}
use Rattle.std.proofs.Math.Bool.{true}
use Rattle.std.proofs.Math.Numerals.{add-one}
use Rattle.std.proofs.Math.Decide.{ℕ_discrete}
use borrow.Author.Tests.{eq-eqb, ne_eqb, lt-leb}
use Rattle.base.specs.Pick.{pick, pick_true, pick_false}
use Rattle.base.specs.Truth.{or_l, or_cases, T_ext, true_T, false_T}
use Rattle.rules.specs.Forest.{up, Over}
use Rattle.rules.specs.Search.{count, some, least}
use Rattle.rules.specs.Tables.{Tables, par, lev}
use Rattle.rules.specs.Reading.{above, lowest, reach, child_of, sole_below, root_of, piece}
use Rattle.rules.proofs.Laws.Search.{count_some, some_count, count_yes, count_no, count_zero, some_intro, some_elim}
use Rattle.rules.proofs.Laws.Reports.{piece_of_tree}
use Rattle.rules.proofs.Laws.Up.{par_in, up_in, up_lev}
use Rattle.state.specs.Layout.{stored, bare, forest_in}
use Rattle.state.proofs.Laws.Layout.{tables_frag_same}
use Rattle.testing.specs.Whole.{Whole}
use Rattle.testing.specs.Only.{Only}
use Rattle.testing.specs.Laws.Whole.{levels}
use Rattle.testing.specs.Laws.Only.{only_refl, only_trans, only_more, only_forest, only_whole, take_by}
use Rattle.reaches.specs.Spread.{flag, sole_at}
use Rattle.reaches.specs.Passes.{Ready, Sinkable, least_below, Sinks, Falls, Low, Own}
use Rattle.reaches.specs.Judged.{Lows, Pieces, Reached, Soles, cuts_at, cut_word, cut_by, cut_one, cut_so, Cuttable, Cuts}
use Rattle.reaches.specs.Laws.Passes.{ready_by, below_le, below_hit}

-- The least goes by the values of the fragments.
least_same : (p : ℕ → Bool) (f g : ℕ → ℕ) (d e n : ℕ) → ((k : ℕ) → k < n → f k ≡ g k) → d ≡ e → least p f d n ≡ least p g e n
unfolding least
least_same p f g d e zero h q = q
least_same p f g d e (suc n) h q = rw (h n (omega arith), least_same p f g d e n (λ k l. h k (omega arith)) q)

below_same : (n : ℕ) (t : Tables) (f g : ℕ → ℕ) → ((k : ℕ) → k < n → f k ≡ g k) → (v : ℕ) → v < n → least_below n t f v ≡ least_below n t g v
unfolding least_below
below_same n t f g h v l = least_same (above t v) f g (f v) (g v) n h (h v l)

reach_below : (n : ℕ) (t : Tables) (v : ℕ) → least_below n t (lowest t) v ≡ reach n t v
unfolding least_below reach
reach_below n t v = refl

-- The notes sunk are the reaches.
module _ {n : ℕ} {f g : List ℕ} (r : Ready n f) (l : Low n n f g) where
  pub low_sinkable : Sinkable n (10 * n) g
  low_sinkable = record {
    ready = ready_by n (omega arith) l.only r;
    scratch = omega arith;
    inside = omega arith;
  }

  pub low_sunk : (k : List ℕ) → Sinks n (10 * n) g k → Lows n f k
  low_sunk k s = record {
    only = let e : 10 * n + n ≡ 11 * n = omega arith in only_trans l.only (rw e at s.only);
    each = λ v h. s.each v h ∙ rw (only_forest n (omega arith) l.only) (below_same n (forest_in n f) _ (lowest (forest_in n f)) l.each v h) ∙ reach_below n (forest_in n f) v;
  }

-- The smallest below a root is the piece of its tree.
module _ {n : ℕ} {f : List ℕ} (w : Whole n f) where
  root_over : (v u : ℕ) → v < n → u < n → root_of (forest_in n f) u ≡ root_of (forest_in n f) v → Over (par (forest_in n f)) (lev (forest_in n f)) (root_of (forest_in n f) v) u
  unfolding root_of
  root_over v u h k e =
      let t = forest_in n f in
      let z : lev t (up (par t) (lev t v) v) ≡ 0 = omega (arith, up_lev (levels w) (lev t v) v h) in
      ap (λ (i : ℕ). up (par t) i u) (omega arith) ∙ e

  over_root : (v u : ℕ) → v < n → Over (par (forest_in n f)) (lev (forest_in n f)) (root_of (forest_in n f) v) u → root_of (forest_in n f) u ≡ root_of (forest_in n f) v
  unfolding root_of
  over_root v u h o =
      let t = forest_in n f in
      let z : lev t (up (par t) (lev t v) v) ≡ 0 = omega (arith, up_lev (levels w) (lev t v) v h) in
      ap (λ (i : ℕ). up (par t) i u) (omega arith) ∙ o

  root_in : (v : ℕ) → v < n → root_of (forest_in n f) v < n
  unfolding root_of
  root_in v h = up_in (levels w) (lev (forest_in n f) v) v h

  tree_least : (v : ℕ) → v < n → least_below n (forest_in n f) (λ u. u) (root_of (forest_in n f) v) ≡ piece n (forest_in n f) v
  tree_least v h =
      let t = forest_in n f in
      let (i, e, s) = piece_of_tree n t v h in
      let (u, k, o, q) = below_hit w (λ (x : ℕ). x) (root_of t v) (root_in v h) in
      let a = below_le w (λ (x : ℕ). x) (root_of t v) (piece n t v) i (root_over v (piece n t v) h i e) in
      let b = s u (over_root v u h o) in
      omega (arith, a, b, q)

module _ {n : ℕ} {f g : List ℕ} (r : Ready n f) (m : Own n n f g) where
  pub own_sinkable : Sinkable n (7 * n) g
  own_sinkable = record {
    ready = ready_by n (omega arith) m.only r;
    scratch = omega arith;
    inside = omega arith;
  }

  module _ (k : List ℕ) (s : Sinks n (7 * n) g k) where
    sunk_only : Only (7 * n) (8 * n) g k
    sunk_only = let e : 7 * n + n ≡ 8 * n = omega arith in rw e at s.only

    pub own_ready : Ready n k
    own_ready = ready_by n (omega arith) sunk_only own_sinkable.ready

    own_forest : forest_in n k ≡ forest_in n f
    own_forest = only_forest n (omega arith) (only_trans m.only sunk_only)

    pub own_fallen : (j : List ℕ) → Falls n k j → Pieces n f j
    own_fallen j d = record {
      only = only_trans (only_trans m.only sunk_only) d.only;
      each = λ v h.
          let t = forest_in n f in
          let i = root_in r.whole v h in
          d.each v h ∙ ap (λ x. get_or k (7 * n + root_of x v) 0) own_forest
          ∙ s.each (root_of t v) i ∙ rw (only_forest n (omega arith) m.only) (below_same n t _ (λ (u : ℕ). u) m.each (root_of t v) i)
          ∙ tree_least r.whole v h;
    }

-- The reaches stand while other sections are written.
pub reached_by : (n : ℕ) {a b : ℕ} {f g : List ℕ} → 4 * n ≤ a → b ≤ 10 * n → Only a b f g → Reached n f → Reached n g
reached_by n h k o r = record {
  whole = only_whole n h o r.whole;
  each = λ v l. o.behind (10 * n + v) (omega arith) ∙ r.each v l ∙ ap (λ t. reach n t v) (sym (only_forest n h o));
}

-- Whether the link to the parent is sole.
module _ (n : ℕ) (t : Tables) (v p : ℕ) (ep : p ≡ par t v) where
  pub sole_root : p ≡ v → 0 ≡ sole_at n t v
  unfolding sole_at sole_below child_of flag
  sole_root e = rw (← ep, e, eq-eqb v v refl, pick_false)

  module _ (d : p ≡ v → ⊥) (r l : ℕ) (er : r ≡ reach n t v) (el : l ≡ lev t v) where
    other : child_of t p v ≡ true
    unfolding child_of
    other = rw (← ep, eq-eqb p p refl, ne_eqb v p (λ e. d (sym e)))

    pub sole_yes : r ≡ l → 1 ≡ sole_at n t v
    unfolding sole_at sole_below flag
    sole_yes e = rw (← ep, other, ← er, ← el, eq-eqb r l e, pick_true)

    pub sole_no : (r ≡ l → ⊥) → 0 ≡ sole_at n t v
    unfolding sole_at sole_below flag
    sole_no e = rw (← ep, other, ← er, ← el, ne_eqb r l e, pick_false)

pub soles_none : (n : ℕ) (f : List ℕ) → Soles n 0 f f
soles_none n f = record { only = only_refl (9 * n) (10 * n) f; each = λ v h. absurd (omega arith) }

pub soles_fit : {n k : ℕ} {f g : List ℕ} → Reached n f → Soles n k f g → Reached n g
soles_fit {n} r s = reached_by n (omega arith) (omega arith) s.only r

pub soles_turn : {n k : ℕ} {f g : List ℕ} → Reached n f → Soles n k f g → k < n → (x : ℕ) → x ≡ sole_at n (forest_in n g) k → Soles n (k + 1) f (set g (9 * n + k) x)
soles_turn {n} {k} {f} {g} r s h x e = record {
  only = only_more s.only (9 * n + k) x (omega arith) (omega arith);
  each = λ v i. elim (ℕ_discrete v k) [
    | yes z ↦ rw z (get_or-set_same g (9 * n + k) x 0 (omega (arith, r.whole.long, s.only.long)) ∙ e ∙ ap (λ t. sole_at n t k) (only_forest n (omega arith) s.only))
    | no d ↦ get_or-set_other g (9 * n + k) (9 * n + v) x 0 (omega arith) ∙ s.each v (omega arith)
  ];
}

pub soles_all : {n k : ℕ} {f g : List ℕ} → k ≡ n → Soles n k f g → Soles n n f g
soles_all {n} {k} {f} {g} e s = rw e at s

-- A flag, read.
pub flag_some : (b : Bool) → not (eqb (flag b) 0) ≡ b
unfolding flag pick
flag_some true = refl
flag_some false = refl

or_flag : (a b : Bool) → pick a 1 (flag b) ≡ flag (a || b)
unfolding flag pick
or_flag true b = refl
or_flag false b = refl

flag_none : flag false ≡ 0
unfolding flag
flag_none = pick_false 1 0

flag_yes : flag true ≡ 1
unfolding flag
flag_yes = pick_true 1 0

some_zero : (p : ℕ → Bool) → some p 0 ≡ false
unfolding some
some_zero p = refl

some_suc : (p : ℕ → Bool) (k : ℕ) → some p (suc k) ≡ (p k || some p k)
unfolding some
some_suc p k = refl

or_same : (a b : Bool) → a ≡ false → (a || b) ≡ b
or_same a b e = rw e

or_done : (a b : Bool) → a ≡ true → (a || b) ≡ true
or_done a b e = rw e

-- One fragment more and whether v is cut.
module _ (n : ℕ) (t : Tables) (v k : ℕ) where
  abbrev weak : ℕ → Bool
  weak c = child_of t v c && leb (lev t v) (reach n t c)

  -- Whether the child k cuts v.
  unfoldable pub cuts_by : Bool
  cuts_by = pick (eqb (par t v) v) (some (child_of t v) k) (leb (lev t v) (reach n t k))

  cut_root : par t v ≡ v → (j : ℕ) → cut_so n t j v ≡ leb 2 (count (child_of t v) j)
  unfolding cut_so
  cut_root e j = rw (eq-eqb (par t v) v e, pick_true)

  cut_inner : (par t v ≡ v → ⊥) → (j : ℕ) → cut_so n t j v ≡ some weak j
  unfolding cut_so
  cut_inner d j = rw (ne_eqb (par t v) v d, pick_false)

  two_or_first : T (child_of t v k) → leb 2 (count (child_of t v) (suc k)) ≡ (some (child_of t v) k || leb 2 (count (child_of t v) k))
  two_or_first c =
      let p = child_of t v in
      T_ext (leb 2 (count p (suc k))) (some p k || leb 2 (count p k))
      (λ a. let (i, l, s) = count_some p k (omega (arith, leb→le 2 (count p (suc k)) a, count_yes p k c)) in or_l (some p k) _ (some_intro p k i l s))
      (λ a. le→leb 2 (count p (suc k)) (elim (or_cases (some p k) (leb 2 (count p k)) a) [
        | inl s ↦ let (i, l, q) = some_elim p k s in omega (arith, count_yes p k c, some_count p k i l q)
        | inr s ↦ omega (arith, count_yes p k c, leb→le 2 (count p k) s)
      ]))

  cut_grows : child_of t v k ≡ true → cut_so n t (suc k) v ≡ (cuts_by || cut_so n t k v)
  unfolding cuts_by
  cut_grows c = elim (ℕ_discrete (par t v) v) [
    | yes e ↦ rw (cut_root e (suc k), cut_root e k, eq-eqb (par t v) v e, pick_true) (two_or_first (true_T (child_of t v k) c))
    | no d ↦ rw (cut_inner d (suc k), cut_inner d k, ne_eqb (par t v) v d, pick_false, some_suc weak k, c)
  ]

  cut_stays : child_of t v k ≡ false → cut_so n t (suc k) v ≡ cut_so n t k v
  cut_stays c = elim (ℕ_discrete (par t v) v) [
    | yes e ↦ rw (cut_root e (suc k), cut_root e k, count_no (child_of t v) k (false_T (child_of t v k) c))
    | no d ↦ rw (cut_inner d (suc k), cut_inner d k, some_suc weak k, c)
  ]

  child_grows : child_of t v k ≡ true → some (child_of t v) (suc k) ≡ true
  child_grows c = some_suc (child_of t v) k ∙ or_done (child_of t v k) _ c

  child_stays : child_of t v k ≡ false → some (child_of t v) (suc k) ≡ some (child_of t v) k
  child_stays c = some_suc (child_of t v) k ∙ or_same (child_of t v k) _ c

-- Who is a child of whom, by the parent.
child_is : (t : Tables) (k : ℕ) → (par t k ≡ k → ⊥) → child_of t (par t k) k ≡ true
unfolding child_of
child_is t k d = rw (eq-eqb (par t k) (par t k) refl, ne_eqb k (par t k) (λ e. d (sym e)))

child_other : (t : Tables) (v k : ℕ) → (par t k ≡ v → ⊥) → child_of t v k ≡ false
unfolding child_of
child_other t v k d = rw (ne_eqb (par t k) v d)

child_root : (t : Tables) (v k : ℕ) → par t k ≡ k → child_of t v k ≡ false
unfolding child_of
child_root t v k e = elim (ℕ_discrete k v) [
  | yes z ↦ rw (eq-eqb k v z) (and_no (eqb (par t k) v))
  | no d ↦ rw (e, ne_eqb k v d)
]
  where
    and_no : (b : Bool) → (b && false) ≡ false
    and_no true = refl
    and_no false = refl

-- The answers of the code.
module _ (n p c : ℕ) (f : List ℕ) (q : ℕ) (eq : q ≡ par (forest_in n f) p) where
  pub cuts_root : q ≡ p → not (eqb (get_or f (11 * n + p) 0) 0) ≡ cuts_at n p c f
  unfolding cuts_at
  cuts_root e = rw (← eq, eq-eqb q p e, pick_true)

  pub cuts_inner : (q ≡ p → ⊥) → (l : ℕ) → l ≡ lev (forest_in n f) p → (r : ℕ) → r ≡ get_or f (10 * n + c) 0 → leb l r ≡ cuts_at n p c f
  unfolding cuts_at
  cuts_inner d l el r er = rw (← eq, ne_eqb q p d, pick_false, ← el, ← er)

module _ (n p c : ℕ) (f : List ℕ) where
  pub cut_marked : true ≡ cuts_at n p c f → 1 ≡ cut_word n p c f
  unfolding cut_word
  cut_marked e = rw (← e, pick_true)

  pub cut_kept : false ≡ cuts_at n p c f → get_or f (8 * n + p) 0 ≡ cut_word n p c f
  unfolding cut_word
  cut_kept e = rw (← e, pick_false)

module _ (n c : ℕ) (f : List ℕ) (p : ℕ) (ep : p ≡ par (forest_in n f) c) where
  pub cut_none : p ≡ c → f ≡ cut_one n c f
  unfolding cut_one
  cut_none e = rw (← ep, eq-eqb p c e, pick_true)

  pub cut_some : (p ≡ c → ⊥) → (x : ℕ) → x ≡ cut_word n p c f → set (set f (8 * n + p) x) (11 * n + p) 1 ≡ cut_one n c f
  unfolding cut_one cut_by
  cut_some d x e = rw (← ep, ne_eqb p c d, pick_false, e)

-- Cuts, one fragment after another.
pub cuts_none : (n : ℕ) (f : List ℕ) → Cuttable n f → Cuts n 0 f f
cuts_none n f c = record {
  long = refl;
  before = λ i h. refl;
  between = λ i a b. refl;
  behind = λ i h. refl;
  each = λ v h. c.no_cut (8 * n + v) (omega arith) (omega arith) ∙ sym (ap flag (none v) ∙ flag_none);
  child = λ v h. c.no_child (11 * n + v) (omega arith) (omega arith) ∙ sym (ap flag (some_zero (child_of (forest_in n f) v)) ∙ flag_none);
}
  where
    none : (v : ℕ) → cut_so n (forest_in n f) 0 v ≡ false
    none v = elim (ℕ_discrete (par (forest_in n f) v) v) [
      | yes e ↦ cut_root n (forest_in n f) v 0 e 0 ∙ lt-leb 2 (count (child_of (forest_in n f) v) 0) (omega (arith, count_zero (child_of (forest_in n f) v)))
      | no d ↦ cut_inner n (forest_in n f) v 0 d 0 ∙ some_zero (weak n (forest_in n f) v 0)
    ]

module _ {n k : ℕ} {f g : List ℕ} (c : Cuttable n f) (s : Cuts n k f g) where
  cuts_same : forest_in n g ≡ forest_in n f
  cuts_same = tables_frag_same (bare n) f g [] (take_by (stored * n) f g s.long (λ i l. s.before i (omega arith)))

  pub cuts_fit : Reached n g
  cuts_fit =
      let r = c.reached in
      let w = r.whole in
      record {
        whole = record { few = w.few; long = omega (arith, w.long, s.long); standing = rw cuts_same w.standing; all = rw cuts_same w.all };
        each = λ v l. s.between (10 * n + v) (omega arith) (omega arith) ∙ r.each v l ∙ ap (λ t. reach n t v) (sym cuts_same);
      }

  -- What the code finds is whether the child k cuts its parent.
  cuts_found : (p : ℕ) → p < n → k < n → cuts_at n p k g ≡ cuts_by n (forest_in n f) p k
  unfolding cuts_at cuts_by
  cuts_found p h l = rw (cuts_same, s.child p h, flag_some (some (child_of (forest_in n f) p) k), s.between (10 * n + k) (omega arith) (omega arith), c.reached.each k l)

  -- One that has no parent changes nothing.
  cuts_skip : k < n → par (forest_in n f) k ≡ k → Cuts n (suc k) f g
  cuts_skip l e =
      let t = forest_in n f in
      record {
        long = s.long;
        before = s.before;
        between = s.between;
        behind = s.behind;
        each = λ v h. s.each v h ∙ ap flag (sym (cut_stays n t v k (child_root t v k e)));
        child = λ v h. s.child v h ∙ ap flag (sym (child_stays n t v k (child_root t v k e)));
      }

  cuts_mark : k < n → (p x : ℕ) → p ≡ par (forest_in n f) k → p < n → (p ≡ k → ⊥) → x ≡ flag (cut_so n (forest_in n f) (suc k) p) → Cuts n (suc k) f (set (set g (8 * n + p) x) (11 * n + p) 1)
  cuts_mark l p x ep hp d ex =
      let t = forest_in n f in
      let w = c.reached.whole in
      let g' = set g (8 * n + p) x in
      let own : child_of t p k ≡ true = rw ep (child_is t k (λ e. d (ep ∙ e))) in
      let apart : (v : ℕ) → v ≢ p → child_of t v k ≡ false = λ v b. child_other t v k (λ e. b (sym e ∙ sym ep)) in
      let two : (i : ℕ) → i ≢ 8 * n + p → i ≢ 11 * n + p → get_or (set g' (11 * n + p) 1) i 0 ≡ get_or g i 0 = λ i a b. get_or-set_other g' (11 * n + p) i 1 0 b ∙ get_or-set_other g (8 * n + p) i x 0 a in
      record {
        long = simp length-set s.long;
        before = λ i h. two i (omega arith) (omega arith) ∙ s.before i h;
        between = λ i a b. two i (omega arith) (omega arith) ∙ s.between i a b;
        behind = λ i h. two i (omega arith) (omega arith) ∙ s.behind i h;
        each = λ v h. elim (ℕ_discrete v p) [
          | yes z ↦ rw z (get_or-set_other g' (11 * n + p) (8 * n + p) 1 0 (omega arith) ∙ get_or-set_same g (8 * n + p) x 0 (omega (arith, w.long, s.long)) ∙ ex)
          | no b ↦ two (8 * n + v) (omega arith) (omega arith) ∙ s.each v h ∙ ap flag (sym (cut_stays n t v k (apart v b)))
        ];
        child = λ v h. elim (ℕ_discrete v p) [
          | yes z ↦ rw z (get_or-set_same g' (11 * n + p) 1 0 (simp length-set (omega (arith, w.long, s.long))) ∙ sym (ap flag (child_grows n t p k own) ∙ flag_yes))
          | no b ↦ two (11 * n + v) (omega arith) (omega arith) ∙ s.child v h ∙ ap flag (sym (child_stays n t v k (apart v b)))
        ];
      }

  -- The word that the code writes.
  cuts_word : k < n → (p : ℕ) → p ≡ par (forest_in n f) k → p < n → (p ≡ k → ⊥) → cut_word n p k g ≡ flag (cut_so n (forest_in n f) (suc k) p)
  unfolding cut_word
  cuts_word l p ep hp d =
      let t = forest_in n f in
      let own : child_of t p k ≡ true = rw ep (child_is t k (λ e. d (ep ∙ e))) in
      rw (cut_grows n t p k own, cuts_found p hp l, s.each p hp) (or_flag (cuts_by n t p k) (cut_so n t k p))

  pub cuts_turn : k < n → (g' : List ℕ) → g' ≡ cut_one n k g → Cuts n (k + 1) f g'
  unfolding cut_one cut_by
  cuts_turn l g' e =
      let t = forest_in n f in
      let hp : par t k < n = par_in (levels c.reached.whole) k l in
      elim (ℕ_discrete (par t k) k) [
        | yes z ↦ rw (e, cuts_same, eq-eqb (par t k) k z, pick_true, add-one k) (cuts_skip l z)
        | no d ↦ rw (e, cuts_same, ne_eqb (par t k) k d, pick_false, add-one k) (cuts_mark l (par t k) (cut_word n (par t k) k g) refl hp d (cuts_word l (par t k) refl hp d))
      ]

pub cuts_all : {n k : ℕ} {f g : List ℕ} → k ≡ n → Cuts n k f g → Cuts n n f g
cuts_all {n} {k} {f} {g} e s = rw e at s
