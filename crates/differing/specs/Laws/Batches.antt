-- Held words noted in batches: a batch begins, grows and ends, and what those of one class and all classes come to.
-- Assumes nothing.
use Prim.Native.Nat.{ℕ, zero, suc, ◌+◌, ◌-◌, ◌*◌, ◌/◌, ◌%◌, ◌≤◌, ◌<◌}
use Rattle.std.specs.Prelude.{◌≡◌, Bool, true, false, ◌&&◌, List, ◌≢◌, eqb, length, set}
use Rattle.std.proofs.Math.Path.{refl, ap}
use Rattle.std.proofs.Common.{sym, ◌∙◌, inl, inr, mul-le-mul_right, div-le_self, eq-eqb, ne_eqb, get_or-set_same, get_or-set_other}
use Rattle.std.proofs.Math.Bool.{not}
use native.Mathlib.Omega.{arith}
use Rattle.std.proofs.Math.Decide.{ℕ_discrete, dec_lt}
use Rattle.std.proofs.Math.Dec.{T, not_T, T_not, ltb, ltb→lt}
use Rattle.std.proofs.Math.ListN.{get_or}
use Rattle.base.specs.Truth.{and_intro, and_l, and_r, true_T, false_T, T_true, T_false}
use Rattle.rules.specs.Links.{between, linked}
use Rattle.rules.proofs.Laws.Links.{between_elim, between_here, linked_nil, linked_cases, linked_head, linked_tail}
use Rattle.rules.specs.Tables.{Tables, placed}
use Rattle.state.specs.Layout.{wiped, words, stored, link_in, forest_in, held_links, held_link}
use Rattle.state.specs.Test.{ends_fit, none_twice}
use Rattle.state.proofs.Laws.Clear.{wiped_back}
use Rattle.state.proofs.Laws.Lists.{drop_take}
use Rattle.differing.specs.Links.{Lookable}
use Rattle.index.specs.Index.{flag, Place, Indexed, In, Outside}
use Rattle.differing.specs.Batches.{slots_most, Open, class_of, classes_most, Differ, Twice, Batchable, Batch, Batches, Recalls, Misses, Sorted, Comparable, Sifts, Compares}
use Rattle.differing.specs.Laws.Scratch.{Blank, blank_at}
use Rattle.differing.specs.Laws.Links.{left, left_whole, left_none, left_next}
use Rattle.index.specs.Laws.Index.{high_part, home_in, not_noted, is_noted, indexed_none, set_indexed, outside_none}

pub indexed_open : {at size : ℕ} {f : List ℕ} → 0 < size → size ≤ slots_most → Indexed at size f → Open at size f
indexed_open s l I = record { some = s; few_slots = l; long = I.long }

-- A class is one of the classes.
class_in : (classes w : ℕ) → 0 < classes → class_of classes w < classes
unfolding class_of
class_in classes w s = high_part (w * 2246822519 % 4294967296) classes (omega arith) s

-- A word is still noted after another is stored in an empty slot.
pub in_set : {at size : ℕ} {f : List ℕ} {v : ℕ} (i x : ℕ) → get_or f (at + i) 0 ≡ 0 → In at size f v → In at size (set f (at + i) x) v
in_set {at} {size} {f} {v} i x z n =
    let d : n.slot ≢ i = λ e. n.some (ap (λ j. get_or f (at + j) 0) e ∙ z) in
    let same = get_or-set_other f (at + i) (at + n.slot) x 0 (λ e. d (omega arith)) in
    record { slot = n.slot; in_range = n.in_range; some = rw same n.some; is = rw same n.is }

pub batch_none : {at size from to c classes : ℕ} {f h : List ℕ} → Batchable at size from to classes f h → Batch at size from from c classes f h
batch_none B = record {
  indexed = indexed_none B.slots.long B.blank;
  stands = λ p a l. absurd (omega arith);
  stood = λ i l d. absurd (d (B.blank i l));
  differ = λ p q a l. absurd (omega arith);
}

-- A word of another class is passed over.
pub batch_pass : {at size from i c classes : ℕ} {f h : List ℕ} → Batch at size from i c classes f h → (class_of classes (get_or h i 0) ≡ c → ⊥) → Batch at size from (i + 1) c classes f h
batch_pass {at} {size} {from} {i} {c} {classes} {f} {h} B d = record {
  indexed = B.indexed;
  stands = λ p a b m. elim (ℕ_discrete p i) [
    | yes e ↦ absurd (d (rw e at m))
    | no e ↦ B.stands p a (omega arith) m
  ];
  stood = λ j b k. let (p, a, g, q) = B.stood j b k in (p, a, omega arith, q);
  differ = λ p q a b g k m. elim (ℕ_discrete q i) [
    | yes e ↦ rw e (λ z. d (rw z at m))
    | no e ↦ B.differ p q a (omega arith) g (omega arith) m
  ];
}

module _ {at size from i c classes : ℕ} {f h : List ℕ} (B : Batch at size from i c classes f h) {s : ℕ} (P : Place at size f (get_or h i 0) s) where
  -- The first word of a batch finds a slot.
  pub batch_full : 0 < size → s ≡ size → from < i
  batch_full o e =
      let l = home_in size (get_or h i 0) o in
      let (p, a, b, q) = B.stood _ l (P.way.filled _ (omega arith) (omega arith)) in
      omega arith

  module _ (l : s < size) where
    pub batch_twice : (to : ℕ) → i < to → (get_or f (at + s) 0 ≡ 0 → ⊥) → Twice h to
    batch_twice to b d =
        let (p, a, g, q) = B.stood s l d in
        record { one = p; two = i; less = g; in_range = b; same = sym q ∙ P.ends l d }

    module _ (order : from ≤ i) (some : get_or h i 0 ≢ 0) (small : get_or h i 0 < flag) (empty : get_or f (at + s) 0 ≡ 0) where
      slot_now : get_or (set f (at + s) (get_or h i 0)) (at + s) 0 ≡ get_or h i 0
      slot_now = get_or-set_same f (at + s) (get_or h i 0) 0 (omega (arith, B.indexed.long))

      bare : get_or h i 0 % flag ≡ get_or h i 0
      bare = omega arith

      pub batch_more : Batch at size from (i + 1) c classes (set f (at + s) (get_or h i 0)) h
      batch_more = record {
        indexed = set_indexed B.indexed s (get_or h i 0) l some (λ d. absurd (d empty)) (rw bare P.way);
        stands = λ p a b m. elim (ℕ_discrete p i) [
          | yes e ↦ rw e (record { slot = s; in_range = l; some = rw slot_now some; is = rw slot_now bare })
          | no d ↦ in_set s (get_or h i 0) empty (B.stands p a (omega arith) m)
        ];
        stood = λ j b d. elim (ℕ_discrete j s) [
          | yes e ↦ (i, order, omega arith, rw (e, slot_now) bare)
          | no k ↦
              let same = get_or-set_other f (at + s) (at + j) (get_or h i 0) 0 (λ e. k (omega arith)) in
              let (p, a, g, q) = B.stood j b (rw (← same) d) in
              (p, a, omega arith, rw same q)
        ];
        differ = λ p q a b g k m. elim (ℕ_discrete q i) [
          | yes e ↦ rw e (λ z. not_noted B.indexed P (λ t. empty) (rw (← z) (B.stands p a (omega arith) m)))
          | no e ↦ B.differ p q a (omega arith) g (omega arith) m
        ];
      }

-- A batch ends.
module _ {at size from to c classes : ℕ} {f f' h : List ℕ} (o : Outside at size f f') where
  pub batches_stop : {i : ℕ} → Batch at size from i c classes f' h → from < i → i ≤ to → Batches at size from to c classes f h i f'
  batches_stop B l b = record { twice = λ z. absurd (omega arith); noted = λ d. (l, b, B); outside = o }

  pub batches_twice : Twice h to → Batches at size from to c classes f h 0 f'
  batches_twice t = record { twice = λ z. t; noted = λ d. absurd (d refl); outside = o }

-- Whether a word is noted, by the slot where its way ends.
module _ {at size : ℕ} {f : List ℕ} {w s : ℕ} (I : Indexed at size f) (P : Place at size f w s) where
  pub recalls_empty : (s < size → get_or f (at + s) 0 ≡ 0) → Recalls at size f w false
  recalls_empty z = record { yes = λ e. absurd (true_T false e); no = λ e. not_noted I P z }

  pub recalls_word : s < size → Recalls at size f w (not (eqb (get_or f (at + s) 0) 0))
  recalls_word l = elim (ℕ_discrete (get_or f (at + s) 0) 0) [
    | yes e ↦ rw (eq-eqb (get_or f (at + s) 0) 0 e) (recalls_empty (λ k. e))
    | no d ↦ rw (ne_eqb (get_or f (at + s) 0) 0 d) (record { yes = λ e. is_noted I P l d; no = λ e. absurd (false_T true e tt) })
  ]

-- None of the words of class c from `from` to i is noted.
abbrev pub Missed : (at size c classes : ℕ) (f h : List ℕ) (from i : ℕ) → Type 0
Missed at size c classes f h from i = (q : ℕ) → from ≤ q → q < i → class_of classes (get_or h q 0) ≡ c → In at size f (get_or h q 0) → ⊥

module _ {at size from : ℕ} (c classes : ℕ) {f : List ℕ} (h : List ℕ) where
  pub missed_none : Missed at size c classes f h from from
  missed_none q a b = absurd (omega arith)

  pub missed_more : (i : ℕ) → Missed at size c classes f h from i → (class_of classes (get_or h i 0) ≡ c → In at size f (get_or h i 0) → ⊥) → Missed at size c classes f h from (i + 1)
  missed_more i M d q a b = elim (ℕ_discrete q i) [
    | yes e ↦ rw e d
    | no e ↦ M q a (omega arith)
  ]

  pub misses_one : (to q : ℕ) → from ≤ q → q < to → In at size f (get_or h q 0) → Misses at size from to c classes f h false
  misses_one to q a b n = record { none = λ e. absurd (true_T false e); one = λ e. (q, a, b, n) }

  pub misses_none : (to i : ℕ) → to ≤ i → Missed at size c classes f h from i → Misses at size from to c classes f h true
  misses_none to i l M = record { none = λ e q a b. M q a (omega arith); one = λ e. absurd (false_T true e tt) }

-- One batch after another.
module _ {at size base to count c classes : ℕ} {f h : List ℕ} (B : Batch at size base to c classes f h) where
  pub differ_more : Differ c classes h 0 base count → Missed at size c classes f h to count → Differ c classes h 0 to count
  differ_more D none p q a b g k m = elim (dec_lt p base) [
    | yes l ↦ D p q a l g k m
    | no l ↦ elim (dec_lt q to) [
      | yes t ↦ B.differ p q (omega arith) b g t m
      | no t ↦ λ z. none q (omega arith) k (rw z at m) (rw (← z) (B.stands p (omega arith) b m))
    ]
  ]

  pub noted_twice : (q : ℕ) → to ≤ q → q < count → In at size f (get_or h q 0) → Twice h count
  noted_twice q a b n =
      let (p, l, g, e) = B.stood n.slot n.in_range n.some in
      record { one = p; two = q; less = omega arith; in_range = b; same = sym e ∙ n.is }

-- The words of two links told with the smaller end first are one where the links are.
pub one_word : (v w : ℕ) → (link_in v).0 < (link_in v).1 → (link_in w).0 < (link_in w).1 → T (between (link_in v) (link_in w).0 (link_in w).1) → v ≡ w
unfolding link_in
one_word v w a b t = elim (between_elim _ _ _ _ t) [
  | inl (p, q) ↦ omega arith
  | inr (p, q) ↦ absurd (omega arith)
]

-- The links that are left, word by word.
module _ (h : List ℕ) (to : ℕ) (b : to ≤ length h) where
  left_at : (k j q : ℕ) → q ≡ j + k → q < to → T (linked (left h to j) (held_link h q).0 (held_link h q).1)
  left_at zero j q e l =
      let z : q ≡ j = omega arith in
      rw (z, left_next h to j (omega arith) b _ _ refl refl) (linked_head _ (left h to (j + 1)) _ _ (between_here _ _))
  left_at (suc k) j q e l = rw (left_next h to j (omega arith) b _ _ refl refl) (linked_tail _ (left h to (j + 1)) _ _ (left_at k (j + 1) q (omega arith) l))

  left_from : (k j u v : ℕ) → to ≡ j + k → T (linked (left h to j) u v) → (q : ℕ) × (j ≤ q) × (q < to) × T (between (held_link h q) u v)
  left_from zero j u v e t = absurd (linked_nil u v (rw (left_none h to j (omega arith)) at t))
  left_from (suc k) j u v e t = elim (linked_cases _ (left h to (j + 1)) u v (rw (left_next h to j (omega arith) b _ _ refl refl) at t)) [
    | inl s ↦ (j, omega arith, omega arith, s)
    | inr s ↦ let (q, a, l, z) = left_from k (j + 1) u v (omega arith) s in (q, omega arith, l, z)
  ]

  none_left : (n : ℕ) → Sorted n to h → ((p q : ℕ) → p < q → q < to → get_or h p 0 ≢ get_or h q 0) → (k j : ℕ) → to ≡ j + k → T (none_twice (left h to j))
  unfolding none_twice
  none_left n S D zero j e = rw (left_none h to j (omega arith)) tt
  none_left n S D (suc k) j e =
      rw (left_next h to j (omega arith) b _ _ refl refl)
      (and_intro (not (linked (left h to (j + 1)) (held_link h j).0 (held_link h j).1)) _
      (not_T (linked (left h to (j + 1)) (held_link h j).0 (held_link h j).1) (λ t.
      let (q, a, l, s) = left_from k (j + 1) _ _ (omega arith) t in
      D j q (omega arith) l (sym (one_word (get_or h q 0) (get_or h j 0) (S q l).0 (S j (omega arith)).0 s))))
      (none_left n S D k (j + 1) (omega arith)))

  some_left : (t : Twice h to) (k j : ℕ) → t.one ≡ j + k → T (none_twice (left h to j)) → ⊥
  unfolding none_twice
  some_left t zero j e s =
      let z : t.one ≡ j = omega arith in
      let same : get_or h j 0 ≡ get_or h t.two 0 = ap (λ i. get_or h i 0) (sym z) ∙ t.same in
      let L = linked (left h to (j + 1)) (held_link h j).0 (held_link h j).1 in
      T_not L (and_l (not L) (none_twice (left h to (j + 1))) (rw (left_next h to j (omega (arith, t.less, t.in_range)) b _ _ refl refl) at s))
      (rw same (left_at (t.two - (j + 1)) (j + 1) t.two (omega (arith, t.less)) t.in_range))
  some_left t (suc k) j e s =
      let L = linked (left h to (j + 1)) (held_link h j).0 (held_link h j).1 in
      some_left t k (j + 1) (omega arith) (and_r (not L) (none_twice (left h to (j + 1))) (rw (left_next h to j (omega (arith, t.less, t.in_range)) b _ _ refl refl) at s))

-- What the classes come to.
module _ {n count : ℕ} {f h : List ℕ} (C : Comparable n count f h) where
  pub none_same : ((p q : ℕ) → p < q → q < count → get_or h p 0 ≢ get_or h q 0) → true ≡ none_twice (held_links count h)
  none_same D =
      let t = none_left h count C.there n C.inside D count 0 (omega arith) in
      sym (T_true _ (rw (left_whole h count) at t))

  pub some_same : Twice h count → false ≡ none_twice (held_links count h)
  some_same t = sym (T_false _ (λ s. some_left h count C.there t t.one 0 (omega arith) (rw (left_whole h count) s)))

  pub few_classes : (m : ℕ) → count / m + 1 ≤ classes_most
  few_classes m = omega (arith, div-le_self count m, C.few, C.few_fragments)

  pub batchable : (base classes : ℕ) → base < count → classes ≤ classes_most → Batchable (4 * n) (12 * n) base count classes f h
  unfolding link_in
  batchable base classes l b =
      let k = C.inside base l in
      record {
        slots = record { some = omega (arith, k); few_slots = omega (arith, C.few_fragments); long = omega (arith, C.long) };
        blank = λ i g. blank_at n f C.long C.blank (4 * n + i) (omega arith) (omega arith);
        some = l;
        there = C.there;
        small = λ i g. let s = C.inside i g in ((λ z. omega (arith, s)), omega (arith, s, C.few_fragments));
        few_classes = b;
      }

-- Scratch cleared: the table as it was found, where nothing but scratch was written.
pub outside_back : (n : ℕ) (f g : List ℕ) → words * n ≤ length f → Blank n f → Outside (stored * n) (12 * n) f g → wiped (4 * n) (16 * n) g ≡ f
outside_back n f g l z o =
    let e : words * n ≡ stored * n + (words - stored) * n = omega arith in
    let p : words * n ≡ stored * n + 12 * n = omega arith in
    wiped_back (stored * n) (words * n) f g (omega arith) l o.same_long (rw (e, drop_take (stored * n) ((words - stored) * n) f) z) o.before (rw p o.past)

-- Between two batches of class c: its words before `base` stand nowhere else, and the table is as it was found.
pub record Compared (n count base c classes : ℕ) (f₀ f h : List ℕ) : Type 0 where
  pub comparable : Comparable n count f h
  pub same : f ≡ f₀
  pub at_most : base ≤ count
  pub differ : Differ c classes h 0 base count

pub compared_none : {n count c classes : ℕ} {f h : List ℕ} → Comparable n count f h → Compared n count 0 c classes f f h
compared_none C = record { comparable = C; same = refl; at_most = omega arith; differ = λ p q a b. absurd (omega arith) }

module _ {n count base c classes : ℕ} {f₀ f h : List ℕ} (K : Compared n count base c classes f₀ f h) where
  pub compared_all : count ≤ base → Sifts n count c classes f₀ h true f
  compared_all l = record {
    twice = λ e. absurd (false_T true e tt);
    differ = λ e p q a b. K.differ p q a (omega arith);
    outside = rw K.same outside_none;
    back = λ e. K.same;
  }

  module _ {g : List ℕ} (o : Outside (4 * n) (12 * n) f g) where
    pub compared_twice : Twice h count → Sifts n count c classes f₀ h false g
    compared_twice t = record {
      twice = λ e. t;
      differ = λ e. absurd (true_T false e);
      outside = rw (← K.same) o;
      back = λ e. absurd (true_T false e);
    }

    pub compared_more : {to : ℕ} → Batch (4 * n) (12 * n) base to c classes g h → to ≤ count → Missed (4 * n) (12 * n) c classes g h to count
        → (f' : List ℕ) → f' ≡ wiped (4 * n) (16 * n) g → Compared n count to c classes f₀ f' h
    compared_more {to} B l none f' e =
        let C = K.comparable in
        let back : f' ≡ f = e ∙ outside_back n f g C.long C.blank o in
        rw back (record { comparable = C; same = K.same; at_most = l; differ = differ_more B K.differ none })

-- Between two classes: the words of those before c stand nowhere else, and the table is as it was found.
pub record Sifted (n count c classes : ℕ) (f₀ f h : List ℕ) : Type 0 where
  pub comparable : Comparable n count f h
  pub same : f ≡ f₀
  pub differ : (p q : ℕ) → p < q → q < count → class_of classes (get_or h p 0) < c → get_or h p 0 ≢ get_or h q 0

pub sifted_none : {n count classes : ℕ} {f h : List ℕ} → Comparable n count f h → Sifted n count 0 classes f f h
sifted_none C = record { comparable = C; same = refl; differ = λ p q a b m. absurd (omega arith) }

module _ {n count c classes : ℕ} {f₀ f h : List ℕ} (K : Sifted n count c classes f₀ f h) where
  pub sifted_all : 0 < classes → classes ≤ c → Compares n count f₀ h true f
  sifted_all s l = record {
    answer = none_same K.comparable (λ p q a b. K.differ p q a b (omega (arith, class_in classes (get_or h p 0) s)));
    outside = rw K.same outside_none;
    back = λ e. K.same;
  }

  module _ {r : Bool} {g : List ℕ} (S : Sifts n count c classes f h r g) where
    pub sifted_twice : r ≡ false → Compares n count f₀ h false g
    sifted_twice e = record {
      answer = some_same K.comparable (S.twice e);
      outside = rw (← K.same) S.outside;
      back = λ z. absurd (true_T false z);
    }

    pub sifted_more : r ≡ true → Sifted n count (c + 1) classes f₀ g h
    sifted_more e = rw (S.back e) (record {
      comparable = K.comparable;
      same = K.same;
      differ = λ p q a b m. elim (ℕ_discrete (class_of classes (get_or h p 0)) c) [
        | yes z ↦ S.differ e p q (omega arith) (omega arith) a b z
        | no z ↦ K.differ p q a b (omega arith)
      ];
    })

-- Where the ends fit the links are told with the smaller end first.
module _ (n : ℕ) (t : Tables) (h : List ℕ) (count : ℕ) (b : count ≤ length h) where
  ends_first : (j : ℕ) → j < count → T (ends_fit n t (left h count j)) → (((held_link h j).0 < (held_link h j).1) × ((held_link h j).1 < n)) × T (ends_fit n t (left h count (j + 1)))
  unfolding ends_fit
  ends_first j l s =
      let u = (held_link h j).0 in
      let v = (held_link h j).1 in
      let more = ltb v n && (not (placed t u) && not (placed t v)) in
      let y : T ((ltb u v && more) && ends_fit n t (left h count (j + 1))) = rw (left_next h count j l b _ _ refl refl) at s in
      let x = and_l (ltb u v && more) _ y in
      ((ltb→lt u v (and_l (ltb u v) more x), ltb→lt v n (and_l (ltb v n) _ (and_r (ltb u v) more x))), and_r (ltb u v && more) _ y)

  sorted_from : (k j i : ℕ) → i ≡ j + k → i < count → T (ends_fit n t (left h count j)) → ((held_link h i).0 < (held_link h i).1) × ((held_link h i).1 < n)
  sorted_from zero j i e l s =
      let z : i ≡ j = omega arith in
      let d = ends_first j (omega arith) s in
      rw z d.0
  sorted_from (suc k) j i e l s = sorted_from k (j + 1) i (omega arith) l (ends_first j (omega arith) s).1

  pub ends_sorted : true ≡ ends_fit n t (held_links count h) → Sorted n count h
  ends_sorted e i l = sorted_from i 0 i (omega arith) l (true_T _ (ap (ends_fit n t) (left_whole h count) ∙ sym e))

module _ {n k count : ℕ} {f h : List ℕ} (L : Lookable n k count f h) (e : true ≡ ends_fit n (forest_in n f) (held_links count h)) where
  pub links_comparable : Comparable n count f h
  links_comparable = record {
    few_fragments = L.few_fragments;
    few = omega (arith, L.few, mul-le-mul_right n L.room);
    long = L.long;
    blank = L.blank;
    there = L.there;
    inside = ends_sorted n (forest_in n f) h count L.there e;
  }
