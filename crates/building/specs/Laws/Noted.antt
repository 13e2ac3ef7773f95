-- The links noted in scratch: none, one more, one more held, and what is read of them.
-- Assumes nothing.
use Rattle.std.specs.Prelude.{ℕ, ◌+◌, ◌-◌, ◌*◌, ◌%◌, ◌≤◌, ◌<◌, min, max, ◌≡◌, refl, true, false, List, [], ◌∷◌, ◌++◌, ◌≢◌, leb, length, set, drop}
use Rattle.std.proofs.Common.{sym, ap, subst, ◌∙◌, inl, inr, le-leb, length-set, get_or-drop, drop-set-lt}
use native.Mathlib.Omega.{arith}
use Rattle.std.proofs.Math.Decide.{ℕ_discrete, dec_lt}
use Rattle.std.proofs.lemmas.Bool.{lt-leb}
use Rattle.std.proofs.Math.ListN.{get_or}
use Rattle.std.proofs.Math.Seq.{get_or-set_same, get_or-set_other}
use Rattle.std.proofs.lemmas.List.{take-set-le}
use Rattle.base.specs.Truth.{T_ext, T_true, T_false}
use Rattle.base.specs.Answer.{gives}
use Rattle.base.specs.Link.{Link}
use Rattle.lists.specs.List.{scan_link}
use Rattle.lists.specs.Laws.Link.{Accepted, link_told_lem}
use Rattle.rules.specs.Links.{linked}
use Rattle.rules.proofs.Laws.Links.{between_here, linked_nil, linked_turn, append_left, snoc_cases, snoc_last}
use Rattle.state.specs.Layout.{wiped, words, link_in, word_of, held_links}
use Rattle.state.proofs.Laws.Words.{link_word_lem, word_small, word_some}
use Rattle.state.specs.Call.{fragments_most}
use Rattle.state.proofs.Laws.Clear.{wiped_length, wiped_front, wiped_past, wiped_within}
use Rattle.index.specs.Index.{flag, Place, In}
use Rattle.building.specs.Noted.{Ends, slot_at, link_at, whole_at, Whole, Noted, Apart, Askable, Flags, Learnable, Flaggable, Stands, Fresh, Matching, Unnoted}
use Rattle.index.specs.Laws.Index.{indexed_none, indexed_same, not_noted, is_noted, one_slot, set_indexed}
use Rattle.differing.specs.Laws.Batches.{one_word}

pub noted_none : (n : ℕ) (held : List Link) (f : List ℕ) → words * n ≤ length f → ((i : ℕ) → 7 * n ≤ i → i < words * n → get_or f i 0 ≡ 0) → Noted n held f
noted_none n held f l z =
    let empty : (i : ℕ) → i < 9 * n → slot_at n f i ≡ 0 = λ i h. z (7 * n + i) (omega arith) (omega arith) in
    let slot : (i : ℕ) → i < 9 * n - 1 → slot_at n f i ≡ 0 = λ i h. empty i (omega arith) in
    record {
      indexed = indexed_none (omega arith) slot;
      sorted = λ i h d. absurd (d (slot i h));
      truth = λ i h d. absurd (d (slot i h));
      whole = λ o d. absurd (d (empty (9 * n - 1) (omega arith)));
    }

-- A word is still noted where the slots stay.
in_same : {at size : ℕ} {f f' : List ℕ} {v : ℕ} → ((i : ℕ) → i < size → get_or f' (at + i) 0 ≡ get_or f (at + i) 0) → In at size f v → In at size f' v
in_same same x = let e = same x.slot x.in_range in record { slot = x.slot; in_range = x.in_range; some = rw e x.some; is = rw e x.is }

-- The slots stay, and other links are held: of those noted the same.
noted_by : {n : ℕ} {held : List Link} {f f' : List ℕ} (g : List Link) → length f' ≡ length f → ((i : ℕ) → i < 9 * n - 1 → slot_at n f' i ≡ slot_at n f i)
    → ((i : ℕ) → i < 9 * n - 1 → slot_at n f i ≢ 0 → linked held (link_at n f i).0 (link_at n f i).1 ≡ linked g (link_at n f i).0 (link_at n f i).1)
    → (0 < n → whole_at n f' ≢ 0 → Whole n g f) → Noted n held f → Noted n g f'
noted_by {n} {held} {f} {f'} g l same t whole N = record {
  indexed = indexed_same l same N.indexed;
  sorted = λ i h d. rw (same i h) (N.sorted i h (rw (← same i h) d));
  truth = λ i h d. let b : slot_at n f i ≢ 0 = rw (← same i h) d in rw (same i h) (N.truth i h b ∙ t i h b);
  whole = λ o d v s x. in_same same (whole o d v s x);
}

pub noted_keeps : (n : ℕ) (held : List Link) (f f' : List ℕ) → length f' ≡ length f → drop (7 * n) f' ≡ drop (7 * n) f → Noted n held f → Noted n held f'
noted_keeps n held f f' l e N =
    let same : (i : ℕ) → slot_at n f' i ≡ slot_at n f i = λ i. sym (get_or-drop (7 * n) f' i 0) ∙ ap (λ x. get_or x i 0) e ∙ get_or-drop (7 * n) f i 0 in
    noted_by held l (λ i h. same i) (λ i h d. refl) (λ o d. N.whole o (rw (← same (9 * n - 1)) d)) N

-- The word behind the slots is set.
module _ (n : ℕ) (f : List ℕ) (some : 0 < n) (long : words * n ≤ length f) (x : ℕ) where
  abbrev behind : List ℕ
  behind = set f (7 * n + (9 * n - 1)) x

  behind_slot : (i : ℕ) → i < 9 * n - 1 → slot_at n behind i ≡ slot_at n f i
  behind_slot i h = get_or-set_other f (7 * n + (9 * n - 1)) (7 * n + i) x 0 (λ e. omega arith)

  behind_is : whole_at n behind ≡ x
  behind_is = get_or-set_same f (7 * n + (9 * n - 1)) x 0 (omega arith)

  behind_noted : {held : List Link} → (x ≢ 0 → Whole n held f) → Noted n held f → Noted n held behind
  behind_noted {held} w N = noted_by held (length-set f (7 * n + (9 * n - 1)) x) behind_slot (λ i h d. refl) (λ o d. w (rw (← behind_is) d)) N

-- What is written.
pub apart_none : {n : ℕ} {f : List ℕ} → Apart n f f
apart_none = record { same_long = refl; before = refl; past = refl }

pub apart_set : {n : ℕ} {f : List ℕ} (i x : ℕ) → i < 9 * n → Apart n f (set f (7 * n + i) x)
apart_set {n} {f} i x h = record {
  same_long = length-set f (7 * n + i) x;
  before = take-set-le (7 * n) f (7 * n + i) x (omega arith);
  past = drop-set-lt (words * n) f (7 * n + i) x (omega arith);
}

pub apart_then : {n : ℕ} {f g h : List ℕ} → Apart n f g → Apart n g h → Apart n f h
apart_then a b = record { same_long = b.same_long ∙ a.same_long; before = b.before ∙ a.before; past = b.past ∙ a.past }

-- The word of a link between two fragments, the smaller end first.
module _ {n a b : ℕ} (few : n ≤ fragments_most) (E : Ends n a b) where
  pub word_ends : link_in (word_of (min a b, max a b)) ≡ (min a b, max a b)
  word_ends = link_word_lem (min a b) (max a b) (omega (arith, E.first, E.second))

  pub word_sorted : (link_in (word_of (min a b, max a b))).0 < (link_in (word_of (min a b, max a b))).1
  word_sorted = rw word_ends (omega (arith, E.differ))

  pub word_flagless : word_of (min a b, max a b) < flag
  word_flagless = word_small (min a b) (max a b) (omega (arith, E.first, E.second)) (omega (arith, E.first, E.second))

  pub word_there : word_of (min a b, max a b) ≢ 0
  word_there z = omega (arith, word_some (min a b) (max a b) (omega (arith, E.differ)))

-- The word of a held link is below the flag.
pub held_small : {n w : ℕ} → n ≤ fragments_most → (link_in w).0 < (link_in w).1 → (link_in w).1 < n → w < flag
unfolding link_in
held_small few s l = omega arith

-- A link has no direction.
pub linked_either : (held : List Link) (a b : ℕ) → linked held (min a b) (max a b) ≡ linked held a b
linked_either held a b = elim (dec_lt a b) [
  | yes l ↦
      let p : min a b ≡ a = omega arith in
      let q : max a b ≡ b = omega arith in
      rw (p, q)
  | no l ↦
      let p : min a b ≡ b = omega arith in
      let q : max a b ≡ a = omega arith in
      rw (p, q) (T_ext (linked held b a) (linked held a b) (linked_turn held b a) (linked_turn held a b))
]

-- Another link held changes nothing for a link noted.
snoc_other : (held : List Link) (v w : ℕ) → (link_in v).0 < (link_in v).1 → (link_in w).0 < (link_in w).1 → v ≢ w
    → linked held (link_in v).0 (link_in v).1 ≡ linked (held ++ (link_in w ∷ [])) (link_in v).0 (link_in v).1
snoc_other held v w a b d =
    T_ext (linked held (link_in v).0 (link_in v).1) (linked (held ++ (link_in w ∷ [])) (link_in v).0 (link_in v).1)
    (append_left held (link_in w ∷ []) (link_in v).0 (link_in v).1)
    (λ t. elim (snoc_cases held (link_in w) (link_in v).0 (link_in v).1 t) [
      | inl s ↦ s
      | inr s ↦ absurd (d (sym (one_word w v b a s)))
    ])

snoc_own : (held : List Link) (w : ℕ) → true ≡ linked (held ++ (link_in w ∷ [])) (link_in w).0 (link_in w).1
snoc_own held w = sym (T_true _ (snoc_last held (link_in w) (link_in w).0 (link_in w).1 (between_here (link_in w).0 (link_in w).1)))

-- A word is still noted after one is stored: in an empty slot, or over itself.
in_stored : {at size : ℕ} {f : List ℕ} {v : ℕ} (i x : ℕ) → i < size → x ≢ 0 → (get_or f (at + i) 0 ≢ 0 → x % flag ≡ get_or f (at + i) 0 % flag) → at + size ≤ length f → In at size f v → In at size (set f (at + i) x) v
in_stored {at} {size} {f} {v} i x h d over long n =
    elim (ℕ_discrete n.slot i) [
      | yes q ↦
          let slot = get_or-set_same f (at + i) x 0 (omega arith) in
          record { slot = i; in_range = h; some = rw slot d; is = rw slot (over (rw (← q) n.some) ∙ ap (λ j. get_or f (at + j) 0 % flag) (sym q) ∙ n.is) }
      | no q ↦
          let same = get_or-set_other f (at + i) (at + n.slot) x 0 (λ z. q (omega arith)) in
          record { slot = n.slot; in_range = n.in_range; some = rw same n.some; is = rw same n.is }
    ]

-- Every held link is noted, and so is one more.
whole_more : (n w : ℕ) (held : List Link) (f : List ℕ) → (link_in w).0 < (link_in w).1 → Whole n held f → In (7 * n) (9 * n - 1) f w → Whole n (held ++ (link_in w ∷ [])) f
whole_more n w held f own W x v s t = elim (snoc_cases held (link_in w) (link_in v).0 (link_in v).1 t) [
  | inl r ↦ W v s r
  | inr r ↦ subst (In (7 * n) (9 * n - 1) f) (one_word w v own s r) x
]

-- The word w, by the slot i where its way ends.
module _ {n w i : ℕ} {f : List ℕ} (P : Place (7 * n) (9 * n - 1) f w i) where
  pub stands_word : {held : List Link} → Noted n held f → i < 9 * n - 1 → Stands n w f (slot_at n f i)
  stands_word M h = record {
    tells = λ held N d. rw (← P.ends h d) (N.truth i h d);
    none = λ z. not_noted M.indexed P (λ l. z);
  }

  pub stands_nowhere : {held : List Link} → Noted n held f → i ≡ 9 * n - 1 → Stands n w f 0
  stands_nowhere M e = record {
    tells = λ held N d. absurd (d refl);
    none = λ z. not_noted M.indexed P (λ l. absurd (omega arith));
  }

  module _ (own : (link_in w).0 < (link_in w).1) where
    -- It is not noted, and not every held link need be: nothing is marked.
    module _ (z : i < 9 * n - 1 → slot_at n f i ≡ 0) where
      unmarked : {held : List Link} → Noted n held f → (j : ℕ) → j < 9 * n - 1 → slot_at n f j ≢ 0
          → linked held (link_at n f j).0 (link_at n f j).1 ≡ linked (held ++ (link_in w ∷ [])) (link_at n f j).0 (link_at n f j).1
      unmarked {held} N j h d = snoc_other held (slot_at n f j % flag) w (N.sorted j h d) own (λ e. not_noted N.indexed P z (record { slot = j; in_range = h; some = d; is = e }))

      pub flags_none : whole_at n f ≡ 0 → Flags n (link_in w) f f
      flags_none e = ((λ held N. noted_by (held ++ (link_in w ∷ [])) refl (λ j h. refl) (unmarked N) (λ o d. absurd (d e)) N), apart_none)

      -- From now on not every held link is noted.
      pub flags_ended : 0 < n → words * n ≤ length f → Flags n (link_in w) f (set f (7 * n + (9 * n - 1)) 0)
      flags_ended some long = (
        (λ held N. noted_by (held ++ (link_in w ∷ [])) (length-set f (7 * n + (9 * n - 1)) 0) (behind_slot n f some long 0) (unmarked N) (λ o d. absurd (d (behind_is n f some long 0))) N),
        apart_set (9 * n - 1) 0 (omega arith),
      )

    module _ (h : i < 9 * n - 1) (d : slot_at n f i ≢ 0) where
      -- Another slot has another word.
      others : {held : List Link} → Noted n held f → (j : ℕ) → j < 9 * n - 1 → slot_at n f j ≢ 0 → j ≢ i → slot_at n f j % flag ≢ w
      others N j l g q e = q (one_slot N.indexed j i l h g d (e ∙ sym (P.ends h d)))

      pub flags_had : flag ≤ slot_at n f i → Flags n (link_in w) f f
      flags_had b = (
        (λ held N. record {
          indexed = N.indexed;
          sorted = N.sorted;
          truth = λ j l g. elim (ℕ_discrete j i) [
            | yes e ↦ rw (e, P.ends h d, le-leb flag (slot_at n f i) b) (snoc_own held w)
            | no q ↦ N.truth j l g ∙ snoc_other held (slot_at n f j % flag) w (N.sorted j l g) own (others N j l g q)
          ];
          whole = λ o g. whole_more n w held f own (N.whole o g) (is_noted N.indexed P h d);
        }),
        apart_none,
      )

    -- It stands in its slot with the flag.
    module _ (h : i < 9 * n - 1) (x : ℕ) (bare : x % flag ≡ w) (high : flag ≤ x) (over : slot_at n f i ≢ 0 → slot_at n f i % flag ≡ w) where
      flagged_noted : {held : List Link} → Noted n held f → ((j : ℕ) → j < 9 * n - 1 → slot_at n f j ≢ 0 → j ≢ i → slot_at n f j % flag ≢ w)
          → Noted n (held ++ (link_in w ∷ [])) (set f (7 * n + i) x)
      flagged_noted {held} N apart =
          let slot : get_or (set f (7 * n + i) x) (7 * n + i) 0 ≡ x = get_or-set_same f (7 * n + i) x 0 (omega (arith, N.indexed.long)) in
          let other : (j : ℕ) → j ≢ i → get_or (set f (7 * n + i) x) (7 * n + j) 0 ≡ slot_at n f j = λ j q. get_or-set_other f (7 * n + i) (7 * n + j) x 0 (λ e. q (omega arith)) in
          record {
            indexed = set_indexed N.indexed i x h (λ z. omega arith) (λ g. bare ∙ sym (over g)) (rw bare P.way);
            sorted = λ j l g. elim (ℕ_discrete j i) [
              | yes e ↦ rw (e, slot, bare) own
              | no q ↦ rw (other j q) (N.sorted j l (rw (← other j q) g))
            ];
            truth = λ j l g. elim (ℕ_discrete j i) [
              | yes e ↦ rw (e, slot, bare, le-leb flag x high) (snoc_own held w)
              | no q ↦
                  let k : slot_at n f j ≢ 0 = rw (← other j q) g in
                  rw (other j q) (N.truth j l k ∙ snoc_other held (slot_at n f j % flag) w (N.sorted j l k) own (apart j l k q))
            ];
            whole = λ o g.
                let full : whole_at n f ≢ 0 = rw (← other (9 * n - 1) (λ e. omega arith)) g in
                whole_more n w held (set f (7 * n + i) x) own
                (λ v s t. in_stored i x h (λ z. omega arith) (λ d. bare ∙ sym (over d)) N.indexed.long (N.whole o full v s t))
                (record { slot = i; in_range = h; some = rw slot (λ z. omega arith); is = rw slot bare });
          }

    pub flags_now : (h : i < 9 * n - 1) → slot_at n f i ≢ 0 → slot_at n f i < flag → Flags n (link_in w) f (set f (7 * n + i) (slot_at n f i + flag))
    flags_now h d b =
        let x = slot_at n f i + flag in
        let e : x % flag ≡ slot_at n f i % flag = omega arith in (
          (λ held N. flagged_noted h x (e ∙ P.ends h d) (omega arith) (λ g. P.ends h d) N (others h d N)),
          apart_set i x (omega arith),
        )

    -- It was not noted, and every held link is.
    module _ (h : i < 9 * n - 1) (z : slot_at n f i ≡ 0) (small : w < flag) (some : 0 < n) (long : words * n ≤ length f) where
      pub flags_new : (y : ℕ) → whole_at n f ≢ 0 → Flags n (link_in w) f (set (set f (7 * n + i) (w + flag)) (7 * n + (9 * n - 1)) y)
      flags_new y full =
          let x = w + flag in
          let bare : x % flag ≡ w = omega arith in
          let same = get_or-set_other f (7 * n + i) (7 * n + (9 * n - 1)) x 0 (λ e. omega arith) in (
            (λ held N.
                let M = flagged_noted h x bare (omega arith) (λ g. absurd (g z)) N (λ j l g q e. not_noted N.indexed P (λ k. z) (record { slot = j; in_range = l; some = g; is = e })) in
                behind_noted n (set f (7 * n + i) x) some (simp length-set long) y (λ d. M.whole some (rw same full)) M),
            apart_then (apart_set i x (omega arith)) (apart_set (9 * n - 1) y (omega arith)),
          )

    -- It is noted, and not held.
    pub noted_more : Noted n [] f → i < 9 * n - 1 → slot_at n f i ≡ 0 → w ≢ 0 → w < flag → Noted n [] (set f (7 * n + i) w)
    unfolding linked
    noted_more N h z d b =
        let bare : w % flag ≡ w = omega arith in
        let slot : get_or (set f (7 * n + i) w) (7 * n + i) 0 ≡ w = get_or-set_same f (7 * n + i) w 0 (omega (arith, N.indexed.long)) in
        let other : (j : ℕ) → j ≢ i → get_or (set f (7 * n + i) w) (7 * n + j) 0 ≡ slot_at n f j = λ j q. get_or-set_other f (7 * n + i) (7 * n + j) w 0 (λ e. q (omega arith)) in
        record {
          indexed = set_indexed N.indexed i w h d (λ g. absurd (g z)) (rw bare P.way);
          sorted = λ j l g. elim (ℕ_discrete j i) [
            | yes e ↦ rw (e, slot, bare) own
            | no q ↦ rw (other j q) (N.sorted j l (rw (← other j q) g))
          ];
          truth = λ j l g. elim (ℕ_discrete j i) [
            | yes e ↦ rw (e, slot) (lt-leb flag w b)
            | no q ↦ rw (other j q) (N.truth j l (rw (← other j q) g))
          ];
          whole = λ o g v s t. absurd (linked_nil (link_in v).0 (link_in v).1 t);
        }

-- Sections 7 to 15 cleared.
module _ {n : ℕ} (f : List ℕ) {f' : List ℕ} (long : words * n ≤ length f) (e : f' ≡ wiped (7 * n) (16 * n) f) where
  pub cleared_apart : Apart n f f'
  cleared_apart = rw e (record {
    same_long = wiped_length (7 * n) (16 * n) f (omega arith) long;
    before = wiped_front (7 * n) (16 * n) f (omega arith) long;
    past = wiped_past (7 * n) (16 * n) f (omega arith) long;
  })

  pub cleared_fresh : 0 < n → n ≤ fragments_most → Fresh n f'
  cleared_fresh s few =
      let l : words * n ≤ length f' = omega (arith, cleared_apart.same_long) in
      record { some = s; few_fragments = few; long = l; noted = noted_none n [] f' l (λ i p q. rw e (wiped_within (7 * n) (16 * n) f (omega arith) long i p q)) }

-- A link of a block that was read.
module _ (n told : ℕ) (block : List ℕ) (at a b next : ℕ) (e : scan_link n told block at ≡ gives (record { link = (a, b); next = next })) where
  pub told_link_lem : Accepted n told block at (record { link = (a, b); next = next })
  told_link_lem = link_told_lem n told block at _ e

  pub told_ends : Ends n a b
  told_ends = record { first = told_link_lem.first; second = told_link_lem.second; differ = told_link_lem.differ }

-- The word w of the link between a and b.
module _ {n a b : ℕ} (w : ℕ) (e : w ≡ word_of (min a b, max a b)) where
  pub word_flaggable : {f : List ℕ} → Learnable n a b f → Flaggable n w f
  word_flaggable N = rw e (record {
    some = N.some;
    few_fragments = N.few_fragments;
    long = N.long;
    sorted = word_sorted N.few_fragments N.ends;
    small = word_flagless N.few_fragments N.ends;
    held = N.held;
    noted = N.noted;
  })

  pub word_flags : {f f' : List ℕ} → n ≤ fragments_most → Ends n a b → Flags n (link_in w) f f' → Flags n (min a b, max a b) f f'
  word_flags {f} {f'} few E M =
      let q : link_in w ≡ (min a b, max a b) = ap link_in e ∙ word_ends few E in
      ((λ held N. subst (λ l. Noted n (held ++ (l ∷ [])) f') q (M.0 held N)), M.1)

  pub fresh_more : {f : List ℕ} {i : ℕ} → Fresh n f → Ends n a b → Place (7 * n) (9 * n - 1) f w i → i < 9 * n - 1 → slot_at n f i ≡ 0 → Fresh n (set f (7 * n + i) w)
  fresh_more {f} {i} F E P h z =
      let few = F.few_fragments in
      let own : (link_in w).0 < (link_in w).1 = rw e (word_sorted few E) in
      let d : w ≢ 0 = rw e (word_there few E) in
      let l : w < flag = rw e (word_flagless few E) in
      record { some = F.some; few_fragments = few; long = simp length-set F.long; noted = noted_more P own F.noted h z d l }

  -- What stands for it tells whether it is held.
  pub stands_held : {f : List ℕ} {held : List Link} {x : ℕ} → n ≤ fragments_most → Ends n a b → Noted n held f → Stands n w f x → x ≢ 0 → leb flag x ≡ linked held a b
  stands_held {f} {held} {x} few E N S d =
      let q : link_in w ≡ (min a b, max a b) = ap link_in e ∙ word_ends few E in
      S.tells held N d ∙ ap (λ l. linked held l.0 l.1) q ∙ linked_either held a b

  -- It is not noted where every held link is.
  pub stands_not : {f : List ℕ} {held : List Link} {x : ℕ} → 0 < n → n ≤ fragments_most → Ends n a b → Noted n held f → whole_at n f ≢ 0 → Stands n w f x → x ≡ 0 → false ≡ linked held a b
  stands_not {f} {held} {x} some few E N d S z =
      let q : link_in w ≡ (min a b, max a b) = ap link_in e ∙ word_ends few E in
      let same : linked held (link_in w).0 (link_in w).1 ≡ linked held a b = ap (λ l. linked held l.0 l.1) q ∙ linked_either held a b in
      sym (T_false (linked held (link_in w).0 (link_in w).1) (λ t. S.none z (N.whole some d w (rw e (word_sorted few E)) t))) ∙ same

-- Nothing is noted, and that is every held link where none is.
module _ {n count : ℕ} {f h : List ℕ} (U : Unnoted n count f h) where
  pub unnoted_noted : Noted n (held_links count h) f
  unnoted_noted = noted_none n _ f U.long U.empty

  pub unnoted_matching : 0 < n → Matching n count (set f (7 * n + (9 * n - 1)) 1) h
  unnoted_matching some = record {
    fresh = record {
      some = some;
      few_fragments = U.few_fragments;
      long = simp length-set U.long;
      noted = behind_noted n f some U.long 1 (λ d v s t. absurd (linked_nil (link_in v).0 (link_in v).1 t)) (noted_none n [] f U.long U.empty);
    };
    there = U.there;
    inside = U.inside;
  }

pub asked_learnable : {n count a b : ℕ} {f h : List ℕ} → Askable n count a b f h → Learnable n a b f
asked_learnable A = record { some = A.some; few_fragments = A.few_fragments; long = A.long; ends = A.ends; held = _; noted = A.noted }
