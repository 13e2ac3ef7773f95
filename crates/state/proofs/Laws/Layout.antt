-- Laws of the layout: what a word of the fragment table says, and what a store in either table changes.
-- Assumes nothing.
use Rattle.std.specs.Prelude.{ℕ, suc, ◌+◌, ◌-◌, ◌*◌, ◌≤◌, ◌<◌, ◌≡◌, Bool, false, List, [], ◌∷◌, ◌++◌, map, length, get_or, replicate}
use Rattle.std.proofs.Math.Path.{refl, sym, ap}
use Rattle.std.proofs.Common.{◌∙◌, length-take, length-drop, get_or-take, mul-le-mul_right}
use Rattle.std.proofs.lemmas.List.{map-append}
use native.Mathlib.Omega.{arith}
use Rattle.std.proofs.Math.ListN.{set, take, drop}
use Rattle.std.proofs.Math.Seq.{get_or-drop, take-set-lt, take-set-le, drop-set-lt, drop-set-add, take-suc-set, take-take}
use Rattle.std.proofs.Math.Numerals.{add-one}
use Rattle.rules.specs.Tables.{Tables, parent_of, rank, note_of, mark_of, place, put_note, put_mark, put_held, put_crossed, clear_notes}
use Rattle.state.specs.Layout.{stored, section, link_in, tables_in}
use Rattle.state.proofs.Laws.Lists.{drop_take, all_none}
use Rattle.state.specs.declared.State.{State}

-- One section, the j-th.
module _ (n : ℕ) (f : List ℕ) (j : ℕ) where
  pub section_length : suc j * n ≤ length f → length (section n j f) ≡ n
  unfolding section
  section_length h = simp (length-take, length-drop) (omega arith)

  -- A word of it, by its place i in the table.
  pub section_at : (i v : ℕ) → i ≡ j * n + v → v < n → get_or f i 0 ≡ get_or (section n j f) v 0
  unfolding section
  section_at i v e h = rw (get_or-take, get_or-drop, e)

  -- A store in it, before it and after it.
  pub section_set : (i v x : ℕ) → i ≡ j * n + v → v < n → section n j (set f i x) ≡ set (section n j f) v x
  unfolding section
  section_set i v x e h = rw (e, drop-set-add, take-set-lt)

  pub section_after : (i x : ℕ) → i < j * n → section n j (set f i x) ≡ section n j f
  unfolding section
  section_after i x h = rw drop-set-lt

  pub section_before : (i x : ℕ) → j * n + n ≤ i → section n j (set f i x) ≡ section n j f
  unfolding section
  section_before i x h =
      let e : i ≡ j * n + (i - j * n) = omega arith in
      rw (e, drop-set-add, take-set-le n (drop (j * n) f) (i - j * n) x (omega arith))

  pub section_same : (f' : List ℕ) (m : ℕ) → j * n + n ≤ m → take m f' ≡ take m f → section n j f' ≡ section n j f
  unfolding section
  section_same f' m h e =
      sym (drop_take (j * n) n f') ∙ ap (λ l. drop (j * n) l) (sym (take-take (j * n + n) m f' h) ∙ ap (λ l. take (j * n + n) l) e ∙ take-take (j * n + n) m f h)
      ∙ drop_take (j * n) n f

-- Tables are known by their parts.
pub tables_are : (s : State) (f h : List ℕ) (t : Tables) → section s.n 0 f ≡ t.parent → section s.n 1 f ≡ t.level
    → section s.n 2 f ≡ t.note → section s.n 3 f ≡ t.mark → map link_in (take s.held h) ≡ t.held → s.crossed ≡ t.crossed
    → tables_in s f h ≡ t
unfolding tables_in
tables_are s f h t p l o m e c = λ i. record { parent = p i; level = l i; note = o i; mark = m i; held = e i; crossed = c i }

-- Of a state only n, the number of held links and the false mark count.
pub tables_state : (s s' : State) (f h : List ℕ) → s'.n ≡ s.n → s'.held ≡ s.held → s'.crossed ≡ s.crossed → tables_in s' f h ≡ tables_in s f h
unfolding tables_in
tables_state s s' f h n e c = rw (n, e, c)

-- The words of the fragment table past the four sections do not count.
pub tables_frag_same : (s : State) (f f' h : List ℕ) → take (stored * s.n) f' ≡ take (stored * s.n) f → tables_in s f' h ≡ tables_in s f h
unfolding tables_in
tables_frag_same s f f' h e =
    tables_are s f' h (tables_in s f h)
    (section_same s.n f 0 f' (stored * s.n) (omega arith) e)
    (section_same s.n f 1 f' (stored * s.n) (omega arith) e)
    (section_same s.n f 2 f' (stored * s.n) (omega arith) e)
    (section_same s.n f 3 f' (stored * s.n) (omega arith) e)
    refl refl

-- What a word of the fragment table says.
module _ (s : State) (f h : List ℕ) (v : ℕ) (l : v < s.n) where
  pub parent_word : get_or f v 0 ≡ parent_of (tables_in s f h) v
  unfolding tables_in parent_of
  parent_word = section_at s.n f 0 _ v (omega arith) l

  pub level_word : get_or f (s.n + v) 0 ≡ rank (tables_in s f h) v
  unfolding tables_in rank
  level_word = section_at s.n f 1 _ v (omega arith) l

  pub note_word : get_or f (2 * s.n + v) 0 ≡ note_of (tables_in s f h) v
  unfolding tables_in note_of
  note_word = section_at s.n f 2 _ v (omega arith) l

  pub mark_word_lem : get_or f (3 * s.n + v) 0 ≡ mark_of (tables_in s f h) v
  unfolding tables_in mark_of
  mark_word_lem = section_at s.n f 3 _ v (omega arith) l

-- What a store of x in the fragment table changes.
module _ (s : State) (f h : List ℕ) where
  module _ (v x : ℕ) (l : v < s.n) where
    pub store_note : tables_in s (set f (2 * s.n + v) x) h ≡ put_note v x (tables_in s f h)
    unfolding tables_in put_note
    store_note =
        tables_are s _ h _
        (section_before s.n f 0 _ x (omega arith))
        (section_before s.n f 1 _ x (omega arith))
        (section_set s.n f 2 _ v x refl l)
        (section_after s.n f 3 _ x (omega arith))
        refl refl

    -- parent and level together
    pub store_place : (p : ℕ) → tables_in s (set (set f v p) (s.n + v) x) h ≡ place v p x (tables_in s f h)
    unfolding tables_in place
    store_place p =
        tables_are s _ h _
        (section_before s.n (set f v p) 0 _ x (omega arith) ∙ section_set s.n f 0 v v p (omega arith) l)
        (section_set s.n (set f v p) 1 _ v x (omega arith) l ∙ ap (λ r. set r v x) (section_after s.n f 1 v p (omega arith)))
        (section_after s.n (set f v p) 2 _ x (omega arith) ∙ section_after s.n f 2 v p (omega arith))
        (section_after s.n (set f v p) 3 _ x (omega arith) ∙ section_after s.n f 3 v p (omega arith))
        refl refl

  pub store_mark : (v : ℕ) → v < s.n → tables_in s (set f (3 * s.n + v) 1) h ≡ put_mark v (tables_in s f h)
  unfolding tables_in put_mark
  store_mark v l =
      tables_are s _ h _
      (section_before s.n f 0 _ 1 (omega arith))
      (section_before s.n f 1 _ 1 (omega arith))
      (section_before s.n f 2 _ 1 (omega arith))
      (section_set s.n f 3 _ v 1 refl l)
      refl refl

  pub store_scratch : (i x : ℕ) → stored * s.n ≤ i → tables_in s (set f i x) h ≡ tables_in s f h
  store_scratch i x l = tables_frag_same s f (set f i x) h (take-set-le (stored * s.n) f i x l)

-- What a word appended to the held links changes, and what the false mark does.
module _ (s s' : State) (f h : List ℕ) (en : s'.n ≡ s.n) where
  pub store_held : (x : ℕ) → s'.held ≡ s.held + 1 → s'.crossed ≡ s.crossed → s.held < length h
      → tables_in s' f (set h s.held x) ≡ put_held ((tables_in s f h).held ++ (link_in x ∷ [])) (tables_in s f h)
  unfolding tables_in put_held
  store_held x e c l = rw (en, e, c, add-one, take-suc-set h s.held x l, map-append)

  pub store_crossed : (b : Bool) → s'.held ≡ s.held → s'.crossed ≡ b → tables_in s' f h ≡ put_crossed b (tables_in s f h)
  unfolding tables_in put_crossed
  store_crossed b e c = rw (en, e, c)

-- What is left where the words from 2·n to 4·n are cleared, as many links are held and nothing crossed: notes and marks cleared.
pub tables_cleared : (s s' : State) (f f' h : List ℕ) → s'.n ≡ s.n → s'.held ≡ s.held → s'.crossed ≡ false → stored * s.n ≤ length f'
    → take (2 * s.n) f' ≡ take (2 * s.n) f → ((i : ℕ) → 2 * s.n ≤ i → i < stored * s.n → get_or f' i 0 ≡ 0)
    → tables_in s' f' h ≡ clear_notes s.n (tables_in s f h)
unfolding tables_in
tables_cleared s s' f f' h n e c b k z =
    rw (n, e, c) (λ i. record {
      parent = section_same s.n f 0 f' (2 * s.n) (omega arith) k i;
      level = section_same s.n f 1 f' (2 * s.n) (omega arith) k i;
      note = zeros_at 2 (omega arith) (omega arith) i;
      mark = zeros_at 3 (omega arith) (omega arith) i;
      held = (tables_in s f h).held;
      crossed = false;
    })
  where
    zeros_at : (j : ℕ) → 2 ≤ j → j < stored → section s.n j f' ≡ replicate s.n 0
    zeros_at j p q =
        all_none (section s.n j f') s.n (section_length s.n f' j (omega (arith, mul-le-mul_right {m = suc j} {n = 4} s.n q)))
        (λ v l. sym (section_at s.n f' j (j * s.n + v) v refl l) ∙ z (j * s.n + v) (omega (arith, mul-le-mul_right {m = 2} {n = j} s.n p)) (omega (arith, mul-le-mul_right {m = suc j} {n = 4} s.n q)))
