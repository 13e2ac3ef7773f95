-- Laws of hearing and reading links in the words of the fragment table.
-- Assumes nothing.
use Rattle.std.specs.Prelude.{ℕ, ◌+◌, ◌-◌, ◌*◌, ◌≤◌, ◌<◌, max, ◌≡◌, Bool, ◌||◌, not, leb, length, set, take, drop}
use Rattle.std.proofs.Math.Path.{refl, sym, ap}
use Rattle.std.proofs.Common.{◌∙◌, length-set, drop-set-lt, drop-drop}
use Rattle.std.proofs.Math.Bool.{true, false}
use mathlib.Core.List.{List, [], ◌∷◌}
use Rattle.std.proofs.Math.Logic.{inl, inr}
use native.Mathlib.Omega.{arith}
use Rattle.std.proofs.Math.Decide.{dec_le}
use borrow.Author.Tests.{eq-eqb, ne_eqb}
use Rattle.std.proofs.Math.ListN.{get_or}
use Rattle.std.proofs.lemmas.List.{take-set-le}
use Rattle.base.specs.Pick.{pick_true, pick_false, tests}
use Rattle.base.specs.Answer.{gives, refuses}
use Rattle.base.specs.Link.{Link}
use Rattle.rules.specs.Tables.{par, lev, put_crossed}
use Rattle.rules.specs.Reading.{above, hear, read_link, read_links}
use Rattle.rules.proofs.Laws.Tables.{SameForest, same_par, same_lev, same_placed, standing_same}
use Rattle.rules.proofs.Laws.Numbers.{turn_end}
use Rattle.rules.proofs.Laws.SameNumbers.{same_turn, same_end, same_at_turn}
use Rattle.state.specs.Layout.{stored, section, tables_in, forest_in, turn_in, end_in, above_in}
use Rattle.state.proofs.Laws.Layout.{section_same, section_length, note_word, store_note, store_mark, store_crossed}
use Rattle.testing.specs.Whole.{Whole, Numbered}
use Rattle.lists.specs.List.{fragments_most, links_at, block_links, scan_link}
use Rattle.lists.specs.Laws.Link.{link_accepted, link_read, link_told_lem}
use Rattle.lists.specs.Laws.Block.{walked, next_given}
use Rattle.reading.specs.Tell.{passing, crossed_in, Kept, Leaves, Reads, Given, links_of}
use Rattle.testing.specs.Laws.Whole.{levels, word_lev, above_numbered}

pub kept_refl : (n : ℕ) (f : List ℕ) → Kept n f f
kept_refl n f = record { front = refl; rest = refl; long = refl }

pub kept_trans : {n : ℕ} {f g h : List ℕ} → Kept n f g → Kept n g h → Kept n f h
kept_trans a b = record { front = b.front ∙ a.front; rest = b.rest ∙ a.rest; long = b.long ∙ a.long }

-- A store among notes and marks.
pub kept_set : (n : ℕ) (f : List ℕ) (i x : ℕ) → 2 * n ≤ i → i < stored * n → Kept n f (set f i x)
kept_set n f i x h g = record {
  front = take-set-le (2 * n) f i x h;
  rest = drop-set-lt (stored * n) f i x g;
  long = length-set f i x;
}

-- The forest is the same.
pub kept_forest : {n : ℕ} {f g : List ℕ} → Kept n f g → SameForest (forest_in n g) (forest_in n f)
unfolding tables_in
kept_forest {n} {f} {g} k = record {
  same_parent = section_same n f 0 g (2 * n) (omega arith) k.front;
  same_level = section_same n f 1 g (2 * n) (omega arith) k.front;
}

pub kept_whole : {n : ℕ} {f g : List ℕ} → Whole n f → Kept n f g → Whole n g
unfolding tables_in
kept_whole {n} {f} {g} w k =
    let e = kept_forest k in
    record {
      few = w.few;
      long = omega arith;
      standing = standing_same e (section_length n g 2 (omega arith)) (section_length n g 3 (omega arith)) w.standing;
      all = λ v h. rw (same_placed e) (w.all v h);
    }

-- So are the words behind notes and marks.
kept_section : {n : ℕ} {f g : List ℕ} → Kept n f g → (j : ℕ) → section n (stored + j) g ≡ section n (stored + j) f
unfolding section
kept_section {n} {f} {g} k j = ap (λ l. take n l) (past g ∙ ap (λ l. drop (j * n) l) k.rest ∙ sym (past f))
  where
    past : (l : List ℕ) → drop ((stored + j) * n) l ≡ drop (j * n) (drop (stored * n) l)
    past l = let e : (stored + j) * n ≡ stored * n + j * n = omega arith in ap (λ i. drop i l) e ∙ sym (drop-drop (j * n) (stored * n) l)

pub kept_numbered : {n : ℕ} {f g : List ℕ} → Numbered n f → Kept n f g → Numbered n g
kept_numbered {n} {f} {g} N k =
    let e = kept_forest k in
    record {
      whole = kept_whole N.whole k;
      turns = λ v h. ap (λ l. get_or l v 0) (kept_section k 0) ∙ N.turns v h ∙ sym (same_turn e n v);
      ends = λ v h. ap (λ l. get_or l v 0) (kept_section k 1) ∙ N.ends v h ∙ sym (same_end e n v);
      whose = λ i h. ap (λ l. get_or l i 0) (kept_section k 2) ∙ N.whose i h ∙ sym (same_at_turn e n i);
    }

-- A false mark is no part of the forest.
crossed_forest : (n : ℕ) (c : Bool) (f : List ℕ) → SameForest (crossed_in n c f) (forest_in n f)
unfolding tables_in
crossed_forest n c f = record { same_parent = refl; same_level = refl }

crossed_above : (n : ℕ) (c : Bool) (f : List ℕ) (a b : ℕ) → above (crossed_in n c f) a b ≡ above (forest_in n f) a b
unfolding above
crossed_above n c f a b = rw (same_par (crossed_forest n c f), same_lev (crossed_forest n c f))

-- What v hears of a link to w, by a store of its mark or of its note.
module _ {n : ℕ} {f : List ℕ} (w : Whole n f) (v : ℕ) (hv : v < n) (u : ℕ) where
  pub hear_mark : par (forest_in n f) v ≡ u → Leaves n f (set f (3 * n + v) 1) (hear v u)
  unfolding hear
  hear_mark e = record {
    kept = kept_set n f (3 * n + v) 1 (omega arith) (omega arith);
    tables = λ c. store_mark (passing n c) f [] v hv
        ∙ sym (rw (same_par (crossed_forest n c f), eq-eqb (par (forest_in n f) v) u e, pick_true));
  }

  pub hear_note : u < n → (p : ℕ) → p ≡ par (forest_in n f) v → (p ≡ u → ⊥) → (i j x : ℕ) → i ≡ n + v → j ≡ n + u → x ≡ max (get_or f (2 * n + v) 0) (get_or f i 0 - get_or f j 0)
      → Leaves n f (set f (2 * n + v) x) (hear v u)
  unfolding hear
  hear_note hu p e d i j x ei ej q =
      let ep : (par (forest_in n f) v ≡ u → ⊥) = λ z. d (e ∙ z) in
      let l : lev (forest_in n f) v - lev (forest_in n f) u ≡ get_or f i 0 - get_or f j 0 = rw (ei, ej) (omega (arith, word_lev w v hv, word_lev w u hu)) in
      record {
        kept = kept_set n f (2 * n + v) x (omega arith) (omega arith);
        tables = λ c. store_note (passing n c) f [] v x hv
            ∙ sym (rw (same_par (crossed_forest n c f), ne_eqb (par (forest_in n f) v) u ep, pick_false, same_lev (crossed_forest n c f), ← note_word (passing n c) f [] v hv, l, ← q));
      }

flip : (x y : Bool) → not x ≡ y → x ≡ not y
flip true y e = rw (← e)
flip false y e = rw (← e)

-- Two fragments are apart where those below the one with the earlier turn, x of a and y of b, end before the other's.
module _ {n : ℕ} {f : List ℕ} (N : Numbered n f) (a b : ℕ) (ha : a < n) (hb : b < n) (x y : ℕ) (ex : x ≡ turn_in n f a) (ey : y ≡ turn_in n f b) (e : ℕ) where
  pub apart_behind : x ≤ y → e ≡ end_in n f a → leb e y ≡ not (above (forest_in n f) a b || above (forest_in n f) b a)
  unfolding above_in
  apart_behind l q =
      let z : x < e = omega (arith, N.turns a ha, N.ends a ha, turn_end n (forest_in n f) (levels N.whole) a ha) in
      rw (← above_numbered n f N a b ha hb, ← above_numbered n f N b a hb ha, ← ex, ← ey, ← q) (elim (dec_le e y) [
        | yes g ↦ let h : x < y = omega arith in simp tests
        | no g ↦ let h : y < e = omega arith in simp tests
      ])

  pub apart_before : y < x → e ≡ end_in n f b → leb e x ≡ not (above (forest_in n f) a b || above (forest_in n f) b a)
  unfolding above_in
  apart_before l q =
      rw (← above_numbered n f N a b ha hb, ← above_numbered n f N b a hb ha, ← ex, ← ey, ← q) (elim (dec_le e x) [
        | yes g ↦ let h : y ≤ x = omega arith in simp tests
        | no g ↦ let h : y ≤ x = omega arith in let k : x < e = omega arith in simp tests
      ])

-- One link is read: both ends hear of it, and the pass is false where neither is above the other.
module _ {n : ℕ} {f g h : List ℕ} (a b : ℕ) (one : Leaves n f g (hear a b)) (two : Leaves n g h (hear b a)) (c : Bool) where
  both : crossed_in n c h ≡ hear b a (hear a b (crossed_in n c f))
  both = two.tables c ∙ ap (hear b a) (one.tables c)

  pub read_apart : (x : Bool) → x ≡ not (above (forest_in n f) a b || above (forest_in n f) b a) → x ≡ true → Reads n c f true h ((a, b) ∷ [])
  unfolding read_links read_link
  read_apart x e q = record {
    kept = kept_trans one.kept two.kept;
    tables = store_crossed (passing n c) (passing n true) h [] refl true refl refl ∙ ap (put_crossed true) both
        ∙ sym (rw (crossed_above n c f a b, crossed_above n c f b a, flip (above (forest_in n f) a b || above (forest_in n f) b a) true (sym e ∙ q), pick_false));
  }

  pub read_joined : (x : Bool) → x ≡ not (above (forest_in n f) a b || above (forest_in n f) b a) → x ≡ false → Reads n c f c h ((a, b) ∷ [])
  unfolding read_links read_link
  read_joined x e q = record {
    kept = kept_trans one.kept two.kept;
    tables = both ∙ sym (rw (crossed_above n c f a b, crossed_above n c f b a, flip (above (forest_in n f) a b || above (forest_in n f) b a) false (sym e ∙ q), pick_true));
  }

-- Reading on, link by link: what is left gives the whole.
pub record Telling (n entries : ℕ) (block : List ℕ) (crossed₀ : Bool) (f₀ : List ℕ) (told at : ℕ) (crossed : Bool) (f : List ℕ) : Type 0 where
  pub kept : Kept n f₀ f
  pub links : List Link
  pub are : links_at n told block at ≡ gives links
  pub left : read_links (crossed_in n crossed f) links ≡ read_links (crossed_in n crossed₀ f₀) (links_of (block_links n entries block))

pub telling_starts : (n entries : ℕ) (block : List ℕ) (c : Bool) (f : List ℕ) → Given n entries block → Telling n entries block c f entries 0 c f
unfolding block_links links_of
telling_starts n entries block c f g = record {
  kept = kept_refl n f;
  links = g.links;
  are = g.are;
  left = rw g.are refl;
}

module _ {n entries : ℕ} {block : List ℕ} {c₀ : Bool} {f₀ : List ℕ} {told at : ℕ} {c : Bool} {f : List ℕ} (t : Telling n entries block c₀ f₀ told at c f) where
  pub telling_on : (a b next : ℕ) → scan_link n told block at ≡ gives (record { link = (a, b); next = next }) → (u v : ℕ) → u ≡ a → v ≡ b
      → (c' : Bool) (f' : List ℕ) → Reads n c f c' f' ((u, v) ∷ []) → Telling n entries block c₀ f₀ (told + 1) next c' f'
  unfolding read_links
  telling_on a b next e u v eu ev c' f' r = elim (walked n block told at t.links t.are) [
    | inl (h, z) ↦ absurd (let x = link_told_lem n told block at _ e in omega arith)
    | inr (l, ms, p, q, z) ↦
        let e' = link_read n told block at _ e in
        let y : l ≡ record { link = (a, b); next = next } = cc (p, e') in
        let m : (u, v) ∷ ms ≡ t.links = rw (eu, ev) (sym (rw y at z)) in
        record {
          kept = kept_trans t.kept r.kept;
          links = ms;
          are = (rw y at q);
          left = ap (λ x. read_links x ms) r.tables ∙ ap (read_links (crossed_in n c f)) m ∙ t.left;
        }
  ]

  pub telling_ends : length block ≤ at → Reads n c₀ f₀ c f (links_of (block_links n entries block))
  unfolding read_links
  telling_ends h = elim (walked n block told at t.links t.are) [
    | inl (g, z) ↦ record { kept = t.kept; tables = (rw z at t.left) }
    | inr (l, ms, p, q, z) ↦ absurd (let a = link_accepted n told block at l p in omega arith)
  ]

  pub telling_whole : {A : Type 0} → n ≤ fragments_most → at < length block → (number place : ℕ) → scan_link n told block at ≡ refuses number place → A
  telling_whole few h number place e = absurd (next_given n block few told at t.links t.are h number place e)
