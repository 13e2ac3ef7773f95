-- The pieces laid in scratch: the words that say them, and that they stand gathered.
-- Assumes nothing.
use Rattle.std.specs.Prelude.{ℕ, suc, ◌+◌, ◌-◌, ◌*◌, ◌≤◌, ◌<◌, ◌≡◌, refl, Bool, true, false, List, ◌⊎◌, ◌≢◌, length, get_or, set}
use Rattle.std.proofs.Common.{sym, ap, ◌∙◌, inl, inr, arith}
use Rattle.std.proofs.Math.Decide.{ℕ_discrete}
use Rattle.std.proofs.Math.ListN.{length-set}
use Rattle.std.proofs.Math.Seq.{get_or-set_same, get_or-set_other}
use Rattle.base.specs.Pick.{pick, pick_true, pick_false, tests}
use Rattle.base.specs.Truth.{T_true, T_false}
use Rattle.base.specs.Link.{Link}
use Rattle.rules.specs.Building.{pieces, member, size_of, held_in}
use Rattle.rules.proofs.Laws.Search.{some_count}
use Rattle.rules.proofs.Laws.Pieces.{label_le, label_own, member_intro, member_elim}
use Rattle.state.specs.Layout.{words, stored, held_links}
use Rattle.state.specs.Test.{is_building}
use Rattle.state.specs.Call.{head_refusal}
use Rattle.state.specs.declared.State.{State}
use Rattle.testing.specs.Only.{Only}
use Rattle.testing.specs.Laid.{laid_at, Laid}
use Rattle.testing.specs.Laws.Only.{take_by, drop_by}
use Rattle.testing.specs.Laws.Laid.{laid_words, laid_is}
use Rattle.pieces.specs.Gathered.{pointer_of, size_at, held_at, laid, with_pieces, gathered_in}
use Rattle.pieces.specs.Pieces.{Gathered, Kept, Gatherable, Gathers, Shortable, Shortens, shorter, short_at}
use Rattle.pieces.specs.Laws.Gather.{links_length}

-- The three words of a fragment, by whether it is the smallest member.
module _ (n : ℕ) (l : List ℕ) (held : List Link) (v : ℕ) where
  module _ (e : get_or l v 0 ≡ v) where
    own : member l v v ≡ true
    own = T_true (member l v v) (member_intro l v v e)

    pub pointer_own : pointer_of l v ≡ 0
    unfolding pointer_of
    pointer_own = rw own (pick_true _ _)

    pub size_own : size_at n l v ≡ size_of n l v - 1
    unfolding size_at
    size_own = rw own (pick_true _ _)

    pub held_own : held_at l held v ≡ held_in l held v
    unfolding held_at
    held_own = rw own (pick_true _ _)

    pub size_some : v < n → 0 < size_of n l v
    unfolding size_of
    size_some h = some_count (member l v) n v h (member_intro l v v e)

  module _ (d : get_or l v 0 ≢ v) where
    other : member l v v ≡ false
    other = T_false (member l v v) (λ t. d (member_elim l v v t))

    pub pointer_other : pointer_of l v ≡ suc (get_or l v 0)
    unfolding pointer_of
    pointer_other = rw other (pick_false _ _)

    pub size_other : size_at n l v ≡ 0
    unfolding size_at
    size_other = rw other (pick_false _ _)

    pub held_other : held_at l held v ≡ 0
    unfolding held_at
    held_other = rw other (pick_false _ _)

-- The words of the table with the pieces laid.
pub pieces_words : (n : ℕ) (l : List ℕ) (held : List Link) (f : List ℕ) → 7 * n ≤ length f → Laid n stored (pointer_of l) (size_at n l) (held_at l held) f (laid n l held f)
unfolding laid
pieces_words n l held f long = laid_words n stored (pointer_of l) (size_at n l) (held_at l held) f long

only_kept : {n : ℕ} {f g : List ℕ} → Only (stored * n) (7 * n) f g → Kept n f g
only_kept {n} {f} {g} o = record { same_length = o.long; before = take_by (stored * n) f g o.long o.before; behind = drop_by (7 * n) f g o.long o.behind }

-- What is laid over a table where only the three sections were written.
pub pieces_over : (n : ℕ) (held : List Link) (f g : List ℕ) → Kept n f g → with_pieces n held g ≡ with_pieces n held f
unfolding with_pieces laid laid_at
pieces_over n held f g k = rw (k.before, k.behind)

-- The pieces that are laid stand gathered.
module _ {n count : ℕ} {f h : List ℕ} (G : Gatherable n f h count) where
  abbrev links : List Link
  links = held_links count h

  abbrev label : ℕ → ℕ
  label v = get_or (pieces n links) v 0

  seven : 7 * n ≤ length f
  seven = omega (arith, G.long)

  laid_all : Laid n stored (pointer_of (pieces n links)) (size_at n (pieces n links)) (held_at (pieces n links) links) f (with_pieces n links f)
  unfolding with_pieces
  laid_all = pieces_words n (pieces n links) links f seven

  -- The pointer of a fragment, by whether it is the smallest member.
  pointing : (v : ℕ) → v < n → ((label v ≡ v) × (get_or (with_pieces n links f) (4 * n + v) 0 ≡ 0)) ⊎ ((label v < v) × (get_or (with_pieces n links f) (4 * n + v) 0 ≡ suc (label v)))
  pointing v l =
      let e = laid_all.first v l in
      elim (ℕ_discrete (label v) v) [
        | yes q ↦ inl (q, e ∙ pointer_own n (pieces n links) links v q)
        | no d ↦ inr (omega (arith, label_le n links G.inside v l), e ∙ pointer_other n (pieces n links) links v d)
      ]

  pub laid_gathers : Gathers n f h count (with_pieces n links f)
  laid_gathers = record {
    gathered = record {
      pointing = record {
        few_fragments = G.few_fragments;
        long = omega (arith, G.long, laid_all.only.long);
        down = λ v l. elim (pointing v l) [ inl (q, e) ↦ omega arith | inr (q, e) ↦ omega arith ];
      };
      few = omega (arith, links_length h count G.there, G.few);
      inside = G.inside;
      first = λ v l z. elim (pointing v l) [ inl (q, e) ↦ q | inr (q, e) ↦ absurd (omega arith) ];
      next = λ v u l z. elim (pointing v l) [
        | inl (q, e) ↦ absurd (omega arith)
        | inr (q, e) ↦ let w : u ≡ label v = omega arith in rw w (label_own n links G.inside v l)
      ];
      size = λ p l q.
          let e = laid_all.second p l ∙ size_own n (pieces n links) links p q in
          omega (arith, size_some n (pieces n links) links p q l);
      links = λ p l q. laid_all.third p l ∙ held_own n (pieces n links) links p q;
    };
    kept = only_kept laid_all.only;
  }

-- Where a pointer goes on to.
module _ (word up : ℕ) where
  pub shorter_end : up ≡ 0 → word ≡ shorter word up
  unfolding shorter
  shorter_end e = simp tests

  pub shorter_on : (up ≡ 0 → ⊥) → up ≡ shorter word up
  unfolding shorter
  shorter_on d = simp tests

-- The pointers shortened, from the first fragment on: those below v say the smallest member, and only smallest members have a size and links.
pub record Shortening (n : ℕ) (f₀ : List ℕ) (v : ℕ) (f : List ℕ) : Type 0 where
  pub same_long : length f ≡ length f₀
  pub before : (i : ℕ) → i < stored * n → get_or f i 0 ≡ get_or f₀ i 0
  pub behind : (i : ℕ) → 7 * n ≤ i → get_or f i 0 ≡ get_or f₀ i 0
  pub left : (u : ℕ) → v ≤ u → u < n → (get_or f (4 * n + u) 0 ≡ get_or f₀ (4 * n + u) 0) × (get_or f (5 * n + u) 0 ≡ get_or f₀ (5 * n + u) 0) × (get_or f (6 * n + u) 0 ≡ get_or f₀ (6 * n + u) 0)
  pub done : (held : List Link) → Gathered n held f₀ → (u : ℕ) → u < v → u < n
      → (get_or f (4 * n + u) 0 ≡ pointer_of (pieces n held) u) × (get_or f (5 * n + u) 0 ≡ size_at n (pieces n held) u) × (get_or f (6 * n + u) 0 ≡ held_at (pieces n held) held u)

pub shortening_none : (n : ℕ) (f : List ℕ) → Shortening n f 0 f
shortening_none n f = record { same_long = refl; before = λ i h. refl; behind = λ i h. refl; left = λ u a b. (refl, refl, refl); done = λ held G u a b. absurd (omega arith) }

pub shortening_all : {n v : ℕ} {f₀ f : List ℕ} → 7 * n ≤ length f₀ → v ≡ n → Shortening n f₀ v f → Shortens n f₀ f
unfolding with_pieces laid
shortening_all {n} {v} {f₀} {f} long e S held G =
    let l = pieces n held in
    laid_is n stored (pointer_of l) (size_at n l) (held_at l held) f₀ long (record {
      only = record { long = S.same_long; before = S.before; behind = S.behind };
      first = λ u h. (S.done held G u (omega arith) h).0;
      second = λ u h. (S.done held G u (omega arith) h).1;
      third = λ u h. (S.done held G u (omega arith) h).2;
    })

module _ {n v : ℕ} {f₀ f : List ℕ} (W : Shortable n f₀) (l : v < n) (S : Shortening n f₀ v f) where
  abbrev word : ℕ
  word = get_or f (4 * n + v) 0

  pub shortening_long : words * n ≤ length f
  shortening_long = omega (arith, S.same_long, W.gathered.pointing.long)

  pub shortening_down : word ≤ v
  shortening_down = omega (arith, S.left v (omega arith) l, W.gathered.pointing.down v l)

  -- The smallest member of a piece stays as it is.
  pub shortening_own : word ≡ 0 → Shortening n f₀ (v + 1) f
  shortening_own z = record {
    same_long = S.same_long;
    before = S.before;
    behind = S.behind;
    left = λ u a b. S.left u (omega arith) b;
    done = λ held G u a b. elim (ℕ_discrete u v) [
      | no d ↦ S.done held G u (omega arith) b
      | yes e ↦
          let m = pieces n held in
          let (x, y, w) = S.left v (omega arith) l in
          let q = G.first v l (sym x ∙ z) in
          rw e (z ∙ sym (pointer_own n m held v q), y ∙ omega (arith, G.size v l q, size_own n m held v q), w ∙ G.links v l q ∙ sym (held_own n m held v q))
    ];
  }

  -- Another fragment points on to where its pointer leads.
  module _ (d : word ≡ 0 → ⊥) where
    abbrev up : ℕ
    up = get_or f (4 * n + (word - 1)) 0

    abbrev on : ℕ
    on = shorter word up

    abbrev f₁ : List ℕ
    f₁ = set f (4 * n + v) on

    abbrev f₂ : List ℕ
    f₂ = set f₁ (5 * n + v) 0

    stays : (i : ℕ) → i ≢ 4 * n + v → i ≢ 5 * n + v → i ≢ 6 * n + v → get_or (short_at n v f) i 0 ≡ get_or f i 0
    unfolding short_at
    stays i a b c = get_or-set_other f₂ (6 * n + v) i 0 0 c ∙ get_or-set_other f₁ (5 * n + v) i 0 0 b ∙ get_or-set_other f (4 * n + v) i on 0 a

    at_four : get_or (short_at n v f) (4 * n + v) 0 ≡ on
    unfolding short_at
    at_four = get_or-set_other f₂ (6 * n + v) (4 * n + v) 0 0 (omega arith) ∙ get_or-set_other f₁ (5 * n + v) (4 * n + v) 0 0 (omega arith) ∙ get_or-set_same f (4 * n + v) on 0 (omega (arith, shortening_long))

    at_five : get_or (short_at n v f) (5 * n + v) 0 ≡ 0
    unfolding short_at
    at_five = get_or-set_other f₂ (6 * n + v) (5 * n + v) 0 0 (omega arith) ∙ get_or-set_same f₁ (5 * n + v) 0 0 (omega (arith, shortening_long, length-set f (4 * n + v) on))

    at_six : get_or (short_at n v f) (6 * n + v) 0 ≡ 0
    unfolding short_at
    at_six = get_or-set_same f₂ (6 * n + v) 0 0 (omega (arith, shortening_long, length-set f₁ (5 * n + v) 0, length-set f (4 * n + v) on))

    -- The way on ends at the smallest member.
    leads : (held : List Link) → Gathered n held f₀ → (get_or (pieces n held) v 0 ≢ v) × (on ≡ suc (get_or (pieces n held) v 0))
    leads held G =
        let m = pieces n held in
        let p = word - 1 in
        let lp : p < v = omega (arith, shortening_down) in
        let same : get_or m p 0 ≡ get_or m v 0 = G.next v p l (sym (S.left v (omega arith) l).0 ∙ omega arith) in
        let low = label_le n held G.inside p (omega arith) in
        let here = (S.done held G p lp (omega arith)).0 in (
          (λ e. omega arith),
          elim (ℕ_discrete (get_or m p 0) p) [
            | yes q ↦
                let z : up ≡ 0 = here ∙ pointer_own n m held p q in
                let w : word ≡ suc (get_or m v 0) = omega arith in
                sym (shorter_end word up z) ∙ w
            | no q ↦
                let z : up ≡ suc (get_or m p 0) = here ∙ pointer_other n m held p q in
                let w : up ≡ suc (get_or m v 0) = z ∙ ap suc same in
                let x : up ≡ 0 → ⊥ = λ x. omega arith in
                sym (shorter_on word up x) ∙ w
          ],
        )

    short_length : length (short_at n v f) ≡ length f
    unfolding short_at
    short_length = length-set f₂ (6 * n + v) 0 ∙ length-set f₁ (5 * n + v) 0 ∙ length-set f (4 * n + v) on

    pub shortening_more : Shortening n f₀ (v + 1) (short_at n v f)
    shortening_more = record {
      same_long = short_length ∙ S.same_long;
      before = λ i h. stays i (omega arith) (omega arith) (omega arith) ∙ S.before i h;
      behind = λ i h. stays i (omega arith) (omega arith) (omega arith) ∙ S.behind i h;
      left = λ u a b.
          let (x, y, w) = S.left u (omega arith) b in
          (stays (4 * n + u) (omega arith) (omega arith) (omega arith) ∙ x, stays (5 * n + u) (omega arith) (omega arith) (omega arith) ∙ y, stays (6 * n + u) (omega arith) (omega arith) (omega arith) ∙ w);
      done = λ held G u a b. elim (ℕ_discrete u v) [
        | no q ↦
            let (x, y, w) = S.done held G u (omega arith) b in
            (stays (4 * n + u) (omega arith) (omega arith) (omega arith) ∙ x, stays (5 * n + u) (omega arith) (omega arith) (omega arith) ∙ y, stays (6 * n + u) (omega arith) (omega arith) (omega arith) ∙ w)
        | yes e ↦
            let m = pieces n held in
            let (q, w) = leads held G in
            rw e (at_four ∙ w ∙ sym (pointer_other n m held v q), at_five ∙ sym (size_other n m held v q), at_six ∙ sym (held_other n m held v q))
      ];
    }

-- The call that gathers: refused at its head, or not.
module _ (s : State) (f h : List ℕ) where
  pub gathered_not : (head_refusal is_building s f h ≡ 0 → ⊥) → f ≡ gathered_in s f h
  unfolding gathered_in
  gathered_not d = simp tests

  pub gathered_is : head_refusal is_building s f h ≡ 0 → with_pieces s.n (held_links s.held h) f ≡ gathered_in s f h
  unfolding gathered_in
  gathered_is e = simp tests

  -- The test left g, by its answer, of a table t that is as it was found.
  module _ (b : Bool) (t g : List ℕ) (same : t ≡ f) (e : g ≡ pick b (with_pieces s.n (held_links s.held h) t) t) where
    pub gathered_unsound : b ≡ false → (head_refusal is_building s f h ≡ 0 → ⊥) → g ≡ gathered_in s f h
    gathered_unsound q d = e ∙ rw q (pick_false _ _) ∙ same ∙ gathered_not d

    pub gathered_sound : b ≡ true → head_refusal is_building s f h ≡ 0 → g ≡ gathered_in s f h
    gathered_sound q z = e ∙ rw q (pick_true _ _) ∙ ap (with_pieces s.n (held_links s.held h)) same ∙ gathered_is z
