-- Gathering the pieces of held links: none yet, and one link more, inside a piece or between two.
-- Assumes nothing.
use Prim.Native.Nat.{ℕ, zero, suc, ◌+◌, ◌*◌, ◌≤◌, ◌<◌, min, max}
use Rattle.std.specs.Prelude.{◌≡◌, refl, Bool, true, false, ◌≢◌, take, T}
use Rattle.std.proofs.Math.Path.{sym, ap}
use Rattle.std.proofs.Common.{◌∙◌, inl, inr, arith, add-one, length-append, length-take, take-suc}
use mathlib.Core.List.{List, [], ◌∷◌, ◌++◌, map-append}
use Rattle.std.proofs.Math.Decide.{ℕ_discrete, dec_le}
use Rattle.std.proofs.Math.ListN.{length, get_or, set, length-set}
use Rattle.std.proofs.Math.Seq.{get_or-set_same, get_or-set_other}
use Rattle.base.specs.Pick.{pick_true, pick_false, tests}
use Rattle.base.specs.Link.{Link}
use Rattle.rules.specs.Links.{linked, tally}
use Rattle.rules.specs.Search.{count}
use Rattle.rules.specs.Building.{merged, pieces, member, size_of, held_in}
use Rattle.rules.proofs.Laws.Links.{between_here, linked_nil, linked_head, linked_tail, snoc_cases}
use Rattle.rules.proofs.Laws.Search.{count_le, count_two}
use Rattle.rules.proofs.Laws.Split.{bit_most, count_some, tally_nil, tally_cons, between_both}
use Rattle.rules.proofs.Laws.Pieces.{Inside, merged_larger, merged_other, merged_one, merged_inside, merged_keeps, alone_at, pieces_nil, pieces_snoc, label_in, label_own, member_intro, member_elim}
use Rattle.rules.proofs.Laws.Quota.{size_join, size_other, held_in_join, held_in_other, held_in_more, held_in_as}
use Rattle.state.specs.Layout.{words, stored, link_in, held_links, held_link}
use Rattle.state.specs.Call.{fragments_most}
use Rattle.state.proofs.Laws.Lists.{length-map}
use Rattle.pieces.specs.Joined.{is_in, found, added, counted, united, bound, joined}
use Rattle.pieces.specs.Pieces.{Members, held_most, Gathered, Kept, LabelIs, Finds, Joinable, Joins, Gatherable, Gathers}
use Rattle.differing.specs.Laws.Scratch.{Blank, blank_at}
use Rattle.pieces.specs.Laws.Pieces.{kept_refl, kept_trans, kept_set}
use Rattle.pieces.specs.Laws.Ways.{in_known, in_is, found_in, found_finds}

-- Stores in the three sections leave the others.
pub counted_kept : (n p : ℕ) (f : List ℕ) → p < n → Kept n f (counted n p f)
unfolding counted
counted_kept n p f h = kept_set n f (6 * n + p) _ (omega arith) (omega arith)

pub united_kept : (n p q : ℕ) (f : List ℕ) → p < n → q < n → Kept n f (united n p q f)
unfolding united
united_kept n p q f h g =
    kept_trans (kept_set n f (5 * n + p) _ (omega arith) (omega arith))
    (kept_trans (kept_set n _ (6 * n + p) _ (omega arith) (omega arith))
    (kept_set n _ (4 * n + q) _ (omega arith) (omega arith)))

-- A sum that fits a word.
pub added_fits : (x y : ℕ) → x + y + 1 < 4294967296 → added x y ≡ x + y + 1
unfolding added
added_fits x y l = simp tests

pub added_over : (x y : ℕ) → 4294967296 ≤ x + y + 1 → added x y ≡ x
unfolding added
added_over x y l = simp tests

-- A piece's size and links are few.
size_few : (n : ℕ) (l : List ℕ) (p : ℕ) → size_of n l p ≤ n
unfolding size_of
size_few n l p = count_le (member l p) n

tally_few : (p : Link → Bool) (g : List Link) → tally p g ≤ length g
tally_few p [] = omega (arith, tally_nil p)
tally_few p (e ∷ g) = omega (arith, tally_cons p e g, bit_most (p e), tally_few p g)

links_few : (l : List ℕ) (held : List Link) (p : ℕ) → held_in l held p ≤ length held
unfolding held_in
links_few l held p = tally_few (λ e. member l p e.0) held

-- Where no link is held each fragment is a piece of one.
size_alone : (n p : ℕ) → p < n → size_of n (pieces n []) p ≡ 1
unfolding size_of
size_alone n p h =
    let l : List ℕ = pieces n [] in
    let own : (v : ℕ) → v < n → get_or l v 0 ≡ v = λ v i. rw pieces_nil (alone_at n v i) in
    let s : 1 ≤ count (member l p) n = count_some (member l p) n p h (member_intro l p p (own p h)) in
    elim (dec_le (count (member l p) n) 1) [
      | yes m ↦ omega arith
      | no m ↦
          let (i, j, g, k, a, b) = count_two (member l p) n (omega arith) in
          absurd (omega (arith, own i (omega arith), own j k, member_elim l p i a, member_elim l p j b))
    ]

pub gathered_none : (n : ℕ) (f : List ℕ) → n ≤ fragments_most → words * n ≤ length f → Blank n f → Gathered n [] f
unfolding held_in
gathered_none n f b l z =
    let own : (v : ℕ) → v < n → get_or (pieces n []) v 0 ≡ v = λ v i. rw pieces_nil (alone_at n v i) in
    let at : (i : ℕ) → stored * n ≤ i → i < words * n → get_or f i 0 ≡ 0 = blank_at n f l z in
    record {
      pointing = record { few_fragments = b; long = l; down = λ v h. omega (arith, at (4 * n + v) (omega arith) (omega arith)) };
      few = omega arith;
      inside = λ u v t. absurd (linked_nil u v t);
      first = λ v h e. own v h;
      next = λ v u h e. absurd (omega (arith, at (4 * n + v) (omega arith) (omega arith)));
      size = λ p h e. omega (arith, at (5 * n + p) (omega arith) (omega arith), size_alone n p h);
      links = λ p h e. at (6 * n + p) (omega arith) (omega arith) ∙ sym (tally_nil (λ e. member (pieces n []) p e.0));
    }

-- The facts that a link's ends add.
module _ {n : ℕ} {held : List Link} {f : List ℕ} (G : Gathered n held f) (room : length held < held_most) (a b : ℕ) (ha : a < n) (hb : b < n) where
  open G use {pointing, inside, first, next, size, links}

  abbrev l : List ℕ
  l = pieces n held

  more_few : length (held ++ ((a, b) ∷ [])) ≤ held_most
  more_few = simp length-append (omega arith)

  more_inside : Inside n (held ++ ((a, b) ∷ []))
  more_inside u v t = elim (snoc_cases held (a, b) u v t) [
    | inl s ↦ inside u v s
    | inr s ↦ between_both (λ x. x < n) a b u v s ha hb
  ]

  -- What is stored at smallest members is small.
  size_fits : (p q : ℕ) → p < n → q < n → get_or l p 0 ≡ p → get_or l q 0 ≡ q → get_or f (5 * n + p) 0 + get_or f (5 * n + q) 0 + 1 < 4294967296
  size_fits p q h k e g = omega (arith, pointing.few_fragments, size p h e, size q k g, size_few n l p, size_few n l q)

  links_fit_lem : (p q : ℕ) → p < n → q < n → get_or l p 0 ≡ p → get_or l q 0 ≡ q → get_or f (6 * n + p) 0 + get_or f (6 * n + q) 0 + 1 < 4294967296
  links_fit_lem p q h k e g = omega (arith, links p h e, links q k g, links_few l held p, links_few l held q)

  -- A link inside a piece counts there.
  pub gathered_inside : (p : ℕ) → get_or l a 0 ≡ p → get_or l b 0 ≡ p → Gathered n (held ++ ((a, b) ∷ [])) (counted n p f)
  unfolding counted
  gathered_inside p ea eb =
      let w = get_or f (6 * n + p) 0 in
      let x = w + 0 + 1 in
      let hp : p < n = rw ea at (label_in n held inside a ha) in
      let op : get_or l p 0 ≡ p = rw ea at (label_own n held inside a ha) in
      let same : pieces n (held ++ ((a, b) ∷ [])) ≡ l = pieces_snoc n held (a, b) ∙ merged_inside a b l (ea ∙ sym eb) in
      let low : (i : ℕ) → i < 6 * n → get_or (set f (6 * n + p) x) i 0 ≡ get_or f i 0 = λ i h. get_or-set_other f (6 * n + p) i x 0 (omega arith) in
      rw (added_fits w 0 (omega (arith, links_fit_lem p p hp hp op op))) (record {
        pointing = record {
          few_fragments = pointing.few_fragments;
          long = omega (arith, pointing.long, length-set f (6 * n + p) x);
          down = λ v h. omega (arith, low (4 * n + v) (omega arith), pointing.down v h);
        };
        few = more_few;
        inside = more_inside;
        first = λ v h e. rw same (first v h (sym (low (4 * n + v) (omega arith)) ∙ e));
        next = λ v u h e. rw same (next v u h (sym (low (4 * n + v) (omega arith)) ∙ e));
        size = λ r h. rw same (λ e. omega (arith, low (5 * n + r) (omega arith), size r h e));
        links = λ r h. rw same (λ e. elim (ℕ_discrete r p) [
          | yes q ↦ rw q (omega (arith, get_or-set_same f (6 * n + p) x 0 (omega (arith, pointing.long)), links p hp (rw q at e), held_in_more l held a b p ea))
          | no q ↦ omega (arith, get_or-set_other f (6 * n + p) (6 * n + r) x 0 (omega arith), links r h e, held_in_as l held a b r (λ z. q (sym z ∙ ea)))
        ]);
      })

  -- A link between two pieces makes them one.
  module _ (p q : ℕ) (lt : p < q) (ep : min (get_or l a 0) (get_or l b 0) ≡ p) (eq : max (get_or l a 0) (get_or l b 0) ≡ q) where
    apart : get_or l a 0 ≢ get_or l b 0
    apart e = omega arith

    -- Of the two labels one is p and the other q.
    both : (P : ℕ → ℕ) → P (get_or l a 0) + P (get_or l b 0) ≡ P p + P q
    both P = elim (dec_le (get_or l a 0) (get_or l b 0)) [
      | yes h ↦
          let x : p ≡ get_or l a 0 = omega arith in
          let y : q ≡ get_or l b 0 = omega arith in
          rw (x, y)
      | no h ↦
          let x : p ≡ get_or l b 0 = omega arith in
          let y : q ≡ get_or l a 0 = omega arith in
          rw (x, y) (omega arith)
    ]

    own : (get_or l p 0 ≡ p) × (get_or l q 0 ≡ q) × (q < n)
    own =
        let oa = label_own n held inside a ha in
        let ob = label_own n held inside b hb in
        elim (dec_le (get_or l a 0) (get_or l b 0)) [
          | yes h ↦
              let x : get_or l a 0 ≡ p = omega arith in
              let y : get_or l b 0 ≡ q = omega arith in
              (rw x at oa, rw y at ob, omega (arith, label_in n held inside b hb))
          | no h ↦
              let x : get_or l b 0 ≡ p = omega arith in
              let y : get_or l a 0 ≡ q = omega arith in
              (rw x at ob, rw y at oa, omega (arith, label_in n held inside a ha))
        ]

    abbrev L : List ℕ
    L = merged (a, b) l

    now_p : (v : ℕ) → get_or l v 0 ≡ q → get_or L v 0 ≡ p
    now_p v e = merged_larger a b l v (e ∙ sym eq) ∙ ep

    as_before : (v : ℕ) → get_or l v 0 ≢ q → get_or L v 0 ≡ get_or l v 0
    as_before v d = merged_other a b l v (λ e. d (e ∙ eq))

    -- A label that stays is none of the two, or p.
    stays : (r : ℕ) → r ≢ p → get_or L r 0 ≡ r → (get_or l r 0 ≡ r) × (r ≢ q)
    stays r d e = elim (ℕ_discrete (get_or l r 0) q) [
      | yes z ↦ absurd (d (sym e ∙ now_p r z))
      | no z ↦ (sym (as_before r z) ∙ e, λ y. z (rw y own.1))
    ]

    label_not : (r : ℕ) → r ≢ p → r ≢ q → (r ≢ get_or l a 0) × (r ≢ get_or l b 0)
    label_not r d z = (omega arith, omega arith)

    pub gathered_between : Gathered n (held ++ ((a, b) ∷ [])) (united n p q f)
    unfolding united
    gathered_between =
        let (op, oq, hq) = own in
        let x5 = get_or f (5 * n + p) 0 + get_or f (5 * n + q) 0 + 1 in
        let f5 = set f (5 * n + p) x5 in
        let x6 = get_or f5 (6 * n + p) 0 + get_or f5 (6 * n + q) 0 + 1 in
        let f6 = set f5 (6 * n + p) x6 in
        let g = set f6 (4 * n + q) (p + 1) in
        let long : length g ≡ length f = length-set f6 (4 * n + q) (p + 1) ∙ length-set f5 (6 * n + p) x6 ∙ length-set f (5 * n + p) x5 in
        let step : pieces n (held ++ ((a, b) ∷ [])) ≡ L = pieces_snoc n held (a, b) in
        let at-q : get_or g (4 * n + q) 0 ≡ p + 1 = get_or-set_same f6 (4 * n + q) (p + 1) 0 (omega (arith, pointing.long, length-set f5 (6 * n + p) x6, length-set f (5 * n + p) x5)) in
        let other : (i : ℕ) → i ≢ 4 * n + q → i ≢ 5 * n + p → i ≢ 6 * n + p → get_or g i 0 ≡ get_or f i 0 =
        λ i d e h. get_or-set_other f6 (4 * n + q) i (p + 1) 0 d ∙ get_or-set_other f5 (6 * n + p) i x6 0 h ∙ get_or-set_other f (5 * n + p) i x5 0 e in
        let at-4 : (v : ℕ) → v < n → v ≢ q → get_or g (4 * n + v) 0 ≡ get_or f (4 * n + v) 0 = λ v h d. other (4 * n + v) (omega arith) (omega arith) (omega arith) in
        let at_5 : get_or g (5 * n + p) 0 ≡ x5 =
        get_or-set_other f6 (4 * n + q) (5 * n + p) (p + 1) 0 (omega arith) ∙ get_or-set_other f5 (6 * n + p) (5 * n + p) x6 0 (omega arith)
        ∙ get_or-set_same f (5 * n + p) x5 0 (omega (arith, pointing.long)) in
        let at-6 : get_or g (6 * n + p) 0 ≡ get_or f (6 * n + p) 0 + get_or f (6 * n + q) 0 + 1 =
        get_or-set_other f6 (4 * n + q) (6 * n + p) (p + 1) 0 (omega arith)
        ∙ get_or-set_same f5 (6 * n + p) x6 0 (omega (arith, pointing.long, length-set f (5 * n + p) x5))
        ∙ omega (arith, get_or-set_other f (5 * n + p) (6 * n + p) x5 0 (omega arith), get_or-set_other f (5 * n + p) (6 * n + q) x5 0 (omega arith)) in
        let fits : get_or f5 (6 * n + p) 0 + get_or f5 (6 * n + q) 0 + 1 < 4294967296 =
        omega (arith, get_or-set_other f (5 * n + p) (6 * n + p) x5 0 (omega arith), get_or-set_other f (5 * n + p) (6 * n + q) x5 0 (omega arith), links_fit_lem p q (omega arith) hq op oq) in
        rw (added_fits (get_or f (5 * n + p) 0) (get_or f (5 * n + q) 0) (size_fits p q (omega arith) hq op oq), added_fits (get_or f5 (6 * n + p) 0) (get_or f5 (6 * n + q) 0) fits) (record {
          pointing = record {
            few_fragments = pointing.few_fragments;
            long = omega (arith, pointing.long, long);
            down = λ v h. elim (ℕ_discrete v q) [
              | yes e ↦ rw e (omega (arith, at-q))
              | no d ↦ omega (arith, at-4 v h d, pointing.down v h)
            ];
          };
          few = more_few;
          inside = more_inside;
          first = λ v h e. elim (ℕ_discrete v q) [
            | yes d ↦ absurd (omega (arith, at-q, rw d at e))
            | no d ↦
                let o : get_or l v 0 ≡ v = first v h (sym (at-4 v h d) ∙ e) in
                rw step (as_before v (λ z. d (sym o ∙ z)) ∙ o)
          ];
          next = λ v u h e. elim (ℕ_discrete v q) [
            | yes d ↦
                let w : u ≡ p = omega (arith, at-q, rw d at e) in
                rw (step, w, d) (as_before p (λ z. omega (arith, op, z)) ∙ op ∙ sym (now_p q oq))
            | no d ↦ rw step (merged_keeps a b l u v (next v u h (sym (at-4 v h d) ∙ e)))
          ];
          size = λ r h. rw step (λ e. elim (ℕ_discrete r p) [
            | yes d ↦ rw d (omega (arith, at_5, size p (omega arith) op, size q hq oq, both (size_of n l), rw ep at (size_join a b l apart n)))
            | no d ↦
                let (o, z) = stays r d e in
                omega (arith, other (5 * n + r) (omega arith) (omega arith) (omega arith), size r h o, size_other a b l apart n r (label_not r d z).0 (label_not r d z).1)
          ]);
          links = λ r h. rw step (λ e. elim (ℕ_discrete r p) [
            | yes d ↦ rw d (omega (arith, at-6, links p (omega arith) op, links q hq oq, both (held_in l held), rw ep at (held_in_join a b l apart held), held_in_more L held a b p (merged_one a b l ∙ ep)))
            | no d ↦
                let (o, z) = stays r d e in
                omega (arith, other (6 * n + r) (omega arith) (omega arith) (omega arith), links r h o, held_in_other a b l apart held r (label_not r d z).0 (label_not r d z).1, held_in_as L held a b r (λ y. d (sym y ∙ merged_one a b l ∙ ep)))
          ]);
        })

-- The two smallest members found, p for a and then q for b: what `join` asks and leaves.
module _ {n : ℕ} {f f₁ f₂ : List ℕ} {a b : ℕ} (J : Joinable n f a b) (p q : ℕ) (P : Finds n a f p f₁) (Q : Finds n b f₁ q f₂) where
  open J use {one, two}

  still : (held : List Link) → Gathered n held f → Gathered n held f₂
  still held H = Q.stays held (P.stays held H)

  label_b : LabelIs n f b q
  label_b held H = Q.label held (P.stays held H)

  found_kept : Kept n f f₂
  found_kept = kept_trans P.kept Q.kept

  join_inside : p ≡ q → (g : List ℕ) → g ≡ counted n p f₂ → Joins n a b f g
  join_inside e g r = rw r (record {
    more = λ held h H. gathered_inside (still held H) h a b one two p (sym (P.label held H)) (sym (label_b held H) ∙ sym e);
    kept = kept_trans found_kept (counted_kept n p f₂ P.in_range);
  })

  module _ (lo hi : ℕ) (lt : lo < hi) (el : min p q ≡ lo) (eh : max p q ≡ hi) where
    below : hi < n
    below = omega (arith, P.in_range, Q.in_range)

    join_between : (g : List ℕ) → g ≡ united n lo hi f₂ → Joins n a b f g
    join_between g r = rw r (record {
      more = λ held h H. gathered_between (still held H) h a b one two lo hi lt (omega (arith, P.label held H, label_b held H)) (omega (arith, P.label held H, label_b held H));
      kept = kept_trans found_kept (united_kept n lo hi f₂ (omega (arith, below)) below);
    })

-- Which pieces are bound.
module _ (n p q : ℕ) (f : List ℕ) where
  pub bound_inside : p ≡ q → counted n p f ≡ bound n p q f
  unfolding bound
  bound_inside e = simp tests

  pub bound_rising : (p ≡ q → ⊥) → p < q → united n p q f ≡ bound n p q f
  unfolding bound
  bound_rising d l = simp tests

  pub bound_falling : (p ≡ q → ⊥) → q ≤ p → united n q p f ≡ bound n p q f
  unfolding bound
  bound_falling d l = simp tests

-- A link is joined by the two ways that are found.
module _ (n a b : ℕ) (f : List ℕ) where
  pub joined_no_first : false ≡ is_in (length f) n a → f ≡ joined n a b f
  unfolding joined
  joined_no_first e = rw (← e, pick_false)

  module _ (x : true ≡ is_in (length f) n a) where
    pub joined_no_second : false ≡ is_in (length f) n b → f ≡ joined n a b f
    unfolding joined
    joined_no_second e = rw (← x, ← e, pick_true, pick_false)

    module _ (y : true ≡ is_in (length f) n b) (p q : ℕ) (f₁ f₂ : List ℕ) (P : (p, f₁) ≡ found n a f) (Q : (q, f₂) ≡ found n b f₁) where
      pub joined_by : bound n p q f₂ ≡ joined n a b f
      unfolding joined
      joined_by =
          ap (λ (z : ℕ × List ℕ). bound n p z.0 z.1) Q
          ∙ ap (λ (z : ℕ × List ℕ). bound n z.0 (found n b z.1).0 (found n b z.1).1) P
          ∙ rw (← x, ← y) (sym (pick_true _ _ ∙ pick_true _ _))

      pub joined_members : length f₁ ≡ length f → length f₂ ≡ length f → Members n p q f₂
      joined_members e g =
          let (few, long, l) = in_known (length f) n a x in
          record { few_fragments = few; long = omega arith; first = found_in n a f x p f₁ P; second = found_in n b f₁ (y ∙ ap (λ (m : ℕ). is_in m n b) (sym e)) q f₂ Q }

pub joined_joins : {n a b : ℕ} {f : List ℕ} → Joinable n f a b → Joins n a b f (joined n a b f)
joined_joins {n} {a} {b} {f} J =
    let G = J.gathered.pointing in
    let P = found_finds G J.one in
    let Q = found_finds P.pointing J.two in
    let p = (found n a f).0 in
    let f₁ = (found n a f).1 in
    let q = (found n b f₁).0 in
    let f₂ = (found n b f₁).1 in
    let by : bound n p q f₂ ≡ joined n a b f = joined_by n a b f (in_is (length f) n a G.few_fragments G.long J.one) (in_is (length f) n b G.few_fragments G.long J.two) p q f₁ f₂ refl refl in
    elim (ℕ_discrete p q) [
      | yes e ↦ join_inside J p q P Q e (joined n a b f) (sym by ∙ sym (bound_inside n p q f₂ e))
      | no d ↦ elim (dec_le p q) [
        | yes l ↦ join_between J p q P Q p q (omega arith) (omega arith) (omega arith) (joined n a b f) (sym by ∙ sym (bound_rising n p q f₂ d (omega arith)))
        | no l ↦ join_between J p q P Q q p (omega arith) (omega arith) (omega arith) (joined n a b f) (sym by ∙ sym (bound_falling n p q f₂ d (omega arith)))
      ]
    ]

-- The links in the held table, one more of them, and one of them.
pub links_more : (h : List ℕ) (i : ℕ) → i < length h → held_links (i + 1) h ≡ held_links i h ++ (held_link h i ∷ [])
links_more h i l = rw (add-one, take-suc h i 0 l, map-append)

pub links_length : (h : List ℕ) (i : ℕ) → i ≤ length h → length (held_links i h) ≡ i
links_length h i l = length-map link_in (take i h) ∙ simp length-take (omega arith)

pub link_there : (h : List ℕ) (m i : ℕ) → i < m → m ≤ length h → T (linked (held_links m h) (held_link h i).0 (held_link h i).1)
unfolding link_in
link_there [] m i l b = absurd (omega arith)
link_there (x ∷ h) zero i l b = absurd (omega arith)
link_there (x ∷ h) (suc m) zero l b = linked_head (link_in x) (held_links m h) _ _ (between_here _ _)
link_there (x ∷ h) (suc m) (suc i) l b = linked_tail (link_in x) (held_links m h) _ _ (link_there h m i (omega arith) (omega arith))

-- Gathering link by link.
module _ {n count : ℕ} {f h : List ℕ} (G : Gatherable n f h count) where
  pub gathers_none : Gathers n f h 0 f
  gathers_none = record { gathered = gathered_none n f G.few_fragments G.long G.blank; kept = kept_refl n f }

  module _ (i : ℕ) (l : i < count) {f' : List ℕ} (S : Gathers n f h i f') (a b : ℕ) (ea : a ≡ (held_link h i).0) (eb : b ≡ (held_link h i).1) where
    few_yet : length (held_links i h) < held_most
    few_yet = omega (arith, links_length h i (omega (arith, G.there)), G.few)

    gather_joinable : Joinable n f' a b
    gather_joinable =
        let e = G.inside _ _ (link_there h count i l G.there) in
        record { held = held_links i h; gathered = S.gathered; room = few_yet; one = rw ea e.0; two = rw eb e.1 }

    pub gathers_more : (g : List ℕ) → g ≡ joined n a b f' → Gathers n f h (i + 1) g
    gathers_more g e =
        let J = joined_joins gather_joinable in
        let pair : held_link h i ≡ (a, b) = λ j. (sym ea j, sym eb j) in
        rw e (record {
          gathered = rw (links_more h i (omega (arith, G.there)), pair) (J.more (held_links i h) few_yet S.gathered);
          kept = kept_trans S.kept J.kept;
        })
