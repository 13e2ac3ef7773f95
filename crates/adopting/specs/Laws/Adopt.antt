-- Following a table of parents, writing it down with its levels, and the answers of adopt.
-- Assumes nothing.
use Prim.Native.Nat.{ℕ, suc, ◌+◌, ◌-◌, ◌*◌, ◌≤◌, ◌<◌}
use Rattle.std.specs.Prelude.{◌≡◌, true, false, List, T, eqb, length, set, take, drop, replicate, Ok, Err}
use Rattle.std.proofs.Math.Path.{refl, sym, ap}
use Rattle.std.proofs.Common.{◌∙◌, subst, arith, add-one, ltb→lt, length-set, length-take, length-drop, get_or-set_same, get_or-set_other, get_or-take, get_or-drop, drop-drop, drop-set-lt, ext_get_or, length-take-le}
use Rattle.std.proofs.Math.Decide.{ℕ_discrete, dec_le}
use Rattle.std.proofs.Math.ListN.{get_or}
use Rattle.std.proofs.lemmas.List.{length-replicate}
use borrow.Author.Tests.{eqb-true, le-ltb, lt-ltb, ne_eqb}
use Rattle.base.specs.Pick.{tests}
use Rattle.base.specs.Truth.{and_r, T_dec, T_true, T_false, true_T, false_T}
use Rattle.rules.specs.Forest.{up, depth}
use Rattle.rules.specs.Search.{every, table}
use Rattle.rules.specs.Adopting.{parent_in, rooted_in, adoptable, adopted}
use Rattle.rules.proofs.Laws.Search.{every_at, table_length, table_at}
use Rattle.rules.proofs.Laws.Up.{up_add, up_par, par_in, root_lev, child_lev, level_below}
use Rattle.rules.proofs.Laws.Tables.{getD_zeros}
use Rattle.rules.proofs.Laws.Adopting.{adoptable_exact, adopted_levels}
use Rattle.state.specs.Layout.{words, stored, section, wiped, tables_in, frag_of, held_of}
use Rattle.state.specs.Test.{all_zero}
use Rattle.state.specs.Call.{bounds_refusal}
use Rattle.state.specs.Adopt.{adopted_state, adopt_refusal, adopt_call}
use Rattle.state.specs.Answers.{begun_told}
use Rattle.state.proofs.Laws.Bounds.{Bounds, bounds_known}
use Rattle.state.proofs.Laws.Lists.{all_none, zeros_pass}
use Rattle.state.proofs.Laws.Clear.{wiped_length, wiped_front, wiped_past, wiped_within}
use Rattle.state.proofs.Laws.Tests.{every_more, every_fails}
use Rattle.state.proofs.Laws.Layout.{tables_are, section_length, section_at}
use Rattle.state.proofs.Laws.Behind.{plain_rest}
use Rattle.state.proofs.Laws.Lay.{frag_laid, held_laid}
use Rattle.state.specs.declared.State.{State}
use Rattle.state.specs.declared.Stage.TheVariants.{Built}
use Rattle.adopting.specs.Adopt.{below, Inside, Leads, Verdict, Rooted, Placed}

-- Parents that are fragments; w is v's parent.
module _ (n : ℕ) (ps : List ℕ) (v w : ℕ) (e : w ≡ parent_in ps v) where
  pub inside_fails : v < n → n ≤ w → false ≡ every (below n ps) n
  inside_fails l g = every_fails (below n ps) v n l (rw (← e) (le-ltb w n g))

  pub inside_more : every (below n ps) v ≡ true → w < n → every (below n ps) (v + 1) ≡ true
  inside_more q g = every_more (below n ps) v q (rw (← e) (lt-ltb w n g))

-- Following v's way: u is where i steps lead, w its parent.
module _ (n : ℕ) (ps : List ℕ) (v u i : ℕ) (e : u ≡ up (parent_in ps) i v) (w : ℕ) (ew : w ≡ parent_in ps u) where
  pub way_more : w ≡ up (parent_in ps) (i + 1) v
  way_more = ew ∙ ap (parent_in ps) e ∙ sym (up_par (parent_in ps) i v) ∙ ap (λ k. up (parent_in ps) k v) (sym (add-one i))

  pub way_root : w ≡ u → Verdict n ps v true
  way_root q = record {
    good = λ t f. (i, rw (← e) (sym ew ∙ q));
    bad = λ t. absurd (false_T true t tt);
  }

  pub way_before : w < v → Verdict n ps v true
  way_before l = record {
    good = λ t f. let (k, q) = f w l in (i + 1 + k, rw (up_add (parent_in ps) (i + 1) k v, ← way_more) q);
    bad = λ t. absurd (false_T true t tt);
  }

  pub way_ends : i ≡ n → Verdict n ps v (eqb w u)
  unfolding rooted_in
  way_ends q = record {
    good = λ t f. (i, rw (← e) (sym ew ∙ eqb-true w u t));
    bad = λ t. rw (← q, ← e, ← ew) t;
  }

-- Following all ways.
pub all_lead : (n : ℕ) (ps : List ℕ) → Inside n ps → ((v : ℕ) → v < n → Leads ps v) → true ≡ adoptable n ps
all_lead n ps s f = sym (T_true (adoptable n ps) ((adoptable_exact n ps).1 (s.inside, f)))

pub one_leads_not : (n : ℕ) (ps : List ℕ) (v : ℕ) → v < n → rooted_in n ps v ≡ false → false ≡ adoptable n ps
unfolding adoptable
one_leads_not n ps v l e =
    sym (T_false (adoptable n ps) (λ x. false_T (rooted_in n ps v) e (every_at (rooted_in n ps) n (and_r (every (below n ps) n) _ x) v l)))

pub one_outside : (n : ℕ) (ps : List ℕ) → every (below n ps) n ≡ false → false ≡ adoptable n ps
unfolding adoptable
one_outside n ps e = rw e

pub inside_known : (n : ℕ) (ps : List ℕ) → n ≤ length ps → every (below n ps) n ≡ true → Inside n ps
inside_known n ps l e = record { long = l; inside = λ v h. ltb→lt (parent_in ps v) n (every_at (below n ps) n (true_T (every (below n ps) n) e) v h) }

pub adoptable_rooted : (n : ℕ) (ps : List ℕ) → n ≤ length ps → T (adoptable n ps) → Rooted n ps
adoptable_rooted n ps l t = record { long = l; levels = adopted_levels n ps t }

-- Counting a rank: after i steps the way from v is at u, w its parent.
module _ (n : ℕ) (ps : List ℕ) (r : Rooted n ps) (v u i : ℕ) (e : depth (parent_in ps) n v ≡ i + depth (parent_in ps) n u) (h : u < n) (w : ℕ) (ew : w ≡ parent_in ps u) where
  pub rank_in : w < n
  rank_in = omega (arith, ew, par_in r.levels u h)

  pub rank_root : w ≡ u → i + 1 ≡ suc (depth (parent_in ps) n v)
  rank_root q = omega (arith, e, root_lev r.levels u h (sym ew ∙ q))

  pub rank_child : (w ≡ u → ⊥) → depth (parent_in ps) n u ≡ suc (depth (parent_in ps) n w)
  rank_child d = child_lev r.levels u h (λ q. d (ew ∙ q)) ∙ ap (λ x. suc (depth (parent_in ps) n x)) (sym ew)

pub rank_few : (n : ℕ) (ps : List ℕ) → Rooted n ps → (v : ℕ) → v < n → depth (parent_in ps) n v < n
rank_few n ps r v h = level_below r.levels v h

-- Writing the fragments down.
pub placed_none : (n : ℕ) (ps f : List ℕ) → Placed n ps 0 f f
placed_none n ps f = record { as_long = refl; parents = λ u l. absurd (omega arith); levels = λ u l. absurd (omega arith); after = refl }

pub placed_more : (n : ℕ) (ps f f' : List ℕ) (v p r : ℕ) → Placed n ps v f f' → v < n → 2 * n ≤ length f' → p ≡ parent_in ps v → r ≡ suc (depth (parent_in ps) n v)
    → Placed n ps (v + 1) f (set (set f' v p) (n + v) r)
placed_more n ps f f' v p r b l h ep er = record {
  as_long = length-set (set f' v p) (n + v) r ∙ length-set f' v p ∙ b.as_long;
  parents = λ u g. get_or-set_other (set f' v p) (n + v) u r 0 (λ d. omega arith) ∙ elim (ℕ_discrete u v) [
    | yes d ↦ rw (d, ← ep) (get_or-set_same f' v p 0 (omega arith))
    | no d ↦ get_or-set_other f' v u p 0 d ∙ b.parents u (omega arith)
  ];
  levels = λ u g. elim (ℕ_discrete u v) [
    | yes d ↦ rw (d, ← er) (get_or-set_same (set f' v p) (n + v) r 0 (simp length-set (omega arith)))
    | no d ↦ get_or-set_other (set f' v p) (n + v) (n + u) r 0 (λ q. d (omega arith)) ∙ get_or-set_other f' v (n + u) p 0 (λ q. omega arith) ∙ b.levels u (omega arith)
  ];
  after = drop-set-lt (2 * n) (set f' v p) (n + v) r (omega arith) ∙ drop-set-lt (2 * n) f' v p (omega arith) ∙ b.after;
}

pub placed_end : {n v : ℕ} {ps f f' : List ℕ} → Placed n ps v f f' → v ≡ n → Placed n ps n f f'
placed_end {n} {v} {ps} {f} {f'} b q = subst (λ u. Placed n ps u f f') q b

-- The refusals of adopt.
module _ (n k : ℕ) (ps : List ℕ) (frags helds : ℕ) where
  pub adopt_bounds : (r : ℕ) → r ≡ bounds_refusal n k frags helds → (r ≡ 0 → ⊥) → r ≡ adopt_refusal n k ps frags helds
  unfolding adopt_refusal
  adopt_bounds r e d = rw (← e, ne_eqb r 0 d) (simp tests)

  module _ (z : bounds_refusal n k frags helds ≡ 0) where
    pub adopt_short : length ps < n → 3 ≡ adopt_refusal n k ps frags helds
    unfolding adopt_refusal
    adopt_short l = rw z (simp tests)

    module _ (l : n ≤ length ps) where
      pub adopt_cycle : adoptable n ps ≡ false → 10 ≡ adopt_refusal n k ps frags helds
      unfolding adopt_refusal
      adopt_cycle e = rw (z, e) (simp tests)

      pub adopt_fine : adoptable n ps ≡ true → 0 ≡ adopt_refusal n k ps frags helds
      unfolding adopt_refusal
      adopt_fine e = rw (z, e) (simp tests)

-- What is known where none is due.
pub adopt_known : (n k : ℕ) (ps : List ℕ) (frags helds : ℕ) → adopt_refusal n k ps frags helds ≡ 0 → Bounds n k frags helds × Rooted n ps
adopt_known n k ps frags helds e = elim (ℕ_discrete (bounds_refusal n k frags helds) 0) [
  | no d ↦ absurd (d (adopt_bounds n k ps frags helds _ refl d ∙ e))
  | yes z ↦ elim (dec_le n (length ps)) [
    | no l ↦ absurd (omega (arith, adopt_short n k ps frags helds z (omega arith) ∙ e))
    | yes l ↦ elim (T_dec (adoptable n ps)) [
      | no x ↦ absurd (omega (arith, adopt_cycle n k ps frags helds z l (T_false (adoptable n ps) x) ∙ e))
      | yes x ↦ (bounds_known n k frags helds z, adoptable_rooted n ps l x)
    ]
  ]
]

-- A run of words that are 0.
zero_run : (a m : ℕ) (l : List ℕ) → a + m ≤ length l → ((j : ℕ) → a ≤ j → j < a + m → get_or l j 0 ≡ 0) → T (all_zero (take m (drop a l)))
zero_run a m l h q =
    rw (all_none (take m (drop a l)) m (simp (length-take, length-drop) (omega arith)) (λ v g. get_or-take m (drop a l) v 0 g ∙ get_or-drop a l v 0 ∙ q (a + v) (omega arith) (omega arith)))
    (zeros_pass m)

-- What is written is what is adopted.
module _ (n k : ℕ) (ps f f₁ f₂ h h₂ : List ℕ) (b : Bounds n k (length f) (length h)) (i : Rooted n ps) (p : Placed n ps n f f₁)
    (c : f₂ ≡ wiped (2 * n) (words * n) f₁) (d : h₂ ≡ wiped 0 (k * n) h) where
  room : words * n ≤ length f₁
  room = omega (arith, b.frag_long, p.as_long)

  long : words * n ≤ length f₂
  long = rw (c, wiped_length (2 * n) (words * n) f₁ (omega arith) room) room

  kept : (j : ℕ) → j < 2 * n → get_or f₂ j 0 ≡ get_or f₁ j 0
  kept j l =
      let e : take (2 * n) f₂ ≡ take (2 * n) f₁ = rw c (wiped_front (2 * n) (words * n) f₁ (omega arith) room) in
      sym (get_or-take (2 * n) f₂ j 0 l) ∙ ap (λ g. get_or g j 0) e ∙ get_or-take (2 * n) f₁ j 0 l

  none : (j : ℕ) → 2 * n ≤ j → j < words * n → get_or f₂ j 0 ≡ 0
  none j l g = rw c (wiped_within (2 * n) (words * n) f₁ (omega arith) room j l g)

  section_is : (j : ℕ) (g : List ℕ) → suc j * n ≤ length f₂ → length g ≡ n → ((v : ℕ) → v < n → get_or f₂ (j * n + v) 0 ≡ get_or g v 0) → section n j f₂ ≡ g
  section_is j g l e q =
      let m = section_length n f₂ j l in
      ext_get_or 0 (section n j f₂) g (m ∙ sym e) (λ v h. let h' : v < n = omega arith in sym (section_at n f₂ j (j * n + v) v refl h') ∙ q v h')

  tables_adopted : tables_in (adopted_state n k) f₂ h₂ ≡ adopted n ps
  unfolding adopted
  tables_adopted =
      tables_are (adopted_state n k) f₂ h₂ _
      (section_is 0 (take n ps) (omega (arith, long)) (length-take-le n ps i.long)
      (λ v l. at (0 * n + v) v (omega arith) (omega arith) ∙ p.parents v l ∙ sym (get_or-take n ps v 0 l)))
      (section_is 1 (table (λ v. suc (depth (parent_in ps) n v)) n) (omega (arith, long)) (table_length _ n)
      (λ v l. at (1 * n + v) (n + v) (omega arith) (omega arith) ∙ p.levels v l ∙ sym (table_at (λ v. suc (depth (parent_in ps) n v)) n v 0 l)))
      (section_is 2 (replicate n 0) (omega (arith, long)) (length-replicate n 0) (λ v l. none (2 * n + v) (omega arith) (omega arith) ∙ sym (getD_zeros n v)))
      (section_is 3 (replicate n 0) (omega (arith, long)) (length-replicate n 0) (λ v l. none (3 * n + v) (omega arith) (omega arith) ∙ sym (getD_zeros n v)))
      refl refl
    where
      at : (j m : ℕ) → j ≡ m → m < 2 * n → get_or f₂ j 0 ≡ get_or f₁ m 0
      at j m q l = ap (λ x. get_or f₂ x 0) q ∙ kept m l

  pub frag_adopted : f₂ ≡ frag_of Built n (adopted n ps) f
  frag_adopted = frag_laid (adopted_state n k) f f₂ h₂ _ tables_adopted long
      (plain_rest Built n (adopted n ps) f₂ (λ x. x) long (zero_run (stored * n) ((words - stored) * n) f₂ (omega (arith, long)) (λ j q l. none j (omega arith) (omega arith))))
      (after ∙ past f₁ ∙ ap (λ g. drop (14 * n) g) p.after ∙ sym (past f))
    where
      after : drop (words * n) f₂ ≡ drop (words * n) f₁
      after = rw c (wiped_past (2 * n) (words * n) f₁ (omega arith) room)

      past : (g : List ℕ) → drop (words * n) g ≡ drop (14 * n) (drop (2 * n) g)
      past g = let q : words * n ≡ 2 * n + 14 * n = omega arith in ap (λ j. drop j g) q ∙ sym (drop-drop (14 * n) (2 * n) g)

  held_long : k * n ≤ length h₂
  held_long = rw (d, wiped_length 0 (k * n) h (omega arith) b.held_long) b.held_long

  pub held_adopted : h₂ ≡ held_of n k (adopted n ps) h
  held_adopted = held_laid (adopted_state n k) f₂ h h₂ _ tables_adopted (omega arith) held_long
      (zero_run 0 (k * n) h₂ (omega (arith, held_long)) (λ j q l. rw d (wiped_within 0 (k * n) h (omega arith) b.held_long j q (omega arith)))) (rw d (wiped_past 0 (k * n) h (omega arith) b.held_long))

-- The answers of adopt.
module _ (n k : ℕ) (ps f h : List ℕ) (r : ℕ) (e : r ≡ adopt_refusal n k ps (length f) (length h)) where
  pub adopt_refused : (r ≡ 0 → ⊥) → begun_told (Err (record { number = r; place = 0 })) f h ≡ adopt_call n k ps f h
  unfolding adopt_call
  adopt_refused d = rw (← e) (simp tests)

  pub adopt_ready : r ≡ 0 → (x : State) → x ≡ adopted_state n k → (f' h' : List ℕ) → f' ≡ frag_of Built n (adopted n ps) f → h' ≡ held_of n k (adopted n ps) h → begun_told (Ok x) f' h' ≡ adopt_call n k ps f h
  unfolding adopt_call
  adopt_ready z x ex f' h' p q = rw (ex, ← e, p, q) (simp tests)
