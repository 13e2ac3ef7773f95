-- The way along the pointers: its turns, that it goes down, and that where pieces stand gathered it ends at the smallest member.
-- Assumes nothing.
use Rattle.std.specs.Prelude.{ℕ, zero, suc, pred, ◌+◌, ◌-◌, ◌*◌, ◌≤◌, ◌<◌, ◌≡◌, refl, true, false, ◌&&◌, List, ◌⊎◌, length, set}
use Rattle.std.proofs.Common.{sym, ap, subst, ◌∙◌, inl, inr, length-set}
use native.Mathlib.Omega.{arith}
use Rattle.std.proofs.Math.Decide.{ℕ_discrete}
use Rattle.std.proofs.Math.Dec.{T, leb, ltb, leb→le, ltb→lt}
use Rattle.base.specs.Pick.{pick_true, pick_false, tests}
use Rattle.base.specs.Truth.{and_l, and_r, true_T}
use Rattle.state.specs.Layout.{words}
use Rattle.state.specs.Call.{fragments_most}
use Rattle.pieces.specs.Joined.{is_in, pointer, leads, way, found}
use Rattle.pieces.specs.Pieces.{Pointing, Finds}
use Rattle.pieces.specs.Laws.Pieces.{Finding, finding_starts, finding_ends, finding_less, finding_next, finding_down, finding_on}

-- A table with the sections of n fragments.
module _ (len n v : ℕ) where
  pub in_known : true ≡ is_in len n v → (n ≤ fragments_most) × (words * n ≤ len) × (v < n)
  unfolding is_in
  in_known e =
      let t : T (leb n fragments_most && (leb (words * n) len && ltb v n)) = true_T _ (sym e) in
      let r = and_r (leb n fragments_most) _ t in
      (leb→le n fragments_most (and_l (leb n fragments_most) _ t), leb→le (words * n) len (and_l (leb (words * n) len) _ r), ltb→lt v n (and_r (leb (words * n) len) _ r))

  pub in_many : fragments_most < n → false ≡ is_in len n v
  unfolding is_in
  in_many l = simp tests

  module _ (few : n ≤ fragments_most) where
    pub in_short : len < words * n → false ≡ is_in len n v
    unfolding is_in
    in_short l = simp tests

    pub in_long : words * n ≤ len → ltb v n ≡ is_in len n v
    unfolding is_in
    in_long l = simp tests

  pub in_is : n ≤ fragments_most → words * n ≤ len → v < n → true ≡ is_in len n v
  unfolding is_in
  in_is a b c = simp tests

-- Where a pointer leads.
module _ (word u : ℕ) where
  pub leads_known : true ≡ leads word u → (0 < word) × (word ≤ u)
  unfolding leads
  leads_known e =
      let t : T (ltb 0 word && leb word u) = true_T _ (sym e) in
      (ltb→lt 0 word (and_l (ltb 0 word) _ t), leb→le word u (and_r (ltb 0 word) _ t))

  pub leads_nowhere : word ≡ 0 → false ≡ leads word u
  unfolding leads
  leads_nowhere e = let z : word ≤ 0 = omega arith in simp tests

  pub leads_some : (word ≡ 0 → ⊥) → leb word u ≡ leads word u
  unfolding leads
  leads_some d = let z : 0 < word = omega arith in simp tests

  leads_down : (word ≡ 0 → ⊥) → word ≤ u → true ≡ leads word u
  unfolding leads
  leads_down d l = let z : 0 < word = omega arith in simp tests

  leads_dec : (true ≡ leads word u) ⊎ (false ≡ leads word u)
  leads_dec = elim (leads word u) as (λ b. (true ≡ b) ⊎ (false ≡ b)) [ true ↦ inl refl | false ↦ inr refl ]

-- One turn.
module _ (turns n u : ℕ) (f : List ℕ) where
  way_ends : false ≡ leads (pointer n f u) u → (u, f) ≡ way (suc turns) n u f
  unfolding way
  way_ends e = rw (← e, pick_false)

  module _ (a : true ≡ leads (pointer n f u) u) where
    abbrev p : ℕ
    p = pointer n f u - 1

    way_next : false ≡ leads (pointer n f p) p → (p, f) ≡ way (suc turns) n u f
    unfolding way
    way_next e = rw (← a, ← e, pick_true, pick_false)

    way_on : true ≡ leads (pointer n f p) p → way turns n (pointer n f p - 1) (set f (4 * n + u) (pointer n f p)) ≡ way (suc turns) n u f
    unfolding way
    way_on e = rw (← a, ← e) (sym (pick_true _ _ ∙ pick_true _ _))

-- It goes down.
way_down : (turns n u : ℕ) (f : List ℕ) → (way turns n u f).0 ≤ u
unfolding way
way_down zero n u f = omega arith
way_down (suc turns) n u f = elim (leads_dec (pointer n f u) u) [
  | inr e ↦ subst (λ (x : ℕ × List ℕ). x.0 ≤ u) (way_ends turns n u f e) (omega arith)
  | inl a ↦
      let p = pointer n f u - 1 in
      let l = leads_known (pointer n f u) u a in
      elim (leads_dec (pointer n f p) p) [
        | inr e ↦ subst (λ (x : ℕ × List ℕ). x.0 ≤ u) (way_next turns n u f a e) (omega arith)
        | inl e ↦
            let m = leads_known (pointer n f p) p e in
            subst (λ (x : ℕ × List ℕ). x.0 ≤ u) (way_on turns n u f a e) (omega (arith, way_down turns n (pointer n f p - 1) (set f (4 * n + u) (pointer n f p))))
      ]
]

-- Where it starts.
module _ (n v : ℕ) (f : List ℕ) where
  pub found_none : false ≡ is_in (length f) n v → (v, f) ≡ found n v f
  unfolding found
  found_none e = rw (← e, pick_false)

  module _ (h : true ≡ is_in (length f) n v) where
    found_way : way (suc v) n v f ≡ found n v f
    unfolding found
    found_way = rw (← h, pick_true)

    pub found_in : (r : ℕ) (f' : List ℕ) → (r, f') ≡ found n v f → r < n
    found_in r f' e =
        let z : r ≡ (way (suc v) n v f).0 = ap (λ (x : ℕ × List ℕ). x.0) (e ∙ sym found_way) in
        omega (arith, way_down (suc v) n v f, (in_known (length f) n v h).2)

-- It has come from v to u: what is left of it ends where the whole does.
pub record Going (n v : ℕ) (f₀ : List ℕ) (u : ℕ) (f : List ℕ) : Type 0 where
  pub few_fragments : n ≤ fragments_most
  pub long : words * n ≤ length f
  pub same_long : length f ≡ length f₀
  pub in_range : u < n
  pub turns : ℕ
  pub enough : u < turns
  pub rest : way turns n u f ≡ found n v f₀

pub going_starts : (n v : ℕ) (f : List ℕ) → true ≡ is_in (length f) n v → Going n v f v f
going_starts n v f h =
    let (few, long, l) = in_known (length f) n v h in
    record { few_fragments = few; long = long; same_long = refl; in_range = l; turns = suc v; enough = omega arith; rest = found_way n v f h }

module _ {n v u : ℕ} {f₀ f : List ℕ} (G : Going n v f₀ u f) where
  left : way (suc (pred G.turns)) n u f ≡ found n v f₀
  left = let e : suc (pred G.turns) ≡ G.turns = omega (arith, G.enough) in ap (λ (k : ℕ). way k n u f) e ∙ G.rest

  pub going_ends : false ≡ leads (pointer n f u) u → (u, f) ≡ found n v f₀
  going_ends e = way_ends (pred G.turns) n u f e ∙ left

  module _ (a : true ≡ leads (pointer n f u) u) where
    abbrev q : ℕ
    q = pointer n f u - 1

    pub going_less : q < u
    going_less = omega (arith, leads_known (pointer n f u) u a)

    pub going_next : false ≡ leads (pointer n f q) q → (q, f) ≡ found n v f₀
    going_next e = way_next (pred G.turns) n u f a e ∙ left

    module _ (b : true ≡ leads (pointer n f q) q) where
      pub going_down : (0 < pointer n f q) × (pointer n f q ≤ q)
      going_down = leads_known (pointer n f q) q b

      pub going_on : Going n v f₀ (pointer n f q - 1) (set f (4 * n + u) (pointer n f q))
      going_on = record {
        few_fragments = G.few_fragments;
        long = simp length-set G.long;
        same_long = simp length-set G.same_long;
        in_range = omega (arith, going_less, going_down, G.in_range);
        turns = pred G.turns;
        enough = omega (arith, going_less, going_down, G.enough);
        rest = way_on (pred G.turns) n u f a b ∙ left;
      }

-- Where the pointers go down, it ends at the smallest member.
way_finds : (turns : ℕ) {n v u : ℕ} {f₀ f : List ℕ} → Finding n v f₀ u f → u < turns → Finds n v f₀ (way turns n u f).0 (way turns n u f).1
way_finds zero F l = absurd (omega arith)
way_finds (suc turns) {n} {v} {u} {f₀} {f} F l = elim (ℕ_discrete (pointer n f u) 0) [
  | yes e ↦ subst (λ (x : ℕ × List ℕ). Finds n v f₀ x.0 x.1) (way_ends turns n u f (leads_nowhere (pointer n f u) u e)) (finding_ends F e)
  | no d ↦
      let p = pointer n f u - 1 in
      let N = finding_next F p refl d in
      let a = leads_down (pointer n f u) u d (F.pointing.down u F.in_range) in
      elim (ℕ_discrete (pointer n f p) 0) [
        | yes e ↦ subst (λ (x : ℕ × List ℕ). Finds n v f₀ x.0 x.1) (way_next turns n u f a (leads_nowhere (pointer n f p) p e)) (finding_ends N e)
        | no c ↦
            subst (λ (x : ℕ × List ℕ). Finds n v f₀ x.0 x.1) (way_on turns n u f a (leads_down (pointer n f p) p c (finding_down F p refl d (pointer n f p) refl c)))
            (way_finds turns (finding_on F p refl d (pointer n f p) refl c) (omega (arith, finding_less F p refl d, finding_down F p refl d (pointer n f p) refl c)))
      ]
]

pub found_finds : {n v : ℕ} {f : List ℕ} → Pointing n f → v < n → Finds n v f (found n v f).0 (found n v f).1
found_finds {n} {v} {f} P l =
    subst (λ (x : ℕ × List ℕ). Finds n v f x.0 x.1) (found_way n v f (in_is (length f) n v P.few_fragments P.long l))
    (way_finds (suc v) (finding_starts P l) (omega arith))

pub finds_by : {n v : ℕ} {f : List ℕ} (r : ℕ) (f' : List ℕ) → (r, f') ≡ found n v f → Pointing n f → v < n → Finds n v f r f'
finds_by {n} {v} {f} r f' e P l = subst (λ (x : ℕ × List ℕ). Finds n v f x.0 x.1) (sym e) (found_finds P l)
