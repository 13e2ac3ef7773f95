-- What a method of a range says of every number below its end, where a closure answers a test.
-- Assumes nothing.
use Prim.Native.Nat.{ℕ, zero, suc, ◌<◌}
use native.Mathlib.Omega.{arith}
use mathlib.Core.Bool.{Bool, true, false, cond}
use mathlib.Core.List.{List, [], ◌∷◌, ◌++◌, map, map-id}
use mathlib.Core.Path.{◌≡◌, refl, sym, subst, ap, ◌∙◌}
use lib.ListN.{length, get_or, length-append}
use denote.Param.Members.{Mut}
use denote.Ref.{Bor}
use Rattle.std.specs.Prelude.{T}
use Rattle.std.proofs.Common.{add-one}
use Rattle.std.specs.declared.ops.Range.{Range}
use Rattle.std.specs.declared.iter.Filter.{Filter}
use Rattle.std.specs.Bool.{MatchBool}
use Rattle.std.specs.Fn.{Called, CalledAt}
use Rattle.std.specs.Iterator.{YieldsThen, Drains}
use Rattle.std.specs.Iterator.Adapters.{filter_source, filter_callee, filter_steps}
use Rattle.std.specs.List.{range_with_len, filter, FoldsTo, AllWithin, HoldsAt}
use Rattle.std.specs.Option.{MatchOption}
use Rattle.std.specs.declared.option.Option.{Option}
use Rattle.std.proofs.iter.Yields.{nat_range_steps}
use Rattle.std.proofs.lemmas.Iterator.{cases_from_all, YieldsList-from_range}
use Rattle.std.proofs.lemmas.Iterator.Consumers.{YieldsList-from_filter, count_from_yields_List}
use Rattle.std.proofs.lemmas.List.FromFn.{length-range_with_len, get_or-range_with_len, filter_of_map_range_with_len_more}
use Rattle.base.specs.Truth.{T_true, T_false, true_T, false_T}
use Rattle.rules.specs.Search.{count, every}
use Rattle.rules.proofs.Laws.Search.{every_at, every_intro}

-- `all` over a range from 0, whose closure says Yes or No of each number and stays as it was where it goes on.
pub cases_from_range : {F : Type 0} {g : Mut F (ℕ × Unit {0}) Bool} {s : Range ℕ} (u : Range ℕ) (f : F) (r : Bool) (Yes No : ℕ → Type 0) (n : ℕ)
    → (xs : List ℕ) × (o : Option ℕ) × (j : F) × YieldsThen nat_range_steps s xs o u × FoldsTo (λ k v q. Called g k (v, tt) true q) f xs j × MatchOption o (r ≡ true) (λ v. (r ≡ false) × ((h : F) × Called g j (v, tt) false h))
    → s ≡ record { start = 0; end = n } → ((v : ℕ) (q : F) → Called g f (v, tt) true q → (q ≡ f) × Yes v) → ((v : ℕ) (q : F) → Called g f (v, tt) false q → No v)
    → MatchBool r ((v : ℕ) → v < n → Yes v) ((v : ℕ) × (v < n) × No v)
cases_from_range u f r Yes No n d e yes' no' = told r (cases_from_all u f r Yes No d (YieldsList-from_range 0 n n e (omega arith)) yes' no')
  where
    all : List ℕ
    all = range_with_len 0 n

    at : (v : ℕ) → v < n → get_or all v 0 ≡ v
    at v l = omega (arith, get_or-range_with_len 0 n v 0 l)

    long : length all ≡ n
    long = length-range_with_len 0 n

    told : (b : Bool) → MatchBool b (AllWithin Yes all 0 (length all)) ((v : ℕ) × (v < length all) × HoldsAt No all v) → MatchBool b ((v : ℕ) → v < n → Yes v) ((v : ℕ) × (v < n) × No v)
    told true h = λ v l. subst Yes (at v l) (h v 0 (omega arith) (omega (arith, long)))
    told false h = let l : h.0 < n = omega (arith, long, h.1) in (h.0, l, subst No (at h.0 l) (h.2 0))

-- The same where the closure answers a test.
pub every_from_all : {F : Type 0} {g : Mut F (ℕ × Unit {0}) Bool} {s : Range ℕ} (u : Range ℕ) (f : F) (r : Bool) (p : ℕ → Bool) (n : ℕ)
    → (xs : List ℕ) × (o : Option ℕ) × (j : F) × YieldsThen nat_range_steps s xs o u × FoldsTo (λ k v q. Called g k (v, tt) true q) f xs j × MatchOption o (r ≡ true) (λ v. (r ≡ false) × ((h : F) × Called g j (v, tt) false h))
    → s ≡ record { start = 0; end = n } → ((v : ℕ) (b : Bool) (q : F) → Called g f (v, tt) b q → (q ≡ f) × (b ≡ p v)) → r ≡ every p n
every_from_all u f r p n d e tests = told r (cases_from_range u f r (λ v. T (p v)) (λ v. T (p v) → ⊥) n d e
    (λ v q k. let t = tests v true q k in (t.0, true_T (p v) (sym t.1)))
    (λ v q k. false_T (p v) (sym (tests v false q k).1)))
  where
    told : (b : Bool) → MatchBool b ((v : ℕ) → v < n → T (p v)) ((v : ℕ) × (v < n) × (T (p v) → ⊥)) → b ≡ every p n
    told true h = sym (T_true (every p n) (every_intro p n h))
    told false h = sym (T_false (every p n) (λ t. h.2 (every_at p n t h.0 h.1)))

-- Counting from below, as the range goes.
grown : (b : Bool) (l : List ℕ) (v : ℕ) → length (l ++ cond b (v ∷ []) []) ≡ cond b (suc (length l)) (length l)
grown true l v = omega (arith, length-append l (v ∷ []))
grown false l v = omega (arith, length-append {A = ℕ} l [])

counted : (p : ℕ → Bool) (n : ℕ) → length (filter p (map (λ v. v) (range_with_len 0 n))) ≡ count p n
unfolding count
counted p zero = refl
counted p (suc n) =
    let e = filter_of_map_range_with_len_more p (λ (v : ℕ). v) 0 n n (omega arith) in
    ap length (rw add-one at e) ∙ grown (p n) _ n ∙ ap (λ k. cond (p n) (suc k) k) (counted p n)

-- `filter` and `count` over a range from 0, whose closure answers p and stays as it was.
pub count_from_filter : {F : Type 0} {g : Mut F (Bor ℕ × Unit {0}) Bool} {s : Filter (Range ℕ) F} {f : F} (r : ℕ) (p : ℕ → Bool) (n : ℕ)
    → (xs : List ℕ) × Drains (filter_steps nat_range_steps g) s xs × (r ≡ length xs)
    → filter_source s ≡ record { start = 0; end = n } → filter_callee s ≡ f → ((v : ℕ) (b : Bool) (q : F) → CalledAt g f v b q → (q ≡ f) × (b ≡ p v)) → r ≡ count p n
count_from_filter {g = g} r p n d e h tests =
    count_from_yields_List _ r d (YieldsList-from_filter g p (YieldsList-from_range 0 n n e (omega arith)) h tests) ∙ ap (λ l. length (filter p l)) (sym (map-id (range_with_len 0 n))) ∙ counted p n
