-- What lies behind the sections of every stage: the numbers of the forest where it is numbered, and scratch.
-- Assumes nothing.
use Rattle.std.specs.Prelude.{ℕ, suc, ◌+◌, ◌-◌, ◌*◌, ◌≤◌, ◌<◌, ◌≡◌, T, eqb, length, get_or, replicate}
use Rattle.std.proofs.Math.Path.{sym, ap}
use Rattle.std.proofs.Common.{◌∙◌, arith, length-take, length-drop, drop-drop, drop_at, ext_get_or}
use mathlib.Core.List.{List, ◌++◌, append_assoc}
use Rattle.std.proofs.Math.Dec.{eqb→eq}
use Rattle.std.proofs.Math.ListN.{take, drop, length-append}
use Rattle.std.proofs.lemmas.List.{length-replicate}
use Rattle.std.proofs.Math.Seq.{take_at}
use Rattle.base.specs.Pick.{pick_true, pick_false}
use Rattle.base.specs.Truth.{T_dec, T_true, T_false, and_l, and_r, and_intro, eq_to_eqb}
use Rattle.rules.specs.Search.{table}
use Rattle.rules.specs.Tables.{Tables}
use Rattle.rules.specs.Numbers.{turn, end, at_turn}
use Rattle.rules.proofs.Laws.Search.{every_at, every_intro, table_length, table_at}
use Rattle.rules.proofs.Laws.Tables.{SameForest}
use Rattle.rules.proofs.Laws.SameNumbers.{same_turn, same_end, same_at_turn}
use Rattle.state.specs.Layout.{words, stored, stored_in, section, turn_in, end_in, whose_in, numbers_of, behind}
use Rattle.state.specs.Test.{is_numbered, all_zero, numbered_at, numbers_fit}
use Rattle.state.proofs.Laws.Lists.{parts, all_zeros, zeros_pass}
use Rattle.state.proofs.Laws.Layout.{section_length}
use Rattle.state.proofs.Laws.Held.{asked_use, asked_make}
use Rattle.state.specs.declared.State.{State}
use Rattle.state.specs.declared.Stage.{Stage}

-- Parts laid one behind the other: the first section, and what lies behind it.
pub section_first : (n : ℕ) (p q : List ℕ) → length p ≡ n → section n 0 (p ++ q) ≡ p
unfolding section
section_first n p q e = let z : 0 * n ≡ 0 = omega arith in rw z (take_at p q n e)

pub drop_next : (n j : ℕ) (p q : List ℕ) → length p ≡ n → drop (suc j * n) (p ++ q) ≡ drop (j * n) q
drop_next n j p q e =
    let z : suc j * n ≡ n + j * n = omega arith in
    ap (λ i. drop i (p ++ q)) z ∙ sym (drop-drop (j * n) n (p ++ q)) ∙ ap (λ r. drop (j * n) r) (drop_at p q n e)

pub section_next : (n j : ℕ) (p q : List ℕ) → length p ≡ n → section n (suc j) (p ++ q) ≡ section n j q
unfolding section
section_next n j p q e = ap (λ r. take n r) (drop_next n j p q e)

past_three : (n : ℕ) (p q r a : List ℕ) → length p ≡ n → length q ≡ n → length r ≡ n → drop (3 * n) (p ++ (q ++ (r ++ a))) ≡ a
past_three n p q r a x y w =
    let z : 0 * n ≡ 0 = omega arith in
    drop_next n 2 p _ x ∙ drop_next n 1 q _ y ∙ drop_next n 0 r a w ∙ ap (λ i. drop i a) z

-- The words behind the sections of every stage.
abbrev pub rest : ℕ → List ℕ → List ℕ
rest n f = take ((words - stored) * n) (drop (stored * n) f)

section_table : (n j : ℕ) (f : List ℕ) (g : ℕ → ℕ) → suc j * n ≤ length f → ((v : ℕ) → v < n → get_or (section n j f) v 0 ≡ g v) → section n j f ≡ table g n
section_table n j f g l h =
    ext_get_or 0 (section n j f) (table g n) (section_length n f j l ∙ sym (table_length g n)) (λ v b. let c : v < n = omega (arith, section_length n f j l) in h v c ∙ sym (table_at g n v 0 c))

table_same : (n : ℕ) (f g : ℕ → ℕ) → ((v : ℕ) → v < n → f v ≡ g v) → table f n ≡ table g n
table_same n f g h = ext_get_or 0 (table f n) (table g n) (table_length f n ∙ sym (table_length g n)) (λ v b. let c : v < n = omega (arith, table_length f n) in table_at f n v 0 c ∙ h v c ∙ sym (table_at g n v 0 c))

module _ (n : ℕ) (t : Tables) where
  numbers_length : length (numbers_of n t) ≡ 3 * n
  unfolding numbers_of
  numbers_length = simp (length-append, table_length) (omega arith)

  module _ (g : Stage) where
    pub behind_numbered : T (is_numbered g) → behind g n t ≡ numbers_of n t ++ replicate (9 * n) 0
    unfolding behind stored_in
    behind_numbered b = rw (T_true (is_numbered g) b, pick_true, pick_true)

    pub behind_plain : (T (is_numbered g) → ⊥) → behind g n t ≡ replicate ((words - stored) * n) 0
    unfolding behind stored_in
    behind_plain b = rw (T_false (is_numbered g) b, pick_false, pick_false)

    pub behind_length : length (behind g n t) ≡ (words - stored) * n
    behind_length = elim (T_dec (is_numbered g)) [
      | yes b ↦ rw (behind_numbered b) (simp (length-append, length-replicate, numbers_length) (omega arith))
      | no b ↦ rw (behind_plain b) (length-replicate ((words - stored) * n) 0)
    ]

-- The numbers follow from the forest.
pub behind_same : {s t : Tables} → SameForest s t → (g : Stage) (n : ℕ) → behind g n s ≡ behind g n t
unfolding behind numbers_of
behind_same {s} {t} e g n = rw (
  table_same n (turn n s) (turn n t) (λ v b. same_turn e n v),
  table_same n (end n s) (end n t) (λ v b. same_end e n v),
  table_same n (at_turn n s) (at_turn n t) (λ v b. same_at_turn e n v),
)

-- Scratch that is 0 behind a forest that is not numbered.
pub plain_rest : (g : Stage) (n : ℕ) (t : Tables) (f : List ℕ) → (T (is_numbered g) → ⊥) → words * n ≤ length f → T (all_zero (rest n f)) → rest n f ≡ behind g n t
plain_rest g n t f b l z = all_zeros (rest n f) ((words - stored) * n) (simp (length-take, length-drop) (omega arith)) z ∙ sym (behind_plain n t g b)

pub plain_zero : (g : Stage) (n : ℕ) (t : Tables) (f : List ℕ) → (T (is_numbered g) → ⊥) → rest n f ≡ behind g n t → T (all_zero (rest n f))
plain_zero g n t f b e = rw (e, behind_plain n t g b) (zeros_pass ((words - stored) * n))

-- What the test asks of these words.
module _ (s : State) (t : Tables) (f : List ℕ) where
  abbrev n : ℕ
  n = s.n

  abbrev free : List ℕ
  free = take ((words - stored_in s.stage) * n) (drop (stored_in s.stage * n) f)

  abbrev Numbers : Type 0
  Numbers = (v : ℕ) → v < n → (turn_in n f v ≡ turn n t v) × (end_in n f v ≡ end n t v) × (whose_in n f v ≡ at_turn n t v)

  numbers_known : T (is_numbered s.stage) → T (numbers_fit s t f) → Numbers
  unfolding numbers_fit numbered_at
  numbers_known b x v l =
      let y = every_at (numbered_at n t f) n (asked_use (is_numbered s.stage) _ x b) v l in
      let z = and_r (eqb (turn_in n f v) (turn n t v)) _ y in (
        eqb→eq (turn_in n f v) (turn n t v) (and_l (eqb (turn_in n f v) (turn n t v)) _ y),
        eqb→eq (end_in n f v) (end n t v) (and_l (eqb (end_in n f v) (end n t v)) _ z),
        eqb→eq (whose_in n f v) (at_turn n t v) (and_r (eqb (end_in n f v) (end n t v)) _ z),
      )

  numbers_made : (T (is_numbered s.stage) → Numbers) → T (numbers_fit s t f)
  unfolding numbers_fit numbered_at
  numbers_made h = asked_make (is_numbered s.stage) _ (λ b. every_intro (numbered_at n t f) n (λ v l.
      let (x, y, z) = h b v l in
      and_intro (eqb (turn_in n f v) (turn n t v)) _ (eq_to_eqb (turn_in n f v) (turn n t v) x)
      (and_intro (eqb (end_in n f v) (end n t v)) _ (eq_to_eqb (end_in n f v) (end n t v) y) (eq_to_eqb (whose_in n f v) (at_turn n t v) z))))

  free_numbered : T (is_numbered s.stage) → free ≡ take (9 * n) (drop (7 * n) f)
  unfolding stored_in
  free_numbered b = rw (T_true (is_numbered s.stage) b, pick_true)

  free_plain : (T (is_numbered s.stage) → ⊥) → free ≡ rest n f
  unfolding stored_in
  free_plain b = rw (T_false (is_numbered s.stage) b, pick_false)

  module _ (l : words * n ≤ length f) where
    abbrev part : ℕ → List ℕ
    part j = section n j f

    long : (j : ℕ) → suc j * n ≤ 16 * n → length (part j) ≡ n
    long j h = section_length n f j (omega arith)

    free_long : length (take (9 * n) (drop (7 * n) f)) ≡ 9 * n
    free_long = simp (length-take, length-drop) (omega arith)

    rest_parts : rest n f ≡ part 4 ++ (part 5 ++ (part 6 ++ take (9 * n) (drop (7 * n) f)))
    unfolding section
    rest_parts =
        let free = take (9 * n) (drop (7 * n) f) in
        let all : drop (4 * n) f ≡ (part 4 ++ (part 5 ++ (part 6 ++ free))) ++ drop (16 * n) f =
        parts (4 * n) n (5 * n) f (omega arith) ∙ ap (λ r. part 4 ++ r)
        (parts (5 * n) n (6 * n) f (omega arith) ∙ ap (λ r. part 5 ++ r)
        (parts (6 * n) n (7 * n) f (omega arith) ∙ ap (λ r. part 6 ++ r)
        (parts (7 * n) (9 * n) (16 * n) f (omega arith))))
        ∙ rw (append_assoc, append_assoc, append_assoc) in
        ap (λ r. take (12 * n) r) all
        ∙ take_at (part 4 ++ (part 5 ++ (part 6 ++ free))) (drop (16 * n) f) (12 * n) (simp length-append (omega (arith, long 4 (omega arith), long 5 (omega arith), long 6 (omega arith), free_long)))

    pub behind_known : T (all_zero free) → T (numbers_fit s t f) → rest n f ≡ behind s.stage n t
    unfolding numbers_of
    behind_known z x = elim (T_dec (is_numbered s.stage)) [
      | yes b ↦
          let h = numbers_known b x in
          rw (
            behind_numbered n t s.stage b,
            append_assoc,
            append_assoc,
            ← section_table n 4 f (turn n t) (omega arith) (λ v l. (h v l).0),
            ← section_table n 5 f (end n t) (omega arith) (λ v l. (h v l).1),
            ← section_table n 6 f (at_turn n t) (omega arith) (λ v l. (h v l).2),
            ← all_zeros (take (9 * n) (drop (7 * n) f)) (9 * n) free_long (rw (free_numbered b) at z),
          ) rest_parts
      | no b ↦ plain_rest s.stage n t f b l (rw (free_plain b) at z)
    ]

    module _ (e : rest n f ≡ behind s.stage n t) (b : T (is_numbered s.stage)) where
      both : part 4 ++ (part 5 ++ (part 6 ++ take (9 * n) (drop (7 * n) f))) ≡ table (turn n t) n ++ (table (end n t) n ++ (table (at_turn n t) n ++ replicate (9 * n) 0))
      unfolding numbers_of
      both = sym rest_parts ∙ e ∙ rw (behind_numbered n t s.stage b, append_assoc, append_assoc)

      turns : part 4 ≡ table (turn n t) n
      turns = sym (section_first n (part 4) _ (long 4 (omega arith))) ∙ ap (section n 0) both ∙ section_first n (table (turn n t) n) _ (table_length (turn n t) n)

      ends : part 5 ≡ table (end n t) n
      ends =
          sym (section_next n 0 (part 4) _ (long 4 (omega arith)) ∙ section_first n (part 5) _ (long 5 (omega arith))) ∙ ap (section n 1) both
          ∙ section_next n 0 (table (turn n t) n) _ (table_length (turn n t) n) ∙ section_first n (table (end n t) n) _ (table_length (end n t) n)

      whose : part 6 ≡ table (at_turn n t) n
      whose =
          sym (section_next n 1 (part 4) _ (long 4 (omega arith)) ∙ section_next n 0 (part 5) _ (long 5 (omega arith)) ∙ section_first n (part 6) _ (long 6 (omega arith))) ∙ ap (section n 2) both
          ∙ section_next n 1 (table (turn n t) n) _ (table_length (turn n t) n) ∙ section_next n 0 (table (end n t) n) _ (table_length (end n t) n)
          ∙ section_first n (table (at_turn n t) n) _ (table_length (at_turn n t) n)

      pub numbered_zero : take (9 * n) (drop (7 * n) f) ≡ replicate (9 * n) 0
      numbered_zero =
          sym (past_three n (part 4) (part 5) (part 6) _ (long 4 (omega arith)) (long 5 (omega arith)) (long 6 (omega arith))) ∙ ap (λ r. drop (3 * n) r) both
          ∙ past_three n (table (turn n t) n) (table (end n t) n) (table (at_turn n t) n) _ (table_length (turn n t) n) (table_length (end n t) n) (table_length (at_turn n t) n)

      pub words_numbers : Numbers
      words_numbers v l = (
        ap (λ r. get_or r v 0) turns ∙ table_at (turn n t) n v 0 l,
        ap (λ r. get_or r v 0) ends ∙ table_at (end n t) n v 0 l,
        ap (λ r. get_or r v 0) whose ∙ table_at (at_turn n t) n v 0 l,
      )

    pub behind_made : rest n f ≡ behind s.stage n t → T (all_zero free) × T (numbers_fit s t f)
    behind_made e = (
      elim (T_dec (is_numbered s.stage)) [
        | yes b ↦ rw (free_numbered b, numbered_zero e b) (zeros_pass (9 * n))
        | no b ↦ rw (free_plain b) (plain_zero s.stage n t f b e)
      ],
      numbers_made (words_numbers e),
    )
