-- What did not change, and what is then still known: sections, labels, chains and arranged links.
-- Assumes nothing.
use Rattle.std.specs.Prelude.{ℕ, suc, ◌+◌, ◌-◌, ◌*◌, ◌≤◌, ◌<◌, ◌≡◌, refl, List, length, get_or, drop}
use Rattle.std.proofs.Common.{sym, ◌∙◌, arith, mul-le-mul_right, ext_get_or, get_or-drop}
use Rattle.state.specs.Layout.{section}
use Rattle.state.proofs.Laws.Layout.{section_length, section_at}
use Rattle.closing.specs.Arranged.{Arranged, Frame}
use Rattle.closing.specs.Closing.{Chained, Beside}
use Rattle.closing.specs.Walk.{Wide}
use Rattle.closing.specs.Laws.Members.{membered_by}
use Rattle.closing.specs.Laws.Walking.{arranged_kept}

-- Sections that are equal word by word.
pub section_by : (n j i : ℕ) (f g : List ℕ) → suc j * n ≤ length f → suc i * n ≤ length g → ((v : ℕ) → v < n → get_or f (j * n + v) 0 ≡ get_or g (i * n + v) 0) → section n j f ≡ section n i g
section_by n j i f g a b e =
    let l = section_length n f j a in
    ext_get_or 0 (section n j f) (section n i g) (l ∙ sym (section_length n g i b)) (λ v h.
    let k : v < n = omega arith in
    sym (section_at n f j (j * n + v) v refl k) ∙ e v k ∙ section_at n g i (i * n + v) v refl k)

-- Frames: what did not change.
pub frame_refl : (n from to : ℕ) (f : List ℕ) → Frame n from to f f
frame_refl n from to f = record { same_long = refl; within = λ i a b. refl; past = λ i a. refl }

pub frame_join : {n from to : ℕ} {f g k : List ℕ} → Frame n from to f g → Frame n from to g k → Frame n from to f k
frame_join A B = record {
  same_long = B.same_long ∙ A.same_long;
  within = λ i a b. B.within i a b ∙ A.within i a b;
  past = λ i a. B.past i a ∙ A.past i a;
}

-- Nothing changed but the first two sections.
pub low_frame : (n : ℕ) (f f' : List ℕ) → length f' ≡ length f → drop (2 * n) f' ≡ drop (2 * n) f → Frame n 2 14 f f'
low_frame n f f' l e = record { same_long = l; within = λ i a b. same i a; past = λ i a. same i (omega arith) }
  where
    same : (i : ℕ) → 2 * n ≤ i → get_or f' i 0 ≡ get_or f i 0
    same i a =
        let q : i ≡ 2 * n + (i - 2 * n) = omega arith in
        rw (q, ← get_or-drop (2 * n) f' (i - 2 * n) 0, ← get_or-drop (2 * n) f (i - 2 * n) 0, e)

pub narrow : {n : ℕ} {f f' : List ℕ} → Frame n 2 14 f f' → Beside n f f'
narrow F = record { same_long = F.same_long; within = λ i a b. F.within i a (omega arith); past = F.past }

pub wide_by : {n : ℕ} {f f' : List ℕ} → length f' ≡ length f → Wide n f → Wide n f'
wide_by e W = record { few = W.few; long = omega (arith, W.long) }

-- A section beside the forest, the places where it is saved and the cursors.
pub beside_section : {n : ℕ} {f f' : List ℕ} → Beside n f f' → (j : ℕ) → Wide n f → 2 ≤ j → suc j ≤ 12 → section n j f' ≡ section n j f
beside_section {n} {f} {f'} B j W a b =
    let l = mul-le-mul_right {m = 2} {n = j} n a in
    let g = mul-le-mul_right {m = suc j} {n = 12} n b in
    section_by n j j f' f (omega (arith, W.long, B.same_long)) (omega (arith, W.long)) (λ v h. B.within (j * n + v) (omega arith) (omega arith))

-- The chain of a piece looks only at the sections 7 and 8.
pub chained_by : {n p : ℕ} {f f' : List ℕ} → length f' ≡ length f → ((i : ℕ) → 7 * n ≤ i → i < 9 * n → get_or f' i 0 ≡ get_or f i 0) → Chained n p f → Chained n p f'
chained_by {n} {p} long e C = record {
  wide = wide_by long C.wide;
  membered = membered_by e C.membered;
  in_range = C.in_range;
  own = e (7 * n + p) (omega arith) (omega (arith, C.in_range)) ∙ C.own;
  least = λ v l q. C.least v l (sym (e (7 * n + v) (omega arith) (omega (arith, C.in_range))) ∙ q);
}

-- The arranged links look only at the sections 4 to 6.
pub arranged_beside : {n c : ℕ} {h₀ f f' h : List ℕ} → 0 < n → Beside n f f' → Arranged n c h₀ f h → Arranged n c h₀ f' h
arranged_beside some B A = arranged_kept A some _ B.same_long (λ i a b. B.within i (omega arith) (omega arith))
