-- What did not change, and what is then still known.
-- Assumes nothing.
use Rattle.std.specs.Prelude.{ℕ, ◌+◌, ◌-◌, ◌*◌, ◌≤◌, ◌<◌, min, ◌≡◌, refl, List, [], length, get_or, set, take, drop}
use Rattle.std.proofs.Common.{sym, ap, ◌∙◌, arith, length-set, length-take, length-drop, ext_get_or, get_or-set_other, get_or-take, get_or-drop}
use Rattle.state.specs.Layout.{stored, bare, forest_in}
use Rattle.state.proofs.Laws.Layout.{tables_frag_same}
use Rattle.testing.specs.Whole.{Whole}
use Rattle.testing.specs.Only.{Only}

pub only_refl : (a b : ℕ) (f : List ℕ) → Only a b f f
only_refl a b f = record { long = refl; before = λ i h. refl; behind = λ i h. refl }

pub only_trans : {a b : ℕ} {f g k : List ℕ} → Only a b f g → Only a b g k → Only a b f k
only_trans p q = record {
  long = q.long ∙ p.long;
  before = λ i h. q.before i h ∙ p.before i h;
  behind = λ i h. q.behind i h ∙ p.behind i h;
}

pub only_wider : {a b c d : ℕ} {f g : List ℕ} → c ≤ a → b ≤ d → Only a b f g → Only c d f g
only_wider h k p = record { long = p.long; before = λ i l. p.before i (omega arith); behind = λ i l. p.behind i (omega arith) }

pub only_set : (a b : ℕ) (f : List ℕ) (i x : ℕ) → a ≤ i → i < b → Only a b f (set f i x)
only_set a b f i x h k = record {
  long = length-set f i x;
  before = λ j l. get_or-set_other f i j x 0 (omega arith);
  behind = λ j l. get_or-set_other f i j x 0 (omega arith);
}

-- One store more.
pub only_more : {a b : ℕ} {f g : List ℕ} → Only a b f g → (i x : ℕ) → a ≤ i → i < b → Only a b f (set g i x)
only_more {a} {b} {f} {g} p i x h k = only_trans p (only_set a b g i x h k)

-- Parts of tables that are equal word by word.
pub take_by : (m : ℕ) (f g : List ℕ) → length g ≡ length f → ((i : ℕ) → i < m → get_or g i 0 ≡ get_or f i 0) → take m g ≡ take m f
take_by m f g l e =
    ext_get_or 0 (take m g) (take m f) (length-take m g ∙ ap (λ (k : ℕ). min m k) l ∙ sym (length-take m f)) (λ i h.
    let k : i < m = omega (arith, length-take m g) in
    get_or-take m g i 0 k ∙ e i k ∙ sym (get_or-take m f i 0 k))

pub drop_by : (m : ℕ) (f g : List ℕ) → length g ≡ length f → ((i : ℕ) → m ≤ i → get_or g i 0 ≡ get_or f i 0) → drop m g ≡ drop m f
drop_by m f g l e =
    ext_get_or 0 (drop m g) (drop m f) (length-drop m g ∙ ap (λ (k : ℕ). k - m) l ∙ sym (length-drop m f)) (λ i h.
    get_or-drop m g i 0 ∙ e (m + i) (omega arith) ∙ sym (get_or-drop m f i 0))

-- The forest stands in the first four sections.
module _ (n : ℕ) {a b : ℕ} {f g : List ℕ} (h : 4 * n ≤ a) (o : Only a b f g) where
  pub only_forest : forest_in n g ≡ forest_in n f
  only_forest = tables_frag_same (bare n) f g [] (take_by (stored * n) f g o.long (λ i l. o.before i (omega arith)))

  pub only_whole : Whole n f → Whole n g
  only_whole w = record { few = w.few; long = omega (arith, w.long, o.long); standing = rw only_forest w.standing; all = rw only_forest w.all }
