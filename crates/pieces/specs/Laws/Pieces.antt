-- The pieces in scratch: the words that say them, and the way to the smallest member.
-- Assumes nothing.
use Rattle.std.specs.Prelude.{ℕ, suc, ◌+◌, ◌-◌, ◌*◌, ◌≤◌, ◌<◌, ◌≡◌, refl, List, ◌≢◌, length, get_or, set, take, drop}
use Rattle.std.proofs.Common.{sym, ap, ◌∙◌, arith, length-set, get_or-set_same, get_or-set_other, get_or-take, get_or-drop, drop-set-lt}
use Rattle.std.proofs.Math.Decide.{ℕ_discrete}
use Rattle.std.proofs.lemmas.List.{take-set-le}
use Rattle.base.specs.Link.{Link}
use Rattle.rules.specs.Building.{pieces}
use Rattle.state.specs.Layout.{words, stored}
use Rattle.pieces.specs.Pieces.{Pointing, Gathered, Kept, Finds}

-- Words of a table that begins or goes on as another.
module _ (m : ℕ) (f f' : List ℕ) where
  pub front_at : take m f' ≡ take m f → (i : ℕ) → i < m → get_or f' i 0 ≡ get_or f i 0
  front_at e i l = sym (get_or-take m f' i 0 l) ∙ ap (λ r. get_or r i 0) e ∙ get_or-take m f i 0 l

  pub rest_at : drop m f' ≡ drop m f → (i : ℕ) → m ≤ i → get_or f' i 0 ≡ get_or f i 0
  rest_at e i l =
      let z : i ≡ m + (i - m) = omega arith in
      rw z (sym (get_or-drop m f' (i - m) 0) ∙ ap (λ r. get_or r (i - m) 0) e ∙ get_or-drop m f (i - m) 0)

-- Stores in the three sections leave the others.
pub kept_refl : (n : ℕ) (f : List ℕ) → Kept n f f
kept_refl n f = record { same_length = refl; before = refl; behind = refl }

pub kept_trans : {n : ℕ} {f g h : List ℕ} → Kept n f g → Kept n g h → Kept n f h
kept_trans k j = record { same_length = j.same_length ∙ k.same_length; before = j.before ∙ k.before; behind = j.behind ∙ k.behind }

pub kept_set : (n : ℕ) (f : List ℕ) (i x : ℕ) → stored * n ≤ i → i < 7 * n → Kept n f (set f i x)
kept_set n f i x h g = record {
  same_length = length-set f i x;
  before = take-set-le (stored * n) f i x h;
  behind = drop-set-lt (7 * n) f i x g;
}

-- The three sections say the pieces.
pub gathered_by : (n : ℕ) (held : List Link) (f f' : List ℕ) → length f' ≡ length f → ((i : ℕ) → stored * n ≤ i → i < 7 * n → get_or f' i 0 ≡ get_or f i 0) → Gathered n held f → Gathered n held f'
gathered_by n held f f' long same G = record {
  pointing = record {
    few_fragments = G.pointing.few_fragments;
    long = omega (arith, G.pointing.long);
    down = λ v l. omega (arith, same (4 * n + v) (omega arith) (omega arith), G.pointing.down v l);
  };
  few = G.few;
  inside = G.inside;
  first = λ v l e. G.first v l (sym (same (4 * n + v) (omega arith) (omega arith)) ∙ e);
  next = λ v u l e. G.next v u l (sym (same (4 * n + v) (omega arith) (omega arith)) ∙ e);
  size = λ p l e. ap suc (same (5 * n + p) (omega arith) (omega arith)) ∙ G.size p l e;
  links = λ p l e. same (6 * n + p) (omega arith) (omega arith) ∙ G.links p l e;
}

-- u is in v's piece, whatever links stand gathered.
abbrev pub Same : (n : ℕ) (f : List ℕ) (v u : ℕ) → Type 0
Same n f v u = (held : List Link) → Gathered n held f → get_or (pieces n held) u 0 ≡ get_or (pieces n held) v 0

-- A fragment points where p points, to which it pointed.
module _ (n : ℕ) (f : List ℕ) (u p x : ℕ) (hu : u < n) (ep : get_or f (4 * n + u) 0 ≡ suc p) (ex : get_or f (4 * n + p) 0 ≡ x) (some : x ≢ 0) where
  short_at_lem : words * n ≤ length f → get_or (set f (4 * n + u) x) (4 * n + u) 0 ≡ x
  short_at_lem l = get_or-set_same f (4 * n + u) x 0 (omega arith)

  short_other : (i : ℕ) → i ≢ 4 * n + u → get_or (set f (4 * n + u) x) i 0 ≡ get_or f i 0
  short_other i d = get_or-set_other f (4 * n + u) i x 0 d

  short_points : Pointing n f → Pointing n (set f (4 * n + u) x)
  short_points P = record {
    few_fragments = P.few_fragments;
    long = omega (arith, P.long, length-set f (4 * n + u) x);
    down = λ v l. elim (ℕ_discrete v u) [
      | yes e ↦ rw e (omega (arith, short_at_lem P.long, P.down u hu, P.down p (omega (arith, P.down u hu))))
      | no d ↦ omega (arith, short_other (4 * n + v) (λ e. d (omega arith)), P.down v l)
    ];
  }

  short_gathered : (held : List Link) → Gathered n held f → Gathered n held (set f (4 * n + u) x)
  short_gathered held G =
      let hp : p < n = omega (arith, G.pointing.down u hu) in
      let at-u : get_or (set f (4 * n + u) x) (4 * n + u) 0 ≡ x = short_at_lem G.pointing.long in
      let at-4 : (v : ℕ) → v ≢ u → get_or (set f (4 * n + u) x) (4 * n + v) 0 ≡ get_or f (4 * n + v) 0 = λ v d. short_other (4 * n + v) (λ e. d (omega arith)) in
      record {
        pointing = short_points G.pointing;
        few = G.few;
        inside = G.inside;
        first = λ v l e. elim (ℕ_discrete v u) [
          | yes d ↦ absurd (some (sym at-u ∙ (rw d at e)))
          | no d ↦ G.first v l (sym (at-4 v d) ∙ e)
        ];
        next = λ v w l e. elim (ℕ_discrete v u) [
          | yes d ↦ rw d (G.next p w hp (ex ∙ sym at-u ∙ (rw d at e)) ∙ G.next u p hu ep)
          | no d ↦ G.next v w l (sym (at-4 v d) ∙ e)
        ];
        size = λ r l e. rw (short_other (5 * n + r) (λ z. omega arith)) (G.size r l e);
        links = λ r l e. rw (short_other (6 * n + r) (λ z. omega arith)) (G.links r l e);
      }

-- The way from v to the smallest member has come to u.
pub record Finding (n v : ℕ) (f₀ : List ℕ) (u : ℕ) (f : List ℕ) : Type 0 where
  pub in_range : u < n
  pub same : Same n f₀ v u
  pub pointing : Pointing n f
  pub stays : (held : List Link) → Gathered n held f₀ → Gathered n held f
  pub kept : Kept n f₀ f

pub finding_starts : {n v : ℕ} {f : List ℕ} → Pointing n f → v < n → Finding n v f v f
finding_starts {n} {v} {f} P l = record { in_range = l; same = λ held G. refl; pointing = P; stays = λ held G. G; kept = kept_refl n f }

module _ {n v u : ℕ} {f₀ f : List ℕ} (F : Finding n v f₀ u f) where
  pub finding_ends : get_or f (4 * n + u) 0 ≡ 0 → Finds n v f₀ u f
  finding_ends e = record {
    label = λ held G. sym ((F.stays held G).first u F.in_range e) ∙ F.same held G;
    in_range = F.in_range;
    pointing = F.pointing;
    stays = F.stays;
    kept = F.kept;
  }

  -- One step on, to p, and from there another, to one less than x.
  module _ (p : ℕ) (e : p ≡ get_or f (4 * n + u) 0 - 1) (some : get_or f (4 * n + u) 0 ≢ 0) where
    pub finding_less : p < u
    finding_less = omega (arith, F.pointing.down u F.in_range)

    at_p : get_or f (4 * n + u) 0 ≡ suc p
    at_p = omega arith

    pub finding_next : Finding n v f₀ p f
    finding_next = record {
      in_range = omega (arith, finding_less, F.in_range);
      same = λ held G. (F.stays held G).next u p F.in_range at_p ∙ F.same held G;
      pointing = F.pointing;
      stays = F.stays;
      kept = F.kept;
    }

    module _ (x : ℕ) (ex : get_or f (4 * n + p) 0 ≡ x) (more : x ≢ 0) where
      pub finding_down : x ≤ p
      finding_down = omega (arith, F.pointing.down p finding_next.in_range)

      pub finding_on : Finding n v f₀ (x - 1) (set f (4 * n + u) x)
      finding_on = record {
        in_range = omega (arith, finding_next.in_range, finding_down);
        same = λ held G. (F.stays held G).next p (x - 1) finding_next.in_range (omega arith) ∙ finding_next.same held G;
        pointing = short_points n f u p x F.in_range at_p ex more F.pointing;
        stays = λ held G. short_gathered n f u p x F.in_range at_p ex more held (F.stays held G);
        kept = kept_trans F.kept (kept_set n f (4 * n + u) x (omega arith) (omega (arith, F.in_range)));
      }
