-- A table is laid out when its stored parts are what they say, its scratch is 0 and the words past its end are those found.
-- Assumes nothing.
use Rattle.std.specs.Prelude.{ℕ, ◌+◌, ◌-◌, ◌*◌, ◌≤◌, ◌<◌, ◌≡◌, List, ◌++◌, map, T, length, take, drop, replicate}
use Rattle.std.proofs.Common.{sym, ap, ◌∙◌, append_assoc, arith, length-take, length-drop, length-append, drop-drop, drop_at, take_at}
use Rattle.std.proofs.lemmas.List.{length-replicate}
use Rattle.rules.specs.Links.{linked}
use Rattle.rules.specs.Tables.{Tables}
use Rattle.state.specs.Layout.{words, stored, radix, section, link_in, word_of, tables_in, behind, frag_of, held_of}
use Rattle.state.specs.Test.{is_numbered, all_zero}
use Rattle.state.proofs.Laws.Lists.{length-map, parts, zeros_between, zeros_pass}
use Rattle.state.proofs.Laws.Words.{words_links, links_words}
use Rattle.state.proofs.Laws.Layout.{tables_are}
use Rattle.state.proofs.Laws.Behind.{section_first, section_next, drop_next, rest, behind_plain, behind_length}
use Rattle.state.specs.declared.State.{State}
use Rattle.state.specs.declared.Stage.{Stage}

-- The fragment table is its sections, what lies behind them and the words past its end.
frag_parts : (n : ℕ) (f : List ℕ) → words * n ≤ length f
    → f ≡ section n 0 f ++ (section n 1 f ++ (section n 2 f ++ (section n 3 f ++ (rest n f ++ drop (words * n) f))))
unfolding section
frag_parts n f l =
    let none : 0 ≡ 0 * n = omega arith in
    ap (λ a. drop a f) none ∙ parts (0 * n) n (1 * n) f (omega arith) ∙ ap (λ r. take n (drop (0 * n) f) ++ r)
    (parts (1 * n) n (2 * n) f (omega arith) ∙ ap (λ r. take n (drop (1 * n) f) ++ r)
    (parts (2 * n) n (3 * n) f (omega arith) ∙ ap (λ r. take n (drop (2 * n) f) ++ r)
    (parts (3 * n) n (4 * n) f (omega arith) ∙ ap (λ r. take n (drop (3 * n) f) ++ r)
    (parts (4 * n) (12 * n) (16 * n) f (omega arith)))))

-- The fragment table, from what lies behind its sections and the words past its end.
pub frag_laid : (s : State) (f f' h' : List ℕ) (t : Tables) → tables_in s f' h' ≡ t → words * s.n ≤ length f'
    → rest s.n f' ≡ behind s.stage s.n t → drop (words * s.n) f' ≡ drop (words * s.n) f
    → f' ≡ frag_of s.stage s.n t f
unfolding frag_of tables_in
frag_laid s f f' h' t e l z k = frag_parts s.n f' l ∙ rw (← e, ← k) (ap (λ r. section s.n 0 f' ++ (section s.n 1 f' ++ (section s.n 2 f' ++ (section s.n 3 f' ++ (r ++ drop (words * s.n) f'))))) (z ∙ ap (behind s.stage s.n) (sym e)))

-- The same where nothing but the sections of every stage changed.
pub frag_kept : (s : State) (f f' h' : List ℕ) (t : Tables) → tables_in s f' h' ≡ t → words * s.n ≤ length f'
    → rest s.n f ≡ behind s.stage s.n t → drop (stored * s.n) f' ≡ drop (stored * s.n) f
    → f' ≡ frag_of s.stage s.n t f
frag_kept s f f' h' t e l z k =
    frag_laid s f f' h' t e l (ap (λ r. take ((words - stored) * s.n) r) k ∙ z) (past f' ∙ ap (λ r. drop ((words - stored) * s.n) r) k ∙ sym (past f))
  where
    past : (g : List ℕ) → drop (words * s.n) g ≡ drop ((words - stored) * s.n) (drop (stored * s.n) g)
    past g = let e : words * s.n ≡ stored * s.n + (words - stored) * s.n = omega arith in ap (λ i. drop i g) e ∙ sym (drop-drop ((words - stored) * s.n) (stored * s.n) g)

-- Where the forest is not numbered the stage does not count.
pub frag_plain : (g j : Stage) (n : ℕ) (t : Tables) (f : List ℕ) → (T (is_numbered g) → ⊥) → (T (is_numbered j) → ⊥) → frag_of g n t f ≡ frag_of j n t f
unfolding frag_of
frag_plain g j n t f a b = rw (behind_plain n t g a, behind_plain n t j b)

-- The held table, from its unused words and the words past its end.
pub held_laid : (s : State) (f' h h' : List ℕ) (t : Tables) → tables_in s f' h' ≡ t → s.held ≤ s.k * s.n → s.k * s.n ≤ length h'
    → T (all_zero (drop s.held (take (s.k * s.n) h'))) → drop (s.k * s.n) h' ≡ drop (s.k * s.n) h
    → h' ≡ held_of s.n s.k t h
unfolding held_of tables_in
held_laid s f' h h' t e b l z k =
    let m : length (map link_in (take s.held h')) ≡ s.held = length-map link_in (take s.held h') ∙ simp length-take (omega arith) in
    rw (← e, ← k, words_links, m) (zeros_between s.held (s.k * s.n) h' b l z)

-- What is laid out is found again.
pub tables_laid : (s : State) (t : Tables) (f h : List ℕ) → length t.parent ≡ s.n → length t.level ≡ s.n → length t.note ≡ s.n → length t.mark ≡ s.n
    → s.held ≡ length t.held → ((u v : ℕ) → T (linked t.held u v) → v < radix) → s.crossed ≡ t.crossed
    → tables_in s (frag_of s.stage s.n t f) (held_of s.n s.k t h) ≡ t
unfolding frag_of held_of
tables_laid s t f h p l o m e b c =
    tables_are s _ _ t
    (section_first s.n t.parent _ p)
    (section_next s.n 0 t.parent _ p ∙ section_first s.n t.level _ l)
    (section_next s.n 1 t.parent _ p ∙ section_next s.n 0 t.level _ l ∙ section_first s.n t.note _ o)
    (section_next s.n 2 t.parent _ p ∙ section_next s.n 1 t.level _ l ∙ section_next s.n 0 t.note _ o ∙ section_first s.n t.mark _ m)
    (ap (map link_in) (take_at (map word_of t.held) _ s.held (length-map word_of t.held ∙ sym e)) ∙ links_words t.held b)
    c

-- What lies behind the sections, and that unused held words are 0, in what is laid out.
pub behind_laid : (g : Stage) (n : ℕ) (t : Tables) (f : List ℕ) → length t.parent ≡ n → length t.level ≡ n → length t.note ≡ n → length t.mark ≡ n
    → rest n (frag_of g n t f) ≡ behind g n t
unfolding frag_of
behind_laid g n t f p l o m =
    let z : 0 * n ≡ 0 = omega arith in
    let e : drop (4 * n) (frag_of g n t f) ≡ behind g n t ++ drop (16 * n) f =
    drop_next n 3 t.parent _ p ∙ drop_next n 2 t.level _ l ∙ drop_next n 1 t.note _ o ∙ drop_next n 0 t.mark _ m ∙ ap (λ i. drop i (behind g n t ++ drop (16 * n) f)) z in
    rw (e, take_at (behind g n t) (drop (16 * n) f) (12 * n) (behind_length n t g))

pub unused_laid : (n k : ℕ) (t : Tables) (h : List ℕ) (m : ℕ) → m ≡ length t.held → m ≤ k * n → T (all_zero (drop m (take (k * n) (held_of n k t h))))
unfolding held_of
unused_laid n k t h m e b =
    let d : length (map word_of t.held) ≡ m = length-map word_of t.held ∙ sym e in
    rw (← append_assoc, ← e, take_at (map word_of t.held ++ replicate (k * n - m) 0) (drop (k * n) h) (k * n) (simp (length-append, length-replicate, d) (omega arith)), drop_at (map word_of t.held) (replicate (k * n - m) 0) m d) (zeros_pass (k * n - m))

-- What is laid out is as long as what stood there.
pub frag_length : (g : Stage) (n : ℕ) (t : Tables) (f : List ℕ) → length t.parent ≡ n → length t.level ≡ n → length t.note ≡ n → length t.mark ≡ n
    → words * n ≤ length f → length (frag_of g n t f) ≡ length f
unfolding frag_of
frag_length g n t f p l o m b = simp (length-append, behind_length, length-drop) (omega arith)

pub held_length : (n k : ℕ) (t : Tables) (h : List ℕ) → length t.held ≤ k * n → k * n ≤ length h → length (held_of n k t h) ≡ length h
unfolding held_of
held_length n k t h b c = simp (length-append, length-map, length-replicate, length-drop) (omega arith)
