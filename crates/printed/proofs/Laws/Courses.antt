-- What a course comes to: that it ends, and that what it reports is true of the list that was read last.
-- Assumes nothing.
use Prim.Native.Nat.{ℕ, suc, ◌+◌, ◌<◌, ◌≤◌}
use Rattle.std.specs.Prelude.{Bool, not, ◌⊎◌, ◌≡◌, length, drop}
use Rattle.std.proofs.Math.Bool.{true, false}
use mathlib.Core.List.{List, [], ◌∷◌, ◌++◌}
use Rattle.std.proofs.Math.Logic.{inl, inr}
use Rattle.std.proofs.Math.Path.{refl, sym, ap, subst}
use Rattle.std.proofs.Common.{◌∙◌, arith, suc-mul, mul-one, mul-le-mul_left, le-div_iff_mul-le}
use Rattle.std.proofs.Math.Decide.{ℕ_discrete, dec_le}
use borrow.Author.Tests.{eq-eqb, ne_eqb}
use Rattle.std.proofs.Math.Dec.{T}
use Rattle.std.proofs.Math.ListN.{length-append}
use Rattle.base.specs.Pick.{pick_true, pick_false, pick_all}
use Rattle.base.specs.Answer.{Answer, gives, refuses}
use Rattle.base.specs.Truth.{T_dec, T_true, T_false}
use Rattle.base.specs.Link.{Link}
use Rattle.numbers.specs.Number.{Numeral, read_number}
use Rattle.lists.specs.List.{fragments_most, entries_most, block_links}
use Rattle.lists.specs.Theorems.{accepted_sound, accepted_count}
use Rattle.rules.specs.Links.{Links, linked, Among, Tells, Each}
use Rattle.rules.specs.Tables.{Tables, parent_of, placed, fresh, clear_notes, cleared}
use Rattle.rules.specs.Building.{done, pass, passes, ceiling}
use Rattle.rules.specs.Reading.{read_links, accepted}
use Rattle.rules.specs.Facts.{Standing, Rested}
use Rattle.rules.proofs.Laws.Append.{passes_snoc, each_snoc, passes_stand, unheld_cleared}
use Rattle.rules.proofs.Laws.Search.{every_at}
use Rattle.rules.proofs.Laws.Tables.{same_par, same_parent_of, placed_loose, fresh_loose, fresh_standing, fresh_rested}
use Rattle.rules.proofs.Laws.Reading.{read_forest}
use Rattle.rules.proofs.Theorems.{finished_forest, passes_within, forest_accepts, reading_accepts, sole_by_removal, cut_by_removal, piece_by_removal}
use Rattle.state.specs.Call.{bounds_refusal}
use Rattle.state.proofs.Laws.Bounds.{bounds_known}
use Rattle.state.proofs.Laws.KeepsTables.{among_links}
use Rattle.lines.specs.Report.{report_lines}
use Rattle.lines.specs.Theorems.{report_fits}
use Rattle.parts.specs.Parts.{place_in}
use Rattle.printed.specs.Printed.{Lent, Course, unread, again, reported, refused_at, enters, closes_building, closes_reading, closes, closes_or, tells, headed_by, over_pass, course_from, course}
use Rattle.printed.specs.Claims.{ListFile, ended, Same, AllTell, TrueReport, LastRead}

-- After what was printed nothing more is.
ended_reported : (w : Lent) (lines : List ℕ) (bs : List (List ℕ)) → course_from w (reported lines) bs ≡ reported lines
unfolding course_from over_pass
ended_reported w lines [] = refl
ended_reported w lines (b ∷ bs) = ended_reported w lines bs

ended_refused : (w : Lent) (number place : ℕ) (bs : List (List ℕ)) → course_from w (refused_at number place) bs ≡ refused_at number place
unfolding course_from over_pass
ended_refused w number place [] = refl
ended_refused w number place (b ∷ bs) = ended_refused w number place bs

-- What kind of course it is, so that two kinds are not one.
abbrev is_reported : Course → Bool
is_reported unread = false
is_reported (again r n p t) = false
is_reported (reported lines) = true
is_reported (refused_at number place) = false

no_report : (c : Course) (lines : List ℕ) → T (not (is_reported c)) → c ≡ reported lines → ⊥
no_report c lines k e = subst (λ (x : Course). T (not (is_reported x))) e k

reported_same : (a b : List ℕ) → reported a ≡ reported b → a ≡ b
reported_same a b e = cc

file_among : {n : ℕ} {g : List Link} {bytes : List ℕ} → ListFile n g bytes → Among n (linked g)
file_among {n} {g} {bytes} F = among_links n g (accepted_sound n 0 (drop F.head.next bytes) g F.links)

file_count : {n : ℕ} {g : List Link} {bytes : List ℕ} → ListFile n g bytes → length g ≤ entries_most
file_count {n} {g} {bytes} F = accepted_count n 0 (drop F.head.next bytes) g F.links

-- A pass over a list file, and over any bytes.
module _ (w : Lent) where
  file_over : (r : Bool) (n p : ℕ) (t : Tables) (g : List Link) (bytes : List ℕ) → ListFile n g bytes → over_pass w (again r n p t) bytes ≡ closes w.k r n p t g
  unfolding over_pass headed_by enters tells closes_or
  file_over r n p t g bytes F = rw (F.heads, eq-eqb F.head.value n F.has, pick_true, F.links) refl

  file_first : (n : ℕ) (g : List Link) (bytes : List ℕ) → ListFile n g bytes → bounds_refusal n w.k w.frags w.helds ≡ 0 → over_pass w unread bytes ≡ closes w.k false n 0 (fresh n) g
  unfolding over_pass headed_by enters tells closes_or
  file_first n g bytes F z = rw (F.heads, F.has, z, pick_true, F.links) refl

  abbrev Over : (r : Bool) (n p : ℕ) → Tables → List ℕ → Course → Type 0
  Over r n p t bytes c = ((number : ℕ) × (place : ℕ) × (c ≡ refused_at number place)) ⊎ ((g : List Link) × ListFile n g bytes × (c ≡ closes w.k r n p t g))

  over_links : (r : Bool) (n p : ℕ) (t : Tables) (bytes : List ℕ) (a : Numeral) → read_number bytes 0 ≡ gives a → a.value ≡ n → (x : Answer (List Link)) → block_links n 0 (drop a.next bytes) ≡ x
      → (c : Course) → c ≡ closes_or w.k a.next r n p t x → Over r n p t bytes c
  unfolding closes_or
  over_links r n p t bytes a e d (gives g) l c q = inr (g, record { head = a; heads = e; has = d; links = l }, q)
  over_links r n p t bytes a e d (refuses number place) l c q = inl (number, place_in a.next number place, q)

  over_head : (r : Bool) (n p : ℕ) (t : Tables) (bytes : List ℕ) (x : Answer Numeral) → read_number bytes 0 ≡ x → Over r n p t bytes (over_pass w (again r n p t) bytes)
  unfolding over_pass headed_by enters tells
  over_head r n p t bytes (refuses number place) e = rw e (inl (number, place, refl))
  over_head r n p t bytes (gives a) e = elim (ℕ_discrete a.value n) [
    | yes d ↦ rw (e, eq-eqb a.value n d, pick_true) (over_links r n p t bytes a e d (block_links n 0 (drop a.next bytes)) refl _ refl)
    | no d ↦ rw (e, ne_eqb a.value n d, pick_false) (inl (9, 0, refl))
  ]

  over_any : (r : Bool) (n p : ℕ) (t : Tables) (bytes : List ℕ) → Over r n p t bytes (over_pass w (again r n p t) bytes)
  over_any r n p t bytes = over_head r n p t bytes (read_number bytes 0) refl

-- No more passes than fragments.
ceiling_most : (n k : ℕ) → 1 ≤ n → 1 ≤ k → ceiling n k ≤ n
ceiling_most n k l pos = elim (dec_le (suc n) (ceiling n k)) [
  | yes h ↦ absurd (omega (arith, (le-div_iff_mul-le pos).0 h, suc-mul n k, mul-le-mul_left n pos, mul-one n))
  | no h ↦ omega arith
]

-- The parents of a table that stands, with nothing unplaced.
parent_inside : (n : ℕ) (t : Tables) → Standing n t → T (done n t) → (v : ℕ) → v < n → parent_of t v < n
unfolding done
parent_inside n t S d v l = elim (S.stands v l (every_at (placed t) n d v l)) [ inl (e, r) ↦ omega arith | inr (h, x, y) ↦ h ]

-- A table that stands, and a list of which reading accepts it: the report is true of the list.
module _ (n p : ℕ) (t : Tables) (g : List Link) (S : Standing n t) (R : Rested n t) (A : Among n (linked g)) where
  abbrev read_tables : Tables
  read_tables = read_links (cleared n t) g

  true_report : T (done n t) → n ≤ fragments_most → length g ≤ entries_most → p ≤ fragments_most → T (accepted n read_tables) → TrueReport n g (report_lines n (length g) p read_tables)
  true_report d few many times x = record {
    passes = p;
    tables = read_tables;
    as_lines = refl;
    forest = rw (same_par (read_forest S g A)) ((reading_accepts n t g S A).0 x);
    piece_true = piece_by_removal n t g S A x;
    sole_true = sole_by_removal n t g S A x;
    cut_true = cut_by_removal n t g S A x;
    fits = report_fits n (length g) p read_tables few many (omega arith) (λ v l. rw (same_parent_of (read_forest S g A) v) (parent_inside n t S d v l));
  }

  opened_tables : clear_notes n t ≡ cleared n t
  opened_tables = unheld_cleared n t R.no_held

  -- What closing the reading pass comes to.
  read_true : (k : ℕ) → T (accepted n read_tables) → closes k true n p (clear_notes n t) g ≡ reported (report_lines n (length g) p read_tables)
  unfolding closes closes_reading
  read_true k x = rw (opened_tables, T_true (accepted n read_tables) x) (pick_true _ _)

  read_false : (k : ℕ) → (T (accepted n read_tables) → ⊥) → closes k true n p (clear_notes n t) g ≡ refused_at 9 0
  unfolding closes closes_reading
  read_false k x = rw (opened_tables, T_false (accepted n read_tables) x) (pick_false _ _)

-- What closing a building pass comes to.
module _ (k n p : ℕ) (t : Tables) (g : List Link) where
  build_done : T (done n (pass n k t g)) → closes k false n p t g ≡ again true n (suc p) (clear_notes n (pass n k t g))
  unfolding closes closes_building
  build_done d = rw (T_true (done n (pass n k t g)) d) (pick_true _ _)

  build_more : (T (done n (pass n k t g)) → ⊥) → closes k false n p t g ≡ again false n (suc p) (pass n k t g)
  unfolding closes closes_building
  build_more d = rw (T_false (done n (pass n k t g)) d) (pick_false _ _)

-- Passes that told lists of links of n fragments.
abbrev Built : (n k : ℕ) → List (List Link) → Tables
Built n k gs = passes n k (fresh n) gs

built_stands : (n k : ℕ) → 1 ≤ k → (gs : List (List Link)) → Each (λ g. Among n (linked g)) gs → Standing n (Built n k gs) × Rested n (Built n k gs)
built_stands n k pos gs a = passes_stand pos (fresh n) gs (fresh_standing n) (fresh_rested n) a

tells_among : (n : ℕ) (E : Links) → Among n E → (gs : List (List Link)) → Each (Tells E) gs → Each (λ g. Among n (linked g)) gs
tells_among n E among [] e = tt
tells_among n E among (g ∷ gs) (x, e) = (λ u v t. among u v (rw (x u v) at t), tells_among n E among gs e)

from_more : (w : Lent) (c : Course) (b : List ℕ) (bs : List (List ℕ)) → course_from w c (b ∷ bs) ≡ course_from w (over_pass w c b) bs
unfolding course_from
from_more w c b bs = refl

-- Whatever was told: a report is true of the list that was read last.
module _ (w : Lent) (n : ℕ) (pos : 1 ≤ w.k) (some : 1 ≤ n) (few : n ≤ fragments_most) where
  abbrev Tables_of : List (List Link) → Tables
  Tables_of gs = Built n w.k gs

  last_more : {b : List ℕ} {bs : List (List ℕ)} {lines : List ℕ} → LastRead bs lines → LastRead (b ∷ bs) lines
  last_more {b} {bs} L = record { before = b ∷ L.before; last = L.last; after = L.after; all = ap (λ (x : List (List ℕ)). b ∷ x) L.all; n = L.n; g = L.g; listed = L.listed; true_of_it = L.true_of_it }

  -- The reading pass.
  reads_truly : (gs : List (List Link)) → Each (λ g. Among n (linked g)) gs → T (done n (Tables_of gs)) → (p : ℕ) → p ≤ fragments_most → (bs : List (List ℕ)) (lines : List ℕ) → course_from w (again true n p (clear_notes n (Tables_of gs))) bs ≡ reported lines → LastRead bs lines
  unfolding course_from
  reads_truly gs A whole p times [] lines e = absurd (no_report (again true n p (clear_notes n (Tables_of gs))) lines tt e)
  reads_truly gs A whole p times (b ∷ bs) lines e = go (over_any w true n p (clear_notes n (Tables_of gs)) b)
    where
      go : Over w true n p (clear_notes n (Tables_of gs)) b (over_pass w (again true n p (clear_notes n (Tables_of gs))) b) → LastRead (b ∷ bs) lines
      go (inl (number, place, x)) = absurd (no_report (refused_at number place) lines tt (sym (ended_refused w number place bs) ∙ ap (λ (c : Course). course_from w c bs) (sym x) ∙ e))
      go (inr (g, F, x)) =
          let (S, R) = built_stands n w.k pos gs A in
          let t = Tables_of gs in
          elim (T_dec (accepted n (read_links (cleared n t) g))) [
            | no d ↦ absurd (no_report (refused_at 9 0) lines tt (sym (ended_refused w 9 0 bs) ∙ ap (λ (c : Course). course_from w c bs) (sym (x ∙ read_false n p t g S R (file_among F) w.k d)) ∙ e))
            | yes d ↦
                let q = report_lines n (length g) p (read_links (cleared n t) g) in
                let y : q ≡ lines = reported_same q lines (sym (ended_reported w q bs) ∙ ap (λ (c : Course). course_from w c bs) (sym (x ∙ read_true n p t g S R (file_among F) w.k d)) ∙ e) in
                record { before = []; last = b; after = bs; all = refl; n = n; g = g; listed = F; true_of_it = subst (TrueReport n g) y (true_report n p t g S R (file_among F) whole few (file_count F) times d) }
          ]

  builds_truly : (bs : List (List ℕ)) (gs : List (List Link)) → Each (λ g. Among n (linked g)) gs → (T (done n (Tables_of gs)) → ⊥) → (p : ℕ) → p ≡ length gs → (lines : List ℕ) → course_from w (again false n p (Tables_of gs)) bs ≡ reported lines → LastRead bs lines
  unfolding course_from
  builds_truly [] gs A u p q lines e = absurd (no_report (again false n p (Tables_of gs)) lines tt e)
  builds_truly (b ∷ bs) gs A u p q lines e = elim (over_any w false n p (Tables_of gs) b) [
    | inl (number, place, x) ↦ absurd (no_report (refused_at number place) lines tt (sym (ended_refused w number place bs) ∙ ap (λ (c : Course). course_from w c bs) (sym x) ∙ e))
    | inr (g, F, x) ↦
        let more = each_snoc (λ h. Among n (linked h)) gs g A (file_among F) in
        let t : pass n w.k (Tables_of gs) g ≡ Tables_of (gs ++ (g ∷ [])) = sym (passes_snoc n w.k (fresh n) gs g) in
        let long = length-append gs (g ∷ []) in
        let times : suc p ≤ fragments_most = omega (arith, (passes_within n w.k gs g pos A u).0, long, ceiling_most n w.k some pos) in
        elim (T_dec (done n (pass n w.k (Tables_of gs) g))) [
          | yes d ↦
              let y = x ∙ build_done w.k n p (Tables_of gs) g d ∙ ap (λ (z : Tables). again true n (suc p) (clear_notes n z)) t in
              last_more (reads_truly (gs ++ (g ∷ [])) more (subst (λ (i : Tables). T (done n i)) t d) (suc p) times bs lines (ap (λ (c : Course). course_from w c bs) (sym y) ∙ e))
          | no d ↦
              let y = x ∙ build_more w.k n p (Tables_of gs) g d ∙ ap (again false n (suc p)) t in
              last_more (builds_truly bs (gs ++ (g ∷ [])) more (λ z. d (subst (λ (i : Tables). T (done n i)) (sym t) z)) (suc p) (omega arith) lines (ap (λ (c : Course). course_from w c bs) (sym y) ∙ e))
        ]
  ]

-- Where every pass tells the set E: it is reported, on a list that tells E.
module _ (w : Lent) (n : ℕ) (pos : 1 ≤ w.k) (some : 1 ≤ n) (few : n ≤ fragments_most) (E : Links) (among : Among n E) where
  abbrev Reports : Course → Type 0
  Reports c = (lines : List ℕ) × (c ≡ reported lines) × (g : List Link) × Tells E g × TrueReport n g lines

  -- Once it is built, the reading pass accepts.
  reads_reports : (gs : List (List Link)) → Each (Tells E) gs → T (done n (Built n w.k gs)) → (p : ℕ) → p ≤ fragments_most → (b : List ℕ) (bs : List (List ℕ)) (g : List Link) → ListFile n g b → Tells E g
      → Reports (course_from w (again true n p (clear_notes n (Built n w.k gs))) (b ∷ bs))
  reads_reports gs e d p times b bs g F t =
      let T' = Built n w.k gs in
      let (S, R) = built_stands n w.k pos gs (tells_among n E among gs e) in
      let D = finished_forest n w.k E gs pos among e d in
      let x = forest_accepts n E among T' g S D t in
      let q = report_lines n (length g) p (read_links (cleared n T') g) in
      let y = from_more w (again true n p (clear_notes n T')) b bs ∙ ap (λ (c : Course). course_from w c bs) (file_over w true n p (clear_notes n T') g b F ∙ read_true n p T' g S R (file_among F) w.k x) ∙ ended_reported w q bs in
      (q, y, g, t, true_report n p T' g S R (file_among F) d few (file_count F) times x)

  builds_reports : (bs : List (List ℕ)) (gs : List (List Link)) → Each (Tells E) gs → (T (done n (Built n w.k gs)) → ⊥) → AllTell n E bs → suc (ceiling n w.k) ≤ length gs + length bs → (p : ℕ) → p ≡ length gs
      → Reports (course_from w (again false n p (Built n w.k gs)) bs)
  builds_reports [] gs e u a l p q =
      absurd (omega (arith, length-append gs ([] ∷ []), (passes_within n w.k gs [] pos (tells_among n E among gs e) u).0))
  builds_reports (b ∷ bs) gs e u ((g, F, t), a) l p q =
      let most = (passes_within n w.k gs g pos (tells_among n E among gs e) u).0 in
      let long = length-append gs (g ∷ []) in
      let times : suc p ≤ fragments_most = omega (arith, most, long, ceiling_most n w.k some pos) in
      let more = each_snoc (Tells E) gs g e t in
      let z : pass n w.k (Built n w.k gs) g ≡ Built n w.k (gs ++ (g ∷ [])) = sym (passes_snoc n w.k (fresh n) gs g) in
      let first = from_more w (again false n p (Built n w.k gs)) b bs in
      let over = file_over w false n p (Built n w.k gs) g b F in
      elim (T_dec (done n (pass n w.k (Built n w.k gs) g))) [
        | yes d ↦
            let y = over ∙ build_done w.k n p (Built n w.k gs) g d ∙ ap (λ (i : Tables). again true n (suc p) (clear_notes n i)) z in
            subst Reports (sym (first ∙ ap (λ (c : Course). course_from w c bs) y))
            (rest bs a (omega arith) (gs ++ (g ∷ [])) more (subst (λ (i : Tables). T (done n i)) z d) (suc p) times)
        | no d ↦
            let y = over ∙ build_more w.k n p (Built n w.k gs) g d ∙ ap (again false n (suc p)) z in
            subst Reports (sym (first ∙ ap (λ (c : Course). course_from w c bs) y))
            (builds_reports bs (gs ++ (g ∷ [])) more (λ x. d (subst (λ (i : Tables). T (done n i)) (sym z) x)) a (omega arith) (suc p) (omega arith))
      ]
    where
      rest : (bs : List (List ℕ)) → AllTell n E bs → 1 ≤ length bs → (gs : List (List Link)) → Each (Tells E) gs → T (done n (Built n w.k gs)) → (p : ℕ) → p ≤ fragments_most
          → Reports (course_from w (again true n p (clear_notes n (Built n w.k gs))) bs)
      rest [] a l gs e d p times = absurd (omega arith)
      rest (b ∷ bs) ((g, F, t), a) l gs e d p times = reads_reports gs e d p times b bs g F t

-- The first pass.
abbrev Begins : Lent → List ℕ → Course → Type 0
Begins w bytes c =
    ((number : ℕ) × (place : ℕ) × (c ≡ refused_at number place))
    ⊎ ((a : Numeral) × (read_number bytes 0 ≡ gives a) × (bounds_refusal a.value w.k w.frags w.helds ≡ 0) × (c ≡ over_pass w (again false a.value 0 (fresh a.value)) bytes))

begins_head : (w : Lent) (bytes : List ℕ) (x : Answer Numeral) → read_number bytes 0 ≡ x → Begins w bytes (over_pass w unread bytes)
unfolding over_pass headed_by enters tells
begins_head w bytes (refuses number place) e = rw e (inl (number, place, refl))
begins_head w bytes (gives a) e =
    let r = bounds_refusal a.value w.k w.frags w.helds in
    elim (ℕ_discrete r 0) [
      | yes z ↦ inr (a, e, z, rw (e, eq-eqb r 0 z, pick_true, eq-eqb a.value a.value refl, pick_true) refl)
      | no z ↦ inl (r, 0, rw (e, ne_eqb r 0 z, pick_false) refl)
    ]

fresh_undone : (n : ℕ) → 1 ≤ n → T (done n (fresh n)) → ⊥
unfolding done
fresh_undone n l d = placed_loose (fresh n) 0 (every_at (placed (fresh n)) n d 0 (omega arith)) (fresh_loose n 0)

pub reports_truly : (w : Lent) (bs : List (List ℕ)) (lines : List ℕ) → course w bs ≡ reported lines → LastRead bs lines
unfolding course course_from passes
reports_truly w [] lines e = absurd (no_report unread lines tt e)
reports_truly w (b ∷ bs) lines e = elim (begins_head w b (read_number b 0) refl) [
  | inl (number, place, x) ↦ absurd (no_report (refused_at number place) lines tt (sym (ended_refused w number place bs) ∙ ap (λ (c : Course). course_from w c bs) (sym x) ∙ e))
  | inr (a, h, z, x) ↦
      let n = a.value in
      let k = bounds_known n w.k w.frags w.helds z in
      builds_truly w n k.some_room k.some_fragments k.fragments (b ∷ bs) [] tt (fresh_undone n k.some_fragments) 0 refl lines (ap (λ (c : Course). course_from w c bs) (sym x) ∙ e)
]

pub same_reports : (w : Lent) (n : ℕ) (E : Links) → Among n E → bounds_refusal n w.k w.frags w.helds ≡ 0 → (bs : List (List ℕ)) → AllTell n E bs → suc (ceiling n w.k) ≤ length bs
    → (lines : List ℕ) × (course w bs ≡ reported lines) × (g : List Link) × Tells E g × TrueReport n g lines
unfolding course course_from passes
same_reports w n E among z [] a l = absurd (omega arith)
same_reports w n E among z (b ∷ bs) ((g, F, t), a) l =
    let k = bounds_known n w.k w.frags w.helds z in
    let (lines, x, g', t', y) = builds_reports w n k.some_room k.some_fragments k.fragments E among (b ∷ bs) [] tt (fresh_undone n k.some_fragments) ((g, F, t), a) (omega arith) 0 refl in
    let first = file_first w n g b F z ∙ sym (file_over w false n 0 (fresh n) g b F) in
    (lines, ap (λ (c : Course). course_from w c bs) first ∙ x, g', t', y)

-- Files that are all the same bytes tell one set, and the one read last is one of them.
same_tell : (n : ℕ) (g : List Link) (bytes : List ℕ) → ListFile n g bytes → (files : List (List ℕ)) → Same bytes files → AllTell n (linked g) files
same_tell n g bytes F [] s = tt
same_tell n g bytes F (b ∷ files) (e, s) = ((g, rw e F, λ u v. refl), same_tell n g bytes F files s)

same_last : (bytes : List ℕ) (before after : List (List ℕ)) (last : List ℕ) → Same bytes (before ++ (last ∷ after)) → last ≡ bytes
same_last bytes [] after last (e, s) = e
same_last bytes (b ∷ before) after last (e, s) = same_last bytes before after last s

head_same : (a b : Numeral) → gives a ≡ gives b → a ≡ b
head_same a b e = cc

links_same : (g h : List Link) → gives g ≡ gives h → g ≡ h
links_same g h e = cc

file_once : {n m : ℕ} {g h : List Link} {bytes : List ℕ} → ListFile n g bytes → ListFile m h bytes → (m ≡ n) × (h ≡ g)
file_once {n} {m} {g} {h} {bytes} F G =
    let a : F.head ≡ G.head = head_same _ _ (sym F.heads ∙ G.heads) in
    let e : m ≡ n = sym G.has ∙ ap (λ (x : Numeral). x.value) (sym a) ∙ F.has in
    (e, links_same h g (sym G.links ∙ ap (λ (i : ℕ). block_links i 0 (drop G.head.next bytes)) e ∙ ap (λ (x : Numeral). block_links n 0 (drop x.next bytes)) (sym a) ∙ F.links))

pub same_bytes_report : (w : Lent) (n : ℕ) (g : List Link) (bytes : List ℕ) → ListFile n g bytes → bounds_refusal n w.k w.frags w.helds ≡ 0
    → (files : List (List ℕ)) → Same bytes files → suc (ceiling n w.k) ≤ length files → (lines : List ℕ) × (course w files ≡ reported lines) × TrueReport n g lines
same_bytes_report w n g bytes F z files s l =
    let (lines, e, h, t, r) = same_reports w n (linked g) (file_among F) z files (same_tell n g bytes F files s) l in
    let L = reports_truly w files lines e in
    let q : L.last ≡ bytes = same_last bytes L.before L.after L.last (subst (Same bytes) L.all s) in
    let (i, j) = file_once F (subst (ListFile L.n L.g) q L.listed) in
    (lines, e, subst (λ (x : List Link). TrueReport n x lines) j (subst (λ (m : ℕ). TrueReport m L.g lines) i L.true_of_it))

-- It ends, whatever the passes read.
ended_stays : (w : Lent) (c : Course) (bs : List (List ℕ)) → T (ended c) → T (ended (course_from w c bs))
ended_stays w unread bs e = absurd e
ended_stays w (again r n p t) bs e = absurd e
ended_stays w (reported lines) bs e = rw (ended_reported w lines bs) tt
ended_stays w (refused_at number place) bs e = rw (ended_refused w number place bs) tt

read_ends_lem : (k n p : ℕ) (t : Tables) (g : List Link) → T (ended (closes k true n p t g))
unfolding closes closes_reading
read_ends_lem k n p t g = pick_all (λ (c : Course). T (ended c)) (accepted n (read_links t g)) _ _ tt tt

reads_end : (w : Lent) (n p : ℕ) (t : Tables) (bs : List (List ℕ)) → 1 ≤ length bs → T (ended (course_from w (again true n p t) bs))
unfolding course_from
reads_end w n p t [] l = absurd (omega arith)
reads_end w n p t (b ∷ bs) l = elim (over_any w true n p t b) [
  | inl (number, place, x) ↦ ended_stays w _ bs (rw x tt)
  | inr (g, F, x) ↦ ended_stays w _ bs (rw x (read_ends_lem w.k n p t g))
]

builds_end : (w : Lent) (n : ℕ) → 1 ≤ w.k → (bs : List (List ℕ)) (gs : List (List Link)) → Each (λ g. Among n (linked g)) gs → (T (done n (Built n w.k gs)) → ⊥)
    → suc (ceiling n w.k) ≤ length gs + length bs → (p : ℕ) → T (ended (course_from w (again false n p (Built n w.k gs)) bs))
unfolding course_from
builds_end w n pos [] gs A u l p = absurd (omega (arith, length-append gs ([] ∷ []), (passes_within n w.k gs [] pos A u).0))
builds_end w n pos (b ∷ bs) gs A u l p = elim (over_any w false n p (Built n w.k gs) b) [
  | inl (number, place, x) ↦ ended_stays w _ bs (rw x tt)
  | inr (g, F, x) ↦
      let most = (passes_within n w.k gs g pos A u).0 in
      let long = length-append gs (g ∷ []) in
      let t : pass n w.k (Built n w.k gs) g ≡ Built n w.k (gs ++ (g ∷ [])) = sym (passes_snoc n w.k (fresh n) gs g) in
      elim (T_dec (done n (pass n w.k (Built n w.k gs) g))) [
        | yes d ↦ rw (x ∙ build_done w.k n p (Built n w.k gs) g d) (reads_end w n (suc p) _ bs (omega arith))
        | no d ↦
            rw (x ∙ build_more w.k n p (Built n w.k gs) g d ∙ ap (again false n (suc p)) t)
            (builds_end w n pos bs (gs ++ (g ∷ [])) (each_snoc (λ h. Among n (linked h)) gs g A (file_among F)) (λ z. d (subst (λ (i : Tables). T (done n i)) (sym t) z)) (omega arith) (suc p))
      ]
]

pub course_ends : (w : Lent) (b : List ℕ) (bs : List (List ℕ)) → ((a : Numeral) → read_number b 0 ≡ gives a → suc (ceiling a.value w.k) ≤ length (b ∷ bs)) → T (ended (course w (b ∷ bs)))
unfolding course course_from passes
course_ends w b bs l = elim (begins_head w b (read_number b 0) refl) [
  | inl (number, place, x) ↦ ended_stays w _ bs (rw x tt)
  | inr (a, h, z, x) ↦
      let k = bounds_known a.value w.k w.frags w.helds z in
      rw x (builds_end w a.value k.some_room (b ∷ bs) [] tt (fresh_undone a.value k.some_fragments) (omega (arith, l a h)) 0)
]
