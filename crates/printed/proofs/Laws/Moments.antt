-- What holds at every moment of a run: the bytes that stand at the buffer's front are those of the file that are not told, and what is told is what the
-- course has come to.
-- Assumes nothing.
use Rattle.std.specs.Prelude.{ℕ, ◌+◌, ◌-◌, ◌≤◌, Bool, not, ◌⊎◌, ◌≡◌, T, eqb, length, take, drop}
use Rattle.std.proofs.Math.Bool.{true, false}
use mathlib.Core.List.{List, [], ◌∷◌, ◌++◌, append-nil}
use Rattle.std.proofs.Common.{inl, inr, ◌∙◌, subst, arith, le-ltb, eq-eqb, ne_eqb, length-append, length-drop, length-take-le}
use Rattle.std.proofs.Math.Path.{refl, sym, ap}
use Rattle.std.proofs.Math.Decide.{ℕ_discrete, dec_le}
use Rattle.std.proofs.lemmas.List.{drop-append-le}
use Rattle.base.specs.Pick.{pick, pick_true, pick_false}
use Rattle.base.specs.Answer.{Answer, gives, refuses}
use Rattle.numbers.specs.Number.{Numeral, read_number, groups_most}
use Rattle.numbers.proofs.Theorems.{number_within, number_short, number_more}
use Rattle.lists.specs.List.{links_in, links_at, block_links}
use Rattle.rules.specs.Tables.{Tables, fresh}
use Rattle.state.specs.Call.{Begun, bounds_refusal}
use Rattle.state.specs.Start.{start_call, started}
use Rattle.state.proofs.Laws.KeepsBegun.{start_keeps, start_makes}
use Rattle.state.specs.declared.State.{State}
use Rattle.parts.specs.Parts.{carried, Opens, headed_by as openedBy, open_part, feed_part}
use Rattle.parts.specs.Laws.{carried_front}
use Rattle.telling.specs.Tell.{Does, reads, rereads, reports, refuses_at, lacks, fails, Said, Goes, telling_of, beginning, refusing, feeding, entering, entered_by, entered, unfinished, heading_by, heading, parted, given, tell_call}
use Rattle.telling.specs.declared.Step.{Step}
use Rattle.telling.specs.declared.Step.TheVariants.{First, Head, Links, Over}
use Rattle.telling.specs.declared.Telling.{Telling}
use Rattle.telling.specs.declared.Heard.TheVariants.{Bytes, End}
use Rattle.printed.specs.Printed.{Lent, Course, unread, again, reported, refused_at, enters, closes_or, tells, headed_by, over_pass, course_from, course}
use Rattle.printed.specs.Claims.{ended}
use Rattle.printed.specs.Run.{Moment, Reads, got, answer, onward, anew, Run, begins, more, again as anewRun}
use Rattle.printed.proofs.Laws.Pass.{Under, during_none, Leads, leads_refused}
use Rattle.printed.proofs.Laws.Part.{Linked, take_both, carried_length, feed_end, feed_on, feed_long, linked_more}

-- A course that goes on from a state and words.
abbrev pub Ready : Lent → Course → State → (f h : List ℕ) → Type 0
Ready w unread s f h = (s.k ≡ w.k) × (length f ≡ w.frags) × (length h ≡ w.helds)
Ready w (again r n p t) s f h = Under w.k r n p t [] s f h
Ready w (reported lines) s f h = ⊥
Ready w (refused_at number place) s f h = ⊥

abbrev is_unread : Course → Bool
is_unread unread = true
is_unread (again r n p t) = false
is_unread (reported lines) = false
is_unread (refused_at number place) = false

-- The head of the file has n: the course and the code enter alike.
abbrev Enters : Lent → Course → Begun → Type 0
Enters w c b =
    ((number : ℕ) × (b.answer ≡ refuses number 0) × (c ≡ refused_at number 0))
    ⊎ ((r : Bool) × (n : ℕ) × (p : ℕ) × (t : Tables) × (s : State) × (b.answer ≡ gives s) × (c ≡ again r n p t) × Under w.k r n p t [] s b.frag b.held)

start_off : (n k : ℕ) (f h : List ℕ) → (bounds_refusal n k (length f) (length h) ≡ 0 → ⊥) → (start_call n k f h).answer ≡ refuses (bounds_refusal n k (length f) (length h)) 0
unfolding start_call
start_off n k f h z = rw (ne_eqb (bounds_refusal n k (length f) (length h)) 0 z, pick_false) refl

enter_start : (w : Lent) (n : ℕ) (k : ℕ) (f h : List ℕ) → k ≡ w.k → length f ≡ w.frags → length h ≡ w.helds → Enters w (enters w n unread) (start_call n k f h)
unfolding enters
enter_start w n k f h a b c =
    let r = bounds_refusal n k (length f) (length h) in
    let e : r ≡ bounds_refusal n w.k w.frags w.helds = rw (a, b, c) refl in
    elim (ℕ_discrete r 0) [
      | yes z ↦
          let m = start_makes n k f h z in
          inr (
            false,
            n,
            0,
            fresh n,
            started n k,
            m.0,
            rw (← e, eq-eqb r 0 z) (pick_true _ _),
            record {
              tested = (start_keeps n k f h).keeps (started n k) m.0;
              size = refl;
              room = a;
              staged = refl;
              passed = refl;
              counted = refl;
              holds = m.1 ∙ during_none w.k false n (fresh n);
            },
          )
      | no z ↦ inl (r, start_off n k f h z, rw (← e, ne_eqb r 0 z) (pick_false _ _))
    ]

enter_next : (w : Lent) (n m p : ℕ) (r : Bool) (t : Tables) (s : State) (f h : List ℕ) → Under w.k r n p t [] s f h
    → Enters w (enters w m (again r n p t)) (pick (eqb m s.n) (record { answer = gives s; frag = f; held = h }) (record { answer = refuses 9 0; frag = f; held = h }))
unfolding enters
enter_next w n m p r t s f h U =
    let X : Begun = record { answer = gives s; frag = f; held = h } in
    let Y : Begun = record { answer = refuses 9 0; frag = f; held = h } in
    elim (ℕ_discrete m n) [
      | yes z ↦
          let a : X ≡ pick (eqb m s.n) X Y = sym (pick_true _ _) ∙ ap (λ (i : Bool). pick i X Y) (sym (eq-eqb m s.n (z ∙ sym U.size))) in
          subst (Enters w (pick (eqb m n) (again r n p t) (refused_at 9 0))) a (inr (r, n, p, t, s, refl, rw (eq-eqb m n z) (pick_true _ _), U))
      | no z ↦
          let a : Y ≡ pick (eqb m s.n) X Y = sym (pick_false _ _) ∙ ap (λ (i : Bool). pick i X Y) (sym (ne_eqb m s.n (λ q. z (q ∙ U.size)))) in
          subst (Enters w (pick (eqb m n) (again r n p t) (refused_at 9 0))) a (inl (9, refl, rw (ne_eqb m n z) (pick_false _ _)))
    ]

-- The step at which a course is entered.
abbrev Steps : Course → Step → Type 0
Steps c First = c ≡ unread
Steps c Head = T (not (is_unread c))
Steps c Links = ⊥
Steps c Over = ⊥

enter_both : (w : Lent) (c : Course) (step : Step) (s : State) (n : ℕ) (f h : List ℕ) → Steps c step → Ready w c s f h → Enters w (enters w n c) (entering s step n f h)
unfolding entering
enter_both w c First s n f h e R = let (a, x, y) : Ready w unread s f h = (rw e at R) in rw (e, pick_true) (enter_start w n s.k f h a x y)
enter_both w unread Head s n f h e R = absurd e
enter_both w (again r m p t) Head s n f h e R = rw pick_false (enter_next w m n p r t s f h R)
enter_both w (reported lines) Head s n f h e R = absurd R
enter_both w (refused_at number place) Head s n f h e R = absurd R
enter_both w c Links s n f h e R = absurd e
enter_both w c Over s n f h e R = absurd e

-- The bytes of a pass up to here, where its head is not read yet: all of them stand at the buffer's front.
pub record Front (m : Moment) : Type 0 where
  pub have_all : m.telling.have ≡ length m.bytes
  pub all_there : take m.telling.have m.buffer ≡ m.bytes

-- The pass under way is in its links.
pub record InLinks (w : Lent) (m : Moment) : Type 0 where
  pub head : Numeral
  pub reading : Bool
  pub n : ℕ
  pub p : ℕ
  pub t : Tables
  pub heads : read_number m.bytes 0 ≡ gives head
  pub entered : enters w head.value (course w m.passes) ≡ again reading n p t
  pub links : Linked w.k reading n p t m.telling.state m.frag m.held m.buffer head.next m.telling.offset m.telling.have (drop head.next m.bytes)

abbrev pub At : Lent → Moment → Step → Type 0
At w m First = Steps (course w m.passes) First × Ready w (course w m.passes) m.telling.state m.frag m.held × Front m
At w m Head = Steps (course w m.passes) Head × Ready w (course w m.passes) m.telling.state m.frag m.held × Front m
At w m Links = InLinks w m
At w m Over = ⊥

pub record Holds (w : Lent) (m : Moment) : Type 0 where
  pub room : groups_most + groups_most ≤ length m.buffer
  pub at : At w m m.telling.step

-- What may be answered to bytes that are not the last: that more is to be read, or the refusal of the file, whatever comes.
abbrev pub Onward : Lent → (m : Moment) → (bytes text : List ℕ) → Goes → Type 0
Onward w m bytes text u =
    ((t : Telling) × (u.turn.said ≡ record { does = reads t; text = text })
    × Holds w (record { telling = t; frag = u.turn.frag; held = u.turn.held; buffer = u.buffer; passes = m.passes; bytes = bytes }))
    ⊎ ((number : ℕ) × (place : ℕ) × (u.turn.said ≡ refusing number place text) × ((rest : List ℕ) → over_pass w (course w m.passes) (bytes ++ rest) ≡ refused_at number place))

-- The course of a pass, by its head.
over_by : (w : Lent) (c : Course) (s : State) (f h : List ℕ) → Ready w c s f h → (bytes : List ℕ) → over_pass w c bytes ≡ headed_by w bytes c (read_number bytes 0)
unfolding over_pass
over_by w unread s f h R bytes = refl
over_by w (again r n p t) s f h R bytes = refl
over_by w (reported lines) s f h R bytes = absurd R
over_by w (refused_at number place) s f h R bytes = absurd R

module _ (w : Lent) (c : Course) (s : State) (f h : List ℕ) (R : Ready w c s f h) (bytes : List ℕ) where
  over_refused : (number place : ℕ) → read_number bytes 0 ≡ refuses number place → over_pass w c bytes ≡ refused_at number place
  unfolding headed_by
  over_refused number place e = over_by w c s f h R bytes ∙ ap (headed_by w bytes c) e

  module _ (a : Numeral) (e : read_number bytes 0 ≡ gives a) where
    over_other : (number : ℕ) → enters w a.value c ≡ refused_at number 0 → over_pass w c bytes ≡ refused_at number 0
    unfolding headed_by tells
    over_other number g = over_by w c s f h R bytes ∙ ap (headed_by w bytes c) e ∙ ap (tells w a.next bytes) g

-- A course that a pass is in has not ended: the links are told from there.
links_by : (w : Lent) (c : Course) (a : Numeral) (r : Bool) (n p : ℕ) (t : Tables) (bytes : List ℕ) → enters w a.value c ≡ again r n p t → read_number bytes 0 ≡ gives a
    → over_pass w c bytes ≡ closes_or w.k a.next r n p t (block_links n 0 (drop a.next bytes))
unfolding over_pass headed_by tells enters
links_by w unread a r n p t bytes g e = ap (headed_by w bytes unread) e ∙ ap (tells w a.next bytes) g
links_by w (again i j k l) a r n p t bytes g e = ap (headed_by w bytes (again i j k l)) e ∙ ap (tells w a.next bytes) g
links_by w (reported lines) a r n p t bytes g e = absurd (subst (λ (x : Course). T (not (ended x))) (sym g) tt)
links_by w (refused_at number place) a r n p t bytes g e = absurd (subst (λ (x : Course). T (not (ended x))) (sym g) tt)

-- More bytes change nothing of a head that is read, or is none.
head_more : (bytes rest : List ℕ) (a : Numeral) → read_number bytes 0 ≡ gives a → read_number (bytes ++ rest) 0 ≡ gives a
head_more bytes rest a e = number_more bytes rest 0 (rw e tt) ∙ e

head_bad : (bytes rest : List ℕ) (number place : ℕ) → (number ≡ 8 → ⊥) → read_number bytes 0 ≡ refuses number place → read_number (bytes ++ rest) 0 ≡ refuses number place
head_bad bytes rest number place d e = number_more bytes rest 0 (rw e d) ∙ e

none_told : (n : ℕ) (s : List ℕ) → block_links n 0 (take 0 s) ≡ gives []
unfolding block_links links_at links_in
none_told n s = refl

-- A pass begins: all of its bytes up to here stand at the buffer's front.
module _ (w : Lent) (m : Moment) (t : Telling) (b bytes text : List ℕ) (c : Course) (is : course w m.passes ≡ c) (step : Steps c t.step) (R : Ready w c t.state m.frag m.held)
    (room : groups_most + groups_most ≤ length b) (fits : t.have ≤ length b) (long : t.have ≡ length bytes) (there : take t.have b ≡ bytes) where
  abbrev f : List ℕ
  f = m.frag

  abbrev h : List ℕ
  h = m.held

  abbrev opened : Opens
  opened = open_part t.have b

  opened_by : (x : Answer Numeral) → read_number bytes 0 ≡ x → opened ≡ openedBy t.have b x
  unfolding open_part
  opened_by x e = rw (le-ltb (length b) t.have fits, there, e) (pick_false _ _)

  module _ (a : Numeral) (e : read_number bytes 0 ≡ gives a) where
    within_bytes : a.next ≤ t.have
    within_bytes = omega (arith, (number_within bytes 0 a e).1)

    abbrev behind : List ℕ
    behind = carried a.next t.have b

    abbrev begun : Begun
    begun = entering t.state t.step a.value f h

    abbrev goes_in : Bool → Goes
    goes_in last = entered a.next (t.have - a.next) last text behind begun

    heading_in : (last : Bool) → heading t f h text last opened ≡ goes_in last
    unfolding heading heading_by openedBy
    heading_in last = rw (opened_by (gives a) e) refl

    behind_long : length behind ≡ length b
    behind_long = carried_length a.next t.have b within_bytes fits

    begun_links : (r : Bool) (n p : ℕ) (z : Tables) (s : State) → Under w.k r n p z [] s begun.frag begun.held
        → Linked w.k r n p z s begun.frag begun.held behind a.next a.next (t.have - a.next) (drop a.next bytes)
    begun_links r n p z s U = record {
      g = [];
      told = 0;
      under = U;
      within = omega arith;
      accepts = none_told n (drop a.next bytes);
      placed = let q = number_short bytes 0 a e in omega arith;
      carry = carried_front b t.have fits a.next within_bytes ∙ ap (drop a.next) there;
      left = omega (arith, length-drop a.next bytes);
    }

    entered_by_lem : (last : Bool) (x : Answer State) → begun.answer ≡ x → goes_in last ≡ entered_by a.next (t.have - a.next) last text behind begun x
    unfolding entered
    entered_by_lem last x g = ap (entered_by a.next (t.have - a.next) last text behind begun) g

    entered_said : (last : Bool) (number : ℕ) → begun.answer ≡ refuses number 0 → (heading t f h text last opened).turn.said ≡ refusing number 0 text
    unfolding entered_by
    entered_said last number g = ap (λ (u : Goes). u.turn.said) (heading_in last ∙ entered_by_lem last (refuses number 0) g)

    entered_feeds : (last : Bool) (s : State) → begun.answer ≡ gives s
        → heading t f h text last opened ≡ feeding last text (feed_part s begun.frag begun.held behind (t.have - a.next) a.next last)
    unfolding entered_by
    entered_feeds last s g = heading_in last ∙ entered_by_lem last (gives s) g

    behind_fits : t.have - a.next ≤ length behind
    behind_fits = rw behind_long (omega arith)

    -- At the end of the file.
    end_in_lem : Enters w (enters w a.value c) begun → Leads w.k text (over_pass w c bytes) (heading t f h text true opened).turn
    end_in_lem (inl (number, x, y)) = leads_refused w.k text (over_pass w c bytes) (heading t f h text true opened).turn number 0 (over_other w c t.state f h R bytes a e number y) (entered_said true number x)
    end_in_lem (inr (r, n, p, z, s, x, y, U)) = rw (links_by w c a r n p z bytes y e, entered_feeds true s x) (feed_end (begun_links r n p z s U) behind_fits text)

    -- Before it.
    on_in : Enters w (enters w a.value c) begun → Onward w m bytes text (heading t f h text false opened)
    on_in (inl (number, x, y)) = inr (number, 0, entered_said false number x, λ rest. rw is (over_other w c t.state f h R (bytes ++ rest) a (head_more bytes rest a e) number y))
    on_in (inr (r, n, p, z, s, x, y, U)) =
        let L = begun_links r n p z s U in
        rw (entered_feeds false s x)
        (elim (feed_on L behind_fits text) [
          | inl (s', offset, have, said, K) ↦ inl (
            telling_of s' Links offset have,
            said,
            record {
              room = rw (feed_long L behind_fits text false, behind_long) room;
              at = record { head = a; reading = r; n = n; p = p; t = z; heads = e; entered = rw is y; links = K };
            },
          )
          | inr (number, place, said, all) ↦
              inr (
                number,
                place,
                said,
                λ rest.
                    rw is (links_by w c a r n p z (bytes ++ rest) y (head_more bytes rest a e)
                    ∙ ap (λ (q : List ℕ). closes_or w.k a.next r n p z (block_links n 0 q)) (drop-append-le a.next bytes rest (omega (arith, within_bytes)))
                    ∙ all rest),
              )
        ])

  enters_here : (a : Numeral) → Enters w (enters w a.value c) (entering t.state t.step a.value f h)
  enters_here a = enter_both w c t.step t.state a.value f h step R

  head_end_by : (x : Answer Numeral) → read_number bytes 0 ≡ x → Leads w.k text (over_pass w c bytes) (heading t f h text true opened).turn
  unfolding heading heading_by openedBy unfinished
  head_end_by (gives a) e = end_in_lem a e (enters_here a)
  head_end_by (refuses number place) e =
      leads_refused w.k text (over_pass w c bytes) (heading t f h text true opened).turn number place (over_refused w c t.state f h R bytes number place e)
      (rw (opened_by (refuses number place) e) (pick_false _ _))

  pub head_end : Leads w.k text (over_pass w c bytes) (heading t f h text true opened).turn
  head_end = head_end_by (read_number bytes 0) refl

  abbrev waiting : Moment
  waiting = record { telling = t; frag = f; held = h; buffer = b; passes = m.passes; bytes = bytes }

  at_step : (z : Step) → Steps c z → At w waiting z
  at_step First y = rw is (y, R, record { have_all = long; all_there = there })
  at_step Head y = rw is (y, R, record { have_all = long; all_there = there })
  at_step Links y = absurd y
  at_step Over y = absurd y

  head_on_by : (x : Answer Numeral) → read_number bytes 0 ≡ x → Onward w m bytes text (heading t f h text false opened)
  unfolding heading heading_by openedBy unfinished
  head_on_by (gives a) e = on_in a e (enters_here a)
  head_on_by (refuses number place) e = rw (opened_by (refuses number place) e) (elim (ℕ_discrete number 8) [
    | yes d ↦ rw (eq-eqb number 8 d, pick_true) (inl (t, refl, record { room = room; at = at_step t.step step }))
    | no d ↦ rw (ne_eqb number 8 d, pick_false)
        (inr (number, place, refl, λ rest. rw is (over_refused w c t.state f h R (bytes ++ rest) number place (head_bad bytes rest number place d e))))
  ])

  pub head_on : Onward w m bytes text (heading t f h text false opened)
  head_on = head_on_by (read_number bytes 0) refl

  -- The buffer stays as long as it is.
  long_in : (a : Numeral) (e : read_number bytes 0 ≡ gives a) → Enters w (enters w a.value c) (begun a e) → length (heading t f h text true opened).buffer ≡ length b
  unfolding entered_by
  long_in a e (inl (number, x, y)) = rw (heading_in a e true ∙ entered_by_lem a e true (refuses number 0) x) (behind_long a e)
  long_in a e (inr (r, n, p, z, s, x, y, U)) = rw (entered_feeds a e true s x) (feed_long (begun_links a e r n p z s U) (behind_fits a e) text true ∙ behind_long a e)

  head_long_by : (x : Answer Numeral) → read_number bytes 0 ≡ x → length (heading t f h text true opened).buffer ≡ length b
  unfolding heading heading_by openedBy
  head_long_by (gives a) e = long_in a e (enters_here a)
  head_long_by (refuses number place) e = rw (opened_by (refuses number place) e) refl

  pub head_long : length (heading t f h text true opened).buffer ≡ length b
  head_long = head_long_by (read_number bytes 0) refl

given_in : (t : Telling) (f h b text : List ℕ) (count : ℕ) (last : Bool) → groups_most + groups_most ≤ length b → t.have + count ≤ length b
    → given t f h b text count last ≡ parted (telling_of t.state t.step t.offset (t.have + count)) f h b text last t.step
unfolding given
given_in t f h b text count last r l = rw (le-ltb (length b) (groups_most + groups_most) r, pick_false, le-ltb (length b) (t.have + count) l, pick_false) refl

module _ {w : Lent} {m : Moment} (H : Holds w m) (b text : List ℕ) (count : ℕ) (R : Reads m b count) where
  abbrev there : Telling
  there = telling_of m.telling.state m.telling.step m.telling.offset (m.telling.have + count)

  abbrev after : List ℕ
  after = m.bytes ++ got m b count

  still_room : groups_most + groups_most ≤ length b
  still_room = rw R.as_long H.room

  got_length : length (got m b count) ≡ count
  got_length = length-take-le count (drop m.telling.have b) (omega (arith, length-drop m.telling.have b, R.fits))

  front_long : Front m → m.telling.have + count ≡ length after
  front_long F = rw (length-append, got_length) (omega (arith, F.have_all))

  front_there : Front m → take (m.telling.have + count) b ≡ after
  front_there F = take_both m.telling.have count b (omega (arith, R.fits)) ∙ ap (λ (y : List ℕ). y ++ got m b count) (R.front ∙ F.all_there)

  -- In the links.
  module _ (I : InLinks w m) where
    head_within : I.head.next ≤ length m.bytes
    head_within = (number_within m.bytes 0 I.head I.heads).1

    links_after : drop I.head.next m.bytes ++ got m b count ≡ drop I.head.next after
    links_after = sym (drop-append-le I.head.next m.bytes (got m b count) head_within)

    linked_after : Linked w.k I.reading I.n I.p I.t m.telling.state m.frag m.held b I.head.next m.telling.offset (m.telling.have + count) (drop I.head.next after)
    linked_after = rw (← links_after) (linked_more I.links b count R.front R.fits)

    heads_after : read_number after 0 ≡ gives I.head
    heads_after = head_more m.bytes (got m b count) I.head I.heads

    links_end : Leads w.k text (over_pass w (course w m.passes) after) (feeding true text (feed_part m.telling.state m.frag m.held b (m.telling.have + count) m.telling.offset true)).turn
    links_end = rw (links_by w (course w m.passes) I.head I.reading I.n I.p I.t after I.entered heads_after) (feed_end linked_after R.fits text)

    links_on : Onward w m after text (feeding false text (feed_part m.telling.state m.frag m.held b (m.telling.have + count) m.telling.offset false))
    links_on = elim (feed_on linked_after R.fits text) [
      | inl (s', offset, have, said, K) ↦ inl (
        telling_of s' Links offset have,
        said,
        record {
          room = rw (feed_long linked_after R.fits text false) still_room;
          at = record { head = I.head; reading = I.reading; n = I.n; p = I.p; t = I.t; heads = heads_after; entered = I.entered; links = K };
        },
      )
      | inr (number, place, said, all) ↦
          inr (
            number,
            place,
            said,
            λ rest.
                links_by w (course w m.passes) I.head I.reading I.n I.p I.t (after ++ rest) I.entered (head_more after rest I.head heads_after)
                ∙ ap (λ (q : List ℕ). closes_or w.k I.head.next I.reading I.n I.p I.t (block_links I.n 0 q)) (drop-append-le I.head.next after rest (rw length-append (omega (arith, head_within))))
                ∙ all rest,
          )
    ]

  end_at : (z : Step) → m.telling.step ≡ z → At w m z → Leads w.k text (over_pass w (course w m.passes) after) (parted there m.frag m.held b text true z).turn
  unfolding parted
  end_at First e (x, y, F) = head_end w m there b after text (course w m.passes) refl (rw e x) y still_room R.fits (front_long F) (front_there F)
  end_at Head e (x, y, F) = head_end w m there b after text (course w m.passes) refl (rw e x) y still_room R.fits (front_long F) (front_there F)
  end_at Links e I = links_end I
  end_at Over e x = absurd x

  on_at : (z : Step) → m.telling.step ≡ z → At w m z → Onward w m after text (parted there m.frag m.held b text false z)
  unfolding parted
  on_at First e (x, y, F) = head_on w m there b after text (course w m.passes) refl (rw e x) y still_room R.fits (front_long F) (front_there F)
  on_at Head e (x, y, F) = head_on w m there b after text (course w m.passes) refl (rw e x) y still_room R.fits (front_long F) (front_there F)
  on_at Links e I = links_on I
  on_at Over e x = absurd x

  pub tells_on : Onward w m after text (answer m b text (Bytes count))
  unfolding tell_call
  tells_on = rw (given_in m.telling m.frag m.held b text count false still_room R.fits) (on_at m.telling.step refl H.at)

  long_at : (z : Step) → m.telling.step ≡ z → At w m z → length (parted there m.frag m.held b text true z).buffer ≡ length b
  unfolding parted
  long_at First e (x, y, F) = head_long w m there b after text (course w m.passes) refl (rw e x) y still_room R.fits (front_long F) (front_there F)
  long_at Head e (x, y, F) = head_long w m there b after text (course w m.passes) refl (rw e x) y still_room R.fits (front_long F) (front_there F)
  long_at Links e I = feed_long (linked_after I) R.fits text true
  long_at Over e x = absurd x

module _ {w : Lent} {m : Moment} (H : Holds w m) (b text : List ℕ) (R : Reads m b 0) where
  pub tells_end : Leads w.k text (over_pass w (course w m.passes) m.bytes) (answer m b text End).turn
  unfolding tell_call
  tells_end =
      rw (given_in m.telling m.frag m.held b text 0 true (still_room H b text 0 R) R.fits)
      (subst (λ (y : List ℕ). Leads w.k text (over_pass w (course w m.passes) y) (parted (there H b text 0 R) m.frag m.held b text true m.telling.step).turn)
      (append-nil m.bytes) (end_at H b text 0 R m.telling.step refl H.at))

  end_long : length (answer m b text End).buffer ≡ length b
  unfolding tell_call
  end_long = rw (given_in m.telling m.frag m.held b text 0 true (still_room H b text 0 R) R.fits) (long_at H b text 0 R m.telling.step refl H.at)

-- The course of one pass more.
course_snoc : (w : Lent) (c : Course) (bs : List (List ℕ)) (b : List ℕ) → course_from w c (bs ++ (b ∷ [])) ≡ over_pass w (course_from w c bs) b
unfolding course_from
course_snoc w c [] b = refl
course_snoc w c (x ∷ bs) b = course_snoc w (over_pass w c x) bs b

pub course_more : (w : Lent) (bs : List (List ℕ)) (b : List ℕ) → course w (bs ++ (b ∷ [])) ≡ over_pass w (course w bs) b
unfolding course
course_more w bs b = course_snoc w unread bs b

-- Which answer it is.
abbrev kind : Does → ℕ
kind (reads t) = 0
kind (rereads t) = 1
kind (reports s size) = 2
kind (refuses_at number place size) = 3
kind (lacks size) = 4
kind fails = 5

reads_same : (t z : Telling) → reads t ≡ reads z → t ≡ z
reads_same t z e = cc

rereads_same : (t z : Telling) → rereads t ≡ rereads z → t ≡ z
rereads_same t z e = cc

refusing_kind : (number place : ℕ) (text : List ℕ) → kind (refusing number place text).does ≡ 3
unfolding refusing
refusing_kind number place text = refl

module _ (w : Lent) (m : Moment) (b text : List ℕ) (count : ℕ) (t : Telling) (e : (answer m b text (Bytes count)).turn.said.does ≡ reads t) where
  more_holds : Onward w m (m.bytes ++ got m b count) text (answer m b text (Bytes count)) → Holds w (onward m (answer m b text (Bytes count)) t (got m b count))
  unfolding onward
  more_holds (inl (z, x, K)) = rw (reads_same t z (sym e ∙ ap (λ (u : Said). u.does) x)) K
  more_holds (inr (number, place, x, y)) = absurd (let q : 3 ≡ 0 = sym (refusing_kind number place text) ∙ ap (λ (u : Said). kind u.does) (sym x) ∙ ap kind e in omega arith)

module _ (w : Lent) (m : Moment) (b text : List ℕ) (t : Telling) (e : (answer m b text End).turn.said.does ≡ rereads t) (room : groups_most + groups_most ≤ length (answer m b text End).buffer) where
  again_holds : (c : Course) → over_pass w (course w m.passes) m.bytes ≡ c → Leads w.k text c (answer m b text End).turn → Holds w (anew m (answer m b text End) t)
  unfolding anew
  again_holds unread x l = absurd l
  again_holds (again r n p z) x (s, y, U) =
      let q : t ≡ telling_of s Head 0 0 = rereads_same t _ (sym e ∙ ap (λ (u : Said). u.does) y) in
      let c : course w (m.passes ++ (m.bytes ∷ [])) ≡ again r n p z = course_more w m.passes m.bytes ∙ x in
      rw q (record { room = room; at = rw c (tt, U, record { have_all = refl; all_there = refl }) })
  again_holds (reported lines) x (l, k) = elim (dec_le (length lines) (length text)) [
    | yes a ↦ let (s, y) = l a in absurd (let q : 2 ≡ 1 = ap (λ (u : Said). kind u.does) (sym y) ∙ ap kind e in omega arith)
    | no a ↦ absurd (let q : 3 ≡ 1 = sym (refusing_kind 3 0 text) ∙ ap (λ (u : Said). kind u.does) (sym (k (omega arith))) ∙ ap kind e in omega arith)
  ]
  again_holds (refused_at number place) x l = absurd (let q : 3 ≡ 1 = sym (refusing_kind number place text) ∙ ap (λ (u : Said). kind u.does) (sym l) ∙ ap kind e in omega arith)

pub run_holds : {w : Lent} {m : Moment} → Run w m → Holds w m
unfolding beginning course course_from
run_holds {w = w} (begins f h b i j k) = record { room = k; at = (refl, (refl, i, j), record { have_all = refl; all_there = refl }) }
run_holds {w = w} (more {m} r b text count R t e) = more_holds w m b text count t e (tells_on (run_holds r) b text count R)
run_holds {w = w} (anewRun {m} r b text R t e) =
    let H = run_holds r in
    again_holds w m b text t e (rw (end_long H b text R, R.as_long) H.room) _ refl (tells_end H b text R)
