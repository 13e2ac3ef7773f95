-- What an answer prints, by the course that it leads on; and which answers are no report.
-- Assumes nothing.
use Rattle.std.specs.Prelude.{ℕ, ◌+◌, ◌≤◌, true, false, List, ◌≡◌, refl, T, ltb, length, take}
use Rattle.std.proofs.Math.Seq.{take-append_seam}
use Rattle.base.specs.Pick.{pick_false, pick_all, tests}
use Rattle.base.specs.Answer.{Answer, gives, refuses}
use Rattle.numbers.specs.Number.{put, groups_most}
use Rattle.text.specs.Lines.{refusal_line, store}
use Rattle.state.specs.Call.{Begun}
use Rattle.state.specs.declared.State.{State}
use Rattle.parts.specs.Parts.{Header, Carry, Opens, Feeds, open_part, feed_part}
use Rattle.telling.specs.Tell.{Said, Turn, Goes, refusing, missing, feeding_by, feeding, entered_by, entered, unfinished, heading_by, heading, parted, given, tell_call}
use Rattle.telling.specs.declared.Step.{Step}
use Rattle.telling.specs.declared.Step.TheVariants.{First, Head, Links, Over}
use Rattle.telling.specs.declared.Telling.{Telling}
use Rattle.telling.specs.declared.Heard.{Heard}
use Rattle.telling.specs.declared.Heard.TheVariants.{Bytes, End, Failed, NoFile}
use Rattle.printed.specs.Printed.{Course, unread, again, reported, refused_at, printed}
use Rattle.printed.specs.Claims.{stops, prints, ended, is_report}
use Rattle.printed.proofs.Laws.Pass.{Leads}

put_front : (text l : List ℕ) → take (length l) (put text 0 l) ≡ l
unfolding put
put_front text l = take-append_seam l _

refusing_prints : (number place : ℕ) (text : List ℕ) → length (refusal_line number place) ≤ length text
    → (stops (refusing number place text).does ≡ true) × (prints (refusing number place text) ≡ refusal_line number place)
unfolding refusing store
refusing_prints number place text l = (refl, simp tests (put_front text (refusal_line number place)))

pub end_printed : (k : ℕ) (text : List ℕ) (c : Course) (u : Turn) → length (printed c) ≤ length text → Leads k text c u → (stops u.said.does ≡ ended c) × (prints u.said ≡ printed c)
end_printed k text unread u l x = absurd x
end_printed k text (again r n p t) u l (s, e, U) = rw e (refl, refl)
end_printed k text (reported lines) u l (x, y) = let (s, e) = x l in rw e (refl, put_front text lines)
end_printed k text (refused_at number place) u l e = rw e (refusing_prints number place text l)

-- Bytes that are not the last are answered with no report.
abbrev NoReport : Said → Type 0
NoReport u = T (is_report u.does) → ⊥

refusing_none : (number place : ℕ) (text : List ℕ) → NoReport (refusing number place text)
unfolding refusing
refusing_none number place text x = x

feeding_by_lem : (text : List ℕ) (w : Feeds) (x : Answer Carry) → NoReport (feeding_by false text w x).turn.said
unfolding feeding_by
feeding_by_lem text w (gives c) = rw pick_false (λ x. x)
feeding_by_lem text w (refuses number place) = refusing_none number place text

feeding_none : (text : List ℕ) (w : Feeds) → NoReport (feeding false text w).turn.said
unfolding feeding
feeding_none text w = feeding_by_lem text w w.left.answer

entered_by_lem : (begins have : ℕ) (text buffer : List ℕ) (b : Begun) (x : Answer State) → NoReport (entered_by begins have false text buffer b x).turn.said
unfolding entered_by
entered_by_lem begins have text buffer b (gives s) = feeding_none text (feed_part s b.frag b.held buffer have begins false)
entered_by_lem begins have text buffer b (refuses number place) = refusing_none number place text

heading_by_lem : (t : Telling) (f h text buffer : List ℕ) (x : Answer Header) → NoReport (heading_by t f h text false buffer x).turn.said
unfolding heading_by entered
heading_by_lem t f h text buffer (gives head) = entered_by_lem head.begins head.have text buffer _ _
heading_by_lem t f h text buffer (refuses number place) = pick_all NoReport (unfinished number false) _ _ (λ x. x) (refusing_none number place text)

heading_none : (t : Telling) (f h text : List ℕ) (w : Opens) → NoReport (heading t f h text false w).turn.said
unfolding heading
heading_none t f h text w = heading_by_lem t f h text w.buffer w.answer

parted_none : (t : Telling) (f h b text : List ℕ) (z : Step) → NoReport (parted t f h b text false z).turn.said
unfolding parted
parted_none t f h b text First = heading_none t f h text (open_part t.have b)
parted_none t f h b text Head = heading_none t f h text (open_part t.have b)
parted_none t f h b text Links = feeding_none text (feed_part t.state f h b t.have t.offset false)
parted_none t f h b text Over = refusing_none 6 0 text

given_none : (t : Telling) (f h b text : List ℕ) (count : ℕ) → NoReport (given t f h b text count false).turn.said
unfolding given
given_none t f h b text count =
    pick_all (λ (u : Goes). NoReport u.turn.said) (ltb (length b) (groups_most + groups_most)) _ _ (refusing_none 3 0 text)
    (pick_all (λ (u : Goes). NoReport u.turn.said) (ltb (length b) (t.have + count)) _ _ (refusing_none 3 0 text) (parted_none _ f h b text t.step))

pub only_at_end : (t : Telling) (f h b text : List ℕ) (heard : Heard) → T (is_report (tell_call t f h b text heard).turn.said.does) → heard ≡ End
unfolding tell_call missing
only_at_end t f h b text (Bytes count) x = absurd (given_none t f h b text count x)
only_at_end t f h b text End x = refl
only_at_end t f h b text Failed x = absurd x
only_at_end t f h b text NoFile x = absurd x
