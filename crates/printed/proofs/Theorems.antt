-- What a program prints that tells a file through `telling::tell` and does what it answers, to be read alone. `course` (Printed.antt) is what is printed as a
-- function of the bytes that each pass read; a run (Run.antt) is calls with what was read behind the front of the buffer. The answers are those of the promise of
-- `telling::tell`, which every answer of the code meets.
-- Assumes nothing.
use Rattle.std.specs.Prelude.{ℕ, suc, ◌≤◌, List, [], ◌∷◌, ◌++◌, ◌⊎◌, ◌≡◌, refl, T, length}
use Rattle.std.proofs.Common.{inl, inr, sym, ap, ◌∙◌}
use Rattle.base.specs.Answer.{gives}
use Rattle.base.specs.Link.{Link}
use Rattle.numbers.specs.Number.{Numeral, read_number}
use Rattle.rules.specs.Links.{Links, Among, Tells}
use Rattle.rules.specs.Building.{ceiling}
use Rattle.state.specs.Call.{bounds_refusal}
use Rattle.telling.specs.Tell.{reads, refusing, tell_call}
use Rattle.telling.specs.declared.Telling.{Telling}
use Rattle.telling.specs.declared.Heard.{Heard}
use Rattle.telling.specs.declared.Heard.TheVariants.{Bytes, End}
use Rattle.printed.specs.Printed.{Lent, reported, refused_at, printed, over_pass, course}
use Rattle.printed.specs.Claims.{ListFile, Same, AllTell, TrueReport, LastRead, stops, prints, ended, is_report}
use Rattle.printed.specs.Run.{Moment, Reads, got, answer, Run}
use Rattle.printed.proofs.Laws.Moments.{run_holds, tells_on, tells_end, course_more}
use Rattle.printed.proofs.Laws.Prints.{end_printed, only_at_end}
use Rattle.printed.proofs.Laws.Courses.{course_ends, reports_truly, same_reports, same_bytes_report}

-- 1. However the file was cut into reads: at its end, where the text has room, what is printed is that of the bytes read; and it is said to stop exactly where the
-- course is over.
pub end_prints : {w : Lent} {m : Moment} → Run w m → (b text : List ℕ) → Reads m b 0 → let c = course w (m.passes ++ (m.bytes ∷ [])) in length (printed c) ≤ length text
    → (stops (answer m b text End).turn.said.does ≡ ended c) × (prints (answer m b text End).turn.said ≡ printed c)
end_prints {w} {m} r b text R l = rw (course_more w m.passes m.bytes) (end_printed w.k text (over_pass w (course w m.passes) m.bytes) (answer m b text End).turn (rw (course_more w m.passes m.bytes) at l) (tells_end (run_holds r) b text R))

-- So two runs that read the same bytes in the same passes print the same.
pub cut_anyhow : {w : Lent} {m m' : Moment} → Run w m → Run w m' → m.passes ≡ m'.passes → m.bytes ≡ m'.bytes → (b b' text text' : List ℕ) → Reads m b 0 → Reads m' b' 0
    → let c = course w (m.passes ++ (m.bytes ∷ [])) in length (printed c) ≤ length text → length (printed c) ≤ length text'
    → prints (answer m b text End).turn.said ≡ prints (answer m' b' text' End).turn.said
cut_anyhow {w} {m} {m'} r r' e d b b' text text' R R' l l' =
    let q : course w (m.passes ++ (m.bytes ∷ [])) ≡ course w (m'.passes ++ (m'.bytes ∷ [])) = rw (e, d) refl in
    (end_prints r b text R l).1 ∙ ap printed q ∙ sym (end_prints r' b' text' R' (rw q at l')).1

-- Before the end more is asked for and nothing printed, or the file is refused, and would be whatever else it held.
pub early : {w : Lent} {m : Moment} → Run w m → (b text : List ℕ) (count : ℕ) → Reads m b count → let u = (answer m b text (Bytes count)).turn.said in
    ((t : Telling) × (u ≡ record { does = reads t; text = text }))
    ⊎ ((number : ℕ) × (place : ℕ) × (u ≡ refusing number place text) × ((rest : List ℕ) → course w (m.passes ++ (((m.bytes ++ got m b count) ++ rest) ∷ [])) ≡ refused_at number place))
early {w} {m} r b text count R = elim (tells_on (run_holds r) b text count R) [
  | inl (t, e, h) ↦ inl (t, e)
  | inr (number, place, e, all) ↦ inr (number, place, e, λ rest. course_more w m.passes ((m.bytes ++ got m b count) ++ rest) ∙ all rest)
]

-- 2. Demand 3 for the program. Where every pass read the same bytes, a list file of n fragments, n and k being within what is lent: within n/k passes, rounded up, and
-- one to read, the report is printed, and it is that by removal on the list.
pub same_bytes : (w : Lent) (n : ℕ) (g : List Link) (bytes : List ℕ) → ListFile n g bytes → bounds_refusal n w.k w.frags w.helds ≡ 0
    → (files : List (List ℕ)) → Same bytes files → suc (ceiling n w.k) ≤ length files → (lines : List ℕ) × (course w files ≡ reported lines) × TrueReport n g lines
same_bytes = same_bytes_report

-- The same where the passes read lists that tell one set, in any order and with any repeats: it is true of one of them.
pub same_set : (w : Lent) (n : ℕ) (E : Links) → Among n E → bounds_refusal n w.k w.frags w.helds ≡ 0 → (files : List (List ℕ)) → AllTell n E files → suc (ceiling n w.k) ≤ length files
    → (lines : List ℕ) × (course w files ≡ reported lines) × (g : List Link) × Tells E g × TrueReport n g lines
same_set = same_reports

-- 3. Whatever the passes read: something is printed after at most n/k passes, rounded up, and one to read, n being what the first head has (at once where it has none),
pub ends : (w : Lent) (first : List ℕ) (rest : List (List ℕ)) → ((a : Numeral) → read_number first 0 ≡ gives a → suc (ceiling a.value w.k) ≤ length (first ∷ rest))
    → T (ended (course w (first ∷ rest)))
ends = course_ends

-- and a report is true of the list that was read last.
pub whatever : (w : Lent) (files : List (List ℕ)) (lines : List ℕ) → course w files ≡ reported lines → LastRead files lines
whatever = reports_truly

-- 4. A report is answered to the end of a file only: not to a read that failed, nor to bytes, nor where there is no file. Of any record, tables, buffer and text.
pub report_at_end : (t : Telling) (f h b text : List ℕ) (heard : Heard) → T (is_report (tell_call t f h b text heard).turn.said.does) → heard ≡ End
report_at_end = only_at_end
