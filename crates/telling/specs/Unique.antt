-- The promise of `tell` decides the answer and every lent word: two answers that say the same are equal.
-- Assumes nothing.
use Rattle.std.specs.Prelude.{ℕ, List, ◌≡◌, refl}
use Rattle.std.proofs.Common.{sym, ap, ◌∙◌}
use Rattle.telling.specs.Tell.{Does, reads, rereads, reports, refuses_at, lacks, fails, next_does, Goes, goes}
use Rattle.telling.specs.declared.Next.{Next}
use Rattle.telling.specs.declared.Next.TheVariants.{More, Again, Report, Refused, NoFile as Absent, Failed as Unread}

abbrev back : Does → Next
back (reads t) = More t
back (rereads t) = Again t
back (reports s size) = Report s size
back (refuses_at number place size) = Refused (record { number = number; place = place }) size
back (lacks size) = Absent size
back fails = Unread

next_back : (r : Next) → back (next_does r) ≡ r
next_back (More t) = refl
next_back (Again t) = refl
next_back (Report s size) = refl
next_back (Refused r size) = refl
next_back (Absent size) = refl
next_back Unread = refl

pub next_once : (r r' : Next) (f f' h h' b b' x x' : List ℕ) → goes r f h b x ≡ goes r' f' h' b' x' → (r ≡ r') × (f ≡ f') × (h ≡ h') × (b ≡ b') × (x ≡ x')
next_once r r' f f' h h' b b' x x' e = (
  sym (next_back r) ∙ ap (λ (u : Goes). back u.turn.said.does) e ∙ next_back r',
  ap (λ (u : Goes). u.turn.frag) e,
  ap (λ (u : Goes). u.turn.held) e,
  ap (λ (u : Goes). u.buffer) e,
  ap (λ (u : Goes). u.turn.said.text) e,
)
