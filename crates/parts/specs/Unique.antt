-- Each promise of this crate decides the answer and every lent word: two answers that say the same are equal.
-- Assumes nothing.
use Rattle.std.specs.Prelude.{◌≡◌, ℕ, List, refl, Ok, Err}
use Rattle.std.proofs.Common.{sym, ap, ◌∙◌}
use Rattle.base.specs.Answer.{Answer, gives, refuses}
use Rattle.state.specs.declared.State.{State}
use Rattle.parts.specs.Parts.{Header, Opens, Carry, Feeds}
use Rattle.parts.specs.Answers.{Opened, Fed, opened_told, fed_told}

abbrev back_open : Answer Header → Opened
back_open (gives l) = Ok (l.fragments, l.begins, l.have)
back_open (refuses number place) = Err (record { number = number; place = place })

open_back : (a : Opened) (b : List ℕ) → back_open (opened_told a b).answer ≡ a
open_back (Ok (n, begins, have)) b = refl
open_back (Err r) b = refl

open_kept : (a : Opened) (b : List ℕ) → (opened_told a b).buffer ≡ b
open_kept (Ok (n, begins, have)) b = refl
open_kept (Err r) b = refl

pub open_once : (a a' : Opened) (b b' : List ℕ) → opened_told a b ≡ opened_told a' b' → (a ≡ a') × (b ≡ b')
open_once a a' b b' e = (
  sym (open_back a b) ∙ ap (λ (o : Opens). back_open o.answer) e ∙ open_back a' b',
  sym (open_kept a b) ∙ ap (λ (o : Opens). o.buffer) e ∙ open_kept a' b',
)

abbrev back_fed : Answer Carry → State → Fed
back_fed (gives l) s = Ok (s, l.offset, l.have)
back_fed (refuses number place) s = Err (record { number = number; place = place })

module _ (s : State) (f h b : List ℕ) where
  fed_back : (a : Fed) → back_fed (fed_told s a f h b).left.answer (fed_told s a f h b).left.state ≡ a
  fed_back (Ok (s', offset, have)) = refl
  fed_back (Err r) = refl

  fed_kept : (a : Fed) → ((fed_told s a f h b).left.frag ≡ f) × ((fed_told s a f h b).left.held ≡ h) × ((fed_told s a f h b).buffer ≡ b)
  fed_kept (Ok (s', offset, have)) = (refl, refl, refl)
  fed_kept (Err r) = (refl, refl, refl)

pub fed_once : (s : State) (a a' : Fed) (f f' h h' b b' : List ℕ) → fed_told s a f h b ≡ fed_told s a' f' h' b' → (a ≡ a') × (f ≡ f') × (h ≡ h') × (b ≡ b')
fed_once s a a' f f' h h' b b' e =
    let k = fed_kept s f h b a in
    let k' = fed_kept s f' h' b' a' in (
      sym (fed_back s f h b a) ∙ ap (λ (o : Feeds). back_fed o.left.answer o.left.state) e ∙ fed_back s f' h' b' a',
      sym k.0 ∙ ap (λ (o : Feeds). o.left.frag) e ∙ k'.0,
      sym k.1 ∙ ap (λ (o : Feeds). o.left.held) e ∙ k'.1,
      sym k.2 ∙ ap (λ (o : Feeds). o.buffer) e ∙ k'.2,
    )
