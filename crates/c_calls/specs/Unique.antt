-- Two answers that meet the promise of a C call are equal, and so are the words that they leave. (A question's: `c_words.Unique.replied_decided`; of
-- begin: `c_telling.Unique.ended_decided`.)
-- Assumes nothing.
use Rattle.std.specs.Prelude.{ℕ, ◌≡◌, List}
use Rattle.std.proofs.Common.{sym, ap, ◌∙◌}
use Rattle.c_calls.specs.Call.{Returned, returned}
use Rattle.c_telling.specs.Answers.{Ended}
use Rattle.c_calls.specs.File.{HeadReply, head_reply}
use Rattle.c_calls.specs.Lists.{WriteReply, write_reply, LinkReply, link_reply}
use Rattle.c_calls.specs.Tell.{Told, told}

-- Start, adopt, open reading, take and close: whatever x the promise asks for.
pub returned_decided : (x : Returned) (r s a b : ℕ) (w u fa fb ha hb : List ℕ) → returned r a w fa ha ≡ x → returned s b u fb hb ≡ x
    → (r ≡ s) × (a ≡ b) × (w ≡ u) × (fa ≡ fb) × (ha ≡ hb)
returned_decided x r s a b w u fa fb ha hb p q =
    let e = p ∙ sym q in (
      ap (λ (y : Returned). y.reply.number) e,
      ap (λ (y : Returned). y.reply.word) e,
      ap (λ (y : Returned). y.state) e,
      ap (λ (y : Returned). y.frag) e,
      ap (λ (y : Returned). y.held) e,
    )

-- The head of a list file.
pub head_decided : (x : HeadReply) (r s n m a b : ℕ) → head_reply r n a ≡ x → head_reply s m b ≡ x → (r ≡ s) × (n ≡ m) × (a ≡ b)
head_decided x r s n m a b p q =
    let e = p ∙ sym q in
    (ap (λ (y : HeadReply). y.number) e, ap (λ (y : HeadReply). y.fragments) e, ap (λ (y : HeadReply). y.begins) e)

-- Tell: the number, the words of the telling, both tables, the buffer and the text.
pub told_decided : (x : Told) (d e : Ended) (fa fb ha hb ba bb ta tb : List ℕ) → told d fa ha ba ta ≡ x → told e fb hb bb tb ≡ x
    → (d ≡ e) × (fa ≡ fb) × (ha ≡ hb) × (ba ≡ bb) × (ta ≡ tb)
told_decided x d e fa fb ha hb ba bb ta tb p q =
    let r = p ∙ sym q in
    (ap (λ (y : Told). y.end) r, ap (λ (y : Told). y.frag) r, ap (λ (y : Told). y.held) r, ap (λ (y : Told). y.buffer) r, ap (λ (y : Told). y.text) r)

-- The list writer, and a link.
pub write_decided : (x : WriteReply) (r s a b : ℕ) (w u : List ℕ) → write_reply r a w ≡ x → write_reply s b u ≡ x → (r ≡ s) × (a ≡ b) × (w ≡ u)
write_decided x r s a b w u p q =
    let e = p ∙ sym q in
    (ap (λ (y : WriteReply). y.number) e, ap (λ (y : WriteReply). y.size) e, ap (λ (y : WriteReply). y.buffer) e)

pub link_decided : (x : LinkReply) (r s a b c d m n : ℕ) → link_reply r a c m ≡ x → link_reply s b d n ≡ x → (r ≡ s) × (a ≡ b) × (c ≡ d) × (m ≡ n)
link_decided x r s a b c d m n p q =
    let e = p ∙ sym q in
    (ap (λ (y : LinkReply). y.number) e, ap (λ (y : LinkReply). y.first) e, ap (λ (y : LinkReply). y.second) e, ap (λ (y : LinkReply). y.next) e)
