-- A part of the links, cut anywhere: what is told of it, and what is carried over.
-- Assumes nothing.
use Rattle.std.specs.Prelude.{ℕ, ◌+◌, ◌-◌, ◌≤◌, Bool, ◌⊎◌, ◌≡◌, length, drop}
use Rattle.std.proofs.Math.Bool.{true, false}
use mathlib.Core.List.{List, ◌++◌, append_assoc}
use Rattle.std.proofs.Common.{inl, sym, ◌∙◌, arith, zero-add, le-ltb, length-append, length-drop, take-append-drop, take-take, length-take-le}
use Rattle.std.proofs.Math.Logic.{inr}
use Rattle.std.proofs.Math.Path.{refl, ap}
use Rattle.std.proofs.Math.ListN.{take}
use Rattle.std.proofs.lemmas.List.{take-append-le, drop-append-le}
use Rattle.std.proofs.Math.Seq.{take-append-add, drop-drop}
use Rattle.base.specs.Pick.{pick_true, pick_false}
use Rattle.base.specs.Answer.{Answer, gives, refuses}
use Rattle.base.specs.Link.{Link}
use Rattle.numbers.proofs.Laws.Writing.{length_put}
use Rattle.lists.specs.List.{and_then, block_links, cut_block}
use Rattle.lists.specs.Words.{shifted}
use Rattle.lists.specs.Laws.Link.{never_both}
use Rattle.lists.specs.Theorems.{blocks_join, parts_join, cut_inside}
use Rattle.rules.specs.Tables.{Tables}
use Rattle.state.specs.Call.{Left, refused}
use Rattle.state.specs.Take.{take_call}
use Rattle.state.specs.declared.State.{State}
use Rattle.parts.specs.Parts.{wrapped, place_in, carried, tellable, fed_by, fed, feed_part}
use Rattle.parts.specs.Laws.{carried_front, fed_block, fed_last}
use Rattle.telling.specs.Tell.{reads, Goes, telling_of, refusing, feeding_by, feeding}
use Rattle.telling.specs.declared.Step.TheVariants.{Links}
use Rattle.printed.specs.Printed.{refused_at, closes_or}
use Rattle.printed.proofs.Laws.Pass.{Under, take_refused, take_accepted, take_under, Leads, leads_refused, closes_leads}

-- Two blocks, of which the first is accepted.
both_accepted : (n : ℕ) (s u : List ℕ) (g h : List Link) → block_links n 0 s ≡ gives g → block_links n (length g) u ≡ gives h → block_links n 0 (s ++ u) ≡ gives (g ++ h)
unfolding and_then shifted
both_accepted n s u g h a b = let z : block_links n (0 + length g) u ≡ gives h = rw (zero-add (length g)) b in blocks_join n 0 s u (λ place x. never_both a x) ∙ rw (a, z) refl

then_refused : (n : ℕ) (s u : List ℕ) (g : List Link) (number place : ℕ) → block_links n 0 s ≡ gives g → block_links n (length g) u ≡ refuses number place
    → block_links n 0 (s ++ u) ≡ refuses number (length s + place)
unfolding and_then shifted
then_refused n s u g number place a b =
    let z : block_links n (0 + length g) u ≡ refuses number place = rw (zero-add (length g)) b in blocks_join n 0 s u (λ q x. never_both a x) ∙ rw (a, z) refl

cut_refused : (n e : ℕ) (u rest : List ℕ) (number place : ℕ) → block_links n e (take (cut_block u) u) ≡ refuses number place → block_links n e (u ++ rest) ≡ refuses number place
unfolding and_then
cut_refused n e u rest number place b = parts_join n e u rest ∙ rw b refl

-- The place in the file is the same, from wherever it is counted.
place_same : (begins told number place offset : ℕ) → offset ≡ wrapped (begins + told) → place_in offset number place ≡ place_in begins number (told + place)
unfolding place_in
place_same begins told number place offset e =
    let z : wrapped (offset + place) ≡ wrapped (begins + (told + place)) = rw e (omega arith) in
    rw z refl

wrapped_more : (begins told end offset : ℕ) → offset ≡ wrapped (begins + told) → wrapped (offset + end) ≡ wrapped (begins + (told + end))
wrapped_more begins told end offset e = rw e (omega arith)

pub carried_length : (from len : ℕ) (b : List ℕ) → from ≤ len → len ≤ length b → length (carried from len b) ≡ length b
unfolding carried
carried_length from len b g h = length_put b 0 (take (len - from) (drop from b)) (omega (arith, length-take-le (len - from) (drop from b) (omega (arith, length-drop from b))))

pub take_both : (i j : ℕ) (b : List ℕ) → i ≤ length b → take (i + j) b ≡ take i b ++ take j (drop i b)
take_both i j b h =
    let e : length (take i b) ≡ i = length-take-le i b h in
    ap (λ (m : ℕ). take (m + j) b) (sym e) ∙ ap (take (length (take i b) + j)) (sym (take-append-drop i b)) ∙ take-append-add (take i b) (drop i b) j

-- The bytes behind the head that were read: the first `told` of them are told, the others stand at the buffer's front.
pub record Linked (k : ℕ) (r : Bool) (n p : ℕ) (t : Tables) (s : State) (f h b : List ℕ) (begins offset have : ℕ) (links : List ℕ) : Type 0 where
  pub g : List Link
  pub told : ℕ
  pub under : Under k r n p t g s f h
  pub within : told ≤ length links
  pub accepts : block_links n 0 (take told links) ≡ gives g
  pub placed : offset ≡ wrapped (begins + told)
  pub carry : take have b ≡ drop told links
  pub left : have ≡ length links - told

module _ {k : ℕ} {r : Bool} {n p : ℕ} {t : Tables} {s : State} {f h b : List ℕ} {begins offset len : ℕ} {links : List ℕ}
    (L : Linked k r n p t s f h b begins offset len links) (l : len ≤ length b) (text : List ℕ) where
  whole_told : take L.told links ++ take len b ≡ links
  whole_told = rw L.carry (take-append-drop L.told links)

  told_length : length (take L.told links) ≡ L.told
  told_length = length-take-le L.told links L.within

  abbrev block : Bool → List ℕ
  block last = take (tellable len last b) b

  abbrev took : Bool → Left (Unit {0})
  took last = take_call s f h (block last)

  fed_by_lem : (last : Bool) (x : Answer (Unit {0})) → (took last).answer ≡ x → feed_part s f h b len offset last ≡ fed_by len offset (tellable len last b) b (took last) x
  unfolding feed_part fed
  fed_by_lem last x e = rw (le-ltb (length b) len l) (pick_false _ _ ∙ ap (fed_by len offset (tellable len last b) b (took last)) e)

  -- The block is refused.
  module _ (last : Bool) (number place : ℕ) (e : block_links n (length L.g) (block last) ≡ refuses number place) where
    refused_part : feed_part s f h b len offset last ≡ record { left = refused s f h number (place_in offset number place); buffer = b }
    unfolding fed_by
    refused_part =
        let z : took last ≡ refused s f h number place = take_refused L.under (block last) number place e in
        fed_by_lem last (refuses number place) (ap (λ (y : Left (Unit {0})). y.answer) z)
        ∙ ap (λ (y : Left (Unit {0})). record { left = record { answer = refuses number (place_in offset number place); state = y.state; frag = y.frag; held = y.held }; buffer = b }) z

    refused_said : (feeding last text (feed_part s f h b len offset last)).turn.said ≡ refusing number (place_in begins number (L.told + place)) text
    unfolding feeding feeding_by
    refused_said = rw refused_part (ap (λ (i : ℕ). refusing number i text) (place_same begins L.told number place offset L.placed))

  -- The block is accepted.
  module _ (last : Bool) (g' : List Link) (e : block_links n (length L.g) (block last) ≡ gives g') where
    accepted_under : Under k r n p t (L.g ++ g') (took last).state (took last).frag (took last).held
    accepted_under = take_under L.under (block last) g' e

    accepted_part : feed_part s f h b len offset last ≡ record {
      left = record {
        answer = gives (record { offset = wrapped (offset + tellable len last b); have = len - tellable len last b });
        state = (took last).state;
        frag = (took last).frag;
        held = (took last).held;
      };
      buffer = carried (tellable len last b) len b;
    }
    unfolding fed_by
    accepted_part = fed_by_lem last (gives tt) (take_accepted L.under (block last) g' e)

  -- At the end of the file all of it is told.
  end_by : (x : Answer (List Link)) → block_links n (length L.g) (block true) ≡ x → Leads k text (closes_or k begins r n p t (block_links n 0 links)) (feeding true text (feed_part s f h b len offset true)).turn
  unfolding closes_or feeding feeding_by
  end_by (gives g') e =
      let z : block_links n 0 links ≡ gives (L.g ++ g') = ap (block_links n 0) (sym whole_told) ∙ both_accepted n _ (take len b) L.g g' L.accepts (ap (block_links n (length L.g)) (sym (fed_last b len l)) ∙ e) in
      rw (z, accepted_part true g' e, pick_true) (closes_leads r (accepted_under true g' e) text)
  end_by (refuses number place) e =
      let z : block_links n 0 links ≡ refuses number (length (take L.told links) + place)
      = ap (block_links n 0) (sym whole_told) ∙ then_refused n _ (take len b) L.g number place L.accepts (ap (block_links n (length L.g)) (sym (fed_last b len l)) ∙ e) in
      leads_refused k text (closes_or k begins r n p t (block_links n 0 links)) (feeding true text (feed_part s f h b len offset true)).turn number (place_in begins number (L.told + place))
      (rw (z, told_length) refl) (refused_said true number place e)

  pub feed_end : Leads k text (closes_or k begins r n p t (block_links n 0 links)) (feeding true text (feed_part s f h b len offset true)).turn
  feed_end = end_by (block_links n (length L.g) (block true)) refl

  -- Before it, all whole links are told, and what is left is carried over; a refusal is that of the whole list, whatever comes.
  abbrev GoesOn : Goes → Type 0
  GoesOn u =
      ((s' : State) × (offset' : ℕ) × (have' : ℕ) × (u.turn.said ≡ record { does = reads (telling_of s' Links offset' have'); text = text })
      × Linked k r n p t s' u.turn.frag u.turn.held u.buffer begins offset' have' links)
      ⊎ ((number : ℕ) × (place : ℕ) × (u.turn.said ≡ refusing number place text)
      × ((rest : List ℕ) → closes_or k begins r n p t (block_links n 0 (links ++ rest)) ≡ refused_at number place))

  told_cut : tellable len false b ≡ cut_block (take len b)
  unfolding tellable
  told_cut = pick_false _ _

  cut_most : tellable len false b ≤ len
  cut_most = rw told_cut (omega (arith, cut_inside (take len b), length-take-le len b l))

  cut_of_links : take (tellable len false b) b ≡ take (tellable len false b) (drop L.told links)
  cut_of_links = rw (← L.carry) (sym (take-take (tellable len false b) len b cut_most))

  on_by : (x : Answer (List Link)) → block_links n (length L.g) (block false) ≡ x → GoesOn (feeding false text (feed_part s f h b len offset false))
  unfolding feeding feeding_by closes_or
  on_by (gives g') e =
      let c = tellable len false b in
      let a = take_both L.told c links L.within in
      let q = both_accepted n (take L.told links) (block false) L.g g' L.accepts e in
      let z : block_links n 0 (take (L.told + c) links) ≡ gives (L.g ++ g') = ap (block_links n 0) (a ∙ ap (λ (y : List ℕ). take L.told links ++ y) (sym cut_of_links)) ∙ q in
      rw (accepted_part false g' e, pick_false)
      (inl (
        (took false).state,
        wrapped (offset + c),
        len - c,
        refl,
        record {
          g = L.g ++ g';
          told = L.told + c;
          under = accepted_under false g' e;
          within = omega (arith, cut_most, L.left, L.within);
          accepts = z;
          placed = wrapped_more begins L.told c offset L.placed;
          carry = carried_front b len l c cut_most ∙ ap (drop c) L.carry ∙ drop-drop c L.told links;
          left = omega (arith, cut_most, L.left, L.within);
        },
      ))
  on_by (refuses number place) e =
      let a : block_links n (length L.g) (take (cut_block (take len b)) (take len b)) ≡ refuses number place = ap (block_links n (length L.g)) (sym (fed_block b len l)) ∙ e in
      inr (
        number,
        place_in begins number (L.told + place),
        refused_said false number place e,
        λ rest.
            let y : links ++ rest ≡ take L.told links ++ (take len b ++ rest) = ap (λ (i : List ℕ). i ++ rest) (sym whole_told) ∙ append_assoc (take L.told links) (take len b) rest in
            let z = then_refused n (take L.told links) (take len b ++ rest) L.g number place L.accepts (cut_refused n (length L.g) (take len b) rest number place a) in
            rw (y, z, told_length) refl,
      )

  pub feed_on : GoesOn (feeding false text (feed_part s f h b len offset false))
  feed_on = on_by (block_links n (length L.g) (block false)) refl

  -- The buffer stays as long as it is.
  long_by : (last : Bool) (x : Answer (List Link)) → block_links n (length L.g) (block last) ≡ x → tellable len last b ≤ len → length (feeding last text (feed_part s f h b len offset last)).buffer ≡ length b
  unfolding feeding feeding_by
  long_by true (gives g') e c = rw (accepted_part true g' e, pick_true) (carried_length _ len b c l)
  long_by false (gives g') e c = rw (accepted_part false g' e, pick_false) (carried_length _ len b c l)
  long_by last (refuses number place) e c = rw (refused_part last number place e) refl

  pub feed_long : (last : Bool) → length (feeding last text (feed_part s f h b len offset last)).buffer ≡ length b
  unfolding tellable
  feed_long true = long_by true (block_links n (length L.g) (block true)) refl (rw pick_true (omega arith))
  feed_long false = long_by false (block_links n (length L.g) (block false)) refl cut_most

-- More bytes are read behind those that are carried.
pub linked_more : {k : ℕ} {r : Bool} {n p : ℕ} {t : Tables} {s : State} {f h b : List ℕ} {begins offset have : ℕ} {links : List ℕ} → Linked k r n p t s f h b begins offset have links
    → (b' : List ℕ) (count : ℕ) → take have b' ≡ take have b → have + count ≤ length b'
    → Linked k r n p t s f h b' begins offset (have + count) (links ++ take count (drop have b'))
linked_more {have = have} {links = links} L b' count e l =
    let p : length (take count (drop have b')) ≡ count = length-take-le count (drop have b') (omega (arith, length-drop have b')) in
    record {
      g = L.g;
      told = L.told;
      under = L.under;
      within = rw length-append (omega (arith, L.within));
      accepts = rw (take-append-le L.told links (take count (drop have b')) L.within) L.accepts;
      placed = L.placed;
      carry = take_both have count b' (omega arith) ∙ ap (λ (y : List ℕ). y ++ take count (drop have b')) (e ∙ L.carry) ∙ sym (drop-append-le L.told links (take count (drop have b')) L.within);
      left = rw (length-append, p) (omega (arith, L.left, L.within));
    }
