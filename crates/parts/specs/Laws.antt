-- What a part is told of, and what is carried over.
-- Assumes nothing.
use Rattle.std.specs.Prelude.{◌≡◌, ℕ, ◌+◌, ◌-◌, ◌≤◌, true, false, List, ◌++◌, length, take, drop}
use Rattle.std.proofs.Math.Path.{refl, sym, ap}
use Rattle.std.proofs.Common.{◌∙◌, arith, take-take}
use Rattle.std.proofs.Math.ListN.{length-drop}
use Rattle.std.proofs.Math.Seq.{take-append_seam, length-take-le}
use Rattle.base.specs.Pick.{pick_true, pick_false}
use Rattle.numbers.specs.Number.{put}
use Rattle.numbers.proofs.Laws.Groups.{drop_take}
use Rattle.lists.specs.List.{cut_block}
use Rattle.lists.specs.Theorems.{cut_inside}
use Rattle.parts.specs.Parts.{carried, tellable}

-- What is carried over stands at the front.
module _ (b : List ℕ) (len : ℕ) (g : len ≤ length b) where
  pub carried_front : (from : ℕ) → from ≤ len → take (len - from) (carried from len b) ≡ drop from (take len b)
  unfolding carried put
  carried_front from k =
      let e : len - from ≡ length (take (len - from) (drop from b)) = sym (length-take-le (len - from) (drop from b) (rw length-drop (omega arith))) in
      ap (λ (i : ℕ). take i (take (len - from) (drop from b) ++ drop (0 + length (take (len - from) (drop from b))) b)) e
      ∙ take-append_seam (take (len - from) (drop from b)) _
      ∙ drop_take from len b

  -- The block that is told of a part: its first bytes up to the last whole link; at the file's end all of it.
  pub fed_block : take (tellable len false b) b ≡ take (cut_block (take len b)) (take len b)
  unfolding tellable
  fed_block =
      let l : cut_block (take len b) ≤ len = omega (arith, cut_inside (take len b), length-take-le len b g) in
      rw (pick_false len (cut_block (take len b))) (sym (take-take (cut_block (take len b)) len b l))

  pub fed_last : take (tellable len true b) b ≡ take len b
  unfolding tellable
  fed_last = rw (pick_true len (cut_block (take len b))) refl
