-- `numbers::read_number` meets its contract. Each answer is the one that the bytes read so far leave.
-- Assumes nothing.
use Prim.Native.Nat.{◌+◌, ◌*◌, ◌/◌, ◌<◌, ◌≤◌}
use native.Mathlib.Omega.{arith}
use Rattle.numbers.proofs.Laws.Reading.{Follows, follows, third_small, read_end, read_one, read_out, read_long, read_far, read_more}
use Rattle.numbers.proofs.read_number.Goals as goal
use Rattle.numbers.proofs.read_number.Goals.{After-byte_at-third}

-- Whether a third byte follows, and that what it adds is small.
more : (c : After-byte_at-third) → Follows c.byte_at-second.result (c.byte_at-second.result / 128)
more c =
    follows _ (omega (arith, c.shared_slice_known-1.given (c.args.at + 1)))

small : (c : After-byte_at-third) → (c.byte_at-second.result / 128 ≤ 1) × (c.byte_at-second.result / 128 * c.byte_at-third.result < 256)
small c =
    third_small (more c) _ (omega (arith, c.shared_slice_known-1.given (c.args.at + 2)))

pub returns-then-at-bytes : goal.returns-then-at-bytes
returns-then-at-bytes c = read_end _ _ (omega arith)

pub returns-then-first-lt128 : goal.returns-then-first-lt128
returns-then-first-lt128 c = read_one _ _ (omega arith) _ c.from-first.ensures (omega arith)

pub returns-then-next-bytes : goal.returns-then-next-bytes
returns-then-next-bytes c =
    read_out _ _ (omega arith) _ c.from-first.ensures (omega arith) _ c.byte_at-second.ensures (more (goal.at.returns-then-next-bytes c).After-byte_at-third) (omega arith)

pub returns-then-value-more : goal.returns-then-value-more
returns-then-value-more c =
    read_long _ _ (omega arith) _ c.from-first.ensures (omega arith) _ c.byte_at-second.ensures _ c.byte_at-third.ensures (more (goal.at.returns-then-value-more c).After-byte_at-third) (omega arith) (omega arith)

pub returns-then-value : goal.returns-then-value
returns-then-value c =
    read_far _ _ (omega arith) _ c.from-first.ensures (omega arith) _ c.byte_at-second.ensures _ c.byte_at-third.ensures (more (goal.at.returns-then-value c).After-byte_at-third) (omega arith) (omega arith)

pub returns : goal.returns
returns c =
    read_more _ _ (omega arith) _ c.from-first.ensures (omega arith) _ c.byte_at-second.ensures _ c.byte_at-third.ensures (more (goal.at.returns c).After-byte_at-third) (omega arith) (omega arith) (omega arith)

pub overflow_mul-value-2 : goal.overflow_mul-value-2
overflow_mul-value-2 c = omega (arith, small (goal.at.overflow_mul-value-2 c).After-byte_at-third)

pub overflow_mul-value-3 : goal.overflow_mul-value-3
overflow_mul-value-3 c = omega (arith, small (goal.at.overflow_mul-value-3 c).After-byte_at-third)

pub overflow_add-value-2 : goal.overflow_add-value-2
overflow_add-value-2 c = omega (arith, small (goal.at.overflow_add-value-2 c).After-byte_at-third)

pub overflow_mul-more : goal.overflow_mul-more
overflow_mul-more c = omega (arith, small (goal.at.overflow_mul-more c).After-byte_at-third)

pub overflow_add-more : goal.overflow_add-more
overflow_add-more c = omega (arith, small (goal.at.overflow_add-more c).After-byte_at-third)
