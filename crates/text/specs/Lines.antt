-- Which bytes each line of the report has: document 01, 'The program `report`'. Definitions only. Text stands by the codes of its letters.
-- Assumes nothing.
use Rattle.std.specs.Prelude.{ℕ, zero, suc, ◌+◌, ◌/◌, ◌%◌, Bool, List, [], ◌∷◌, ◌++◌, ltb, length}
use Rattle.base.specs.Pick.{pick}
use Rattle.base.specs.Answer.{gives, refuses}
use Rattle.numbers.specs.Number.{Wrote, put}

-- A number in decimal digits, 0 being 48, with no zero in front. The first argument counts down; a number has at most one digit more than its value.
unfoldable pub digits_in : (turns : ℕ) → ℕ → List ℕ
digits_in zero x = []
digits_in (suc k) x = pick (ltb x 10) [] (digits_in k (x / 10)) ++ ((x % 10 + 48) ∷ [])

unfoldable pub decimal : ℕ → List ℕ
decimal x = digits_in (suc x) x

-- A word, and a number behind it.
unfoldable pub item : List ℕ → ℕ → List ℕ
item word x = word ++ decimal x

-- `fragments N links L passes P`; each line ends with a newline, 10.
unfoldable pub first_line : (n links passes : ℕ) → List ℕ
first_line n links passes =
    item (102 ∷ 114 ∷ 97 ∷ 103 ∷ 109 ∷ 101 ∷ 110 ∷ 116 ∷ 115 ∷ 32 ∷ []) n
    ++ (item (32 ∷ 108 ∷ 105 ∷ 110 ∷ 107 ∷ 115 ∷ 32 ∷ []) links
    ++ (item (32 ∷ 112 ∷ 97 ∷ 115 ∷ 115 ∷ 101 ∷ 115 ∷ 32 ∷ []) passes
    ++ (10 ∷ [])))

-- ` cut yes`, ` cut no`
unfoldable pub cut_word : Bool → List ℕ
cut_word c = pick c (32 ∷ 99 ∷ 117 ∷ 116 ∷ 32 ∷ 121 ∷ 101 ∷ 115 ∷ 10 ∷ []) (32 ∷ 99 ∷ 117 ∷ 116 ∷ 32 ∷ 110 ∷ 111 ∷ 10 ∷ [])

-- `v parent p piece q cut yes|no`
unfoldable pub fragment_line : (v p q : ℕ) → Bool → List ℕ
fragment_line v p q c =
    item [] v
    ++ (item (32 ∷ 112 ∷ 97 ∷ 114 ∷ 101 ∷ 110 ∷ 116 ∷ 32 ∷ []) p
    ++ (item (32 ∷ 112 ∷ 105 ∷ 101 ∷ 99 ∷ 101 ∷ 32 ∷ []) q
    ++ cut_word c))

-- `sole a b`
unfoldable pub sole_line : (a b : ℕ) → List ℕ
sole_line a b = item (115 ∷ 111 ∷ 108 ∷ 101 ∷ 32 ∷ []) a ++ (item (32 ∷ []) b ++ (10 ∷ []))

-- 'On a refusal it prints only `refused R at P`'
unfoldable pub refusal_line : (number place : ℕ) → List ℕ
refusal_line number place =
    item (114 ∷ 101 ∷ 102 ∷ 117 ∷ 115 ∷ 101 ∷ 100 ∷ 32 ∷ []) number
    ++ (item (32 ∷ 97 ∷ 116 ∷ 32 ∷ []) place
    ++ (10 ∷ []))

-- 'No such file: `no file`.'
unfoldable pub no_file_line : List ℕ
no_file_line = 110 ∷ 111 ∷ 32 ∷ 102 ∷ 105 ∷ 108 ∷ 101 ∷ 10 ∷ []

-- '3: .. a writer's buffer, is too short'. The answer is the position after the text; the bytes past it stay, and on a refusal all of them.
unfoldable pub store : List ℕ → List ℕ → Wrote
store out bytes =
    pick (ltb (length out) (length bytes))
    (record { answer = refuses 3 0; buffer = out })
    (record { answer = gives (length bytes); buffer = put out 0 bytes })
