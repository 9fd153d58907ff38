-- The tally: what one event makes of it.
use Rattle.std.specs.Prelude.{◌||◌, [], ◌∷◌, ℕ, zero, suc, ◌+◌, ◌*◌, ◌^◌, leb, get_or, set, replicate}
use Rattle.board.specs.declared.Tally.{Tally}
use Rattle.board.specs.declared.Counted.{Counted}
use Rattle.board.specs.Limits.{most_in_slot, last_slot, deepest}
use Rattle.board.specs.Rows.{◌if◌, first_given}

-- 'kind 0 admitted, 1 baked, 2 given up, with a grade'; 02, Seven: 'The tally gets kind 3, withdrawn'
unfoldable pub tally_kinds : ℕ
tally_kinds = 4

-- 'each of eight grades': those of the greatest depth
unfoldable pub tally_grades : ℕ
unfolding deepest
tally_grades = 2 ^ deepest

-- '8,000,000': 8 racks a slot over 1,000,000 slots
unfoldable pub tally_most : ℕ
unfolding most_in_slot last_slot
tally_most = most_in_slot * last_slot

-- 'It has a count for each kind and each of eight grades.'
unfoldable pub cell : (kind grade : ℕ) → ℕ
cell k g = k * tally_grades + g

unfoldable pub count_at : Tally → (kind grade : ℕ) → ℕ
count_at t k g = get_or t.counts (cell k g) 0

unfoldable pub zero_tally : Tally
zero_tally = record { counts = replicate (tally_kinds * tally_grades) 0 }

-- rows 9 and 10: 'kind above 2 or grade above 7', and by 02, Seven, '9 is for kinds above 3'; 'that count is already 8,000,000'
unfoldable pub tally_number : Tally → (kind grade : ℕ) → ℕ
tally_number t k g = first_given (9 if (leb tally_kinds k || leb tally_grades g) ∷ 10 if leb tally_most (count_at t k g) ∷ [])

unfoldable pub counted_if : ℕ → Tally → (kind grade : ℕ) → Counted
counted_if zero t k g = record { refusal = 0; tally = record { counts = set t.counts (cell k g) (count_at t k g + 1) } }
counted_if (suc n) t k g = record { refusal = suc n; tally = t }

-- 'takes in one event at a time'
unfoldable pub counted : Tally → (kind grade : ℕ) → Counted
counted t k g = counted_if (tally_number t k g) t k g
