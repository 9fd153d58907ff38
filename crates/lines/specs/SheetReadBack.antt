-- 02, Two: 'Each figure on a page must equal the closings it was made from.' What a reader of the sheet finds in the columns that 02 names.
use Rattle.std.specs.Prelude.{◌≡◌, cond, ℕ, ◌+◌, ◌*◌, ◌-◌, ◌/◌, ◌%◌, ◌≤◌, ◌<◌, ltb, eqb, length, take, drop, get_or, replicate}
use mathlib.Core.List.{List, [], ◌∷◌, ◌++◌, map, flat_map, sum}
use Rattle.lists.specs.Select.{select}
use Rattle.lines.specs.Bytes.{Bytes, line_end, lines, letter_G}
use Rattle.lines.specs.Fields.{value}
use Rattle.lines.specs.Printing.{decimal}
use Rattle.lines.specs.Session.{run}
use Rattle.lines.specs.Sheet.{space, Figures, closings_in, sheet, sheet_number}

-- the bytes of a line in these columns, counted from 1
unfoldable pub columns : (from to : ℕ) → Bytes → Bytes
columns from to l = drop (from - 1) (take to l)

-- without the spaces before the first other byte
unfoldable pub past_spaces : Bytes → Bytes
past_spaces [] = []
past_spaces (b ∷ bs) = cond (eqb b space) (past_spaces bs) (b ∷ bs)

-- A figure stands in these columns: spaces, and then its digits up to the last column; and they are read as this number.
pub record Stands (from to : ℕ) (l : Bytes) (n : ℕ) : Type 0 where
  pub digits : past_spaces (columns from to l) ≡ decimal n
  pub number : value (past_spaces (columns from to l)) ≡ n

-- 'spaces elsewhere'
unfoldable pub Blank : (from to : ℕ) → Bytes → Type 0
Blank from to l = columns from to l ≡ replicate (to + 1 - from) space

-- 'slot in columns 1 to 7, ticket in 9 to 18, grade in 20, racks given up in 22 to 24, all decimal and to the right, spaces elsewhere'
pub record SlotLine (f : Figures) (l : Bytes) : Type 0 where
  pub slot : Stands 1 7 l f.slot
  pub after_slot : Blank 8 8 l
  pub ticket : Stands 9 18 l f.ticket
  pub after_ticket : Blank 19 19 l
  pub grade : Stands 20 20 l f.grade
  pub after_grade : Blank 21 21 l
  pub given_up : Stands 22 24 l f.given_up

-- 'that page's number baked in 9 to 18 and given up in 19 to 24, spaces elsewhere': its slots with a ticket, and the sum of its figures
pub record TotalsLine (fs : List Figures) (l : Bytes) : Type 0 where
  pub before : Blank 1 8 l
  pub baked : Stands 9 18 l (length (select (λ f. ltb 0 f.ticket) fs))
  pub given_up : Stands 19 24 l (sum ◌+◌ 0 (map (λ f. f.given_up) fs))

-- `   SLOT     TICKET G OUT`
unfoldable pub heading_text : Bytes
heading_text =
    32 ∷ 32 ∷ 32 ∷ 83 ∷ 76 ∷ 79 ∷ 84 ∷ 32 ∷ 32 ∷ 32 ∷ 32 ∷ 32 ∷ 84 ∷ 73 ∷ 67 ∷ 75 ∷ 69 ∷ 84 ∷ 32 ∷ letter_G ∷ 32 ∷ 79 ∷ 85 ∷ 84 ∷ []

-- a page for each 48 closings that are begun: 48k closings are k pages, none is no page
unfoldable pub page_count : ℕ → ℕ
page_count n = (n + 47) / 48

-- The lines of a sheet are the closings': page j from 0 has its heading in line 50j, the closing 48j + i in line 50j + 1 + i, spaces where there is no
-- such closing, and in line 50j + 49 the totals of its own closings.
pub record SheetOf (fs : List Figures) (ls : List Bytes) : Type 0 where
  pub line_count : length ls ≡ 50 * page_count (length fs)
  pub line_length : (n : ℕ) → n < length ls → length (get_or ls n []) ≡ 24
  pub headings : (j : ℕ) → j < page_count (length fs) → get_or ls (50 * j) [] ≡ heading_text
  pub slots : (i : ℕ) (none : Figures) → i < length fs → SlotLine (get_or fs i none) (get_or ls (50 * (i / 48) + 1 + i % 48) [])
  pub filled : (i : ℕ) → length fs ≤ i → i < 48 * page_count (length fs) → Blank 1 24 (get_or ls (50 * (i / 48) + 1 + i % 48) [])
  pub totals : (j : ℕ) → j < page_count (length fs) → TotalsLine (take 48 (drop (48 * j) fs)) (get_or ls (50 * j + 49) [])

-- the sheet of an input read back: every line has its line end, the lines are those of the run's closings, and 16 refuses none of these
pub record ReadBack (input : Bytes) : Type 0 where
  pub line_ends : sheet input ≡ flat_map (λ l. l ++ (line_end ∷ [])) (lines (sheet input))
  pub sheet_of : SheetOf (closings_in (run input).answers) (lines (sheet input))
  pub none_refused : (i : ℕ) (none : Figures) → i < length (closings_in (run input).answers) → sheet_number (get_or (closings_in (run input).answers) i none) ≡ 0

unfoldable pub SheetReadBack : Type 0
SheetReadBack = (input : Bytes) → ReadBack input
