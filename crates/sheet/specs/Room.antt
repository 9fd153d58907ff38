-- The room that a page's print needs.
use Rattle.std.specs.Prelude.{Bool, ℕ, ◌+◌, ◌*◌, leb}
use Rattle.lines.specs.Sheet.{line_columns, page_slots}

-- `PAGE_LENGTH`: bytes of a page, which are a heading, the slots and the totals, each with its line end
unfoldable pub page_length : ℕ
unfolding page_slots line_columns
page_length = (1 + page_slots + 1) * (line_columns + 1)

-- from `at` up to `end` there is room for a page
unfoldable pub page_fits : (at end : ℕ) → Bool
page_fits at end = leb (at + page_length) end
