-- A page as the code holds it, as the closings of the definitions.
use Rattle.std.specs.Prelude.{cond, List, map, ℕ, zero, suc, leb, take, set, replicate, Result}
use Rattle.board.specs.Held.{slot_number}
use Rattle.board.specs.declared.refusal.Refusal.{Refusal}
use Rattle.board.specs.Refusals.{refusal_number}
use Rattle.lines.specs.Sheet.{Figures, page_slots, sheet_number}
use Rattle.page.specs.declared.Figures.{Figures as FiguresHeld}
use Rattle.page.specs.declared.Page.{Page}
use Rattle.page.specs.declared.HandedOver.{HandedOver}

unfoldable pub figures_held : FiguresHeld → Figures
figures_held f = record { slot = f.slot.0; ticket = f.ticket; grade = f.grade; given_up = f.listed }

-- the closings on a page
unfoldable pub page_of : Page → List Figures
page_of p = map figures_held (take p.count p.closings)

-- a page without closings, all zero
unfoldable pub new_page : Page
new_page = record { count = 0; closings = replicate page_slots (record { slot = slot_number 0; ticket = 0; grade = 0; listed = 0 }) }

-- the place of the next closing: on a full page the first, since a new page begins
unfoldable pub next_place : (count : ℕ) → ℕ
next_place n = cond (leb page_slots n) 0 n

-- the answer to a closing by the number of its refusal; every other place of the page is as it was
unfoldable pub handed_over_if : (number : ℕ) → Page → FiguresHeld → HandedOver
handed_over_if zero p f =
    let at = next_place p.count in
    record { refusal = 0; page = record { count = suc at; closings = set p.closings at f } }
handed_over_if (suc n) p f = record { refusal = suc n; page = p }

unfoldable pub handed_over : Page → FiguresHeld → HandedOver
handed_over p f = handed_over_if (sheet_number (figures_held f)) p f

-- what is answered of a page that has become this one
abbrev pub handed : Result Unit Refusal → Page → HandedOver
handed r p = record { refusal = refusal_number r; page = p }
