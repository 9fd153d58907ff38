-- Room for a page in the buffer.
use Rattle.std.proofs.Common.{◌≡◌, ℕ, ◌+◌, ◌≤◌, true, le-leb}
use Rattle.sheet.specs.Room.{page_length, page_fits}

pub page_fitting : (at end : ℕ) → at + page_length ≤ end → page_fits at end ≡ true
unfolding page_fits
page_fitting at end h = le-leb (at + page_length) end h
