-- A line put where there is room for any.
use mathlib.Core.Path.{sym, ap}
use mathlib.Core.List.{List}
use Prim.Native.Nat.{ℕ, ◌+◌, ◌≤◌}
use lib.Dec.{leb}
use lib.ListN.{length, take}
use lib.Seq.{take_all}
use Rattle.lines.specs.Bytes.{Bytes}
use Rattle.lines.specs.Printing.{printed}
use Rattle.buffer.specs.Puts.{PutWithin, PutIf}
use Rattle.buffer.proofs.Fitting.{room_put}
use Rattle.buffer.proofs.Pieces.{put_as}
use Rattle.printing.specs.Lines.{line_numbers, room}

-- a line of no more numbers than a line has, where there is room for any
pub line_put : (letter : ℕ) (ns : List ℕ) {out : Bytes} {at r : ℕ} {out' : Bytes} → length ns ≤ line_numbers → at + room ≤ length out
    → PutIf (leb (at + room) (length out)) room (printed letter (take line_numbers ns)) out at r out' → PutWithin room (printed letter ns) out at r out'
line_put letter ns few h p = put_as (ap (printed letter) (sym (take_all line_numbers ns few))) (room_put h p)
