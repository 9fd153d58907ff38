-- A line cut from a chunk of bytes.
use Rattle.std.specs.Prelude.{◌≡◌, cond, [], ◌∷◌, ℕ, suc, ◌+◌, ◌≤◌, ltb, length, take, drop}
use Rattle.lists.specs.Before.{before}
use Rattle.lines.specs.Bytes.{Bytes, line_end}
use Rattle.lines.specs.Machine.{extend, partial_room}
use Rattle.cutting.specs.declared.Partial.{Partial}
use Rattle.cutting.specs.declared.Cut.{Cut}

-- the bytes of the line so far
unfoldable pub partial_bytes : Partial → Bytes
partial_bytes h = take h.len h.bytes

-- the line so far with bytes added one after the other
unfoldable pub extend_all : Bytes → Bytes → Bytes
extend_all l [] = l
extend_all l (b ∷ bs) = extend_all (extend b l) bs

-- the bytes of the chunk from `from` up to `to`
unfoldable pub part : Bytes → (from to : ℕ) → Bytes
part chunk from to = drop from (take to chunk)

-- where the line that goes on at `from` ends: at the next byte 10, or else at the chunk's end
unfoldable pub line_end_from : Bytes → (from : ℕ) → ℕ
line_end_from chunk from = from + before line_end (drop from chunk)

-- a line cut from the chunk's bytes from `from` on: its bytes as far as they are kept, whether its end was met, and how far the chunk is used, that end with it
pub record CutFrom (h : Partial) (chunk : Bytes) (from : ℕ) (r : Cut) : Type 0 where
  pub line : partial_bytes r.partial ≡ extend_all (partial_bytes h) (part chunk from (line_end_from chunk from))
  pub few : r.partial.len ≤ partial_room
  pub ended : r.ended ≡ ltb (line_end_from chunk from) (length chunk)
  pub used : r.used ≡ cond r.ended (suc (line_end_from chunk from)) (line_end_from chunk from)
