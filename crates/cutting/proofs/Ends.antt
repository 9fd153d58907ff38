-- Where a line ends in a chunk.
use mathlib.Core.Path.{◌≡◌, sym, ap, ◌∙◌}
use mathlib.Core.Bool.{true}
use Prim.Native.Nat.{ℕ, ◌≤◌, ◌<◌}
use native.Mathlib.Omega.{arith}
use lib.ListN.{length, take, drop, get_or, length-drop}
use lib.Seq.{length-take-le, take-add, drop_at, get_or-drop}
use Rattle.lists.specs.Before.{before}
use Rattle.lists.proofs.Before.{before_within, before_other, before_found}
use Rattle.lines.specs.Bytes.{Bytes, line_end}
use Rattle.lines.proofs.Cutting.{one_line}
use Rattle.cutting.specs.Cut.{part, line_end_from}

module _ (chunk : Bytes) (from : ℕ) (h : from ≤ length chunk) where
  pub end_forward : from ≤ line_end_from chunk from
  unfolding line_end_from
  end_forward = omega arith

  pub end_inside : line_end_from chunk from ≤ length chunk
  unfolding line_end_from
  end_inside = omega (arith, before_within line_end (drop from chunk), length-drop from chunk)

  -- no byte before it ends a line
  pub end_first : one_line (part chunk from (line_end_from chunk from)) ≡ true
  unfolding line_end_from part
  end_first =
      let n = before line_end (drop from chunk) in
      ap one_line (ap (drop from) (take-add from n chunk) ∙ drop_at (take from chunk) (take n (drop from chunk)) from (length-take-le from chunk h))
      ∙ before_other line_end (drop from chunk)

  -- and there a byte does, if any is left
  pub end_found : line_end_from chunk from < length chunk → get_or chunk (line_end_from chunk from) 0 ≡ line_end
  unfolding line_end_from
  end_found k =
      let n = before line_end (drop from chunk) in
      sym (get_or-drop from chunk n 0) ∙ before_found line_end (drop from chunk) (omega (arith, length-drop from chunk))
