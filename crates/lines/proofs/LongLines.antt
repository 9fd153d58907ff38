-- Of a line the bytes that are kept decide: a longer one gets number 11 whatever else it holds.
use mathlib.Core.Path.{◌≡◌, sym, ap, ◌∙◌}
use mathlib.Core.Bool.{Bool}
use mathlib.Core.Logic.{◌⊎◌, inl, inr}
use mathlib.Core.List.{[], ◌∷◌, ◌++◌}
use mathlib.Core.Option.{Option}
use Prim.Native.Nat.{ℕ, ◌≤◌, ◌<◌}
use native.Mathlib.Omega.{arith}
use lib.ListN.{length, take, length-take, length-append}
use lib.Seq.{take_all, take-append-le}
use borrow.Author.Tests.{lt-ltb, le-ltb}
use Rattle.board.specs.declared.Board.{Board}
use Rattle.board.specs.Rows.{◌if◌, first_given}
use Rattle.lists.proofs.Tests.{cmp, cond_true}
use Rattle.lines.specs.Bytes.{Bytes}
use Rattle.lines.specs.Reading.{longest_line, too_long, line_rows, line_number}
use Rattle.lines.specs.Session.{is_open, step, step_if}
use Rattle.lines.specs.Machine.{extend, partial_room}

pub eleven : (opened : Bool) (l : Bytes) → longest_line < length l → line_number opened l ≡ 11
unfolding line_number line_rows too_long first_given ◌if◌
eleven opened l h = cond_true (too_long l) 11 _ (lt-ltb longest_line (length l) h)

refused_long : (o : Option Board) (l : Bytes) → longest_line < length l → step o l ≡ step_if 11 o []
unfolding step step_if
refused_long o l h = ap (λ n. step_if n o l) (eleven (is_open o) l h)

pub step_first : (o : Option Board) (l : Bytes) → step o (take partial_room l) ≡ step o l
unfolding partial_room
step_first o l = go (cmp (length l) partial_room)
  where
    go : (length l ≤ partial_room) ⊎ (partial_room < length l) → step o (take partial_room l) ≡ step o l
    go (inl h) = ap (step o) (take_all partial_room l h)
    go (inr h) = refused_long o (take partial_room l) (omega (arith, length-take partial_room l)) ∙ sym (refused_long o l (omega arith))

-- a line takes a further byte up to the first that makes it too long
pub extend_room : (b : ℕ) (l : Bytes) → length l ≤ longest_line → extend b l ≡ l ++ (b ∷ [])
unfolding extend too_long
extend_room b l h = simp le-ltb

pub extend_full : (b : ℕ) (l : Bytes) → longest_line < length l → extend b l ≡ l
unfolding extend too_long
extend_full b l h = simp lt-ltb

-- with a byte more the first ones are kept
pub extend_first : (b : ℕ) (l : Bytes) → extend b (take partial_room l) ≡ take partial_room (l ++ (b ∷ []))
unfolding partial_room
extend_first b l = go (cmp partial_room (length l))
  where
    partial : Bytes
    partial = take partial_room l

    go : (partial_room ≤ length l) ⊎ (length l < partial_room) → extend b partial ≡ take partial_room (l ++ (b ∷ []))
    go (inl h) = extend_full b partial (omega (arith, length-take partial_room l)) ∙ sym (take-append-le partial_room l (b ∷ []) h)
    go (inr h) =
        extend_room b partial (omega (arith, length-take partial_room l))
        ∙ ap (λ (x : Bytes). x ++ (b ∷ [])) (take_all partial_room l (omega arith))
        ∙ sym (take_all partial_room (l ++ (b ∷ [])) (let z = length-append l (b ∷ []) in omega arith))
