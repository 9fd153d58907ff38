-- The first line whose slots are refused: where the first window fails.
use mathlib.Core.Path.{◌≡◌, refl, sym, ap, ◌∙◌}
use mathlib.Core.Bool.{Bool, true, false, not, cond, ◌&&◌}
use mathlib.Core.Logic.{◌⊎◌, inl, inr}
use mathlib.Core.List.{List, [], ◌∷◌, map}
use mathlib.Core.Option.{Option, none, some}
use Prim.Native.Nat.{ℕ, suc, ◌+◌}
use native.Mathlib.Omega.{arith}
use Rattle.lists.specs.Select.{every}
use Rattle.lists.proofs.Tests.{test}
use Rattle.board.specs.Rows.{◌if◌, first_given}
use Rattle.lines.specs.Bytes.{Bytes}
use Rattle.matching.specs.declared.Window.{Window}
use Rattle.matching.specs.Windows.{is_window}
use Rattle.worklist.specs.declared.Refused.{Refused}
use Rattle.worklist.specs.Lines.{window_in, slot_rows}
use Rattle.worklist.specs.Refusals.{first_refused}
use Rattle.worklist.specs.Inner.Collecting.{passing}
use Rattle.worklist.proofs.Refusing.{refused_past, refused_here}
use Rattle.worklist.proofs.Passing.{passing_yes, passing_no}

given : (l : Bytes) (b : Bool) → is_window (window_in l) ≡ b → first_given (slot_rows l) ≡ cond b 0 19
unfolding slot_rows first_given ◌if◌
given l b e = ap (λ (c : Bool). first_given (19 if not c ∷ [])) e ∙ go b
  where
    go : (b : Bool) → ◌≡◌ {A = ℕ} (cond (not b) 19 0) (cond b 0 19)
    go true = refl
    go false = refl

-- what is said of windows, from the i-th line on
abbrev by_windows : (i : ℕ) → List Window → Option Refused
by_windows i ws = cond (every is_window ws) none (some (record { line = i + passing is_window ws; number = 19 }))

pub slot_refused : (i : ℕ) (ls : List Bytes) → first_refused slot_rows i ls ≡ by_windows i (map window_in ls)
unfolding first_refused every
slot_refused i [] = refl
slot_refused i (l ∷ ls) = go (test (is_window (window_in l))) (slot_refused (suc i) ls)
  where
    w : Window
    w = window_in l

    ws : List Window
    ws = map window_in ls

    go : (is_window w ≡ true) ⊎ (is_window w ≡ false) → first_refused slot_rows (suc i) ls ≡ by_windows (suc i) ws → first_refused slot_rows i (l ∷ ls) ≡ by_windows i (w ∷ ws)
    go (inl e) h =
        let k : suc i + passing is_window ws ≡ i + passing is_window (w ∷ ws) = omega (arith, passing_yes is_window w ws e) in
        refused_past slot_rows i l ls (given l true e)
        ∙ h
        ∙ ap (λ n. cond (every is_window ws) none (some (record { line = n; number = 19 }))) k
        ∙ ap (λ b. cond (b && every is_window ws) none (some (record { line = i + passing is_window (w ∷ ws); number = 19 }))) (sym e)
    go (inr e) h =
        let k : i ≡ i + passing is_window (w ∷ ws) = omega (arith, passing_no is_window w ws e) in
        refused_here slot_rows i 18 l ls (given l false e)
        ∙ ap (λ n. some (record { line = n; number = 19 })) k
        ∙ ap (λ b. cond (b && every is_window ws) none (some (record { line = i + passing is_window (w ∷ ws); number = 19 }))) (sym e)
