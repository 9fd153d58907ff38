-- What the program prints: for each rack its slot, then how many were baked of how many; or the refusal alone.
use Rattle.std.specs.Prelude.{List, [], ◌∷◌, ◌++◌, map, ℕ, suc, length, take}
use Rattle.std.proofs.Math.Option.{Option, none, some}
use Rattle.lines.specs.Bytes.{Bytes, lines, letter_H, letter_R, letter_S}
use Rattle.lines.specs.Printing.{printed}
use Rattle.matching.specs.declared.Jobs.{Jobs}
use Rattle.matching.specs.Assignments.{baked_of_first}
use Rattle.matching.specs.Answer.{best_day}
use Rattle.worklist.specs.declared.Refused.{Refused}
use Rattle.worklist.specs.Lines.{window_in}
use Rattle.worklist.specs.Refusals.{refused_in}

-- the jobs of a list, best first
unfoldable pub jobs_in : List Bytes → Jobs
jobs_in ls = record { count = length ls; windows = map window_in ls }

-- `H,line,slot`, from the i-th line on
unfoldable pub printed_slots : (i : ℕ) → List ℕ → Bytes
printed_slots i [] = []
printed_slots i (s ∷ rest) = printed letter_H (i ∷ s ∷ []) ++ printed_slots (suc i) rest

-- and `S,racks,baked`
unfoldable pub printed_plan : (count : ℕ) → (slots : List ℕ) → Bytes
printed_plan count slots = printed_slots 1 (take count slots) ++ printed letter_S (count ∷ baked_of_first slots count ∷ [])

-- a refusal is `R,line,number`, and nothing else is printed then
unfoldable pub printed_list : Option Refused → Jobs → Bytes
printed_list (some r) d = printed letter_R (r.line ∷ r.number ∷ [])
printed_list none d = printed_plan d.count (best_day d).slots

-- The program: standard input to standard output.
unfoldable pub list_output : Bytes → Bytes
list_output input = printed_list (refused_in (lines input)) (jobs_in (lines input))
