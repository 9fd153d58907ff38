-- What the events of calls say of the boards before and after, one call after another.
use mathlib.Core.Path.{◌≡◌}
use mathlib.Core.Bool.{true, ◌&&◌}
use mathlib.Core.Logic.{◌⊎◌, inl, inr}
use mathlib.Core.List.Memᴰ
use mathlib.Core.List.{List, [], ◌++◌, Memᴰ}
use Prim.Native.Nat.{ℕ, suc, ◌+◌, ◌*◌, ◌-◌, ◌≤◌}
use native.Mathlib.Omega.{arith}
use lib.Dec.{eqb}
use Rattle.lists.specs.Select.{how_many}
use Rattle.lists.proofs.Counting.{count_append}
use Rattle.board.specs.declared.Board.{Board}
use Rattle.board.specs.Limits.{most_in_slot, last_slot}
use Rattle.board.specs.Held.{slot_of, in_slot}
use Rattle.board.specs.Sound.{sound}
use Rattle.board.specs.Events.{admitted_kind, baked_kind, given_up_kind, withdrawn_kind, Event}
use Rattle.board.proofs.Tallies.CountAt.{Cell}
use Rattle.board.proofs.Tallies.FedCounts.{times}
use Rattle.claims.specs.Balance.{on_board}

-- how many jobs can still be admitted to a board: the most in a slot for each slot up to the last, less those of its slot
unfoldable pub still : Board → ℕ
still b = most_in_slot * (suc last_slot - slot_of b) - in_slot b

-- the events es lead from the board b to the board c
pub record Leads (b : Board) (es : List Event) (c : Board) : Type 0 where
  pub is_sound : sound c ≡ true
  pub cells : (e : Event) → Memᴰ e es → Cell e.kind e.grade
  pub balance : (g : ℕ) → times admitted_kind g es + on_board g b ≡ times baked_kind g es + times given_up_kind g es + times withdrawn_kind g es + on_board g c
  pub intake : (g : ℕ) → times admitted_kind g es + still c ≤ still b

pub leads_nowhere : (b : Board) → sound b ≡ true → Leads b [] b
unfolding how_many
leads_nowhere b s =
    record {
      is_sound = s;
      cells = λ e m. absurd (Memᴰ.not-nil m);
      balance = λ g. omega arith;
      intake = λ g. omega arith;
    }

pub leads_on : {b c d : Board} {es fs : List Event} → Leads b es c → Leads c fs d → Leads b (es ++ fs) d
leads_on {es = es} {fs = fs} h k =
    record {
      is_sound = k.is_sound;
      cells = λ e m. go e (Memᴰ.append_cases es m);
      balance = λ g. omega (arith, h.balance g, k.balance g, joined admitted_kind g, joined baked_kind g, joined given_up_kind g, joined withdrawn_kind g);
      intake = λ g. omega (arith, h.intake g, k.intake g, joined admitted_kind g);
    }
  where
    joined : (n g : ℕ) → times n g (es ++ fs) ≡ times n g es + times n g fs
    joined n g = count_append (λ (e : Event). eqb e.kind n && eqb e.grade g) es fs

    go : (e : Event) → Memᴰ e es ⊎ Memᴰ e fs → Cell e.kind e.grade
    go e (inl m) = h.cells e m
    go e (inr m) = k.cells e m
