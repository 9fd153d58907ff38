-- The kinds of events are those that have a count.
use mathlib.Core.Path.{◌≡◌, sym, subst}
use Prim.Native.Nat.{ℕ, zero, suc, ◌<◌}
use native.Mathlib.Omega.{arith}
use Rattle.board.specs.declared.kind.Kind.{Kind}
use Rattle.board.specs.declared.kind.Kind.TheVariants.{Admitted, Baked, GivenUp, Withdrawn}
use Rattle.board.specs.Kinds.{kind_number}
use Rattle.board.specs.Tally.{tally_kinds, tally_grades}
use Rattle.board.specs.Events.{admitted_kind, baked_kind, given_up_kind, withdrawn_kind, Event}
use Rattle.board.proofs.Tallies.CountAt.{Cell}

-- each kind by name has a number below
pub kind_below : (k : Kind) → kind_number k < tally_kinds
unfolding tally_kinds admitted_kind baked_kind given_up_kind withdrawn_kind
kind_below Admitted = omega arith
kind_below Baked = omega arith
kind_below GivenUp = omega arith
kind_below Withdrawn = omega arith

pub each_kind : (P : ℕ → Type 0) → P admitted_kind → P baked_kind → P given_up_kind → P withdrawn_kind → (k g : ℕ) → Cell k g → P k
unfolding admitted_kind baked_kind given_up_kind withdrawn_kind tally_kinds
each_kind P a b u w zero g c = a
each_kind P a b u w (suc zero) g c = b
each_kind P a b u w (suc (suc zero)) g c = u
each_kind P a b u w (suc (suc (suc zero))) g c = w
each_kind P a b u w (suc (suc (suc (suc k)))) g c = absurd (omega (arith, c.kind))

pub same_cell : {e x : Event} → e ≡ x → Cell x.kind x.grade → Cell e.kind e.grade
same_cell q c = subst (λ (y : Event). Cell y.kind y.grade) (sym q) c

module _ {g : ℕ} (h : g < tally_grades) where
  pub admitted_cell : Cell admitted_kind g
  unfolding admitted_kind tally_kinds
  admitted_cell = record { kind = omega arith; grade = h }

  pub baked_cell : Cell baked_kind g
  unfolding baked_kind tally_kinds
  baked_cell = record { kind = omega arith; grade = h }

  pub given_up_cell : Cell given_up_kind g
  unfolding given_up_kind tally_kinds
  given_up_cell = record { kind = omega arith; grade = h }

  pub withdrawn_cell : Cell withdrawn_kind g
  unfolding withdrawn_kind tally_kinds
  withdrawn_cell = record { kind = omega arith; grade = h }
