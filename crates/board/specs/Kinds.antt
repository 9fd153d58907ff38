-- The kinds of events by name, and the number of each.
use Rattle.std.specs.Prelude.{◌≡◌, ◌≤◌, ℕ, Result, MatchResult}
use Rattle.board.specs.declared.kind.Kind.{Kind}
use Rattle.board.specs.declared.kind.Kind.TheVariants.{Admitted, Baked, GivenUp, Withdrawn}
use Rattle.board.specs.declared.refusal.Refusal.{Refusal}
use Rattle.board.specs.declared.refusal.Refusal.TheVariants.{NoSuchEvent}
use Rattle.board.specs.Tally.{tally_kinds}
use Rattle.board.specs.Events.{admitted_kind, baked_kind, given_up_kind, withdrawn_kind}

abbrev pub kind_number : Kind → ℕ
kind_number Admitted = admitted_kind
kind_number Baked = baked_kind
kind_number GivenUp = given_up_kind
kind_number Withdrawn = withdrawn_kind

-- the kind with this number, or row 9 where no kind has it
abbrev pub KindOf : ℕ → Result Kind Refusal → Type 0
KindOf n r = MatchResult r (λ k. kind_number k ≡ n) (λ e. (e ≡ NoSuchEvent) × (tally_kinds ≤ n))
