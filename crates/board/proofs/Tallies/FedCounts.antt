-- A tally fed events counts each kind and grade, and refuses none while no count passes the most.
use mathlib.Core.Path.{◌≡◌, refl, ap, ◌∙◌}
use mathlib.Core.Bool.{true, ◌&&◌}
use mathlib.Core.List.{List, [], ◌∷◌, Memᴰ}
use Prim.Native.Nat.{ℕ, ◌+◌, ◌*◌, ◌≤◌, ◌<◌}
use native.Mathlib.Omega.{arith}
use lib.Dec.{eqb}
use lib.ListN.{length}
use borrow.Author.Tests.{eq-eqb}
use Rattle.lists.specs.Select.{one_if, how_many, every}
use Rattle.lists.proofs.Tests.{and_intro}
use Rattle.lists.proofs.Counting.{one_if_yes}
use Rattle.board.specs.declared.Tally.{Tally}
use Rattle.board.specs.declared.Counted.{Counted}
use Rattle.board.specs.Tally.{tally_kinds, tally_grades, tally_most, counted, count_at}
use Rattle.board.specs.Events.{Event, fed, event_numbers, all_taken}
use Rattle.board.proofs.Tallies.CountAt.{Cell, taken, counts_kept, counted_at}

-- how many of the events have a kind and a grade
abbrev pub times : (kind grade : ℕ) → List Event → ℕ
times k g es = how_many (λ (e : Event). eqb e.kind k && eqb e.grade g) es

pub record FedFacts (t : Tally) (es : List Event) : Type 0 where
  pub none_refused : all_taken t es ≡ true
  pub counts : (k g : ℕ) → Cell k g → count_at (fed t es) k g ≡ times k g es + count_at t k g

pub fed_facts : (t : Tally) (es : List Event) → length t.counts ≡ tally_kinds * tally_grades → ((e : Event) → Memᴰ e es → Cell e.kind e.grade)
    → ((k g : ℕ) → Cell k g → times k g es + count_at t k g ≤ tally_most) → FedFacts t es
unfolding all_taken event_numbers every fed how_many
fed_facts t [] full cells room = record { none_refused = refl; counts = λ k g c. omega arith }
fed_facts t (e ∷ es) full cells room =
    let cell : Cell e.kind e.grade = cells e (Memᴰ.head refl) in
    let itself : one_if (eqb e.kind e.kind && eqb e.grade e.grade) ≡ 1 =
    one_if_yes (eqb e.kind e.kind && eqb e.grade e.grade)
    (and_intro (eqb e.kind e.kind) (eqb e.grade e.grade) (eq-eqb e.kind e.kind refl) (eq-eqb e.grade e.grade refl)) in
    let below : count_at t e.kind e.grade < tally_most = omega (arith, itself, room e.kind e.grade cell) in
    let next : Tally = (counted t e.kind e.grade).tally in
    let rest : FedFacts next es =
    fed_facts next es (counts_kept t e.kind e.grade cell below ∙ full) (λ x m. cells x (Memᴰ.tail m))
    (λ k g c. omega (arith, room k g c, counted_at t e.kind e.grade cell below full k g c)) in
    record {
      none_refused =
          let number = (counted t e.kind e.grade).refusal in
          let zero : number ≡ 0 = ap (λ (r : Counted). r.refusal) (taken t e.kind e.grade cell below) in
          and_intro (eqb number 0) (all_taken next es) (eq-eqb number 0 zero) rest.none_refused;
      counts = λ k g c. omega (arith, rest.counts k g c, counted_at t e.kind e.grade cell below full k g c);
    }
