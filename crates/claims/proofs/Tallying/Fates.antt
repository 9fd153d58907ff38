-- A closing bakes, gives up or keeps each job of a sound board, and bakes one at the most.
use mathlib.Core.Path.{◌≡◌, ap, ◌∙◌}
use mathlib.Core.Bool.{Bool, true, false, not, ◌&&◌}
use mathlib.Core.Logic.{◌⊎◌, inl, inr}
use mathlib.Core.List.Memᴰ
use mathlib.Core.List.{Memᴰ}
use mathlib.Core.Option.{none, some}
use Prim.Native.Nat.{ℕ, ◌+◌, ◌≤◌, ◌<◌}
use native.Mathlib.Omega.{arith}
use lib.Dec.{ltb, eqb}
use borrow.Author.Tests.{eq-eqb, ne_eqb, lt-ltb, le-ltb}
use Rattle.lists.specs.Select.{one_if, how_many}
use Rattle.lists.proofs.Tests.{cmp}
use Rattle.lists.proofs.Rising.{rise_above}
use Rattle.lists.proofs.Counting.{count_none, count_split, count_in_selection}
use Rattle.rule.specs.Job.{Job}
use Rattle.rule.specs.Bake.{expires, stays, ticket_of}
use Rattle.board.specs.declared.Board.{Board}
use Rattle.board.specs.Held.{slot_of, held}
use Rattle.board.specs.Close.{bakes, given_up, moved_on_with}
use Rattle.lists.proofs.Once.{count_once}
use Rattle.board.proofs.Soundness.Facts.{SoundFacts}
use Rattle.board.proofs.Calls.HeldAfter.{held_moved_on}
use Rattle.board.proofs.Calls.GivenUp.{given_up_count}
use Rattle.claims.specs.Balance.{on_board}
use Rattle.rule.proofs.NoRegret.Within.{baked_mem}

-- of the jobs, those baked and the others
baked_or_not : (c g : Bool) → one_if g ≡ one_if (c && g) + one_if (not c && g)
unfolding one_if
baked_or_not true g = omega arith
baked_or_not false g = omega arith

-- of the others, those of the slot and the later ones
now_or_later : (s n : ℕ) (c g : Bool) → s ≤ n → one_if (c && g) ≡ one_if (eqb n s && c && g) + one_if (ltb s n && c && g)
unfolding one_if
now_or_later s n c g h = go (cmp n s)
  where
    go : (n ≤ s) ⊎ (s < n) → one_if (c && g) ≡ one_if (eqb n s && c && g) + one_if (ltb s n && c && g)
    go (inl k) =
        omega (arith, ap (λ t. one_if (t && c && g)) (eq-eqb n s (omega arith)), ap (λ t. one_if (t && c && g)) (le-ltb s n k))
    go (inr k) =
        omega (arith, ap (λ t. one_if (t && c && g)) (ne_eqb n s (omega arith)), ap (λ t. one_if (t && c && g)) (lt-ltb s n k))

module _ (b : Board) (known : SoundFacts b) where
  pub baked_held : (q : Job) → bakes b ≡ some q → Memᴰ q (held b)
  unfolding bakes
  baked_held q e = baked_mem (slot_of b) b.depth (held b) q e

  pub ticket_above : (q : Job) → Memᴰ q (held b) → 0 < q.ticket
  ticket_above q m = rise_above 0 known.tickets_rise (Memᴰ.map (λ (r : Job). r.ticket) m)

  module _ (g : ℕ) where
    of_grade : Job → Bool
    of_grade r = eqb r.grade g

    -- one job is baked, or none
    pub none_baked : bakes b ≡ none → how_many (λ (r : Job). eqb r.ticket (ticket_of (bakes b)) && eqb r.grade g) (held b) ≡ 0
    unfolding ticket_of
    none_baked e =
        count_none (λ (r : Job). eqb r.ticket (ticket_of (bakes b)) && eqb r.grade g) (held b)
        (λ r m. ap (λ o. eqb r.ticket (ticket_of o) && eqb r.grade g) e ∙ ap (λ c. c && eqb r.grade g) (ne_eqb r.ticket 0 (omega (arith, ticket_above r m))))

    pub one_baked : (q : Job) → bakes b ≡ some q → how_many (λ (r : Job). eqb r.ticket (ticket_of (bakes b)) && eqb r.grade g) (held b) ≡ one_if (eqb q.grade g)
    unfolding ticket_of of_grade
    one_baked q e =
        ap (λ o. how_many (λ (r : Job). eqb r.ticket (ticket_of o) && eqb r.grade g) (held b)) e
        ∙ count_once (λ (r : Job). r.ticket) of_grade 0 known.tickets_rise (baked_held q e)

    -- those given up, and those that stay
    gone_count : how_many of_grade (given_up b) ≡ how_many (λ (r : Job). expires (slot_of b) (ticket_of (bakes b)) r && of_grade r) (held b)
    unfolding given_up
    gone_count = given_up_count b (ticket_of (bakes b)) of_grade

    staying_count : on_board g (moved_on_with b (ticket_of (bakes b))) ≡ how_many (λ (r : Job). stays (slot_of b) (ticket_of (bakes b)) r && of_grade r) (held b)
    unfolding on_board of_grade
    staying_count = ap (how_many of_grade) (held_moved_on b (ticket_of (bakes b))) ∙ count_in_selection of_grade (stays (slot_of b) (ticket_of (bakes b))) (held b)

    pub fates : on_board g b
        ≡ how_many (λ (r : Job). eqb r.ticket (ticket_of (bakes b)) && eqb r.grade g) (held b) + how_many (λ (r : Job). eqb r.grade g) (given_up b) + on_board g (moved_on_with b (ticket_of (bakes b)))
    unfolding on_board of_grade expires stays
    fates =
        omega (
          arith,
          gone_count,
          staying_count,
          count_split (λ (r : Job). eqb r.ticket (ticket_of (bakes b)) && of_grade r) (λ (r : Job). not (eqb r.ticket (ticket_of (bakes b))) && of_grade r) of_grade (held b)
              (λ r m. baked_or_not (eqb r.ticket (ticket_of (bakes b))) (of_grade r)),
          count_split (λ (r : Job). expires (slot_of b) (ticket_of (bakes b)) r && of_grade r) (λ (r : Job). stays (slot_of b) (ticket_of (bakes b)) r && of_grade r)
              (λ (r : Job). not (eqb r.ticket (ticket_of (bakes b))) && of_grade r) (held b)
              (λ r m. now_or_later (slot_of b) r.last (not (eqb r.ticket (ticket_of (bakes b)))) (of_grade r) (known.each r m).in_date),
        )
