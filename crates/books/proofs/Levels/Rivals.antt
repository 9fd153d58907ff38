-- A rival keeps to the tight sets. It does not idle with a job in date: a schedule that is the same before and bakes a job in that slot would bake more.
-- And it bakes no job that is not tight: arrivals of laxity 1 up to the tight slot make it bake fewer than a rule that bakes a tight job instead.
use mathlib.Core.Path.{◌≡◌, refl, sym, ap, subst}
use mathlib.Core.Bool.{true}
use mathlib.Core.Logic.{⊎_elim}
use mathlib.Core.Option.{Option, none, some}
use mathlib.Core.List.{List, [], Memᴰ}
use Prim.Native.Nat.{ℕ, suc, ◌+◌, ◌≤◌, ◌<◌}
use native.Mathlib.Omega.{arith}
use Rattle.lists.specs.Select.{one_if, select, has}
use Rattle.lists.proofs.Tests.{cmp, test, never}
use Rattle.heights.proofs.Items.Item.{part}
use Rattle.heights.proofs.Adversary.Level0.{Beaten0, beaten0}
use Rattle.rule.specs.Job.{Job, in_date}
use Rattle.rule.specs.Grade.{bits}
use Rattle.rule.specs.Tight.{tight}
use Rattle.rule.proofs.Bits.Number.{length_bits}
use Rattle.rule.proofs.Tight.Counts.{in_date_all}
use Rattle.rule.proofs.Tight.Slot.{tight_last, tight_mem, mem_tight}
use Rattle.rule.proofs.NoRegret.Chosen.{mem_dated}
use Rattle.rule.proofs.NoRegret.Items.{items}
use Rattle.books.specs.Book.{Change, closings}
use Rattle.books.specs.Schedule.{total}
use Rattle.books.specs.Rule.{Rule, made_by}
use Rattle.books.specs.Rival.{Setting, lifted, Tried, Rival}
use Rattle.books.specs.NoRegretRule.{keeps_at, Keeps}
use Rattle.books.proofs.Walks.Place.{Place, rest, closing}
use Rattle.books.proofs.Walks.Picks.{found, Found, search, picks}
use Rattle.books.proofs.Walks.Positions.{picks_length}
use Rattle.books.proofs.Schedules.Counts.{passes, one_none, any, one_any, tally, tally_none}
use Rattle.books.proofs.Schedules.Plans.{made_schedule}
use Rattle.books.proofs.Runs.Kept.{Kept, idle, bake, after_none, found_dated, kept_unless}
use Rattle.books.proofs.Runs.AnyRun.{ones, sum_all, leaves_part}
use Rattle.books.proofs.Runs.KeptRuns.{tight_of}
use Rattle.books.proofs.Adversary.Future.{ok}
use Rattle.books.proofs.Adversary.Stage.{Cut, staged, staged_tried, staged_closed, place, ticket, goes_here, staged_count, each_cut}
use Rattle.books.proofs.Adversary.Allowed.{fit_bits}
use Rattle.books.proofs.Adversary.Turning.{turned, ours_at, ours_there, turned_count, turned_keeps}
use Rattle.books.proofs.Adversary.RunOn.{answer, answered, any_on, tight_on}

module _ {S : Setting} (q : Rule) (R : Rival S q) (C : Cut S) where
  abbrev d : ℕ
  d = S.depth

  abbrev P : Place
  P = place C q

  -- the job that the ticket x names at the cut, what q bakes after it, and the rule that turns to ours
  abbrev at : ℕ → Option Job
  at x = found P.slot P.left x

  abbrev theirs : List Change → List (Option Job)
  theirs E = picks q d C.b (closing P (ticket C q)) E

  abbrev ours : List Change → List (Option Job)
  ours E = picks (turned C q) d C.b (closing P (ours_at C q)) E

  -- whatever comes, that rule bakes no more than q
  no_more : (E : List Change) → Tried S (staged C E)
      → one_if (passes any (at (ours_at C q))) + tally any (ours E) (closings E) ≤ one_if (passes any (at (ticket C q))) + tally any (theirs E) (closings E)
  unfolding Rival total
  no_more E T =
      omega (
        arith,
        R (staged C E) T (closings C.pre + suc (closings E)) (omega (arith, staged_closed C E)) (made_by (turned C q) d (staged C E))
            (made_schedule S (staged C E) T (turned C q) d),
        staged_count C q E T any (closings E),
        turned_count C q E T any (closings E),
      )

  -- idling
  idle_beaten : has (in_date P.slot) P.left ≡ true → at (ticket C q) ≡ none → ⊥
  idle_beaten n e = go (ours_there C q 0 (omega arith))
    where
      go : Kept 0 d P.slot P.left (ours_at C q) → ⊥
      go (idle m y) = never n m
      go (bake p m y) =
          omega (
            arith,
            no_more [] (staged_tried C [] (unfold lifted in refl)),
            one_none any e,
            one_any y,
            (let z : tally any (theirs []) (closings []) ≡ 0 = unfold closings in tally_none any (theirs []) in z),
          )

  -- arrivals on which q bakes fewer
  wins : {p r : Job} → at (ticket C q) ≡ some p → at (ours_at C q) ≡ some r
      → Beaten0 (ok S) d P.slot (part (items d (rest P (ticket C q)))) (part (items d (rest P (ours_at C q)))) → ⊥
  wins e y B =
      let E = answer C q B.by in
      let T = answered C q B.by in
      omega (
        arith,
        no_more E T,
        B.wins (ones (theirs E)) (ones (ours E)) (any_on C q B.by q (ticket C q))
            (tight_on C q B.by (turned C q) (ours_at C q) (turned_keeps C q E 0 (omega arith) T)),
        sum_all (theirs E),
        sum_all (ours E),
        one_any e,
        one_any y,
        ap (tally any (theirs E)) (picks_length q d C.b (closing P (ticket C q)) E),
        ap (tally any (ours E)) (picks_length (turned C q) d C.b (closing P (ours_at C q)) E),
      )

  -- baking a job that is not tight
  loose_beaten : (p : Job) → at (ticket C q) ≡ some p → (Memᴰ p (tight P.slot (select (in_date P.slot) P.left)) → ⊥) → ⊥
  loose_beaten p e loose = go (ours_there C q 0 (omega arith))
    where
      s : ℕ
      s = P.slot

      A : List Job
      A = select (in_date s) P.left

      f : Found s P.left (ticket C q) p
      f = (search s P.left (ticket C q)).is p e

      m : Memᴰ p A
      m = mem_dated s f.mem f.date

      far : tight_last s A < p.last
      far = ⊎_elim (λ (i : p.last ≤ tight_last s A). absurd (loose (mem_tight s A (in_date_all s P.left) m i))) (λ i. i) (cmp p.last (tight_last s A))

      go : Kept 0 d s P.left (ours_at C q) → ⊥
      go (idle z y) = never (found_dated f) z
      go (bake r k y) =
          wins e y
          (beaten0 (ok S) d (bits d p.grade) (fit_bits S p.grade ((goes_here C q).fits p f.mem)) (length_bits d p.grade) (tight_of d s P.left m)
          (leaves_part d (ticket C q) (goes_here C q).left e) far (leaves_part d (ours_at C q) (goes_here C q).left y)
          (tight_mem s A (in_date_all s P.left) (subst (Memᴰ r) (after_none s d A) k)).1)

  -- so it bakes a tight job, if one is in date
  kept_here : (Kept 0 d P.slot P.left (ticket C q) → ⊥) → ⊥
  kept_here out = go (at (ticket C q)) refl
    where
      go : (o : Option Job) → at (ticket C q) ≡ o → ⊥
      go none e = ⊎_elim (λ n. idle_beaten n e) (λ n. out (idle n e)) (test (has (in_date P.slot) P.left))
      go (some p) e =
          loose_beaten p e (λ m. out (bake p (subst (Memᴰ p) (sym (after_none P.slot d (select (in_date P.slot) P.left))) m) e))

pub rival_keeps : (S : Setting) (q : Rule) → Rival S q → Keeps S 0 q
unfolding Keeps
rival_keeps S q R B T =
    each_cut q (keeps_at 0 S.depth) T
    (λ C. kept_unless 0 S.depth (place C q).slot (place C q).left (ticket C q) (kept_here q R C))
