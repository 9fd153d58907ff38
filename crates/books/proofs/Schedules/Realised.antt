-- Every schedule of a book is what some rule bakes on that book: the rule that names the schedule's ticket in each slot.
use mathlib.Core.Path.{◌≡◌, refl, sym, ap, ◌∙◌, subst}
use mathlib.Core.Bool.{Bool, false, ◌&&◌}
use mathlib.Core.Logic.{◌⊎◌, inl, inr}
use mathlib.Core.Option.{Option, none, some}
use mathlib.Core.List.Memᴰ
use mathlib.Core.List.{List, [], ◌∷◌, ◌++◌, append_assoc, Memᴰ}
use Prim.Native.Nat.{ℕ, zero, suc, ◌+◌, ◌≤◌, ◌<◌}
use native.Mathlib.Omega.{arith}
use native.Mathlib.Decide.{ℕ_discrete}
use lib.Dec.{eqb}
use lib.ListN.{get_or}
use borrow.Author.Tests.{eq-eqb, le-leb}
use Rattle.lists.specs.Select.{has}
use Rattle.lists.proofs.Tests.{never, and_intro}
use Rattle.lists.proofs.Members.{mem_has}
use Rattle.rule.specs.Job.{Job, job, in_date}
use Rattle.rule.specs.Bake.{ticket_of}
use Rattle.books.specs.Book.{Beginning, Change, enter, end_slot, Book, slots_closed, closings, jobs, entered}
use Rattle.books.specs.Schedule.{Schedule, IsSchedule, gives, baked_in}
use Rattle.books.specs.Rule.{Rule, valid}
use Rattle.books.specs.Rival.{Setting, Tried}
use Rattle.books.proofs.Walks.Place.{Place, start, entering, rest, closing, named}
use Rattle.books.proofs.Walks.Groups.{closings_append}
use Rattle.books.proofs.Walks.Tickets.{mem_without, without_mem_append}
use Rattle.books.proofs.Walks.Picks.{found, Search, search, picks}
use Rattle.books.proofs.Schedules.Counts.{passes, tally, gives_as, baked_each, picks_on}

-- the rule that follows a schedule
unfoldable pub following : Schedule → Rule
following p d b past = p (b.slot + closings past)

-- a job that enters later was admitted later
entered_after : (s : ℕ) (es : List Change) {x : Job} → Memᴰ x (entered s es) → s ≤ x.admitted
unfolding entered job
entered_after s [] m = absurd (elim m [ ])
entered_after s (enter t w g ∷ es) (Memᴰ.head e) = omega (arith, ap (λ (y : Job). y.admitted) e)
entered_after s (enter t w g ∷ es) (Memᴰ.tail m) = entered_after s es m
entered_after s (end_slot ∷ es) m = omega (arith, entered_after (suc s) es m)

module _ (S : Setting) (B : Book) (T : Tried S B) (p : Schedule) (P : IsSchedule B p) (d : ℕ) where
  abbrev b : Beginning
  b = B.beginning

  -- where the walk along the book stands: the jobs left and to come are the book's, and those that the schedule still has to bake are among them
  record Walk (Q : Place) (es : List Change) : Type 0 where
    slot : Q.slot ≡ b.slot + closings Q.past
    within : (x : Job) → Memᴰ x (Q.left ++ entered Q.slot es) → Memᴰ x (jobs B)
    wanted : (x : Job) → Memᴰ x (jobs B) → (j : ℕ) → Q.slot ≤ j → ¬ (p j ≡ 0) → x.ticket ≡ p j → Memᴰ x (Q.left ++ entered Q.slot es)

  abbrev picked : Place → ℕ
  picked Q = named (following p) d b Q

  -- the job found in a slot has the schedule's ticket
  found_ticket : (Q : Place) (es : List Change) → Walk Q (end_slot ∷ es) → ticket_of (found Q.slot Q.left (picked Q)) ≡ p Q.slot
  unfolding entered ticket_of
  found_ticket Q es W = go (found s Q.left (picked Q)) (search s Q.left (picked Q))
    where
      s : ℕ
      s = Q.slot

      here : picked Q ≡ p s
      here = unfold following in ap p (sym W.slot)

      -- the job that the schedule bakes now is left
      among : (r : Job) → r.admitted ≤ s → Memᴰ r Q.left ⊎ Memᴰ r (entered (suc s) es) → Memᴰ r Q.left
      among r a (inl m) = m
      among r a (inr m) = absurd (omega (arith, entered_after (suc s) es m))

      missed : ¬ (p s ≡ 0) → has (λ r. eqb r.ticket (picked Q) && in_date s r) Q.left ≡ false → ⊥
      missed h e =
          let r = P.of_book s h in
          let m = among r.0 r.3 (Memᴰ.append_cases Q.left (W.wanted r.0 r.1 s (omega arith) h r.2)) in
          never
          (mem_has (λ x. eqb x.ticket (picked Q) && in_date s x) m
          (and_intro (eqb r.0.ticket (picked Q)) (in_date s r.0) (eq-eqb r.0.ticket (picked Q) (r.2 ∙ sym here)) (unfold in_date in le-leb s r.0.last r.4)))
          e

      go : (o : Option Job) → Search s Q.left (picked Q) o → ticket_of o ≡ p s
      go (some r) k = (k.is r refl).ticket ∙ here
      go none k = empty (ℕ_discrete (p s) 0)
        where
          empty : Dec (p s ≡ 0) → 0 ≡ p s
          empty (yes h) = sym h
          empty (no h) = absurd (missed h (k.has_it refl))

  walk_enter : (Q : Place) (t w g : ℕ) (es : List Change) → Walk Q (enter t w g ∷ es) → Walk (entering Q t w g) es
  unfolding entered closings
  walk_enter Q t w g es W =
      let shift = append_assoc Q.left (job t Q.slot w g ∷ []) (entered Q.slot es) in
      record {
        slot = omega (arith, W.slot, closings_append Q.past (enter t w g ∷ []));
        within = λ x m. W.within x (subst (Memᴰ x) shift m);
        wanted = λ x m j h z e. subst (Memᴰ x) (sym shift) (W.wanted x m j h z e);
      }

  walk_end : (Q : Place) (es : List Change) → Walk Q (end_slot ∷ es) → Walk (closing Q (picked Q)) es
  unfolding entered closings
  walk_end Q es W =
      record {
        slot = omega (arith, W.slot, closings_append Q.past (end_slot ∷ []));
        within = λ x m. W.within x (without_mem_append t Q.left later m);
        wanted = λ x m j h z e. keep x j h z e (Memᴰ.append_cases Q.left (W.wanted x m j (omega arith) z e));
      }
    where
      t : ℕ
      t = valid Q.slot Q.left (picked Q)

      later : List Job
      later = entered (suc Q.slot) es

      now : t ≡ p Q.slot
      now = (search Q.slot Q.left (picked Q)).named ∙ found_ticket Q es W

      keep : (x : Job) (j : ℕ) → suc Q.slot ≤ j → ¬ (p j ≡ 0) → x.ticket ≡ p j → Memᴰ x Q.left ⊎ Memᴰ x later
          → Memᴰ x (rest Q (picked Q) ++ later)
      keep x j h z e (inl m) = Memᴰ.append_left later (mem_without t m (λ q. let k = P.once j Q.slot z (sym e ∙ q ∙ now) in omega arith))
      keep x j h z e (inr m) = Memᴰ.append_right (rest Q (picked Q)) m

  -- slot by slot
  each_slot : (test : Job → Bool) (Q : Place) (es : List Change) → Walk Q es → (i : ℕ) → i < closings es
      → gives test B p (Q.slot + i) ≡ passes test (get_or (picks (following p) d b Q es) i none)
  unfolding picks closings
  each_slot test Q [] W i h = absurd (omega arith)
  each_slot test Q (enter t w g ∷ es) W i h = each_slot test (entering Q t w g) es (walk_enter Q t w g es W) i h
  each_slot test Q (end_slot ∷ es) W zero h = ap (gives test B p) (let z : Q.slot + 0 ≡ Q.slot = omega arith in z) ∙ now
    where
      o : Option Job
      o = found Q.slot Q.left (picked Q)

      now : gives test B p Q.slot ≡ passes test o
      now =
          gives_as test p Q.slot o T (sym (found_ticket Q es W))
          (λ r e. W.within r (Memᴰ.append_left (entered Q.slot (end_slot ∷ es)) ((search Q.slot Q.left (picked Q)).is r e).mem))
  each_slot test Q (end_slot ∷ es) W (suc i) h =
      ap (gives test B p) (let z : Q.slot + suc i ≡ suc Q.slot + i = omega arith in z)
      ∙ each_slot test (closing Q (picked Q)) es (walk_end Q es W) i (omega arith)

  first : Walk (start b) B.changes
  first = record { slot = unfold closings in omega arith; within = λ x m. unfold jobs in m; wanted = λ x m j h z e. unfold jobs in m }

  -- what the schedule bakes is what the rule bakes
  pub realised : (test : Job → Bool) (k : ℕ) → k ≤ slots_closed B → baked_in test B p k ≡ tally test (picks_on (following p) d B) k
  realised test k h =
      baked_each test B p (picks_on (following p) d B) k (λ i l. each_slot test (start b) B.changes first i (unfold slots_closed in (omega arith)))
