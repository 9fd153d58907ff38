-- Board and book still agree after a closing that the rows let through, and our rule bakes what the board bakes.
use mathlib.Core.Path.{◌≡◌, refl, sym, ap, ap₂, ◌∙◌, subst}
use mathlib.Core.Bool.{Bool, true, false, not, cond, ◌&&◌}
use mathlib.Core.List.{List, Memᴰ}
use mathlib.Core.Option.{Option, none, some}
use Prim.Native.Nat.{ℕ, suc, ◌≤◌}
use native.Mathlib.Omega.{arith}
use lib.Dec.{leb, ltb, eqb}
use borrow.Author.Tests.{le-leb, ltb-true, eq-eqb, ne_eqb}
use Rattle.lists.specs.Select.{select, has}
use Rattle.lists.proofs.Tests.{and_intro, cond_true}
use Rattle.lists.proofs.Members.{select_mem, select_cong, select_select, mem_has}
use Rattle.lists.proofs.Counting.{count_none}
use Rattle.rule.specs.Job.{Job, in_date}
use Rattle.rule.specs.Bake.{baked, stays, ticket_of}
use Rattle.books.specs.Book.{Beginning, Change, end_slot, Book, present, jobs, extend}
use Rattle.books.specs.Rule.{valid, without}
use Rattle.books.specs.NoRegretRule.{our_choice}
use Rattle.board.specs.declared.Board.{Board}
use Rattle.board.specs.Held.{slot_of, held, thinned}
use Rattle.board.specs.Close.{close_number, bakes, moved_on_with}
use Rattle.board.proofs.Soundness.Facts.{admitted_in}
use Rattle.board.proofs.Soundness.Apart.{facts}
use Rattle.board.proofs.Calls.HeldAfter.{held_moved_on}
use Rattle.board.proofs.Calls.SoundAfter.{moved_on_sound, close_going}
use Rattle.books.proofs.Walks.Extended.{present_ended, highest_ended, jobs_ended}
use Rattle.rule.proofs.NoRegret.Within.{baked_mem}
use Rattle.claims.specs.Calls.{close}
use Rattle.claims.specs.DayBook.{Day, waiting, through}
use Rattle.claims.proofs.Agreement.Agree.{Agree, waiting_held}

-- the ticket 0 is named where nothing is baked, and no job has it; else the ticket baked is the name of one job in date
valid_zero : (s : ℕ) (left : List Job) → valid s left 0 ≡ 0
unfolding valid
valid_zero s left = go (has (λ r. eqb r.ticket 0 && in_date s r) left)
  where
    go : (c : Bool) → ◌≡◌ {A = ℕ} (cond c 0 0) 0
    go true = refl
    go false = refl

valid_named : (s : ℕ) (left : List Job) (r : Job) → Memᴰ r (select (in_date s) left) → valid s left r.ticket ≡ r.ticket
unfolding valid
valid_named s left r m =
    let k = select_mem (in_date s) r left m in
    cond_true (has (λ q. eqb q.ticket r.ticket && in_date s q) left) r.ticket 0
    (mem_has (λ q. eqb q.ticket r.ticket && in_date s q) k.0
    (and_intro (eqb r.ticket r.ticket) (in_date s r) (eq-eqb r.ticket r.ticket refl) k.1))

turned : (a b c : Bool) → (b ≡ true → a ≡ true) → (a && (b && not c)) ≡ (not c && b)
turned true true true f = refl
turned true true false f = refl
turned true false true f = refl
turned true false false f = refl
turned false false true f = refl
turned false false false f = refl
turned false true true f = refl
turned false true false f = f refl

-- staying on the board is being in date in the next slot and not baked
staying : (s t : ℕ) (x : Job) → (in_date s x && stays s t x) ≡ (not (eqb x.ticket t) && in_date (suc s) x)
unfolding in_date stays
staying s t x = turned (leb s x.last) (ltb s x.last) (eqb x.ticket t) (λ e. le-leb s x.last (omega (arith, ltb-true s x.last e)))

module _ {d s : ℕ} {b : Board} {D : Day} (a : Agree d s b D) where
  abbrev B : Book
  B = D.book

  abbrev left : List Job
  left = D.left

  -- what the board bakes, of the jobs that wait in the book
  pub same_baked : ticket_of (bakes b) ≡ ticket_of (baked (present B) d (waiting D))
  unfolding bakes
  same_baked =
      ap₂ (λ k A. ticket_of (baked (slot_of b) k A)) a.depth (sym (waiting_held a))
      ∙ ap (λ k. ticket_of (baked k d (waiting D))) (a.slot ∙ sym a.book_slot)

  -- our rule's choice is the ticket of the board's answer
  pub choice : (c : Beginning) (past : List Change) → our_choice d c past s left ≡ ticket_of (bakes b)
  unfolding our_choice waiting
  choice c past = ap (λ k. ticket_of (baked k d (select (in_date k) left))) (sym a.book_slot) ∙ sym same_baked

  pub named_valid : valid s left (ticket_of (bakes b)) ≡ ticket_of (bakes b)
  unfolding ticket_of bakes
  named_valid = go (bakes b) refl
    where
      go : (o : Option Job) → bakes b ≡ o → valid s left (ticket_of o) ≡ ticket_of o
      go none e = valid_zero s left
      go (some r) e = valid_named s left r (subst (Memᴰ r) a.on_board (baked_mem (slot_of b) b.depth (held b) r e))

  new_held : held (moved_on_with b (ticket_of (bakes b))) ≡ select (in_date (suc s)) (without (ticket_of (bakes b)) left)
  unfolding without
  new_held =
      held_moved_on b (ticket_of (bakes b))
      ∙ ap₂ (λ k A. select (stays k (ticket_of (bakes b))) A) a.slot a.on_board
      ∙ select_select (stays s (ticket_of (bakes b))) (in_date s) left
      ∙ select_cong (λ x. in_date s x && stays s (ticket_of (bakes b)) x) (λ x. not (eqb x.ticket (ticket_of (bakes b))) && in_date (suc s) x) left
      (λ x m. staying s (ticket_of (bakes b)) x)
      ∙ sym (select_select (in_date (suc s)) (λ x. not (eqb x.ticket (ticket_of (bakes b)))) left)

  -- none is of the next slot yet
  none_yet : (A : List Job) → ((r : Job) → Memᴰ r A → r.admitted ≤ s) → admitted_in (suc s) A ≡ 0
  none_yet A h = count_none (λ (q : Job). eqb q.admitted (suc s)) A (λ r m. ne_eqb r.admitted (suc s) (omega (arith, h r m)))

  none_held : (r : Job) → Memᴰ r (held (moved_on_with b (ticket_of (bakes b)))) → r.admitted ≤ s
  none_held r m =
      let old = (facts b a.is_sound).each r (select_mem (stays (slot_of b) (ticket_of (bakes b))) r (held b) (subst (Memᴰ r) (held_moved_on b (ticket_of (bakes b))) m)).0 in
      omega (arith, old.begun, a.slot)

  none_drawn : (r : Job) → Memᴰ r (jobs (extend B end_slot)) → r.admitted ≤ s
  none_drawn r m = a.begun r (subst (Memᴰ r) (jobs_ended B) m)

  pub agree_closed : (lent : ℕ) → close_number b lent ≡ 0 → Agree d (suc s) (moved_on_with b (ticket_of (bakes b))) (through d D (close lent))
  unfolding moved_on_with thinned through
  agree_closed lent e =
      record {
        is_sound = moved_on_sound b (ticket_of (bakes b)) a.is_sound (close_going b lent a.is_sound e);
        depth = a.depth;
        slot = omega (arith, a.slot);
        book_slot = omega (arith, present_ended B, a.book_slot);
        same_highest = highest_ended B ∙ a.same_highest;
        same_intake = omega (arith, none_yet (jobs (extend B end_slot)) none_drawn, none_yet (held (moved_on_with b (ticket_of (bakes b)))) none_held);
        begun = λ r m. omega (arith, none_drawn r m);
        on_board = new_held ∙ ap (λ t. select (in_date (suc s)) (without t left)) same_baked;
      }
