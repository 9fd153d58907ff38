-- A sound board agrees with a book that begins with what is on it: at the start of a list, and after a withdrawal.
use mathlib.Core.Path.{◌≡◌, refl, sym, ap, subst}
use mathlib.Core.Bool.{Bool, true, ◌&&◌}
use mathlib.Core.List.{map, append-nil, Memᴰ}
use Prim.Native.Nat.{ℕ, ◌^◌, ◌<◌}
use native.Mathlib.Omega.{arith}
use lib.Dec.{leb, ltb}
use borrow.Author.Tests.{le-leb, lt-ltb}
use Rattle.lists.specs.Select.{every}
use Rattle.lists.specs.Rise.{rise, never_falling}
use Rattle.lists.proofs.Tests.{and_intro}
use Rattle.lists.proofs.Members.{select_all, mem_every}
use Rattle.lists.proofs.Rising.{order_of_never_fall}
use Rattle.rule.specs.Job.{Job, in_date}
use Rattle.books.specs.Book.{Beginning, closings, slots_closed, present, entered, jobs, raised, highest}
use Rattle.books.specs.Rival.{fit, begun}
use Rattle.board.specs.declared.Board.{Board}
use Rattle.board.specs.Held.{slot_of, held}
use Rattle.board.specs.Sound.{sound}
use Rattle.board.proofs.Soundness.Facts.{SoundFacts, admitted_in}
use Rattle.board.proofs.Soundness.Apart.{facts}
use Rattle.claims.specs.DayBook.{new_day}
use Rattle.claims.specs.Demand3.{setting, begun_from, such_racks}
use Rattle.claims.proofs.Agreement.Agree.{Agree}

module _ (b : Board) (is_sound : sound b ≡ true) where
  known : SoundFacts b
  known = facts b is_sound

  its_jobs : jobs (new_day (begun_from b)).book ≡ held b
  unfolding new_day begun_from jobs entered
  its_jobs = append-nil (held b)

  dated : (k : ℕ) → slot_of b ≡ k → (r : Job) → Memᴰ r (held b) → in_date k r ≡ true
  unfolding in_date
  dated k e r m = le-leb k r.last (omega (arith, (known.each r m).in_date))

  pub agree_begun : {d s : ℕ} → b.depth ≡ d → slot_of b ≡ s → Agree d s b (new_day (begun_from b))
  unfolding new_day begun_from present slots_closed closings highest raised
  agree_begun {s = s} depth slot =
      record {
        is_sound = is_sound;
        depth = depth;
        slot = slot;
        book_slot = omega (arith, slot);
        same_highest = refl;
        same_intake = ap (admitted_in s) its_jobs;
        begun = λ r m. omega (arith, (known.each r (subst (Memᴰ r) its_jobs m)).begun, slot);
        on_board = sym (select_all (in_date s) (held b) (dated s slot));
      }

  pub such_begun : such_racks (begun_from b) ≡ true
  unfolding such_racks begun_from
  such_begun =
      and_intro (never_falling (map (λ (r : Job). r.admitted) (held b))) (every (in_date (slot_of b)) (held b)) (order_of_never_fall 1 _ known.slots_in_order)
      (mem_every (in_date (slot_of b)) (held b) (dated (slot_of b) refl))

  -- rules are tried on books that begin so
  pub tried_begun : {d : ℕ} → b.depth ≡ d → (begins : Beginning → Bool) → begun (setting d begins) (begun_from b) ≡ true
  unfolding begun begun_from setting fit
  tried_begun {d} depth begins =
      and_intro (rise 0 (map (λ (r : Job). r.ticket) (held b))) (every here (held b)) known.tickets_rise
      (mem_every here (held b)
      (λ r m.
      let f = known.each r m in
      and_intro (leb r.ticket b.highest && (ltb r.grade (2 ^ d) && true)) (leb r.admitted (slot_of b))
      (and_intro (leb r.ticket b.highest) (ltb r.grade (2 ^ d) && true) (le-leb r.ticket b.highest f.known)
      (and_intro (ltb r.grade (2 ^ d)) true (lt-ltb r.grade (2 ^ d) (subst (λ k. r.grade < 2 ^ k) depth f.graded)) refl))
      (le-leb r.admitted (slot_of b) f.begun)))
    where
      here : Job → Bool
      here r = leb r.ticket b.highest && (ltb r.grade (2 ^ d) && true) && leb r.admitted (slot_of b)
