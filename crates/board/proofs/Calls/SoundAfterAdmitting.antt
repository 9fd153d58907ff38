-- Admitting a job that the rows let through keeps a board sound.
use mathlib.Core.Path.{◌≡◌, refl, sym, ap, ◌∙◌, subst}
use mathlib.Core.Bool.{true, false}
use mathlib.Core.Logic.{◌⊎◌, inl, inr}
use mathlib.Core.List.Memᴰ
use mathlib.Core.List.{[], ◌∷◌, ◌++◌, map, map-append, Memᴰ}
use Prim.Native.Nat.{ℕ, suc, ◌+◌, ◌≤◌, ◌<◌}
use native.Mathlib.Numerals.{add-one}
use native.Mathlib.Omega.{arith}
use lib.Dec.{leb, ltb, eqb}
use lib.ListN.{length, drop, set, length-set}
use lib.Seq.{drop-set-lt}
use borrow.Author.Tests.{lt-ltb, le-leb, eqb-true}
use Rattle.lists.specs.Select.{one_if, how_many}
use Rattle.lists.specs.Rise.{rise, never_fall}
use Rattle.lists.proofs.Tests.{test, and_intro}
use Rattle.lists.proofs.Counting.{one_if_most, one_if_no, count_append}
use Rattle.lists.proofs.Rising.{rise_append}
use Rattle.rule.specs.Job.{Job, job}
use Rattle.board.specs.declared.Place.{Place}
use Rattle.board.specs.declared.Board.{Board}
use Rattle.board.specs.Limits.{longest_laxity, most_in_slot}
use Rattle.board.specs.Held.{slot_of, blank, held, in_slot}
use Rattle.board.specs.Admit.{with_job}
use Rattle.lists.proofs.Parts.{never_fall_append, drop_mem_suc}
use Rattle.lists.proofs.Spread.{sharing}
use Rattle.board.proofs.Soundness.Facts.{JobFacts, SoundFacts, admitted_in}
use Rattle.board.proofs.Soundness.Room.{room}
use Rattle.board.proofs.Calls.Rows.{Admits}
use Rattle.board.proofs.Calls.HeldAfter.{new_place, held_with_job}

module _ (b : Board) (t w g : ℕ) (f : SoundFacts b) (a : Admits (slot_of b) b.highest (in_slot b) b.depth t w g) where
  new_job : Job
  new_job = job t (slot_of b) w g

  free : b.count < length b.places
  free = omega (arith, f.full, room b f a.room)

  jobs : held (with_job b t w g) ≡ held b ++ (new_job ∷ [])
  unfolding new_job
  jobs = held_with_job b t w g free

  -- a job of the new board is an old one, or the new one
  cases : (r : Job) → Memᴰ r (held (with_job b t w g)) → Memᴰ r (held b) ⊎ (r ≡ new_job)
  cases r m = go (Memᴰ.append_cases (held b) (subst (Memᴰ r) jobs m))
    where
      go : Memᴰ r (held b) ⊎ Memᴰ r (new_job ∷ []) → Memᴰ r (held b) ⊎ (r ≡ new_job)
      go (inl k) = inl k
      go (inr k) = inr (Memᴰ.eq_of_singleton k)

  blanks : (x : Place) → Memᴰ x (drop (b.count + 1) (set b.places b.count (new_place b t w g))) → x ≡ blank
  blanks x m =
      let at : drop (b.count + 1) (set b.places b.count (new_place b t w g)) ≡ drop (suc b.count) b.places =
      rw add-one (drop-set-lt (suc b.count) b.places b.count (new_place b t w g) (omega arith)) in
      f.blank_past x (drop_mem_suc b.count b.places (subst (Memᴰ x) at m))

  along : (h : Job → ℕ) → map h (held (with_job b t w g)) ≡ map h (held b) ++ (h new_job ∷ [])
  along h = ap (map h) jobs ∙ map-append h (held b) (new_job ∷ [])

  bounded : (h : Job → ℕ) (n : ℕ) → ((r : Job) → Memᴰ r (held b) → h r ≤ n) → (x : ℕ) → Memᴰ x (map h (held b)) → x ≤ n
  bounded h n k x m = let r = Memᴰ.of_map h (held b) m in omega (arith, k r.0 r.1, r.2)

  rising : rise 0 (map (λ (r : Job). r.ticket) (held (with_job b t w g))) ≡ true
  unfolding new_job job rise
  rising =
      ap (rise 0) (along (λ (r : Job). r.ticket))
      ∙ rise_append 0 b.highest (map (λ (r : Job). r.ticket) (held b)) (t ∷ []) f.tickets_rise
      (bounded (λ (r : Job). r.ticket) b.highest (λ r m. (f.each r m).known)) (omega arith)
      (and_intro (ltb b.highest t) true (lt-ltb b.highest t a.above) refl)

  in_order : never_fall 1 (map (λ (r : Job). r.admitted) (held (with_job b t w g))) ≡ true
  unfolding new_job job never_fall
  in_order =
      ap (never_fall 1) (along (λ (r : Job). r.admitted))
      ∙ never_fall_append 1 (slot_of b) (map (λ (r : Job). r.admitted) (held b)) (slot_of b ∷ []) f.slots_in_order
      (bounded (λ (r : Job). r.admitted) (slot_of b) (λ r m. (f.each r m).begun)) f.from_first
      (and_intro (leb (slot_of b) (slot_of b)) true (le-leb (slot_of b) (slot_of b) (omega arith)) refl)

  new : JobFacts (with_job b t w g) new_job
  unfolding with_job new_job job longest_laxity
  new =
      record {
        known = omega arith;
        begun = omega arith;
        in_date = omega (arith, a.some_laxity);
        short = omega (arith, a.short, a.some_laxity);
        graded = a.graded;
      }

  fits : (r : Job) → Memᴰ r (held (with_job b t w g)) → JobFacts (with_job b t w g) r
  unfolding with_job
  fits r m = go (cases r m)
    where
      go : Memᴰ r (held b) ⊎ (r ≡ new_job) → JobFacts (with_job b t w g) r
      go (inl k) =
          let old = f.each r k in
          record {
            known = omega (arith, old.known, a.above);
            begun = old.begun;
            in_date = old.in_date;
            short = old.short;
            graded = old.graded;
          }
      go (inr e) = subst (JobFacts (with_job b t w g)) (sym e) new

  -- of each slot: those there were, and one more of the present slot
  taken : (k : ℕ) → admitted_in k (held (with_job b t w g)) ≤ most_in_slot
  unfolding new_job job how_many in_slot
  taken k =
      omega (arith, ap (admitted_in k) jobs, count_append (λ (q : Job). eqb q.admitted k) (held b) (new_job ∷ []), go (test (eqb (slot_of b) k)))
    where
      go : (eqb (slot_of b) k ≡ true) ⊎ (eqb (slot_of b) k ≡ false) → admitted_in k (held b) + one_if (eqb (slot_of b) k) ≤ most_in_slot
      go (inl e) =
          omega (arith, a.room, one_if_most (eqb (slot_of b) k), ap (λ n. admitted_in n (held b)) (eqb-true (slot_of b) k e))
      go (inr e) =
          omega (arith, one_if_no (eqb (slot_of b) k) e, sharing (λ (q : Job). q.admitted) (held b) most_in_slot f.intake k)

  pub after_admitting : SoundFacts (with_job b t w g)
  unfolding with_job
  after_admitting =
      record {
        full = length-set b.places b.count (new_place b t w g) ∙ f.full;
        shallow = f.shallow;
        from_first = f.from_first;
        to_last = f.to_last;
        counted = omega (arith, room b f a.room);
        blank_past = blanks;
        tickets_rise = rising;
        slots_in_order = in_order;
        each = fits;
        intake = λ r m. taken r.admitted;
      }
