-- What a layout of the first s slots keeps: each job of the set waits, or has a slot of its window; no two have the same.
use mathlib.Core.Path.{◌≡◌, sym, ap, subst, ◌∙◌}
use mathlib.Core.Bool.{Bool, true, false}
use mathlib.Core.Logic.{◌⊎◌, inl, inr}
use mathlib.Core.List.{List}
use Prim.Native.Nat.{ℕ, zero, suc, ◌≤◌, ◌<◌}
use native.Mathlib.Omega.{arith}
use lib.Dec.{leb, eqb}
use lib.ListN.{length, set, length-set, replicate, length-replicate}
use lib.Seq.{get_or-set_same, get_or-set_other}
use borrow.Author.Tests.{leb-true, eq-eqb, ne_eqb}
use Rattle.lists.specs.Select.{every}
use Rattle.lists.proofs.Tests.{never, and_left, and_right, cond_true, cond_false}
use Rattle.matching.specs.declared.Window.{Window}
use Rattle.matching.specs.declared.Laid.{Laid}
use Rattle.matching.specs.Windows.{most_jobs, first_of, last_of, is_window}
use Rattle.matching.specs.Assignments.{slot_given}
use Rattle.matching.specs.Choice.{is_in, all_fit}
use Rattle.matching.specs.Layout.{no_job, has_come, next_to, give, laid_to}
use Rattle.matching.proofs.Below.Counting.{same_or_not}
use Rattle.matching.proofs.Choice.Sets.{all_same, set_in, set_out_of, taken_in}
use Rattle.matching.specs.Hindsight.{NoneNext, IsNext}
use Rattle.matching.proofs.Laying.Next.{next_found}
use Rattle.matching.proofs.Laying.Room.{HasRoom, room_first, room_nobody, room_somebody, in_date}

none_given : (n i : ℕ) → slot_given (replicate n 0) i ≡ 0
unfolding slot_given
none_given n i = all_same 0 n i

module _ (slots : List ℕ) (q t : ℕ) where
  slot_same : q < length slots → slot_given (set slots q t) q ≡ t
  unfolding slot_given
  slot_same h = get_or-set_same slots q t 0 h

  slot_other : (i : ℕ) → (i ≡ q → ⊥) → slot_given (set slots q t) i ≡ slot_given slots i
  unfolding slot_given
  slot_other i h = get_or-set_other slots q i t 0 h

pub record InWindow (ws : List Window) (i t : ℕ) : Type 0 where
  pub some : 1 ≤ t
  pub from_first : first_of ws i ≤ t
  pub to_last : t ≤ last_of ws i

pub record LaidWell (ws : List Window) (c : List Bool) (s : ℕ) (d : Laid) : Type 0 where
  pub waiting_all : length d.waiting ≡ most_jobs
  pub slots_all : length d.slots ≡ most_jobs
  pub room : HasRoom ws d.waiting s
  pub still : (i : ℕ) → is_in d.waiting i ≡ true → is_in c i ≡ true
  pub waits : (i : ℕ) → i < length ws → is_in d.waiting i ≡ true → slot_given d.slots i ≡ 0
  pub left_out : (i : ℕ) → i < length ws → is_in c i ≡ false → slot_given d.slots i ≡ 0
  pub placed : (i : ℕ) → i < length ws → is_in c i ≡ true → is_in d.waiting i ≡ false → InWindow ws i (slot_given d.slots i)
  pub beyond : (i : ℕ) → length ws ≤ i → slot_given d.slots i ≡ 0
  pub past : (i : ℕ) → i < length ws → slot_given d.slots i ≤ s
  pub apart : (i j : ℕ) → i < length ws → j < length ws → 1 ≤ slot_given d.slots i → slot_given d.slots i ≡ slot_given d.slots j → i ≡ j

module _ (ws : List Window) (few : length ws ≤ most_jobs) (c : List Bool) (s : ℕ) (d : Laid) (l : LaidWell ws c s d) where
  -- nobody gets the slot
  none_more : (q : ℕ) → NoneNext ws d.waiting (suc s) (length ws) q → LaidWell ws c (suc s) d
  none_more q t =
      record {
        waiting_all = l.waiting_all;
        slots_all = l.slots_all;
        room = room_nobody ws d.waiting d.waiting s l.room (λ i e. e) q t;
        still = l.still;
        waits = l.waits;
        left_out = l.left_out;
        placed = l.placed;
        beyond = l.beyond;
        past = λ i h. omega (arith, l.past i h);
        apart = l.apart;
      }

  -- the job q gets it
  module _ (q : ℕ) (t : IsNext ws d.waiting (suc s) (length ws) q) where
    waited : is_in d.waiting q ≡ true
    unfolding has_come
    waited = and_left (is_in d.waiting q) (leb (first_of ws q) (suc s)) t.come

    come : first_of ws q ≤ suc s
    unfolding has_come
    come = leb-true (first_of ws q) (suc s) (and_right (is_in d.waiting q) (leb (first_of ws q) (suc s)) t.come)

    here : slot_given (set d.slots q (suc s)) q ≡ suc s
    here = slot_same d.slots q (suc s) (omega (arith, l.slots_all, t.below))

    gone : is_in (set d.waiting q false) q ≡ false
    gone = set_in d.waiting q false (omega (arith, l.waiting_all, t.below))

    other : (i : ℕ) → (i ≡ q → ⊥) → slot_given (set d.slots q (suc s)) i ≡ slot_given d.slots i
    other i h = slot_other d.slots q (suc s) i h

    slots_past : (i : ℕ) → i < length ws → (i ≡ q) ⊎ (i ≡ q → ⊥) → slot_given (set d.slots q (suc s)) i ≤ suc s
    slots_past i h (inl e) = omega (arith, ap (slot_given (set d.slots q (suc s))) e, here)
    slots_past i h (inr e) = omega (arith, other i e, l.past i h)

    slots_apart : (i j : ℕ) → i < length ws → j < length ws → 1 ≤ slot_given (set d.slots q (suc s)) i
        → slot_given (set d.slots q (suc s)) i ≡ slot_given (set d.slots q (suc s)) j → (i ≡ q) ⊎ (i ≡ q → ⊥) → (j ≡ q) ⊎ (j ≡ q → ⊥) → i ≡ j
    slots_apart i j h k y e (inl a) (inl b) = a ∙ sym b
    slots_apart i j h k y e (inl a) (inr b) = absurd (omega (arith, ap (slot_given (set d.slots q (suc s))) a, here, other j b, l.past j k))
    slots_apart i j h k y e (inr a) (inl b) = absurd (omega (arith, ap (slot_given (set d.slots q (suc s))) b, here, other i a, l.past i h))
    slots_apart i j h k y e (inr a) (inr b) = l.apart i j h k (omega (arith, other i a)) (sym (other i a) ∙ e ∙ other j b)

    slots_placed : (i : ℕ) → i < length ws → is_in c i ≡ true → is_in (set d.waiting q false) i ≡ false → (i ≡ q) ⊎ (i ≡ q → ⊥)
        → InWindow ws i (slot_given (set d.slots q (suc s)) i)
    slots_placed i h e f (inl a) =
        subst (λ j. InWindow ws j (slot_given (set d.slots q (suc s)) j)) (sym a)
        (rw here record { some = omega arith; from_first = come; to_last = in_date ws d.waiting s q l.room t.below waited })
    slots_placed i h e f (inr a) = rw (other i a) (l.placed i h e (sym (set_out_of d.waiting q false i a) ∙ f))

    slots_waits : (i : ℕ) → i < length ws → is_in (set d.waiting q false) i ≡ true → (i ≡ q) ⊎ (i ≡ q → ⊥) → slot_given (set d.slots q (suc s)) i ≡ 0
    slots_waits i h e (inl a) = never e (ap (is_in (set d.waiting q false)) a ∙ gone)
    slots_waits i h e (inr a) = other i a ∙ l.waits i h (taken_in d.waiting q i e)

    slots_out : (i : ℕ) → i < length ws → is_in c i ≡ false → (i ≡ q) ⊎ (i ≡ q → ⊥) → slot_given (set d.slots q (suc s)) i ≡ 0
    slots_out i h e (inl a) = never (ap (is_in c) a ∙ l.still q waited) e
    slots_out i h e (inr a) = other i a ∙ l.left_out i h e

    one_more : LaidWell ws c (suc s) (record { waiting = set d.waiting q false; slots = set d.slots q (suc s) })
    one_more =
        record {
          waiting_all = length-set d.waiting q false ∙ l.waiting_all;
          slots_all = length-set d.slots q (suc s) ∙ l.slots_all;
          room = room_somebody ws d.waiting (set d.waiting q false) s l.room (taken_in d.waiting q) q t gone;
          still = λ i e. l.still i (taken_in d.waiting q i e);
          waits = λ i h e. slots_waits i h e (same_or_not i q);
          left_out = λ i h e. slots_out i h e (same_or_not i q);
          placed = λ i h e f. slots_placed i h e f (same_or_not i q);
          beyond = λ i h. other i (λ e. omega (arith, t.below)) ∙ l.beyond i h;
          past = λ i h. slots_past i h (same_or_not i q);
          apart = λ i j h k y e. slots_apart i j h k y e (same_or_not i q) (same_or_not j q);
        }

  slot_more : (q : ℕ) → NoneNext ws d.waiting (suc s) (length ws) q ⊎ IsNext ws d.waiting (suc s) (length ws) q → LaidWell ws c (suc s) (give (suc s) q d)
  unfolding give
  slot_more q (inl t) = subst (LaidWell ws c (suc s)) (sym (cond_true (eqb q no_job) d (record { waiting = set d.waiting q false; slots = set d.slots q (suc s) }) (eq-eqb q no_job t.is_none))) (none_more q t)
  slot_more q (inr t) =
      subst (LaidWell ws c (suc s))
      (sym (cond_false (eqb q no_job) d (record { waiting = set d.waiting q false; slots = set d.slots q (suc s) }) (ne_eqb q no_job (λ e. omega (arith, t.below)))))
      (one_more q t)

  pub laid_more : LaidWell ws c (suc s) (give (suc s) (next_to ws d.waiting (suc s) (length ws)) d)
  laid_more = slot_more (next_to ws d.waiting (suc s) (length ws)) (next_found ws d.waiting (suc s) (length ws) few)

pub laid_well : (ws : List Window) → length ws ≤ most_jobs → every is_window ws ≡ true → (c : List Bool) → length c ≡ most_jobs → all_fit ws c ≡ true
    → (s : ℕ) → LaidWell ws c s (laid_to ws c s)
unfolding laid_to
laid_well ws few ok c all e zero =
    record {
      waiting_all = all;
      slots_all = length-replicate {A = ℕ} most_jobs 0;
      room = room_first ws ok c e;
      still = λ i y. y;
      waits = λ i h y. none_given most_jobs i;
      left_out = λ i h y. none_given most_jobs i;
      placed = λ i h y z. never y z;
      beyond = λ i h. none_given most_jobs i;
      past = λ i h. omega (arith, none_given most_jobs i);
      apart = λ i j h k y z. absurd (omega (arith, none_given most_jobs i));
    }
laid_well ws few ok c all e (suc s) = laid_more ws few c s (laid_to ws c s) (laid_well ws few ok c all e s)
