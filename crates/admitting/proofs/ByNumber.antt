-- What admitting within the limits answers, by the number of the first row that fails.
use mathlib.Core.Path.{◌≡◌, refl, sym, ap, ◌∙◌}
use mathlib.Core.Bool.{Bool, true, false}
use Prim.Native.Nat.{ℕ, zero, suc, ◌+◌, ◌-◌, ◌^◌, ◌≤◌, ◌<◌}
use native.Mathlib.Omega.{arith}
use lib.Pow.{pow_mono}
use Rattle.std.specs.Prelude.{Ok, Err}
use borrow.Author.Tests.{le-leb, lt-leb}
use Rattle.board.specs.declared.Board.{Board}
use Rattle.board.specs.declared.Slot.{Slot}
use Rattle.board.specs.declared.refusal.Refusal.{Refusal}
use Rattle.board.specs.Limits.{longest_laxity, places_held, last_slot, deepest}
use Rattle.board.specs.Rows.{◌if◌, first_given, admit_rows}
use Rattle.board.specs.Held.{slot_of, slot_number}
use Rattle.board.specs.Admit.{last_of, with_job, admitted_if}
use Rattle.board.specs.Refusals.{number_of}
use Rattle.board.proofs.Calls.Rows.{admits}
use Rattle.soundness.specs.Inner.Walk.{in_limits}
use Rattle.limits.specs.Inner.Limits.{◌or_else◌, limits_number}
use Rattle.admitting.specs.Inner.InLimits.{in_slot_before, admit_number_in_limits, admitted_in_limits, LetIn}
use Rattle.admitting.specs.Inner.Answer.{admitted_answer}
use Rattle.packing.specs.declared.Head.{Head}
use Rattle.admitting.specs.Inner.Placed.{head_of, with_place}
use Rattle.limits.proofs.Limits.{within, limits_passed}

-- a number that is not 0 stands
pub first_stands : (n m : ℕ) → (n ≡ 0 → ⊥) → (n or_else m) ≡ n
unfolding ◌or_else◌
first_stands zero m h = absurd (h refl)
first_stands (suc n) m h = refl

-- no refusal has the number 0
pub some_number : (r : Refusal) → number_of r ≡ 0 → ⊥
some_number r e = grind arith

pub answer_refused : (b : Board) (t w g n : ℕ) → (n ≡ 0 → ⊥) → record { refusal = n; last = slot_number 0; board = b } ≡ admitted_if n b t w g
unfolding admitted_if
answer_refused b t w g zero k = absurd (k refl)
answer_refused b t w g (suc n) k = refl

-- a refusal with the number that the board and the job have
pub refused_by : (b : Board) (t w g : ℕ) (r : Refusal) → admit_number_in_limits b t w g ≡ number_of r
    → admitted_answer (Err r) b ≡ admitted_in_limits b t w g
unfolding admitted_in_limits
refused_by b t w g r e = rw e (answer_refused b t w g (number_of r) (some_number r))

-- no refusal, and the board with the job
pub placed_by : (b after : Board) (t w g : ℕ) (slot : Slot) → admit_number_in_limits b t w g ≡ 0 → slot ≡ b.slot
    → after ≡ with_place b (record { ticket = t; admitted = slot; last = slot_number (slot.0 + w - 1); grade = g })
    → admitted_answer (Ok (slot_number (slot.0 + w - 1))) after ≡ admitted_in_limits b t w g
unfolding admitted_in_limits admitted_if with_job last_of
placed_by b after t w g slot n e p = rw (n, p, e) refl

-- what is known of a board and a job where no row fails, with a free place or without
pub record ByRows (b : Board) (w g : ℕ) : Type 0 where
  pub in_book : slot_of b ≤ suc last_slot
  pub some_laxity : 1 ≤ w
  pub short : w ≤ longest_laxity
  pub graded : g < 2 ^ deepest

module _ (b : Board) (t w g : ℕ) where
  -- rows 3 to 7, as the code finds them
  abbrev pub rows : ℕ → ℕ
  rows n = first_given (admit_rows (slot_of b) b.highest n b.depth t w g)

  pub number_out : in_limits b.depth (slot_of b) b.count ≡ false → admit_number_in_limits b t w g ≡ 2
  unfolding admit_number_in_limits limits_number first_given ◌if◌ ◌or_else◌
  number_out e = simp e

  module _ (i : in_limits b.depth (slot_of b) b.count ≡ true) (n row : ℕ) (k : n ≡ in_slot_before b b.count) (r : row ≡ rows n) where
    same : rows (in_slot_before b b.count) ≡ row
    same = ap rows (sym k) ∙ sym r

    pub number_row : (row ≡ 0 → ⊥) → admit_number_in_limits b t w g ≡ row
    unfolding admit_number_in_limits ◌or_else◌
    number_row h =
        rw (limits_passed b i, same) (first_stands row _ h)

    pub number_full : row ≡ 0 → places_held ≤ b.count → admit_number_in_limits b t w g ≡ 2
    unfolding admit_number_in_limits ◌or_else◌ first_given ◌if◌
    number_full e f = rw (limits_passed b i, same, e, le-leb places_held b.count f)

    pub number_none : row ≡ 0 → b.count < places_held → admit_number_in_limits b t w g ≡ 0
    unfolding admit_number_in_limits ◌or_else◌ first_given ◌if◌
    number_none e f = rw (limits_passed b i, same, e, lt-leb places_held b.count f)

    pub by_rows : row ≡ 0 → ByRows b w g
    by_rows e =
        let a = admits (slot_of b) b.highest n b.depth t w g (sym r ∙ e) in
        let l = within b i in
        record {
          in_book = l.in_book;
          some_laxity = a.some_laxity;
          short = a.short;
          graded = omega (arith, a.graded, pow_mono l.shallow);
        }

    pub let_in : row ≡ 0 → b.count < places_held → LetIn b w g
    let_in e f =
        let p = by_rows e in
        record { in_book = p.in_book; some_laxity = p.some_laxity; short = p.short; graded = p.graded; free = f }

-- what is known where no number is given
pub record Passed (b : Board) (t w g : ℕ) : Type 0 where
  pub none : admit_number_in_limits b t w g ≡ 0
  pub let_in : LetIn b w g

-- the head of the board, as the code has read it
module _ (b : Board) (h : Head) (e : h ≡ head_of b) where
  pub limits_read : (x y : Bool) → x ≡ in_limits h.depth h.slot.0 h.count → x ≡ y → in_limits b.depth (slot_of b) b.count ≡ y
  limits_read x y i f = sym (i ∙ ap (λ (k : Head). in_limits k.depth k.slot.0 k.count) e) ∙ f

  pub row_read : (t w g taken row : ℕ) → in_limits b.depth (slot_of b) b.count ≡ true
      → (h.depth ≤ deepest → row ≡ first_given (admit_rows h.slot.0 h.highest taken h.depth t w g)) → row ≡ rows b t w g taken
  row_read t w g taken row i r =
      let shallow : h.depth ≤ deepest = let l = within b i in let d = ap (λ (k : Head). k.depth) e in omega arith in
      r shallow ∙ ap (λ (k : Head). first_given (admit_rows k.slot.0 k.highest taken k.depth t w g)) e

  module _ (t w g : ℕ) (x : Bool) (i : x ≡ in_limits h.depth h.slot.0 h.count) (f : x ≡ true) (taken : ℕ) (k : taken ≡ in_slot_before b b.count)
      (r : h.depth ≤ deepest → 0 ≡ first_given (admit_rows h.slot.0 h.highest taken h.depth t w g)) where
    pub rows_passed : ByRows b w g
    rows_passed =
        let inside = limits_read x true i f in
        by_rows b t w g inside taken 0 k (row_read t w g taken 0 inside r) refl

    pub passed : h.count < places_held → Passed b t w g
    passed l =
        let inside = limits_read x true i f in
        let given = row_read t w g taken 0 inside r in
        let free : b.count < places_held = let n = ap (λ (k : Head). k.count) e in omega arith in
        record { none = number_none b t w g inside taken 0 k given refl free; let_in = let_in b t w g inside taken 0 k given refl free }
