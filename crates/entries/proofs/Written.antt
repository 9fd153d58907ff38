-- A list of entries while the jobs given up are written to it from its start.
use mathlib.Core.Path.{◌≡◌, refl, sym, ap, ◌∙◌}
use mathlib.Core.List.{List, [], ◌∷◌, ◌++◌, map, map-append}
use Prim.Native.Nat.{ℕ, zero, suc, ◌+◌, ◌≤◌, ◌<◌}
use native.Mathlib.Numerals.{add-one}
use native.Mathlib.Omega.{arith}
use lib.ListN.{length, get_or, take, drop, set, length-set, length-map, get_or-append, get_or-map}
use lib.Seq.{take-suc, take-length, drop-cons, set_at, append_snoc, length-take-le}
use Rattle.rule.specs.Job.{Job}
use Rattle.board.specs.Held.{slot_number}
use Rattle.board.specs.Lent.{written_over}
use Rattle.entries.specs.declared.Entry.{Entry}
use Rattle.entries.specs.declared.Parts.{Parts}
use Rattle.entries.specs.Entries.{entry_of}
use Rattle.entries.specs.Inner.Parts.{entry_at, written}

pub written_length : (ys : List Entry) (p : Parts) (n : ℕ) → length (written ys p n) ≡ length ys
unfolding written
written_length ys p zero = refl
written_length ys p (suc n) = length-set (written ys p n) n (entry_at p n) ∙ written_length ys p n

pub written_more : (ys : List Entry) (p : Parts) (n : ℕ) → set (written ys p n) n (entry_at p n) ≡ written ys p (n + 1)
unfolding written
written_more ys p n = rw add-one refl

pub written_none : (ys : List Entry) (p : Parts) → ys ≡ written ys p 0
unfolding written
written_none ys p = refl

-- a list that begins with these numbers of the jobs X
pub record Begins (f : Job → ℕ) (X : List Job) (l : List ℕ) : Type 0 where
  pub rest : List ℕ
  pub is : l ≡ map f X ++ rest

abbrev no_job : Job
no_job = record { ticket = 0; admitted = 0; last = 0; grade = 0 }

abbrev pub no_entry : Entry
no_entry = record { ticket = 0; grade = 0; admitted = slot_number 0 }

begins_at : (f : Job → ℕ) (X : List Job) (l : List ℕ) → Begins f X l → (i : ℕ) → i < length X → f no_job ≡ 0 → get_or l i 0 ≡ f (get_or X i no_job)
begins_at f X l g i h z =
    ap (λ k. get_or k i 0) g.is
    ∙ get_or-append (map f X) g.rest 0 i (rw length-map h)
    ∙ ap (get_or (map f X) i) (sym z)
    ∙ get_or-map f X i no_job

module _ (X : List Job) (p : Parts) (ts : Begins (λ (r : Job). r.ticket) X p.tickets) (gs : Begins (λ (r : Job). r.grade) X p.grades) (ss : Begins (λ (r : Job). r.admitted) X p.slots) where
  entry_is : (i : ℕ) → i < length X → entry_at p i ≡ entry_of (get_or X i no_job)
  unfolding entry_at entry_of
  entry_is i h j =
      record {
        ticket = begins_at (λ (r : Job). r.ticket) X p.tickets ts i h refl j;
        grade = begins_at (λ (r : Job). r.grade) X p.grades gs i h refl j;
        admitted = slot_number (begins_at (λ (r : Job). r.admitted) X p.slots ss i h refl j);
      }

  module _ (ys : List Entry) (room : length X ≤ length ys) where
    written_first : (i : ℕ) → i ≤ length X → written ys p i ≡ map entry_of (take i X) ++ drop i ys
    unfolding written
    written_first zero h = refl
    written_first (suc i) h =
        let e = entry_of (get_or X i no_job) in
        let front = map entry_of (take i X) in
        let long : length front ≡ i = length-map (take i X) entry_of ∙ length-take-le i X (omega arith) in
        ap (λ k. set k i (entry_at p i)) (written_first i (omega arith) ∙ ap (front ++◌) (drop-cons ys i no_entry (omega arith)))
        ∙ ap (set (front ++ get_or ys i no_entry ∷ drop (suc i) ys) i) (entry_is i h)
        ∙ set_at front (get_or ys i no_entry) (drop (suc i) ys) e i long
        ∙ sym (append_snoc front e (drop (suc i) ys))
        ∙ ap (◌++ drop (suc i) ys) (sym (map-append entry_of (take i X) (get_or X i no_job ∷ [])) ∙ ap (map entry_of) (sym (take-suc X i no_job h)))

    -- all of them
    pub written_all : written ys p (length X) ≡ written_over entry_of X ys
    unfolding written_over
    written_all = written_first (length X) (omega arith) ∙ ap (λ k. map entry_of k ++ drop (length X) ys) (take-length X)
