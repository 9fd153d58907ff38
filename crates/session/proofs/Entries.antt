-- The jobs given up, found in the lists that a closing fills.
use mathlib.Core.Path.{◌≡◌, refl, sym, ap, ◌∙◌}
use mathlib.Core.Bool.{true}
use mathlib.Core.List.{List, [], ◌∷◌, map}
use Prim.Native.Nat.{ℕ, ◌≤◌}
use native.Mathlib.Omega.{arith}
use lib.ListN.{length, take}
use Rattle.rule.specs.Job.{Job}
use Rattle.rule.specs.Bake.{ticket_of}
use Rattle.board.specs.declared.Board.{Board}
use Rattle.board.specs.declared.Closed.{Closed}
use Rattle.board.specs.Limits.{places_held}
use Rattle.board.specs.Sound.{sound}
use Rattle.board.specs.Close.{bakes, given_up}
use Rattle.board.specs.Lent.{Lent, lent_of, entry_count, written_over, lent_with, ClosedInto}
use Rattle.board.proofs.Calls.GivenUp.{given_up_few}
use Rattle.board.proofs.Calls.Listing.{listed_number, listing_given_up, written_room, written_first}
use Rattle.board.proofs.Soundness.Apart.{facts}
use Rattle.board.proofs.Soundness.HeldCount.{held_count}
use Rattle.lines.specs.Session.{named}
use Rattle.answers.specs.Printed.{jobs_of}

-- tickets and grades of jobs name them
pub jobs_named : (A : List Job) {T G : List ℕ} → T ≡ map (λ (r : Job). r.ticket) A → G ≡ map (λ (r : Job). r.grade) A → jobs_of T G ≡ map named A
unfolding jobs_of named
jobs_named A p q = rw (p, q) (go A)
  where
    go : (A : List Job) → jobs_of (map (λ (r : Job). r.ticket) A) (map (λ (r : Job). r.grade) A) ≡ map named A
    go [] = refl
    go (r ∷ A) = ap (named r ∷◌) (go A)

-- no more jobs than a board holds
few_given_up : (b : Board) → sound b ≡ true → length (given_up b) ≤ places_held
unfolding given_up
few_given_up b s = let f = facts b s in omega (arith, given_up_few b (ticket_of (bakes b)), held_count b (omega (arith, f.full, f.counted)), f.counted)

-- the first n entries of a list with n jobs written to it
begins : (f : Job → ℕ) (A : List Job) (before : List ℕ) {after : List ℕ} (n : ℕ) → n ≡ length A → after ≡ written_over f A before
    → (n ≤ length after) × (take n after ≡ map f A)
begins f A before n h e = rw (h, e) (written_room f A before, written_first f A before)

-- the jobs given up are the first n entries of the lists
pub record Entered (b : Board) (n : ℕ) (T G : List ℕ) : Type 0 where
  pub few : n ≤ places_held
  pub in_tickets : n ≤ length T
  pub in_grades : n ≤ length G
  pub tickets : take n T ≡ map (λ (r : Job). r.ticket) (given_up b)
  pub grades : take n G ≡ map (λ (r : Job). r.grade) (given_up b)

pub entered : (b : Board) (before after : Lent) (c : Closed) → sound b ≡ true → ClosedInto b before after c → c.refusal ≡ 0
    → Entered b c.listed after.tickets after.grades
unfolding lent_with
entered b before after c s m h =
    let lent = entry_count before in
    let same = listing_given_up b lent (sym (ap (λ (q : Closed). q.refusal) m.answer) ∙ h) in
    let n = ap (λ (q : Closed). q.listed) m.answer ∙ listed_number b lent ∙ ap length same in
    let list = m.list ∙ ap (λ A. lent_with A before) same in
    let t = begins (λ (r : Job). r.ticket) (given_up b) before.tickets c.listed n (ap (λ (l : Lent). l.tickets) list) in
    let g = begins (λ (r : Job). r.grade) (given_up b) before.grades c.listed n (ap (λ (l : Lent). l.grades) list) in
    record { few = omega (arith, n, few_given_up b s); in_tickets = t.0; in_grades = g.0; tickets = t.1; grades = g.1 }

-- lists with an entry for each place
pub entry_count_full : (T G S : List ℕ) → length T ≡ places_held → length G ≡ places_held → length S ≡ places_held → entry_count (lent_of T G S) ≡ places_held
unfolding entry_count
entry_count_full T G S t g s = rw (t, g, s) (omega arith)
