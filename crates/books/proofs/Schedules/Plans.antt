-- What any rule makes of a book is a schedule of it.
use mathlib.Core.Path.{◌≡◌, refl, sym, ap, ◌∙◌}
use mathlib.Core.Bool.{true, false, cond}
use mathlib.Core.Logic.{◌⊎◌, inl, inr, ⊎_elim}
use mathlib.Core.Option.{Option, none, some}
use mathlib.Core.List.Memᴰ
use mathlib.Core.List.{List, [], ◌∷◌, Memᴰ}
use Prim.Native.Nat.{ℕ, zero, suc, ◌+◌, ◌≤◌}
use native.Mathlib.Omega.{arith}
use lib.Dec.{eqb}
use lib.ListN.{get_or}
use borrow.Author.Tests.{eqb-true}
use Rattle.lists.proofs.Tests.{test, cond_true, cond_false}
use Rattle.lists.proofs.Members.{each_more}
use Rattle.rule.specs.Job.{Job, job}
use Rattle.rule.specs.Bake.{ticket_of}
use Rattle.books.specs.Book.{Beginning, Change, enter, end_slot, Book, jobs}
use Rattle.books.specs.Schedule.{IsSchedule, from_slot}
use Rattle.books.specs.Rule.{Rule, valid, choices, made_by}
use Rattle.books.specs.Rival.{Setting, Tried}
use Rattle.books.proofs.Walks.Place.{Place, start, entering, rest, closing, named}
use Rattle.books.proofs.Walks.Tickets.{rising_above, without_mem}
use Rattle.books.proofs.Walks.Left.{entered_rising, at_first}
use Rattle.books.proofs.Walks.GoesOn.{GoesOn, goes_start, goes_enter, goes_end}
use Rattle.books.proofs.Walks.Picks.{found, Search, search, picks, picks_from}
use Rattle.books.proofs.Schedules.Counts.{picks_on, choices_at, getD_mem, picked_job}

-- a slot that is given a ticket is one of the list's
from_slot_inv : (s : ℕ) (ts : List ℕ) (j : ℕ) → ¬ (from_slot s ts j ≡ 0) → (i : ℕ) × (j ≡ s + i) × (from_slot s ts j ≡ get_or ts i 0)
unfolding from_slot
from_slot_inv s [] j h = absurd (h refl)
from_slot_inv s (t ∷ ts) j h = go (test (eqb j s)) (λ k. from_slot_inv (suc s) ts j k)
  where
    go : (eqb j s ≡ true) ⊎ (eqb j s ≡ false)
        → (¬ (from_slot (suc s) ts j ≡ 0) → (i : ℕ) × (j ≡ suc s + i) × (from_slot (suc s) ts j ≡ get_or ts i 0))
        → (i : ℕ) × (j ≡ s + i) × (cond (eqb j s) t (from_slot (suc s) ts j) ≡ get_or (t ∷ ts) i 0)
    go (inl e) f = (0, omega (arith, eqb-true j s e), cond_true (eqb j s) t (from_slot (suc s) ts j) e)
    go (inr e) f =
        let c = cond_false (eqb j s) t (from_slot (suc s) ts j) e in
        let r = f (λ z. h (c ∙ z)) in
        (suc r.0, omega (arith, r.1), c ∙ r.2)

module _ (q : Rule) (d : ℕ) (b : Beginning) where
  -- the slots in which a pick is in date
  picks_date : (P : Place) (es : List Change) → ((x : Job) → Memᴰ x P.left → x.admitted ≤ P.slot) → (i : ℕ) (r : Job)
      → get_or (picks q d b P es) i none ≡ some r → (r.admitted ≤ P.slot + i) × (P.slot + i ≤ r.last)
  unfolding picks job
  picks_date P [] f i r e = absurd (Memᴰ.not-nil (getD_mem [] i r e))
  picks_date P (enter t w g ∷ es) f i r e =
      picks_date (entering P t w g) es (each_more (λ (x : Job). x.admitted ≤ P.slot) P.left f (omega arith)) i r e
  picks_date P (end_slot ∷ es) f zero r e =
      let k = (search P.slot P.left (named q d b P)).is r e in
      (omega (arith, f r k.mem), omega (arith, k.date))
  picks_date P (end_slot ∷ es) f (suc i) r e =
      let x = named q d b P in
      let k = picks_date (closing P x) es (λ y m. omega (arith, f y (without_mem (valid P.slot P.left x) P.left m).0)) i r e in
      (omega (arith, k.0), omega (arith, k.1))

  -- no ticket is picked twice
  picks_once : {S : Setting} {h : ℕ} {P : Place} {es : List Change} → GoesOn S h P es → (i k : ℕ) (r x : Job) → get_or (picks q d b P es) i none ≡ some r
      → get_or (picks q d b P es) k none ≡ some x → r.ticket ≡ x.ticket → i ≡ k
  unfolding picks ticket_of
  picks_once {es = []} g i k r x e f z = absurd (Memᴰ.not-nil (getD_mem [] i r e))
  picks_once {P = P} {es = enter t w n ∷ es} g i k r x e f z = picks_once {h = t} {P = entering P t w n} {es = es} (goes_enter g) i k r x e f z
  picks_once {S} {h} {P} {es = end_slot ∷ es} g i k r x e f z = go i k e f (λ a c m n. picks_once {h = h} {P = closing P y} {es = es} (goes_end y g) a c r x m n z)
    where
      y : ℕ
      y = named q d b P

      t : ℕ
      t = valid P.slot P.left y

      now : Option Job
      now = found P.slot P.left y

      others : List (Option Job)
      others = picks q d b (closing P y) es

      -- a later pick has another ticket than the first
      other : (j : ℕ) (v w : Job) → now ≡ some v → get_or others j none ≡ some w → v.ticket ≡ w.ticket → ⊥
      other j v w u m vw =
          ⊎_elim
          (λ n. (without_mem t P.left n).1 (sym vw ∙ sym (s.named ∙ ap ticket_of u)))
          (λ n.
          omega (arith, rising_above (entered_rising S h (suc P.slot) es (goes_end y g).later) n, g.left.most v (s.is v u).mem))
          (Memᴰ.append_cases (rest P y) (picks_from q d b (closing P y) es w (getD_mem others j w m)))
        where
          s : Search P.slot P.left y now
          s = search P.slot P.left y

      go : (a c : ℕ) → get_or (now ∷ others) a none ≡ some r → get_or (now ∷ others) c none ≡ some x
          → ((a c : ℕ) → get_or others a none ≡ some r → get_or others c none ≡ some x → a ≡ c) → a ≡ c
      go zero zero m n ih = refl
      go zero (suc c) m n ih = absurd (other c r x m n z)
      go (suc a) zero m n ih = absurd (other a x r n m (sym z))
      go (suc a) (suc c) m n ih = ap suc (ih a c m n)

module _ (S : Setting) (B : Book) (T : Tried S B) (q : Rule) (d : ℕ) where
  abbrev b : Beginning
  b = B.beginning

  abbrev os : List (Option Job)
  os = picks_on q d B

  -- the job of a slot that is given a ticket
  record Given (s : ℕ) : Type 0 where
    i : ℕ
    at : s ≡ b.slot + i
    r : Job
    pick : get_or os i none ≡ some r
    ticket : made_by q d B s ≡ r.ticket

  given : (s : ℕ) → ¬ (made_by q d B s ≡ 0) → Given s
  unfolding made_by
  given s h = go (get_or os k.0 none) refl
    where
      ts : List ℕ
      ts = choices q d B.beginning [] B.beginning.slot B.beginning.jobs B.changes

      k : (i : ℕ) × (s ≡ B.beginning.slot + i) × (from_slot B.beginning.slot ts s ≡ get_or ts i 0)
      k = from_slot_inv B.beginning.slot ts s h

      ticket : from_slot B.beginning.slot ts s ≡ ticket_of (get_or os k.0 none)
      ticket = k.2 ∙ choices_at q d B k.0

      go : (o : Option Job) → get_or os k.0 none ≡ o → Given s
      go none e = absurd (h (ticket ∙ ap ticket_of e ∙ (unfold ticket_of in refl)))
      go (some r) e = record { i = k.0; at = k.1; r = r; pick = e; ticket = ticket ∙ ap ticket_of e ∙ (unfold ticket_of in refl) }

  pub made_schedule : IsSchedule B (made_by q d B)
  made_schedule = record { of_book = of_book; once = once }
    where
      of_book : (s : ℕ) → ¬ (made_by q d B s ≡ 0)
          → (r : Job) × Memᴰ r (jobs B) × (r.ticket ≡ made_by q d B s) × (r.admitted ≤ s) × (s ≤ r.last)
      of_book s h =
          let g = given s h in
          let t = picks_date q d b (start b) B.changes (λ x m. (at_first S b T.at_first x m).admitted) g.i g.r g.pick in
          (g.r, picked_job q d B g.i g.r g.pick, sym g.ticket, omega (arith, t.0, g.at), omega (arith, t.1, g.at))

      once : (s t : ℕ) → ¬ (made_by q d B s ≡ 0) → made_by q d B s ≡ made_by q d B t → s ≡ t
      once s t h e =
          let g = given s h in
          let k = given t (λ z. h (e ∙ z)) in
          let i = picks_once q d b (goes_start T) g.i k.i g.r k.r g.pick k.pick (sym g.ticket ∙ e ∙ k.ticket) in
          omega (arith, g.at, k.at)
