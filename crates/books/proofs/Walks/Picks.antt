-- The jobs that a rule bakes along the changes, one for each closing or none, and the tickets of its choices.
use mathlib.Core.Path.{◌≡◌, refl, sym, ap, ap₂, ◌∙◌, subst}
use mathlib.Core.Bool.{Bool, true, false, cond, ◌&&◌, ◌||◌}
use mathlib.Core.Logic.{◌⊎◌, inl, inr}
use mathlib.Core.Option.{Option, none, some, none-ne-some, some-ne-none}
use mathlib.Core.List.Memᴰ
use mathlib.Core.List.{List, [], ◌∷◌, ◌++◌, map, append_assoc, Memᴰ}
use Prim.Native.Nat.{ℕ, suc, ◌≤◌}
use lib.Dec.{leb, eqb}
use borrow.Author.Tests.{leb-true, eqb-true}
use Rattle.lists.specs.Select.{has}
use Rattle.lists.proofs.Tests.{test, and_left, and_right, cond_true, cond_false}
use Rattle.rule.specs.Job.{Job, job, in_date}
use Rattle.rule.specs.Bake.{ticket_of}
use Rattle.books.specs.Book.{Beginning, Change, enter, end_slot, entered}
use Rattle.books.specs.Rule.{Rule, valid, choices}
use Rattle.books.proofs.Walks.Place.{Place, entering, closing, named}
use Rattle.books.proofs.Walks.Tickets.{without_mem_append}

-- the job that a ticket names, if it is left and in date
unfoldable pub found : ℕ → List Job → ℕ → Option Job
found s [] t = none
found s (r ∷ L) t = cond (eqb r.ticket t && in_date s r) (some r) (found s L t)

-- what is known of it
pub record Found (s : ℕ) (L : List Job) (t : ℕ) (r : Job) : Type 0 where
  pub mem : Memᴰ r L
  pub ticket : r.ticket ≡ t
  pub date : s ≤ r.last

pub record Search (s : ℕ) (L : List Job) (t : ℕ) (o : Option Job) : Type 0 where
  pub is : (r : Job) → o ≡ some r → Found s L t r
  pub named : valid s L t ≡ ticket_of o
  pub has_it : o ≡ none → has (λ r. eqb r.ticket t && in_date s r) L ≡ false

pub search : (s : ℕ) (L : List Job) (t : ℕ) → Search s L t (found s L t)
unfolding found valid has ticket_of in_date
search s [] t = record { is = λ r e. absurd (none-ne-some r e); named = refl; has_it = λ e. refl }
search s (x ∷ L) t = go (test (eqb x.ticket t && leb s x.last)) (search s L t)
  where
    c : Bool
    c = eqb x.ticket t && leb s x.last

    rest : Bool
    rest = has (λ r. eqb r.ticket t && leb s r.last) L

    go : (c ≡ true) ⊎ (c ≡ false) → Search s L t (found s L t) → Search s (x ∷ L) t (cond c (some x) (found s L t))
    go (inl h) k =
        subst (λ (o : Option Job). Search s (x ∷ L) t o) (sym (cond_true c (some x) (found s L t) h))
        (record {
          is =
              λ r e.
              let q : x ≡ r = cc in
              record {
                mem = Memᴰ.head (sym q);
                ticket = sym (ap (λ (y : Job). y.ticket) q) ∙ eqb-true x.ticket t (and_left (eqb x.ticket t) (leb s x.last) h);
                date = subst (λ (y : Job). s ≤ y.last) q (leb-true s x.last (and_right (eqb x.ticket t) (leb s x.last) h));
              };
          named =
              ap (λ b. cond (b || rest) t 0) h ∙ sym (eqb-true x.ticket t (and_left (eqb x.ticket t) (leb s x.last) h));
          has_it = λ e. absurd (some-ne-none x e);
        })
    go (inr h) k =
        subst (λ (o : Option Job). Search s (x ∷ L) t o) (sym (cond_false c (some x) (found s L t) h))
        (record {
          is = λ r e. let f = k.is r e in record { mem = Memᴰ.tail f.mem; ticket = f.ticket; date = f.date };
          named = ap (λ b. cond (b || rest) t 0) h ∙ k.named;
          has_it = λ e. ap (λ b. b || rest) h ∙ k.has_it e;
        })

module _ (q : Rule) (d : ℕ) (b : Beginning) where
  -- the jobs that a rule bakes along the changes
  unfoldable pub picks : Place → List Change → List (Option Job)
  picks P [] = []
  picks P (enter t w g ∷ es) = picks (entering P t w g) es
  picks P (end_slot ∷ es) = found P.slot P.left (named q d b P) ∷ picks (closing P (named q d b P)) es

  pub picks_choices : (P : Place) (es : List Change) → choices q d b P.past P.slot P.left es ≡ map ticket_of (picks P es)
  unfolding choices picks
  picks_choices P [] = refl
  picks_choices P (enter t w g ∷ es) = picks_choices (entering P t w g) es
  picks_choices P (end_slot ∷ es) = ap₂ ◌∷◌ (search P.slot P.left (named q d b P)).named (picks_choices (closing P (named q d b P)) es)

  -- each is left, or still to come
  pub picks_from : (P : Place) (es : List Change) (r : Job) → Memᴰ (some r) (picks P es) → Memᴰ r (P.left ++ entered P.slot es)
  unfolding picks entered
  picks_from P [] r m = absurd (elim m [ ])
  picks_from P (enter t w g ∷ es) r m =
      subst (Memᴰ r) (append_assoc P.left (job t P.slot w g ∷ []) (entered P.slot es)) (picks_from (entering P t w g) es r m)
  picks_from P (end_slot ∷ es) r (Memᴰ.head e) =
      Memᴰ.append_left (entered (suc P.slot) es) ((search P.slot P.left (named q d b P)).is r (sym e)).mem
  picks_from P (end_slot ∷ es) r (Memᴰ.tail m) =
      without_mem_append (valid P.slot P.left (named q d b P)) P.left (entered (suc P.slot) es) (picks_from (closing P (named q d b P)) es r m)
