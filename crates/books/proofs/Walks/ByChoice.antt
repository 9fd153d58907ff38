-- A rule by choice names, at each closing, the ticket that the choice names in the slot and with the jobs left that the changes so far lead to.
use mathlib.Core.Path.{◌≡◌, refl, sym, ap, ap₂, ◌∙◌, subst}
use mathlib.Core.List.{List, [], ◌∷◌, ◌++◌, append_assoc, append-nil}
use Prim.Native.Nat.{ℕ, suc}
use Rattle.rule.specs.Job.{Job, job}
use Rattle.books.specs.Book.{Beginning, Change, enter, end_slot}
use Rattle.books.specs.Rule.{valid, without, choices}
use Rattle.books.specs.NoRegretRule.{Choice, replay, by_choice}
use Rattle.books.proofs.Walks.Place.{Place, start, entering, rest, closing, after}

-- the choice f leads to P
pub record Reached (f : Choice) (d : ℕ) (b : Beginning) (P : Place) : Type 0 where
  pub on : (es : List Change) → replay f d b [] b.slot b.jobs (P.past ++ es) ≡ replay f d b P.past P.slot P.left es

-- the tickets that a choice bakes, one for each closing of the changes to come
unfoldable pub chosen : Choice → ℕ → Beginning → List Change → ℕ → List Job → List Change → List ℕ
chosen f d b past s left [] = []
chosen f d b past s left (enter t w g ∷ es) = chosen f d b (past ++ (enter t w g ∷ [])) s (left ++ (job t s w g ∷ [])) es
chosen f d b past s left (end_slot ∷ es) =
    let t = valid s left (f d b past s left) in
    t ∷ chosen f d b (past ++ (end_slot ∷ [])) (suc s) (without t left) es

module _ (f : Choice) (d : ℕ) (b : Beginning) where
  -- the ticket that it names at P
  abbrev pub choice_at : Place → ℕ
  choice_at P = f d b P.past P.slot P.left

  pub reached_start : Reached f d b (start b)
  reached_start = record { on = λ es. refl }

  pub reached_enter : {P : Place} (t w g : ℕ) → Reached f d b P → Reached f d b (entering P t w g)
  unfolding replay
  reached_enter {P} t w g h =
      record { on = λ es. ap (replay f d b [] b.slot b.jobs) (append_assoc P.past (enter t w g ∷ []) es) ∙ h.on (enter t w g ∷ es) }

  reached_closing : {P : Place} → Reached f d b P → Reached f d b (closing P (choice_at P))
  unfolding replay
  reached_closing {P} h =
      record { on = λ es. ap (replay f d b [] b.slot b.jobs) (append_assoc P.past (end_slot ∷ []) es) ∙ h.on (end_slot ∷ es) }

  -- what the rule names there
  pub names : {P : Place} → Reached f d b P → by_choice f d b P.past ≡ choice_at P
  unfolding replay by_choice
  names {P} h = ap (replay f d b [] b.slot b.jobs) (sym (append-nil P.past)) ∙ h.on []

  -- the rule's closing leads to where the choice's does
  pub reached_end : {P : Place} → Reached f d b P → Reached f d b (closing P (by_choice f d b P.past))
  reached_end {P} h = subst (λ x. Reached f d b (closing P x)) (sym (names h)) (reached_closing h)

  pub reached_after : {P : Place} (es : List Change) → Reached f d b P → Reached f d b (after (by_choice f) d b P es)
  unfolding after
  reached_after [] h = h
  reached_after {P = P} (enter t w g ∷ es) h = reached_after {P = entering P t w g} es (reached_enter t w g h)
  reached_after {P = P} (end_slot ∷ es) h = reached_after {P = closing P (by_choice f d b P.past)} es (reached_end h)

  choices_chosen : (P : Place) → Reached f d b P → (es : List Change)
      → choices (by_choice f) d b P.past P.slot P.left es ≡ chosen f d b P.past P.slot P.left es
  unfolding choices chosen
  choices_chosen P h [] = refl
  choices_chosen P h (enter t w g ∷ es) = choices_chosen (entering P t w g) (reached_enter t w g h) es
  choices_chosen P h (end_slot ∷ es) =
      ap₂ (λ n (ts : List ℕ). valid P.slot P.left n ∷ ts) (names h) (choices_chosen (closing P (by_choice f d b P.past)) (reached_end h) es)
      ∙ ap (λ n. valid P.slot P.left (choice_at P) ∷ chosen f d b (P.past ++ (end_slot ∷ [])) (suc P.slot) (rest P n) es) (names h)

  -- along a whole book
  pub choices_of_choice : (es : List Change) → choices (by_choice f) d b [] b.slot b.jobs es ≡ chosen f d b [] b.slot b.jobs es
  choices_of_choice es = choices_chosen (start b) reached_start es
