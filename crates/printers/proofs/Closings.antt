-- A closing handed to a page: what is printed of it, and the page after it.
use Rattle.std.proofs.Common.{◌≡◌, ℕ, true, Bool, cond, ◌&&◌, eqb, List, [], ◌∷◌, length, sym, refl, ap, ◌∙◌, append-nil, eq-eqb, ne_eqb}
use Rattle.lists.proofs.Tests.{cond_true}
use Rattle.lines.specs.Sheet.{Figures, figures_of, page, figures_in, sheet_number, is_full, with_closing, page_after}
use Rattle.lines.specs.Printers.{page_along, filled_by, pages_along}
use Rattle.answers.specs.declared.Closing.{Closing as ClosingHeld}
use Rattle.answers.specs.declared.Answer.{Answer as AnswerHeld}
use Rattle.answers.specs.declared.Answer.TheVariants.{Refused, Opened, Admitted, Promised, Withdrawn, Closed}
use Rattle.answers.specs.Printed.{answer_of, answer_fits}
use Rattle.answers.proofs.Jobs.{jobs_length}
use Rattle.answers.proofs.Room.{answer_fitting}
use Rattle.page.specs.declared.Figures.{Figures as FiguresHeld}
use Rattle.page.specs.declared.Page.{Page}
use Rattle.page.specs.Pages.{figures_held, handed_over}
use Rattle.printers.specs.Prints.{page_held}

-- a closing on a page that holds these
module _ (p : List Figures) (f : Figures) where
  along_one : pages_along p (f ∷ []) ≡ filled_by p f
  unfolding pages_along
  along_one = append-nil (filled_by p f)

  pub after_one : page_along p (f ∷ []) ≡ page_after p f
  unfolding page_along
  after_one = refl

  -- refused: nothing is printed, and the page is as it was
  module _ (h : sheet_number f ≡ 0 → ⊥) where
    pub refused_printed : pages_along p (f ∷ []) ≡ []
    unfolding filled_by
    refused_printed = along_one ∙ ap (λ (b : Bool). cond (b && is_full (with_closing p f)) (page (with_closing p f)) []) (ne_eqb (sheet_number f) 0 h)

  -- taken: the page is printed once it is full
  module _ (h : sheet_number f ≡ 0) (b : Bool) (e : is_full (page_after p f) ≡ b) where
    taken : page_after p f ≡ with_closing p f
    unfolding page_after
    taken = cond_true (eqb (sheet_number f) 0) (with_closing p f) p (eq-eqb (sheet_number f) 0 h)

    pub taken_printed : pages_along p (f ∷ []) ≡ cond b (page (page_after p f)) []
    unfolding filled_by
    taken_printed =
        along_one
        ∙ ap (λ (c : Bool). cond (c && is_full (with_closing p f)) (page (with_closing p f)) []) (eq-eqb (sheet_number f) 0 h)
        ∙ ap (λ (q : List Figures). cond (is_full q) (page q) []) (sym taken)
        ∙ ap (λ (c : Bool). cond c (page (page_after p f)) []) e

-- an answer that is no closing brings nothing to the sheet, and the page is as it was
pub no_closing : (a : AnswerHeld) (T G : List ℕ) → ((c : ClosingHeld) → a ≡ Closed c → ⊥) → figures_in (answer_of a T G) ≡ []
unfolding figures_in answer_of
no_closing (Refused n) T G h = refl
no_closing (Opened d) T G h = refl
no_closing (Admitted t k) T G h = refl
no_closing (Promised w) T G h = refl
no_closing (Withdrawn t) T G h = refl
no_closing (Closed c) T G h = absurd (h c refl)

pub page_as_it_was : (a : AnswerHeld) (p : Page) (l : ℕ) → ((c : ClosingHeld) → a ≡ Closed c → ⊥) → page_held p a l ≡ p
unfolding page_held
page_as_it_was (Refused n) p l h = refl
page_as_it_was (Opened d) p l h = refl
page_as_it_was (Admitted t k) p l h = refl
page_as_it_was (Promised w) p l h = refl
page_as_it_was (Withdrawn t) p l h = refl
page_as_it_was (Closed c) p l h = absurd (h c refl)

-- an answer is a closing with these figures
pub record IsClosing (a : AnswerHeld) (T G : List ℕ) (f : FiguresHeld) : Type 0 where
  pub short : ℕ
  pub closed : a ≡ Closed (record { slot = f.slot; ticket = f.ticket; grade = f.grade; shortfall = short })
  pub listed : f.listed ≡ length T
  pub as_many : length G ≡ length T

-- that of a closing held, with as many racks given up as there are tickets
abbrev pub figures_closed : ClosingHeld → (listed : ℕ) → FiguresHeld
figures_closed c n = record { slot = c.slot; ticket = c.ticket; grade = c.grade; listed = n }

pub is_closing : {a : AnswerHeld} {c : ClosingHeld} (T G : List ℕ) → a ≡ Closed c → length G ≡ length T → IsClosing a T G (figures_closed c (length T))
is_closing {c = c} T G e n = record { short = c.shortfall; closed = e; listed = refl; as_many = n }

-- where the answer fits
pub closing_fits : {a : AnswerHeld} {c : ClosingHeld} (T G : List ℕ) (at end : ℕ) → a ≡ Closed c → answer_fits (length T) (length G) at end ≡ true
    → IsClosing a T G (figures_closed c (length T))
closing_fits T G at end e f = is_closing T G e (answer_fitting (length T) (length G) at end f).as_many

-- it brings them to the sheet
module _ {a : AnswerHeld} {T G : List ℕ} {f : FiguresHeld} (c : IsClosing a T G f) where
  pub closing_figures : figures_in (answer_of a T G) ≡ figures_held f ∷ []
  unfolding figures_in figures_of answer_of figures_held
  closing_figures =
      ap (λ (x : AnswerHeld). figures_in (answer_of x T G)) c.closed
      ∙ ap (λ n. record { slot = f.slot.0; ticket = f.ticket; grade = f.grade; given_up = n } ∷ []) (jobs_length T G c.as_many ∙ sym c.listed)

  pub closing_page : (p : Page) → page_held p a (length T) ≡ (handed_over p f).page
  unfolding page_held
  closing_page p =
      ap (λ (x : AnswerHeld). page_held p x (length T)) c.closed
      ∙ ap (λ (n : ℕ). (handed_over p (record { slot = f.slot; ticket = f.ticket; grade = f.grade; listed = n })).page) (sym c.listed)
