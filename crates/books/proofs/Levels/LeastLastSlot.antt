-- Always the least last slot: a rival, and so of level 0; at depth 1 not of level 1, by 01's board 4.
use mathlib.Core.Path.{◌≡◌, refl, sym, subst}
use mathlib.Core.Bool.{false≢true}
use mathlib.Core.Option.{some}
use mathlib.Core.List.{List, [], ◌∷◌, Memᴰ}
use Prim.Native.Nat.{ℕ, suc}
use native.Mathlib.Omega.{arith}
use Rattle.lists.specs.Select.{select, has, how_many, one_if, every}
use Rattle.lists.specs.Least.{least, least_from}
use Rattle.lists.specs.Rise.{rise}
use Rattle.rule.specs.Job.{Job, job, laxity, in_date}
use Rattle.rule.specs.Grade.{bits, starts, graded, starting}
use Rattle.rule.specs.Tight.{laxities, excess, smallest, tight_laxity, tight}
use Rattle.rule.specs.Descent.{next_bit, descend, no_regret_after}
use Rattle.rule.specs.Bake.{sooner, soonest_of, soonest, ticket_of}
use Rattle.rule.proofs.Earliest.{soonest_is, soonest_none}
use Rattle.rule.proofs.Tight.Counts.{AllInDate, in_date_all, fall_member}
use Rattle.rule.proofs.Tight.Slot.{tight_last, tight_last_is, mem_tight}
use Rattle.books.specs.Book.{Beginning, Change, enter, end_slot, Book}
use Rattle.books.specs.Rule.{valid, without}
use Rattle.books.specs.Rival.{Setting, fit, any_laxity, lifted, begun, Tried, Level}
use Rattle.books.specs.NoRegretRule.{by_choice, replay, keeps_at, EachClosing, Keeps}
use Rattle.books.specs.LeastLastSlot.{least_last_choice, least_last_rule, paper_setting}
use Rattle.books.proofs.Walks.Left.{Left}
use Rattle.books.proofs.Runs.Kept.{Kept, after_none}
use Rattle.books.proofs.Choices.OurChoice.{kept_choice}
use Rattle.books.proofs.Choices.KeptChoice.{choice_keeps}
use Rattle.books.proofs.Levels.Characterised.{characterised}

-- the least last slot is tight
soonest_tight : (s : ℕ) (A : List Job) (p : Job) → AllInDate s A → soonest A ≡ some p → Memᴰ p (tight s A)
soonest_tight s A p a e =
    let q = soonest_is A p e in
    let t = tight_last_is s A a q.member in
    let l = tight_last s A in
    let r = fall_member A l (suc l) t.present in
    mem_tight s A a q.member (omega (arith, (q.sooner r.0 r.1).last, r.3))

least_kept : (d : ℕ) (b : Beginning) (past : List Change) (s h : ℕ) (left : List Job) → Left h left → Kept 0 d s left (least_last_choice d b past s left)
unfolding least_last_choice
least_kept d b past s h left l =
    let A = select (in_date s) left in
    kept_choice 0 d s l (soonest A) (soonest_none A) (λ p e. subst (Memᴰ p) (sym (after_none s d A)) (soonest_tight s A p (in_date_all s left) e))

pub least_last_level0 : (S : Setting) → Level S 0 least_last_rule
unfolding least_last_rule
least_last_level0 S = (characterised S).keeps_level 0 (omega arith) _ (choice_keeps S 0 least_last_choice (λ b past s h left l. least_kept S.depth b past s h left l))

-- 01's board 4 as a book: 1/1, 2/1, 2/0, and a closing
board_4 : Book
board_4 = record { beginning = record { slot = 1; highest = 0; jobs = [] }; changes = enter 1 1 1 ∷ enter 2 2 1 ∷ enter 3 2 0 ∷ end_slot ∷ [] }

tried_4 : Tried (paper_setting 1) board_4
unfolding board_4 paper_setting lifted any_laxity begun fit rise every
tried_4 = record { beginning = refl; at_first = refl; later = refl }

-- it bakes the 1/1 there, which is not of order 1
pub least_last_not_level1 : ¬ Level (paper_setting 1) 1 least_last_rule
unfolding Keeps EachClosing keeps_at board_4 paper_setting least_last_rule by_choice replay least_last_choice valid without job laxity in_date select has how_many one_if every least least_from bits starts graded starting laxities excess smallest tight_laxity tight next_bit descend no_regret_after sooner soonest_of soonest ticket_of
least_last_not_level1 l = false≢true ((characterised (paper_setting 1)).level_keeps 1 (omega arith) least_last_rule l board_4 tried_4).0
