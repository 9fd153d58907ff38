-- After i jobs: the chosen ones hold a slot each, and nobody else.
use mathlib.Core.Path.{◌≡◌, refl, sym, ap, ◌∙◌}
use mathlib.Core.Bool.{Bool, true, false}
use mathlib.Core.Logic.{◌⊎◌, inl, inr}
use mathlib.Core.List.{List}
use Prim.Native.Nat.{ℕ, suc, ◌+◌, ◌<◌}
use native.Mathlib.Omega.{arith}
use native.Mathlib.Numerals.{add-one}
use Rattle.std.specs.Prelude.{Option, None}
use lib.Dec.{eqb}
use lib.ListN.{length, set, get_or, replicate, length-replicate}
use borrow.Author.Tests.{eq-eqb, ne_eqb}
use Rattle.lists.specs.Select.{one_if}
use Rattle.lists.proofs.Counting.{one_if_yes, one_if_no}
use Rattle.lists.proofs.Tests.{test, never}
use Rattle.matching.specs.declared.Window.{Window}
use Rattle.matching.specs.Windows.{most_jobs, slot_count}
use Rattle.matching.specs.Choice.{is_in, all_fit, chosen_to}
use Rattle.matching.proofs.Below.Counting.{same_or_not, count_none}
use Rattle.matching.proofs.Choice.Sets.{all_same, none_in, set_in, set_out_of}
use Rattle.matching.proofs.Choice.Chosen.{chosen_length, chosen_late}
use Rattle.hindsight.specs.declared.search.Trail.{Trail}
use Rattle.hindsight.specs.Inner.Search.{visited_at, holder_number, holder, slots_held, Fitting, Stuck, OneMore, Ready, Sought}
use Rattle.hindsight.specs.Inner.Accepted.{Accepted}
use Rattle.hindsight.proofs.Choosing.Found.{holders_fit}
use Rattle.hindsight.proofs.Choosing.NotFound.{not_fit}

-- a search that begins
abbrev pub fresh : List (Option ℕ) → Trail
fresh holders = record { visited = replicate slot_count false; holders = holders }

pub record Matched (ws : List Window) (i : ℕ) (c : List Bool) (holders : List (Option ℕ)) : Type 0 where
  pub chosen_is : c ≡ chosen_to ws i
  pub fitting : Fitting ws (fresh holders)
  pub once : (r : ℕ) → slots_held (fresh holders) (suc r) ≡ one_if (is_in c r)

all_free : (k : ℕ) → holder_number (get_or (replicate slot_count None) k None) ≡ 0
all_free k = ap holder_number (all_same {A = Option ℕ} None slot_count k)

pub matched_first : (ws : List Window) → Matched ws 0 (replicate most_jobs false) (replicate slot_count None)
unfolding chosen_to holder slots_held
matched_first ws =
    record {
      chosen_is = refl;
      fitting = record {
        visited_all = length-replicate {A = Bool} slot_count false;
        holders_all = length-replicate {A = Option ℕ} slot_count None;
        held = λ k r h e. absurd (omega (arith, all_free k));
      };
      once = λ r.
          count_none (λ k. eqb (holder_number (get_or (replicate slot_count None) k None)) (suc r)) slot_count (λ k h. ne_eqb (holder_number (get_or (replicate slot_count None) k None)) (suc r) (λ e. omega (arith, all_free k)))
          ∙ sym (one_if_no (is_in (replicate most_jobs false) r) (none_in most_jobs r));
    }

module _ (ws : List Window) (ok : Accepted ws) (i : ℕ) (h : i < length ws) (c : List Bool) (holders : List (Option ℕ)) (m : Matched ws i c holders) where
  pub ready : Ready ws i (fresh holders)
  ready = record { job = h; fitting = m.fitting }

  all_there : length c ≡ most_jobs
  all_there = ap length m.chosen_is ∙ chosen_length ws i

  not_yet : is_in c i ≡ false
  not_yet = ap (λ l. is_in l i) m.chosen_is ∙ chosen_late ws i i (omega arith)

  i_there : i < length c
  i_there = omega (arith, all_there, ok.few)

  module _ (t : Trail) (found : Bool) (s : Sought ws i (fresh holders) t found) where
    -- the trail's holders, as those of the next search
    next_fitting : Fitting ws (fresh t.holders)
    unfolding holder
    next_fitting = let f = s.kept.fitting in record { visited_all = length-replicate {A = Bool} slot_count false; holders_all = f.holders_all; held = f.held }

    next_held : (h : ℕ) → slots_held (fresh t.holders) h ≡ slots_held t h
    unfolding slots_held holder
    next_held h = refl

    -- a slot is found
    once_found : found ≡ true → (r : ℕ) → slots_held t (suc r) ≡ one_if (is_in (set c i true) r)
    unfolding OneMore
    once_found e r = go (same_or_not r i)
      where
        go : (r ≡ i) ⊎ (r ≡ i → ⊥) → slots_held t (suc r) ≡ one_if (is_in (set c i true) r)
        go (inl n) =
            omega (
              arith,
              s.one_more e r,
              m.once r,
              one_if_no (is_in c r) (ap (is_in c) n ∙ not_yet),
              one_if_yes (eqb (suc i) (suc r)) (eq-eqb (suc i) (suc r) (omega arith)),
              one_if_yes (is_in (set c i true) r) (ap (is_in (set c i true)) n ∙ set_in c i true i_there),
            )
        go (inr n) =
            omega (
              arith,
              s.one_more e r,
              m.once r,
              one_if_no (eqb (suc i) (suc r)) (ne_eqb (suc i) (suc r) (λ z. n (omega arith))),
              ap one_if (set_out_of c i true r n),
            )

    once_not : found ≡ false → (r : ℕ) → slots_held t (suc r) ≡ one_if (is_in c r)
    unfolding slots_held holder
    once_not e r = ap (λ l. slots_held (fresh l) (suc r)) (s.no_slot e).same ∙ m.once r

    stuck_all : found ≡ false → (k : ℕ) → k < slot_count → visited_at t k ≡ true → Stuck ws t k
    unfolding visited_at is_in
    stuck_all e k l y = go ((s.no_slot e).stuck k l y)
      where
        go : (visited_at (fresh holders) k ≡ true) ⊎ Stuck ws t k → Stuck ws t k
        go (inl z) = never z (none_in slot_count k)
        go (inr z) = z

    chosen_next : found ≡ all_fit ws (set c i true)
    chosen_next = go (test found)
      where
        go : (found ≡ true) ⊎ (found ≡ false) → found ≡ all_fit ws (set c i true)
        go (inl e) = e ∙ sym (holders_fit ws ok t s.kept.fitting (set c i true) (once_found e))
        go (inr e) = e ∙ sym (not_fit ws ok t s.kept.fitting (stuck_all e) c (once_not e) i h i_there not_yet (s.no_slot e).searched)

    once_next : (r : ℕ) → slots_held t (suc r) ≡ one_if (is_in (set c i found) r)
    once_next r = go (test found) (same_or_not r i)
      where
        go : (found ≡ true) ⊎ (found ≡ false) → (r ≡ i) ⊎ (r ≡ i → ⊥) → slots_held t (suc r) ≡ one_if (is_in (set c i found) r)
        go (inl e) z = once_found e r ∙ ap (λ v. one_if (is_in (set c i v) r)) (sym e)
        go (inr e) (inl n) =
            once_not e r
            ∙ ap one_if (ap (is_in c) n ∙ not_yet ∙ sym e ∙ sym (set_in c i found i_there) ∙ ap (is_in (set c i found)) (sym n))
        go (inr e) (inr n) = once_not e r ∙ ap one_if (sym (set_out_of c i found r n))

    pub matched_next : Matched ws (i + 1) (set c i found) t.holders
    unfolding chosen_to
    matched_next =
        record {
          chosen_is = rw add-one (ap (set c i) chosen_next ∙ ap (λ l. set l i (all_fit ws (set l i true))) m.chosen_is);
          fitting = next_fitting;
          once = λ r. next_held (suc r) ∙ once_next r;
        }
