-- Opening gives a sound board with no jobs.
use mathlib.Core.Path.{◌≡◌, refl, ap, ◌∙◌, subst}
use mathlib.Core.Bool.{true}
use mathlib.Core.List.Memᴰ
use mathlib.Core.List.{[], map, Memᴰ}
use Prim.Native.Nat.{ℕ, suc, ◌≤◌}
use native.Mathlib.Omega.{arith}
use lib.Dec.{ltb}
use lib.ListN.{length-replicate}
use borrow.Author.Tests.{le-ltb}
use Rattle.lists.specs.Rise.{rise, never_fall}
use Rattle.rule.specs.Job.{Job}
use Rattle.board.specs.declared.Board.{Board}
use Rattle.board.specs.Limits.{places_held, last_slot, deepest}
use Rattle.board.specs.Rows.{first_given}
use Rattle.board.specs.Held.{blank, used, held}
use Rattle.board.specs.Sound.{sound}
use Rattle.board.specs.Open.{empty_board, opened_if, opened}
use Rattle.lists.proofs.Parts.{replicate_mem}
use Rattle.board.proofs.Soundness.Facts.{SoundFacts}
use Rattle.board.proofs.Soundness.Together.{all_sound}
use Rattle.board.proofs.Calls.Rows.{row_skipped}

pub empty_held : (d k h : ℕ) → held (empty_board d k h) ≡ []
unfolding empty_board held used
empty_held d k h = refl

pub empty_facts : (d k h : ℕ) → d ≤ deepest → 1 ≤ k → k ≤ suc last_slot → SoundFacts (empty_board d k h)
unfolding empty_board rise never_fall
empty_facts d k h deep first last =
    record {
      full = length-replicate places_held blank;
      shallow = deep;
      from_first = first;
      to_last = last;
      counted = omega arith;
      blank_past = λ x m. replicate_mem places_held blank m;
      tickets_rise = ap (λ A. rise 0 (map (λ (r : Job). r.ticket) A)) (empty_held d k h);
      slots_in_order = ap (λ A. never_fall 1 (map (λ (r : Job). r.admitted) A)) (empty_held d k h);
      each = λ r m. absurd (Memᴰ.not-nil (subst (Memᴰ r) (empty_held d k h) m));
      intake = λ r m. absurd (Memᴰ.not-nil (subst (Memᴰ r) (empty_held d k h) m));
    }

pub opened_board : (d : ℕ) → d ≤ deepest → (opened d).board ≡ empty_board d 1 0
unfolding opened opened_if first_given
opened_board d h = ap (λ n. (opened_if n d).board) (row_skipped 1 (ltb deepest d) [] (le-ltb deepest d h))

pub opened_sound : (d : ℕ) → d ≤ deepest → sound (opened d).board ≡ true
unfolding last_slot
opened_sound d h = ap sound (opened_board d h) ∙ all_sound (empty_board d 1 0) (empty_facts d 1 0 h (omega arith) (omega arith))

pub opened_count : (d : ℕ) → d ≤ deepest → (opened d).board.count ≡ 0
unfolding empty_board
opened_count d h = ap (λ (b : Board). b.count) (opened_board d h)
