-- A board with the facts is sound.
use mathlib.Core.Path.{◌≡◌, refl, ap, ◌∙◌}
use mathlib.Core.Bool.{Bool, true}
use mathlib.Core.List.Memᴰ
use borrow.Author.Tests.{le-leb, eq-eqb}
use Rattle.lists.specs.Select.{every}
use Rattle.lists.proofs.Members.{mem_every, le_every}
use Rattle.lists.proofs.Joined.{together, ◌also◌}
use Rattle.lists.proofs.Rising.{rise_above, never_fall_above, order_of_rise, order_of_never_fall}
use Rattle.rule.specs.Job.{Job}
use Rattle.board.specs.declared.Board.{Board}
use Rattle.board.specs.Held.{blank}
use Rattle.board.specs.Sound.{is_blank, blank_past_count, clauses, sound}
use Rattle.board.proofs.Soundness.Facts.{SoundFacts}

place_blank : is_blank blank ≡ true
unfolding is_blank every
place_blank = refl

pub blank_places : (b : Board) → SoundFacts b → blank_past_count b ≡ true
blank_places b f = mem_every is_blank _ (λ x m. ap is_blank (f.blank_past x m) ∙ place_blank)

pub all_sound : (b : Board) → SoundFacts b → sound b ≡ true
unfolding sound clauses
all_sound b f =
    together (λ (c : Board → Bool). c b) clauses
    (eq-eqb _ _ f.full
    also le-leb _ _ f.shallow
    also le-leb _ _ f.from_first
    also le-leb _ _ f.to_last
    also le-leb _ _ f.counted
    also blank_places b f
    also order_of_rise 0 _ f.tickets_rise
    also le_every _ (λ r m. rise_above 0 f.tickets_rise (Memᴰ.map (λ (q : Job). q.ticket) m))
    also le_every _ (λ r m. (f.each r m).known)
    also le_every _ (λ r m. never_fall_above 1 f.slots_in_order (Memᴰ.map (λ (q : Job). q.admitted) m))
    also order_of_never_fall 1 _ f.slots_in_order
    also le_every _ (λ r m. (f.each r m).begun)
    also le_every _ (λ r m. (f.each r m).in_date)
    also le_every _ (λ r m. (f.each r m).short)
    also le_every _ (λ r m. (f.each r m).graded)
    also le_every _ f.intake
    also tt)
