-- Each answer is soundness as the code tests it, with the limits' test known.
use mathlib.Core.Path.{◌≡◌, sym, ap, ap₂, ◌∙◌}
use mathlib.Core.Bool.{true, false, ◌&&◌}
use Prim.Native.Nat.{◌-◌}
use lib.ListN.{length, take, drop, length-drop}
use lib.Seq.{take-length}
use Rattle.lists.specs.Select.{every}
use Rattle.board.specs.Limits.{places_held}
use Rattle.board.specs.Held.{slot_of}
use Rattle.board.specs.Sound.{is_blank}
use Rattle.soundness.specs.Inner.Walk.{in_limits}
use Rattle.board.proofs.Known.{all_places}
use Rattle.soundness.proofs.Parts.{sound_is}
use Rattle.soundness.proofs.is_sound.Goals as goal

pub returns-then-not-in_limits : goal.returns-then-not-in_limits
unfolding places_held
returns-then-not-in_limits c =
    let b = c.args.b in
    let out : in_limits b.depth (slot_of b) b.count ≡ false = sym c.in_limits.ensures ∙ c.if-not-in_limits.true in
    rw out at (sound_is b (all_places b _ c.well_formed.0))

pub returns : goal.returns
unfolding places_held
returns c =
    let b = c.args.b in
    let in_its_limits : in_limits b.depth (slot_of b) b.count ≡ true = sym c.in_limits.ensures ∙ c.if-not-in_limits.false in
    let rest : take (length b.places - b.count) (drop b.count b.places) ≡ drop b.count b.places = rw (← length-drop) (take-length (drop b.count b.places)) in
    ap₂ ◌&&◌ c.jobs_sound.ensures (c.all_blank.ensures ∙ ap (every is_blank) rest) ∙ (rw in_its_limits at (sound_is b (all_places b _ c.well_formed.0)))
