-- The library's position in the places that hold jobs.
use mathlib.Core.Path.{◌≡◌, ap, ◌∙◌}
use mathlib.Core.Bool.{not}
use native.Mathlib.Omega.{arith}
use borrow.Author.Rules.{rules}
use lib.ListN.{take}
use Rattle.std.specs.Option.{unwrap_or}
use Rattle.std.specs.List.{position}
use Rattle.std.proofs.lemmas.Iterator.Search.{position_from_yields_List}
use Rattle.std.proofs.lemmas.Iterator.{YieldsList-from_slice}
use Rattle.matching.specs.Windows.{is_window as is_window_of, windows_of}
use Rattle.worklist.specs.Inner.Collecting.{passing}
use Rattle.worklist.proofs.FirstWindows.{first_of_places, places_within}
use Rattle.worklist.proofs.windows_first.Goals as goal

pub returns : goal.returns
returns c =
    let d = c.args.d in
    let p : c.position-first.result ≡ position (λ w. not (is_window_of w)) (take c.lesser-n.result d.windows) =
    position_from_yields_List (λ w. not (is_window_of w)) _ _ _ c.position-first.ensures.ran (YieldsList-from_slice _ cc) (λ x b q k. search rules) in
    let e : c.unwrap_or.result ≡ passing is_window_of (windows_of d) =
    c.unwrap_or.ensures ∙ ap (λ o. unwrap_or o c.lesser-n.result) p ∙ first_of_places d _ (omega arith) c.lesser-n.ensures in
    (e, omega (arith, e, places_within d _ (omega arith) c.lesser-n.ensures))
