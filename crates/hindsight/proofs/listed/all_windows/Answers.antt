use Rattle.std.proofs.Common.{refl, ◌&&◌, ◌∙◌, rules, tests}
use Rattle.std.specs.List.{list_all}
use Rattle.std.proofs.lemmas.Iterator.{YieldsList-from_slice}
use Rattle.std.proofs.lemmas.Iterator.Search.{all_from_yields_List}
use Rattle.std.proofs.lemmas.List.Recursion.{same_from_clauses}
use Rattle.lists.specs.Select.{every}
use Rattle.matching.specs.Windows.{is_window as is_window_of}
use Rattle.hindsight.proofs.listed.all_windows.Goals as goal

pub returns : goal.returns
unfolding every
returns c =
    let ws = c.args.windows.now in
    all_from_yields_List is_window_of _ _ _ c.all.ensures.ran (YieldsList-from_slice ws cc) (λ x b q k. search (rules, tests))
    ∙ same_from_clauses (list_all is_window_of) (every is_window_of) (λ w b. is_window_of w && b) refl (λ _ _. refl) (λ _ _. refl) ws
