-- A sound board has the facts.
use mathlib.Core.Path.{◌≡◌}
use mathlib.Core.Bool.{Bool, true}
use mathlib.Core.List.{Memᴰ}
use lib.Dec.{eqb}
use lib.ListN.{drop}
use borrow.Author.Tests.{leb-true, eqb-true}
use Rattle.lists.proofs.Members.{every_mem}
use Rattle.lists.proofs.Joined.{apart}
use Rattle.lists.proofs.Rising.{rise_of_order, never_fall_of_order}
use Rattle.board.specs.declared.Place.{Place}
use Rattle.board.specs.declared.Board.{Board}
use Rattle.board.specs.Held.{slot_number, blank, held}
use Rattle.board.specs.Sound.{is_blank, blank_past_count, clauses, sound}
use Rattle.board.proofs.Soundness.Facts.{SoundFacts}

blank_place : (x : Place) → is_blank x ≡ true → x ≡ blank
unfolding is_blank
blank_place x h =
    let p = apart (λ n. eqb n 0) _ h in
    λ i.
    record {
      ticket = eqb-true x.ticket 0 p.0 i;
      admitted = slot_number (eqb-true x.admitted.0 0 p.1.0 i);
      last = slot_number (eqb-true x.last.0 0 p.1.1.0 i);
      grade = eqb-true x.grade 0 p.1.1.1.0 i;
    }

pub blanks : (b : Board) → blank_past_count b ≡ true → (x : Place) → Memᴰ x (drop b.count b.places) → x ≡ blank
blanks b h x m = blank_place x (every_mem is_blank h m)

pub facts : (b : Board) → sound b ≡ true → SoundFacts b
unfolding sound clauses
facts b h =
    let (places, p) = apart (λ (c : Board → Bool). c b) clauses h in
    let (depth, p) = p in
    let (first, p) = p in
    let (last, p) = p in
    let (count, p) = p in
    let (past, p) = p in
    let (tickets, p) = p in
    let (from_one, p) = p in
    let (known, p) = p in
    let (slots-from-one, p) = p in
    let (slots, p) = p in
    let (begun, p) = p in
    let (in_date, p) = p in
    let (short, p) = p in
    let (graded, p) = p in
    let (intake, p) = p in
    record {
      full = eqb-true _ _ places;
      shallow = leb-true _ _ depth;
      from_first = leb-true _ _ first;
      to_last = leb-true _ _ last;
      counted = leb-true _ _ count;
      blank_past = blanks b past;
      tickets_rise = rise_of_order _ 0 (held b) tickets (λ r m. leb-true _ _ (every_mem _ from_one m));
      slots_in_order = never_fall_of_order _ 1 (held b) slots (λ r m. leb-true _ _ (every_mem _ slots-from-one m));
      each =
          λ r m.
          record {
            known = leb-true _ _ (every_mem _ known m);
            begun = leb-true _ _ (every_mem _ begun m);
            in_date = leb-true _ _ (every_mem _ in_date m);
            short = leb-true _ _ (every_mem _ short m);
            graded = leb-true _ _ (every_mem _ graded m);
          };
      intake = λ r m. leb-true _ _ (every_mem _ intake m);
    }
