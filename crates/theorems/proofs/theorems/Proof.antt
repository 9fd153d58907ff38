-- `theorems::theorems` ensures the statements: each is proved in proofs/ of a crate below. Assumes nothing.
use Rattle.rule.proofs.Worked.{worked}
use Rattle.books.proofs.Levels.Characterised.{characterised}
use Rattle.books.proofs.Levels.NeverIdle.{never_idle}
use Rattle.books.proofs.Levels.LeastLastSlot.{least_last_level0, least_last_not_level1}
use Rattle.feasibility.proofs.Slots.{baked_somewhere}
use Rattle.feasibility.proofs.Fewest.{shortfall_fewest}
use Rattle.feasibility.proofs.AllBaked.{zero_suffices}
use Rattle.feasibility.proofs.Promise.{promised_least, longer_too}
use Rattle.board.proofs.Soundness.FreePlace.{free_place}
use Rattle.board.proofs.Calls.SoundAfterOpening.{opened_sound, opened_count}
use Rattle.matching.proofs.Hindsight.{best_in_hindsight}
use Rattle.claims.proofs.SoundKept.{sound_kept}
use Rattle.claims.proofs.Unbeaten.{demand3}
use Rattle.claims.proofs.Drawing.Alone.{drawn_alone}
use Rattle.claims.proofs.Tallying.InBalance.{balance}
use Rattle.claims.proofs.Tallying.WithdrawFacts.{intake_kept}
use Rattle.claims.proofs.GivenUpInOrder.{given_up_in_order}
use Rattle.claims.proofs.Shortfall.{board_shortfall}
use Rattle.claims.proofs.Promise.{board_promise, never_sold_out}
use Rattle.lines.proofs.ByteByByte.{byte_by_byte}
use Rattle.lines.proofs.NeverMet.{never_met}
use Rattle.lines.proofs.NeverMet.MayMeet.{opened_shallow}
use Rattle.lines.proofs.BlankGrade.{blank_grade}
use Rattle.lines.proofs.SheetReadBack.{sheet_read_back}
use Rattle.theorems.proofs.theorems.Statement.{statement}
use Rattle.theorems.proofs.theorems.Tie as tie

returns : tie.Need-returns
returns c =
    record {
      demand3 = demand3;
      drawn_alone = drawn_alone;
      balance = balance;
      given_up_in_order = given_up_in_order;
      shortfall_fewest = shortfall_fewest;
      board_shortfall = board_shortfall;
      baked_somewhere = baked_somewhere;
      zero_suffices = zero_suffices;
      promised_least = promised_least;
      board_promise = board_promise;
      never_sold_out = never_sold_out;
      longer_too = longer_too;
      characterised = characterised;
      never_idle = never_idle;
      least_last_level0 = least_last_level0;
      least_last_not_level1 = least_last_not_level1;
      worked = worked;
      opening = λ d e. let h = opened_shallow d e in (opened_sound d h, opened_count d h);
      sound_kept = sound_kept;
      intake_kept = intake_kept;
      free_place = free_place;
      byte_by_byte = byte_by_byte;
      never_met = never_met;
      blank_grade = blank_grade;
      sheet_read_back = sheet_read_back;
      best_in_hindsight = best_in_hindsight;
    }

pub theorems_spec : {M : Type 1} → statement M
theorems_spec = tie.close (tie.spec returns)
