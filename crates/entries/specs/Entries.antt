-- An entry of the list that a caller lends to a closing.
use Rattle.rule.specs.Job.{Job}
use Rattle.board.specs.Held.{slot_number}
use Rattle.entries.specs.declared.Entry.{Entry}

-- 'one entry a rack: ticket, grade, admitted slot'
unfoldable pub entry_of : Job → Entry
entry_of r = record { ticket = r.ticket; grade = r.grade; admitted = slot_number r.admitted }
