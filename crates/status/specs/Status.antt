-- The exit status of a run by how it ended.
use Rattle.std.specs.Prelude.{ℕ, Result, Ok, Err}
use Rattle.status.specs.declared.Stop.{Stop}

-- 0 where the end of input was read and the whole output was written, whatever lines were refused
unfoldable pub status : Result Unit Stop → ℕ
status (Ok _) = 0
status (Err _) = 1
