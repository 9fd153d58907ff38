-- What reading a line answers.
use Rattle.std.specs.Prelude.{Bool}
use Rattle.lines.specs.Bytes.{Bytes}
use Rattle.lines.specs.Reading.{line_number, Request, request}
use Rattle.fields.specs.Results.{Result, result}

-- A line while a board is open or is not: the first of rows 11 to 15 that is given, or what the line asks for.
unfoldable pub line_result : (opened : Bool) → Bytes → Result Request
line_result opened l = result (line_number opened l) (request l)
