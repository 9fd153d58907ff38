-- What is printed up to the end of input, and at it, is the whole output.
use mathlib.Core.Path.{◌≡◌, ap, ◌∙◌}
use Prim.Native.Nat.{◌+◌}
use lib.ListN.{length, length-append}
use Rattle.lines.specs.Bytes.{Bytes}
use Rattle.lines.specs.Printers.{Program, whole_output}
use Rattle.lines.specs.Machine.{new_machine, after_bytes, printed_along, printed_at_end, ByteByByte}
use Rattle.lines.proofs.ByteByByte.{byte_by_byte}

pub output_length : (g : Program) (input : Bytes)
    → length (whole_output g input) ≡ length (printed_along (new_machine g) input) + length (printed_at_end (after_bytes (new_machine g) input))
unfolding ByteByByte
output_length g input =
    ap length (byte_by_byte g input).printed
    ∙ length-append (printed_along (new_machine g) input) (printed_at_end (after_bytes (new_machine g) input))
