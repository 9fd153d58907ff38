-- `number_at` reads the bytes from where the field begins to where it ends; past the line's end there are none.
use mathlib.Core.Path.{refl, ap, ◌∙◌}
use Rattle.lines.specs.Bytes.{comma}
use Rattle.lines.specs.Fields.{a_number}
use Rattle.fields.specs.Numbers.{field_read}
use Rattle.fields.proofs.Commas.{field_between}
use Rattle.fields.proofs.numbers.number_at.Goals as goal

pub returns : goal.returns
unfolding comma
returns c =
    let line = c.args.line.now in
    let bytes = field_between line _ _ c.next_byte-end.ensures _ _ _ refl c.unwrap_or-bytes.ensures c.get.ensures.lookup in
    (c.next_byte-end.ensures, c.number_of.ensures ∙ ap (field_read a_number) bytes)
