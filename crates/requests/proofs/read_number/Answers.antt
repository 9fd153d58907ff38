-- `read_number` answers row 14 or what is asked for, by what the field is that begins behind the letter's comma.
use mathlib.Core.Path.{refl, sym, ap, ◌∙◌}
use Rattle.std.specs.Prelude.{ℕ, Ok, Err}
use Rattle.std.proofs.Math.Option.{none}
use Rattle.board.specs.declared.refusal.Refusal.TheVariants.{NotANumber}
use Rattle.lines.specs.Fields.{a_number}
use Rattle.fields.specs.Numbers.{field_result, field_read}
use Rattle.requests.proofs.FieldByField.{bad_says}
use Rattle.requests.proofs.Places.{behind_letter, two}
use Rattle.requests.proofs.read_number.Goals as goal

pub returns-in_default : goal.returns-in_default
returns-in_default g c h =
    let line = c.args.line.now in
    let a = c.number_at-read.ensures in
    let e = sym (ap field_result c.in_default.is) ∙ a.1 ∙ ap (field_read a_number) (sym (behind_letter line h 0)) in
    record {
      whole = two line h _ a.0;
      number = Err NotANumber;
      is_read = ap (λ (i : ℕ). (i, none)) (sym (bad_says a_number _ _ e).1) ∙ e;
      asked = refl;
    }

pub returns : goal.returns
returns g c h =
    let line = c.args.line.now in
    let a = c.number_at-read.ensures in
    record {
      whole = two line h _ a.0;
      number = Ok c.in-Ok.number;
      is_read = sym (ap field_result c.in-Ok.is) ∙ a.1 ∙ ap (field_read a_number) (sym (behind_letter line h 0));
      asked = c.asks.ensures;
    }
