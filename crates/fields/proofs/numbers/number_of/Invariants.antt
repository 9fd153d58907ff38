use Rattle.fields.proofs.Digits.{Passed}
use Rattle.fields.proofs.numbers.number_of.Given as goal

abbrev pub invariant-loop-b : goal.invariant-loop-b
invariant-loop-b l = Passed l.bytes l.b-index l.n
