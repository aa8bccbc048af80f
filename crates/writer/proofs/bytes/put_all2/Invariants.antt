-- `bytes::put_all2` meets its contract: a turn lays one number more, in two bytes. Assumes nothing.
use Rattle.writer.proofs.Laying.{Laying}
use Rattle.writer.proofs.bytes.put_all2.Given as goal

abbrev pub invariant-loop-i : goal.invariant-loop-i
invariant-loop-i l = Laying 2 l.numbers l.at l.initial.room l.room l.i
