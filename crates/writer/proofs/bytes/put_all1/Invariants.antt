-- `bytes::put_all1` meets its contract: a turn lays one number more, in a byte. Assumes nothing.
use Rattle.writer.proofs.Laying.{Laying}
use Rattle.writer.proofs.bytes.put_all1.Given as goal

abbrev pub invariant-loop-i : goal.invariant-loop-i
invariant-loop-i l = Laying 1 l.numbers l.at l.initial.room l.room l.i
