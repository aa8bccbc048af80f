-- `tables::checksum` meets its contract: the sum is what the cells passed come to, modulo 2^64. Assumes nothing.
use Rattle.std.proofs.Common.{◌≡◌, ◌%◌, ◌^◌}
use Rattle.casefile.specs.Tables.{weighed_sum}
use Rattle.casefile.proofs.tables.checksum.Given as goal

abbrev pub invariant-loop-i : goal.invariant-loop-i
invariant-loop-i l = l.sum ≡ weighed_sum l.cells l.i % 2 ^ 64
