-- `combine` meets its contract: what stands for each set of the boards up to b is the combination of those above. Assumes nothing.
use native.Mathlib.Omega.{arith}
use Rattle.units.proofs.Laws.{whole-some}
use Rattle.boards.proofs.Working.{folding-none, folding-halvable, folding-more, folding-all}
use Rattle.boards.proofs.combine.Goals as goal

pub loop-b-init : goal.loop-b-init
loop-b-init c = folding-none c.requires

pub mix_board-requires : goal.mix_board-requires
mix_board-requires c =
    folding-halvable (whole-some c.args.decimal) c.requires c.loop-b.invariant (omega arith) c.sets_of.ensures

pub loop-b-preserved : goal.loop-b-preserved
loop-b-preserved c =
    folding-more (whole-some c.args.decimal) c.requires c.loop-b.invariant (omega arith) c.sets_of.ensures c.mix_board.ensures

pub returns : goal.returns
returns c = folding-all (omega arith) c.loop-b.invariant
