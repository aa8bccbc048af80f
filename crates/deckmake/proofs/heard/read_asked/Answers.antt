-- `heard::read_asked` meets its contract: of a text that cannot be opened nothing is fed. Assumes nothing.
use native.Mathlib.Omega.{arith}
use Rattle.deckmake.proofs.heard.read_asked.Goals as goal

pub returns-in-Err : goal.returns-in-Err
returns-in-Err c =
    (c.start-feeding.ensures.sane c.args.out.now c.requires.1, omega (arith, c.start-feeding.ensures.none))
