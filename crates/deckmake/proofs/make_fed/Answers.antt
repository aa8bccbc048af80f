-- `make_fed` meets its contract: what was fed is a text, and that is made. Assumes nothing.
use native.Mathlib.Omega.{arith}
use Rattle.deckmake.proofs.make_fed.Goals as goal

pub make-requires : goal.make-requires
make-requires c =
    record { sane = c.finish-listing.ensures.sane; room = (omega (arith, c.requires.line_room_in_bounds), omega (arith, c.requires.line_room_in_bounds, c.finish-listing.auto)) }

pub returns : goal.returns
returns c =
    record { file_counts = c.make.ensures.file_counts; out_counts = c.make.ensures.out_counts; stands = λ bytes h. c.make.ensures.stands bytes (c.finish-listing.ensures.holds bytes h) }
