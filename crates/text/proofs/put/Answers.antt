-- `text::put` meets its contract: a part of the buffer becomes the text, where the text fits. Assumes nothing.
use mathlib.Core.Path.{refl}
use native.Mathlib.Omega.{arith}
use borrow.Author.Tests.{le-leb, lt-leb}
use Rattle.std.proofs.lemmas.Slice.{put_mid-paste}
use Rattle.text.proofs.put.Goals as goal

pub returns-then-out-at : goal.returns-then-out-at
returns-then-out-at c = let f = lt-leb _ _ c.if-out-at.true in record { within = c.requires; stands = rw f; ends = rw f }

pub returns : goal.returns
returns c =
    let f = le-leb _ _ c.if-out-at.false in
    record {
      within = omega arith;
      stands = rw f (put_mid-paste _ _ _ _ c.args.text.now _ c.copy_from_slice.ensures.after (omega arith) refl);
      ends = rw f;
    }
