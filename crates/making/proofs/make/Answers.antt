-- `making::make` meets its contract: where something is told, that is what is said; else nothing is, the writer does not refuse, and the warnings are said. Assumes nothing.
use Rattle.making.proofs.Saying.{told-made, none_made}
use Rattle.making.proofs.make.Goals as goal

pub returns-then-told-ne0 : goal.returns-then-told-ne0
returns-then-told-ne0 c =
    told-made c.requires.sane c.if-told-ne0.true c.args.file.now

pub put_file-size-requires : goal.put_file-size-requires
put_file-size-requires c =
    c.requires.sane.counted

pub slice_bounds-put_warnings-end : goal.slice_bounds-put_warnings-end
slice_bounds-put_warnings-end c = c.put_file-size.ensures.counts.0

pub slice_bounds-put_warnings-end-2 : goal.slice_bounds-put_warnings-end-2
slice_bounds-put_warnings-end-2 c = c.put_file-size.ensures.counts.1

pub put_warnings-end-requires : goal.put_warnings-end-requires
put_warnings-end-requires c =
    record { few = c.requires.sane.counted.systems; room = c.requires.room.1 }

pub returns : goal.returns
returns c =
    none_made c.if-told-ne0.false c.args.file.now c.requires.room.0 c.put_file-size.ensures c.put_warnings-end.ensures
