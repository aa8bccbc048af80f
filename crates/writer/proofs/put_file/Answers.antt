-- `writer::put_file` meets its contract: header, survival numbers, weights, board bytes, boards' numbers and systems, each laid where the layout says. Assumes nothing.
use mathlib.Core.Path.{◌≡◌, ap, ◌∙◌}
use mathlib.Core.List.{List}
use Prim.Native.Nat.{ℕ, ◌-◌, ◌≤◌}
use native.Mathlib.Omega.{arith}
use lib.ListN.{length}
use Rattle.rules.specs.Boards.{boards_read}
use Rattle.rules.specs.File.{file_length}
use Rattle.rules.specs.Writing.{Typed, write_refusal}
use Rattle.writer.proofs.Writable.{count, boards_typed, bytes-long, few-typed, fans-typed, listed, Writable, writable, whole-read}
use Rattle.writer.proofs.Parts.{file-laid}
use borrow.Author.Rules.{rules}
use Rattle.writer.proofs.put_file.Goals as goal

-- what is not refused, and how long its file is
sound : (t : Typed) (room : List ℕ) → write_refusal t room ≡ 0
    → Writable t room × (file_length t.version (length t.survival) (boards_typed t) (count t) ≤ length room)
sound t room none =
    let w = writable t room none in
    let placed = fans-typed t.version (length t.survival) t.boards t.switchboards w.counted w.placed in
    (w, omega (arith, bytes-long t w.weighed placed, w.fits))

pub boards_read-placed-requires : goal.boards_read-placed-requires
boards_read-placed-requires c =
    let s = sound _ _ c.requires in
    let w = s.0 in
    (omega arith, λ has. omega (arith, listed c.args.version _ c.args.boards.now c.args.switchboards.now w.counted w.placed has))

pub put_header-requires : goal.put_header-requires
put_header-requires c =
    let s = sound _ _ c.requires in
    let w = s.0 in
    let few = few-typed c.args.version (length c.args.survival.now) c.args.boards.now c.args.switchboards.now w.counted w.placed in
    record { versioned = w.versioned; few = w.most_fans; boards = rw c.numbers_read-own.ensures few; fewer = w.most-systems; fits = omega (arith, s.1) }

pub put_all4-requires : goal.put_all4-requires
put_all4-requires c =
    let s = sound _ _ c.requires in
    omega (arith, c.header_length.ensures.0, s.1)

pub weights_offset-requires : goal.weights_offset-requires
weights_offset-requires c =
    omega (arith, (sound _ _ c.requires).0.most_fans)

pub put_all2-requires : goal.put_all2-requires
put_all2-requires c =
    let s = sound _ _ c.requires in
    omega (arith, c.weights_offset.ensures.0, s.0.weighed, s.1)

pub boards_offset-requires : goal.boards_offset-requires
boards_offset-requires c =
    omega (arith, (sound _ _ c.requires).0.most_fans)

pub put_all1-requires : goal.put_all1-requires
put_all1-requires c =
    let s = sound _ _ c.requires in
    let w = s.0 in
    let placed = fans-typed c.args.version (length c.args.survival.now) c.args.boards.now c.args.switchboards.now w.counted w.placed in
    let read = ap length (c.boards_read-placed.ensures ∙ whole-read c.args.version _ c.args.boards.now c.args.switchboards.now w.counted w.placed) in
    omega (arith, c.boards_offset.ensures.0, s.1, placed, read, c.put_all2.auto, c.put_all4.auto, c.put_header.auto)

pub board_survival_offset-requires : goal.board_survival_offset-requires
board_survival_offset-requires c =
    omega (arith, (sound _ _ c.requires).0.most_fans)

pub put_all4-requires-2 : goal.put_all4-requires-2
put_all4-requires-2 c =
    let s = sound _ _ c.requires in
    omega (arith, c.board_survival_offset.ensures.0, ap length c.numbers_read-own.ensures, s.1)

pub systems_offset-requires : goal.systems_offset-requires
systems_offset-requires c =
    let s = sound _ _ c.requires in
    let w = s.0 in
    let few = few-typed c.args.version (length c.args.survival.now) c.args.boards.now c.args.switchboards.now w.counted w.placed in
    (omega (arith, w.most_fans), omega (arith, ap length c.numbers_read-own.ensures))

pub put_all2-requires-2 : goal.put_all2-requires-2
put_all2-requires-2 c =
    let s = sound _ _ c.requires in
    omega (
      arith,
      c.systems_offset.ensures.0,
      ap length c.numbers_read-own.ensures,
      s.0.whole,
      s.1,
      c.put_all4-2.auto,
      c.put_all1.auto,
      c.put_all2.auto,
      c.put_all4.auto,
      c.put_header.auto,
    )

pub returns : goal.returns
returns c =
    let s = sound _ _ c.requires in
    let w = s.0 in
    let read = c.boards_read-placed.ensures ∙ whole-read c.args.version _ c.args.boards.now c.args.switchboards.now w.counted w.placed in
    file-laid _ _ w (rw c.numbers_read-own.ensures at c.put_header.ensures) (rw c.header_length.ensures.0 at c.put_all4.ensures)
    (rw c.weights_offset.ensures.0 at c.put_all2.ensures) (rw (c.boards_offset.ensures.0, read) at c.put_all1.ensures)
    (rw (c.board_survival_offset.ensures.0, c.numbers_read-own.ensures) at c.put_all4-2.ensures)
    (rw (c.systems_offset.ensures.0, c.numbers_read-own.ensures) at c.put_all2-2.ensures)
