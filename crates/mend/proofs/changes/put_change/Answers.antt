-- `changes::put_change` meets its contract: three numbers stored one after the other, or none. Assumes nothing.
use mathlib.Core.Path.{refl}
use Prim.Native.Nat.{◌+◌}
use native.Mathlib.Omega.{arith}
use lib.ListN.{set, length-set}
use borrow.Author.Tests.{eq-eqb, ne_eqb}
use Rattle.mend.proofs.Putting.{laid-three, put_some, put-none}
use borrow.Author.Rules.{rules}
use Rattle.mend.proofs.changes.put_change.Goals as goal

pub bounds-list-at : goal.bounds-list-at
bounds-list-at c =
    let room = rw (ne_eqb _ _ c.if-old-new.true) at c.requires in
    omega (arith, room)

pub bounds-list-at-then-old-new : goal.bounds-list-at-then-old-new
bounds-list-at-then-old-new c =
    let room = rw (ne_eqb _ _ c.if-old-new.true) at c.requires in
    rw (length-set c.args.list.now c.args.at _) (omega (arith, room))

pub bounds-list-at-then-old-new-2 : goal.bounds-list-at-then-old-new-2
bounds-list-at-then-old-new-2 c =
    let room = rw (ne_eqb _ _ c.if-old-new.true) at c.requires in
    rw (length-set (set c.args.list.now c.args.at _) (c.args.at + 1) _, length-set c.args.list.now c.args.at _) (omega (arith, room))

pub returns-then-old-new : goal.returns-then-old-new
returns-then-old-new c =
    let other = ne_eqb _ _ c.if-old-new.true in
    let room = rw other at c.requires in
    put_some other (laid-three c.args.at c.args.place c.args.old c.args.new c.args.list.now room) refl

pub returns : goal.returns
returns c = put-none (eq-eqb _ _ c.if-old-new.false) refl refl
