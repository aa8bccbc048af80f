-- `rate` meets its contract: without boards the engine alone, else every set of failed boards. Assumes nothing.
use mathlib.Core.Path.{sym}
use borrow.Author.Tests.{eqb-true}
use lib.ListN.{length}
use Rattle.rules.specs.State.{beside_of}
use Rattle.units.specs.Step.{whole}
use Rattle.places.proofs.Cells.{both-as}
use Rattle.boards.proofs.Working.{alone}
use Rattle.boards.proofs.rate.Goals as goal

pub returns-then-is_empty : goal.returns-then-is_empty
returns-then-is_empty c =
    let none = eqb-true (length c.args.switchboards.now) 0 (sym c.if-is_empty.ensures) in
    let beside = beside_of c.args.rule c.args.weights.now c.args.more.now in
    record { figure = both-as (λ up. alone up (whole c.args.decimal) c.args.rule c.args.survival.now beside c.args.boards.now c.args.switchboards.now none) c.rate.ensures.figure; kept = c.rate.ensures.kept }
