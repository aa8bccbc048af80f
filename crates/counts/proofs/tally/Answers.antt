-- `tally` hands each kind to what counts it, and lays what the worked table holds. Assumes nothing.
use mathlib.Core.Logic.{inl, inr}
use native.Mathlib.Omega.{arith}
use Rattle.bins.proofs.Cells.{outside-none, stored_same}
use Rattle.counts.proofs.Entries.{OnWays, on-table, spread, ways-count, layable}
use borrow.Author.Rules.{rules}
use Rattle.counts.proofs.tally.Goals as goal
use Rattle.counts.proofs.tally.Goals.{in-1-1, in_default+else-asked-lt6+then-asked-lt8, in_default-via-then-asked-lt6, in_default-via-else-asked-lt6+else-asked-lt8}

pub work-requires : goal.work-requires
work-requires c =
    record {
      kind = on-table _ c.requires.accepted.kind_low
          (elim c.in_default.branch [ in_default-via-then-asked-lt6 w ↦ omega arith | in_default-via-else-asked-lt6+else-asked-lt8 w ↦ absurd (omega (arith, c.requires.counted)) ])
          (grind arith);
      accepted = c.requires.accepted;
      long = c.requires.long;
    }

pub lay-requires : goal.lay-requires
lay-requires c =
    (layable c.requires.accepted c.requires.long c.work.ensures, c.requires.slots)

pub by_ways-requires : goal.by_ways-requires
by_ways-requires c =
    (spread c.requires.accepted (elim c.in-1-1.branch [ in-1-1 w ↦ inl (search rules) | in_default+else-asked-lt6+then-asked-lt8 w ↦ inr (omega arith, c.requires.counted) ]), c.requires.slots)

pub returns-in_default : goal.returns-in_default
returns-in_default c =
    record { used = c.work.ensures.rest; counts = stored_same (λ j l h. c.work.ensures.is j (omega arith)) c.lay.ensures }

pub returns-in-1 : goal.returns-in-1
returns-in-1 c =
    let kind : OnWays _ = elim c.in-1-1.branch [ in-1-1 w ↦ inl (search rules) | in_default+else-asked-lt6+then-asked-lt8 w ↦ inr (omega arith, c.requires.counted) ] in
    record { used = outside-none; counts = stored_same (λ j l h. ways-count c.requires.accepted j kind) c.by_ways.ensures }
