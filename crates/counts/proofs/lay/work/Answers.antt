-- `work` fills the table of the kind. Assumes nothing.
use Rattle.counts.proofs.Entries.{weighed, sums-worked, sized, bins-worked}
use Rattle.counts.proofs.lay.work.Goals as goal

pub fill-requires : goal.fill-requires
fill-requires c =
    weighed c.requires c.if-rule-eq-WEIGHT.true

pub fill-requires-else-rule-eq-WEIGHT : goal.fill-requires-else-rule-eq-WEIGHT
fill-requires-else-rule-eq-WEIGHT c =
    sized c.requires c.if-rule-eq-WEIGHT.false

pub returns-then-rule-eq-WEIGHT : goal.returns-then-rule-eq-WEIGHT
returns-then-rule-eq-WEIGHT c =
    sums-worked c.requires c.if-rule-eq-WEIGHT.true c.fill.ensures

pub returns-else-rule-eq-WEIGHT : goal.returns-else-rule-eq-WEIGHT
returns-else-rule-eq-WEIGHT c =
    bins-worked c.requires c.if-rule-eq-WEIGHT.false c.fill-else-rule-eq-WEIGHT.ensures
