-- `must_work` is a rounded step with nothing on its failed side, by the component's shares. Assumes nothing.
use Rattle.gaps.proofs.Paying.{due-must, due-more}
use Rattle.gaps.proofs.owed.must_work.Goals as goal

pub step_owed-requires : goal.step_owed-requires
step_owed-requires c =
    rw c.at_hand-works.ensures (due-must c.requires _ _ (record { read = c.chance-p.ensures; rest = c.failure.ensures }) c.read_shares-shares.ensures)

pub returns : goal.returns
returns c =
    due-more c.requires _ _ (record { read = c.chance-p.ensures; rest = c.failure.ensures }) (rw c.at_hand-works.ensures at c.step_owed.ensures)
