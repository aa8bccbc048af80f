-- `deck::bad_layout` meets its contract: the tests together are the definition's. Assumes nothing.
use mathlib.Core.Path.{◌∙◌}
use mathlib.Core.Bool.{not, ◌||◌}
use lib.Dec.{eqb}
use lib.ListN.{length}
use Rattle.rules.specs.File.{file_length}
use Rattle.deck.proofs.Checks.{layout_is}
use Rattle.deck.proofs.bad_layout.Goals as goal

pub returns : goal.returns
returns c =
    let whole = c.length_given.ensures ∙ (λ x. file_length (c.requires.says.version x) (c.requires.says.fans x) (c.requires.says.boards x) (c.requires.says.systems x)) in
    (λ x. (c.lists_elsewhere.ensures x || c.boards_elsewhere.ensures x) || not (eqb (length c.args.bytes.now) (whole x)))
    ∙ layout_is c.args.bytes.now
