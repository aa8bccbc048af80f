-- `showing::put_system` meets its contract: the system is the deck's. Assumes nothing.
use mathlib.Core.Path.{ap₂, sym, ◌∙◌}
use Rattle.deckshow.specs.Lines.{in_words}
use Rattle.deckshow.proofs.Shown.{fans-shown, system-shown}
use Rattle.deckshow.proofs.showing.put_system.Goals as goal

pub returns : goal.returns
returns c =
    let system = c.system_in-system.ensures ∙ sym (system-shown c.requires.placed.headed c.args.s c.requires.placed.place) in
    rw (ap₂ in_words (sym (fans-shown c.requires.placed.headed)) system) at c.put_system.ensures
