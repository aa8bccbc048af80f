-- `writer::write_deck` meets its contract, on a refusal and on none. Assumes nothing.
use mathlib.Core.Path.{sym, ◌∙◌}
use lib.ListN.{length}
use Rattle.rules.proofs.Numbers.{number-some}
use Rattle.writer.proofs.Writable.{bytes-long, few-typed, fans-typed, writable}
use Rattle.writer.proofs.Outcome.{refused, written}
use borrow.Author.Rules.{rules}
use Rattle.writer.proofs.write_deck.Goals as goal

pub returns-in-Err : goal.returns-in-Err
returns-in-Err c = refused (c.number.ensures ∙ c.in-Err.ensures) (λ none. number-some _ (sym c.number.ensures ∙ none))

pub file_size-requires : goal.file_size-requires
file_size-requires c =
    let w = writable _ _ (sym c.in_default.ensures) in
    record {
      few = w.most_fans;
      boards = few-typed c.args.version (length c.args.survival.now) c.args.boards.now c.args.switchboards.now w.counted w.placed;
      fewer = w.most-systems;
    }

pub returns : goal.returns
returns c =
    let none = sym c.in_default.ensures in
    let w = writable _ _ none in
    let placed = fans-typed c.args.version (length c.args.survival.now) c.args.boards.now c.args.switchboards.now w.counted w.placed in
    written none (c.file_size.ensures ∙ sym (bytes-long _ w.weighed placed)) c.put_file.ensures
