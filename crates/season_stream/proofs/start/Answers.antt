-- `start` meets its contract: nothing was fed, and there is room for the first file. Assumes nothing.
use mathlib.Core.Path.{refl, sym, ap, ◌∙◌}
use mathlib.Core.List.{[]}
use Prim.Native.Nat.{ℕ}
use native.Mathlib.Omega.{arith}
use lib.ListN.{length-replicate}
use Rattle.ending.specs.Ending.{longest}
use Rattle.ending.proofs.Asking.{shortest-least}
use Rattle.totals.specs.Room.{most_files}
use Rattle.season_stream.specs.Reading.{season_in}
use Rattle.season_stream.proofs.Empty.{none-decks, none_open}
use Rattle.season_stream.proofs.Going.{season-from}
use borrow.Author.Rules.{rules}
use Rattle.season_stream.proofs.start.Goals as goal

pub none-totals-requires : goal.none-totals-requires
none-totals-requires c = search rules

pub returns : goal.returns
returns c =
    record {
      sane = record {
        room = length-replicate {A = ℕ} longest 0;
        within = omega arith;
        ongoing = λ e. record {
          few = omega arith;
          asking = omega (arith, shortest-least []);
          full = λ f. refl;
          decks = omega (arith, none-decks c.none-totals.ensures);
          spare = λ l. none_open c.none-totals.ensures;
        };
      };
      on = λ rest. season-from rest ∙ ap (λ t. season_in most_files t rest) (sym c.none-totals.ensures);
    }
