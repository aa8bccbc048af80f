-- What the words say and what is printed for it, together: for an input that the buffer takes whole, what stands in the output is what these words ask of the
-- file. A longer input is refused, whatever the words are. Assumes nothing.
use mathlib.Core.Path.{◌≡◌, ap, ◌∙◌}
use mathlib.Core.List.{List}
use Prim.Native.Nat.{ℕ, ◌≤◌}
use native.Mathlib.Omega.{arith}
use lib.ListN.{length, take}
use lib.Seq.{take_all}
use Rattle.rules.specs.Answer.{unless}
use Rattle.rules.specs.File.{file_refusal}
use Rattle.printing.specs.Lines.{file_text, print_text}
use Rattle.printing.specs.Front.{Front, WholePrinted}
use Rattle.deckstate.specs.declared.hearing.Said.{Said}
use Rattle.deckstate.specs.Words.{said_in}
use Rattle.deckstate.specs.Lines.{states_text}

pub words-printed : (buffer out : List ℕ) (filled end : ℕ) (said : Said) (words : List (List ℕ)) → said ≡ said_in (take filled buffer) words
    → WholePrinted (states_text said.state) buffer filled out end
    → (input : List ℕ) → Front input buffer filled → length input ≤ length buffer
    → take end out ≡ print_text (λ bytes. states_text (said_in bytes words).state bytes) input
unfolding print_text
words-printed buffer out filled end said words by printed input front fits =
    let whole : take filled buffer ≡ input = front.same ∙ take_all filled input (omega (arith, front.most)) in
    let same : said.state ≡ (said_in input words).state = ap (λ (s : Said). s.state) by ∙ ap (λ bytes. (said_in bytes words).state) whole in
    printed.stands input front ∙ ap (λ state. unless (file_refusal input) file_text (states_text state input)) same
