-- `chance_of` refuses another version, or tells the file's own answer, which is within 2^30. Assumes nothing.
use mathlib.Core.Path.{sym, subst, ◌∙◌}
use borrow.Author.Rules.{rules}
use Rattle.rules.specs.declared.Rating.{Rating}
use Rattle.rules.specs.Doubles.{export_of}
use Rattle.rules.proofs.Numbers.{number-some}
use Rattle.rules.proofs.Unless.{unless-none, unless-some}
use Rattle.rules.proofs.Within.{loading-within}
use Rattle.doubles.specs.Floats.{Over}
use Rattle.export.specs.Outcome.{Tells}
use Rattle.export.proofs.chance_of.Goals as goal

pub returns-in-Err : goal.returns-in-Err
unfolding export_of
returns-in-Err c =
    record { answer = rw (unless-some _ _ _ (λ none. number-some _ (c.in-Err.ensures ∙ none))) (c.number.ensures ∙ c.in-Err.ensures) }

pub told-requires : goal.told-requires
told-requires c = rw c.rate_file.ensures (loading-within _ _)

pub returns : goal.returns
unfolding export_of
returns c =
    let none = sym c.in_default.ensures in
    record { answer = subst (λ (q : Rating). Tells Over Over q c.told.result) (c.rate_file.ensures ∙ sym (unless-none _ _ _ none)) c.told.ensures }
