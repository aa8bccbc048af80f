-- `mend::cut_refusal` meets its contract: the counts' refusal, then 22; of two results the first refusal. Assumes nothing.
use mathlib.Core.Path.{◌≡◌, refl, sym, ap, ◌∙◌}
use mathlib.Core.List.{[], ◌∷◌}
use Prim.Native.Nat.{ℕ}
use Rattle.std.proofs.Common.{Result, Ok, Err}
use Rattle.std.specs.Result.{result_and}
use Rattle.rules.specs.declared.refusal.Refusal.{Refusal}
use Rattle.rules.specs.Refusal.{after, first_of, refusal_in}
use Rattle.rules.specs.Mending.{ends_early}
use Rattle.rules.proofs.Numbers.{number-some}
use Rattle.rules.proofs.Unless.{after_none, after-some}
use Rattle.deck.specs.Head.{counts_refusal}
use Rattle.deck.proofs.Outcome.{head-is}
use Rattle.mend.specs.Looked.{cut_refusal}
use Rattle.mend.proofs.cut_refusal.Goals as goal

first-refused : {A B : Type 0} (r : Result A Refusal) (q : Result B Refusal) (next : ℕ) → refusal_in q ≡ next → refusal_in (result_and r q) ≡ after (refusal_in r) next
first-refused (Ok x) q next e = e ∙ sym (after_none 0 next refl)
first-refused (Err e) q next f = sym (after-some _ _ (number-some e))

pub returns : goal.returns
unfolding cut_refusal
returns c =
    let early = first_of ((22, ends_early c.args.bytes.now) ∷ []) in
    ap refusal_in c.and.ensures ∙ first-refused c.counts_refusal-counted.result c.cut-whole.result early c.cut-whole.ensures
    ∙ ap (λ r. after r early) (c.counts_refusal-counted.ensures ∙ ap counts_refusal (head-is c.requires.says))
