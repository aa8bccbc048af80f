-- `fan_refusal` gives the figures' own, then 17: of two results the first refusal. Assumes nothing.
use mathlib.Core.Path.{◌≡◌, refl, sym, ap, ◌∙◌}
use Prim.Native.Nat.{ℕ}
use Rattle.std.proofs.Common.{Result, Ok, Err}
use Rattle.std.specs.Result.{result_and}
use Rattle.rules.specs.declared.refusal.Refusal.{Refusal}
use Rattle.rules.specs.Refusal.{after, refusal_in}
use Rattle.rules.proofs.Numbers.{number-some}
use Rattle.rules.proofs.Unless.{after_none, after-some}
use Rattle.swaps.proofs.fan_refusal.Goals as goal

first-refused : {A B : Type 0} (r : Result A Refusal) (q : Result B Refusal) (next : ℕ) → refusal_in q ≡ after 0 next → refusal_in (result_and r q) ≡ after (refusal_in r) next
first-refused (Ok x) q next e = e
first-refused (Err e) q next f = sym (after-some _ _ (number-some e))

pub returns : goal.returns
returns c = ap refusal_in c.and.ensures ∙ first-refused c.args.own c.fan_out-placed.result _ c.fan_out-placed.ensures
