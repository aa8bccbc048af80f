-- Request 09, of the call: of two outcomes that are ranges, the second's list no lower in any survival number, neither end of the second is lower. What a
-- call answers is the definitions' rating. Assumes nothing.
use Prim.Native.Nat.{ℕ, ◌≤◌}
use mathlib.Core.Path.{◌≡◌, sym}
use mathlib.Core.Bool.{true}
use mathlib.Core.List.{List}
use Rattle.rules.specs.declared.Rating.TheVariants.{Range}
use Rattle.rules.specs.Asked.{Asked}
use Rattle.rules.specs.Better.{rising, Better}
use Rattle.rules.proofs.Better.{better-answers}
use Rattle.figures.specs.Outcome.{Rated}
use Rattle.figures.proofs.Outcome.{figures-are}

pub better-rated : {q q' : Asked} {t₀ t t₀' t' : List ℕ} {l h l' h' : ℕ} → Better q q' → rising q.rule.kind ≡ true
    → Rated q t₀ t (Range l h) → Rated q' t₀' t' (Range l' h') → (l ≤ l') × (h ≤ h')
better-rated {q} {q'} better kind r r' = better-answers q q' better kind _ _ _ _ _ _ (sym (figures-are r)) (sym (figures-are r'))
