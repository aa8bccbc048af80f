-- The places that a verdict over at most 64 components can have, so that they can be counted on.
use Rattle.std.specs.Prelude.{◌*◌, ◌≤◌}
use Rattle.rules.specs.declared.Verdict.{Verdict}
use Rattle.rules.specs.declared.Verdict.TheVariants.{Works, Fails, Refused}
use Rattle.rules.specs.Refusal.{most}

abbrev pub FewPlaces : Verdict → Type 0
FewPlaces Works = Unit {0}
FewPlaces (Fails place) = place ≤ 2 * most
FewPlaces (Refused number) = Unit {0}
