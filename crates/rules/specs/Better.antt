-- Document 02, request 09, "A better fan never spoils the figure": what a better list is, and of which kinds it is claimed.
use Rattle.std.specs.Prelude.{◌≡◌, Bool, not, ◌&&◌, List, ℕ, ◌≤◌, eqb, length, get_or}
use Rattle.rules.specs.Below.{within}
use Rattle.rules.specs.Refusal.{last_kind}
use Rattle.rules.specs.Asked.{Asked, part_of, boards_of, switchboards_of}

-- "no survival number is lower in the second list than in the first", and both have the same n
pub record NoLower (xs ys : List ℕ) : Type 0 where
  pub same_length : length xs ≡ length ys
  pub no_lower : (i : ℕ) → get_or xs i 0 ≤ get_or ys i 0

-- "for kinds 1, 2 and 4 to 8. Kind 3 is excepted"
abbrev pub excepted : (kind : ℕ) → Bool
excepted kind = eqb kind 3

abbrev pub rising : (kind : ℕ) → Bool
rising kind = within 1 kind last_kind && not (excepted kind)

-- "with the same unit, .. stretch, rule and weights", pairs too: what is asked of the second list; only the stretch's survival numbers are read, so only they
-- count. Request 11: "the same g and the same fans' board numbers in both lists", and "the boards' survival numbers among those not lower"
pub record Better (q q' : Asked) : Type 0 where
  pub version : q.version ≡ q'.version
  pub rule : q.rule ≡ q'.rule
  pub from : q.a ≡ q'.a
  pub to : q.b ≡ q'.b
  pub weights : q.weights ≡ q'.weights
  pub more : q.more ≡ q'.more
  pub boards : boards_of q ≡ boards_of q'
  pub survival : NoLower (part_of q) (part_of q')
  pub switchboards : NoLower (switchboards_of q) (switchboards_of q')
