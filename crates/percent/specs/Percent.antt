-- A figure in percent with six digits after the point, as "99.989305%": low rounded down at the last of them, high rounded up. And the room that
-- each text takes at most.
use Rattle.std.specs.Prelude.{Bool, true, false, List, [], ◌∷◌, ◌++◌, ℕ, zero, suc, ◌+◌, ◌*◌, ◌/◌, ◌%◌, ◌^◌, ◌≤◌, ◌<◌}
use Rattle.rules.specs.Figure.{rounded}
use Rattle.text.specs.Decimal.{text}
use Rattle.text.specs.Lines.{named, named_room}

-- the digits after the point, a percent in its millionths, and all hundred of them
abbrev pub point_digits : ℕ
point_digits = 6

abbrev pub million : ℕ
million = 10 ^ point_digits

abbrev pub whole_percent : ℕ
whole_percent = 100 * million

-- a figure over its unit u in millionths of a percent, rounded down or up
abbrev pub percent_of : (u : ℕ) (up : Bool) (figure : ℕ) → ℕ
percent_of u up figure = rounded up u (figure * whole_percent)

-- a number's last k digits, zeros in front where it has fewer
unfoldable pub last_digits : (k n : ℕ) → List ℕ
last_digits zero n = []
last_digits (suc k) n = last_digits k (n / 10) ++ ((48 + n % 10) ∷ [])

-- a name and so many millionths of a percent
abbrev pub percent_text : (name : List ℕ) (millionths : ℕ) → List ℕ
percent_text name millionths = named name (millionths / million) ++ text "." ++ last_digits point_digits millionths ++ text "%"

abbrev pub percent_room : (name : List ℕ) → ℕ
percent_room name = named_room name + 1 + point_digits + 1

-- low and high
abbrev pub range_text : (u low high : ℕ) → List ℕ
range_text u low high = percent_text (text " ") (percent_of u false low) ++ percent_text (text " to ") (percent_of u true high)

abbrev pub range_room : ℕ
range_room = percent_room (text " ") + percent_room (text " to ")

-- what the percents of low and high enclose: l / 10^6 <= 100 low / u and 100 high / u <= h / 10^6, each less than a millionth away
pub record Enclosed (u low high l h : ℕ) : Type 0 where
  pub below_low : l * u ≤ low * whole_percent
  pub near_low : low * whole_percent < (l + 1) * u
  pub above_high : high * whole_percent ≤ h * u
  pub near_high : h * u < high * whole_percent + u
