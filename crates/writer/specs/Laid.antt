-- Bytes laid over a room from a place on: what stood before and behind them stays.
use Rattle.std.specs.Prelude.{List, ◌++◌, ℕ, ◌+◌, length, take, drop}

unfoldable pub laid : (at : ℕ) (bytes room : List ℕ) → List ℕ
laid at bytes room = take at room ++ bytes ++ drop (at + length bytes) room
