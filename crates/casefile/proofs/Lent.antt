-- The front of a room that was lent to be filled, lent again to be read: it is as long as it was. For the case-running programs. Assumes nothing.
use Rattle.std.proofs.Common.{◌≡◌, ℕ, ◌≤◌, List, ◌++◌, length, take, drop, sym, arith, length-take-le}
use lib.Seq.{length_front}

module _ (n : ℕ) (room : List ℕ) (fits : n ≤ length room) where
  pub lent : n ≡ length (take n room)
  lent = sym (length-take-le n room fits)

  module _ (filled : List ℕ) (kept : length filled ≡ length (take n room)) where
    pub fits-again : n ≤ length (filled ++ drop n room)
    fits-again = omega (arith, length_front room filled n kept)

    pub lent_again : n ≡ length (take n (filled ++ drop n room))
    lent_again = sym (length-take-le n (filled ++ drop n room) fits-again)
