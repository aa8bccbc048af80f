-- What the machine reads back from the bits of a signed number is the number. By its sign it has one of two forms. Assumes nothing.
use mathlib.Core.Path.{◌≡◌, refl}
use mathlib.Core.Bool.{true, false, false≢true}
use native.Mathlib.Omega.{arith}
use lib.IntN.{ℤ, pos, negsuc}
use lib.Signed.{le_z, mag}
use borrow.Author.Tests.{leb-false}
use mir.Syntax.{w64}
use mir.Val.{SFits, to_z, of_z}
use mir.ValLaws.{to_z-of_z}

-- a number as it is read back
abbrev pub held : ℤ → ℤ
held z = to_z w64 (of_z w64 z)

module _ (z : ℤ) (fits : SFits w64 z) where
  pub not_negative : le_z (pos 0) (held z) ≡ true → z ≡ pos (mag z)
  not_negative taken = by z (rw (to_z-of_z w64 z fits) at taken)
    where
      by : (x : ℤ) → le_z (pos 0) x ≡ true → x ≡ pos (mag x)
      by (pos n) h = refl
      by (negsuc n) h = absurd (false≢true h)

  pub negative : le_z (pos 0) (held z) ≡ false → z ≡ negsuc (mag z)
  negative left = by z (rw (to_z-of_z w64 z fits) at left)
    where
      by : (x : ℤ) → le_z (pos 0) x ≡ false → x ≡ negsuc (mag x)
      by (pos n) h = absurd (omega (arith, leb-false 0 n h))
      by (negsuc n) h = refl
