-- A tenth, one part of 10^9, all parts but one, and a half, worked out by the checker; the bits are the second program's. Assumes nothing.
use mathlib.Core.Path.{◌≡◌, refl}
use mathlib.Core.Bool.{Bool, true, false, ◌&&◌}
use Prim.Native.Nat.{ℕ, ◌+◌, ◌*◌, ◌^◌}
use borrow.Author.Tests.{ltb-true, leb-true, eqb-true}
use lib.Dec.{ltb, leb, eqb}
use lib.Ieee.{binary64, of_bits}
use Rattle.rules.specs.State.{S, decimal}
use Rattle.rules.specs.Figure.{rounded}
use Rattle.rules.proofs.Tests.{both}
use Rattle.nearest.specs.Nearest.{Nearest}
use Rattle.nearest.proofs.Pattern.{first}
use Rattle.nearest.proofs.Values.{nearest-of}

-- what the checker computes of a raised number
abbrev scaled : (unit near : ℕ) → Bool
scaled unit near = (ltb 0 unit && leb unit S) && (leb unit near && ltb near (2 * unit))

abbrev same : (x near field : ℕ) → Bool
same x near field = leb field 1022 && eqb (near * 2 ^ field) (x * 2 ^ 1022)

at : (up : Bool) (unit x near field : ℕ) → scaled unit near ≡ true → same x near field ≡ true
    → Nearest up unit x (of_bits binary64 (field * first + rounded up unit (near * 2 ^ 52)))
at up unit x near field t s =
    let parts = both (ltb 0 unit && leb unit S) (leb unit near && ltb near (2 * unit)) t in
    let units = both (ltb 0 unit) (leb unit S) parts.0 in
    let nears = both (leb unit near) (ltb near (2 * unit)) parts.1 in
    let fields = both (leb field 1022) (eqb (near * 2 ^ field) (x * 2 ^ 1022)) s in
    nearest-of up unit x _ _
    (record {
      field = leb-true field 1022 fields.0;
      scaled = record { some = ltb-true 0 unit units.0; most = leb-true unit S units.1; least = leb-true unit near nears.0; less = ltb-true near (2 * unit) nears.1 };
      same = eqb-true (near * 2 ^ field) (x * 2 ^ 1022) fields.1;
    })
    refl

abbrev Double : (up : Bool) (unit x bits : ℕ) → Type 0
Double up unit x bits = Nearest up unit x (of_bits binary64 bits)

pub doubles : Double false decimal 100000000 0x3fb9_9999_9999_9999
    × Double true decimal 100000000 0x3fb9_9999_9999_999a
    × Double false decimal 1 0x3e11_2e0b_e826_d694
    × Double true decimal 1 0x3e11_2e0b_e826_d695
    × Double false decimal 999999999 0x3fef_ffff_ff76_8fa0
    × Double true decimal 999999999 0x3fef_ffff_ff76_8fa1
    × Double false S 536870912 0x3fe0_0000_0000_0000
    × Double true S 536870912 0x3fe0_0000_0000_0000
unfolding rounded
doubles = (
  at false decimal 100000000 1600000000 1018 refl refl,
  at true decimal 100000000 1600000000 1018 refl refl,
  at false decimal 1 1073741824 992 refl refl,
  at true decimal 1 1073741824 992 refl refl,
  at false decimal 999999999 1999999998 1021 refl refl,
  at true decimal 999999999 1999999998 1021 refl refl,
  at false S 536870912 1073741824 1021 refl refl,
  at true S 536870912 1073741824 1021 refl refl,
)
