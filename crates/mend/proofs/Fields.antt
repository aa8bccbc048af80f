-- The only bytes that mending can change are those that the layout fixes, the zero field and the offsets: every other byte that it writes is the file's. Version and counts
-- are kept as numbers (`version-kept` and its like) and are too small for a second byte, so their bytes are kept; behind the header stands the file's own. Assumes nothing.
use mathlib.Core.Path.{◌≡◌, refl, sym, ap, ◌∙◌}
use mathlib.Core.Bool.{Bool, true, false, cond}
use mathlib.Core.List.{List}
use Prim.Native.Nat.{ℕ, zero, suc, ◌+◌, ◌-◌, ◌≤◌, ◌<◌}
use native.Mathlib.Decide.{dec_lt}
use native.Mathlib.Omega.{arith}
use lib.ListN.{get_or}
use borrow.Author.Tests.{not-false}
use Rattle.rules.specs.Refusal.{last_version}
use Rattle.rules.specs.Boards.{has_boards}
use Rattle.rules.specs.File.{number_at, version_field, zero_field, fans_field, count_field, survival_field, weights_field, systems_field, board_count_field, boards_field, header_length, version_in, fans_in, count_in, board_count_in, length_in}
use Rattle.rules.proofs.EachKind.{within-true}
use Rattle.rules.specs.Mending.{mended, beyond_mending}
use Rattle.mend.specs.Fixed.{Elsewhere}
use Rattle.mend.proofs.Mendable.{mendable, few}
use Rattle.mend.proofs.Mended.{version-kept, fans-kept, systems-kept, boards-kept, body_kept}

-- a number below 256 has its lowest byte alone
low-bytes : (xs ys : List ℕ) (width at i : ℕ) → number_at width xs at ≡ number_at width ys at → number_at width ys at < 256 → i < width → get_or xs (at + i) 0 ≡ get_or ys (at + i) 0
unfolding number_at
low-bytes xs ys zero at i same small l = absurd (omega arith)
low-bytes xs ys (suc width) at zero same small l = let e : at + 0 ≡ at = omega arith in rw e (omega (arith, same, small))
low-bytes xs ys (suc width) at (suc i) same small l =
    let e : at + suc i ≡ suc at + i = omega arith in
    rw e (low-bytes xs ys width (suc at) i (omega (arith, same, small)) (omega (arith, same, small)) (omega arith))

-- so are the bytes of a field that holds such a number
field-bytes : (xs ys : List ℕ) (width at place : ℕ) → number_at width xs at ≡ number_at width ys at → number_at width ys at < 256 → at ≤ place → place < at + width → get_or xs place 0 ≡ get_or ys place 0
field-bytes xs ys width at place same small from upto =
    let e : at + (place - at) ≡ place = omega arith in
    ap (λ p. get_or xs p 0) (sym e) ∙ low-bytes xs ys width at (place - at) same small (omega arith) ∙ ap (λ p. get_or ys p 0) e

-- a number that is read where a test holds
read-where : (b : Bool) (x : ℕ) → b ≡ true → cond b x 0 ≡ x
read-where b x e = rw e refl

module _ (bytes : List ℕ) (none : beyond_mending bytes ≡ 0) where
  abbrev v : ℕ
  v = version_in bytes

  version-small : v < 256
  version-small = omega (arith, within-true 1 v last_version (not-false _ (mendable bytes none).versioned))

  fans-small : fans_in bytes < 256
  fans-small = omega (arith, (mendable bytes none).most_fans)

  systems-small : count_in bytes < 256
  systems-small = omega (arith, (mendable bytes none).most-systems)

  board-count-kept : has_boards v ≡ true → number_at 4 (mended bytes) board_count_field ≡ number_at 4 bytes board_count_field
  board-count-kept e =
      sym (read-where (has_boards (version_in (mended bytes))) _ (ap has_boards (version-kept bytes none) ∙ e)) ∙ boards-kept bytes none ∙ read-where (has_boards v) _ e

  board-count-small : has_boards v ≡ true → number_at 4 bytes board_count_field < 256
  board-count-small e = omega (arith, read-where (has_boards v) (number_at 4 bytes board_count_field) e, few bytes (mendable bytes none))

  -- the header's counts, then what is behind it
  behind : (place : ℕ) → board_count_field ≤ place → place < length_in bytes → (b : Bool) → has_boards v ≡ b → Elsewhere v place → get_or (mended bytes) place 0 ≡ get_or bytes place 0
  behind place from upto false e apart = (body_kept bytes none).byte place (rw e from) upto
  behind place from upto true e apart =
      elim (dec_lt place boards_field) [
        | yes l ↦ field-bytes (mended bytes) bytes 4 board_count_field place (board-count-kept e) (board-count-small e) from l
        | no g ↦ (body_kept bytes none).byte place (rw e (apart.boards_offset e (omega arith))) upto
      ]

  pub only-fixed : (place : ℕ) → place < length_in bytes → Elsewhere v place → get_or (mended bytes) place 0 ≡ get_or bytes place 0
  only-fixed place upto apart =
      elim (dec_lt place zero_field) [
        | yes l ↦ field-bytes (mended bytes) bytes 2 version_field place (version-kept bytes none) version-small (omega arith) l
        | no past ↦
            let four = apart.zero_field (omega arith) in
            elim (dec_lt place count_field) [
              | yes l ↦ field-bytes (mended bytes) bytes 2 fans_field place (fans-kept bytes none) fans-small (omega (arith, four)) l
              | no more ↦
                  elim (dec_lt place survival_field) [
                    | yes l ↦ field-bytes (mended bytes) bytes 2 count_field place (systems-kept bytes none) systems-small (omega arith) l
                    | no rest ↦
                        let twelve = apart.survival_offset (omega arith) in
                        let sixteen = apart.weights_offset (omega (arith, twelve)) in
                        let twenty = apart.systems_offset (omega (arith, sixteen)) in
                        behind place (omega (arith, twenty)) upto (has_boards v) refl apart
                  ]
            ]
      ]
