-- All changes are in the header: behind it the mended file has the file's own bytes, so the header by itself tells how many there are and which. Assumes nothing.
use mathlib.Core.Path.{◌≡◌, refl, sym, ap, ◌∙◌}
use mathlib.Core.Bool.{not}
use mathlib.Core.List.{List}
use Prim.Native.Nat.{ℕ, ◌+◌, ◌-◌, ◌≤◌, ◌<◌}
use native.Mathlib.Omega.{arith}
use lib.Dec.{eqb}
use lib.ListN.{length, get_or, drop, replicate, length-replicate, get_or-append}
use Rattle.rules.specs.Below.{held}
use Rattle.rules.specs.File.{header_length, version_in, fans_in, count_in, board_count_in, length_in}
use Rattle.rules.specs.Mending.{header_for, body_in, mended, differs, changes_below, changes_in, changed_in, beyond_mending}
use Rattle.rules.proofs.Sums.{held_same}
use Rattle.rules.proofs.Changes.{changes-same, changes-upto, count-upto, count_most}
use Rattle.layout.proofs.Header.{header-length}
use Rattle.layout.proofs.Versions.{header-bounds}
use Rattle.writer.specs.Laid.{laid}
use Rattle.writer.proofs.Laying.{laid-length, laid-front}
use Rattle.mend.specs.Outcome.{longest_header}
use Rattle.mend.proofs.Mended.{mended-length, body_kept}

module _ (bytes : List ℕ) (none : beyond_mending bytes ≡ 0) where
  -- the header, and zeros
  abbrev alone : List ℕ
  alone = laid 0 (header_for bytes) (replicate longest_header 0)

  abbrev upto : ℕ
  upto = header_length (version_in bytes)

  own-length : length (header_for bytes) ≡ upto
  own-length = header-length (version_in bytes) (fans_in bytes) (board_count_in bytes) (count_in bytes)

  pub alone-length : length alone ≡ longest_header
  alone-length =
      let room = length-replicate {A = ℕ} longest_header 0 in
      laid-length 0 (replicate longest_header 0) (header_for bytes) (omega (arith, own-length, room, header-bounds (version_in bytes))) ∙ room

  written : (p : ℕ) → p < upto → get_or alone p 0 ≡ get_or (mended bytes) p 0
  unfolding mended
  written p l =
      ap (λ xs. get_or xs p 0) (laid-front (header_for bytes) (replicate longest_header 0))
      ∙ get_or-append (header_for bytes) (drop (length (header_for bytes)) (replicate longest_header 0)) 0 p (omega (arith, own-length))
      ∙ sym (get_or-append (header_for bytes) (body_in bytes) 0 p (omega (arith, own-length)))

  rest : upto + (length_in bytes - upto) ≡ length (mended bytes)
  rest = omega (arith, mended-length bytes none)

  kept : (i : ℕ) → i < length_in bytes - upto → get_or bytes (upto + i) 0 ≡ get_or (mended bytes) (upto + i) 0
  kept i l = sym ((body_kept bytes none).byte (upto + i) (omega arith) (omega arith))

  pub list-alone : changes_below bytes alone upto ≡ changes_in bytes
  list-alone =
      changes-same bytes alone bytes (mended bytes) upto (λ p l. refl) written
      ∙ sym (changes-upto bytes (mended bytes) upto (length_in bytes - upto) kept)
      ∙ ap (changes_below bytes (mended bytes)) rest

  pub count-alone : held (differs bytes alone) upto ≡ changed_in bytes
  count-alone =
      held_same (differs bytes alone) (differs bytes (mended bytes)) upto (λ p l. ap (λ b. not (eqb (get_or bytes p 0) b)) (written p l))
      ∙ sym (count-upto bytes (mended bytes) upto (length_in bytes - upto) kept)
      ∙ ap (held (differs bytes (mended bytes))) rest

  pub changed-most : changed_in bytes ≤ longest_header
  changed-most = omega (arith, count-alone, count_most bytes alone upto, header-bounds (version_in bytes))
