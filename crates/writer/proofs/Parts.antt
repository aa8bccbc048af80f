-- The parts of a file laid one after the other are the file: each begins where the layout says, which is where the parts before it end. Assumes nothing.
use mathlib.Core.Path.{◌≡◌, refl, sym, ap, ◌∙◌}
use mathlib.Core.Bool.{cond}
use mathlib.Core.List.{List, [], ◌∷◌, ◌++◌, append_assoc}
use Prim.Native.Nat.{ℕ, ◌+◌, ◌*◌, ◌≤◌}
use native.Mathlib.Omega.{arith}
use lib.ListN.{length, length-append}
use Rattle.rules.specs.Boards.{boards_read}
use Rattle.rules.specs.File.{header_length, survival_field, board_count_field, counts_of, all_bytes, header_of, system_numbers, file_of, survival_bytes, weight_bytes, board_bytes, survival_offset, weights_offset, boards_offset, switchboards_offset, systems_offset}
use Rattle.rules.specs.Writing.{Typed, deck_of, bytes_for}
use Rattle.layout.proofs.Header.{header-length}
use Rattle.deck.proofs.File.{to_weights, to_boards, to_numbers, to_systems, weights-from, boards-from, numbers-from, systems-from}
use Rattle.layout.proofs.Numbers.{all-length, all_append}
use Rattle.deck.proofs.Systems.{listed-numbers}
use Rattle.layout.proofs.Versions.{by-boards}
use Rattle.writer.specs.Laid.{laid}
use Rattle.writer.proofs.Laying.{laid_next}
use Rattle.writer.proofs.Writable.{count, count-is, boards_typed, fans-typed, Writable}

module _ (t : Typed) (room : List ℕ) (w : Writable t room) where
  abbrev n : ℕ
  n = length t.survival

  abbrev v : ℕ
  v = t.version

  abbrev g : ℕ
  g = boards_typed t

  pub file-laid : {first second third fourth fifth last : List ℕ} → first ≡ laid 0 (header_of v n g (count t)) room
      → second ≡ laid (survival_offset v) (all_bytes survival_bytes t.survival) first
      → third ≡ laid (weights_offset v n) (all_bytes weight_bytes t.weights) second
      → fourth ≡ laid (boards_offset v n) (all_bytes board_bytes (boards_read v t.boards)) third
      → fifth ≡ laid (switchboards_offset v n) (all_bytes survival_bytes (boards_read v t.switchboards)) fourth
      → last ≡ laid (systems_offset v n g) (all_bytes 2 t.numbers) fifth
      → last ≡ laid 0 (bytes_for t) room
  unfolding file_of
  file-laid {first} {second} {third} {fourth} {fifth} {last} header survival weights boards numbers systems =
      let d = deck_of t in
      let m = length d.systems in
      let placed = fans-typed v n t.boards t.switchboards w.counted w.placed in
      let counted : first ≡ laid 0 (header_of v n g m) room = rw (count-is t) header in
      let listed : last ≡ laid (systems_offset v n g) (all_bytes 2 (system_numbers d.systems)) fifth = rw (listed-numbers t.numbers w.whole) systems in
      let one = laid_next 0 (survival_offset v) room (header_of v n g m) _ counted survival (omega (arith, header-length v n g m)) (omega arith) in
      let two = laid_next 0 (weights_offset v n) room (to_weights d) _ one weights (omega (arith, weights-from d)) (omega arith) in
      let three = laid_next 0 (boards_offset v n) room (to_boards d) _ two boards (omega (arith, boards-from d, w.weighed)) (omega arith) in
      let four = laid_next 0 (switchboards_offset v n) room (to_numbers d) _ three numbers (omega (arith, numbers-from d, w.weighed)) (omega arith) in
      laid_next 0 (systems_offset v n g) room (to_systems d) _ four listed (omega (arith, systems-from d, w.weighed)) (omega arith)

-- ---- the header: its last two numbers, which the version has or has not, are laid where the offsets end

module _ (version : ℕ) (a b : ℕ) where
  pub last_fits : 20 + 4 * length (boards_read version (a ∷ b ∷ [])) ≡ header_length version
  last_fits = by-boards version (λ has. 20 + 4 * length (cond has (a ∷ b ∷ []) []) ≡ cond has 28 20) (λ e. refl) (λ e. refl)

pub header-laid : (version n g m : ℕ) (room : List ℕ) {first second last : List ℕ} → header_length version ≤ length room
    → first ≡ laid 0 (all_bytes 2 (counts_of version n m)) room
    → second ≡ laid survival_field (all_bytes 4 (survival_offset version ∷ weights_offset version n ∷ systems_offset version n g ∷ [])) first
    → last ≡ laid board_count_field (all_bytes 4 (boards_read version (g ∷ boards_offset version n ∷ []))) second
    → last ≡ laid 0 (header_of version n g m) room
unfolding header_of
header-laid version n g m room fits one two three =
    let counts = counts_of version n m in
    let offsets = survival_offset version ∷ weights_offset version n ∷ systems_offset version n g ∷ [] in
    let last = boards_read version (g ∷ boards_offset version n ∷ []) in
    let both = laid_next 0 survival_field room (all_bytes 2 counts) (all_bytes 4 offsets) one two (omega (arith, all-length 2 counts)) (omega arith) in
    laid_next 0 board_count_field room (all_bytes 2 counts ++ all_bytes 4 offsets) (all_bytes 4 last) both three
    (omega (arith, length-append (all_bytes 2 counts) (all_bytes 4 offsets), all-length 2 counts, all-length 4 offsets)) (omega arith)
    ∙ ap (λ bytes. laid 0 bytes room) (append_assoc (all_bytes 2 counts) (all_bytes 4 offsets) (all_bytes 4 last) ∙ ap (λ ys. all_bytes 2 counts ++ ys) (sym (all_append 4 offsets last)))
