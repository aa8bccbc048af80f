-- What the loops count and put, place by place: the changes so far, laid over the list's front, with room for all; and the parts of the mended file, laid one after the
-- other. Assumes nothing.
use mathlib.Core.Path.{◌≡◌, refl, sym, ap, ap₂, ◌∙◌}
use mathlib.Core.Bool.{Bool, true, false, cond}
use mathlib.Core.List.{List, [], ◌∷◌}
use Prim.Native.Nat.{ℕ, suc, ◌+◌, ◌-◌, ◌*◌, ◌≤◌, ◌<◌}
use native.Mathlib.Nat.{one-mul}
use native.Mathlib.Numerals.{add-one, add-two}
use native.Mathlib.Omega.{arith}
use lib.Dec.{eqb}
use lib.ListN.{length, get_or, take, drop, set, length-append}
use lib.Seq.{sets-eq}
use Rattle.rules.specs.Below.{held}
use Rattle.rules.specs.File.{header_length, all_bytes, version_in, fans_in, count_in, board_count_in, length_in}
use Rattle.rules.specs.Mending.{header_for, body_in, mended, per_change, differs, change_at, changes_below, beyond_mending}
use Rattle.rules.proofs.Changes.{changes-length, count-rises}
use Rattle.layout.specs.Fits.{Bytes}
use Rattle.layout.proofs.Header.{header-length}
use Rattle.layout.proofs.Numbers.{bytes_back, bytes-are}
use Rattle.writer.specs.Laid.{laid}
use Rattle.writer.proofs.Laying.{laid-length, laid_none, laid_more, laid_next}
use Rattle.mend.specs.Change.{Put}
use Rattle.mend.proofs.Mendable.{mendable}

-- one place more
pub count-more : (p : ℕ → Bool) {count x : ℕ} (i : ℕ) → count ≡ held p i → x ≡ cond (p i) 1 0 → count + x ≡ held p (i + 1)
unfolding held
count-more p i e f = rw (add-one i) (ap₂ ◌+◌ e f)

-- three numbers stored one after the other are laid
pub laid-three : (at a b c : ℕ) (list : List ℕ) → at + 3 ≤ length list → set (set (set list at a) (at + 1) b) (at + 2) c ≡ laid at (a ∷ b ∷ c ∷ []) list
unfolding laid
laid-three at a b c list fits = rw (add-one at, add-two at) (sets-eq (a ∷ b ∷ c ∷ []) list at fits)

-- a change that is put, and none
module _ {place old new at next : ℕ} {list after : List ℕ} where
  pub put_some : eqb old new ≡ false → after ≡ laid at (place ∷ old ∷ new ∷ []) list → next ≡ at + 3 → Put place old new at list after next
  put_some e p n = record { put = rw e p; behind = rw e n }

  pub put-none : eqb old new ≡ true → after ≡ list → next ≡ at → Put place old new at list after next
  put-none e p n = record { put = rw e (p ∙ sym (laid_none at list)); behind = rw e (omega (arith, n)) }

-- a list over which the changes of the first i of k places are put
pub record Putting (old new : List ℕ) (k : ℕ) (before after : List ℕ) (at i : ℕ) : Type 0 where
  pub passed : i ≤ k
  pub fits : per_change * held (differs old new) k ≤ length before
  pub stands : after ≡ laid 0 (changes_below old new i) before
  pub behind : at ≡ length (changes_below old new i)
  pub long : length after ≡ length before

module _ {old new : List ℕ} {k : ℕ} {before : List ℕ} where
  pub putting-none : per_change * held (differs old new) k ≤ length before → Putting old new k before before 0 0
  unfolding changes_below
  putting-none fits = record { passed = omega arith; fits = fits; stands = sym (laid_none 0 before); behind = refl; long = refl }

  module _ {list : List ℕ} {at i : ℕ} (l : Putting old new k before list at i) (h : i < k) where
    next-length : length (changes_below old new (suc i)) ≡ at + length (change_at old new i)
    unfolding changes_below
    next-length = length-append (changes_below old new i) (change_at old new i) ∙ ap (λ a. a + length (change_at old new i)) (sym l.behind)

    pub putting-room : at + length (change_at old new i) ≤ length list
    putting-room =
        let rest = k - suc i in
        let all : suc i + rest ≡ k = omega arith in
        let more = rw all at (count-rises old new (suc i) rest) in
        omega (arith, next-length, changes-length old new (suc i), more, l.fits, l.long)

    pub putting-more : {last : List ℕ} {next : ℕ} → Put i (get_or old i 0) (get_or new i 0) at list last next → Putting old new k before last next (i + 1)
    unfolding changes_below
    putting-more {last} {next} put = record {
      passed = omega arith;
      fits = l.fits;
      stands =
          put.put
          ∙ ap (laid at (change_at old new i)) l.stands
          ∙ laid_more 0 before (changes_below old new i) (change_at old new i) at (omega (arith, l.behind)) (omega arith)
          ∙ ap (λ j. laid 0 (changes_below old new j) before) (sym (add-one i));
      behind = put.behind ∙ sym next-length ∙ ap (λ j. length (changes_below old new j)) (sym (add-one i));
      long = ap length put.put ∙ laid-length at list (change_at old new i) putting-room ∙ l.long;
    }

  pub putting-all : {list : List ℕ} {at i : ℕ} → Putting old new k before list at i → k ≤ i → list ≡ laid 0 (changes_below old new k) before
  putting-all {i} l h =
      let e : i ≡ k = omega (arith, l.passed) in
      l.stands ∙ ap (λ j. laid 0 (changes_below old new j) before) e

-- the file's bytes behind its header, as they are laid: each in one byte
pub body_bytes : (bytes : List ℕ) → Bytes bytes → beyond_mending bytes ≡ 0 → all_bytes 1 (body_in bytes) ≡ body_in bytes
body_bytes bytes small none =
    let h = header_length (version_in bytes) in
    let l = length_in bytes - h in
    let fits : h + l ≤ length bytes = omega (arith, (mendable bytes none).whole) in
    ap (all_bytes 1) (bytes-are bytes h l fits)
    ∙ bytes_back 1 bytes h l small (omega arith)
    ∙ ap (λ j. take j (drop h bytes)) (one-mul l)

pub mended-laid : (bytes room : List ℕ) → Bytes bytes → beyond_mending bytes ≡ 0 → {first last : List ℕ} → first ≡ laid 0 (header_for bytes) room
    → last ≡ laid (header_length (version_in bytes)) (all_bytes 1 (body_in bytes)) first → last ≡ laid 0 (mended bytes) room
unfolding mended
mended-laid bytes room small none {first} one two =
    let h = header_length (version_in bytes) in
    let plain = two ∙ ap (λ ys. laid h ys first) (body_bytes bytes small none) in
    laid_next 0 h room (header_for bytes) (body_in bytes) one plain (omega (arith, header-length (version_in bytes) (fans_in bytes) (board_count_in bytes) (count_in bytes))) (omega arith)
