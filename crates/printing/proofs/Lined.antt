-- Lines put one after another into a buffer that has room for as many as there may be: how long they are at most, and how one more is added. Assumes nothing.
use mathlib.Core.Path.{◌≡◌, refl, sym, ap, ◌∙◌}
use mathlib.Core.Bool.{Bool, true, false}
use mathlib.Core.List.{List, ◌++◌, append_assoc, append-nil}
use Prim.Native.Nat.{ℕ, zero, suc, ◌+◌, ◌*◌, ◌≤◌, ◌<◌}
use native.Mathlib.Omega.{arith}
use native.Mathlib.Numerals.{add-one}
use native.Mathlib.Nat.{mul-le-mul_left}
use lib.ListN.{length, length-append}
use Rattle.text.specs.Added.{Added}
use Rattle.text.proofs.Adding.{none-added, added_more}
use Rattle.text.proofs.Digits.{decimal-short}
use Rattle.advice.specs.declared.why.Why.{Why}
use Rattle.advice.proofs.Worded.{why-short}
use Rattle.printing.specs.Lines.{lines_text, worded_text, worded_room}

pub lines-short : (room k : ℕ) (line : ℕ → List ℕ) → ((i : ℕ) → length (line i) ≤ room) → length (lines_text k line) ≤ room * k
unfolding lines_text
lines-short room zero line h = omega arith
lines-short room (suc k) line h =
    omega (arith, length-append (lines_text k line) (line k), lines-short room k line h, h k)

-- the lines of so many things and of so many more are those of them all
pub lines_split : (a b : ℕ) (line : ℕ → List ℕ) → lines_text a line ++ lines_text b (λ k. line (a + k)) ≡ lines_text (a + b) line
unfolding lines_text
lines_split a zero line = let same : a + 0 ≡ a = omega arith in rw same (append-nil (lines_text a line))
lines_split a (suc b) line =
    let next : a + suc b ≡ suc (a + b) = omega arith in
    rw next (sym (append_assoc (lines_text a line) (lines_text b (λ k. line (a + k))) (line (a + b))) ∙ ap (λ t. t ++ line (a + b)) (lines_split a b line))

-- the lines of the first k of n things, in a buffer
pub record Lined (n : ℕ) (line : ℕ → List ℕ) (out₀ : List ℕ) (at : ℕ) (out : List ℕ) (end k : ℕ) : Type 0 where
  pub passed : k ≤ n
  pub same : length out ≡ length out₀
  pub lines : Added (lines_text k line) out₀ at out end

pub no_lines : (n : ℕ) (line : ℕ → List ℕ) (out : List ℕ) (at : ℕ) → Lined n line out at out at 0
unfolding lines_text
no_lines n line out at = record { passed = omega arith; same = refl; lines = none-added out at }

module _ {n : ℕ} {line : ℕ → List ℕ} {out₀ out : List ℕ} {at end k : ℕ} (l : Lined n line out₀ at out end k) where
  -- there is room for one more where there is room for the most
  pub room-left : (room most : ℕ) → ((i : ℕ) → length (line i) ≤ room) → k < n → n ≤ most → at + room * most ≤ length out₀ → end + room ≤ length out
  room-left room most short more few all =
      let next : room * suc k ≤ room * most = mul-le-mul_left room (omega arith) in
      omega (arith, l.same, l.lines.ends, lines-short room k line short)

  pub one_more : {last : List ℕ} {stop : ℕ} → k < n → length last ≡ length out → Added (line k) out end last stop → Lined n line out₀ at last stop (k + 1)
  unfolding lines_text
  one_more more kept added = record { passed = omega arith; same = omega (arith, l.same); lines = rw add-one (added_more l.lines added) }

  pub all_lines : n ≤ k → Added (lines_text n line) out₀ at out end
  all_lines h = let e : k ≡ n = omega (arith, l.passed) in rw e at l.lines

-- how long the line of a refusal is behind its name
pub worded-short : (words : Bool) (why : Why) (number : ℕ) → length (worded_text words why number) ≤ worded_room
worded-short false why number = simp length-append (omega (arith, decimal-short number))
worded-short true why number = simp length-append (omega (arith, decimal-short number, why-short why))
