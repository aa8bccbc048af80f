-- A word is made from its highest byte down: what is made of the upper bytes, times 256, and the next byte. Assumes nothing.
use Rattle.std.proofs.Common.{◌≡◌, ℕ, suc, ◌+◌, ◌-◌, ◌*◌, ◌/◌, ◌^◌, ◌<◌, ◌≤◌, List, length, get_or, refl, ap, arith, pow_mono, pow-add, le-ltb, lt-ltb}
use Rattle.rules.specs.File.{number_at}
use Rattle.casefile.specs.Words.{word_bytes, word_at}

pub no_bytes : (bytes : List ℕ) (at : ℕ) → number_at 0 bytes at ≡ 0
unfolding number_at
no_bytes bytes at = refl

pub next-byte : (bytes : List ℕ) (start left : ℕ) → 0 < left → left ≤ 8
    → number_at (8 - (left - 1)) bytes (start + (left - 1)) ≡ number_at (8 - left) bytes (start + left) * 256 + get_or bytes (start + (left - 1)) 0
unfolding number_at
next-byte bytes start left low high =
    let w : 8 - (left - 1) ≡ suc (8 - left) = omega arith in
    let s : suc (start + (left - 1)) ≡ start + left = omega arith in
    rw w (omega (arith, ap (number_at (8 - left) bytes) s))

-- while `left` bytes are to come, the word has 64 - 8 * left bits
pub next-bits : (v b left : ℕ) → 0 < left → left ≤ 8 → v < 2 ^ (64 - 8 * left) → b < 256 → v * 256 + b < 2 ^ (64 - 8 * (left - 1))
next-bits v b left low high l byte =
    let e : 64 - 8 * (left - 1) ≡ 8 + (64 - 8 * left) = omega arith in
    rw (e, pow-add 2 8 (64 - 8 * left)) (omega arith)

pub all-bits : (v left : ℕ) → v < 2 ^ (64 - 8 * left) → v < 2 ^ 64
all-bits v left l = omega (arith, pow_mono {i = 64 - 8 * left} {j = 64} (omega arith))

pub word-here : (bytes : List ℕ) (at : ℕ) → at < length bytes / word_bytes → number_at word_bytes bytes (at * word_bytes) ≡ word_at bytes at
unfolding word_at
word-here bytes at l = rw (lt-ltb at (length bytes / word_bytes) l)

pub word-past : (bytes : List ℕ) (at : ℕ) → length bytes / word_bytes ≤ at → 0 ≡ word_at bytes at
unfolding word_at
word-past bytes at l = rw (le-ltb at (length bytes / word_bytes) l)
