-- The words of a case file.
use Rattle.std.specs.Prelude.{ℕ, ◌+◌, ◌*◌, ◌/◌, ◌%◌, ◌^◌, cond, List, length, nat_lt}
use Rattle.rules.specs.File.{number_at}

-- the bytes of a word
abbrev pub word_bytes : ℕ
word_bytes = 8

-- the word at an index, "little-endian"; 0 past the last whole word
unfoldable pub word_at : (bytes : List ℕ) (at : ℕ) → ℕ
word_at bytes at = cond (nat_lt at (length bytes / word_bytes)) (number_at word_bytes bytes (at * word_bytes)) 0

-- the k-th word from a place on, and in a list whose numbers are below the limit
abbrev pub words_from : (bytes : List ℕ) (at k : ℕ) → ℕ
words_from bytes at k = word_at bytes (at + k)

abbrev pub low_words : (limit : ℕ) (bytes : List ℕ) (at k : ℕ) → ℕ
low_words limit bytes at k = words_from bytes at k % limit

abbrev pub octet_limit : ℕ
octet_limit = 2 ^ 8

abbrev pub short_limit : ℕ
short_limit = 2 ^ 16

abbrev pub long_limit : ℕ
long_limit = 2 ^ 32
