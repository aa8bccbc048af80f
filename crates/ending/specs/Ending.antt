-- Document 02, request 13: "A file ends where its counts say or the input does." How many bytes a file asks for, by what is there of it, and the file at the front
-- of a stream.
use Rattle.std.specs.Prelude.{cond, List, ℕ, take, drop}
use Rattle.rules.specs.Refusal.{last_version, most_boards}
use Rattle.rules.specs.Answer.{unless}
use Rattle.rules.specs.File.{most_fans, most_systems, shortest_header, header_length, file_length, version_in, length_in, short_file, short_header, bad_start}
use Rattle.deck.specs.Head.{head_of, counts_refusal}

-- "where its counts say", by a header that is there: a refused one asks for nothing behind it
abbrev pub asks_by : List ℕ → ℕ
asks_by bytes =
    let header = header_length (version_in bytes) in
    cond (bad_start bytes) header (unless (counts_refusal (head_of bytes)) (λ r. header) (length_in bytes))

-- the header first, and then what it asks for
unfoldable pub asks : List ℕ → ℕ
asks bytes = cond (short_file bytes) shortest_header (cond (short_header bytes) (header_length (version_in bytes)) (asks_by bytes))

-- "or the input does": the file at a stream's front, and what is left of the stream behind it
abbrev pub file_at : (stream : List ℕ) → List ℕ
file_at stream = take (asks stream) stream

abbrev pub rest_at : (stream : List ℕ) → List ℕ
rest_at stream = drop (asks stream) stream

-- the most that a file asks for, 812
abbrev pub longest : ℕ
longest = file_length last_version most_fans most_boards most_systems
