-- Document 02, request 13: "A file ends where its counts say or the input does. A refused file is counted and ends the reading; at most 10,000 files are read, and the
-- report says if more bytes were waiting." The files that are read of a stream, and whether bytes are waiting.
use Rattle.std.specs.Prelude.{Bool, cond, not, ◌&&◌, List, [], ◌∷◌, ℕ, zero, suc, eqb, length}
use Rattle.ending.specs.Ending.{file_at, rest_at}
use Rattle.totals.specs.Season.{is_refused}
use Rattle.totals.specs.Room.{most_files}

-- is nothing left?
abbrev pub is_empty : List ℕ → Bool
is_empty stream = eqb (length stream) 0

-- the files of a stream, at most so many, and what is left of it when they are read
unfoldable pub files_in : (most : ℕ) (stream : List ℕ) → List (List ℕ)
files_in zero stream = []
files_in (suc most) stream =
    cond (is_empty stream) [] (file_at stream ∷ cond (is_refused (file_at stream)) [] (files_in most (rest_at stream)))

unfoldable pub left_in : (most : ℕ) (stream : List ℕ) → List ℕ
left_in zero stream = stream
left_in (suc most) stream =
    cond (is_empty stream) [] (cond (is_refused (file_at stream)) (rest_at stream) (left_in most (rest_at stream)))

-- so many were read, and bytes are left
abbrev pub waiting_in : (most : ℕ) (stream : List ℕ) → Bool
waiting_in most stream = eqb (length (files_in most stream)) most && not (is_empty (left_in most stream))

-- those that are read, and whether bytes are waiting behind the most
abbrev pub files_of : (stream : List ℕ) → List (List ℕ)
files_of stream = files_in most_files stream

abbrev pub is_waiting : (stream : List ℕ) → Bool
is_waiting stream = waiting_in most_files stream
