-- Why a deck file is refused: the causes of 10, 11, 2, 12, 20, 13 and 21 in the order in which a file is checked, each with a remedy.
use Rattle.std.specs.Prelude.{cond, List, ℕ, ltb, eqb, length}
use Rattle.rules.specs.Refusal.{bad_version, bad_size}
use Rattle.rules.specs.File.{zero_field, shortest_header, header_length, number_at, version_in, fans_in, count_in, board_count_in, length_in, short_file, short_header, bad_systems, bad_layout, bad_boards_in}
use Rattle.advice.specs.declared.why.Why.{Why}
use Rattle.advice.specs.Words.{because, why_text}
use Rattle.advice.specs.declared.cause.Cause.TheVariants.{HeaderShort, UnknownVersion, ZeroFieldSet, FansOut, SystemsOut, BoardsOut, EndsEarly, LaidWrongly, BoardPastLast}

-- 13, where the file ends early and where it does not, and 21
unfoldable pub laid_why : List ℕ → Why
laid_why bytes =
    cond (ltb (length bytes) (length_in bytes)) (because EndsEarly (length bytes) (length_in bytes) 0 0)
    (cond (bad_layout bytes) (because LaidWrongly 0 0 0 0) (because BoardPastLast (board_count_in bytes) 0 0 0))

-- 2, 12 and 20, and those
unfoldable pub counts_why : List ℕ → Why
counts_why bytes =
    cond (bad_size (fans_in bytes)) (because FansOut (fans_in bytes) 0 0 0)
    (cond (bad_systems bytes) (because SystemsOut (count_in bytes) 0 0 0)
    (cond (bad_boards_in bytes) (because BoardsOut (board_count_in bytes) 0 0 0) (laid_why bytes)))

-- 11 by the zero field and 10 by the version's header, and those
unfoldable pub header_why : List ℕ → Why
header_why bytes =
    let zeros = number_at 2 bytes zero_field in
    cond (eqb zeros 0) (cond (short_header bytes) (because HeaderShort (length bytes) (header_length (version_in bytes)) 0 0) (counts_why bytes))
    (because ZeroFieldSet zeros 0 0 0)

-- 10, 11 by the version, and those
unfoldable pub file_why : List ℕ → Why
file_why bytes =
    cond (short_file bytes) (because HeaderShort (length bytes) shortest_header 0 0)
    (cond (bad_version (version_in bytes)) (because UnknownVersion (version_in bytes) 0 0 0) (header_why bytes))

-- in words
abbrev pub file_words : List ℕ → List ℕ
file_words bytes = why_text (file_why bytes)
