-- The checks of a file as the program makes them: past those of its version and length come those of its counts, then 22. Assumes nothing.
use mathlib.Core.Path.{◌≡◌, refl, ◌∙◌}
use mathlib.Core.Bool.{Bool, false}
use mathlib.Core.List.{List, [], ◌∷◌}
use Prim.Native.Nat.{ℕ}
use Rattle.rules.specs.Refusal.{bad_version, bad_size, first_of, after}
use Rattle.rules.specs.File.{version_in, fans_in, short_file, short_header, bad_systems, bad_boards_in}
use Rattle.rules.specs.Mending.{ends_early, beyond_mending}
use Rattle.rules.proofs.Accepted.{first-after, first_more}
use Rattle.deck.specs.Head.{counts_refusal}
use Rattle.mend.specs.Looked.{cut_refusal}

none_before : (rest : List (ℕ × Bool)) → first_of rest ≡ after (first_of []) (first_of rest)
unfolding first_of after
none_before rest = refl

pub counts-then : (bytes : List ℕ) → short_file bytes ≡ false → bad_version (version_in bytes) ≡ false → short_header bytes ≡ false
    → beyond_mending bytes ≡ cut_refusal bytes
unfolding beyond_mending cut_refusal counts_refusal
counts-then bytes short version header =
    let rest : List (ℕ × Bool) = (22, ends_early bytes) ∷ [] in
    first-after 10 _ _ short
    ∙ first-after 11 _ _ version
    ∙ first-after 10 _ _ header
    ∙ first_more 1 (bad_size (fans_in bytes)) _ _ (first_of rest)
    (first_more 11 (bad_systems bytes) _ _ (first_of rest) (first_more 19 (bad_boards_in bytes) [] rest (first_of rest) (none_before rest)))
