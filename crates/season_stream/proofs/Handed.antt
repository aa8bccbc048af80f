-- What is fed adds to the bytes that are held; where the reading has ended, bytes that are not read change nothing; and the report on what is held is request 13's.
-- Assumes nothing.
use mathlib.Core.Path.{◌≡◌, sym, ap, ◌∙◌}
use mathlib.Core.Bool.{true}
use mathlib.Core.List.{List, [], ◌++◌, append_assoc, append-nil}
use Prim.Native.Nat.{ℕ}
use Rattle.season_stream.specs.declared.Reading.{Reading}
use Rattle.season_stream.specs.Reading.{season_of, goes_on, Fed, Holds}

pub holds-fed : {r after : Reading} {bytes piece : List ℕ} → Holds r bytes → Fed r piece after → Holds after (bytes ++ piece)
holds-fed {bytes} {piece} h fed = record {
  sane = fed.sane;
  on = λ rest. ap season_of (append_assoc bytes piece rest) ∙ h.on (piece ++ rest) ∙ fed.on rest;
}

-- all that is told
pub holds-end : {r : Reading} {bytes : List ℕ} → Holds r bytes → season_of bytes ≡ goes_on r []
holds-end {bytes} h = ap season_of (sym (append-nil bytes)) ∙ h.on []

pub closed-rest : {r : Reading} {bytes : List ℕ} → Holds r bytes → r.closed ≡ true → (rest : List ℕ) → season_of (bytes ++ rest) ≡ season_of bytes
closed-rest {r} {bytes} h closed rest = h.on rest ∙ fixed rest ∙ sym (holds-end h ∙ fixed [])
  where
    fixed : (more : List ℕ) → goes_on r more ≡ record { totals = r.totals; waiting = r.waiting }
    fixed more = rw closed
