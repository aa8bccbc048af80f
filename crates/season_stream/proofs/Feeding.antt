-- What bytes that are fed do to a reading, a law for each way through `taken`; and what is told where the stream ends. Assumes nothing.
use mathlib.Core.Path.{◌≡◌, refl, sym, ap, ◌∙◌}
use mathlib.Core.Bool.{Bool, true, false, not, false≢true}
use mathlib.Core.List.{List, [], ◌++◌, append_assoc, append-nil}
use Prim.Native.Nat.{ℕ, suc, ◌+◌, ◌-◌, ◌≤◌, ◌<◌}
use native.Mathlib.Decide.{dec_lt, ℕ_discrete}
use native.Mathlib.Omega.{arith}
use lib.Dec.{eqb}
use lib.ListN.{length, take, length-append}
use lib.Seq.{length-take-le, take-append_seam}
use borrow.Author.Tests.{eq-eqb, ne_eqb}
use Rattle.ending.specs.Ending.{asks, longest}
use Rattle.ending.proofs.Asking.{asked-more, shortest-least}
use Rattle.totals.specs.declared.Totals.{Totals}
use Rattle.totals.specs.Season.{is_refused}
use Rattle.totals.specs.Plus.{one_if, file_plus}
use Rattle.totals.specs.Room.{most_files}
use Rattle.totals.proofs.Streams.{Kept, file-kept}
use Rattle.season_stream.specs.declared.Reading.{Reading}
use Rattle.season_stream.specs.Reading.{season_in, part_of, goes_on, with_file, Ongoing, Sane, Takes, Fed}
use Rattle.season_stream.proofs.Going.{season-none, season-full, whole-on, whole-refused, whole-last, cut_short}

-- one piece after another
pub fed-none : {r : Reading} → Sane r → Fed r [] r
fed-none sane = record { sane = sane; on = λ rest. refl }

pub fed-twice : {r s u : Reading} {bytes more : List ℕ} → Fed r bytes s → Fed s more u → Fed r (bytes ++ more) u
fed-twice {r} {bytes} {more} one two = record {
  sane = two.sane;
  on = λ rest. ap (goes_on r) (append_assoc bytes more rest) ∙ one.on (more ++ rest) ∙ two.on rest;
}

-- how much is taken
pub takes-closed : (r : Reading) (n : ℕ) → r.closed ≡ true → Takes r n
takes-closed r n e f = absurd (false≢true (sym f ∙ e))

pub takes-full : (r : Reading) (n : ℕ) → r.files ≡ most_files → Takes r n
takes-full r n e f l = absurd (omega arith)

pub takes-less : (r : Reading) (n m : ℕ) → n ≤ m → Takes r m → Takes r n
takes-less r n m l takes now-open left =
    let all = takes now-open left in
    (omega (arith, all.0), omega (arith, all.1))

pub one_left : {r : Reading} → Sane r → r.closed ≡ false → (r.files ≡ most_files → ⊥) → r.files < most_files
one_left {r} sane now-open other =
    elim (dec_lt r.files most_files) [
      | yes y ↦ y
      | no g ↦ absurd (other (omega (arith, (sane.ongoing now-open).few)))
    ]

-- where the reading has ended, nothing changes what is told
pub fed-closed : {r : Reading} {bytes : List ℕ} → Sane r → r.closed ≡ true → Fed r bytes r
fed-closed sane closed = record { sane = sane; on = λ rest. rw closed }

goes-open : (r : Reading) (rest : List ℕ) → r.closed ≡ false → goes_on r rest ≡ season_in (most_files - r.files) r.totals (part_of r ++ rest)
goes-open r rest e = rw e

module _ {r : Reading} (bytes : List ℕ) (sane : Sane r) (now-open : r.closed ≡ false) (some : 0 < length bytes) where
  known : Ongoing r
  known = sane.ongoing now-open

  -- bytes behind the last file that is read
  pub fed-full : r.files ≡ most_files
      → Fed r bytes (record { part = r.part; kept = r.kept; files = r.files; closed = true; waiting = true; totals = r.totals })
  fed-full full = record {
    sane = record { room = sane.room; within = sane.within; ongoing = λ e. absurd (false≢true (sym e)) };
    on = λ rest.
        goes-open r (bytes ++ rest) now-open
        ∙ ap (λ n. season_in n r.totals (part_of r ++ (bytes ++ rest))) (let z : most_files - r.files ≡ 0 = omega arith in z)
        ∙ season-full r.totals (part_of r ++ (bytes ++ rest)) (omega (arith, length-append (part_of r) (bytes ++ rest), length-append bytes rest));
  }

  module _ (left : r.files < most_files) (takes : Takes r (length bytes)) (part : List ℕ) (kept : ℕ) (is : kept ≡ r.kept + length bytes)
      (room : length part ≡ longest) (front : take kept part ≡ part_of r ++ bytes) where
    within : kept ≤ longest
    within = omega (arith, (takes now-open left).1)

    front_length : length (take kept part) ≡ kept
    front_length = length-take-le kept part (omega (arith, within))

    joins : (rest : List ℕ) → goes_on r (bytes ++ rest) ≡ season_in (most_files - r.files) r.totals (take kept part ++ rest)
    joins rest =
        goes-open r (bytes ++ rest) now-open
        ∙ ap (season_in (most_files - r.files) r.totals) (sym (append_assoc (part_of r) bytes rest) ∙ ap (λ l. l ++ rest) (sym front))

    -- the file is not whole yet
    pub fed-part : kept < asks (take kept part)
        → Fed r bytes (record { part = part; kept = kept; files = r.files; closed = r.closed; waiting = r.waiting; totals = r.totals })
    fed-part asking =
        let before = known in
        record {
          sane = record {
            room = room;
            within = within;
            ongoing = λ e. record { few = before.few; asking = asking; full = λ f. absurd (omega arith); decks = before.decks; spare = before.spare };
          };
          on = λ rest.
              joins rest
              ∙ sym (goes-open (record { part = part; kept = kept; files = r.files; closed = r.closed; waiting = r.waiting; totals = r.totals }) rest now-open);
        }

    -- or whole: exactly what it asks for
    module _ (done : asks (take kept part) ≤ kept) where
      abbrev file : List ℕ
      file = take kept part

      whole : asks file ≡ length file
      whole =
          let old : take r.kept file ≡ part_of r =
          ap (take r.kept) front
          ∙ ap (λ n. take n (part_of r ++ bytes)) (sym (length-take-le r.kept r.part (omega (arith, sane.room, sane.within))))
          ∙ take-append_seam (part_of r) bytes in
          let asked : length file ≤ asks (take r.kept file) = rw old (omega (arith, front_length, (takes now-open left).0)) in
          omega (arith, done, front_length, asked-more file r.kept (omega (arith, front_length)) asked)

      abbrev sum : Totals
      sum = file_plus r.totals file

      kept-room : Kept r.totals file sum
      kept-room = file-kept r.totals file (known.spare left).room

      left-before : most_files - r.files ≡ suc (most_files - (r.files + 1))
      left-before = omega arith

      told : (rest : List ℕ) → goes_on r (bytes ++ rest) ≡ season_in (suc (most_files - (r.files + 1))) r.totals (file ++ rest)
      told rest = joins rest ∙ ap (λ n. season_in n r.totals (file ++ rest)) left-before

      none_kept : (t : Reading) → t.kept ≡ 0 → t.kept < asks (part_of t)
      none_kept t e = omega (arith, shortest-least (part_of t))

      -- the last that is read
      fed-last : r.files + 1 ≡ most_files → Fed r bytes (record { part = r.part; kept = 0; files = r.files + 1; closed = false; waiting = false; totals = sum })
      fed-last last = record {
        sane = record {
          room = sane.room;
          within = omega arith;
          ongoing = λ e. record {
            few = omega arith;
            asking = none_kept (record { part = r.part; kept = 0; files = r.files + 1; closed = false; waiting = false; totals = sum }) refl;
            full = λ f. refl;
            decks = omega (arith, kept-room.most, known.decks);
            spare = λ l. absurd (omega arith);
          };
        };
        on = λ rest.
            told rest
            ∙ ap (λ n. season_in (suc n) r.totals (file ++ rest)) none
            ∙ whole-last r.totals file (omega (arith, front_length)) rest whole
            ∙ ap (λ n. season_in n sum rest) (sym none);
      }
        where
          none : most_files - (r.files + 1) ≡ 0
          none = omega arith

      refused-if : (b : Bool) → is_refused file ≡ b → sum.refused ≡ one_if b
      refused-if b e = omega (arith, kept-room.refused, (known.spare left).none, ap one_if e)

      -- another, refused or not
      module _ (other : r.files + 1 ≡ most_files → ⊥) where
        more : r.files + 1 < most_files
        more =
            elim (dec_lt (r.files + 1) most_files) [
              | yes y ↦ y
              | no g ↦ absurd (other (omega arith))
            ]

        fed-refused : is_refused file ≡ true → Fed r bytes (record { part = r.part; kept = 0; files = r.files + 1; closed = true; waiting = false; totals = sum })
        fed-refused e = record {
          sane = record { room = sane.room; within = omega arith; ongoing = λ z. absurd (false≢true (sym z)) };
          on = λ rest. told rest ∙ whole-refused r.totals file (omega (arith, front_length)) rest whole (most_files - (r.files + 1)) (omega (arith, more)) e;
        }

        fed-deck : is_refused file ≡ false → Fed r bytes (record { part = r.part; kept = 0; files = r.files + 1; closed = false; waiting = false; totals = sum })
        fed-deck e = record {
          sane = record {
            room = sane.room;
            within = omega arith;
            ongoing = λ z. record {
              few = omega (arith, more);
              asking = none_kept (record { part = r.part; kept = 0; files = r.files + 1; closed = false; waiting = false; totals = sum }) refl;
              full = λ f. refl;
              decks = omega (arith, kept-room.most, known.decks);
              spare = λ l. record { none = refused-if false e; few = omega (arith, kept-room.most, known.decks); room = kept-room.room };
            };
          };
          on = λ rest. told rest ∙ whole-on r.totals file (omega (arith, front_length)) rest whole (most_files - (r.files + 1)) e;
        }

        by-refusal : (b : Bool) → is_refused file ≡ b → (n : ℕ) → n ≡ one_if b
            → Fed r bytes (record { part = r.part; kept = 0; files = r.files + 1; closed = not (eqb n 0); waiting = false; totals = sum })
        by-refusal true e n one = rw one (fed-refused e)
        by-refusal false e n none = rw none (fed-deck e)

        fed-more : Fed r bytes (record { part = r.part; kept = 0; files = r.files + 1; closed = not (eqb sum.refused 0); waiting = false; totals = sum })
        fed-more = by-refusal (is_refused file) refl sum.refused (refused-if (is_refused file) refl)

      pub fed-file : {after : Reading} → after ≡ with_file r sum → Fed r bytes after
      fed-file e = rw e (elim (ℕ_discrete (r.files + 1) most_files) [
        | yes y ↦ rw (eq-eqb (r.files + 1) most_files y) (fed-last y)
        | no g ↦ rw (ne_eqb (r.files + 1) most_files g) (fed-more g)
      ])

-- where the stream ends
module _ {r : Reading} (sane : Sane r) where
  pub ends-closed : r.closed ≡ true → record { totals = r.totals; waiting = r.waiting } ≡ goes_on r []
  ends-closed e = rw e

  pub ends-none : r.closed ≡ false → r.kept ≡ 0 → record { totals = r.totals; waiting = false } ≡ goes_on r []
  ends-none now-open e =
      sym
      (goes-open r [] now-open
      ∙ ap (λ n. season_in (most_files - r.files) r.totals (take n r.part ++ [])) e
      ∙ season-none (most_files - r.files) r.totals)

  pub not_full : r.closed ≡ false → (r.kept ≡ 0 → ⊥) → r.files < most_files
  not_full now-open other = one_left sane now-open (λ e. other ((sane.ongoing now-open).full e))

  pub ends-part : r.closed ≡ false → (r.kept ≡ 0 → ⊥) → (sum : Totals) → sum ≡ file_plus r.totals (part_of r)
      → record { totals = sum; waiting = false } ≡ goes_on r []
  ends-part now-open other sum plus =
      let long = length-take-le r.kept r.part (omega (arith, sane.room, sane.within)) in
      let less = not_full now-open other in
      let any : 0 < r.kept =
      elim (dec_lt 0 r.kept) [
        | yes y ↦ y
        | no g ↦ absurd (other (omega arith))
      ] in
      sym
      (goes-open r [] now-open
      ∙ ap (season_in (most_files - r.files) r.totals) (append-nil (part_of r))
      ∙ ap (λ n. season_in n r.totals (part_of r)) (let z : most_files - r.files ≡ suc (most_files - (r.files + 1)) = omega arith in z)
      ∙ cut_short r.totals (part_of r) (omega (arith, long)) (most_files - (r.files + 1)) (rw long (sane.ongoing now-open).asking)
      ∙ (λ i. record { totals = sym plus i; waiting = false }))
