-- The text's end: what is told then is what the lists lack, and the fans that stand on boards which are not there. Assumes nothing.
use mathlib.Core.Path.{◌≡◌, sym, ◌∙◌}
use mathlib.Core.Bool.{cond, ◌&&◌}
use mathlib.Core.List.{List, [], ◌++◌, append-nil}
use Prim.Native.Nat.{ℕ}
use native.Mathlib.Omega.{arith}
use lib.Dec.{eqb}
use lib.ListN.{length, take}
use borrow.Author.Tests.{eq-eqb, ne_eqb}
use Rattle.grammar.specs.Text.{Listed, Fault, no_fan, no_system, no_board, missing, unplaced, last_faults}
use Rattle.listing.specs.declared.Listing.{Listing}
use Rattle.typed_lists.specs.declared.told.Told.{Told}
use Rattle.typed_lists.specs.Told.{Roomy, Telling}
use Rattle.listing.specs.Holds.{Holds, Sane, Steps, ended}

-- the listing with other faults told
abbrev pub telling : Listing → Told → Listing
telling l t = record { lines = l.lines; version = l.version; begun = l.begun; fans = l.fans; boards = l.boards; switchboards = l.switchboards; systems = l.systems; told = t }

pub ended-steps : {l : Listing} {out then : List ℕ} {t : Told} → Sane l out → Roomy t then → ((s : Listed) → Holds l s out → Holds (telling l t) (ended s) then)
    → Steps 0 l out (telling l t) then ended
ended-steps sane room holds = record {
  sane = record { counted = record { fans = sane.counted.fans; boards = sane.counted.boards; switchboards = sane.counted.switchboards; systems = sane.counted.systems }; room = room };
  few = omega arith;
  holds = holds;
}

module _ {l : Listing} {s : Listed} {out : List ℕ} (h : Holds l s out) where
  -- what the lists lack, as the counts say it
  abbrev pub lacks : List Fault
  lacks =
      missing l.lines (eqb l.fans.count 0) no_fan
      ++ missing l.lines (eqb l.systems.count 0) no_system
      ++ missing l.lines (eqb l.version 3 && eqb l.boards 0) no_board

  abbrev elsewhere : List Fault
  elsewhere = cond (eqb (length s.switchboards) 0) [] (unplaced (length s.switchboards) 0 s.boards s.fan_lines)

  same-last : lacks ++ elsewhere ≡ last_faults s
  same-last =
      rw (h.lines, h.version, ← h.fans.parts.counted, h.systems.count, ← h.boards.counted)

  -- a listing whose faults alone have changed
  ended_by : {t : Told} {then : List ℕ} → Telling t (s.faults ++ (lacks ++ elsewhere)) then
      → Holds (telling l t) (ended s) then
  ended_by t = record {
    lines = h.lines;
    version = h.version;
    begun = h.begun;
    fans = h.fans;
    boards = h.boards;
    systems = h.systems;
    told = rw (← same-last) t;
  }

  pub ended-boardless : {t : Told} {then : List ℕ} → l.boards ≡ 0 → Telling t (s.faults ++ lacks) then
      → Holds (telling l t) (ended s) then
  ended-boardless z t =
      ended_by (rw (eq-eqb (length s.switchboards) 0 (h.boards.counted ∙ z), append-nil lacks) t)

  pub ended-boarded : {t : Told} {then : List ℕ} → (l.boards ≡ 0 → ⊥)
      → Telling t (s.faults ++ (lacks ++ unplaced l.boards 0 (take l.fans.count l.fans.boards) (take l.fans.count l.fans.lines))) then
      → Holds (telling l t) (ended s) then
  ended-boarded n t =
      let e : elsewhere ≡ unplaced l.boards 0 (take l.fans.count l.fans.boards) (take l.fans.count l.fans.lines) =
      rw (ne_eqb (length s.switchboards) 0 (λ z. n (sym h.boards.counted ∙ z)), h.boards.counted, h.fans.placed.stands, h.fans.lined.stands) in
      ended_by (rw e t)
