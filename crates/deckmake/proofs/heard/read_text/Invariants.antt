-- `heard::read_text` meets its contract: what was fed is held, whatever each read brings. Assumes nothing.
use mathlib.Core.Path.{◌≡◌}
use Prim.Native.Nat.{◌*◌, ◌≤◌}
use lib.ListN.{length}
use Rattle.text_stream.specs.Feeding.{Sane}
use Rattle.deckmake.proofs.heard.read_text.Given as goal

abbrev pub invariant-loop : goal.invariant-loop
invariant-loop l = record { few : l.feeding.listing.lines ≤ l.counter * 65536; sane : Sane l.feeding l.out; room : length l.piece ≡ 65536; line : length l.line ≡ length l.initial.line; out : length l.out ≡ length l.initial.out }
