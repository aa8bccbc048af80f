-- `joined` meets its contract: the bytes stand behind those that are kept. Assumes nothing.
use mathlib.Core.Path.{◌≡◌, ap, ◌∙◌}
use mathlib.Core.List.{List}
use Prim.Native.Nat.{ℕ, ◌+◌, ◌-◌, ◌≤◌}
use native.Mathlib.Omega.{arith}
use lib.ListN.{length, take, length-append, length-take, length-drop}
use borrow.Rule.Slice.PartMut.{put_mid}
use Rattle.std.proofs.lemmas.Slice.{take-put_mid}
use Rattle.season_stream.proofs.joined.Goals as goal

long : (kept : ℕ) (part more : List ℕ) → kept + length more ≤ length part → length (put_mid kept (kept + length more - kept) part more) ≡ length part
long kept part more fits = simp (length-append, length-take, length-drop) (omega arith)

pub returns : goal.returns
returns c =
    let kept = c.args.kept in
    let more = c.args.more.now in
    let part = c.args.part in
    let put = ap (put_mid kept (kept + length more - kept) part) c.copy_from_slice.ensures.after in (
      ap length put ∙ long kept part more (omega (arith, c.requires.0, c.requires.1)) ∙ c.requires.0,
      ap (take (kept + length more)) put ∙ take-put_mid kept (kept + length more - kept) part more (kept + length more) (omega arith) (omega (arith, c.requires.0, c.requires.1)),
    )
