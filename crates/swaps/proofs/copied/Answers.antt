-- `copied` has the numbers of the one part in the other, which stands at the same place. Assumes nothing.
use Prim.Native.Nat.{ℕ, ◌-◌, ◌+◌, ◌≤◌, ◌<◌}
use mathlib.Core.Path.{◌≡◌, ap, ◌∙◌}
use mathlib.Core.List.{List}
use native.Mathlib.Omega.{arith}
use lib.ListN.{length, get_or, take, drop, replicate, length-replicate, length-append, length-take, length-drop}
use borrow.Rule.Slice.PartMut.{put_mid}
use Rattle.rules.specs.Refusal.{most}
use Rattle.std.proofs.Math.ListN.{get_or-append}
use Rattle.std.proofs.lemmas.List.{get_or-append_right, get_or-drop, get_or-take}
use Rattle.swaps.proofs.copied.Goals as goal

module _ (from upto : ℕ) (xs zeros : List ℕ) (order : from ≤ upto) (inside : upto ≤ length xs) (room : length xs ≤ length zeros) where
  abbrev part : List ℕ
  part = take (upto - from) (drop from xs)

  long-part : length part ≡ upto - from
  long-part = simp (length-take, length-drop) (omega arith)

  whole : length (put_mid from (upto - from) zeros part) ≡ length zeros
  whole = simp (length-append, length-take, length-drop) (omega arith)

  same : (k : ℕ) → from ≤ k → k < upto → get_or (put_mid from (upto - from) zeros part) k 0 ≡ get_or xs k 0
  same k h l =
      let at : from + (k - from) ≡ k = omega arith in
      get_or-append_right (take from zeros) _ from k 0 (length-take from zeros ∙ omega arith) h
      ∙ get_or-append part _ 0 (k - from) (omega (arith, long-part))
      ∙ get_or-take (upto - from) (drop from xs) (k - from) 0 (omega arith)
      ∙ get_or-drop from xs (k - from) 0 ∙ ap (λ i. get_or xs i 0) at

pub returns : goal.returns
returns c =
    let from = c.args.from in
    let upto = c.args.upto in
    let xs = c.args.survival.now in
    let zeros = replicate most 0 in
    let room : length xs ≤ length zeros = omega (arith, length-replicate {A = ℕ} most 0) in
    record {
      long = ap (λ ys. length (put_mid from (upto - from) zeros ys)) c.copy_from_slice.ensures.after
          ∙ whole from upto xs zeros c.requires.0 c.requires.1 room ∙ length-replicate {A = ℕ} most 0;
      same = λ k h l. ap (λ ys. get_or (put_mid from (upto - from) zeros ys) k 0) c.copy_from_slice.ensures.after
          ∙ same from upto xs zeros c.requires.0 c.requires.1 room k h l;
    }
