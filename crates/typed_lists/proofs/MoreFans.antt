-- Fans added one after another are so many fans more. Assumes nothing.
use mathlib.Core.Path.{◌≡◌, ap, ◌∙◌}
use mathlib.Core.List.{List, ◌++◌, append_assoc, append-nil}
use Prim.Native.Nat.{ℕ, ◌+◌, ◌<◌}
use native.Mathlib.Omega.{arith}
use lib.ListN.{set, replicate, length-set, replicate-append-replicate}
use Rattle.rules.specs.File.{most_fans}
use Rattle.typed_lists.specs.declared.fans.Fans.{Fans}
use Rattle.typed_lists.specs.Lists.{Lined, MoreFans}

-- a fan stored behind the others leaves each array as long as it was
pub one-lined : {f : Fans} → Lined f → f.count < most_fans → (parts weight board line : ℕ)
    → Lined (record { count = f.count + 1; survival = set f.survival f.count parts; weights = set f.weights f.count weight; boards = set f.boards f.count board; lines = set f.lines f.count line })
one-lined {f} l few parts weight board line = record {
  few = omega (arith, few);
  survival = length-set f.survival f.count parts ∙ l.survival;
  weights = length-set f.weights f.count weight ∙ l.weights;
  boards = length-set f.boards f.count board ∙ l.boards;
  lines = length-set f.lines f.count line ∙ l.lines;
}

pub none_more : (f : Fans) (parts weight board line : ℕ) → MoreFans f f 0 parts weight board line
none_more f parts weight board line = record {
  count = omega arith;
  lined = λ l. l;
  lists = λ ps ws bs ls h. rw (append-nil ps, append-nil ws, append-nil bs, append-nil ls) h;
}

longer : (xs : List ℕ) (i x : ℕ) → (xs ++ replicate i x) ++ replicate 1 x ≡ xs ++ replicate (i + 1) x
longer xs i x = append_assoc xs (replicate i x) (replicate 1 x) ∙ ap (λ l. xs ++ l) (replicate-append-replicate i 1 x)

pub one_more : {f g h : Fans} {i parts weight board line : ℕ} → MoreFans f g i parts weight board line → MoreFans g h 1 parts weight board line
    → MoreFans f h (i + 1) parts weight board line
one_more {f} {g} {h} {i} {parts} {weight} {board} {line} a b = record {
  count = omega (arith, a.count, b.count);
  lined = λ l. b.lined (a.lined l);
  lists = λ ps ws bs ls k.
      rw (← longer ps i parts, ← longer ws i weight, ← longer bs i board, ← longer ls i line)
      (b.lists (ps ++ replicate i parts) (ws ++ replicate i weight) (bs ++ replicate i board) (ls ++ replicate i line) (a.lists ps ws bs ls k));
}
