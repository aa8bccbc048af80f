-- `refusals::pairs::more_out` meets its contract: the chunks of two are the pairs in order, and one that is bad is one that is not good. Assumes nothing.
use mathlib.Core.Path.{◌≡◌, refl, ap, ◌∙◌}
use mathlib.Core.Bool.{Bool, true, false, not, ◌&&◌, ◌||◌}
use mathlib.Core.List.{List, [], ◌∷◌, ◌++◌}
use Prim.Native.Nat.{ℕ, ◌<◌}
use native.Mathlib.Omega.{arith}
use lib.ListN.{length, get_or}
use denote.Ref.{Bor}
use borrow.Author.Rules.{rules}
use Rattle.std.specs.Slice.Iter.{chunks_exact_rest, chunks_exact_size, chunks_exact_steps}
use Rattle.std.specs.Iterator.{AlwaysYields}
use Rattle.std.specs.List.{list_any}
use Rattle.std.proofs.lemmas.Iterator.Search.{any_from_yields_List}
use Rattle.std.proofs.Common.{Option, None, Some}
use Rattle.rules.specs.declared.Pair.{Pair}
use Rattle.rules.specs.Pairs.{pair_of, pairs_in, all_of, in_range8, good_pair}
use Rattle.refusals.proofs.Twos.{short, front}
use Rattle.refusals.proofs.pairs.more_out.Goals as goal

-- the pair in a chunk of two
abbrev pair_at : Bor (List ℕ) → Pair
pair_at x = pair_of (get_or x.now 0 0) (get_or x.now 1 0)

-- an iterator that gives two numbers at a time, while it has two
module _ {S : Type 0} (steps : S → Option (Bor (List ℕ)) → S → Type 0) (left : S → List ℕ) (size : S → ℕ) (stop : (s t : S) → steps s None t → length (left s) < size s)
    (go : (s : S) (x : Bor (List ℕ)) (t : S) → steps s (Some x) t → (size t ≡ size s) × (left s ≡ x.now ++ left t) × (length x.now ≡ size s)) where
  turn : (s : S) (x : Bor (List ℕ)) (t : S) → size s ≡ 2 → steps s (Some x) t → pairs_in (left s) ≡ pair_at x ∷ pairs_in (left t)
  turn s x t two k = ap pairs_in (go s x t k).1 ∙ front x.now (left t) ((go s x t k).2 ∙ two)

  pairs-left : (ps : List Pair) (s : S) → size s ≡ 2 → pairs_in (left s) ≡ ps → AlwaysYields steps pair_at s ps
  pairs-left [] s two e = λ x t k. let h = turn s x t two k in cc
  pairs-left (p ∷ ps) s two e = (
    λ t k. let h = short (left s) (omega (arith, stop s t k)) in cc,
    λ x t k. let h = turn s x t two k in (cc, pairs-left ps t ((go s x t k).0 ∙ two) cc),
  )

none-bad : (n : ℕ) (ps : List Pair) → list_any (λ p. not (good_pair n p)) ps ≡ not (in_range8 n ps)
unfolding in_range8 all_of
none-bad n [] = refl
none-bad n (p ∷ ps) = go (good_pair n p) _ _ (none-bad n ps)
  where
    go : (g a b : Bool) → a ≡ not b → not g || a ≡ not (g && b)
    go true a b h = h
    go false a b h = refl

pub returns : goal.returns
returns c =
    any_from_yields_List {steps = chunks_exact_steps} {v = pair_at} {s = c.chunks_exact.result} (λ p. not (good_pair c.args.n p)) c.any.new.self _ _ c.any.ensures.ran
    (record {
      runs = pairs-left chunks_exact_steps chunks_exact_rest chunks_exact_size (λ s t k. k.1.0) (λ s x t k. (k.0, k.1.0, k.1.1)) _ c.chunks_exact.result
          c.chunks_exact.ensures.size (ap pairs_in c.chunks_exact.ensures.rest);
    })
    (λ x b q k. search rules)
    ∙ none-bad c.args.n (pairs_in c.args.more.now)
