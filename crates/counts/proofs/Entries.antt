-- The counts of an accepted rule as a reading gives them, and so as Pascal's table and the working table have them. Assumes nothing.
use mathlib.Core.Path.{◌≡◌, refl, sym, ◌∙◌}
use mathlib.Core.Logic.{◌⊎◌, inl, inr, ⊎_elim}
use mathlib.Core.List.{List}
use Prim.Native.Nat.{ℕ, suc, ◌+◌, ◌-◌, ◌≤◌, ◌<◌}
use native.Mathlib.Decide.{dec_lt}
use native.Mathlib.Omega.{arith}
use lib.ListN.{length}
use borrow.Author.Tests.{lt-ltb, eq-eqb, ne_eqb}
use Rattle.rules.specs.declared.Rule.{Rule}
use Rattle.rules.specs.Count.{count_of}
use Rattle.rules.specs.Memory.{live, lead, reading_of, row5}
use Rattle.rules.specs.Refusal.{cells}
use Rattle.rules.specs.Accepted.{Accepted}
use Rattle.rules.proofs.Accepted.{range2, range4, range5, range6, range7}
use Rattle.rules.proofs.Conditions.{count-by-reading}
use Rattle.rules.proofs.EachKind.{each-kind}
use Rattle.pascal.proofs.Triangle.{count-fit}
use Rattle.bins.specs.From.{from, line4, bins}
use Rattle.counts.specs.Ways.{entry_of, Spread}
use Rattle.bins.specs.Bins.{Sized, Made}
use Rattle.counts.specs.Sums.{Weighed, Added}
use Rattle.counts.specs.Tally.{entry_at, OnTable, Workable, Worked, Layable}
use Rattle.bins.proofs.Cells.{below_or}
use Rattle.counts.proofs.Apart.{line6-is, ring7-is}
use Rattle.bins.proofs.InARow.{ring5-is, ring5-all}
use Rattle.bins.proofs.Filling.{around-is}
use Rattle.counts.proofs.ByNumber.{entry-count}

-- ---- by Pascal's table

-- the kinds that are looked up
abbrev pub OnWays : ℕ → Type 0
OnWays kind = ((kind ≡ 1) ⊎ (kind ≡ 3)) ⊎ ((6 ≤ kind) × (kind ≤ 7))

-- and those that are left
pub on-table : (kind : ℕ) → 1 ≤ kind → kind < 6 → ((kind ≡ 1) ⊎ (kind ≡ 3) → ⊥) → OnTable kind
on-table kind l h =
    each-kind (λ k. k < 6 → ((k ≡ 1) ⊎ (k ≡ 3) → ⊥) → OnTable k)
    (λ h o. absurd (o (inl refl)))
    (λ h o. inl refl)
    (λ h o. absurd (o (inr refl)))
    (λ h o. inr (inl refl))
    (λ h o. inr (inr refl))
    (λ h o. absurd (omega arith))
    (λ h o. absurd (omega arith))
    (λ h o. absurd (omega arith))
    kind l (omega arith) h

module _ {rule : Rule} {n : ℕ} {weights : List ℕ} (ok : Accepted rule n weights) where
  -- kinds 6 and 7
  two : (6 ≤ rule.kind) × (rule.kind ≤ 7) → (rule.kind ≡ 6) ⊎ (rule.kind ≡ 7)
  two l = ⊎_elim (λ (h : rule.kind < 7). inl (omega arith)) (λ h. inr (omega arith)) (below_or rule.kind 7)

  pub spread : OnWays rule.kind → Spread rule n
  spread (inl e) =
      let low : rule.kind ≤ 3 = ⊎_elim (λ (e : rule.kind ≡ 1). omega arith) (λ e. omega arith) e in
      record { size = ok.size_high; some = λ l. absurd (omega arith); small = λ l. absurd (omega arith); ring = λ l o. absurd (omega arith) }
  spread (inr l) = ⊎_elim line ring (two l)
    where
      line : rule.kind ≡ 6 → Spread rule n
      line e =
          let h = range6 ok e in
          record { size = ok.size_high; some = λ l. omega arith; small = λ l. omega arith; ring = λ l o. absurd (o e) }

      ring : rule.kind ≡ 7 → Spread rule n
      ring e =
          let h = range7 ok e in
          record { size = ok.size_high; some = λ l. omega arith; small = λ l. omega arith; ring = λ l o. h.high }

  pub ways-count : (j : ℕ) → OnWays rule.kind → entry_of rule n j ≡ count_of rule n weights j
  unfolding entry_of from reading_of
  ways-count j (inl e) = entry-count rule n weights j e
  ways-count j (inr l) = ⊎_elim line ring (two l)
    where
      line : rule.kind ≡ 6 → entry_of rule n j ≡ count_of rule n weights j
      line e = rw e (sym (count-by-reading _ n weights j (rw e at ok.in-range) ∙ line6-is rule.second n j))

      ring : rule.kind ≡ 7 → entry_of rule n j ≡ count_of rule n weights j
      ring e =
          let h = range7 ok e in
          rw e (sym (count-by-reading _ n weights j (rw e at ok.in-range) ∙ ring7-is rule.second n j (omega arith)))

-- ---- by the working table

module _ {rule : Rule} {n : ℕ} {weights table : List ℕ} (able : Workable rule n weights table) where
  pub weighed : rule.kind ≡ 2 → Weighed rule.first weights table
  weighed e =
      let h = range2 able.accepted e in
      let light = able.accepted.weights_total e in
      record {
        some = h.low;
        small = omega (arith, h.high, light);
        most = omega (arith, able.accepted.weights_length e, able.accepted.size_high);
        light = light;
        long = able.long;
      }

  pub sums-worked : {after : List ℕ} → rule.kind ≡ 2 → Added rule.first weights (length weights) table after → Worked rule n weights table after
  unfolding entry_at from reading_of
  sums-worked e a =
      let none : rule.first - rule.first ≡ 0 = omega arith in
      let all = rw (none, lt-ltb 0 rule.first (weighed e).some, able.accepted.weights_length e) at a.is in
      record {
        is = λ j l. rw e (all j (omega arith) ∙ sym (count-by-reading _ n weights j (rw e at able.accepted.in-range)));
        rest = a.rest;
      }

  pub sized : (rule.kind ≡ 2 → ⊥) → Sized rule.first n table
  sized o = record { some = go able.kind; most = able.accepted.size_high; long = able.long }
    where
      go : OnTable rule.kind → 0 < rule.first
      go (inl e) = absurd (o e)
      go (inr (inl e)) = (range4 able.accepted e).low
      go (inr (inr e)) = (range5 able.accepted e).low

  module _ {after : List ℕ} (a : Made rule.first n (n + 2) table after) (j : ℕ) (l : j ≤ n) where
    laid4 : rule.kind ≡ 4 → entry_at rule n after j ≡ line4 rule.first n j
    unfolding entry_at bins
    laid4 e =
        let b : n + 1 - j ≡ suc (n - j) = omega arith in
        let c : n - j + j ≡ n = omega arith in
        rw e (a.filled.is (n + 1 - j) j _ (omega arith) (omega arith) refl ∙ rw (b, c))

    laid5 : rule.kind ≡ 5 → entry_at rule n after j ≡ from (row5 rule.first) (live (lead 0)) n j
    unfolding entry_at
    laid5 e =
        let h = range5 able.accepted e in
        rw e
        (elim (dec_lt j n) [
          | yes m ↦
              let b : suc (n - 1 - j) + j ≡ n = omega arith in
              rw (ne_eqb j n (λ c. omega arith))
              (around-is (n - 1 - j) j a.filled (omega arith) (omega arith) ∙ sym (rw b at (ring5-is rule.first h.low (n - 1 - j) j)))
          | no g ↦ let b : j ≡ n = omega arith in rw (eq-eqb j n b, b) (sym (ring5-all rule.first h.low n h.high))
        ])

    laid : OnTable rule.kind → (rule.kind ≡ 2 → ⊥) → entry_at rule n after j ≡ count_of rule n weights j
    unfolding from reading_of
    laid (inl e) o = absurd (o e)
    laid (inr (inl e)) o = laid4 e ∙ sym (rw e (count-by-reading _ n weights j (rw e at able.accepted.in-range)))
    laid (inr (inr e)) o = laid5 e ∙ sym (rw e (count-by-reading _ n weights j (rw e at able.accepted.in-range)))

  pub bins-worked : {after : List ℕ} → (rule.kind ≡ 2 → ⊥) → Made rule.first n (n + 2) table after → Worked rule n weights table after
  bins-worked o a = record { is = λ j l. laid a j l able.kind o; rest = a.rest }

pub layable : {rule : Rule} {n : ℕ} {weights table after : List ℕ} → Accepted rule n weights → cells ≤ length table
    → Worked rule n weights table after → Layable rule n after
layable {n = n} ok long w =
    record {
      most = ok.size_high;
      two = λ e. omega (arith, (range2 ok e).high, ok.weights_total e);
      long = omega arith;
      fits = λ j l. rw (w.is j l) (count-fit _ n j ok.size_high);
    }
