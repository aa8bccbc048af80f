-- A list of patterns: one more put at its end, others left alone, and cut where its patterns grow too high. The place of a pattern is the number of
-- those before it, so the order of the list is the order of these numbers. Assumes nothing.
use mathlib.Core.Path.{◌≡◌, refl, sym, ap, ◌∙◌}
use mathlib.Core.Bool.{Bool, true, false, true≢false}
use mathlib.Core.Logic.{◌⊎◌, inl, inr}
use mathlib.Core.List.{List}
use Prim.Native.Nat.{ℕ, zero, suc, ◌+◌, ◌-◌, ◌≤◌, ◌<◌}
use native.Mathlib.Omega.{arith}
use native.Mathlib.Nat.{add-zero, add-suc, eq-or-lt_of_le, le_of_suc-le-suc}
use native.Mathlib.Decide.{dec_lt}
use lib.ListN.{get_or}
use Rattle.rules.specs.Below.{held}
use Rattle.rules.proofs.Windows.{held-le}
use Rattle.windows.specs.Groups.{count_at, entry_at, Entry, Listed, Appended, Trimmed}

module _ (C : ℕ → Bool) where
  held-yes : (x : ℕ) → C x ≡ true → held C (suc x) ≡ held C x + 1
  unfolding held
  held-yes x e = rw e

  held-no : (x : ℕ) → C x ≡ false → held C (suc x) ≡ held C x
  unfolding held
  held-no x e = rw e (omega arith)

  held-grows : (x d : ℕ) → held C x ≤ held C (x + d)
  unfolding held
  held-grows x zero = rw add-zero (omega arith)
  held-grows x (suc d) = rw (add-suc x d) (omega (arith, held-grows x d))

  held_up : (x y : ℕ) → x ≤ y → held C x ≤ held C y
  held_up x y l = let e : y ≡ x + (y - x) = omega arith in rw e (held-grows x (y - x))

  -- one of those that are counted has fewer before it than a later one
  pub held-order : (x y : ℕ) → C x ≡ true → x < y → held C x < held C y
  held-order x y e l = omega (arith, held-yes x e, held_up (suc x) y l)

-- the last of c entries
pub entry-last : (t : List ℕ) (at c : ℕ) → 0 < c → entry_at t at (c - 1) ≡ get_or t (at + c) 0
entry-last t at c l = let e : at + 1 + (c - 1) ≡ at + c = omega arith in rw e

module _ (C : ℕ → Bool) where
  module _ {x at : ℕ} {t : List ℕ} (l : Listed C x at t) where
    -- one more of them put at the end
    pub listed_more : {t₀ t' : List ℕ} → C x ≡ true → ((c : ℕ) → at ≤ c → c ≤ at + x → get_or t₀ c 0 ≡ get_or t c 0) → Appended at x t₀ t' → Listed C (suc x) at t'
    listed_more {t₀} {t'} e same a =
        let few = held-le C x in
        let old : count_at t₀ at ≡ held C x = same at (omega arith) (omega arith) ∙ l.size in
        let now : count_at t' at ≡ held C x + 1 = rw old at a.count in
        let here : entry_at t' at (held C x) ≡ x = rw old at a.here in
        let still : (j : ℕ) → j < held C x → entry_at t' at j ≡ entry_at t at j =
        λ j h. a.other (at + 1 + j) (λ q. omega arith) (λ q. omega arith) ∙ same (at + 1 + j) (omega arith) (omega arith) in
        record {
          size = now ∙ sym (held-yes C x e);
          is = λ y h m. place here still y m (eq-or-lt_of_le (le_of_suc-le-suc h));
          entry = λ j h. entered here still j (eq-or-lt_of_le (omega (arith, now)));
        }
      where
        place : entry_at t' at (held C x) ≡ x → ((j : ℕ) → j < held C x → entry_at t' at j ≡ entry_at t at j) → (y : ℕ) → C y ≡ true → (y ≡ x) ⊎ (y < x)
            → entry_at t' at (held C y) ≡ y
        place here still y m (inl q) = rw q here
        place here still y m (inr h) = still (held C y) (held-order C y x m h) ∙ l.is y h m

        entered : entry_at t' at (held C x) ≡ x → ((j : ℕ) → j < held C x → entry_at t' at j ≡ entry_at t at j) → (j : ℕ) → (j ≡ held C x) ⊎ (j < held C x)
            → Entry C (suc x) j (entry_at t' at j)
        entered here still j (inl q) = rw (q, here) (record { member = e; low = omega arith; rank = refl })
        entered here still j (inr h) =
            let n = l.entry j (omega (arith, l.size)) in
            rw (still j h) (record { member = n.member; low = omega (arith, n.low); rank = n.rank })

    -- cut to those below `reach`
    pub listed-trim : {reach : ℕ} {t' : List ℕ} → reach ≤ x → Trimmed at reach t t' → Listed C reach at t'
    listed-trim {reach} {t'} low r =
        let size : count_at t' at ≡ held C reach = omega (arith, up (dec_lt 0 (count_at t' at)), down (dec_lt (count_at t' at) (count_at t at))) in
        let still : (j : ℕ) → entry_at t' at j ≡ entry_at t at j = λ j. r.other (at + 1 + j) (λ q. omega arith) in
        record {
          size = size;
          is = λ y h m. still (held C y) ∙ l.is y (omega arith) m;
          entry = λ j h.
              let n = l.entry j (omega (arith, r.cut.most)) in
              rw (still j) (record { member = n.member; low = lower j n (omega (arith, size)) (dec_lt (entry_at t at j) reach); rank = n.rank });
        }
      where
        up : Dec (0 < count_at t' at) → count_at t' at ≤ held C reach
        up (yes h) =
            let n = l.entry (count_at t' at - 1) (omega (arith, r.cut.most)) in
            let b : entry_at t at (count_at t' at - 1) < reach = rw (entry-last t at (count_at t' at) h) (r.cut.last h) in
            omega (arith, n.rank, held-order C _ reach n.member b)
        up (no h) = omega arith

        down : Dec (count_at t' at < count_at t at) → held C reach ≤ count_at t' at
        down (yes h) = let n = l.entry (count_at t' at) h in omega (arith, n.rank, held_up C reach _ (r.cut.next h))
        down (no h) = omega (arith, l.size, held_up C reach x low)

        lower : (j : ℕ) → Entry C x j (entry_at t at j) → j < held C reach → Dec (entry_at t at j < reach) → entry_at t at j < reach
        lower j n h (yes b) = b
        lower j n h (no b) = absurd (omega (arith, n.rank, held_up C reach (entry_at t at j) (omega arith)))

    -- the same list where its cells are as they were
    pub listed-still : {t' : List ℕ} → ((c : ℕ) → at ≤ c → c ≤ at + x → get_or t' c 0 ≡ get_or t c 0) → Listed C x at t'
    listed-still {t'} same =
        let few = held-le C x in
        let size : count_at t' at ≡ held C x = same at (omega arith) (omega arith) ∙ l.size in
        record {
          size = size;
          is = λ y h m. same (at + 1 + held C y) (omega arith) (omega (arith, held-order C y x m h)) ∙ l.is y h m;
          entry = λ j h. rw (same (at + 1 + j) (omega arith) (omega (arith, size))) (l.entry j (omega (arith, l.size, size)));
        }

  -- one that is none of them
  pub listed-skip : {x at : ℕ} {t : List ℕ} → C x ≡ false → Listed C x at t → Listed C (suc x) at t
  listed-skip {x} {at} {t} e l = record {
    size = l.size ∙ sym (held-no C x e);
    is = λ y h m. go y m (eq-or-lt_of_le (le_of_suc-le-suc h));
    entry = λ j h. let n = l.entry j h in record { member = n.member; low = omega (arith, n.low); rank = n.rank };
  }
    where
      go : (y : ℕ) → C y ≡ true → (y ≡ x) ⊎ (y < x) → entry_at t at (held C y) ≡ y
      go y m (inl q) = absurd (true≢false (sym m ∙ ap C q ∙ e))
      go y m (inr h) = l.is y h m

  pub listed-none : {at : ℕ} {t : List ℕ} → count_at t at ≡ 0 → Listed C 0 at t
  unfolding held
  listed-none e = record { size = e; is = λ y h. absurd (omega arith); entry = λ j h. absurd (omega arith) }
