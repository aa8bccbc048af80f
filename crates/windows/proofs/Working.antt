-- A list of patterns worked, each with its older one: what is read on one side is not written, so each gets the rounded step of what follows it, and a
-- pattern that is worked again gets the same again. Assumes nothing.
use mathlib.Core.Path.{◌≡◌, refl, sym, ◌∙◌}
use mathlib.Core.Bool.{Bool, true, false, cond, ◌&&◌, ◌||◌, true≢false}
use mathlib.Core.Logic.{⊎_elim}
use mathlib.Core.List.{List}
use Prim.Native.Nat.{ℕ, ◌+◌, ◌-◌, ◌*◌, ◌≤◌, ◌<◌}
use native.Mathlib.Omega.{arith}
use native.Mathlib.Nat.{le_trans}
use native.Mathlib.Decide.{ℕ_discrete}
use borrow.Author.Count.{below_more}
use Rattle.rules.specs.State.{S, failure}
use Rattle.rules.specs.Figure.{rounded, mixed}
use Rattle.places.specs.declared.Ends.{Ends}
use Rattle.places.specs.Cells.{one, Both, Place, Put, Steady, cell_at}
use Rattle.places.specs.Map.{half}
use Rattle.places.proofs.Cells.{both_at, kept_trans, room-kept, side-near, apart}
use Rattle.windows.specs.Groups.{list_at, count_at, entry_at}
use Rattle.windows.specs.Row.{step_of, Ready, Laid, Handed, Partly}

module _ {u : ℕ} {must worse : Bool} {p oldest from x : ℕ} {t : List ℕ} (y : Ready u must worse p oldest from x t) where
  pub works-place : Place (from + 2 * x) t × ((up : Bool) → cell_at t up (from + 2 * x) ≤ S)
  works-place = (record { low = omega (arith, side-near y.side, y.most, y.young); room = y.room }, λ up. le_trans (y.works up) y.narrow)

  pub fails-place : must ≡ false → Place (from + (2 * x + 1)) t × ((up : Bool) → cell_at t up (from + (2 * x + 1)) ≤ S)
  fails-place e = (record { low = omega (arith, side-near y.side, y.most, y.young); room = y.room }, λ up. le_trans (y.fails e up) y.narrow)

  -- where the older one may fail, the other may too
  pub may : (must || worse) ≡ false → must ≡ false
  may e = go must e
    where
      go : (b : Bool) → (b || worse) ≡ false → b ≡ false
      go true f = f
      go false f = refl

  pub young-place : Place (half - from + x) t
  young-place = record { low = omega (arith, y.most, y.young); room = y.room }

  pub older-place : {e : Ends} {t' : List ℕ} → Put (half - from + x) e t t' → Place (half - from + (oldest + x)) t'
  older-place w = record { low = omega (arith, y.most, y.young); room = room-kept w.kept y.room }

  -- what follows where the component works, and where it fails
  module _ {a : Ends} (works : Both (λ up. cell_at t up (from + 2 * x)) a) where
    module _ (b : Bool) (ok : b ≡ false → must ≡ false) {e : Ends} (fails : Both (λ up. cond b 0 (cell_at t up (from + (2 * x + 1)))) e) where
      within : (up : Bool) (c : Bool) → b ≡ c → cond c 0 (cell_at t up (from + (2 * x + 1))) ≤ u
      within up true f = omega arith
      within up false f = y.fails (ok f) up

      pub ready-steady : {q : ℕ} → q ≡ failure u p → Steady u p q a e
      ready-steady rest = record {
        survival = y.survival;
        rest = rest;
        left = record { low = rw works.low (y.works false); high = rw works.high (y.works true) };
        right = record { low = rw fails.low (within false b refl); high = rw fails.high (within true b refl) };
      }

      pub stepped : {r : Ends} → Both (λ up. rounded up u (mixed u p (one up a) (one up e))) r → (up : Bool) → one up r ≡ step_of u b p from t up x
      unfolding step_of
      stepped s up = both_at s up ∙ rw (both_at works up, both_at fails up)

  pub laid-alone : {e : Ends} {t' : List ℕ} → (must && worse) ≡ true → ((up : Bool) → one up e ≡ step_of u must p from t up x) → Put (half - from + x) e t t'
      → Laid u must worse p oldest from x t t'
  laid-alone a s w = record {
    young = λ up. w.here up ∙ s up;
    old = λ b. absurd (true≢false (sym a ∙ b));
    other = λ up k l n o. w.other up k l n;
    behind = w.behind;
    kept = w.kept;
  }

  pub laid : {e e' : Ends} {t' t'' : List ℕ} → ((up : Bool) → one up e ≡ step_of u must p from t up x) → ((up : Bool) → one up e' ≡ step_of u (must || worse) p from t up x)
      → Put (half - from + x) e t t' → Put (half - from + (oldest + x)) e' t' t'' → Laid u must worse p oldest from x t t''
  laid s s' w v = record {
    young = λ up. v.other up (half - from + x) young-place.low (λ k. omega (arith, y.young)) ∙ w.here up ∙ s up;
    old = λ a up. v.here up ∙ s' up;
    other = λ up k l n o. v.other up k l o ∙ w.other up k l n;
    behind = λ c l. v.behind c l ∙ w.behind c l;
    kept = kept_trans w.kept v.kept;
  }

module _ {u : ℕ} {must worse : Bool} {p oldest from j : ℕ} {t₀ t : List ℕ} (h : Handed u must worse p oldest from t₀)
    (l : j < count_at t₀ (list_at must worse)) (w : Partly u must worse (list_at must worse) p oldest from j t₀ t) where
  abbrev at : ℕ
  at = list_at must worse

  abbrev x : ℕ
  x = entry_at t₀ at j

  -- the side that is read is as it was
  from-same : (up : Bool) (k : ℕ) → k < half → cell_at t up (from + k) ≡ cell_at t₀ up (from + k)
  from-same up k s =
      let near = side-near (h.each j l).side in
      w.other up (from + k) (omega arith) (λ i m. let r = h.each i (omega arith) in
      let out = apart {from = from} {k = k} {n = half} r.side s (omega arith) in (
        λ e. ⊎_elim (λ g. omega (arith, r.most, r.young)) (λ g. omega (arith, r.most, r.young)) out,
        λ e. ⊎_elim (λ g. omega (arith, r.most, r.young)) (λ g. omega (arith, r.most, r.young)) out,
      ))

  pub entry-same : entry_at t at j ≡ x
  entry-same = w.behind (at + 1 + j) (omega (arith, h.behind))

  pub ready-still : Ready u must worse p oldest from x t
  ready-still =
      let r = h.each j l in
      let small = r.most in
      let young = r.young in
      record {
        narrow = r.narrow;
        survival = r.survival;
        side = r.side;
        most = r.most;
        young = r.young;
        room = room-kept w.kept r.room;
        works = λ up. rw (from-same up (2 * x) (omega arith)) (r.works up);
        fails = λ e up. rw (from-same up (2 * x + 1) (omega arith)) (r.fails e up);
      }

  step_same : (b up : Bool) (i : ℕ) → i < count_at t₀ at → step_of u b p from t up (entry_at t₀ at i) ≡ step_of u b p from t₀ up (entry_at t₀ at i)
  unfolding step_of
  step_same b up i m =
      let r = h.each i m in
      let small = r.most in
      let young = r.young in
      rw (from-same up (2 * entry_at t₀ at i) (omega arith), from-same up (2 * entry_at t₀ at i + 1) (omega arith))

  pub partly_more : {t' : List ℕ} → Laid u must worse p oldest from x t t' → Partly u must worse at p oldest from (j + 1) t₀ t'
  partly_more {t'} d = record {
    young = λ up. below_more _ j (λ i m. young-still up i m (ℕ_discrete (entry_at t₀ at i) x)) (d.young up ∙ step_same must up j l);
    old = λ a up. below_more _ j (λ i m. old-still a up i m (ℕ_discrete (entry_at t₀ at i) x)) (d.old a up ∙ step_same (must || worse) up j l);
    other = λ up k s n. let last = n j (omega arith) in d.other up k s last.0 last.1 ∙ w.other up k s (λ i m. n i (omega arith));
    behind = λ c s. d.behind c s ∙ w.behind c s;
    kept = kept_trans w.kept d.kept;
  }
    where
      young-still : (up : Bool) (i : ℕ) → i < j → Dec (entry_at t₀ at i ≡ x) → cell_at t' up (half - from + entry_at t₀ at i) ≡ step_of u must p from t₀ up (entry_at t₀ at i)
      young-still up i m (yes e) = rw e (d.young up ∙ step_same must up j l)
      young-still up i m (no e) =
          let r = h.each i (omega arith) in
          let s = h.each j l in
          d.other up _ (omega (arith, r.most, r.young)) (λ k. e (omega arith)) (λ k. omega (arith, r.young)) ∙ w.young up i m

      old-still : (must && worse) ≡ false → (up : Bool) (i : ℕ) → i < j → Dec (entry_at t₀ at i ≡ x)
          → cell_at t' up (half - from + (oldest + entry_at t₀ at i)) ≡ step_of u (must || worse) p from t₀ up (entry_at t₀ at i)
      old-still a up i m (yes e) = rw e (d.old a up ∙ step_same (must || worse) up j l)
      old-still a up i m (no e) =
          let r = h.each i (omega arith) in
          let s = h.each j l in
          d.other up _ (omega (arith, r.most, r.young)) (λ k. omega (arith, s.young)) (λ k. e (omega arith)) ∙ w.old a up i m
