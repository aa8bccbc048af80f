-- A component more: what follows a pattern that lives stands on the side that is read, so the rounded step of what stands there is the definition's
-- own; each pattern that lives is in one of the lists, and what is worked for one list is not touched for another. Assumes nothing.
use mathlib.Core.Path.{◌≡◌, refl, sym, ap, subst, ◌∙◌}
use mathlib.Core.Bool.{Bool, true, false, cond, ◌&&◌, ◌||◌, true≢false, false≢true}
use mathlib.Core.Logic.{◌⊎◌, inl, inr, ⊎_elim}
use mathlib.Core.List.{List}
use Prim.Native.Nat.{ℕ, suc, ◌+◌, ◌-◌, ◌*◌, ◌%◌, ◌^◌, ◌≤◌, ◌<◌}
use native.Mathlib.Omega.{arith}
use native.Mathlib.Nat.{mod-lt, mod-eq_of_lt, add-mod_left, mod-le, add-zero}
use native.Mathlib.Decide.{dec_lt}
use lib.Dec.{eqb}
use lib.ListN.{length, get_or}
use lib.Pow.{pow_pos}
use borrow.Author.Tests.{eqb-true, eq-eqb}
use Rattle.rules.specs.declared.Pair.{Pair}
use Rattle.rules.specs.Below.{held}
use Rattle.rules.specs.State.{number_of}
use Rattle.rules.specs.Memory.{Memory, live, dead, moved, Machine, machine_of, lacking_in, longest}
use Rattle.rules.proofs.Dead.{row-value}
use Rattle.rules.proofs.Tests.{both}
use Rattle.rules.proofs.Windows.{held-le}
use Rattle.memory.specs.Pattern.{oldest_of, dies, lives, patterned}
use Rattle.memory.proofs.Patterns.{lives-here, lives-worked, lives-failed, lives-low, dies-older}
use Rattle.places.specs.Cells.{cell_at, value_of}
use Rattle.places.specs.Map.{far, half}
use Rattle.places.proofs.Cells.{kept_trans, workable-kept, side-near, other-side, apart}
use Rattle.places.proofs.Values.{valued-le, valued-suc}
use Rattle.windows.specs.declared.Level.{Level}
use Rattle.windows.specs.Groups.{list_at, worse_of, list_of, group_of, grouped, count_at, entry_at, flag_of, Listed, Listables, TrimmedAll}
use Rattle.windows.specs.Row.{step_of, Ready, Handed, Worked, pattern_value, reach_of, Levelled, Midway, Swept}
use Rattle.windows.proofs.Lists.{held-order, listed-still}
use Rattle.windows.proofs.Sorting.{begins}

-- what a list says of its patterns: of a pattern itself, of its older one, and of that one where it is dead
record Flagged (d o a must worse : Bool) : Type 0 where
  young : d ≡ must
  old : o ≡ (must || worse)
  gone : (must && worse) ≡ true → a ≡ true

-- no two lists begin at one place
list-is : (must worse : Bool) → list_at must worse ≡ 3000 + 600 * flag_of must + 300 * flag_of worse
list-is false false = refl
list-is false true = refl
list-is true false = refl
list-is true true = refl

flag_same : (a b : Bool) → flag_of a ≡ flag_of b → a ≡ b
flag_same false false e = refl
flag_same false true e = absurd (omega arith)
flag_same true false e = absurd (omega arith)
flag_same true true e = refl

flag_small : (a : Bool) → flag_of a ≤ 1
flag_small false = omega arith
flag_small true = omega arith

same-list : (must x y : Bool) → list_at must x ≡ list_at must y → x ≡ y
same-list must x y e = flag_same x y (omega (arith, list-is must x, list-is must y))

no-list : (x y : Bool) → list_at true x ≡ list_at false y → ⊥
no-list x y e = omega (arith, list-is true x, list-is false y, flag_small y)

by-list : (d o a must worse : Bool) → list_at d (cond d a o) ≡ list_at must worse → (d ≡ true → o ≡ true) → Flagged d o a must worse
by-list true o a true worse e h = record { young = refl; old = h refl; gone = λ g. same-list true a worse e ∙ g }
by-list true o a false worse e h = absurd (no-list a worse e)
by-list false o a true worse e h = absurd (no-list worse o (sym e))
by-list false o a false worse e h = record { young = refl; old = same-list false o worse e; gone = λ g. absurd (false≢true g) }

grouped-lives : (ps : List Pair) (at x : ℕ) → grouped ps at x ≡ true → (lives ps x ≡ true) × (group_of ps x ≡ at)
unfolding grouped
grouped-lives ps at x e = let b = both (lives ps x) (eqb (group_of ps x) at) e in (b.0, eqb-true _ _ b.1)

-- a pattern and its older one
young-is : (oldest x : ℕ) → x < oldest → x % oldest ≡ x
young-is oldest x l = mod-eq_of_lt l

older-is : (oldest x : ℕ) → x < oldest → (oldest + x) % oldest ≡ x
older-is oldest x l = add-mod_left oldest x ∙ mod-eq_of_lt l

-- one of the two
either : (oldest m : ℕ) → 0 < oldest → m < 2 * oldest → (m ≡ m % oldest) ⊎ (m ≡ oldest + m % oldest)
either oldest m pos l = go (dec_lt m oldest)
  where
    go : Dec (m < oldest) → (m ≡ m % oldest) ⊎ (m ≡ oldest + m % oldest)
    go (yes h) = inl (sym (young-is oldest m h))
    go (no h) =
        let e : m ≡ oldest + (m - oldest) = omega arith in
        let r : m % oldest ≡ m - oldest = ap (λ y. y % oldest) e ∙ older-is oldest (m - oldest) (omega arith) in
        inr (omega arith)

-- what follows a pattern below one reach is below the reach before
near : (oldest n i x c : ℕ) → 0 < oldest → i < n → c < 2 → x < reach_of oldest n (suc i) → (2 * x + c) % oldest < reach_of oldest n i
near oldest n i x c pos more small l =
    let e : n - i ≡ suc (n - suc i) = omega arith in
    let p : 2 ^ (n - i) ≡ 2 ^ suc (n - suc i) = ap (λ y. 2 ^ y) e in
    omega (arith, mod-lt (2 * x + c) pos, mod-le (2 * x + c) oldest, p)

module _ (ps : List Pair) (oldest : ℕ) (bit : oldest ≡ oldest_of ps) where
  some : 0 < oldest
  some = rw bit (pow_pos (longest ps - 2))

  older-dies : (x : ℕ) → x < oldest → dies ps x ≡ true → dies ps (oldest + x) ≡ true
  older-dies x l = rw bit (dies-older ps (longest ps - 2) x (rw bit at l))

  flags : (must worse : Bool) (x : ℕ) → x < oldest → grouped ps (list_at must worse) x ≡ true
      → Flagged (dies ps x) (dies ps (oldest + x)) (lacking_in ps (oldest + x)) must worse
  unfolding group_of
  flags must worse x l e =
      let q : list_of ps (dies ps x) (oldest_of ps + x) ≡ list_at must worse = (grouped-lives ps (list_at must worse) x e).1 in
      by-list (dies ps x) (dies ps (oldest + x)) (lacking_in ps (oldest + x)) must worse (rw (← bit) at q) (older-dies x l)

  module _ (none : lacking_in ps 0 ≡ false) (most : oldest ≤ 256) where
    lives-cut : (m : ℕ) → m < 1024 → lives ps m ≡ true → lives ps (m % oldest) ≡ true
    lives-cut m l e = rw bit (lives-low ps none (longest ps - 2) m l e)

    worked-lives : (x : ℕ) → x < oldest → lives ps x ≡ true → lives ps (2 * x) ≡ true
    worked-lives x l e = lives-worked ps none x (omega arith) ∙ e

    failed-lives : (x : ℕ) → x < oldest → lives ps x ≡ true → dies ps x ≡ false → lives ps (2 * x + 1) ≡ true
    failed-lives x l e d = lives-failed ps none x (omega arith) ∙ rw (e, d)

-- the patterns of a list, with one component more, on the other side
pub record Made (u : ℕ) (ps : List Pair) (oldest : ℕ) (survival : List ℕ) (i from at : ℕ) (t : List ℕ) : Type 0 where
  pub is : (up : Bool) (m : ℕ) → m < 2 * oldest → grouped ps at (m % oldest) ≡ true → lives ps m ≡ true → m % oldest < reach_of oldest (length survival) (suc i)
      → cell_at t up (half - from + m) ≡ pattern_value u ps survival (suc i) up m

module _ {u : ℕ} {ps : List Pair} {oldest : ℕ} {survival : List ℕ} {i from p : ℕ} {t : List ℕ} (y : Midway u ps oldest survival i from p t) where
  abbrev n : ℕ
  n = length survival

  abbrev K : Machine (Memory ℕ)
  K = machine_of (patterned ps)

  pos : 0 < oldest
  pos = some ps oldest y.bit

  -- what follows stands there
  module _ (x : ℕ) (l : x < reach_of oldest n (suc i)) (e : lives ps x ≡ true) where
    low : x < oldest
    low = omega arith

    works-is : (up : Bool) → cell_at t up (from + 2 * x) ≡ pattern_value u ps survival i up (2 * x)
    works-is up =
        let h = near oldest n i x 0 pos y.more (omega arith) l in
        y.row.is up (2 * x) (omega (arith, low)) (worked-lives ps oldest y.bit y.none y.most x low e) (simp add-zero at h)

    fails-is : dies ps x ≡ false → (up : Bool) → cell_at t up (from + (2 * x + 1)) ≡ pattern_value u ps survival i up (2 * x + 1)
    fails-is d up =
        y.row.is up (2 * x + 1) (omega (arith, low)) (failed-lives ps oldest y.bit y.none y.most x low e d)
        (near oldest n i x 1 pos y.more (omega arith) l)

    -- the step of x or of its older one
    step_is : (m : ℕ) → m % oldest ≡ x → (dies ps m ≡ false → dies ps x ≡ false) → (up : Bool) → step_of u (dies ps m) p from t up x ≡ pattern_value u ps survival (suc i) up m
    unfolding step_of moved
    step_is m r ok up =
        rw (y.read, works-is up, after (dies ps m) refl)
        (sym (simp (r) at (rw (← y.bit) at (valued-suc u K survival i (live m) up))))
      where
        after : (b : Bool) → dies ps m ≡ b → cond b 0 (cell_at t up (from + (2 * x + 1))) ≡ value_of u K survival (cond b dead (live (2 * x + 1))) up i
        after true d = sym (row-value (patterned ps) up u (number_of survival) y.list.whole i)
        after false d = fails-is (ok d) up

  -- where the older one may fail, so may the other
  spare : (x : ℕ) → x < oldest → dies ps (oldest + x) ≡ false → dies ps x ≡ false
  spare x l e = go (dies ps x) refl
    where
      go : (b : Bool) → dies ps x ≡ b → b ≡ false
      go true d = absurd (true≢false (sym (older-dies ps oldest y.bit x l d) ∙ e))
      go false d = refl

  -- what a list hands over
  module _ (must worse : Bool) where
    abbrev at : ℕ
    at = list_at must worse

    abbrev li : Listed (grouped ps at) (reach_of oldest n (suc i)) at t
    li = y.lists.list must worse

    count-few : count_at t at ≤ 256
    count-few = omega (arith, li.size, held-le (grouped ps at) (reach_of oldest n (suc i)), y.most)

    ready : (x : ℕ) → grouped ps at x ≡ true → x < reach_of oldest n (suc i) → Ready u must worse p oldest from x t
    ready x m l =
        let e = (grouped-lives ps at x m).0 in
        let f = flags ps oldest y.bit must worse x (low x l e) m in
        record {
          narrow = y.list.narrow;
          survival = rw y.read (y.list.units i);
          side = y.side;
          most = y.most;
          young = low x l e;
          room = y.list.room;
          works = λ up. rw (works-is x l e up) (valued-le y.list.whole K survival y.list.units i (live (2 * x)) up);
          fails = λ d up. rw (fails-is x l e (f.young ∙ d) up) (valued-le y.list.whole K survival y.list.units i (live (2 * x + 1)) up);
        }

    pub handed : Handed u must worse p oldest from t
    handed =
        let b = begins must worse in
        record {
          behind = omega (arith, b.is);
          low = omega (arith, b.is, b.few, count-few);
          room = y.list.room;
          each = λ j l. let v = li.entry j l in ready (entry_at t at j) v.member v.low;
        }

    module _ {t' : List ℕ} (w : Worked u must worse p oldest from t t') where
      entry-low : (j : ℕ) → j < count_at t at → entry_at t at j < oldest
      entry-low j l = omega (arith, (li.entry j l).low)

      -- the side that is read, and the lists, are as they were
      pub midway-still : Midway u ps oldest survival i from p t'
      midway-still = record {
        bit = y.bit;
        none = y.none;
        most = y.most;
        list = workable-kept w.kept y.list;
        more = y.more;
        side = y.side;
        read = y.read;
        lists = record { list = λ m k. let b = begins m k in listed-still _ (y.lists.list m k) (λ c l r. w.behind c (omega (arith, b.is))) };
        row = record { is = λ up m l e r. still up m l ∙ y.row.is up m l e r };
      }
        where
          still : (up : Bool) (m : ℕ) → m < 2 * oldest → cell_at t' up (from + m) ≡ cell_at t up (from + m)
          still up m l =
              let side = side-near y.side in
              let few = y.most in
              w.other up (from + m) (omega arith) (λ j s. let z = entry-low j s in
              let out = apart {from = from} {k = m} {n = half} y.side (omega arith) (omega arith) in (
                λ e. ⊎_elim (λ g. omega arith) (λ g. omega arith) out,
                λ e. ⊎_elim (λ g. omega arith) (λ g. omega arith) out,
              ))

      -- the patterns of the list have their values
      pub made : Made u ps oldest survival i from at t'
      made = record { is = λ up m l e v r. one up m e v r (either oldest m pos l) }
        where
          -- by the list it is in
          young : (x : ℕ) → grouped ps at x ≡ true → x < reach_of oldest n (suc i) → (up : Bool) → cell_at t' up (half - from + x) ≡ pattern_value u ps survival (suc i) up x
          young x e r up =
              let alive = (grouped-lives ps at x e).0 in
              let lo = low x r alive in
              let f = flags ps oldest y.bit must worse x lo e in
              let j : held (grouped ps at) x < count_at t at = omega (arith, li.size, held-order (grouped ps at) x _ e r) in
              let a = rw (li.is x r e) at (w.young up (held (grouped ps at) x) j) in
              a ∙ (rw f.young at (step_is x r alive x (young-is oldest x lo) (λ d. d) up))

          old : (x : ℕ) → grouped ps at x ≡ true → x < reach_of oldest n (suc i) → lives ps (oldest + x) ≡ true → (up : Bool)
              → cell_at t' up (half - from + (oldest + x)) ≡ pattern_value u ps survival (suc i) up (oldest + x)
          old x e r v up =
              let alive = (grouped-lives ps at x e).0 in
              let lo = low x r alive in
              let f = flags ps oldest y.bit must worse x lo e in
              let j : held (grouped ps at) x < count_at t at = omega (arith, li.size, held-order (grouped ps at) x _ e r) in
              let here = lives-here ps y.none (oldest + x) (omega (arith, y.most)) v in
              let b = rw (li.is x r e) at (w.old (here-not f here) up (held (grouped ps at) x) j) in
              b ∙ (rw f.old at (step_is x r alive (oldest + x) (older-is oldest x lo) (spare x lo) up))
            where
              here-not : {d o a : Bool} → Flagged d o a must worse → a ≡ false → (must && worse) ≡ false
              here-not f h = go (must && worse) refl
                where
                  go : (b : Bool) → (must && worse) ≡ b → b ≡ false
                  go true q = absurd (true≢false (sym (f.gone q) ∙ h))
                  go false q = refl

          one : (up : Bool) (m : ℕ) → grouped ps at (m % oldest) ≡ true → lives ps m ≡ true → m % oldest < reach_of oldest n (suc i)
              → (m ≡ m % oldest) ⊎ (m ≡ oldest + m % oldest) → cell_at t' up (half - from + m) ≡ pattern_value u ps survival (suc i) up m
          one up m e v r (inl s) = subst (λ z. cell_at t' up (half - from + z) ≡ pattern_value u ps survival (suc i) up z) (sym s) (young (m % oldest) e r up)
          one up m e v r (inr s) =
              subst (λ z. cell_at t' up (half - from + z) ≡ pattern_value u ps survival (suc i) up z) (sym s) (old (m % oldest) e r (ap (lives ps) (sym s) ∙ v) up)

      -- and those of another list keep theirs
      pub made-still : {at' : ℕ} → (at' ≡ at → ⊥) → Made u ps oldest survival i from at' t → Made u ps oldest survival i from at' t'
      made-still {at'} n' h = record { is = λ up m l e v r. w.other up (half - from + m) (omega (arith, y.most)) (λ j s. (λ q. young j s m e q, λ q. old j s m e q)) ∙ h.is up m l e v r }
        where
          clash : (x : ℕ) → grouped ps at' x ≡ true → grouped ps at x ≡ true → ⊥
          clash x e f = n' (sym (grouped-lives ps at' x e).1 ∙ (grouped-lives ps at x f).1)

          young : (j : ℕ) → j < count_at t at → (m : ℕ) → grouped ps at' (m % oldest) ≡ true → half - from + m ≡ half - from + entry_at t at j → ⊥
          young j s m e q =
              let x : m ≡ entry_at t at j = omega arith in
              let r : m % oldest ≡ entry_at t at j = ap (λ z. z % oldest) x ∙ young-is oldest _ (entry-low j s) in
              clash (entry_at t at j) (rw r at e) (li.entry j s).member

          old : (j : ℕ) → j < count_at t at → (m : ℕ) → grouped ps at' (m % oldest) ≡ true → half - from + m ≡ half - from + (oldest + entry_at t at j) → ⊥
          old j s m e q =
              let x : m ≡ oldest + entry_at t at j = omega arith in
              let r : m % oldest ≡ entry_at t at j = ap (λ z. z % oldest) x ∙ older-is oldest _ (entry-low j s) in
              clash (entry_at t at j) (rw r at e) (li.entry j s).member

  -- with all lists worked, all that live have their values
  pub raised : {t' : List ℕ} → Midway u ps oldest survival i from p t' → ((must worse : Bool) → Made u ps oldest survival i from (list_at must worse) t')
      → Levelled u ps oldest survival (record { left = suc i; from = half - from }) t'
  unfolding group_of grouped
  raised {t'} z all = record {
    bit = y.bit;
    none = y.none;
    most = y.most;
    list = z.list;
    side = other-side y.side;
    lists = z.lists;
    row = record {
      is = λ up m l v r.
          let e = lives-cut ps oldest y.bit y.none y.most m (omega (arith, y.most)) v in
          let x = m % oldest in
          let list : grouped ps (list_at (dies ps x) (worse_of ps (dies ps x) (oldest_of ps + x))) x ≡ true = rw e (eq-eqb (group_of ps x) (group_of ps x) refl) in
          (all (dies ps x) (worse_of ps (dies ps x) (oldest_of ps + x))).is up m l list v r;
    };
  }

-- the lists cut to what can still be reached
module _ {u : ℕ} {ps : List Pair} {oldest : ℕ} {survival : List ℕ} {s : Level} {t : List ℕ} (y : Levelled u ps oldest survival s t) (more : s.left < length survival) where
  pub listables : Listables oldest t
  listables = record {
    most = y.most;
    list = λ must worse. let li = y.lists.list must worse in omega (arith, li.size, held-le (grouped ps (list_at must worse)) (reach_of oldest (length survival) s.left), y.most);
    room = y.list.room;
  }

  pub midway : {reach p : ℕ} {t' : List ℕ} → reach ≡ 2 ^ (length survival - suc s.left) → TrimmedAll reach oldest t t' → p ≡ get_or survival s.left 0
      → Midway u ps oldest survival s.left s.from p t'
  midway {reach} {p} {t'} e r read =
      let n = length survival in
      let k : n - s.left ≡ suc (n - suc s.left) = omega arith in
      let w : 2 ^ (n - s.left) ≡ 2 ^ suc (n - suc s.left) = ap (λ z. 2 ^ z) k in
      record {
        bit = y.bit;
        none = y.none;
        most = y.most;
        list = workable-kept r.kept y.list;
        more = more;
        side = y.side;
        read = read;
        lists = rw e at (r.lists ps (reach_of oldest n s.left) y.lists (omega (arith, e, w)) (omega arith));
        row = record { is = λ up m l v h. cell up m l ∙ y.row.is up m l v h };
      }
    where
      cell : (up : Bool) (m : ℕ) → m < 2 * oldest → cell_at t' up (s.from + m) ≡ cell_at t up (s.from + m)
      cell false m l = r.places (s.from + m) (omega (arith, side-near y.side, y.most))
      cell true m l = r.places (far + (s.from + m)) (omega (arith, side-near y.side, y.most))

-- the lists worked one after the other
module _ {u : ℕ} {ps : List Pair} {oldest : ℕ} {survival : List ℕ} {i from p : ℕ} {t : List ℕ} (y : Midway u ps oldest survival i from p t) {t₁ : List ℕ}
    (f : Worked u false false p oldest from t t₁) where
  abbrev y₁ : Midway u ps oldest survival i from p t₁
  y₁ = midway-still y _ _ f

  pub handed-second : Handed u false true p oldest from t₁
  handed-second = handed y₁ _ _

  module _ {t₂ : List ℕ} (s : Worked u false true p oldest from t₁ t₂) where
    abbrev y₂ : Midway u ps oldest survival i from p t₂
    y₂ = midway-still y₁ _ _ s

    pub handed-third : Handed u true false p oldest from t₂
    handed-third = handed y₂ _ _

    module _ {t₃ : List ℕ} (b : Worked u true false p oldest from t₂ t₃) where
      abbrev y₃ : Midway u ps oldest survival i from p t₃
      y₃ = midway-still y₂ _ _ b

      pub handed-fourth : Handed u true true p oldest from t₃
      handed-fourth = handed y₃ _ _

      pub risen : {t₄ : List ℕ} → Worked u true true p oldest from t₃ t₄ → Levelled u ps oldest survival (record { left = suc i; from = half - from }) t₄
      risen {t₄} o = raised y (midway-still y₃ _ _ o) all
        where
          all : (must worse : Bool) → Made u ps oldest survival i from (list_at must worse) t₄
          all false false =
              made-still y₃ _ _ o (λ e. omega arith) (made-still y₂ _ _ b (λ e. omega arith)
              (made-still y₁ _ _ s (λ e. omega arith) (made y _ _ f)))
          all false true = made-still y₃ _ _ o (λ e. omega arith) (made-still y₂ _ _ b (λ e. omega arith) (made y₁ _ _ s))
          all true false = made-still y₃ _ _ o (λ e. omega arith) (made y₂ _ _ b)
          all true true = made y₃ _ _ o

-- and so whatever pairs and list they are of
pub all-swept : {u oldest from p : ℕ} {t t₁ t₂ t₃ t₄ : List ℕ} → Worked u false false p oldest from t t₁ → Worked u false true p oldest from t₁ t₂
    → Worked u true false p oldest from t₂ t₃ → Worked u true true p oldest from t₃ t₄ → Swept u oldest from p t t₄
all-swept f s b o = record {
  level = λ ps survival i y. risen y f s b o;
  kept = kept_trans (kept_trans f.kept s.kept) (kept_trans b.kept o.kept);
}
