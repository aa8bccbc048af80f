-- The patterns sorted, one more a turn: a pattern that lives is put at the end of its own list and the other lists stay, one that does not is in none;
-- and which of the two that follow it live. Then the lists cut. Assumes nothing.
use mathlib.Core.Path.{◌≡◌, refl, sym, ap, ◌∙◌}
use mathlib.Core.Bool.{Bool, true, false, not, ◌&&◌}
use mathlib.Core.List.{List}
use Prim.Native.Nat.{ℕ, zero, suc, ◌+◌, ◌*◌, ◌≤◌, ◌<◌, min}
use native.Mathlib.Omega.{arith}
use native.Mathlib.Decide.{ℕ_discrete}
use native.Mathlib.Numerals.{add-one}
use lib.ListN.{length, get_or, set}
use borrow.Author.Tests.{ne_eqb, eq-eqb}
use Rattle.rules.specs.declared.Pair.{Pair}
use Rattle.rules.specs.Memory.{lacking_in}
use Rattle.rules.specs.Pairs.{pairs_of}
use Rattle.rules.specs.Refusal.{cells}
use Rattle.rules.proofs.Windows.{held-le}
use Rattle.memory.specs.Pattern.{pattern, oldest_of, dies, lives}
use Rattle.memory.proofs.Patterns.{lives-none, lives-worked, lives-failed}
use Rattle.places.specs.Map.{far, marks, free_at, split_at, bound_at, alone_at}
use Rattle.places.proofs.Cells.{kept-none, kept_trans, room-kept}
use Rattle.windows.specs.Asked.{Judged}
use Rattle.windows.specs.Groups.{list_at, worse_of, list_of, group_of, grouped, count_at, Listed, Lists, flag_of, Marked, Listable, Appended, Markable, MarkedTwo, Sortable, Sorting, Placed, Trimmed, Listables, TrimmedAll}
use Rattle.windows.proofs.Lists.{listed-none, listed_more, listed-still, listed-skip, listed-trim}
use Rattle.windows.proofs.Stores.{stored}

-- the lists begin behind the marks, 300 cells apart
pub record Begins (at : ℕ) : Type 0 where
  pub k : ℕ
  pub few : k ≤ 3
  pub is : at ≡ 3000 + 300 * k

pub begins : (must worse : Bool) → Begins (list_at must worse)
begins false false = record { k = 0; few = omega arith; is = refl }
begins false true = record { k = 1; few = omega arith; is = refl }
begins true false = record { k = 2; few = omega arith; is = refl }
begins true true = record { k = 3; few = omega arith; is = refl }

-- cells of one list are none of another's
apart-lists : {at at' : ℕ} → Begins at → Begins at' → (at ≡ at' → ⊥) → (c j : ℕ) → at ≤ c → c ≤ at + 256 → j ≤ 256 → c ≡ at' + j → ⊥
apart-lists a b n c j low high small e = omega (arith, a.is, b.is, a.few, b.few, n)

module _ (ps : List Pair) {x : ℕ} {t : List ℕ} (l : Lists ps x t) (small : x < 256) where
  few-at : (must worse : Bool) → count_at t (list_at must worse) ≤ x
  few-at must worse = omega (arith, (l.list must worse).size, held-le (grouped ps (list_at must worse)) x)

  listable : (must worse : Bool) → cells ≤ length t → Listable (list_at must worse) t
  listable must worse room = let b = begins must worse in record { low = omega (arith, b.is, b.few, few-at must worse); room = room }

  -- lists whose cells are as they were
  pub lists-still : {t' : List ℕ} → ((c : ℕ) → 3000 ≤ c → get_or t' c 0 ≡ get_or t c 0) → Lists ps x t'
  lists-still same = record { list = λ must worse. let b = begins must worse in listed-still _ (l.list must worse) (λ c low high. same c (omega (arith, b.is))) }

  -- a pattern that does not live
  pub lists-skip : lives ps x ≡ false → Lists ps (suc x) t
  unfolding grouped
  lists-skip e = record { list = λ must worse. listed-skip (grouped ps (list_at must worse)) (rw e) (l.list must worse) }

  -- one that does
  pub lists-more : {t' : List ℕ} → lives ps x ≡ true → Appended (group_of ps x) x t t' → Lists ps (suc x) t'
  unfolding group_of grouped
  lists-more {t'} e a = record { list = λ must worse. go (list_at must worse) (begins must worse) (l.list must worse) (ℕ_discrete (group_of ps x) (list_at must worse)) }
    where
      from : Begins (group_of ps x)
      from = begins (dies ps x) (worse_of ps (dies ps x) (oldest_of ps + x))

      go : (at : ℕ) → Begins at → Listed (grouped ps at) x at t → Dec (group_of ps x ≡ at) → Listed (grouped ps at) (suc x) at t'
      go at b li (yes q) = listed_more (grouped ps at) li (rw (e, q, eq-eqb at at refl)) (λ c low high. refl) (rw q at a)
      go at b li (no n) =
          let no' : (at ≡ group_of ps x → ⊥) = λ q. n (sym q) in
          let still = listed-still _ li (λ c low high. a.other c
          (λ q. apart-lists b from no' c 0 low (omega arith) (omega arith) (omega arith))
          (λ q. apart-lists b from no' c (1 + count_at t (group_of ps x)) low (omega arith) (omega (arith, few-at (dies ps x) (worse_of ps (dies ps x) (oldest_of ps + x)))) (omega arith))) in
          listed-skip (grouped ps at) (rw (e, ne_eqb (group_of ps x) at n)) still

module _ (ps : List Pair) (none : lacking_in ps 0 ≡ false) {x : ℕ} {t : List ℕ} (m : Marked ps x t) (small : x < 256) where
  -- what the mark of x says
  pub mark-is : get_or t (marks + x) 0 ≡ flag_of (lives ps x)
  mark-is = go x refl
    where
      go : (y : ℕ) → x ≡ y → get_or t (marks + y) 0 ≡ flag_of (lives ps y)
      go zero e = m.none
      go (suc y) e = m.is (suc y) (omega arith)

  pub marked_more : {t' : List ℕ} → MarkedTwo x (lives ps x) (lives ps x && not (dies ps x)) t t' → Marked ps (suc x) t'
  marked_more {t'} d = record { none = first (ℕ_discrete x 0); is = λ y l. go y l (ℕ_discrete y (2 * x)) (ℕ_discrete y (2 * x + 1)) }
    where
      first : Dec (x ≡ 0) → get_or t' marks 0 ≡ flag_of (lives ps 0)
      first (yes e) = rw e at d.first
      first (no n) = d.other marks (λ q. n (omega arith)) (λ q. omega arith) ∙ m.none

      go : (y : ℕ) → y < 2 * suc x → Dec (y ≡ 2 * x) → Dec (y ≡ 2 * x + 1) → get_or t' (marks + y) 0 ≡ flag_of (lives ps y)
      go y l (yes e) o = rw e (d.first ∙ ap flag_of (sym (lives-worked ps none x (omega arith))))
      go y l (no n) (yes e) = rw e (d.second ∙ ap flag_of (sym (lives-failed ps none x (omega arith))))
      go y l (no n) (no o) = d.other (marks + y) (λ q. n (omega arith)) (λ q. o (omega arith)) ∙ m.is y (omega (arith, n, o))

pub marked-still : (ps : List Pair) {x : ℕ} {t t' : List ℕ} → x ≤ 256 → ((c : ℕ) → c < 3000 → get_or t' c 0 ≡ get_or t c 0) → Marked ps x t → Marked ps x t'
marked-still ps small same m = record { none = same marks (omega arith) ∙ m.none; is = λ y l. same (marks + y) (omega arith) ∙ m.is y l }

-- cells below a list, after one more is put there
append-below : {at x : ℕ} {t t' : List ℕ} → Begins at → Appended at x t t' → (c : ℕ) → c < 3000 → get_or t' c 0 ≡ get_or t c 0
append-below b a c l = a.other c (λ q. omega (arith, b.is)) (λ q. omega (arith, b.is))

flag-zero : (b : Bool) → flag_of b ≡ 0 → b ≡ false
flag-zero true e = absurd (omega arith)
flag-zero false e = refl

flag_one : (b : Bool) → (flag_of b ≡ 0 → ⊥) → b ≡ true
flag_one true n = refl
flag_one false n = absurd (n refl)

not-living : (b : Bool) {c : ℕ} → c ≡ flag_of b → c ≡ 0 → b ≡ false
not-living b e z = flag-zero b (sym e ∙ z)

living : (b : Bool) {c : ℕ} → c ≡ flag_of b → (c ≡ 0 → ⊥) → b ≡ true
living b e n = flag_one b (λ z. n (e ∙ z))

-- before the first
pub begun : {first second oldest : ℕ} {more t : List ℕ} → Sortable first second more oldest t
    → Placed first second more 0 t (set (set (set (set (set t marks 1) free_at 0) split_at 0) bound_at 0) alone_at 0)
begun {first} {second} {oldest} {more} {t} y =
    let ps = pairs_of first second more in
    let a = stored t marks 1 (omega arith) y.room in
    let ra = room-kept a.kept y.room in
    let f = stored (set t marks 1) free_at 0 (omega arith) ra in
    let rf = room-kept f.kept ra in
    let s = stored (set (set t marks 1) free_at 0) split_at 0 (omega arith) rf in
    let rs = room-kept s.kept rf in
    let b = stored (set (set (set t marks 1) free_at 0) split_at 0) bound_at 0 (omega arith) rs in
    let rb = room-kept b.kept rs in
    let o = stored (set (set (set (set t marks 1) free_at 0) split_at 0) bound_at 0) alone_at 0 (omega arith) rb in
    let other : (c : ℕ) → c < 2 * far → get_or (set (set (set (set (set t marks 1) free_at 0) split_at 0) bound_at 0) alone_at 0) c 0 ≡ get_or t c 0 = λ c h.
    o.other c (λ q. omega arith) ∙ b.other c (λ q. omega arith) ∙ s.other c (λ q. omega arith) ∙ f.other c (λ q. omega arith) ∙ a.other c (λ q. omega arith) in
    let one = o.other marks (λ q. omega arith) ∙ b.other marks (λ q. omega arith) ∙ s.other marks (λ q. omega arith) ∙ f.other marks (λ q. omega arith) ∙ a.here in
    let free' = o.other free_at (λ q. omega arith) ∙ b.other free_at (λ q. omega arith) ∙ s.other free_at (λ q. omega arith) ∙ f.here in
    let split' = o.other split_at (λ q. omega arith) ∙ b.other split_at (λ q. omega arith) ∙ s.here in
    let bound' = o.other bound_at (λ q. omega arith) ∙ b.here in
    record {
      lists = record { list = none_yet ps free' split' bound' o.here };
      marked = record { none = one ∙ ap flag_of (sym (lives-none ps y.none)); is = λ x l. absurd (omega arith) };
      places = other;
      kept = kept_trans (kept_trans (kept_trans a.kept f.kept) (kept_trans s.kept b.kept)) o.kept;
    }
  where
    none_yet : {t' : List ℕ} (ps : List Pair) → count_at t' free_at ≡ 0 → count_at t' split_at ≡ 0 → count_at t' bound_at ≡ 0 → count_at t' alone_at ≡ 0
        → (must worse : Bool) → Listed (grouped ps (list_at must worse)) 0 (list_at must worse) t'
    none_yet ps f s b o false false = listed-none _ f
    none_yet ps f s b o false true = listed-none _ s
    none_yet ps f s b o true false = listed-none _ b
    none_yet ps f s b o true true = listed-none _ o

module _ {first second oldest x : ℕ} {more t : List ℕ} (y : Sorting first second more oldest x t) where
  abbrev ps : List Pair
  ps = pairs_of first second more

  pub small : x < 256
  small = omega (arith, y.low, y.by.most)

  pub markable : Markable x t
  markable = record { low = small; room = y.by.room }

  -- behind the marks
  mark-behind : {works fails : Bool} {t' : List ℕ} → MarkedTwo x works fails t t' → (c : ℕ) → 3000 ≤ c → get_or t' c 0 ≡ get_or t c 0
  mark-behind d c l = let s = small in d.other c (λ q. omega arith) (λ q. omega arith)

  mark-below : {works fails : Bool} {t' : List ℕ} → MarkedTwo x works fails t t' → (c : ℕ) → c < 2 * far → get_or t' c 0 ≡ get_or t c 0
  mark-below d c l = d.other c (λ q. omega arith) (λ q. omega arith)

  pub placed-dead : {t' : List ℕ} → get_or t (marks + x) 0 ≡ 0 → MarkedTwo x false false t t' → Placed first second more (x + 1) t t'
  placed-dead {t'} z d =
      let e : lives ps x ≡ false = not-living _ (mark-is ps y.by.none y.marked small) z in
      let d' : MarkedTwo x (lives ps x) (lives ps x && not (dies ps x)) t t' = rw e d in
      rw (add-one x) (record {
        lists = lists-skip ps (lists-still ps y.lists small (mark-behind d)) small e;
        marked = marked_more ps y.by.none y.marked small d';
        places = mark-below d;
        kept = d.kept;
      })

  -- the older one is judged too
  pub judged-older : Judged second more (pattern (oldest + x))
  judged-older = record { windows = y.by.windows; small = omega (arith, y.low, y.by.most) }

  module _ (some : get_or t (marks + x) 0 ≡ 0 → ⊥) {must : Bool} (is : must ≡ dies ps x) {t' : List ℕ} (d : MarkedTwo x true (not must) t t') where
    here : lives ps x ≡ true
    here = living _ (mark-is ps y.by.none y.marked small) some

    still : Lists ps x t'
    still = lists-still ps y.lists small (mark-behind d)

    pub append-ready : Listable (list_of ps must (oldest + x)) t'
    append-ready = listable ps still small must (worse_of ps must (oldest + x)) (room-kept d.kept y.by.room)

    pub placed-living : {t'' : List ℕ} → Appended (list_of ps must (oldest + x)) x t' t'' → Placed first second more (x + 1) t t''
    unfolding group_of
    placed-living {t''} a =
        let d' : MarkedTwo x (lives ps x) (lives ps x && not (dies ps x)) t t' = rw (here, ← is) d in
        let b = begins must (worse_of ps must (oldest + x)) in
        let a' : Appended (group_of ps x) x t' t'' = rw (is, y.by.bit) at a in
        rw (add-one x) (record {
          lists = lists-more ps still small here a';
          marked = marked-still ps (omega (arith, small)) (append-below b a) (marked_more ps y.by.none y.marked small d');
          places = λ c l. append-below b a c (omega arith) ∙ mark-below d c l;
          kept = kept_trans d.kept a.kept;
        })

-- a list cut, and those beside it
module _ {reach oldest : ℕ} {t₀ t₁ t₂ t₃ t₄ : List ℕ} (y : Listables oldest t₀) (small : reach < oldest)
    (f : Trimmed free_at reach t₀ t₁) (s : Trimmed split_at reach t₁ t₂) (b : Trimmed bound_at reach t₂ t₃) (o : Trimmed alone_at reach t₃ t₄) where
  pub trimmed-all : TrimmedAll reach oldest t₀ t₄
  trimmed-all = record {
    lists = λ ps prev l low high. let e : min oldest reach ≡ reach = omega arith in rw e (record { list = cut ps prev l (omega arith) (omega (arith, y.most)) });
    places = λ c l. o.other c (λ q. omega arith) ∙ b.other c (λ q. omega arith) ∙ s.other c (λ q. omega arith) ∙ f.other c (λ q. omega arith);
    kept = kept_trans (kept_trans f.kept s.kept) (kept_trans b.kept o.kept);
  }
    where
      cut : (ps : List Pair) (prev : ℕ) → Lists ps prev t₀ → reach ≤ prev → prev ≤ 256
          → (must worse : Bool) → Listed (grouped ps (list_at must worse)) reach (list_at must worse) t₄
      cut ps prev l low high false false =
          listed-still _ (listed-trim _ (l.list false false) low f)
          (λ c h k. o.other c (λ q. omega arith) ∙ b.other c (λ q. omega arith) ∙ s.other c (λ q. omega arith))
      cut ps prev l low high false true =
          listed-still _ (listed-trim _ (listed-still _ (l.list false true) (λ c h k. f.other c (λ q. omega arith))) low s)
          (λ c h k. o.other c (λ q. omega arith) ∙ b.other c (λ q. omega arith))
      cut ps prev l low high true false =
          listed-still _ (listed-trim _ (listed-still _ (l.list true false) (λ c h k. s.other c (λ q. omega arith) ∙ f.other c (λ q. omega arith))) low b)
          (λ c h k. o.other c (λ q. omega arith))
      cut ps prev l low high true true =
          listed-trim _ (listed-still _ (l.list true true) (λ c h k. b.other c (λ q. omega arith) ∙ s.other c (λ q. omega arith) ∙ f.other c (λ q. omega arith))) low o

-- room in each of the lists, as the others are cut
module _ {oldest : ℕ} {t₀ : List ℕ} (y : Listables oldest t₀) where
  pub room-first : Listable free_at t₀
  room-first = record { low = omega (arith, y.list false false); room = y.room }

  module _ {reach : ℕ} {t₁ : List ℕ} (f : Trimmed free_at reach t₀ t₁) where
    pub room-second : Listable split_at t₁
    room-second = record { low = rw (f.other split_at (λ q. omega arith)) (omega (arith, y.list false true)); room = room-kept f.kept y.room }

    module _ {t₂ : List ℕ} (s : Trimmed split_at reach t₁ t₂) where
      pub room-third : Listable bound_at t₂
      room-third = record {
        low = rw (s.other bound_at (λ q. omega arith), f.other bound_at (λ q. omega arith)) (omega (arith, y.list true false));
        room = room-kept s.kept (room-kept f.kept y.room);
      }

      pub room-fourth : {t₃ : List ℕ} → Trimmed bound_at reach t₂ t₃ → Listable alone_at t₃
      room-fourth b = record {
        low = rw (b.other alone_at (λ q. omega arith), s.other alone_at (λ q. omega arith), f.other alone_at (λ q. omega arith)) (omega (arith, y.list true true));
        room = room-kept b.kept (room-kept s.kept (room-kept f.kept y.room));
      }

pub trimmed-none : {reach oldest : ℕ} {t : List ℕ} → oldest ≤ reach → TrimmedAll reach oldest t t
trimmed-none {reach} {oldest} small = record {
  lists = λ ps prev l low high. let e : min oldest reach ≡ prev = omega arith in rw e l;
  places = λ c l. refl;
  kept = kept-none;
}
