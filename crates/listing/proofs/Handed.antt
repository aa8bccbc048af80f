-- What a listing hands on: the arrays' fronts are the typed deck, the buffer's front is what is told, and nothing is told exactly where there is no fault. Assumes nothing.
use mathlib.Core.Path.{◌≡◌, refl, ap, ◌∙◌}
use mathlib.Core.List.{List, [], ◌∷◌}
use Prim.Native.Nat.{ℕ, ◌*◌}
use native.Mathlib.Omega.{arith}
use lib.ListN.{length, take, length-take}
use Rattle.rules.specs.File.{per_system}
use Rattle.rules.specs.Writing.{Typed, typed_of}
use Rattle.grammar.specs.Text.{Listed, Fault, faults_of, typed_by, typed_text}
use Rattle.faults.specs.Told.{most_told}
use Rattle.listing.specs.declared.Listing.{Listing}
use Rattle.typed_lists.specs.declared.told.Told.{Told}
use Rattle.typed_lists.specs.Lists.{TypedNumbers}
use Rattle.typed_lists.specs.Told.{Telling}
use Rattle.listing.specs.Holds.{Holds, Sane, HoldsText}

-- the lists that the writer is lent
abbrev pub handed : Listing → (numbers : List ℕ) → Typed
handed l numbers =
    typed_of l.version (take l.fans.count l.fans.survival) (take l.fans.count l.fans.weights) (take l.fans.count l.fans.boards)
    (take l.boards l.switchboards) (take (l.systems.count * per_system) numbers)

pub held-typed : {l : Listing} {s : Listed} {out : List ℕ} → Holds l s out → (numbers : List ℕ) → TypedNumbers l.fans.count l.systems numbers → handed l numbers ≡ typed_by s
held-typed {l} {s} h numbers n =
    let five = (n s.systems h.systems).stands in
    rw (h.fans.parts.stands, h.fans.weighed.stands, h.fans.placed.stands, h.boards.stands, five, h.version, ← h.fans.parts.counted)

-- what holds something is sane
pub sane-held : {l : Listing} {s : Listed} {out : List ℕ} → Holds l s out → Sane l out
sane-held h = record {
  counted = record {
    fans = record { few = h.fans.parts.few; survival = h.fans.parts.long; weights = h.fans.weighed.long; boards = h.fans.placed.long; lines = h.fans.lined.long };
    boards = h.boards.few;
    switchboards = h.boards.long;
    systems = omega (arith, h.systems.numbers.few);
  };
  room = h.told.room;
}

-- of a whole text
module _ {l : Listing} (text : List ℕ) {out : List ℕ} (h : HoldsText l text out) where
  pub text-typed : (numbers : List ℕ) → TypedNumbers l.fans.count l.systems numbers → handed l numbers ≡ typed_text text
  unfolding typed_text
  text-typed numbers n = held-typed h numbers n

  pub text-told : Telling l.told (faults_of text) out
  unfolding faults_of
  text-told = h.told

pub none_told : {t : Told} {faults : List Fault} {out : List ℕ} → Telling t faults out → t.count ≡ 0 → faults ≡ []
none_told {t} {faults} h z = go faults (omega (arith, h.count, length-take most_told faults))
  where
    go : (x : List Fault) → length x ≡ 0 → x ≡ []
    go [] e = refl
    go (f ∷ x) e = absurd (omega arith)

pub some-told : {t : Told} {faults : List Fault} {out : List ℕ} → Telling t faults out → faults ≡ [] → t.count ≡ 0
some-told h e = h.count ∙ ap (λ x. length (take most_told x)) e
