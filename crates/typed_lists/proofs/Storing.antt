-- An array whose front is a list: one entry more stored behind it makes the list longer, whatever it holds. Assumes nothing.
use mathlib.Core.Path.{◌≡◌, sym, ap, ◌∙◌}
use mathlib.Core.List.{List, [], ◌∷◌, ◌++◌}
use Prim.Native.Nat.{ℕ, ◌+◌, ◌<◌}
use native.Mathlib.Numerals.{add-one}
use native.Mathlib.Omega.{arith}
use lib.ListN.{length, get_or, take, set, length-set, length-append}
use lib.Seq.{take-suc, take-suc-set, get_or-take}
use Rattle.typed_lists.specs.Lists.{Stored}

pub stored_more : {room count : ℕ} {array list : List ℕ} → Stored room count array list → (v : ℕ) → count < room
    → Stored room (count + 1) (set array count v) (list ++ (v ∷ []))
stored_more {room} {count} {array} {list} f v l = record {
  long = length-set array count v ∙ f.long;
  few = omega arith;
  counted = length-append list (v ∷ []) ∙ ap (λ n. n + 1) f.counted;
  stands = rw (add-one, take-suc-set array count v (omega (arith, f.long)), f.stands);
}

-- an entry of the front is the list's
pub stored_at : {room count : ℕ} {array list : List ℕ} → Stored room count array list → (i : ℕ) → i < count → get_or array i 0 ≡ get_or list i 0
stored_at {room} {count} {array} {list} f i l = sym (get_or-take count array i 0 l) ∙ ap (λ x. get_or x i 0) f.stands

-- an entry more of a list that is known whole
pub stored_next : {room count : ℕ} {array : List ℕ} (list : List ℕ) → Stored room count array (take count list) → (v : ℕ) → count < room → count < length list
    → v ≡ get_or list count 0 → Stored room (count + 1) (set array count v) (take (count + 1) list)
stored_next {room} {count} list f v l h e = rw (add-one, take-suc list count 0 h, ← e, ← add-one) (stored_more f v l)
