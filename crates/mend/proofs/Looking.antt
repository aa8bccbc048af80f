-- A file that was looked at: on a refusal nothing is known of its head; else the head is the file's, its header can be written, and its numbers are small.
-- Assumes nothing.
use mathlib.Core.Path.{◌≡◌, sym, ap, ◌∙◌}
use mathlib.Core.List.{List}
use Prim.Native.Nat.{ℕ}
use native.Mathlib.Omega.{arith}
use Rattle.rules.specs.File.{length_in}
use Rattle.rules.specs.Mending.{header_for, beyond_mending}
use Rattle.deck.specs.declared.Head.{Head}
use Rattle.std.proofs.Common.{Ok, Err}
use Rattle.rules.specs.declared.refusal.Refusal.{Refusal}
use Rattle.rules.specs.Refusal.{number}
use Rattle.deck.specs.Head.{Small, length_by}
use Rattle.deck.proofs.Outcome.{head-is}
use Rattle.mend.specs.Looked.{Looks, Looked, Sized, header_by}
use Rattle.mend.proofs.Mendable.{mendable, few}

module _ {bytes : List ℕ} where
  pub looks-refused : (r : Refusal) → number r ≡ beyond_mending bytes → Looks bytes (Err r)
  looks-refused r e = record { refusal = e; says = tt }

  pub looks_on : {head : Head} → Looks bytes (Ok head) → Looked bytes head
  looks_on looks = record { none = sym looks.refusal; says = looks.says }

  module _ {head : Head} (looked : Looked bytes head) where
    pub sized : Sized head
    sized =
        let ok = mendable bytes looked.none in
        let says = looked.says in
        record {
          versioned = rw says.version ok.versioned;
          fans = rw says.fans ok.most_fans;
          systems = rw says.systems ok.most-systems;
          boards = rw says.boards (few bytes ok);
        }

    pub small : Small head
    small = record { fans = omega (arith, sized.fans); systems = omega (arith, sized.systems); boards = omega (arith, sized.boards) }

    pub header-own : header_by head ≡ header_for bytes
    header-own = ap header_by (head-is looked.says)

    pub length-own : length_by head ≡ length_in bytes
    length-own = ap length_by (head-is looked.says)
