-- What is heard of one word, case by case; and that what is asked stays within the table: an option that waits is one of its rows. Assumes nothing.
use mathlib.Core.Path.{◌≡◌, refl, sym, ◌∙◌}
use mathlib.Core.Bool.{Bool, true, false, cond, not}
use mathlib.Core.List.{List}
use Prim.Native.Nat.{ℕ, ◌+◌, ◌-◌, ◌*◌, ◌≤◌, ◌<◌}
use native.Mathlib.Nat.{div-mul-le_self}
use native.Mathlib.Omega.{arith}
use lib.Dec.{ltb}
use lib.ListN.{length, length-set}
use borrow.Author.Tests.{eq-eqb, ne_eqb, ltb-true}
use Rattle.text.specs.Decimal.{text}
use Rattle.options.specs.declared.Asked.{Asked}
use Rattle.options.specs.declared.Task.{Task}
use Rattle.options.specs.declared.Task.TheVariants.{Work, Help, Version, Unknown, Many, Missing}
use Rattle.options.specs.contracts.Task.{the_type}
use denote.Enum.Bare.{sameb}
use Rattle.options.specs.Texts.{same_text}
use Rattle.options.specs.Words.{most_options, row_length, rows_of, takes_word, option_in, is_option, Sound}
use Rattle.options.specs.Words.{is_work, decided, option_at, ended_at, with_operand, with_row, with_option, heard, nothing}

-- the program's test, computed
abbrev pub ne : Task → Bool
ne t = not (sameb the_type t Work)

-- whether the work is to be done, by the test for it
pub no-work : (t : Task) → ne t ≡ true → is_work t ≡ false
no-work Work h = sym h
no-work Help h = refl
no-work Version h = refl
no-work Unknown h = refl
no-work Many h = refl
no-work Missing h = refl

pub some-work : (t : Task) → ne t ≡ false → is_work t ≡ true
some-work Work h = refl
some-work Help h = sym h
some-work Version h = sym h
some-work Unknown h = sym h
some-work Many h = sym h
some-work Missing h = sym h

module _ (table : List ℕ) (most : ℕ) (a : Asked) (place : ℕ) (word : List ℕ) where
  pub past-deciding : (is_work a.task ≡ false) → heard table most a place word ≡ a
  unfolding heard
  past-deciding h = rw h

  pub a-value : is_work a.task ≡ true → (a.waits ≡ 0 → ⊥) → heard table most a place word ≡ option_at (a.waits - 1) 0 a place
  unfolding heard
  a-value e h = rw (e, ne_eqb a.waits 0 h)

  pub an-option : is_work a.task ≡ true → a.waits ≡ 0 → is_option a.ended word ≡ true → heard table most a place word ≡ with_option table a place word
  unfolding heard
  an-option e w o = rw (e, eq-eqb a.waits 0 w, o)

  pub an-operand : is_work a.task ≡ true → a.waits ≡ 0 → is_option a.ended word ≡ false → heard table most a place word ≡ with_operand most a place
  unfolding heard
  an-operand e w o = rw (e, eq-eqb a.waits 0 w, o)

-- either of two
sound-if : (b : Bool) {x y : Asked} → (b ≡ true → Sound x) → (b ≡ false → Sound y) → Sound (cond b x y)
sound-if true f g = f refl
sound-if false f g = g refl

few : (b : Bool) (k : ℕ) → k < most_options → cond b (k + 1) 0 ≤ most_options
few true k h = omega arith
few false k h = omega arith

module _ (a : Asked) (s : Sound a) where
  deciding : (task : Task) (place : ℕ) → Sound (decided task a place)
  deciding task place = record { eight = s.eight; waiting = s.waiting }

  ending : (place : ℕ) → Sound (ended_at a place)
  ending place = record { eight = s.eight; waiting = s.waiting }

  pub giving : (k waits place : ℕ) → waits ≤ most_options → Sound (option_at k waits a place)
  giving k waits place h = record { eight = length-set a.given k place ∙ s.eight; waiting = h }

  pub with-operand : (most place : ℕ) → Sound (with_operand most a place)
  with-operand most place = sound-if (ltb a.operands most) (λ e. record { eight = s.eight; waiting = s.waiting }) (λ e. deciding Many place)

  with-row : (table : List ℕ) (place k : ℕ) → length table ≤ row_length * most_options → Sound (with_row table a place k)
  with-row table place k h =
      sound-if (ltb k (rows_of table))
      (λ e. giving k (cond (takes_word table k) (k + 1) 0) place (few (takes_word table k) k (omega (arith, h, ltb-true k (rows_of table) e, div-mul-le_self (length table) 12))))
      (λ e. deciding Unknown place)

  pub with-option : (table : List ℕ) (place : ℕ) (word : List ℕ) → length table ≤ row_length * most_options → Sound (with_option table a place word)
  with-option table place word h =
      sound-if (same_text word (text "--")) (λ e. ending place)
      (λ e. sound-if (same_text word (text "--help")) (λ e. deciding Help place)
      (λ e. sound-if (same_text word (text "--version")) (λ e. deciding Version place) (λ e. with-row table place (option_in table word) h)))

-- before any word
pub nothing-sound : Sound nothing
nothing-sound = record { eight = refl; waiting = omega arith }
