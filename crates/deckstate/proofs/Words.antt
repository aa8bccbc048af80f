-- Words heard one after another are what all of them say. Assumes nothing.
use mathlib.Core.Path.{◌≡◌, refl, sym, ap, ◌∙◌}
use mathlib.Core.Bool.{Bool, true, false, cond}
use mathlib.Core.List.{List, [], ◌∷◌}
use Prim.Native.Nat.{ℕ, suc, ◌+◌, ◌≤◌}
use native.Mathlib.Numerals.{add-one}
use native.Mathlib.Omega.{arith}
use lib.Dec.{eqb}
use lib.ListN.{length}
use borrow.Author.Tests.{eq-eqb, ne_eqb}
use Rattle.options.specs.declared.Asked.{Asked}
use Rattle.options.specs.Words as options
use Rattle.rules.specs.Refusal.{most}
use Rattle.rules.specs.File.{version_in, fans_in, board_count_in, board_fans, board_bytes, boards_offset, nth_number, deck_in, file_refusal}
use Rattle.rules.proofs.Lists.{below_length}
use Rattle.rules.proofs.Unless.{unless-none, unless-some}
use Rattle.deck.proofs.Sound as deck
use Rattle.layout.proofs.Versions.{fans-bound}
use Rattle.naming.specs.declared.Named.{Named}
use Rattle.naming.specs.Named.{named_in}
use Rattle.deckstate.specs.declared.hearing.Said.{Said}
use Rattle.deckstate.specs.declared.hearing.Hearing.{Hearing}
use Rattle.deckstate.specs.Words.{nothing, sound, faulty, wants_fans, fans_heard, heard, heard_all, ended, option_table, most_words, asked_after, operands_of, hearing_none, hearing_of, hears_word, said_in, SaidOf}

-- a word by the fans that it names
module _ (n at : ℕ) (word : List ℕ) (state : ℕ) (r : Named) (is : r ≡ named_in n word state) where
  abbrev by : Bool → Named → Said
  by wrong x = cond wrong (faulty state at wants_fans n) (sound x.state)

  pub fans-wrong : r.wrong ≡ true → faulty state at wants_fans n ≡ fans_heard n at word state
  fans-wrong e = sym (ap (λ t. by t r) e) ∙ ap (λ (x : Named). by x.wrong x) is

  pub fans-right : r.wrong ≡ false → sound r.state ≡ fans_heard n at word state
  fans-right e = sym (ap (λ t. by t r) e) ∙ ap (λ (x : Named). by x.wrong x) is

module _ (n g : ℕ) (boards : List ℕ) where
  -- before the first word, and one word more
  pub none-heard : hearing_none ≡ hearing_of n g boards []
  unfolding asked_after operands_of heard_all
  none-heard = refl

  pub heard-more : (word : List ℕ) (words : List (List ℕ)) → hears_word n g boards (suc (length words)) word (hearing_of n g boards words) ≡ hearing_of n g boards (word ∷ words)
  unfolding asked_after operands_of heard_all
  heard-more word words = go (eqb next.operands (asked_after words).operands)
    where
      next : Asked
      next = options.heard option_table most_words (asked_after words) (suc (length words)) word

      own : List (List ℕ)
      own = operands_of words

      before : Bool → Hearing
      before b =
          cond b (record { asked = next; heard = length own; said = heard_all n g boards own })
          (record { asked = next; heard = length own + 1; said = heard n g boards (length own + 1) word (heard_all n g boards own) })

      after : Bool → Hearing
      after b = record { asked = next; heard = length (cond b own (word ∷ own)); said = heard_all n g boards (cond b own (word ∷ own)) }

      go : (b : Bool) → before b ≡ after b
      go true = refl
      go false = rw (add-one (length own))

  -- by what its options are heard to ask for: an option, or not
  module _ (place : ℕ) (word : List ℕ) (h : Hearing) (next : Asked) (is : next ≡ options.heard option_table most_words h.asked place word) where
    abbrev either : (b : Bool) → Asked → Hearing
    either b x =
        cond b (record { asked = x; heard = h.heard; said = h.said })
        (record { asked = x; heard = h.heard + 1; said = heard n g boards (h.heard + 1) word h.said })

    turned : (b : Bool) → eqb next.operands h.asked.operands ≡ b → hears_word n g boards place word h ≡ either b next
    turned b e = ap (λ (x : Asked). either (eqb x.operands h.asked.operands) x) (sym is) ∙ ap (λ t. either t next) e

    pub option-heard : next.operands ≡ h.asked.operands → record { asked = next; heard = h.heard; said = h.said } ≡ hears_word n g boards place word h
    option-heard e = sym (turned true (eq-eqb next.operands h.asked.operands e))

    pub operand-heard : (next.operands ≡ h.asked.operands → ⊥) → (said : Said) → said ≡ heard n g boards (h.heard + 1) word h.said
        → record { asked = next; heard = h.heard + 1; said = said } ≡ hears_word n g boards place word h
    operand-heard other said e = (λ i. record { asked = next; heard = h.heard + 1; said = e i }) ∙ sym (turned false (ne_eqb next.operands h.asked.operands other))

module _ (bytes : List ℕ) {h : Hearing} {r : Said} where
  pub said-heard : file_refusal bytes ≡ 0 → r ≡ ended (board_count_in bytes) h.heard h.said → SaidOf bytes h r
  unfolding said_in
  said-heard none e words holds =
      e ∙ ap (λ (x : Hearing). ended (board_count_in bytes) x.heard x.said) (holds none) ∙ sym (unless-none _ _ _ none)

  pub said-refused : (file_refusal bytes ≡ 0 → ⊥) → r ≡ nothing → SaidOf bytes h r
  unfolding said_in
  said-refused some e words holds = e ∙ sym (unless-some _ (λ _. nothing) _ some)

module _ (bytes : List ℕ) where
  -- no file has board numbers of more than 64 fans
  pub boards-few : file_refusal bytes ≡ 0 → length (deck_in bytes).boards ≤ most
  unfolding deck_in
  boards-few none =
      omega (arith, below_length (board_fans (version_in bytes) (fans_in bytes)) (nth_number board_bytes bytes (boards_offset (version_in bytes) (fans_in bytes))), fans-bound (version_in bytes) (fans_in bytes), (deck.sound bytes none).most_fans)
