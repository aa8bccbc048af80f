-- The lines of a deck in words, each read as a line of a text: the version, a fan and a system are listed again as they were. Assumes nothing.
use mathlib.Core.Path.{◌≡◌, refl, sym, ap, ◌∙◌}
use mathlib.Core.Bool.{Bool, true, false, cond}
use mathlib.Core.Logic.{◌⊎◌, inl, inr}
use mathlib.Core.List.{List, [], ◌∷◌, ◌++◌, append_assoc, append-nil}
use Prim.Native.Nat.{ℕ, ◌+◌, ◌≤◌, ◌<◌}
use native.Mathlib.Omega.{arith}
use lib.Dec.{eqb}
use lib.ListN.{length, set, replicate, length-append}
use borrow.Author.Tests.{ne_eqb, eqb-true, eqb-false, le-ltb}
use Rattle.rules.specs.Below as Below
use Rattle.rules.specs.Below.{some}
use Rattle.rules.specs.Refusal.{most_boards}
use Rattle.rules.specs.File.{most_fans, most_systems}
use Rattle.text.specs.Decimal.{text, digits_in, decimal}
use Rattle.text.specs.Lines.{named}
use Rattle.grammar.specs.Words.{newline, words_on, words_of}
use Rattle.grammar.specs.Numbers.{letters_on, none, digits_on, whole, parts}
use Rattle.grammar.specs.Grammar.{sets, most_number, reading, grammar}
use Rattle.grammar.specs.Line.{row_for, place_after, set_after, walk, read_line, stopped}
use Rattle.grammar.specs.Text.{longest_line, long_line, fault_at, told, Listed, nothing, counted, versioned, with_fans, with_system, added, thing, wordy, with_line}
use Rattle.wording.specs.Numbers.{some_text}
use Rattle.wording.specs.Lines.{fan_text, system_text}
use Rattle.wording.proofs.Back.{whole_back}
use Rattle.wording.proofs.Lengths.{fan-short, system-short}
use Rattle.wording.proofs.Phrases.{clean, Plain, AllPlain, spaced, spaced-more, all_more, phrase-words, plain-number}
use Rattle.wording.proofs.Walks.{number_step}
use Rattle.wording.proofs.Systems.{Ruled, amount, plain_word, plain-weight, is_whole, stretch_words, set_by, system_set, stretch-spelled, stretch-plain, stretch-walk}

abbrev pub IsVersion : ℕ → Type 0
IsVersion v = (v ≡ 1) ⊎ ((v ≡ 2) ⊎ (v ≡ 3))

abbrev Z : List ℕ
Z = replicate sets 0

-- the words whose rows look at the version
record Known (v : ℕ) : Type 0 where
  fan : (words : List (List ℕ)) → walk v 2 Z (text "fan" ∷ words) ≡ walk v 5 (1 ∷ 0 ∷ 0 ∷ 0 ∷ 0 ∷ 0 ∷ 0 ∷ 0 ∷ 0 ∷ 0 ∷ 0 ∷ []) words
  system : (words : List (List ℕ)) → walk v 2 Z (text "system" ∷ words) ≡ walk v 14 Z words
  weight : (before : List ℕ) (words : List (List ℕ)) → walk v 6 before (text "weight" ∷ words) ≡ walk v 7 (set before 4 0) words
  light : (before : List ℕ) → walk v 6 before [] ≡ stopped 0 [] (set before 6 2)
  heavy : (before : List ℕ) → walk v 8 before [] ≡ stopped 0 [] (set before 6 2)

known1 : Known 1
unfolding walk place_after set_after row_for Below.first some reading grammar letters_on
known1 = record { fan = λ words. refl; system = λ words. refl; weight = λ before words. refl; light = λ before. refl; heavy = λ before. refl }

known2 : Known 2
unfolding walk place_after set_after row_for Below.first some reading grammar letters_on
known2 = record { fan = λ words. refl; system = λ words. refl; weight = λ before words. refl; light = λ before. refl; heavy = λ before. refl }

known3 : Known 3
unfolding walk place_after set_after row_for Below.first some reading grammar letters_on
known3 = record { fan = λ words. refl; system = λ words. refl; weight = λ before words. refl; light = λ before. refl; heavy = λ before. refl }

known : (v : ℕ) → IsVersion v → Known v
known v (inl e) = rw e known1
known v (inr (inl e)) = rw e known2
known v (inr (inr e)) = rw e known3

pub plain-fan : Plain (text "fan")
unfolding clean
plain-fan = plain_word (text "fan") refl (omega arith)

plain-on : Plain (text "on")
unfolding clean
plain-on = plain_word (text "on") refl (omega arith)

pub plain-system : Plain (text "system")
unfolding clean
plain-system = plain_word (text "system") refl (omega arith)

-- a system
module _ (n kind first second a b : ℕ) {version : ℕ} (r : Ruled version kind first second) where
  abbrev pub systemPhrase : List ℕ
  systemPhrase = text "system" ++ spaced (r.words ++ stretch_words n a b)

  pub system-plain : AllPlain (r.words ++ stretch_words n a b)
  system-plain = all_more r.words (stretch_words n a b) r.plain (stretch-plain n a b)

  pub system-spelled : system_text n kind first second a b ≡ systemPhrase ++ newline ∷ []
  unfolding system_text
  system-spelled =
      (λ i. text "system" ++ ((r.spelled i ++ stretch-spelled n a b i) ++ text "\n"))
      ∙ ap (λ x. text "system" ++ (x ++ text "\n")) (sym (spaced-more r.words (stretch_words n a b)))

adds-system : (s : Listed) (word : List ℕ) (kind first second a b : ℕ) → length s.systems < most_systems → (whole : Bool)
    → thing s word (stopped 0 [] (set_by whole kind first second a b)) ≡ with_system s (set_by whole kind first second a b)
unfolding thing added
adds-system s word kind first second a b room true = rw (le-ltb most_systems (length s.systems + 1) (omega arith))
adds-system s word kind first second a b room false = rw (le-ltb most_systems (length s.systems + 1) (omega arith))

-- a line of words in a text that has begun
by-words : (s : Listed) (w : List ℕ) (ws : List (List ℕ)) → Plain w → AllPlain ws → s.begun ≡ true → length (w ++ spaced ws) ≤ longest_line
    → with_line s (w ++ spaced ws) ≡ thing (counted s true) w (walk s.version 2 Z (w ∷ ws))
unfolding with_line wordy read_line
by-words s w ws p q begun short =
    let line = w ++ spaced ws in
    let words = phrase-words w ws p q in
    ap (λ t. cond t (told (counted s s.begun) (fault_at (s.lines + 1) [] long_line 0)) (wordy s line (words_of line))) (le-ltb longest_line (length line) short)
    ∙ ap (wordy s line) words
    ∙ (λ i. thing (counted s true) w (walk s.version (cond (begun i) 2 1) Z (words i)))

pub system-back : (s : Listed) (n kind first second a b : ℕ) → a ≤ most_number → b ≤ most_number → IsVersion s.version → s.begun ≡ true → length s.systems < most_systems
    → (r : Ruled s.version kind first second) → with_line s (systemPhrase n kind first second a b r) ≡ with_system (counted s true) (system_set n kind first second a b)
system-back s n kind first second a b l h v begun room r =
    let size = ap length (system-spelled n kind first second a b r) ∙ length-append (systemPhrase n kind first second a b r) (newline ∷ []) in
    by-words s (text "system") (r.words ++ stretch_words n a b) plain-system (system-plain n kind first second a b r) begun (omega (arith, size, system-short n kind first second a b))
    ∙ ap (thing (counted s true) (text "system"))
    ((known s.version v).system (r.words ++ stretch_words n a b) ∙ r.walks (stretch_words n a b) ∙ stretch-walk s.version n kind first second a b l h r.place r.stretches)
    ∙ adds-system (counted s true) (text "system") kind first second a b room (is_whole n a b)

-- a fan: its weight and its board where it has them
abbrev pub some_words : (name : List ℕ) (k : ℕ) → List (List ℕ)
some_words name k = cond (eqb k 0) [] (name ∷ decimal k ∷ [])

abbrev pub fan_words : (p w b : ℕ) → List (List ℕ)
fan_words p w b = decimal p ∷ (some_words (text "weight") w ++ some_words (text "on") b)

abbrev pub fan_phrase : (p w b : ℕ) → List ℕ
fan_phrase p w b = text "fan" ++ spaced (fan_words p w b)

some-plain : (name : List ℕ) (k : ℕ) → Plain name → AllPlain (some_words name k)
unfolding AllPlain
some-plain name k p = go (eqb k 0)
  where
    go : (t : Bool) → AllPlain (cond t [] (name ∷ decimal k ∷ []))
    go true = tt
    go false = (p, (plain-number k, tt))

pub fan-plain : (p w b : ℕ) → AllPlain (fan_words p w b)
unfolding AllPlain
fan-plain p w b = (plain-number p, all_more (some_words (text "weight") w) (some_words (text "on") b) (some-plain (text "weight") w plain-weight) (some-plain (text "on") b plain-on))

weight-spelled : (w : ℕ) → some_text (text " weight ") w ≡ spaced (some_words (text "weight") w)
unfolding spaced
weight-spelled w = go (eqb w 0)
  where
    go : (t : Bool) → cond t [] (text " weight " ++ decimal w) ≡ spaced (cond t [] (text "weight" ∷ decimal w ∷ []))
    go true = refl
    go false = ap (λ x. text " weight " ++ x) (sym (append-nil (decimal w)))

on-spelled : (b : ℕ) → some_text (text " on ") b ≡ spaced (some_words (text "on") b)
unfolding spaced
on-spelled b = go (eqb b 0)
  where
    go : (t : Bool) → cond t [] (text " on " ++ decimal b) ≡ spaced (cond t [] (text "on" ∷ decimal b ∷ []))
    go true = refl
    go false = ap (λ x. text " on " ++ x) (sym (append-nil (decimal b)))

pub fan-spelled : (p w b : ℕ) → fan_text p w b ≡ fan_phrase p w b ++ newline ∷ []
unfolding fan_text spaced
fan-spelled p w b =
    let first = some_words (text "weight") w in
    let second = some_words (text "on") b in
    (λ i. text "fan " ++ (((decimal p ++ weight-spelled w i) ++ on-spelled b i) ++ text "\n"))
    ∙ ap (λ x. text "fan " ++ (x ++ text "\n")) (append_assoc (decimal p) (spaced first) (spaced second) ∙ ap (λ x. decimal p ++ x) (sym (spaced-more first second)))

abbrev fan_set : (p w b : ℕ) → List ℕ
fan_set p w b = 1 ∷ 0 ∷ 0 ∷ 0 ∷ 0 ∷ 0 ∷ 2 ∷ p ∷ w ∷ b ∷ 0 ∷ []

-- a board is named in version 3 alone
abbrev pub OnBoard : (version b : ℕ) → Type 0
OnBoard version b = (b ≡ 0) ⊎ ((version ≡ 3) × (1 ≤ b) × (b ≤ most_boards))

on3 : (before : List ℕ) (words : List (List ℕ)) → (walk 3 6 before (text "on" ∷ words) ≡ walk 3 9 (set before 4 0) words) × (walk 3 8 before (text "on" ∷ words) ≡ walk 3 9 (set before 4 0) words)
unfolding walk place_after set_after row_for Below.first some reading grammar letters_on
on3 before words = (refl, refl)

board-number : (b : ℕ) → 1 ≤ b → b ≤ most_boards → (p w : ℕ)
    → walk 3 9 (1 ∷ 0 ∷ 0 ∷ 0 ∷ 0 ∷ 0 ∷ 0 ∷ p ∷ w ∷ 0 ∷ 0 ∷ []) (decimal b ∷ []) ≡ stopped 0 [] (fan_set p w b)
unfolding walk place_after set_after row_for Below.first some reading grammar letters_on
board-number b low high p w =
    number_step 3 9 22 (decimal b) b (whole_back b (omega arith)) refl low high refl (omega arith) refl refl (1 ∷ 0 ∷ 0 ∷ 0 ∷ 0 ∷ 0 ∷ 0 ∷ p ∷ w ∷ 0 ∷ 0 ∷ []) []

parts-number : (version p : ℕ) → p < none → (before : List ℕ) (words : List (List ℕ)) → walk version 5 before (decimal p ∷ words) ≡ walk version 6 (set before 7 p) words
unfolding reading grammar letters_on some parts
parts-number version p h before words =
    let read : parts version (decimal p) ≡ p = rw (whole_back p h, ne_eqb p none (λ same. omega arith)) in
    let most : p ≤ 4294967295 = omega arith in
    number_step version 5 14 (decimal p) p read refl (let z : 0 ≤ p = omega arith in z) most refl (omega arith) refl refl before words

weight-number : (version w : ℕ) → w ≤ most_number → (before : List ℕ) (words : List (List ℕ)) → walk version 7 before (decimal w ∷ words) ≡ walk version 8 (set before 8 w) words
unfolding reading grammar letters_on some
weight-number version w h before words = amount version 7 17 w h refl refl refl refl (omega arith) refl refl before words

module _ (version p w b : ℕ) (v : IsVersion version) (small : p < none) (light : w ≤ most_number) where
  abbrev begun : List ℕ
  begun = 1 ∷ 0 ∷ 0 ∷ 0 ∷ 0 ∷ 0 ∷ 0 ∷ p ∷ 0 ∷ 0 ∷ 0 ∷ []

  abbrev weighed : List ℕ
  weighed = 1 ∷ 0 ∷ 0 ∷ 0 ∷ 0 ∷ 0 ∷ 0 ∷ p ∷ w ∷ 0 ∷ 0 ∷ []

  fan-first : (more : List (List ℕ)) → walk version 2 Z (text "fan" ∷ decimal p ∷ more) ≡ walk version 6 begun more
  fan-first more = (known version v).fan (decimal p ∷ more) ∙ parts-number version p small (1 ∷ 0 ∷ 0 ∷ 0 ∷ 0 ∷ 0 ∷ 0 ∷ 0 ∷ 0 ∷ 0 ∷ 0 ∷ []) more

  fan-weight : (more : List (List ℕ)) → walk version 6 begun (text "weight" ∷ decimal w ∷ more) ≡ walk version 8 weighed more
  fan-weight more = (known version v).weight begun (decimal w ∷ more) ∙ weight-number version w light begun more

  -- with a weight or without, with a board or without
  fan-rest : (heavy placed : Bool) → eqb w 0 ≡ heavy → eqb b 0 ≡ placed → OnBoard version b
      → walk version 6 begun (cond heavy [] (text "weight" ∷ decimal w ∷ []) ++ cond placed [] (text "on" ∷ decimal b ∷ [])) ≡ stopped 0 [] (fan_set p w b)
  fan-rest true true e f on =
      (known version v).light begun ∙ (λ i. stopped 0 [] (fan_set p (sym (eqb-true w 0 e) i) (sym (eqb-true b 0 f) i)))
  fan-rest false true e f on =
      fan-weight [] ∙ (known version v).heavy weighed ∙ (λ i. stopped 0 [] (fan_set p w (sym (eqb-true b 0 f) i)))
  fan-rest true false e f (inl z) = absurd (eqb-false b 0 f z)
  fan-rest true false e f (inr o) =
      ap (λ x. walk x 6 begun (text "on" ∷ decimal b ∷ [])) o.0
      ∙ (on3 begun (decimal b ∷ [])).0
      ∙ board-number b o.1 o.2 p 0
      ∙ (λ i. stopped 0 [] (fan_set p (sym (eqb-true w 0 e) i) b))
  fan-rest false false e f (inl z) = absurd (eqb-false b 0 f z)
  fan-rest false false e f (inr o) =
      fan-weight (text "on" ∷ decimal b ∷ [])
      ∙ ap (λ x. walk x 8 weighed (text "on" ∷ decimal b ∷ [])) o.0
      ∙ (on3 weighed (decimal b ∷ [])).1
      ∙ board-number b o.1 o.2 p w

  fan-walk : OnBoard version b → walk version 2 Z (text "fan" ∷ fan_words p w b) ≡ stopped 0 [] (fan_set p w b)
  fan-walk on = fan-first (some_words (text "weight") w ++ some_words (text "on") b) ∙ fan-rest (eqb w 0) (eqb b 0) refl refl on

adds-fan : (s : Listed) (word : List ℕ) (p w b : ℕ) → length s.survival < most_fans → thing s word (stopped 0 [] (fan_set p w b)) ≡ with_fans s 1 p w b
unfolding thing added
adds-fan s word p w b room = rw (le-ltb most_fans (length s.survival + 1) (omega arith))

pub fan-back : (s : Listed) (p w b : ℕ) → IsVersion s.version → p < none → w ≤ most_number → OnBoard s.version b → s.begun ≡ true → length s.survival < most_fans
    → with_line s (fan_phrase p w b) ≡ with_fans (counted s true) 1 p w b
fan-back s p w b v small light on begun room =
    let size = ap length (fan-spelled p w b) ∙ length-append (fan_phrase p w b) (newline ∷ []) in
    by-words s (text "fan") (fan_words p w b) plain-fan (fan-plain p w b) begun (omega (arith, size, fan-short p w b))
    ∙ ap (thing (counted s true) (text "fan")) (fan-walk s.version p w b v small light on)
    ∙ adds-fan (counted s true) (text "fan") p w b room

-- the version, which stands first
pub version-back : (v : ℕ) → IsVersion v → with_line nothing (named (text "version ") v) ≡ versioned (counted nothing true) v
unfolding with_line wordy read_line words_on digits_in walk place_after set_after row_for Below.first some reading grammar letters_on whole digits_on thing added
version-back v (inl e) = ap (λ x. with_line nothing (named (text "version ") x)) e ∙ ap (versioned (counted nothing true)) (sym e)
version-back v (inr (inl e)) = ap (λ x. with_line nothing (named (text "version ") x)) e ∙ ap (versioned (counted nothing true)) (sym e)
version-back v (inr (inr e)) = ap (λ x. with_line nothing (named (text "version ") x)) e ∙ ap (versioned (counted nothing true)) (sym e)
