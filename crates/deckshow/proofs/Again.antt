-- What deckmake makes of what deckshow prints is the file again: line by line the text lists the deck's version, boards, fans and systems as they were, without a fault,
-- and the layout of a file that is not refused is the file. Assumes nothing.
use mathlib.Core.Path.{◌≡◌, refl, sym, ap, ◌∙◌}
use mathlib.Core.Bool.{Bool, true, false, cond, not, ◌&&◌, ◌||◌}
use mathlib.Core.Logic.{inl, inr}
use mathlib.Core.List.{List, [], ◌∷◌, ◌++◌, append_assoc, append-nil}
use Prim.Native.Nat.{ℕ, zero, suc, ◌^◌, ◌≤◌, ◌<◌}
use native.Mathlib.Decide.{ℕ_discrete, dec_lt}
use native.Mathlib.Omega.{arith}
use lib.Dec.{eqb, ltb}
use lib.ListN.{length, get_or, get_or-eq_default}
use borrow.Author.Tests.{ne_eqb, le-ltb, ltb-false, eqb-true, not-false}
use Rattle.rules.specs.declared.System.{System}
use Rattle.rules.specs.Below.{within, list_below}
use Rattle.rules.specs.Boards.{has_boards, boards_read}
use Rattle.rules.specs.Refusal.{some_above, most_boards}
use Rattle.rules.specs.File.{Deck, system_numbers, systems_of, deck_in, file_of, file_refusal}
use Rattle.rules.specs.Writing.{deck_of, bytes_for}
use Rattle.rules.proofs.Lists.{below_length, below_get, below-is}
use Rattle.rules.proofs.Tests.{neither}
use Rattle.rules.proofs.EachKind.{within-true}
use Rattle.rules.proofs.Windows.{some-none}
use Rattle.text.specs.Decimal.{text, decimal}
use Rattle.text.specs.Lines.{named}
use Rattle.layout.specs.Fits.{Bytes}
use Rattle.layout.proofs.Versions.{few-boards, fans-boarded}
use Rattle.deck.specs.Bounds.{Bounds}
use Rattle.deck.proofs.File.{file-back, deck-bounds}
use Rattle.deck.proofs.Systems.{listed-systems}
use Rattle.grammar.specs.Words.{newline, lines_on, lines_of}
use Rattle.grammar.specs.Numbers.{none}
use Rattle.grammar.specs.Grammar.{most_number}
use Rattle.grammar.specs.Text.{Listed, nothing, counted, versioned, with_fans, with_board, with_system, with_line, with_lines, unplaced, last_faults, numbers_of, five_of, typed_by, typed_text, listed, Fault}
use Rattle.printing.specs.Lines.{lines_text}
use Rattle.wording.specs.Lines.{version_text, board_text}
use Rattle.wording.proofs.Phrases.{Plain, AllPlain, spaced, clean, plain-number, phrase-line}
use Rattle.wording.proofs.Systems.{plain_word, ruled, stretch_words, set_by, system_set}
use Rattle.wording.proofs.Reread.{board-back}
use Rattle.wording.proofs.Again.{IsVersion, OnBoard, version-back, fan_words, fan-plain, plain-fan, fan-spelled, fan-back, plain-system, system-plain, system-spelled, system-back}
use Rattle.arrays.specs.Padded.{no_system}
use Rattle.making.specs.Made.{file_out, listed_by}
use Rattle.deckshow.specs.Lines.{board_line, fan_line, system_line, boards_text, fans_text, systems_text, deck_text, show_text}

-- a text that leads from what is listed to what is listed then, whatever follows
abbrev Reads : (words : List ℕ) (s t : Listed) → Type 0
Reads words s t = (rest : List ℕ) → with_lines s (lines_of (words ++ rest)) ≡ with_lines t (lines_of rest)

reads_more : (a b : List ℕ) (s t u : Listed) → Reads a s t → Reads b t u → Reads (a ++ b) s u
reads_more a b s t u p q rest = ap (λ x. with_lines s (lines_of x)) (append_assoc a b rest) ∙ p (b ++ rest) ∙ q rest

reads_lines : (k : ℕ) (line : ℕ → List ℕ) (st : ℕ → Listed) → ((i : ℕ) → i < k → Reads (line i) (st i) (st (suc i))) → Reads (lines_text k line) (st 0) (st k)
unfolding lines_text
reads_lines zero line st each rest = refl
reads_lines (suc k) line st each rest =
    reads_more (lines_text k line) (line k) (st 0) (st k) (st (suc k)) (reads_lines k line st (λ i l. each i (omega arith))) (each k (omega arith)) rest

-- one line of words
reads-line : (w : List ℕ) (ws : List (List ℕ)) (words : List ℕ) (s t : Listed) → Plain w → AllPlain ws → words ≡ (w ++ spaced ws) ++ newline ∷ [] → with_line s (w ++ spaced ws) ≡ t
    → Reads words s t
unfolding with_lines
reads-line w ws words s t p q spelled read rest =
    ap (λ x. with_lines s (lines_of (x ++ rest))) spelled
    ∙ ap (λ x. with_lines s (lines_of x)) (append_assoc (w ++ spaced ws) (newline ∷ []) rest)
    ∙ ap (with_lines s) (phrase-line w ws rest p q)
    ∙ ap (λ x. with_lines x (lines_of rest)) read

plain-version : Plain (text "version")
unfolding clean
plain-version = plain_word (text "version") refl (omega arith)

plain-board : Plain (text "board")
unfolding clean
plain-board = plain_word (text "board") refl (omega arith)

-- a word and a number, as a phrase
phrase : (k : ℕ) → decimal k ++ [] ≡ decimal k
phrase k = append-nil (decimal k)

reads-version : (v : ℕ) → IsVersion v → Reads (version_text v) nothing (versioned (counted nothing true) v)
unfolding spaced AllPlain
reads-version v is =
    let same : text "version" ++ spaced (decimal v ∷ []) ≡ named (text "version ") v = ap (λ x. text "version " ++ x) (phrase v) in
    reads-line (text "version") (decimal v ∷ []) (version_text v) nothing (versioned (counted nothing true) v) plain-version (plain-number v, tt)
    (ap (λ x. x ++ newline ∷ []) (sym same)) (ap (with_line nothing) same ∙ version-back v is)

reads-board : (s : Listed) (p : ℕ) → s.version ≡ 3 → p < none → length s.switchboards < most_boards → Reads (board_text p) s (with_board (counted s true) p)
unfolding spaced AllPlain
reads-board s p is h room =
    let same : text "board" ++ spaced (decimal p ∷ []) ≡ named (text "board ") p = ap (λ x. text "board " ++ x) (phrase p) in
    reads-line (text "board") (decimal p ∷ []) (board_text p) s (with_board (counted s true) p) plain-board (plain-number p, tt)
    (ap (λ x. x ++ newline ∷ []) (sym same)) (ap (with_line s) same ∙ board-back s p is h room)

-- numbers of systems that fit
record Small (s : System) : Type 0 where
  kind : s.rule.kind ≤ most_number
  first : s.rule.first ≤ most_number
  second : s.rule.second ≤ most_number
  a : s.a ≤ most_number
  b : s.b ≤ most_number

small : (ss : List System) → ((i : ℕ) → get_or (system_numbers ss) i 0 < 2 ^ 16) → (i : ℕ) → Small (get_or ss i no_system)
unfolding system_numbers
small [] h i = record { kind = omega arith; first = omega arith; second = omega arith; a = omega arith; b = omega arith }
small (s ∷ ss) h zero = record { kind = omega (arith, h 0); first = omega (arith, h 1); second = omega (arith, h 2); a = omega (arith, h 3); b = omega (arith, h 4) }
small (s ∷ ss) h (suc i) = small ss (λ j. h (suc (suc (suc (suc (suc j)))))) i

-- what their lines set, and the five numbers of each again
abbrev setOf : (n : ℕ) → System → List ℕ
setOf n s = system_set n s.rule.kind s.rule.first s.rule.second s.a s.b

unfoldable sets_of : (n : ℕ) → List System → List (List ℕ)
sets_of n [] = []
sets_of n (s ∷ ss) = setOf n s ∷ sets_of n ss

sets-many : (n : ℕ) (ss : List System) → length (sets_of n ss) ≡ length ss
unfolding sets_of
sets-many n [] = refl
sets-many n (s ∷ ss) = ap suc (sets-many n ss)

sets-get : (n : ℕ) (ss : List System) (i : ℕ) → setOf n (get_or ss i no_system) ≡ get_or (sets_of n ss) i (setOf n no_system)
unfolding sets_of
sets-get n [] i = refl
sets-get n (s ∷ ss) zero = refl
sets-get n (s ∷ ss) (suc i) = sets-get n ss i

sets-all : (n : ℕ) (ss : List System) → list_below (length ss) (λ i. setOf n (get_or ss i no_system)) ≡ sets_of n ss
sets-all n ss = below-is (sets_of n ss) (setOf n no_system) (length ss) (λ i. setOf n (get_or ss i no_system)) (sets-many n ss) (λ i l. sets-get n ss i)

five-again : (n kind first second a b : ℕ) → five_of n (system_set n kind first second a b) ≡ (kind ∷ first ∷ second ∷ a ∷ b ∷ [])
five-again n kind first second a b = go (eqb a 1) (eqb b n) refl refl
  where
    go : (x y : Bool) → eqb a 1 ≡ x → eqb b n ≡ y → five_of n (set_by (x && y) kind first second a b) ≡ (kind ∷ first ∷ second ∷ a ∷ b ∷ [])
    go true true e f = λ i. kind ∷ first ∷ second ∷ sym (eqb-true a 1 e) i ∷ sym (eqb-true b n f) i ∷ []
    go true false e f = refl
    go false y e f = refl

numbers-all : (n : ℕ) (ss : List System) → numbers_of n (sets_of n ss) ≡ system_numbers ss
unfolding numbers_of sets_of system_numbers
numbers-all n [] = refl
numbers-all n (s ∷ ss) = (λ i. five-again n s.rule.kind s.rule.first s.rule.second s.a s.b i ++ numbers-all n ss i)

-- no fault at the end
unplaced-none : (g : ℕ) (boards : List ℕ) (told : ℕ) (lines : List ℕ) → ((i : ℕ) → get_or boards i 0 ≤ g) → unplaced g told boards lines ≡ []
unfolding unplaced
unplaced-none g [] told lines h = refl
unplaced-none g (b ∷ boards) told [] h = refl
unplaced-none g (b ∷ boards) told (line ∷ lines) h = rw (le-ltb g b (h 0)) (unplaced-none g boards told lines (λ i. h (suc i)))

no-faults : (s : Listed) → eqb (length s.survival) 0 ≡ false → eqb (length s.systems) 0 ≡ false → (eqb s.version 3 && eqb (length s.switchboards) 0) ≡ false
    → unplaced (length s.switchboards) 0 s.boards s.fan_lines ≡ [] → last_faults s ≡ []
no-faults s a b c e = rw (a, b, c, e) (go (eqb (length s.switchboards) 0))
  where
    go : (t : Bool) → cond {A = List Fault} t [] [] ≡ []
    go true = refl
    go false = refl

module _ (d : Deck) (ok : Bounds d) where
  abbrev v : ℕ
  v = d.version

  abbrev n : ℕ
  n = length d.survival

  abbrev g : ℕ
  g = length d.switchboards

  abbrev m : ℕ
  m = length d.systems

  abbrev part : ℕ → ℕ
  part i = get_or d.survival i 0

  abbrev weight : ℕ → ℕ
  weight i = get_or d.weights i 0

  abbrev board : ℕ → ℕ
  board i = get_or d.boards i 0

  abbrev own : ℕ → ℕ
  own i = get_or d.switchboards i 0

  abbrev system : ℕ → System
  system i = get_or d.systems i no_system

  abbrev sets : ℕ → List ℕ
  sets i = system_set n (system i).rule.kind (system i).rule.first (system i).rule.second (system i).a (system i).b

  -- what is listed after so many boards, fans and systems
  record Has (j i k : ℕ) (s : Listed) : Type 0 where
    version : s.version ≡ v
    begun : s.begun ≡ true
    survival : s.survival ≡ list_below i part
    weights : s.weights ≡ list_below i weight
    boards : s.boards ≡ list_below i board
    switchboards : s.switchboards ≡ list_below j own
    systems : s.systems ≡ list_below k sets
    faults : s.faults ≡ []

  unfoldable boarded : ℕ → Listed
  boarded zero = versioned (counted nothing true) v
  boarded (suc j) = with_board (counted (boarded j) true) (own j)

  unfoldable fanned : ℕ → Listed
  fanned zero = boarded g
  fanned (suc i) = with_fans (counted (fanned i) true) 1 (part i) (weight i) (board i)

  unfoldable ruledBy : ℕ → Listed
  ruledBy zero = fanned n
  ruledBy (suc k) = with_system (counted (ruledBy k) true) (sets k)

  has-boards : (j : ℕ) → Has j 0 0 (boarded j)
  unfolding boarded list_below
  has-boards zero = record { version = refl; begun = refl; survival = refl; weights = refl; boards = refl; switchboards = refl; systems = refl; faults = refl }
  has-boards (suc j) =
      let s = has-boards j in
      record {
        version = s.version;
        begun = refl;
        survival = s.survival;
        weights = s.weights;
        boards = s.boards;
        switchboards = ap (λ x. x ++ (own j ∷ [])) s.switchboards;
        systems = s.systems;
        faults = s.faults;
      }

  has-fans : (i : ℕ) → Has g i 0 (fanned i)
  unfolding fanned list_below
  has-fans zero = has-boards g
  has-fans (suc i) =
      let s = has-fans i in
      record {
        version = s.version;
        begun = refl;
        survival = ap (λ x. x ++ (part i ∷ [])) s.survival;
        weights = ap (λ x. x ++ (weight i ∷ [])) s.weights;
        boards = ap (λ x. x ++ (board i ∷ [])) s.boards;
        switchboards = s.switchboards;
        systems = s.systems;
        faults = s.faults;
      }

  has-systems : (k : ℕ) → Has g n k (ruledBy k)
  unfolding ruledBy list_below
  has-systems zero = has-fans n
  has-systems (suc k) =
      let s = has-systems k in
      record {
        version = s.version;
        begun = refl;
        survival = s.survival;
        weights = s.weights;
        boards = s.boards;
        switchboards = s.switchboards;
        systems = ap (λ x. x ++ (sets k ∷ [])) s.systems;
        faults = s.faults;
      }

  -- the boards are at most four, and a fan's is among them
  no_boards : has_boards v ≡ false → g ≡ 0
  no_boards e = ap length (sym ok.own_numbers) ∙ rw e

  few : g ≤ most_boards
  few = few-boards v g ok.counted no_boards

  versions : IsVersion v
  versions =
      let i = within-true 1 v 3 (not-false _ ok.versioned) in
      elim (ℕ_discrete v 1) [
        | yes e ↦ inl e
        | no a ↦ elim (ℕ_discrete v 2) [
          | yes e ↦ inr (inl e)
          | no b ↦ inr (inr (omega (arith, i)))
        ]
      ]

  board-within : (i : ℕ) → board i ≤ g
  unfolding some_above
  board-within i = placed (has_boards v) refl
    where
      is-not : (b : Bool) → (b ≡ true → ⊥) → b ≡ false
      is-not true h = absurd (h refl)
      is-not false h = refl

      placed : (b : Bool) → has_boards v ≡ b → board i ≤ g
      placed false e =
          let z : board i ≡ 0 = ap (λ x. get_or x i 0) (sym ok.own_boards ∙ ap (λ b. cond b d.boards []) e) in
          omega arith
      placed true e =
          let apart = ap (λ b. b && (not (eqb (length d.boards) n) || some_above g d.boards)) (sym e) ∙ ok.placed in
          let none_above = (neither (not (eqb (length d.boards) n)) (some_above g d.boards) apart).1 in
          elim (dec_lt i (length d.boards)) [
            | yes l ↦ ltb-false g (board i) (is-not (ltb g (board i)) ((some-none (λ x. ltb g (get_or d.boards x 0)) (length d.boards)).0 none_above i l))
            | no far ↦ let z : board i ≡ 0 = get_or-eq_default d.boards 0 {n = i} (omega arith) in omega arith
          ]

  three : 0 < g → v ≡ 3
  three some_one = go (has_boards v) refl
    where
      go : (b : Bool) → has_boards v ≡ b → v ≡ 3
      go true e = eqb-true v 3 e
      go false e = absurd (omega (arith, no_boards e))

  on-board : (i : ℕ) → OnBoard v (board i)
  on-board i =
      elim (ℕ_discrete (board i) 0) [
        | yes e ↦ inl e
        | no other ↦
            let some_one : 0 < g = omega (arith, other, board-within i) in
            inr (three some_one, omega (arith, other), omega (arith, board-within i, few))
      ]

  -- each line leads on
  reads-boards : Reads (boards_text d) (boarded 0) (boarded g)
  unfolding boarded
  reads-boards = reads_lines g (board_line d) boarded (λ j l.
      let s = has-boards j in
      reads-board (boarded j) (own j) (s.version ∙ three (omega arith)) (ok.boards_fit.each j) (omega (arith, ap length s.switchboards, below_length j own, few)))

  reads-fans : Reads (fans_text d) (fanned 0) (fanned n)
  unfolding fanned
  reads-fans = reads_lines n (fan_line d) fanned (λ i l.
      let s = has-fans i in
      reads-line (text "fan") (fan_words (part i) (weight i) (board i)) (fan_line d i) (fanned i) (fanned (suc i)) plain-fan (fan-plain (part i) (weight i) (board i))
      (fan-spelled (part i) (weight i) (board i))
      (fan-back (fanned i) (part i) (weight i) (board i) (rw s.version versions) (ok.survival_fits.each i) (omega (arith, ok.weights_fit.each i)) (rw s.version (on-board i))
      s.begun (omega (arith, ap length s.survival, below_length i part, ok.most_fans))))

  reads-systems : Reads (systems_text d) (ruledBy 0) (ruledBy m)
  unfolding ruledBy
  reads-systems = reads_lines m (system_line d) ruledBy (λ k l.
      let s = has-systems k in
      let x = system k in
      let is = small d.systems ok.systems_fit.each k in
      let r = ruled (ruledBy k).version x.rule.first x.rule.second is.first is.second x.rule.kind is.kind in
      reads-line (text "system") (r.words ++ stretch_words n x.a x.b) (system_line d k) (ruledBy k) (ruledBy (suc k)) plain-system
      (system-plain n x.rule.kind x.rule.first x.rule.second x.a x.b r)
      (system-spelled n x.rule.kind x.rule.first x.rule.second x.a x.b r)
      (system-back (ruledBy k) n x.rule.kind x.rule.first x.rule.second x.a x.b is.a is.b (rw s.version versions) s.begun
      (omega (arith, ap length s.systems, below_length k sets, ok.most-systems)) r))

  all_listed : listed (deck_text d) ≡ ruledBy m
  unfolding with_lines lines_on boarded fanned ruledBy
  all_listed =
      ap listed (sym (append-nil (deck_text d)))
      ∙ reads_more (version_text v ++ boards_text d ++ fans_text d) (systems_text d) nothing (ruledBy 0) (ruledBy m)
      (reads_more (version_text v ++ boards_text d) (fans_text d) nothing (fanned 0) (fanned n)
      (reads_more (version_text v) (boards_text d) nothing (boarded 0) (boarded g) (reads-version v versions) reads-boards) reads-fans) reads-systems []

  -- without a fault
  none_last : last_faults (ruledBy m) ≡ []
  none_last =
      let s = has-systems m in
      let fans = ne_eqb (length (ruledBy m).survival) 0 (λ z. omega (arith, z, ap length s.survival, below_length n part, ok.some_fan)) in
      let rules = ne_eqb (length (ruledBy m).systems) 0 (λ z. omega (arith, z, ap length s.systems, below_length m sets, ok.some_system)) in
      let many = ap length s.switchboards ∙ below_length g own in
      let apart = unplaced-none (length (ruledBy m).switchboards) (ruledBy m).boards 0 (ruledBy m).fan_lines (λ i.
      ap-within i s.boards many) in
      no-faults (ruledBy m) fans rules (boards-there (ruledBy m) s.version many) apart
    where
      ap-within : (i : ℕ) → (ruledBy m).boards ≡ list_below n board → length (ruledBy m).switchboards ≡ g → get_or (ruledBy m).boards i 0 ≤ length (ruledBy m).switchboards
      ap-within i is many =
          elim (dec_lt i n) [
            | yes l ↦ let z : get_or (ruledBy m).boards i 0 ≡ board i = ap (λ x. get_or x i 0) is ∙ below_get n board 0 i l in omega (arith, z, many, board-within i)
            | no far ↦
                let size = ap length is ∙ below_length n board in
                let z : get_or (ruledBy m).boards i 0 ≡ 0 = get_or-eq_default (ruledBy m).boards 0 {n = i} (omega (arith, size)) in
                omega (arith, z)
          ]

      boards-there : (s : Listed) → s.version ≡ v → length s.switchboards ≡ g → (eqb s.version 3 && eqb (length s.switchboards) 0) ≡ false
      boards-there s is many = (λ i. eqb (is i) 3 && eqb (many i) 0) ∙ go (has_boards v) refl
        where
          go : (b : Bool) → has_boards v ≡ b → (eqb v 3 && eqb g 0) ≡ false
          go false e = ap (λ b. b && eqb g 0) e
          go true e =
              let i = within-true 1 g most_boards (not-false _ (ap (λ b. b && not (within 1 g most_boards)) (sym e) ∙ ok.counted)) in
              ap (λ b. b && eqb g 0) e ∙ ne_eqb g 0 (λ z. omega (arith, z, i))

  -- and the deck again
  own_boards : boards_read v (list_below n board) ≡ d.boards
  own_boards = go (has_boards v) refl
    where
      go : (b : Bool) → has_boards v ≡ b → cond b (list_below n board) [] ≡ d.boards
      go true e =
          let size : length d.boards ≡ n = fans-boarded v n g d.boards ok.placed ok.own_boards ∙ ap (λ b. cond b n 0) e in
          below-is d.boards 0 n board size (λ i l. refl)
      go false e = ap (λ b. cond b d.boards []) (sym e) ∙ ok.own_boards

  deck-again : deck_of (typed_by (ruledBy m)) ≡ d
  deck-again =
      let s = has-systems m in
      let survival = s.survival ∙ below-is d.survival 0 n part refl (λ i l. refl) in
      let weights = s.weights ∙ below-is d.weights 0 n weight ok.weighed (λ i l. refl) in
      let switchboards = s.switchboards ∙ below-is d.switchboards 0 g own refl (λ i l. refl) in
      let systems = (λ i. numbers_of (length (survival i)) (s.systems i)) ∙ ap (numbers_of n) (sets-all n d.systems) ∙ numbers-all n d.systems in
      λ i. record {
        version = s.version i;
        survival = survival i;
        weights = weights i;
        boards = ((λ j. boards_read (s.version j) (s.boards j)) ∙ own_boards) i;
        switchboards = ((λ j. boards_read (s.version j) (switchboards j)) ∙ ok.own_numbers) i;
        systems = (ap systems_of systems ∙ listed-systems d.systems) i;
      }

  pub deck-made : file_out (listed_by (lines_of (deck_text d))) ≡ file_of d
  unfolding file_out
  deck-made =
      let none_told : (listed (deck_text d)).faults ++ last_faults (listed (deck_text d)) ≡ [] =
      (λ i. (all_listed i).faults ++ last_faults (all_listed i)) ∙ (λ i. (has-systems m).faults i ++ none_last i) in
      ap (λ f. cond (eqb (length f) 0) (bytes_for (typed_by (listed (deck_text d)))) []) none_told
      ∙ ap (λ s. bytes_for (typed_by s)) all_listed
      ∙ ap file_of deck-again

-- for every file that is not refused
pub made_again : (bytes : List ℕ) → Bytes bytes → file_refusal bytes ≡ 0 → file_out (listed_by (lines_of (show_text bytes))) ≡ bytes
made_again bytes small e = deck-made (deck_in bytes) (deck-bounds bytes small e) ∙ file-back bytes small e

-- and its text means the deck that the file has, so a file that was made is shown as the deck that was typed
pub shown-deck : (bytes : List ℕ) → Bytes bytes → file_refusal bytes ≡ 0 → deck_of (typed_text (show_text bytes)) ≡ deck_in bytes
unfolding typed_text
shown-deck bytes small e =
    let d = deck_in bytes in
    let ok = deck-bounds bytes small e in
    ap (λ s. deck_of (typed_by s)) (all_listed d ok) ∙ deck-again d ok
