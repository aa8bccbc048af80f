-- A system's line in words, read as a line of a text, sets the system's own numbers: its rule by its kind, then its stretch or the line's end. Assumes nothing.
use mathlib.Core.Path.{◌≡◌, refl, sym, ap, ◌∙◌}
use mathlib.Core.Bool.{Bool, true, false, cond, ◌&&◌, ◌||◌}
use mathlib.Core.Logic.{◌⊎◌, inl, inr}
use mathlib.Core.List.{List, [], ◌∷◌, ◌++◌, append_assoc, append-nil}
use Prim.Native.Nat.{ℕ, ◌≤◌, ◌<◌}
use native.Mathlib.Decide.{ℕ_discrete}
use native.Mathlib.Omega.{arith}
use lib.Dec.{eqb, ltb}
use lib.ListN.{length, set, replicate}
use borrow.Author.Tests.{ne_eqb}
use Rattle.rules.specs.Below as Below
use Rattle.rules.specs.Below.{some}
use Rattle.text.specs.Decimal.{text, decimal}
use Rattle.grammar.specs.Numbers.{letters_on, none, digits_on, whole}
use Rattle.grammar.specs.Grammar.{sets, as_number, most_number, reading, rows, grammar}
use Rattle.grammar.specs.Line.{cell, takes, row_for, place_after, set_after, goes_on, walk, stopped}
use Rattle.grammar.proofs.Letters.{Bytes}
use Rattle.wording.specs.Rule.{by_numbers, rule_text}
use Rattle.wording.specs.Lines.{stretch_text}
use Rattle.wording.proofs.Back.{whole_back}
use Rattle.wording.proofs.Rows.{past, other-kind}
use Rattle.wording.proofs.Phrases.{clean, Plain, AllPlain, spaced, plain-number}
use Rattle.wording.proofs.Walks.{number_step, not-letters}

-- a number that a file has room for, by its row
pub amount : (version place row k : ℕ) → k ≤ most_number → cell row 0 ≡ place → cell row 1 ≡ as_number → cell row 2 ≡ 0 → cell row 3 ≡ most_number → row < rows
    → some (takes version place (decimal k)) row ≡ false → goes_on (cell row 6) ≡ true → (before : List ℕ) (words : List (List ℕ))
    → walk version place before (decimal k ∷ words) ≡ walk version (cell row 6) (set before (cell row 4) k) words
unfolding reading
amount version place row k h here way least most l no_other on before words =
    let read : reading version (cell row 1) (decimal k) ≡ k = ap (λ m. reading version m (decimal k)) way ∙ whole_back k (omega arith) in
    let counts : ltb (cell row 1) as_number ≡ false = ap (λ m. ltb m as_number) way in
    number_step version place row (decimal k) k read here (omega (arith, least)) (omega (arith, most)) counts l no_other on before words

-- the numbers that a line has set: a rule's kind, first and second, and nothing else yet
abbrev pub rule_set : (kind first second : ℕ) → List ℕ
rule_set kind first second = kind ∷ first ∷ second ∷ 0 ∷ 0 ∷ 0 ∷ 0 ∷ 0 ∷ 0 ∷ 0 ∷ 0 ∷ []

-- at two places letters come first
weight-apart : (version k : ℕ) → k < none → takes version 16 (decimal k) 31 ≡ false
unfolding reading grammar letters_on whole digits_on Bytes
weight-apart version k h =
    let bytes : Bytes (text "weight") = (omega arith, (omega arith, (omega arith, (omega arith, (omega arith, (omega arith, tt)))))) in
    not-letters k (text "weight") h bytes (omega arith) refl

a-apart : (version k : ℕ) → k < none → takes version 19 (decimal k) 36 ≡ false
unfolding reading grammar letters_on whole digits_on Bytes
a-apart version k h =
    let bytes : Bytes (text "a") = (omega arith, tt) in
    not-letters k (text "a") h bytes (omega arith) refl

-- a rule in words: its words, and where they lead with its numbers set, whatever follows
pub record Ruled (version kind first second : ℕ) : Type 0 where
  pub words : List (List ℕ)
  pub spelled : 32 ∷ rule_text kind first second ≡ spaced words
  pub plain : AllPlain words
  pub place : ℕ
  pub stretches : (place ≡ 34) ⊎ ((place ≡ 21) ⊎ (place ≡ 22))
  pub walks : (more : List (List ℕ)) → walk version 14 (replicate sets 0) (words ++ more) ≡ walk version place (rule_set kind first second) more

pub plain_word : (w : List ℕ) → clean w ≡ true → 0 < length w → Plain w
plain_word w e l = record { bytes = e; some = l }

plain-fails : Plain (text "fails")
unfolding clean
plain-fails = plain_word (text "fails") refl (omega arith)

plain_at : Plain (text "at")
unfolding clean
plain_at = plain_word (text "at") refl (omega arith)

plain-dead : Plain (text "dead")
unfolding clean
plain-dead = plain_word (text "dead") refl (omega arith)

pub plain-weight : Plain (text "weight")
unfolding clean
plain-weight = plain_word (text "weight") refl (omega arith)

plain-from : Plain (text "from")
unfolding clean
plain-from = plain_word (text "from") refl (omega arith)

plain-to : Plain (text "to")
unfolding clean
plain-to = plain_word (text "to") refl (omega arith)

plain_in : Plain (text "in")
unfolding clean
plain_in = plain_word (text "in") refl (omega arith)

plain-a : Plain (text "a")
unfolding clean
plain-a = plain_word (text "a") refl (omega arith)

plain_row : Plain (text "row")
unfolding clean
plain_row = plain_word (text "row") refl (omega arith)

plain-round : Plain (text "round")
unfolding clean
plain-round = plain_word (text "round") refl (omega arith)

plain-needs : Plain (text "needs")
unfolding clean
plain-needs = plain_word (text "needs") refl (omega arith)

plain_of : Plain (text "of")
unfolding clean
plain_of = plain_word (text "of") refl (omega arith)

plain-any : Plain (text "any")
unfolding clean
plain-any = plain_word (text "any") refl (omega arith)

plain-kind : Plain (text "kind")
unfolding clean
plain-kind = plain_word (text "kind") refl (omega arith)

plain-first : Plain (text "first")
unfolding clean
plain-first = plain_word (text "first") refl (omega arith)

plain_second : Plain (text "second")
unfolding clean
plain_second = plain_word (text "second") refl (omega arith)

module _ (version first second : ℕ) (f : first ≤ most_number) (s : second ≤ most_number) where
  -- fails at K
  at-number : (before : List ℕ) (more : List (List ℕ)) → walk version 16 before (decimal first ∷ more) ≡ walk version 18 (set before 1 first) more
  unfolding reading grammar letters_on some
  at-number before more =
      let h : first < none = omega arith in
      let no_other : (some (takes version 16 (decimal first)) 31 || takes version 16 (decimal first) 31) || takes version 16 (decimal first) 32 ≡ false =
      ap (λ b. (false || b) || false) (weight-apart version first h) in
      amount version 16 33 first f refl refl refl refl (omega arith) no_other refl before more

  -- in R
  in-number : (before : List ℕ) (more : List (List ℕ)) → walk version 19 before (decimal second ∷ more) ≡ walk version 22 (set before 2 second) more
  unfolding reading grammar letters_on some
  in-number before more =
      let h : second < none = omega arith in
      let t : ℕ → Bool = takes version 19 (decimal second) in
      let no_other : ((((some t 36 || t 36) || t 37) || t 38) || t 39) || t 40 ≡ false =
      ap (λ b. ((((false || b) || false) || false) || false) || false) (a-apart version second h) in
      amount version 19 41 second s refl refl refl refl (omega arith) no_other refl before more

  kind1 : Ruled version 1 first 0
  unfolding rule_text spaced AllPlain walk place_after set_after row_for Below.first some reading grammar letters_on
  kind1 = record {
    words = text "fails" ∷ text "at" ∷ decimal first ∷ text "dead" ∷ [];
    spelled = refl;
    plain = (plain-fails, (plain_at, (plain-number first, (plain-dead, tt))));
    place = 34;
    stretches = inl refl;
    walks = λ more. at-number (replicate sets 0) (text "dead" ∷ more);
  }

  kind2 : Ruled version 2 first 0
  unfolding rule_text spaced AllPlain walk place_after set_after row_for Below.first some reading grammar letters_on
  kind2 = record {
    words = text "fails" ∷ text "at" ∷ text "weight" ∷ decimal first ∷ [];
    spelled = refl;
    plain = (plain-fails, (plain_at, (plain-weight, (plain-number first, tt))));
    place = 34;
    stretches = inl refl;
    walks = λ more. amount version 17 32 first f refl refl refl refl (omega arith) refl refl (2 ∷ 0 ∷ 0 ∷ 0 ∷ 0 ∷ 0 ∷ 0 ∷ 0 ∷ 0 ∷ 0 ∷ 0 ∷ []) more;
  }

  kind3 : Ruled version 3 first second
  unfolding rule_text spaced AllPlain walk place_after set_after row_for Below.first some reading grammar letters_on
  kind3 = record {
    words = text "fails" ∷ text "from" ∷ decimal first ∷ text "to" ∷ decimal second ∷ text "dead" ∷ [];
    spelled = ap (λ x. text " fails from " ++ x) (append_assoc (decimal first) (text " to " ++ decimal second) (text " dead"));
    plain = (plain-fails, (plain-from, (plain-number first, (plain-to, (plain-number second, (plain-dead, tt))))));
    place = 34;
    stretches = inl refl;
    walks = λ more. amount version 23 46 first f refl refl refl refl (omega arith) refl refl (replicate sets 0) (text "to" ∷ decimal second ∷ text "dead" ∷ more) ∙ amount version 25 48 second s refl refl refl refl (omega arith) refl refl (0 ∷ first ∷ 0 ∷ 0 ∷ 0 ∷ 0 ∷ 0 ∷ 0 ∷ 0 ∷ 0 ∷ 0 ∷ []) (text "dead" ∷ more);
  }

  kind4 : Ruled version 4 first 0
  unfolding rule_text spaced AllPlain walk place_after set_after row_for Below.first some reading grammar letters_on
  kind4 = record {
    words = text "fails" ∷ text "at" ∷ decimal first ∷ text "in" ∷ text "a" ∷ text "row" ∷ [];
    spelled = refl;
    plain = (plain-fails, (plain_at, (plain-number first, (plain_in, (plain-a, (plain_row, tt))))));
    place = 21;
    stretches = inr (inl refl);
    walks = λ more. at-number (replicate sets 0) (text "in" ∷ text "a" ∷ text "row" ∷ more);
  }

  kind5 : Ruled version 5 first 0
  unfolding rule_text spaced AllPlain walk place_after set_after row_for Below.first some reading grammar letters_on
  kind5 = record {
    words = text "fails" ∷ text "at" ∷ decimal first ∷ text "in" ∷ text "a" ∷ text "row" ∷ text "round" ∷ [];
    spelled = refl;
    plain = (plain-fails, (plain_at, (plain-number first, (plain_in, (plain-a, (plain_row, (plain-round, tt)))))));
    place = 34;
    stretches = inl refl;
    walks = λ more. at-number (replicate sets 0) (text "in" ∷ text "a" ∷ text "row" ∷ text "round" ∷ more);
  }

  kind6 : Ruled version 6 first second
  unfolding rule_text spaced AllPlain walk place_after set_after row_for Below.first some reading grammar letters_on
  kind6 = record {
    words = text "fails" ∷ text "at" ∷ decimal first ∷ text "in" ∷ decimal second ∷ [];
    spelled = ap (λ x. text " fails at " ++ x) (append_assoc (decimal first) (text " in " ++ decimal second) []);
    plain = (plain-fails, (plain_at, (plain-number first, (plain_in, (plain-number second, tt)))));
    place = 22;
    stretches = inr (inr refl);
    walks = λ more. at-number (replicate sets 0) (text "in" ∷ decimal second ∷ more) ∙ in-number (6 ∷ first ∷ 0 ∷ 0 ∷ 0 ∷ 0 ∷ 0 ∷ 0 ∷ 0 ∷ 0 ∷ 0 ∷ []) more;
  }

  kind7 : Ruled version 7 first second
  unfolding rule_text spaced AllPlain walk place_after set_after row_for Below.first some reading grammar letters_on
  kind7 = record {
    words = text "fails" ∷ text "at" ∷ decimal first ∷ text "in" ∷ decimal second ∷ text "round" ∷ [];
    spelled = ap (λ x. text " fails at " ++ x) (append_assoc (decimal first) (text " in " ++ decimal second) (text " round"));
    plain = (plain-fails, (plain_at, (plain-number first, (plain_in, (plain-number second, (plain-round, tt))))));
    place = 34;
    stretches = inl refl;
    walks = λ more. at-number (replicate sets 0) (text "in" ∷ decimal second ∷ text "round" ∷ more) ∙ in-number (6 ∷ first ∷ 0 ∷ 0 ∷ 0 ∷ 0 ∷ 0 ∷ 0 ∷ 0 ∷ 0 ∷ 0 ∷ []) (text "round" ∷ more);
  }

  kind8 : Ruled version 8 first second
  unfolding rule_text spaced AllPlain walk place_after set_after row_for Below.first some reading grammar letters_on
  kind8 = record {
    words = text "needs" ∷ decimal first ∷ text "of" ∷ text "any" ∷ decimal second ∷ [];
    spelled = ap (λ x. text " needs " ++ x) (append_assoc (decimal first) (text " of any " ++ decimal second) []);
    plain = (plain-needs, (plain-number first, (plain_of, (plain-any, (plain-number second, tt)))));
    place = 34;
    stretches = inl refl;
    walks = λ more. amount version 27 51 first f refl refl refl refl (omega arith) refl refl (8 ∷ 0 ∷ 0 ∷ 0 ∷ 0 ∷ 0 ∷ 0 ∷ 0 ∷ 0 ∷ 0 ∷ 0 ∷ []) (text "of" ∷ text "any" ∷ decimal second ∷ more) ∙ amount version 30 54 second s refl refl refl refl (omega arith) refl refl (8 ∷ first ∷ 0 ∷ 0 ∷ 0 ∷ 0 ∷ 0 ∷ 0 ∷ 0 ∷ 0 ∷ 0 ∷ []) more;
  }

  -- kind N first F second S
  by-numbers : (kind : ℕ) → kind ≤ most_number → rule_text kind first second ≡ by_numbers kind first second → Ruled version kind first second
  unfolding spaced AllPlain walk place_after set_after row_for Below.first some reading grammar letters_on
  by-numbers kind k is = record {
    words = text "kind" ∷ decimal kind ∷ text "first" ∷ decimal first ∷ text "second" ∷ decimal second ∷ [];
    spelled =
        ap (λ x. 32 ∷ x) is
        ∙ ap (λ x. text " kind " ++ (decimal kind ++ (text " first " ++ (decimal first ++ (text " second " ++ x))))) (sym (append-nil (decimal second)));
    plain = (plain-kind, (plain-number kind, (plain-first, (plain-number first, (plain_second, (plain-number second, tt))))));
    place = 34;
    stretches = inl refl;
    walks = λ more.
        amount version 31 56 kind k refl refl refl refl (omega arith) refl refl (replicate sets 0) (text "first" ∷ decimal first ∷ text "second" ∷ decimal second ∷ more)
        ∙ amount version 33 58 first f refl refl refl refl (omega arith) refl refl (kind ∷ 0 ∷ 0 ∷ 0 ∷ 0 ∷ 0 ∷ 0 ∷ 0 ∷ 0 ∷ 0 ∷ 0 ∷ []) (text "second" ∷ decimal second ∷ more)
        ∙ amount version 40 60 second s refl refl refl refl (omega arith) refl refl (kind ∷ first ∷ 0 ∷ 0 ∷ 0 ∷ 0 ∷ 0 ∷ 0 ∷ 0 ∷ 0 ∷ 0 ∷ []) more;
  }

  -- a kind without a second number, which a rule may carry all the same
  carried : (kind : ℕ) → kind ≤ most_number → Ruled version kind first 0 → ((second ≡ 0 → ⊥) → rule_text kind first second ≡ by_numbers kind first second) → Ruled version kind first second
  carried kind k none other =
      elim (ℕ_discrete second 0) [
        | yes e ↦ rw e none
        | no g ↦ by-numbers kind k (other g)
      ]

  pub ruled : (kind : ℕ) → kind ≤ most_number → Ruled version kind first second
  unfolding rule_text
  ruled kind k =
      elim (ℕ_discrete kind 1) [
        | yes e ↦ rw e (carried 1 (omega arith) kind1 (λ g. rw (ne_eqb second 0 g)))
        | no g1 ↦ elim (ℕ_discrete kind 2) [
          | yes e ↦ rw e (carried 2 (omega arith) kind2 (λ g. rw (ne_eqb second 0 g)))
          | no g2 ↦ elim (ℕ_discrete kind 3) [
            | yes e ↦ rw e (kind3)
            | no g3 ↦ elim (ℕ_discrete kind 4) [
              | yes e ↦ rw e (carried 4 (omega arith) kind4 (λ g. rw (ne_eqb second 0 g)))
              | no g4 ↦ elim (ℕ_discrete kind 5) [
                | yes e ↦ rw e (carried 5 (omega arith) kind5 (λ g. rw (ne_eqb second 0 g)))
                | no g5 ↦ elim (ℕ_discrete kind 6) [
                  | yes e ↦ rw e (kind6)
                  | no g6 ↦ elim (ℕ_discrete kind 7) [
                    | yes e ↦ rw e (kind7)
                    | no g7 ↦ elim (ℕ_discrete kind 8) [
                      | yes e ↦ rw e (kind8)
                      | no g8 ↦ by-numbers kind k (other-kind kind first second (λ l. past 8 g8 (past 7 g7 (past 6 g6 (past 5 g5 (past 4 g4 (past 3 g3 (past 2 g2 (past 1 g1 l)))))))))
                    ]
                  ]
                ]
              ]
            ]
          ]
        ]
      ]

-- the stretch: left out where it is the whole deck
abbrev pub is_whole : (n a b : ℕ) → Bool
is_whole n a b = eqb a 1 && eqb b n

abbrev pub stretch_words : (n a b : ℕ) → List (List ℕ)
stretch_words n a b = cond (is_whole n a b) [] (text "from" ∷ decimal a ∷ text "to" ∷ decimal b ∷ [])

-- and all that the line sets
abbrev pub set_by : (whole : Bool) (kind first second a b : ℕ) → List ℕ
set_by whole kind first second a b =
    cond whole (kind ∷ first ∷ second ∷ 0 ∷ 0 ∷ 0 ∷ 4 ∷ 0 ∷ 0 ∷ 0 ∷ 0 ∷ []) (kind ∷ first ∷ second ∷ a ∷ b ∷ 1 ∷ 4 ∷ 0 ∷ 0 ∷ 0 ∷ 0 ∷ [])

abbrev pub system_set : (n kind first second a b : ℕ) → List ℕ
system_set n kind first second a b = set_by (is_whole n a b) kind first second a b

pub stretch-spelled : (n a b : ℕ) → stretch_text n a b ≡ spaced (stretch_words n a b)
unfolding spaced
stretch-spelled n a b = go (is_whole n a b)
  where
    go : (t : Bool) → cond t [] ((text " from " ++ decimal a) ++ (text " to " ++ decimal b)) ≡ spaced (cond t [] (text "from" ∷ decimal a ∷ text "to" ∷ decimal b ∷ []))
    go true = refl
    go false = ap (λ x. text " from " ++ (decimal a ++ (text " to " ++ x))) (sym (append-nil (decimal b)))

pub stretch-plain : (n a b : ℕ) → AllPlain (stretch_words n a b)
unfolding AllPlain
stretch-plain n a b = go (is_whole n a b)
  where
    go : (t : Bool) → AllPlain (cond t [] (text "from" ∷ decimal a ∷ text "to" ∷ decimal b ∷ []))
    go true = tt
    go false = (plain-from, (plain-number a, (plain-to, (plain-number b, tt))))

module _ (version n kind first second a b : ℕ) (l : a ≤ most_number) (h : b ≤ most_number) where
  stretched : (whole : Bool) (place : ℕ) → (place ≡ 34) ⊎ ((place ≡ 21) ⊎ (place ≡ 22))
      → walk version place (rule_set kind first second) (cond whole [] (text "from" ∷ decimal a ∷ text "to" ∷ decimal b ∷ [])) ≡ stopped 0 [] (set_by whole kind first second a b)
  unfolding walk place_after set_after row_for Below.first some reading grammar letters_on
  stretched true place (inl e) = ap (λ p. walk version p (rule_set kind first second) []) e
  stretched true place (inr (inl e)) = ap (λ p. walk version p (rule_set kind first second) []) e
  stretched true place (inr (inr e)) = ap (λ p. walk version p (rule_set kind first second) []) e
  stretched false place e = here e ∙ behind
    where
      given : List ℕ
      given = kind ∷ first ∷ second ∷ 0 ∷ 0 ∷ 1 ∷ 0 ∷ 0 ∷ 0 ∷ 0 ∷ 0 ∷ []

      here : (place ≡ 34) ⊎ ((place ≡ 21) ⊎ (place ≡ 22))
          → walk version place (rule_set kind first second) (text "from" ∷ decimal a ∷ text "to" ∷ decimal b ∷ []) ≡ walk version 35 given (decimal a ∷ text "to" ∷ decimal b ∷ [])
      here (inl z) = ap (λ p. walk version p (rule_set kind first second) (text "from" ∷ decimal a ∷ text "to" ∷ decimal b ∷ [])) z
      here (inr (inl z)) = ap (λ p. walk version p (rule_set kind first second) (text "from" ∷ decimal a ∷ text "to" ∷ decimal b ∷ [])) z
      here (inr (inr z)) = ap (λ p. walk version p (rule_set kind first second) (text "from" ∷ decimal a ∷ text "to" ∷ decimal b ∷ [])) z

      behind : walk version 35 given (decimal a ∷ text "to" ∷ decimal b ∷ []) ≡ stopped 0 [] (kind ∷ first ∷ second ∷ a ∷ b ∷ 1 ∷ 4 ∷ 0 ∷ 0 ∷ 0 ∷ 0 ∷ [])
      behind =
          amount version 35 63 a l refl refl refl refl (omega arith) refl refl given (text "to" ∷ decimal b ∷ [])
          ∙ amount version 37 65 b h refl refl refl refl (omega arith) refl refl (kind ∷ first ∷ second ∷ a ∷ 0 ∷ 1 ∷ 0 ∷ 0 ∷ 0 ∷ 0 ∷ 0 ∷ []) []

  pub stretch-walk : (place : ℕ) → (place ≡ 34) ⊎ ((place ≡ 21) ⊎ (place ≡ 22))
      → walk version place (rule_set kind first second) (stretch_words n a b) ≡ stopped 0 [] (system_set n kind first second a b)
  stretch-walk place e = stretched (is_whole n a b) place e
