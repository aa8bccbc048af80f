-- Document 01, "Stretches": "Components and weights outside it are not read", and a stretch "answers as a list of those components alone would, weights too".
use Rattle.std.specs.Prelude.{◌≡◌, true, length}
use Rattle.rules.specs.Boards.{has_boards}
use Rattle.rules.specs.Stretch.{stretch}
use Rattle.rules.specs.Asked.{Asked, question_of, asked_of, size_of, part_of, weights_of}

-- two questions about a stretch that differ at most in what stands outside it: its lists are as long, and have the same on the stretch
pub record Alike (q r : Asked) : Type 0 where
  pub version : q.version ≡ r.version
  pub rule : q.rule ≡ r.rule
  pub a : q.a ≡ r.a
  pub b : q.b ≡ r.b
  pub more : q.more ≡ r.more
  pub switchboards : q.switchboards ≡ r.switchboards
  pub as_many_fans : length q.survival ≡ length r.survival
  pub as_many_weights : length q.weights ≡ length r.weights
  pub as_many_boards : length q.boards ≡ length r.boards
  pub same_fans : part_of q ≡ part_of r
  pub same_weights : weights_of q ≡ weights_of r
  pub same_boards : stretch q.a q.b q.boards ≡ stretch r.a r.b r.boards

-- the stretch's components as a list by themselves, with their weights and boards
abbrev pub alone : Asked → Asked
alone q = asked_of (question_of q.version q.rule 1 (size_of q)) (part_of q) (weights_of q) q.more (stretch q.a q.b q.boards) q.switchboards

-- weights and boards, where they are read, are as many as the components
pub record Paired (q : Asked) : Type 0 where
  pub weights : q.rule.kind ≡ 2 → length q.weights ≡ length q.survival
  pub boards : has_boards q.version ≡ true → length q.boards ≡ length q.survival
