-- `asks` meets its contract: each test that the program made is the definition's. Assumes nothing.
use mathlib.Core.Path.{◌≡◌, sym, ap, ◌∙◌}
use mathlib.Core.Bool.{false}
use native.Mathlib.Omega.{arith}
use Rattle.rules.specs.File.{header_length, version_in, bad_start}
use Rattle.rules.proofs.Numbers.{number-some}
use Rattle.layout.proofs.Versions.{header-bounds}
use Rattle.deck.specs.Head.{length_by, counts_refusal}
use Rattle.deck.proofs.Outcome.{head-is}
use Rattle.ending.proofs.Asking.{asks-short, asks-header, asks-start, asks-refused, asks-whole, whole-most}
use borrow.Author.Rules.{rules}
use Rattle.ending.proofs.asks.Goals as goal
use Rattle.ending.proofs.asks.Goals.{After-header_length-header, Else-bad_start}

-- the header's length is the file's own, and its start is sound
header : (c : After-header_length-header) → c.header_length-header.result ≡ header_length (version_in c.args.bytes.now)
header c = c.header_length-header.ensures.0 ∙ ap header_length c.number2-version.ensures

started : (c : Else-bad_start) → let read = c.before.before.before.before in bad_start read.before.before.before.args.bytes.now ≡ false
started c = sym c.bad_start.ensures ∙ c.if-bad_start.false

pub returns-then-bytes-lt-SHORTEST_HEADER : goal.returns-then-bytes-lt-SHORTEST_HEADER
returns-then-bytes-lt-SHORTEST_HEADER c = (sym (asks-short _ c.if-bytes-lt-SHORTEST_HEADER.true), omega arith)

pub returns-then-bytes-header : goal.returns-then-bytes-header
returns-then-bytes-header c =
    let is = header ((goal.at.returns-then-bytes-header c).After-header_length-header) in
    (is ∙ sym (asks-header c.args.bytes.now c.if-bytes-lt-SHORTEST_HEADER.false (rw is at c.if-bytes-header.true)), omega (arith, is, header-bounds (version_in c.args.bytes.now)))

pub returns-then-bad_start : goal.returns-then-bad_start
returns-then-bad_start c =
    let is = header ((goal.at.returns-then-bad_start c).After-header_length-header) in
    let there = rw is at c.if-bytes-header.false in
    (is ∙ sym (asks-start c.args.bytes.now there (sym c.bad_start.ensures ∙ c.if-bad_start.true)), omega (arith, is, header-bounds (version_in c.args.bytes.now)))

pub head_given-head-requires : goal.head_given-head-requires
head_given-head-requires c =
    record { long = rw (header ((goal.at.head_given-head-requires c).After-header_length-header)) at c.if-bytes-header.false; is = c.number2-version.ensures }

pub returns-in-Err : goal.returns-in-Err
returns-in-Err c =
    let is = header ((goal.at.returns-in-Err c).After-header_length-header) in
    let there = rw is at c.if-bytes-header.false in
    let counts = c.in-Err.ensures ∙ ap counts_refusal (head-is c.head_given-head.ensures.says) in
    (is ∙ sym (asks-refused c.args.bytes.now there (started ((goal.at.returns-in-Err c).Else-bad_start)) (λ e. number-some _ (counts ∙ e))), omega (arith, is, header-bounds (version_in c.args.bytes.now)))

pub returns : goal.returns
returns c =
    let there = rw (header ((goal.at.returns c).After-header_length-header)) at c.if-bytes-header.false in
    let head = head-is c.head_given-head.ensures.says in
    let none = sym (c.in_default.ensures ∙ ap counts_refusal head) in
    let whole = c.length_given.ensures ∙ ap length_by head in
    (whole ∙ sym (asks-whole c.args.bytes.now there (started ((goal.at.returns c).Else-bad_start)) none), omega (arith, whole, whole-most c.args.bytes.now none))
