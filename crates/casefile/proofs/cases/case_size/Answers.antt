-- `cases::case_size` meets its contract: the list is the weights, and each test that was passed is one of its facts. Assumes nothing.
use Rattle.std.proofs.Common.{◌<◌, arith, rules}
use Rattle.casefile.proofs.cases.case_size.Goals as goal

pub overflow_sub-head : goal.overflow_sub-head
overflow_sub-head c = search rules

pub overflow_add-at : goal.overflow_add-at
overflow_add-at c = search rules

pub list_size-list-requires : goal.list_size-list-requires
list_size-list-requires c = search rules

pub returns-then-list-eq0 : goal.returns-then-list-eq0
returns-then-list-eq0 c = search rules

pub overflow_add-at-2 : goal.overflow_add-at-2
overflow_add-at-2 c = search rules

pub overflow_sub-list : goal.overflow_sub-list
overflow_sub-list c = search rules

pub fit-requires : goal.fit-requires
fit-requires c =
    let ends = c.list_size-list.ensures.ends (omega arith) in
    record { begins = omega (arith, ends); counted = omega (arith, ends) }

pub overflow_sub-result : goal.overflow_sub-result
overflow_sub-result c = search rules

pub overflow_add-result : goal.overflow_add-result
overflow_add-result c = search rules

pub returns-then-fit : goal.returns-then-fit
returns-then-fit c =
    let some : 0 < c.list_size-list.result = omega arith in
    record {
      most = omega (arith, c.list_size-list.ensures.most);
      ends = omega (arith, c.list_size-list.ensures.ends some);
      counted = λ l. omega (arith, c.list_size-list.ensures.counted some);
      small = λ k l. c.fit.ensures.0 c.if-fit.true k (omega arith);
    }

pub returns : goal.returns
returns c = search rules
