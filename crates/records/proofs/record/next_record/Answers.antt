use Rattle.std.proofs.Common.{◌≡◌, ◌-◌, ◌<◌, length, take, ap, length-append, arith}
use Rattle.std.proofs.lemmas.Result.{MatchResult-from_err}
use Rattle.records.specs.Kinds.{kind_of}
use Rattle.records.proofs.Records.{kind_after, stands_parts, stands_bodiless}
use Rattle.records.proofs.record.next_record.Goals as goal

pub returns-in_err-size-clause-reads : goal.returns-in_err-size-clause-reads
returns-in_err-size-clause-reads c = MatchResult-from_err _ _ _ c.from_residual.ensures.0 (λ _ x rest h. c.in_err-size.ensures _ h.1 h.2)

pub returns-in_err-kind-clause-reads : goal.returns-in_err-kind-clause-reads
returns-in_err-kind-clause-reads c =
    MatchResult-from_err _ _ _ c.from_residual-in_err-kind.ensures.0
    (λ _ x rest h. c.in_err-kind.ensures _ _ (kind_after x c.in_ok-size.ensures h))

pub returns-in_err-body_size-clause-reads : goal.returns-in_err-body_size-clause-reads
returns-in_err-body_size-clause-reads c =
    let l : c.in_ok-size.size < 2 = grind arith in
    MatchResult-from_err _ _ _ c.from_residual-in_err-body_size.ensures.0
    (λ _ x rest h. omega (arith, l, (stands_parts x c.in_ok-size.ensures c.in_ok-kind.ensures h).0))

pub returns-in_err-body-clause-reads : goal.returns-in_err-body-clause-reads
returns-in_err-body-clause-reads c =
    let l : length c.in_ok-kind.rest.now < c.in_ok-size.size - 2 = grind arith in
    MatchResult-from_err _ _ _ c.from_residual-in_err-body.ensures.0
    (λ _ x rest h.
    let p = stands_parts x c.in_ok-size.ensures c.in_ok-kind.ensures h in
    omega (arith, l, p.0, ap length p.2, length-append h.0 rest))

pub returns-in_err-kind-2-clause-reads : goal.returns-in_err-kind-2-clause-reads
returns-in_err-kind-2-clause-reads c =
    MatchResult-from_err _ _ _ c.from_residual-in_err-kind-2.ensures.0
    (λ _ x rest h. c.in_err-kind-2.ensures (kind_of x) (stands_parts x c.in_ok-size.ensures c.in_ok-kind.ensures h).1)

pub returns-in_err-read_body-clause-reads : goal.returns-in_err-read_body-clause-reads
returns-in_err-read_body-clause-reads c =
    let e : c.in_ok-body.body.now ≡ take (c.in_ok-size.size - 2) c.in_ok-kind.rest.now = grind arith in
    MatchResult-from_err _ _ _ c.from_residual-in_err-read_body.ensures.0
    (λ _. stands_bodiless c.in_ok-size.ensures c.in_ok-kind.ensures c.in_ok-kind-2.ensures e c.in_err-read_body.ensures)
