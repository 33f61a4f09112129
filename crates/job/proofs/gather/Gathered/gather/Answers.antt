-- The rows that are read stand in the lists, and what is left follows them.
use Rattle.std.proofs.Common.{[], refl, ◌∷◌, ◌++◌, arith}
use Rattle.std.proofs.lemmas.Bool.Decides.{nat_tests}
use Rattle.std.proofs.lemmas.Result.{err_from_is_err_and}
use Rattle.job.proofs.Gathering.{rows_are}
use Rattle.job.proofs.Growing.{taken_more, taken_all, taken_never}
use Rattle.job.proofs.gather.Gathered.gather.Goals as goal

pub returns-in_err-row : goal.returns-in_err-row
returns-in_err-row g c =
    let p = err_from_is_err_and c.from_residual-in_err-row.result c.from_residual-in_err-row.ensures.1 in
    rw (p.1, p.2) (
      refl,
      taken_never g.O.Offset.number c.args.part.bytes.now c.loop-rest.rest.now c.loop-rest.lists c.loop-rest.invariant.0 c.loop-rest.invariant.1
          (grind (arith, nat_tests)) c.in_err-row.ensures.reads,
    )

pub loop-rest-preserved : goal.loop-rest-preserved
loop-rest-preserved g c = (
  c.loop-rest.invariant.0 ++ record { valid = c.in_ok-row.row.valid; bytes = c.in_ok-row.row.bytes.now } ∷ [],
  taken_more g.O.Offset.number c.args.part.bytes.now c.loop-rest.rest.now c.in_ok-row.after.now c.loop-rest.lists c.add_row.new.self
      c.in_ok-row.row.valid c.in_ok-row.row.bytes.now c.loop-rest.invariant.0 c.loop-rest.invariant.1
      c.in_ok-row.ensures.reads (c.in_ok-add_row.ensures c.loop-rest.invariant.0 c.loop-rest.invariant.1.lays),
)

pub returns : goal.returns
returns g c =
    let rs = c.loop-rest.invariant.0 in
    let k = c.loop-rest.invariant.1 in
    (rs, taken_all g.O.Offset.number c.args.part.bytes.now c.loop-rest.rest.now c.loop-rest.lists rs k (grind (arith, nat_tests)), k.lays)

pub add_row-requires-clause-covered : goal.add_row-requires-clause-covered
add_row-requires-clause-covered g c =
    let l = c.loop-rest.invariant.1.lays in
    let size = c.loop-rest.lists.validity.ok.0 in
    omega (arith, rows_are g.O.Offset.number c.loop-rest.lists c.loop-rest.invariant.0 l, l.covered)
