-- The lists with a row more.
use Rattle.std.proofs.Common.{◌≡◌, ◌+◌, ◌-◌, vec_len, pos, ap, ◌∙◌, arith}
use Rattle.std.proofs.lemmas.Result.{IfOk-weaker}
use Rattle.job.proofs.Growing.{lays_push}
use Rattle.job.proofs.gather.Gathered.add_row.Goals as goal

pub returns : goal.returns
returns g c =
    let some = c.args.self.now.begun in
    let rows : (c.len-rows.result - 1) + 1 ≡ vec_len c.args.self.now.offsets = omega arith in
    IfOk-weaker c.add_bit.result _ _
    (λ _ b. lays_push g.O.Offset.number c.args.self.now (record { offsets = c.push.new.self; «data» = c.extend_from_slice.new.self; validity = c.add_bit.new.validity; begun = _; small = _ })
    c.to_offset.result c.args.row.valid c.args.row.bytes.now (c.len-rows.result - 1) rows
    c.in_ok-push.ensures.items (c.to_offset.ensures ∙ ap pos c.len.ensures) c.in_ok-extend_from_slice.ensures.items b)
    c.add_bit.ensures
