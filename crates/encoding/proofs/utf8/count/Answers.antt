use Rattle.std.proofs.Common.{◌≡◌, ◌∙◌, arith, rules, tests}
use Rattle.std.proofs.lemmas.Grind.{common_steps}
use Rattle.std.proofs.lemmas.Iterator.{YieldsList-from_slice}
use Rattle.std.proofs.lemmas.Iterator.Adapters.{fits_from_length, at_most_from_yields_List}
use Rattle.encoding.specs.Utf8.{first_bytes}
use Rattle.encoding.proofs.Reading.{chars_counted}
use Rattle.encoding.proofs.utf8.count.Goals as goal

-- a slice has less than 2 ^ 63 bytes, and each adds 1 at most
pub sum-requires-clause-fits : goal.sum-requires-clause-fits
sum-requires-clause-fits c =
    fits_from_length _ _ 9223372036854775808 _ (at_most_from_yields_List (YieldsList-from_slice c.args.s.now cc) (omega arith)) c.map.ensures.closure (omega arith)
    (λ x r q k. search (rules, tests))

pub returns-clause-chars : goal.returns-clause-chars
returns-clause-chars c = let e : c.sum.result ≡ first_bytes c.args.s.now = grind (arith, common_steps) in λ n t. e ∙ chars_counted t
