use Rattle.std.proofs.Common.{refl, arith}
use Rattle.std.proofs.lemmas.Grind.{common_steps}
use Rattle.std.proofs.lemmas.Bool.Decides.{Decides-like}
use Rattle.encoding.proofs.Chars.{char_1, char_2, char_3, char_4}
use Rattle.encoding.proofs.utf8.is_char.Goals as goal

pub returns-in-0-to-127 : goal.returns-in-0-to-127
returns-in-0-to-127 c = (λ _. char_1 c.args.c.now (omega arith) (omega arith, omega arith), λ _. refl)

pub returns-in-194-to-223 : goal.returns-in-194-to-223
returns-in-194-to-223 c = let k = char_2 c.args.c.now (omega arith) (omega arith, omega arith) in Decides-like _ k.0 k.1 c.tail.ensures

pub returns-then-second : goal.returns-then-second
returns-then-second c =
    let k = char_3 c.args.c.now (omega arith) (omega arith, omega arith) in
    let s = c.if-second.ensures in
    Decides-like _ (λ t. k.0 (s.0 refl, t)) (λ h. (k.1 h).1) c.tail-then-second.ensures

pub returns-then-tail : goal.returns-then-tail
returns-then-tail c =
    let k = char_4 c.args.c.now (omega arith) (omega arith, omega arith) in
    Decides-like _ (λ t. k.0 (grind (arith, common_steps), grind (arith, common_steps), t)) (λ h. (k.1 h).2) c.tail-then-tail.ensures

pub returns-else-tail : goal.returns-else-tail
returns-else-tail c =
    let k = char_4 c.args.c.now (omega arith) (omega arith, omega arith) in
    (λ e. cc, λ h. let p = k.1 h in grind (arith, common_steps, p.0, p.1))
