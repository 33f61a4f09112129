-- A list filled from its front, one number after the other.
use Rattle.std.proofs.Common.{◌≡◌, ℕ, ◌+◌, ◌<◌, ◌≤◌, not, leb, List, [], ◌∷◌, ◌++◌, map, length, get_or, take, drop, set, ℤ, pos, sym, ap, ◌∙◌, append_assoc, arith}
use Rattle.std.proofs.lemmas.List.{map-set, drop_more, set_at, map_more, length-map, length-take-le}
use Rattle.std.proofs.lemmas.List.Sums.{count_by_more_yes, count_by_more_no}
use Rattle.std.proofs.lemmas.Bool.{le-leb, lt-leb, not_from_true, not_from_false}
use Rattle.kernels.specs.declared.length.Unit.{Unit}
use Rattle.kernels.specs.Lengths.{in_unit, numbers_in, over_in}

pub one_more : {X : Type 0} (f : ℕ → ℤ) (number : X → ℤ) (ls : List ℕ) (start : List ℤ) (out : List X) (i : ℕ) (x : X)
    → map number out ≡ map f (take i ls) ++ drop i start → i < length ls → length ls ≤ length start → number x ≡ f (get_or ls i 0)
    → map number (set out i x) ≡ map f (take (i + 1) ls) ++ drop (i + 1) start
one_more f number ls start out i x e h l q =
    let front = map f (take i ls) in
    let n : length front ≡ i = length-map (take i ls) f ∙ length-take-le i ls (omega arith) in
    map-set number out i x
    ∙ ap (λ (zs : List ℤ). set zs i (number x)) e
    ∙ ap (λ (zs : List ℤ). set (front ++ zs) i (number x)) (drop_more start i (pos 0) (omega arith))
    ∙ set_at front (get_or start i (pos 0)) (drop (i + 1) start) (number x) i n
    ∙ sym (append_assoc front (number x ∷ []) (drop (i + 1) start))
    ∙ ap (λ (z : ℤ). (front ++ z ∷ []) ++ drop (i + 1) start) q
    ∙ ap (λ (zs : List ℤ). zs ++ drop (i + 1) start) (sym (map_more f ls i 0 h))

-- whether one length more is counted
pub over_more : (u : Unit) (c : ℕ) (ls : List ℕ) (i : ℕ) → i < length ls → c < in_unit u (get_or ls i 0) → over_in u c (take (i + 1) ls) ≡ over_in u c (take i ls) + 1
over_more u c ls i h l = count_by_more_yes (λ (n : ℕ). not (leb (in_unit u n) c)) ls i 0 h (not_from_false _ (lt-leb _ _ l))

pub over_same : (u : Unit) (c : ℕ) (ls : List ℕ) (i : ℕ) → i < length ls → in_unit u (get_or ls i 0) ≤ c → over_in u c (take (i + 1) ls) ≡ over_in u c (take i ls)
over_same u c ls i h l = count_by_more_no (λ (n : ℕ). not (leb (in_unit u n) c)) ls i 0 h (not_from_true _ (le-leb _ _ l))

-- the first i rows are written, and `over` of them counted
pub record Filling {X : Type 0} (u : Unit) (number : X → ℤ) (c : ℕ) (ls : List ℕ) (old new : List X) (i over : ℕ) : Type 0 where
  pub written : map number new ≡ numbers_in u c (take i ls) ++ drop i (map number old)
  pub counted : over ≡ over_in u c (take i ls)
  pub few : over ≤ i
  pub within : i ≤ length ls
