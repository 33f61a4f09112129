-- Rows gathered into the lists of a column: what the column over these lists means, and how the lists grow.
use Rattle.std.proofs.Common.{◌≡◌, ℕ, zero, suc, ◌+◌, ◌-◌, ◌<◌, ◌≤◌, Bool, true, List, [], ◌∷◌, ◌++◌, map, length, get_or, take, drop, ℤ, pos, ◌≤ℤ◌, sum_by, vec_items, vec_len, sym, refl, ap, ◌∙◌, subst, arith}
use Rattle.std.specs.List.{range_with_len, flat_map, between}
use Rattle.std.proofs.lemmas.List.{length-append, length-map, append_assoc, take_at, drop_at, drop_more, take-append-drop, same_lists}
use Rattle.std.proofs.lemmas.List.Sums.{sum_by-cons, sum_by_more, sum_by-take-le}
use Rattle.std.proofs.lemmas.List.FromFn.{length-map-range_with_len, get_or-map-range_with_len}
use Rattle.std.proofs.lemmas.Int.{ints}
use Rattle.encoding.specs.Offsets.{numbers, ceiling_of, place, at, Right, AllRight}
use Rattle.columns.specs.declared.lists.Lists.{Lists}
use Rattle.columns.specs.Lists.{valid_at, covers, bytes_at, row_at, meaning_of, Shaped, Ordered}
use Rattle.records.specs.Layout.{GivenRow}
use Rattle.job.specs.declared.gather.Gathered.{Gathered}
use Rattle.job.specs.Gathered.{starts_of, given_of_row, Lays}

-- the bytes of these rows, one after another
abbrev pub bytes_of : List GivenRow → List ℕ
bytes_of rs = flat_map (λ r. r.bytes) rs

-- how many bytes these rows have
abbrev pub total_of : List GivenRow → ℕ
total_of rs = sum_by (λ r. length r.bytes) rs

pub total_cons : (r : GivenRow) (rs : List GivenRow) → total_of (r ∷ rs) ≡ length r.bytes + total_of rs
total_cons r rs = sum_by-cons (λ q. length q.bytes) r rs

pub length_bytes : (rs : List GivenRow) → length (bytes_of rs) ≡ total_of rs
length_bytes [] = refl
length_bytes (r ∷ rs) = length-append r.bytes (bytes_of rs) ∙ ap (λ (n : ℕ). length r.bytes + n) (length_bytes rs) ∙ sym (total_cons r rs)

pub bytes_append : (rs qs : List GivenRow) → bytes_of (rs ++ qs) ≡ bytes_of rs ++ bytes_of qs
bytes_append [] qs = refl
bytes_append (r ∷ rs) qs = ap (λ (l : List ℕ). r.bytes ++ l) (bytes_append rs qs) ∙ sym (append_assoc r.bytes (bytes_of rs) (bytes_of qs))

-- one offset more than rows
pub length_starts : (a : ℕ) (rs : List GivenRow) → length (starts_of a rs) ≡ length rs + 1
length_starts a [] = refl
length_starts a (r ∷ rs) = let h = length_starts (a + length r.bytes) rs in omega arith

-- offset i is the sum of the first i lengths
pub start_is : (a : ℕ) (rs : List GivenRow) (i : ℕ) → i ≤ length rs → at (starts_of a rs) i ≡ pos (a + total_of (take i rs))
start_is a [] zero h = ap pos (omega arith)
start_is a [] (suc i) h = absurd (omega arith)
start_is a (r ∷ rs) zero h = ap pos (omega arith)
start_is a (r ∷ rs) (suc i) h =
    let c = total_cons r (take i rs) in
    start_is (a + length r.bytes) rs i (omega arith) ∙ ap pos (omega arith)

start_at : (rs : List GivenRow) (i : ℕ) → i ≤ length rs → at (starts_of 0 rs) i ≡ pos (total_of (take i rs))
start_at rs i h = start_is 0 rs i h ∙ ap pos (omega arith)

rising : (rs : List GivenRow) (i : ℕ) → total_of (take i rs) ≤ total_of (take (suc i) rs)
rising [] zero = omega arith
rising [] (suc i) = omega arith
rising (r ∷ rs) zero = omega arith
rising (r ∷ rs) (suc i) = omega (arith, rising rs i, total_cons r (take i rs), total_cons r (take (suc i) rs))

ordered_pos : {a b : ℕ} (x y : ℤ) → x ≡ pos a → y ≡ pos b → a ≤ b → x ≤ℤ y
ordered_pos {a} {b} x y p q h =
    let k : pos a ≤ℤ pos b = grind (arith, ints) in
    subst (λ (z : ℤ). z ≤ℤ y) (sym p) (subst (λ (z : ℤ). pos a ≤ℤ z) (sym q) k)

start_right : (rs : List GivenRow) (k : ℕ) → k ≤ length rs → Right (starts_of 0 rs) (total_of rs) k
start_right rs zero h =
    let e = start_at rs zero h in
    let l = sum_by-take-le (λ r. length r.bytes) rs zero in
    (ordered_pos (pos 0) _ refl e (omega arith), ordered_pos (pos 0) _ refl e (omega arith), ordered_pos _ (pos (total_of rs)) e refl l)
start_right rs (suc k) h =
    let e = start_at rs (suc k) h in
    let f = start_at rs k (omega arith) in
    let l = sum_by-take-le (λ r. length r.bytes) rs (suc k) in
    (ordered_pos (pos 0) _ refl e (omega arith), ordered_pos _ _ f e (rising rs k), ordered_pos _ (pos (total_of rs)) e refl l)

-- the offsets of rows keep the rules
pub starts_right : (rs : List GivenRow) (c : ℕ) → total_of rs ≤ c → AllRight (starts_of 0 rs) c (total_of rs)
starts_right rs c h =
    let n = length_starts 0 rs in
    record {
      right = λ k l. start_right rs k (omega arith);
      low = λ k l.
          let b = sum_by-take-le (λ r. length r.bytes) rs k in
          ordered_pos _ (pos c) (start_at rs k (omega arith)) refl (omega arith);
    }

-- the bytes between two offsets are the row's
pub bytes_read : (rs : List GivenRow) (i : ℕ) (d : GivenRow) → i < length rs → bytes_at (starts_of 0 rs) (bytes_of rs) i ≡ (get_or rs i d).bytes
bytes_read rs i d h =
    let b = (get_or rs i d).bytes in
    let F = take i rs in
    let G = bytes_of (drop (i + 1) rs) in
    let c : total_of (take (i + 1) rs) ≡ total_of F + length b = sum_by_more (λ r. length r.bytes) rs i d h in
    let l : total_of (take (i + 1) rs) - total_of F ≡ length b = omega arith in
    let s : bytes_of rs ≡ bytes_of F ++ (b ++ G) = ap bytes_of (sym (take-append-drop i rs) ∙ ap (λ z. F ++ z) (drop_more rs i d h)) ∙ bytes_append F (get_or rs i d ∷ drop (i + 1) rs) in
    ap (λ (z : ℤ). between (place z) (place (at (starts_of 0 rs) (i + 1))) (bytes_of rs)) (start_at rs i (omega arith))
    ∙ ap (λ (z : ℤ). between (total_of F) (place z) (bytes_of rs)) (start_at rs (i + 1) (omega arith))
    ∙ ap (λ (z : ℕ). take z (drop (total_of F) (bytes_of rs))) l
    ∙ ap (λ (z : List ℕ). take (length b) (drop (total_of F) z)) s
    ∙ ap (take (length b)) (drop_at (bytes_of F) (b ++ G) (total_of F) (length_bytes F))
    ∙ take_at b G (length b) refl

map_map : {X Y Z : Type 0} (f : X → Y) (g : Y → Z) (xs : List X) → map g (map f xs) ≡ map (λ x. g (f x)) xs
map_map f g [] = refl
map_map f g (x ∷ xs) = ap (λ zs. g (f x) ∷ zs) (map_map f g xs)

row_same : (v : Bool) (s : List ℕ) (r : GivenRow) → v ≡ r.valid → s ≡ r.bytes → ◌≡◌ {A = GivenRow} (record { valid = v; bytes = s }) r
row_same v s r p q = λ i. record { valid = p i; bytes = q i }

-- the column over the lists of rows keeps the rules, and its rows are these
pub stands : (l : Lists) (rs : List GivenRow) → l.rows ≡ length rs → numbers l.offsets ≡ starts_of 0 rs → l.«data».now ≡ flat_map (λ r. r.bytes) rs
    → covers l.validity l.rows ≡ true → ((k : ℕ) (d : GivenRow) → k < length rs → valid_at l.validity k ≡ (get_or rs k d).valid)
    → length rs ≤ 2147483647 → length (flat_map (λ r. r.bytes) rs) ≤ ceiling_of l.offsets
    → Shaped l × Ordered l × (map given_of_row (meaning_of l).rows ≡ rs) × ((i : ℕ) (d : GivenRow) → i < length rs → bytes_at (numbers l.offsets) l.«data».now i ≡ (get_or rs i d).bytes)
unfolding meaning_of
stands l rs n o c m v few small =
    let size = length_bytes rs in
    let all = starts_right rs (ceiling_of l.offsets) (omega arith) in
    let end : total_of rs ≡ length l.«data».now = sym size ∙ ap length (sym c) in
    let ordered : Ordered l = subst (λ (os : List ℤ). AllRight os (ceiling_of l.offsets) (length l.«data».now)) (sym o) (subst (λ (e : ℕ). AllRight (starts_of 0 rs) (ceiling_of l.offsets) e) end all) in
    let read : (i : ℕ) (d : GivenRow) → i < length rs → bytes_at (numbers l.offsets) l.«data».now i ≡ (get_or rs i d).bytes = λ i d h.
    ap (λ (os : List ℤ). bytes_at os l.«data».now i) o ∙ ap (λ (ds : List ℕ). bytes_at (starts_of 0 rs) ds i) c ∙ bytes_read rs i d h in
    let row : ℕ → GivenRow = λ i. given_of_row (row_at l i) in
    let long : length (map row (range_with_len 0 l.rows)) ≡ l.rows = length-map-range_with_len row 0 l.rows in (
      record { few = omega arith; counted = ap length o ∙ length_starts 0 rs ∙ ap (λ (k : ℕ). k + 1) (sym n); mapped = m },
      ordered,
      map_map (row_at l) given_of_row (range_with_len 0 l.rows)
          ∙ same_lists (map row (range_with_len 0 l.rows)) rs (long ∙ n)
          (λ k d h.
          let i : k < l.rows = subst (λ (z : ℕ). k < z) long h in
          let j : k < length rs = omega arith in
          get_or-map-range_with_len row 0 l.rows k k d i (omega arith) ∙ row_same _ _ (get_or rs k d) (v k d j) (read k d j)),
      read,
    )

-- the lists of rows have one offset more than rows
pub rows_are : {X : Type 0} (number : X → ℤ) (g : Gathered X) (rs : List GivenRow) → Lays number g rs → vec_len g.offsets ≡ length rs + 1
rows_are number g rs y = g.offsets.ok.0 ∙ sym (length-map (vec_items g.offsets) number) ∙ ap length y.starts ∙ length_starts 0 rs
