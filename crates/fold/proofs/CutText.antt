-- The text that a part of an accepted formula spans is an accepted formula itself, and means a tree that is alike but for spans and places.
use mathlib.Core.Path.{◌≡◌, refl, sym, ap, ap₂, subst, ◌∙◌}
use mathlib.Core.Bool.{true, ◌||◌}
use mathlib.Core.List.{List, [], ◌∷◌, ◌++◌, map, map-append, append_assoc}
use Prim.Native.Nat.{ℕ, suc, ◌+◌, ◌-◌, ◌≤◌, ◌<◌, ◌%◌, ◌^◌}
use native.Mathlib.Nat.{sub_self}
use native.Mathlib.Omega.{arith}
use lib.ListN.{length, get_or, take, drop, length-append, get_or-append}
use lib.Seq.{slice, take_at, drop_at, take-add, take-take, get_or-drop}
use Rattle.word.specs.Word as Word
use Rattle.formula.specs.Bytes.{open_bracket, close_bracket, star, plus_sign, minus_sign, caret}
use Rattle.formula.specs.Marks.{Mark, mark, marked}
use Rattle.formula.specs.Tree.{Span, span, first, end, Tree, span_of, nodes, holds_x}
use Rattle.formula.specs.Value.{value_for}
use Rattle.formula.specs.Grammar.{Number, covered, Sort, a_sum, a_product, a_factor, a_power, an_atom, Formula}
use Rattle.formula.specs.Grammar.{Means, one_product, joined_by_plus, joined_by_minus, one_factor, joined_by_star, only_power, leading_minus, only_atom, to_a_number, to_a_sum, a_number, an_x, bracketed_sum}
use Rattle.formula.specs.Refusals.{count, TooDeep, Part, itself, sum_left, sum-right, difference-left, difference-right, product-left, product-right}
use Rattle.formula.specs.Refusals.{under-minus, under-power, in_base, in_exponent}
use Rattle.formula.specs.Refusals.{Fault, too_long, too_deep, not-grammar, number-over, exponent-number-over, exponent-over, too_many, x_in_base, even_base, Accepted}
use Rattle.formula.proofs.TextMarks.{Rising, next-mark, rising_within, rising_upto, rising_parts, marked_rises, marked-length}
use Rattle.formula.proofs.Places.{some_byte}
use Rattle.formula.proofs.Spans.{marked-first, marked-end}
use Rattle.formula_scan.proofs.BracketCount.{count-append}
use Rattle.formula_scan.proofs.Faults.{part_of}
use Rattle.formula_scan.proofs.GrammarScan.{unambiguous}
use Rattle.fold.proofs.Bare.{Alike, numbers, variables, sums, differences, products, minuses, powers, raises}
use Rattle.fold.proofs.CutMarks.{bytes_of, length-bytes, Cut, cut, text_parts, own_marks}

-- ---- marks whose places are all d less
abbrev lower : ℕ → Mark → Mark
lower d (mark p c) = mark (p - d) c

lower-marked : (d p : ℕ) (s : List ℕ) → d ≤ p → map (lower d) (marked p s) ≡ marked (p - d) s
unfolding marked
lower-marked d p [] h = refl
lower-marked d p (c ∷ s) h = ap {B = List Mark} (λ m. mark (p - d) c ∷ m) (lower-marked d (suc p) s (omega arith) ∙ ap (λ n. marked n s) next)
  where
    next : suc p - d ≡ suc (p - d)
    next = omega arith

record Lowered (d : ℕ) (sort : Sort) (m : List Mark) (t : Tree) : Type 0 where
  tree : Tree
  means : Means sort (map (lower d) m) tree
  alike : Alike tree t

behind_one : {at upto p c : ℕ} {m : List Mark} → Rising at upto (mark p c ∷ m) → (at ≤ p) × Rising (suc p) upto m
behind_one (next-mark h R) = (h, R)

-- The operands of an operator between them, from d on.
module _ {d upto : ℕ} (s : List Mark) (p c : ℕ) (r : List Mark) (R : Rising d upto (s ++ mark p c ∷ r)) where
  left_rises : Rising d p s
  left_rises = (rising_parts s c r R).0

  right_rises : Rising d upto r
  right_rises =
      let (before, behind) = rising_parts s c r R in
      rising_within (omega (arith, rising_upto before)) (le_self upto) behind
    where
      le_self : (n : ℕ) → n ≤ n
      le_self n = omega arith

-- The digits of a number.
digits_from : {at upto : ℕ} (p : ℕ) {ds : List ℕ} {v : ℕ} → Number ds v → Rising at upto (marked p ds) → at ≤ p
unfolding marked
digits_from p {ds} N = go ds (omega (arith, some_byte (a_number {p = p} N), marked-length p ds))
  where
    go : {at upto : ℕ} (ds : List ℕ) → 1 ≤ length ds → Rising at upto (marked p ds) → at ≤ p
    go [] some R = absurd (omega arith)
    go (c ∷ ds) some R = (behind_one R).0

module _ {d upto : ℕ} (p place : ℕ) (s : List Mark) {ds : List ℕ} {n : ℕ} (N : Number ds n) (R : Rising d upto (s ++ mark p caret ∷ marked place ds)) where
  lower_literal : map (lower d) (s ++ mark p caret ∷ marked place ds) ≡ map (lower d) s ++ mark (p - d) caret ∷ marked (place - d) ds
  lower_literal =
      map-append (lower d) s (mark p caret ∷ marked place ds)
      ∙ ap (λ l. map (lower d) s ++ mark (p - d) caret ∷ l) (lower-marked d place ds (digits_from place N (right_rises s p caret (marked place ds) R)))

made : {sort : Sort} {m k : List Mark} {t u : Tree} (d : ℕ) → map (lower d) m ≡ k → Means sort k u → Alike u t → Lowered d sort m t
made {sort} {u = u} d e M like = record { tree = u; means = subst (λ l. Means sort l u) (sym e) M; alike = like }

lowered : {sort : Sort} {upto : ℕ} {m : List Mark} {t : Tree} (d : ℕ) → Means sort m t → Rising d upto m → Lowered d sort m t
lowered d (one_product M) R = let a = lowered d M R in made d refl (one_product a.means) a.alike
lowered d (joined_by_plus p {s} {r} M N) R =
    let a = lowered d M (left_rises s p plus_sign r R) in
    let b = lowered d N (right_rises s p plus_sign r R) in
    made d (map-append (lower d) s (mark p plus_sign ∷ r)) (joined_by_plus (p - d) a.means b.means) (sums a.alike b.alike)
lowered d (joined_by_minus p {s} {r} M N) R =
    let a = lowered d M (left_rises s p minus_sign r R) in
    let b = lowered d N (right_rises s p minus_sign r R) in
    made d (map-append (lower d) s (mark p minus_sign ∷ r)) (joined_by_minus (p - d) a.means b.means) (differences a.alike b.alike)
lowered d (one_factor M) R = let a = lowered d M R in made d refl (one_factor a.means) a.alike
lowered d (joined_by_star p {s} {r} M N) R =
    let a = lowered d M (left_rises s p star r R) in
    let b = lowered d N (right_rises s p star r R) in
    made d (map-append (lower d) s (mark p star ∷ r)) (joined_by_star (p - d) a.means b.means) (products a.alike b.alike)
lowered d (only_power M) R = let a = lowered d M R in made d refl (only_power a.means) a.alike
lowered d (leading_minus {p} {s} M) R =
    let a = lowered d M (right_rises [] p minus_sign s R) in
    made d refl (leading_minus {p = p - d} a.means) (minuses a.alike)
lowered d (only_atom M) R = let a = lowered d M R in made d refl (only_atom a.means) a.alike
lowered d (to_a_number p place {s} {ds} {t} {n} M N) R =
    let a = lowered d M (left_rises s p caret (marked place ds) R) in
    made d (lower_literal p place s N R) (to_a_number (p - d) (place - d) a.means N) (powers a.alike)
lowered d (to_a_sum p opens shut {s} {r} M N) R =
    let inner = left_rises (s ++ mark p caret ∷ mark opens open_bracket ∷ r) shut close_bracket [] R in
    let a = lowered d M (left_rises s p caret (mark opens open_bracket ∷ r) inner) in
    let b = lowered d N (right_rises [] opens open_bracket r (right_rises s p caret (mark opens open_bracket ∷ r) inner)) in
    made d
    (map-append (lower d) (s ++ mark p caret ∷ mark opens open_bracket ∷ r) (mark shut close_bracket ∷ [])
    ∙ ap (λ l. l ++ mark (shut - d) close_bracket ∷ []) (map-append (lower d) s (mark p caret ∷ mark opens open_bracket ∷ r)))
    (to_a_sum (p - d) (opens - d) (shut - d) a.means b.means) (raises a.alike b.alike)
lowered d (a_number {p} {ds} N) R = made d (lower-marked d p ds (digits_from p N R)) (a_number {p = p - d} N) numbers
lowered d (an_x {p}) R = made d refl (an_x {p = p - d}) variables
lowered d (bracketed_sum {opens} shut {s} M) R =
    let inner = left_rises (mark opens open_bracket ∷ s) shut close_bracket [] R in
    let a = lowered d M (right_rises [] opens open_bracket s inner) in
    made d (map-append (lower d) (mark opens open_bracket ∷ s) (mark shut close_bracket ∷ [])) (bracketed_sum {opens = opens - d} (shut - d) a.means) a.alike

-- ---- whatever is a formula is a sum
as_sum : (sort : Sort) {m : List Mark} {t : Tree} → Means sort m t → Means a_sum m t
as_sum a_sum M = M
as_sum a_product M = one_product M
as_sum a_factor M = one_product (one_factor M)
as_sum a_power M = one_product (one_factor (only_power M))
as_sum an_atom M = one_product (one_factor (only_power (only_atom M)))

-- ---- trees that are alike have the same values, and parts that are alike
value_alike : (w x : ℕ) {t u : Tree} → Alike t u → value_for w x t ≡ value_for w x u
unfolding value_for
value_alike w x numbers = refl
value_alike w x variables = refl
value_alike w x (sums h k) = ap₂ (Word.sum w) (value_alike w x h) (value_alike w x k)
value_alike w x (differences h k) = ap₂ (Word.difference w) (value_alike w x h) (value_alike w x k)
value_alike w x (products h k) = ap₂ (Word.product w) (value_alike w x h) (value_alike w x k)
value_alike w x (minuses h) = ap (Word.negation w) (value_alike w x h)
value_alike w x (powers {n = n} h) = ap (λ v. Word.power w v n) (value_alike w x h)
value_alike w x (raises h k) = ap₂ (Word.power w) (value_alike w x h) (value_alike w x k)

x_alike : {t u : Tree} → Alike t u → holds_x t ≡ holds_x u
unfolding holds_x
x_alike numbers = refl
x_alike variables = refl
x_alike (sums h k) = ap₂ ◌||◌ (x_alike h) (x_alike k)
x_alike (differences h k) = ap₂ ◌||◌ (x_alike h) (x_alike k)
x_alike (products h k) = ap₂ ◌||◌ (x_alike h) (x_alike k)
x_alike (minuses h) = x_alike h
x_alike (powers h) = x_alike h
x_alike (raises h k) = ap₂ ◌||◌ (x_alike h) (x_alike k)

nodes_alike : {t u : Tree} → Alike t u → nodes t ≡ nodes u
unfolding nodes
nodes_alike numbers = refl
nodes_alike variables = refl
nodes_alike (sums h k) = ap₂ (λ m n. m + n + 1) (nodes_alike h) (nodes_alike k)
nodes_alike (differences h k) = ap₂ (λ m n. m + n + 1) (nodes_alike h) (nodes_alike k)
nodes_alike (products h k) = ap₂ (λ m n. m + n + 1) (nodes_alike h) (nodes_alike k)
nodes_alike (minuses h) = ap (λ n. n + 1) (nodes_alike h)
nodes_alike (powers h) = ap (λ n. n + 1) (nodes_alike h)
nodes_alike (raises h k) = ap₂ (λ m n. m + n + 1) (nodes_alike h) (nodes_alike k)

nodes-part : {u t : Tree} → Part u t → nodes u ≤ nodes t
unfolding nodes
nodes-part itself = omega arith
nodes-part (sum_left k) = omega (arith, nodes-part k)
nodes-part (sum-right k) = omega (arith, nodes-part k)
nodes-part (difference-left k) = omega (arith, nodes-part k)
nodes-part (difference-right k) = omega (arith, nodes-part k)
nodes-part (product-left k) = omega (arith, nodes-part k)
nodes-part (product-right k) = omega (arith, nodes-part k)
nodes-part (under-minus k) = omega (arith, nodes-part k)
nodes-part (under-power k) = omega (arith, nodes-part k)
nodes-part (in_base k) = omega (arith, nodes-part k)
nodes-part (in_exponent k) = omega (arith, nodes-part k)

record PartLike (a u : Tree) : Type 0 where
  like : Tree
  inside : Part like u
  alike : Alike a like

deeper : {a u v : Tree} → ((b : Tree) → Part b u → Part b v) → PartLike a u → PartLike a v
deeper inside h = record { like = h.like; inside = inside h.like h.inside; alike = h.alike }

part_alike : {t u a : Tree} → Alike t u → Part a t → PartLike a u
part_alike h itself = record { like = _; inside = itself; alike = h }
part_alike (sums h k) (sum_left l) = deeper (λ b. sum_left) (part_alike h l)
part_alike (sums h k) (sum-right l) = deeper (λ b. sum-right) (part_alike k l)
part_alike (differences h k) (difference-left l) = deeper (λ b. difference-left) (part_alike h l)
part_alike (differences h k) (difference-right l) = deeper (λ b. difference-right) (part_alike k l)
part_alike (products h k) (product-left l) = deeper (λ b. product-left) (part_alike h l)
part_alike (products h k) (product-right l) = deeper (λ b. product-right) (part_alike k l)
part_alike (minuses h) (under-minus l) = deeper (λ b. under-minus) (part_alike h l)
part_alike (powers h) (under-power l) = deeper (λ b. under-power) (part_alike h l)
part_alike (raises h k) (in_base l) = deeper (λ b. in_base) (part_alike h l)
part_alike (raises h k) (in_exponent l) = deeper (λ b. in_exponent) (part_alike k l)

-- ---- three parts of a text, the second of which is cut out
module _ (f x y s : List ℕ) (parts : s ≡ f ++ x ++ y) where
  pub text_cut : slice (length f) (length f + length x) s ≡ x
  text_cut =
      ap (λ l. drop (length f) (take (length f + length x) l)) parts
      ∙ ap (drop (length f)) (take_at (f ++ x) y (length f + length x) (length-append f x))
      ∙ drop_at f x (length f) refl

  all-behind : s ≡ f ++ (x ++ y)
  all-behind = parts ∙ append_assoc f x y

  front_of : (k : ℕ) → k ≤ length x → take (length f + k) s ≡ f ++ take k x
  front_of k h =
      ap (take (length f + k)) all-behind
      ∙ take-add (length f) k (f ++ (x ++ y))
      ∙ ap₂ (λ a b. a ++ take k b) (take_at f (x ++ y) (length f) refl) (drop_at f (x ++ y) (length f) refl)
      ∙ ap (λ l. f ++ l) (sym (take-take k (length x) (x ++ y) h) ∙ ap (take k) (take_at x y (length x) refl))

  byte_of : (k : ℕ) → k < length x → get_or s (length f + k) 0 ≡ get_or x k 0
  byte_of k h =
      ap (λ l. get_or l (length f + k) 0) all-behind
      ∙ sym (get_or-drop (length f) (f ++ (x ++ y)) k 0)
      ∙ ap (λ l. get_or l k 0) (drop_at f (x ++ y) (length f) refl)
      ∙ get_or-append x y 0 k h

  shorter : length f + length x ≤ length s
  shorter = omega (arith, ap length parts, length-append (f ++ x) y, length-append f x)

  -- A bracket that is too deep in it is too deep in the whole, since no more are closed in front than are opened.
  too_deep_there : count close_bracket f ≤ count open_bracket f → (p : ℕ) → TooDeep x p → TooDeep s (length f + p)
  too_deep_there shut p deep = record {
    inside = omega (arith, shorter, deep.inside);
    opens = byte_of p deep.inside ∙ deep.opens;
    deep = omega (arith, counted close_bracket, counted open_bracket, deep.deep, shut);
  }
    where
      place : length f + p + 1 ≡ length f + (p + 1)
      place = omega arith

      counted : (b : ℕ) → count b (take (length f + p + 1) s) ≡ count b f + count b (take (p + 1) x)
      counted b =
          ap (λ n. count b (take n s)) place
          ∙ ap (count b) (front_of (p + 1) (omega (arith, deep.inside)))
          ∙ count-append b f (take (p + 1) x)

-- ---- the text of a part
pub record Alone (w : ℕ) (s : List ℕ) (u : Tree) : Type 0 where
  pub tree : Tree
  pub accepts : Accepted w (slice (first (span_of u)) (end (span_of u)) s) tree
  pub alike : Alike tree u

module _ {w : ℕ} {s : List ℕ} {t u : Tree} (A : Accepted w s t) (part : Part u t) where
  there : Cut u (marked 0 s)
  there = cut A.means.as_a_sum part

  text : List ℕ
  text = bytes_of there.own

  some : 1 ≤ length text
  unfolding text
  some = omega (arith, some_byte there.means, length-bytes there.own)

  own-span : span_of u ≡ span (length there.before) (length there.before + length text)
  unfolding text
  own-span =
      sym there.covers
      ∙ ap (λ m. covered m) (own_marks s u there)
      ∙ ap₂ span (marked-first (length there.before) text some) (marked-end (length there.before) text some)

  span-text : slice (first (span_of u)) (end (span_of u)) s ≡ text
  unfolding text
  span-text =
      ap (λ k. slice (first k) (end k) s) own-span
      ∙ ap (λ n. slice n (n + length text) s) (sym (length-bytes there.before))
      ∙ text_cut (bytes_of there.before) text (bytes_of there.behind) s (text_parts s u there)

  rises : Rising (length there.before) (length there.before + length text) (marked (length there.before) text)
  rises = marked_rises (length there.before) text (omega arith)

  moved : Lowered (length there.before) there.sort (marked (length there.before) text) u
  unfolding text
  moved = lowered (length there.before) (subst (λ m. Means there.sort m u) (own_marks s u there) there.means) rises

  formula : Formula text moved.tree
  formula = record {
    as_a_sum = as_sum there.sort
        (subst (λ m. Means there.sort m moved.tree)
        (lower-marked (length there.before) (length there.before) text (omega arith) ∙ ap (λ n. marked n text) (sub_self (length there.before)))
        moved.means);
  }

  -- ---- what applies to it applies to the whole text
  number_there : {k : Span} {p v : ℕ} {b : Tree} → Alike (Tree.number k p v) b → Part b u → 2 ^ w ≤ v → ⊥
  number_there numbers l over = A.faultless _ _ (number-over A.means (part_of l part) over)

  exponent_there : {k : Span} {a b : Tree} {p n : ℕ} → Alike (Tree.literal_power k a p n) b → Part b u → 2 ^ w ≤ n → ⊥
  exponent_there (powers h) l over = A.faultless _ _ (exponent-number-over A.means (part_of l part) over)

  power_there : {k : Span} {a b : Tree} {p n : ℕ} → Alike (Tree.literal_power k a p n) b → Part b u → 64 < n → ⊥
  power_there (powers h) l over = A.faultless _ _ (exponent-over A.means (part_of l part) over)

  x_there : {k : Span} {a b c : Tree} {p : ℕ} → Alike (Tree.raise k a p b) c → Part c u → holds_x a ≡ true → ⊥
  x_there (raises h k) l e = A.faultless _ _ (x_in_base A.means (part_of l part) (sym (x_alike h) ∙ e))

  even_there : {k : Span} {a b c : Tree} {p : ℕ} → Alike (Tree.raise k a p b) c → Part c u → value_for w 0 a % 2 ≡ 0 → ⊥
  even_there (raises h k) l e = A.faultless _ _ (even_base A.means (part_of l part) (ap (λ v. v % 2) (sym (value_alike w 0 h)) ∙ e))

  like : {a v : Tree} → Formula text v → Part a v → PartLike a u
  like {a} F k = part_alike moved.alike (subst (Part a) (unambiguous F formula) k)

  faultless : (n p : ℕ) → Fault w text n p → ⊥
  unfolding text
  faultless n p (too_long h) =
      A.faultless _ _
      (too_long (omega (arith, h, shorter (bytes_of there.before) text (bytes_of there.behind) s (text_parts s u there))))
  faultless n p (too_deep {p = q} D) =
      A.faultless _ _
      (too_deep (too_deep_there (bytes_of there.before) text (bytes_of there.behind) s (text_parts s u there) there.shut q D))
  faultless n p (not-grammar S) = S.outside moved.tree formula
  faultless n p (number-over F k over) = let l = like F k in number_there l.alike l.inside over
  faultless n p (exponent-number-over F k over) = let l = like F k in exponent_there l.alike l.inside over
  faultless n p (exponent-over F k over) = let l = like F k in power_there l.alike l.inside over
  faultless n p (too_many F many) =
      A.faultless _ _
      (too_many A.means (omega (arith, many, ap nodes (unambiguous F formula), nodes_alike moved.alike, nodes-part part)))
  faultless n p (x_in_base F k e) = let l = like F k in x_there l.alike l.inside e
  faultless n p (even_base F k e) = let l = like F k in even_there l.alike l.inside e

  pub alone : Alone w s u
  alone = record {
    tree = moved.tree;
    accepts = subst (λ x. Accepted w x moved.tree) (sym span-text) (record { means = formula; faultless = faultless });
    alike = moved.alike;
  }
