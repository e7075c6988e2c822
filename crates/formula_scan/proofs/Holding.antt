-- From the scan to the grammar: what each state holds of the marks read so far, whatever the place of the next byte. Each step keeps it, and it
-- can always be completed.
use mathlib.Core.Path.{◌≡◌, refl, sym, ap, ap₂, subst, ◌∙◌}
use mathlib.Core.List.{List, [], ◌∷◌, ◌++◌, append_assoc, append-nil}
use Prim.Native.Nat.{ℕ, suc, ◌+◌, ◌-◌, ◌*◌, ◌≤◌}
use native.Mathlib.Omega.{arith}
use lib.ListN.{length, length-append}
use Rattle.formula.specs.Bytes.{open_bracket, close_bracket, star, plus_sign, minus_sign, caret, letter_x, Digit, digits_from}
use Rattle.formula.specs.Marks.{Mark, mark, marked}
use Rattle.formula.specs.Tree.{Span, span, first, end, Tree, number, sum, difference, product, minus, literal_power, raise}
use Rattle.formula.specs.Grammar.{Digits, no_digit, digit, Number, nought, digits, Sort, a_sum, a_product, a_factor, a_power, an_atom, first_place, end_place, covered, Means, one_product, joined_by_plus, joined_by_minus, one_factor, joined_by_star, only_power, leading_minus, only_atom, to_a_number, to_a_sum, a_number, an_x, bracketed_sum}
use Rattle.formula_scan.specs.Scan.{Byte, plus_byte, minus_byte, star_byte, caret_byte, open_byte, close_byte, x_byte, zero_byte, digit_byte, other_byte, byte_of, Piece, piece, noded, number_to, letter_at, negative, literal_to, raise_to, joined, PendingSum, no_sum, adding, subtracting, PendingProduct, no_product, multiplying, Level, level, Outer, bottom, in_brackets, in_exponent, fresh, State, operand, in_number, atomed, after_caret, in_literal, powered, stopped, negatives, product_with, sum_with, product_value, sum_value, closed, after_power, after_atom, after_digit, after_literal_digit, before_operand, before_exponent, step, Outcome, reads, stops, ended, ending}
use Rattle.formula.proofs.DigitLists.{digits-both, value-both}
use Rattle.formula.proofs.TextMarks.{marked_next}
use Rattle.formula.proofs.Places.{some_byte}
use Rattle.formula.proofs.Spans.{covered-joined, covered-behind, number_covers, literal_covers, raise_covers, brackets_cover}
use Rattle.formula_scan.proofs.Scanning.{Is, byte_is}

-- ---- `Of sort x s`: the marks s are of that sort and mean x's tree, and x is what they cover
abbrev Of : Sort → Piece → List Mark → Type 0
Of sort x s = Means sort s x.tree × (x.text ≡ covered s)

-- A node that was made over what its marks cover.
made : {sort : Sort} {s : List Mark} (node : Span → Tree) {k : Span} → covered s ≡ k → Means sort s (node (covered s)) → Of sort (noded k node) s
made {sort} {s} node e M = (subst (λ z. Means sort s (node z)) e M, sym e)

-- ---- an atom and a ^, at place p
data Careted (x : Piece) (p : ℕ) : List Mark → Type 0 where
  careted : {s : List Mark} → Of an_atom x s → Careted x p (s ++ mark p caret ∷ [])

-- ---- `Pending lv w`: w are marks after which a power may begin, with lv pending
data Sign : ℕ → Piece → PendingSum → Type 0 where
  plus_sign_lem : {x : Piece} → Sign plus_sign x (adding x)
  minus_sign_lem : {x : Piece} → Sign minus_sign x (subtracting x)

data Pending : Level → List Mark → Type 0 where
  at_start : Pending (fresh bottom) []
  opened : {lv : Level} {w : List Mark} (p : ℕ) → Pending lv w → Pending (fresh (in_brackets lv p)) (w ++ mark p open_bracket ∷ [])
  raised : {lv : Level} {x : Piece} {p : ℕ} {w s : List Mark} (opens : ℕ) → Pending lv w → Careted x p s
      → Pending (fresh (in_exponent lv x p)) (w ++ s ++ mark opens open_bracket ∷ [])
  signed : {c : ℕ} {σ : PendingSum} {o : Outer} {x : Piece} {w s : List Mark} (p : ℕ) → Sign c x σ → Pending (fresh o) w → Of a_sum x s
      → Pending (level σ no_product [] o) (w ++ s ++ mark p c ∷ [])
  starred : {σ : PendingSum} {o : Outer} {x : Piece} {w s : List Mark} (p : ℕ) → Pending (level σ no_product [] o) w → Of a_product x s
      → Pending (level σ (multiplying x) [] o) (w ++ s ++ mark p star ∷ [])
  negated : {σ : PendingSum} {π : PendingProduct} {m : List ℕ} {o : Outer} {w : List Mark} (p : ℕ) → Pending (level σ π m o) w
      → Pending (level σ π (p ∷ m) o) (w ++ mark p minus_sign ∷ [])

-- `Ends lv K l`: after marks with lv pending, l ends with marks of which K holds.
record Ends (lv : Level) (K : List Mark → Type 0) (l : List Mark) : Type 0 where
  front : List Mark
  text : List Mark
  whole : front ++ text ≡ l
  pending : Pending lv front
  kind : K text

ends : {lv : Level} {K : List Mark → Type 0} {l : List Mark} (w s : List Mark) → w ++ s ≡ l → Pending lv w → K s → Ends lv K l
ends w s e P k = record { front = w; text = s; whole = e; pending = P; kind = k }

begin : {lv : Level} {K : List Mark → Type 0} {l : List Mark} (c : Mark) → Pending lv l → K (c ∷ []) → Ends lv K (l ++ c ∷ [])
begin {l = l} c P k = ends l (c ∷ []) refl P k

grow : {lv : Level} {K K' : List Mark → Type 0} {l : List Mark} (c : Mark) → Ends lv K l → ((s : List Mark) → K s → K' (s ++ c ∷ []))
    → Ends lv K' (l ++ c ∷ [])
grow c E f =
    ends E.front (E.text ++ c ∷ [])
    (sym (append_assoc E.front E.text (c ∷ [])) ∙ ap (λ x. x ++ c ∷ []) E.whole)
    E.pending
    (f E.text E.kind)

regard : {lv : Level} {K K' : List Mark → Type 0} {l : List Mark} → ((s : List Mark) → K s → K' s) → Ends lv K l → Ends lv K' l
regard f E = ends E.front E.text E.whole E.pending (f E.text E.kind)

taken : {lv lv' : Level} {K K' : List Mark → Type 0} {l : List Mark} → ((w s : List Mark) → Pending lv w → K s → Ends lv' K' (w ++ s))
    → Ends lv K l → Ends lv' K' l
taken {lv' = lv'} {K' = K'} f E = subst (λ x. Ends lv' K' x) E.whole (f E.front E.text E.pending E.kind)

pends : {lv lv' : Level} {K : List Mark → Type 0} {l : List Mark} (c : Mark)
    → ((w s : List Mark) → Pending lv w → K s → Pending lv' (w ++ s ++ c ∷ [])) → Ends lv K l → Pending lv' (l ++ c ∷ [])
pends {lv' = lv'} c f E = subst (λ x. Pending lv' (x ++ c ∷ [])) E.whole (f E.front E.text E.pending E.kind)

-- ---- what pends is taken in: minus signs, the product, the sum
-- Two operands, joined by a mark between them.
join : {left right sort : Sort} (node : Span → Tree → Tree → Tree) {a x : Piece} (s : List Mark) (m : Mark) (r : List Mark)
    → Of left a s → Of right x r → Means sort (s ++ m ∷ r) (node (covered (s ++ m ∷ r)) a.tree x.tree) → Of sort (joined node a x) (s ++ m ∷ r)
join node {a} {x} s m r (M, e) (N, q) K =
    made (λ z. node z a.tree x.tree)
    (covered-joined s m r (some_byte M) (some_byte N) ∙ ap₂ (λ f g. span (first f) (end g)) (sym e) (sym q)) K

minus_in : {σ : PendingSum} {o : Outer} {π : PendingProduct} {m : List ℕ} {x : Piece} {p : ℕ} (w s : List Mark) → Pending (level σ π (p ∷ m) o) w → Of a_factor x s
    → Ends (level σ π m o) (Of a_factor (negative p x)) (w ++ s)
minus_in {x = x} _ s (negated {w = w} p P) (M, e) =
    ends w (mark p minus_sign ∷ s) (simp append_assoc) P
    (made (λ z. minus z x.tree) (covered-behind p minus_sign s (some_byte M) ∙ ap (λ k. span p (end k)) (sym e)) (leading_minus M))

factor_of : {σ : PendingSum} {o : Outer} {π : PendingProduct} (m : List ℕ) {x : Piece} {l : List Mark} → Ends (level σ π m o) (Of a_factor x) l
    → Ends (level σ π [] o) (Of a_factor (negatives m x)) l
unfolding negatives
factor_of [] E = E
factor_of (p ∷ m) E = factor_of m (taken minus_in E)

product_in : {σ : PendingSum} {o : Outer} (π : PendingProduct) {x : Piece} (w r : List Mark) → Pending (level σ π [] o) w → Of a_factor x r
    → Ends (level σ no_product [] o) (Of a_product (product_with π x)) (w ++ r)
unfolding product_with
product_in no_product w r P (N, e) = ends w r refl P (one_factor N, e)
product_in (multiplying a) _ r (starred {w = w} {s} p P M) N =
    ends w (s ++ mark p star ∷ r) (simp append_assoc) P (join product s (mark p star) r M N (joined_by_star p M.0 N.0))

product_of : {σ : PendingSum} {o : Outer} {π : PendingProduct} {m : List ℕ} {x : Piece} {l : List Mark} → Ends (level σ π m o) (Of a_power x) l
    → Ends (level σ no_product [] o) (Of a_product (product_value π m x)) l
product_of {π = π} {m = m} E = taken (product_in π) (factor_of m (regard (λ s M. (only_power M.0, M.1)) E))

signed_in : {c : ℕ} {σ : PendingSum} {o : Outer} {a x : Piece} (p : ℕ) (w s r : List Mark) → Sign c a σ → Pending (fresh o) w → Of a_sum a s
    → Of a_product x r → Ends (fresh o) (Of a_sum (sum_with σ x)) (w ++ s ++ mark p c ∷ [] ++ r)
unfolding sum_with
signed_in p w s r plus_sign_lem P M N =
    ends w (s ++ mark p plus_sign ∷ r) (simp append_assoc) P (join sum s (mark p plus_sign) r M N (joined_by_plus p M.0 N.0))
signed_in p w s r minus_sign_lem P M N =
    ends w (s ++ mark p minus_sign ∷ r) (simp append_assoc) P (join difference s (mark p minus_sign) r M N (joined_by_minus p M.0 N.0))

sum_in : {o : Outer} (σ : PendingSum) {x : Piece} (w r : List Mark) → Pending (level σ no_product [] o) w → Of a_product x r
    → Ends (fresh o) (Of a_sum (sum_with σ x)) (w ++ r)
unfolding sum_with
sum_in no_sum w r P (N, e) = ends w r refl P (one_product N, e)
sum_in (adding a) _ r (signed {w = w} {s} p j P M) N = signed_in p w s r j P M N
sum_in (subtracting a) _ r (signed {w = w} {s} p j P M) N = signed_in p w s r j P M N

sum_of : {σ : PendingSum} {π : PendingProduct} {m : List ℕ} {o : Outer} {x : Piece} {l : List Mark} → Ends (level σ π m o) (Of a_power x) l
    → Ends (fresh o) (Of a_sum (sum_value σ π m x)) l
sum_of {σ} E = taken (sum_in σ) (product_of E)

-- ---- brackets, and the end of the text
data Shut (t : Tree) (closes : ℕ) : List Mark → Type 0 where
  shut : {s : List Mark} → Means a_sum s t → Shut t closes (s ++ mark closes close_bracket ∷ [])

shut_sum : {lv : Level} {x : Piece} {l : List Mark} (at : ℕ) → Ends lv (Of a_sum x) l → Ends lv (Shut x.tree at) (l ++ mark at close_bracket ∷ [])
shut_sum at E = grow (mark at close_bracket) E (λ s M. shut M.0)

bracket_in : {lv : Level} {t : Tree} {p closes : ℕ} (w s : List Mark) → Pending (fresh (in_brackets lv p)) w → Shut t closes s
    → Ends lv (Of an_atom (piece (span p (suc closes)) t)) (w ++ s)
bracket_in {closes = closes} _ _ (opened {w = w} p P) (shut {s = s} M) =
    ends w (mark p open_bracket ∷ s ++ mark closes close_bracket ∷ []) (simp append_assoc) P (bracketed_sum closes M, sym (brackets_cover p closes s))
bracket_in _ _ (signed _ S _ _) _ = elim S [ ]

exponent_in : {lv : Level} {a : Piece} {t : Tree} {p closes : ℕ} (w s : List Mark) → Pending (fresh (in_exponent lv a p)) w → Shut t closes s
    → Ends lv (Of a_power (raise_to a p t (suc closes))) (w ++ s)
exponent_in {a = a} {t} {p} {closes} _ _ (raised {w = w} opens P (careted {s = s} (M, e))) (shut {s = r} N) =
    ends w (s ++ mark p caret ∷ mark opens open_bracket ∷ r ++ mark closes close_bracket ∷ []) (simp append_assoc) P
    (made (λ z. raise z a.tree p t) (raise_covers p opens closes s r (some_byte M) ∙ ap (λ k. span (first k) (suc closes)) (sym e))
    (to_a_sum p opens closes M N))
exponent_in _ _ (signed _ S _ _) _ = elim S [ ]

bracketed : {lv : Level} {x : Piece} {p : ℕ} {l : List Mark} (at : ℕ) → Ends (fresh (in_brackets lv p)) (Of a_sum x) l
    → Ends lv (Of an_atom (piece (span p (suc at)) x.tree)) (l ++ mark at close_bracket ∷ [])
bracketed at E = taken bracket_in (shut_sum at E)

raised_to : {lv : Level} {a x : Piece} {p : ℕ} {l : List Mark} (at : ℕ) → Ends (fresh (in_exponent lv a p)) (Of a_sum x) l
    → Ends lv (Of a_power (raise_to a p x.tree (suc at))) (l ++ mark at close_bracket ∷ [])
raised_to at E = taken exponent_in (shut_sum at E)

whole_sum : {x : Piece} {l : List Mark} → Ends (fresh bottom) (Of a_sum x) l → Means a_sum l x.tree
whole_sum {x} {l} E = go E.pending E.text E.whole E.kind.0
  where
    go : {w : List Mark} → Pending (fresh bottom) w → (s : List Mark) → w ++ s ≡ l → Means a_sum s x.tree → Means a_sum l x.tree
    go at_start s e M = subst (λ y. Means a_sum y x.tree) e M
    go (signed _ S _ _) s e M = elim S [ ]

-- ---- numbers: digits that don't begin with 0
pub data Count : List ℕ → ℕ → Type 0 where
  count : {d : ℕ} {ds : List ℕ} {v : ℕ} → 49 ≤ d → d ≤ 57 → Digits ds → v ≡ digits_from 0 (d ∷ ds) → Count (d ∷ ds) v

zero-digit : Digit 48
zero-digit = (omega arith, omega arith)

other_digit : {c : ℕ} → 49 ≤ c → c ≤ 57 → Digit c
other_digit low high = (omega arith, high)

pub first-digit : {c : ℕ} → 49 ≤ c → c ≤ 57 → Count (c ∷ []) (c - 48)
unfolding digits_from
first-digit {c} low high = count {v = c - 48} low high no_digit (omega arith)

pub next-digit : {s : List ℕ} {v c : ℕ} → Count s v → Digit c → Count (s ++ c ∷ []) (10 * v + (c - 48))
unfolding digits_from
next-digit {c = c} (count {d} {ds} low high rest e) h =
    count low high (digits-both rest (digit h no_digit)) (ap (λ x. 10 * x + (c - 48)) e ∙ sym (value-both 0 (d ∷ ds) (c ∷ [])))

pub counted : {s : List ℕ} {v : ℕ} → Count s v → Number s v
counted (count {d} {ds} low high rest e) = subst (λ x. Number (d ∷ ds) x) (sym e) (digits low high rest)

-- A number that began at p, and an atom's literal exponent with its ^ at p; the last digit of either ends at e.
data Counting (p v e : ℕ) : List Mark → Type 0 where
  counting : {ds : List ℕ} → Count ds v → e ≡ p + length ds → Counting p v e (marked p ds)

data Literal (x : Piece) (p n e : ℕ) : List Mark → Type 0 where
  literal : {s : List Mark} {ds : List ℕ} (from : ℕ) → Careted x p s → Count ds n → e ≡ from + length ds → Literal x p n e (s ++ marked from ds)

number_of : {p v e : ℕ} (s : List Mark) → Counting p v e s → Of an_atom (number_to p v e) s
number_of {p} {v} _ (counting k q) =
    made (λ z. number z p v) (number_covers p (counted k) ∙ ap (λ z. span p z) (sym q)) (a_number (counted k))

power_to : {x : Piece} {p n e : ℕ} {s : List Mark} {ds : List ℕ} (from : ℕ) → Careted x p s → Number ds n → e ≡ from + length ds
    → Of a_power (literal_to x p n e) (s ++ marked from ds)
power_to {x} {p} {n} {e} {ds = ds} from (careted {s = s} (M, q)) k behind =
    subst (λ m. Of a_power (literal_to x p n e) m) (sym (append_assoc s (mark p caret ∷ []) (marked from ds)))
    (made (λ z. literal_power z x.tree p n)
    (literal_covers p from s (some_byte M) k ∙ ap₂ (λ f g. span (first f) g) (sym q) (sym behind)) (to_a_number p from M k))

literal_of : {x : Piece} {p n e : ℕ} (s : List Mark) → Literal x p n e s → Of a_power (literal_to x p n e) s
literal_of _ (literal from c k q) = power_to from c (counted k) q

one_further : (from : ℕ) (ds : List ℕ) (c : ℕ) {at : ℕ} → at ≡ from + length ds → suc at ≡ from + length (ds ++ c ∷ [])
one_further from ds c e = simp length-append (omega arith)

first-counting : {at c : ℕ} → 49 ≤ c → c ≤ 57 → Counting at (c - 48) (suc at) (mark at c ∷ [])
unfolding marked
first-counting {at} low high = let behind : suc at ≡ at + 1 = omega arith in counting (first-digit low high) behind

first_literal : {x : Piece} {p at c : ℕ} (s : List Mark) → 49 ≤ c → c ≤ 57 → Careted x p s → Literal x p (c - 48) (suc at) (s ++ mark at c ∷ [])
unfolding marked
first_literal {at = at} s low high k = let behind : suc at ≡ at + 1 = omega arith in literal at k (first-digit low high) behind

next-counting : {p v at c : ℕ} (s : List Mark) → Digit c → Counting p v at s → Counting p (10 * v + (c - 48)) (suc at) (s ++ mark at c ∷ [])
next-counting {p} {v} {at} {c} _ h (counting {ds = ds} k e) =
    subst (λ x. Counting p (10 * v + (c - 48)) (suc at) x) (marked_next p ds c e) (counting (next-digit k h) (one_further p ds c e))

next_literal : {x : Piece} {p n at c : ℕ} (s : List Mark) → Digit c → Literal x p n at s
    → Literal x p (10 * n + (c - 48)) (suc at) (s ++ mark at c ∷ [])
next_literal {x} {p} {n} {at} {c} _ h (literal {s = s} {ds} from k m e) =
    subst (λ z. Literal x p (10 * n + (c - 48)) (suc at) z) longer (literal from k (next-digit m h) (one_further from ds c e))
  where
    longer : s ++ marked from (ds ++ c ∷ []) ≡ s ++ marked from ds ++ mark at c ∷ []
    longer = ap (λ z. s ++ z) (marked_next from ds c e) ∙ sym (append_assoc s (marked from ds) (mark at c ∷ []))

-- 0 alone, as a number and as a literal exponent.
nought_at : (at : ℕ) → Of an_atom (number_to at 0 (suc at)) (mark at 48 ∷ [])
unfolding marked
nought_at at =
    let behind : suc at ≡ at + 1 = omega arith in
    made (λ z. number z at 0) (number_covers at nought ∙ ap (λ z. span at z) (sym behind)) (a_number nought)

nought_to : {x : Piece} {p : ℕ} {s : List Mark} (at : ℕ) → Careted x p s → Of a_power (literal_to x p 0 (suc at)) (s ++ mark at 48 ∷ [])
unfolding marked
nought_to at k = let behind : suc at ≡ at + 1 = omega arith in power_to at k nought behind

an_x_at : (at : ℕ) → Of an_atom (letter_at at) (mark at letter_x ∷ [])
unfolding first_place end_place
an_x_at at = (an_x, refl)

-- ---- what a state holds of the marks read so far, with the next byte at a place, right behind a digit; a stopped scan holds nothing
pub Holds : State → ℕ → List Mark → Type 0
Holds (operand lv) at l = Pending lv l
Holds (in_number lv p v e) at l = (e ≡ at) × Ends lv (Counting p v e) l
Holds (atomed lv x) at l = Ends lv (Of an_atom x) l
Holds (after_caret lv x p) at l = Ends lv (Careted x p) l
Holds (in_literal lv x p n e) at l = (e ≡ at) × Ends lv (Literal x p n e) l
Holds (powered lv x) at l = Ends lv (Of a_power x) l
Holds (stopped p) at l = ⊥

-- `Next at l S`: S holds the marks l, the last of them at this place, or has stopped there.
pub data Next (at : ℕ) (l : List Mark) : State → Type 0 where
  goes_on : {S : State} → Holds S (suc at) l → Next at l S
  halts : Next at l (stopped at)

-- A digit, with the next byte right behind it.
counting-on : {at p v : ℕ} {lv : Level} {l : List Mark} → Ends lv (Counting p v (suc at)) l → Next at l (in_number lv p v (suc at))
unfolding Holds
counting-on {at} {p} {v} {lv} E = goes_on {S = in_number lv p v (suc at)} (refl, E)

literal_on : {at p n : ℕ} {x : Piece} {lv : Level} {l : List Mark} → Ends lv (Literal x p n (suc at)) l → Next at l (in_literal lv x p n (suc at))
unfolding Holds
literal_on {at} {p} {n} {x} {lv} E = goes_on {S = in_literal lv x p n (suc at)} (refl, E)

-- ---- a byte and its class, for one match
data Spells : Byte → ℕ → Type 0 where
  a_plus : Spells plus_byte plus_sign
  a_minus : Spells minus_byte minus_sign
  a_star : Spells star_byte star
  a_caret : Spells caret_byte caret
  an_opening : Spells open_byte open_bracket
  a_closing : Spells close_byte close_bracket
  a_letter : Spells x_byte letter_x
  a_zero : Spells zero_byte 48
  a_digit : {c : ℕ} → 49 ≤ c → c ≤ 57 → Spells (digit_byte (c - 48)) c
  another : {c : ℕ} → Spells other_byte c

spelt : (b : Byte) (c : ℕ) → Is b c → Spells b c
spelt plus_byte c e = subst (Spells plus_byte) (sym e) a_plus
spelt minus_byte c e = subst (Spells minus_byte) (sym e) a_minus
spelt star_byte c e = subst (Spells star_byte) (sym e) a_star
spelt caret_byte c e = subst (Spells caret_byte) (sym e) a_caret
spelt open_byte c e = subst (Spells open_byte) (sym e) an_opening
spelt close_byte c e = subst (Spells close_byte) (sym e) a_closing
spelt x_byte c e = subst (Spells x_byte) (sym e) a_letter
spelt zero_byte c e = subst (Spells zero_byte) (sym e) a_zero
spelt (digit_byte d) c h = subst (λ x. Spells (digit_byte x) c) (sym h.2) (a_digit h.0 h.1)
spelt other_byte c h = another

spelling : (c : ℕ) → Spells (byte_of c) c
spelling c = spelt (byte_of c) c (byte_is c)

-- ---- each step keeps it
atom_power : {lv : Level} {x : Piece} {l : List Mark} → Ends lv (Of an_atom x) l → Ends lv (Of a_power x) l
atom_power E = regard (λ s M. (only_atom M.0, M.1)) E

module _ (at : ℕ) {l : List Mark} where
  operand_keeps : {b : Byte} {c : ℕ} → Spells b c → (lv : Level) → Pending lv l → Next at (l ++ mark at c ∷ []) (before_operand lv at b)
  unfolding Holds marked before_operand
  operand_keeps a_minus (level σ π m o) P = goes_on (negated at P)
  operand_keeps an_opening lv P = goes_on (opened at P)
  operand_keeps a_letter lv P = goes_on (begin (mark at letter_x) P (an_x_at at))
  operand_keeps a_zero lv P = goes_on (begin (mark at 48) P (nought_at at))
  operand_keeps (a_digit {c} low high) lv P = counting-on (begin (mark at c) P (first-counting low high))
  operand_keeps a_plus lv P = halts
  operand_keeps a_star lv P = halts
  operand_keeps a_caret lv P = halts
  operand_keeps a_closing lv P = halts
  operand_keeps another lv P = halts

  exponent_keeps : {b : Byte} {c : ℕ} → Spells b c → (lv : Level) {x : Piece} {p : ℕ} → Ends lv (Careted x p) l
      → Next at (l ++ mark at c ∷ []) (before_exponent lv x p at b)
  unfolding Holds marked before_exponent
  exponent_keeps a_zero lv E = goes_on (grow (mark at 48) E (λ s k. nought_to at k))
  exponent_keeps (a_digit {c} low high) lv E = literal_on (grow (mark at c) E (λ s. first_literal s low high))
  exponent_keeps an_opening lv E = goes_on (pends (mark at open_bracket) (λ w s P k. raised at P k) E)
  exponent_keeps a_plus lv E = halts
  exponent_keeps a_minus lv E = halts
  exponent_keeps a_star lv E = halts
  exponent_keeps a_caret lv E = halts
  exponent_keeps a_closing lv E = halts
  exponent_keeps a_letter lv E = halts
  exponent_keeps another lv E = halts

  closing_keeps : (o : Outer) {x : Piece} → Ends (fresh o) (Of a_sum x) l → Next at (l ++ mark at close_bracket ∷ []) (closed o x at)
  unfolding Holds closed
  closing_keeps bottom E = halts
  closing_keeps (in_brackets lv p) E = goes_on (bracketed at E)
  closing_keeps (in_exponent lv a p) E = goes_on (raised_to at E)

  power_keeps : {b : Byte} {c : ℕ} → Spells b c → (lv : Level) {x : Piece} → Ends lv (Of a_power x) l
      → Next at (l ++ mark at c ∷ []) (after_power lv x at b)
  unfolding Holds after_power
  power_keeps a_plus (level σ π m o) E = goes_on (pends (mark at plus_sign) (λ w s P M. signed at plus_sign_lem P M) (sum_of E))
  power_keeps a_minus (level σ π m o) E = goes_on (pends (mark at minus_sign) (λ w s P M. signed at minus_sign_lem P M) (sum_of E))
  power_keeps a_star (level σ π m o) E = goes_on (pends (mark at star) (λ w s P M. starred at P M) (product_of E))
  power_keeps a_closing (level σ π m o) E = closing_keeps o (sum_of E)
  power_keeps a_caret (level σ π m o) E = halts
  power_keeps an_opening (level σ π m o) E = halts
  power_keeps a_letter (level σ π m o) E = halts
  power_keeps a_zero (level σ π m o) E = halts
  power_keeps (a_digit low high) (level σ π m o) E = halts
  power_keeps another (level σ π m o) E = halts

  atom_keeps : {b : Byte} {c : ℕ} → Spells b c → (lv : Level) {x : Piece} → Ends lv (Of an_atom x) l
      → Next at (l ++ mark at c ∷ []) (after_atom lv x at b)
  unfolding Holds after_atom
  atom_keeps a_caret lv E = goes_on (grow (mark at caret) E (λ s M. careted M))
  atom_keeps a_plus lv E = power_keeps a_plus lv (atom_power E)
  atom_keeps a_minus lv E = power_keeps a_minus lv (atom_power E)
  atom_keeps a_star lv E = power_keeps a_star lv (atom_power E)
  atom_keeps a_closing lv E = power_keeps a_closing lv (atom_power E)
  atom_keeps an_opening lv E = halts
  atom_keeps a_letter lv E = halts
  atom_keeps a_zero lv E = halts
  atom_keeps (a_digit low high) lv E = halts
  atom_keeps another lv E = halts

  digit_keeps : {b : Byte} {c : ℕ} → Spells b c → (lv : Level) {p v : ℕ} → Ends lv (Counting p v at) l
      → Next at (l ++ mark at c ∷ []) (after_digit lv p v at at b)
  unfolding Holds after_digit
  digit_keeps a_zero lv E = counting-on (grow (mark at 48) E (λ s. next-counting s zero-digit))
  digit_keeps (a_digit {c} low high) lv E = counting-on (grow (mark at c) E (λ s. next-counting s (other_digit low high)))
  digit_keeps a_plus lv E = atom_keeps a_plus lv (regard number_of E)
  digit_keeps a_minus lv E = atom_keeps a_minus lv (regard number_of E)
  digit_keeps a_star lv E = atom_keeps a_star lv (regard number_of E)
  digit_keeps a_caret lv E = atom_keeps a_caret lv (regard number_of E)
  digit_keeps an_opening lv E = atom_keeps an_opening lv (regard number_of E)
  digit_keeps a_closing lv E = atom_keeps a_closing lv (regard number_of E)
  digit_keeps a_letter lv E = atom_keeps a_letter lv (regard number_of E)
  digit_keeps another lv E = atom_keeps another lv (regard number_of E)

  literal_keeps : {b : Byte} {c : ℕ} → Spells b c → (lv : Level) {x : Piece} {p n : ℕ} → Ends lv (Literal x p n at) l
      → Next at (l ++ mark at c ∷ []) (after_literal_digit lv x p n at at b)
  unfolding Holds after_literal_digit
  literal_keeps a_zero lv E = literal_on (grow (mark at 48) E (λ s. next_literal s zero-digit))
  literal_keeps (a_digit {c} low high) lv E = literal_on (grow (mark at c) E (λ s. next_literal s (other_digit low high)))
  literal_keeps a_plus lv E = power_keeps a_plus lv (regard literal_of E)
  literal_keeps a_minus lv E = power_keeps a_minus lv (regard literal_of E)
  literal_keeps a_star lv E = power_keeps a_star lv (regard literal_of E)
  literal_keeps a_caret lv E = power_keeps a_caret lv (regard literal_of E)
  literal_keeps an_opening lv E = power_keeps an_opening lv (regard literal_of E)
  literal_keeps a_closing lv E = power_keeps a_closing lv (regard literal_of E)
  literal_keeps a_letter lv E = power_keeps a_letter lv (regard literal_of E)
  literal_keeps another lv E = power_keeps another lv (regard literal_of E)

pub keeps : (S : State) (at : ℕ) (l : List Mark) (c : ℕ) → Holds S at l → Next at (l ++ mark at c ∷ []) (step S at (byte_of c))
unfolding Holds step
keeps (operand lv) at l c P = operand_keeps at (spelling c) lv P
keeps (in_number lv p v e) at l c (q, E) =
    subst (λ k. Next at (l ++ mark at c ∷ []) (after_digit lv p v k at (byte_of c))) (sym q)
    (digit_keeps at (spelling c) lv (subst (λ k. Ends lv (Counting p v k) l) q E))
keeps (atomed lv x) at l c E = atom_keeps at (spelling c) lv E
keeps (after_caret lv x p) at l c E = exponent_keeps at (spelling c) lv E
keeps (in_literal lv x p n e) at l c (q, E) =
    subst (λ k. Next at (l ++ mark at c ∷ []) (after_literal_digit lv x p n k at (byte_of c))) (sym q)
    (literal_keeps at (spelling c) lv (subst (λ k. Ends lv (Literal x p n k) l) q E))
keeps (powered lv x) at l c E = power_keeps at (spelling c) lv E
keeps (stopped p) at l c h = absurd h

-- ---- marks that a state holds can be completed, from any place on: with an operand, and as many brackets as are open
abbrev pub Completes : ℕ → List Mark → Type 0
Completes at l = (r : List ℕ) × (t : Tree) × Means a_sum (l ++ marked at r) t

completes_before : (at : ℕ) (l : List Mark) (c : ℕ) → Completes (suc at) (l ++ mark at c ∷ []) → Completes at l
unfolding marked
completes_before at l c (r, t, M) = (c ∷ r, t, subst (λ x. Means a_sum x t) (append_assoc l (mark at c ∷ []) (marked (suc at) r)) M)

mutual
  unfolding marked

  level_completes : (lv : Level) {x : Piece} (at : ℕ) {l : List Mark} → Ends lv (Of a_power x) l → Completes at l
  level_completes (level σ π m o) at E = outer_completes o at (sum_of E)

  outer_completes : (o : Outer) {x : Piece} (at : ℕ) {l : List Mark} → Ends (fresh o) (Of a_sum x) l → Completes at l
  outer_completes bottom {x} at {l} E = ([], x.tree, subst (λ m. Means a_sum m x.tree) (sym (append-nil l)) (whole_sum E))
  outer_completes (in_brackets lv p) at {l} E = completes_before at l close_bracket (level_completes lv (suc at) (atom_power (bracketed at E)))
  outer_completes (in_exponent lv a p) at {l} E = completes_before at l close_bracket (level_completes lv (suc at) (raised_to at E))

pub viable : (S : State) (at : ℕ) (l : List Mark) → Holds S at l → Completes at l
unfolding Holds marked
viable (operand lv) at l P = completes_before at l letter_x (level_completes lv (suc at) (atom_power (begin (mark at letter_x) P (an_x_at at))))
viable (in_number lv p v e) at l (q, E) = level_completes lv at (atom_power (regard number_of E))
viable (atomed lv x) at l E = level_completes lv at (atom_power E)
viable (after_caret lv x p) at l E = completes_before at l 48 (level_completes lv (suc at) (grow (mark at 48) E (λ s k. nought_to at k)))
viable (in_literal lv x p n e) at l (q, E) = level_completes lv at (regard literal_of E)
viable (powered lv x) at l E = level_completes lv at E
viable (stopped p) at l h = absurd h

-- ---- the beginning and the end of a text
pub holds_nothing : (at : ℕ) → Holds (operand (fresh bottom)) at []
unfolding Holds
holds_nothing at = at_start

pub data AtEnd (at : ℕ) (l : List Mark) : Outcome → Type 0 where
  a_whole : {t : Tree} → Means a_sum l t → AtEnd at l (reads t)
  too_early : AtEnd at l (stops at)

power-ending : (lv : Level) {x : Piece} (at : ℕ) {l : List Mark} → Ends lv (Of a_power x) l → AtEnd at l (ended lv x at)
unfolding ended
power-ending (level σ π m bottom) at E = a_whole (whole_sum (sum_of E))
power-ending (level σ π m (in_brackets lv p)) at E = too_early
power-ending (level σ π m (in_exponent lv a p)) at E = too_early

pub holds_ending : (S : State) (at : ℕ) (l : List Mark) → Holds S at l → AtEnd at l (ending S at)
unfolding Holds ending
holds_ending (operand lv) at l P = too_early
holds_ending (in_number lv p v e) at l (q, E) = power-ending lv at (atom_power (regard number_of E))
holds_ending (atomed lv x) at l E = power-ending lv at (atom_power E)
holds_ending (after_caret lv x p) at l E = too_early
holds_ending (in_literal lv x p n e) at l (q, E) = power-ending lv at (regard literal_of E)
holds_ending (powered lv x) at l E = power-ending lv at E
holds_ending (stopped p) at l h = absurd h
