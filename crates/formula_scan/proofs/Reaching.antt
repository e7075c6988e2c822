-- From the grammar to the scan: the state that marks of each sort lead to, by induction on what they mean. No follow sets.
use mathlib.Core.Path.{◌≡◌, refl, sym, ap, subst, ◌∙◌}
use mathlib.Core.List.{List, [], ◌∷◌, ◌++◌, append_assoc}
use Prim.Native.Nat.{ℕ, ◌+◌, ◌≤◌}
use native.Mathlib.Omega.{arith}
use lib.ListN.{length}
use Rattle.formula.specs.Bytes.{open_bracket, close_bracket, star, plus_sign, minus_sign, caret}
use Rattle.formula.specs.Marks.{Mark, mark, marked}
use Rattle.formula.specs.Tree.{Span, Tree, number, sum, difference, product, minus, literal_power, raise}
use Rattle.formula.specs.Grammar.{Number, nought, digits, Sort, a_sum, a_product, a_factor, a_power, an_atom, first_place, end_place, covered, Means, one_product, joined_by_plus, joined_by_minus, one_factor, joined_by_star, only_power, leading_minus, only_atom, to_a_number, to_a_sum, a_number, an_x, bracketed_sum, Formula}
use Rattle.formula_scan.specs.Scan.{Byte, plus_byte, minus_byte, star_byte, caret_byte, close_byte, byte_of, Piece, piece, noded, number_to, literal_to, joined, PendingSum, no_sum, adding, subtracting, PendingProduct, no_product, multiplying, Level, level, Outer, bottom, in_brackets, in_exponent, fresh, State, operand, in_number, atomed, after_caret, in_literal, powered, negatives, product_with, sum_with, product_value, sum_value, closed, after_power, after_atom, after_digit, after_literal_digit, before_operand, before_exponent, step, reads, ended, ending, fed, scanned}
use Rattle.formula.proofs.Places.{some_byte}
use Rattle.formula.proofs.Spans.{covered-joined, covered-behind, number_covers, literal_covers, raise_covers, brackets_cover}
use Rattle.formula_scan.proofs.Scanning.{run-ending, fed-append, fed-number}

-- ---- `AtPower lv x S`: in the state S the scan may have read, at the level lv, a power that is x; and so for atoms
data AtAtom (lv : Level) : Piece → State → Type 0 where
  after_atom_lem : {x : Piece} → AtAtom lv x (atomed lv x)
  in_number_lem : {p v e : ℕ} → AtAtom lv (number_to p v e) (in_number lv p v e)

data AtPower (lv : Level) : Piece → State → Type 0 where
  at_atom : {x : Piece} {S : State} → AtAtom lv x S → AtPower lv x S
  in_literal_lem : {x : Piece} {p n e : ℕ} → AtPower lv (literal_to x p n e) (in_literal lv x p n e)
  after-power : {x : Piece} → AtPower lv x (powered lv x)

data Joining : Byte → Type 0 where
  by_plus : Joining plus_byte
  by_minus : Joining minus_byte
  by_star : Joining star_byte
  by_closing : Joining close_byte

atom_at : {lv : Level} {x : Piece} {S T : State} → S ≡ T → AtAtom lv x T → AtAtom lv x S
atom_at {lv} {x} e h = subst (λ X. AtAtom lv x X) (sym e) h

atom_is : {lv : Level} {x y : Piece} {S : State} → x ≡ y → AtAtom lv x S → AtAtom lv y S
atom_is {lv} {S = S} e h = subst (λ z. AtAtom lv z S) e h

power_at : {lv : Level} {x : Piece} {S T : State} → S ≡ T → AtPower lv x T → AtPower lv x S
power_at {lv} {x} e h = subst (λ X. AtPower lv x X) (sym e) h

power-is : {lv : Level} {x y : Piece} {S : State} → x ≡ y → AtPower lv x S → AtPower lv y S
power-is {lv} {S = S} e h = subst (λ z. AtPower lv z S) e h

power_joins : {lv : Level} {x : Piece} {S : State} {b : Byte} → AtPower lv x S → Joining b → (at : ℕ) → step S at b ≡ after_power lv x at b
unfolding step after_atom after_digit after_literal_digit
power_joins (at_atom after_atom_lem) by_plus at = refl
power_joins (at_atom after_atom_lem) by_minus at = refl
power_joins (at_atom after_atom_lem) by_star at = refl
power_joins (at_atom after_atom_lem) by_closing at = refl
power_joins (at_atom in_number_lem) by_plus at = refl
power_joins (at_atom in_number_lem) by_minus at = refl
power_joins (at_atom in_number_lem) by_star at = refl
power_joins (at_atom in_number_lem) by_closing at = refl
power_joins in_literal_lem by_plus at = refl
power_joins in_literal_lem by_minus at = refl
power_joins in_literal_lem by_star at = refl
power_joins in_literal_lem by_closing at = refl
power_joins after-power j at = refl

atom_caret : {lv : Level} {x : Piece} {S : State} → AtAtom lv x S → (at : ℕ) → step S at caret_byte ≡ after_caret lv x at
unfolding step after_atom after_digit
atom_caret after_atom_lem at = refl
atom_caret in_number_lem at = refl

power-ends : {lv : Level} {x : Piece} {S : State} → AtPower lv x S → (at : ℕ) → ending S at ≡ ended lv x at
unfolding ending
power-ends (at_atom after_atom_lem) at = refl
power-ends (at_atom in_number_lem) at = refl
power-ends in_literal_lem at = refl
power-ends after-power at = refl

-- ---- numbers
number_reaches : {s : List ℕ} {v : ℕ} → Number s v → (lv : Level) (at : ℕ)
    → AtAtom lv (number_to at v (at + length s)) (fed (operand lv) (marked at s))
unfolding fed marked step before_operand after_digit byte_of
number_reaches nought lv at = atom_is (ap (λ e. number_to at 0 e) (omega arith)) after_atom_lem
number_reaches (digits low high rest) lv at =
    atom_at (fed-number (in_number lv at) (λ v e at. refl) (λ v e at d. refl) (operand lv) at (λ d. refl) low high rest) in_number_lem

literal_reaches : {s : List ℕ} {n : ℕ} → Number s n → (lv : Level) (x : Piece) (p at : ℕ)
    → AtPower lv (literal_to x p n (at + length s)) (fed (after_caret lv x p) (marked at s))
unfolding fed marked step before_exponent after_literal_digit byte_of
literal_reaches nought lv x p at = power-is (ap (λ e. literal_to x p 0 e) (omega arith)) after-power
literal_reaches (digits low high rest) lv x p at =
    power_at (fed-number (in_literal lv x p) (λ v e at. refl) (λ v e at d. refl) (after_caret lv x p) at (λ d. refl) low high rest) in_literal_lem

-- ---- marks of each sort, read where an operand may begin: they reach what they cover, with their tree
abbrev over : List Mark → Tree → Piece
over s t = piece (covered s) t

Reaches : Sort → List Mark → Tree → Type 0
Reaches an_atom s t = (lv : Level) → AtAtom lv (over s t) (fed (operand lv) s)
Reaches a_power s t = (lv : Level) → AtPower lv (over s t) (fed (operand lv) s)
Reaches a_factor s t = (σ : PendingSum) (π : PendingProduct) (m : List ℕ) (o : Outer)
    → (k : List ℕ) × (u : Piece) × (negatives k u ≡ negatives m (over s t)) × AtPower (level σ π k o) u (fed (operand (level σ π m o)) s)
Reaches a_product s t = (σ : PendingSum) (o : Outer)
    → (π : PendingProduct) × (k : List ℕ) × (u : Piece) × (product_value π k u ≡ over s t)
    × AtPower (level σ π k o) u (fed (operand (level σ no_product [] o)) s)
Reaches a_sum s t = (o : Outer)
    → (σ : PendingSum) × (π : PendingProduct) × (k : List ℕ) × (u : Piece) × (sum_value σ π k u ≡ over s t)
    × AtPower (level σ π k o) u (fed (operand (fresh o)) s)

-- A node over marks joined by one between them.
over-joined : (node : Span → Tree → Tree → Tree) (s : List Mark) (m : Mark) (r : List Mark) (t u : Tree) → 1 ≤ length s → 1 ≤ length r
    → joined node (over s t) (over r u) ≡ over (s ++ m ∷ r) (node (covered (s ++ m ∷ r)) t u)
over-joined node s m r t u some more = ap (λ k. noded k (λ z. node z t u)) (sym (covered-joined s m r some more))

-- A sign: what stands before it becomes the pending sum.
sign_reaches : (pending : Piece → PendingSum) (node : Span → Tree → Tree → Tree) (c : ℕ) → Joining (byte_of c)
    → ((σ : PendingSum) (π : PendingProduct) (k : List ℕ) (o : Outer) (u : Piece) (at : ℕ)
    → after_power (level σ π k o) u at (byte_of c) ≡ operand (level (pending (sum_value σ π k u)) no_product [] o))
    → ((a x : Piece) → sum_with (pending a) x ≡ joined node a x)
    → (p : ℕ) (s r : List Mark) (t u : Tree) → 1 ≤ length s → 1 ≤ length r → Reaches a_sum s t → Reaches a_product r u
    → Reaches a_sum (s ++ mark p c ∷ r) (node (covered (s ++ mark p c ∷ r)) t u)
unfolding Reaches fed
sign_reaches pending node c joining takes joins p s r t u some more left right o =
    let (σ, π, k, v, same, h) = left o in
    let (π', k', v', same', h') = right (pending (over s t)) o in (
      pending (over s t),
      π',
      k',
      v',
      ap (sum_with (pending (over s t))) same' ∙ joins (over s t) (over r u) ∙ over-joined node s (mark p c) r t u some more,
      power_at
          (fed-append (operand (fresh o)) s (mark p c ∷ r)
          ∙ ap (λ S. fed S r) (power_joins h joining p ∙ takes σ π k o v p)
          ∙ ap (λ x. fed (operand (level (pending x) no_product [] o)) r) same)
          h',
    )

-- A *: what stands before it becomes the pending product.
star_reaches : (p : ℕ) (s r : List Mark) (t u : Tree) → 1 ≤ length s → 1 ≤ length r → Reaches a_product s t → Reaches a_factor r u
    → Reaches a_product (s ++ mark p star ∷ r) (product (covered (s ++ mark p star ∷ r)) t u)
unfolding Reaches fed byte_of after_power product_with negatives
star_reaches p s r t u some more left right σ o =
    let (π, k, v, same, h) = left σ o in
    let (k', v', same', h') = right σ (multiplying (over s t)) [] o in (
      multiplying (over s t),
      k',
      v',
      ap (joined product (over s t)) same' ∙ over-joined product s (mark p star) r t u some more,
      power_at
          (fed-append (operand (level σ no_product [] o)) s (mark p star ∷ r)
          ∙ ap (λ S. fed S r) (power_joins h by_star p)
          ∙ ap (λ x. fed (operand (level σ (multiplying x) [] o)) r) same)
          h',
    )

-- A bracket that closes a sum.
closing_reaches : (p : ℕ) (s : List Mark) (t : Tree) → Reaches a_sum s t → (o : Outer)
    → fed (operand (fresh o)) (s ++ mark p close_bracket ∷ []) ≡ closed o (over s t) p
unfolding Reaches fed byte_of after_power
closing_reaches p s t inner o =
    let (σ, π, k, v, same, h) = inner o in
    fed-append (operand (fresh o)) s (mark p close_bracket ∷ [])
    ∙ power_joins h by_closing p
    ∙ ap (λ x. closed o x p) same

-- A ^ after an atom.
caret_reaches : (p : ℕ) (s r : List Mark) (t : Tree) → Reaches an_atom s t → (lv : Level)
    → fed (operand lv) (s ++ mark p caret ∷ r) ≡ fed (after_caret lv (over s t) p) r
unfolding Reaches fed byte_of
caret_reaches p s r t atom lv = fed-append (operand lv) s (mark p caret ∷ r) ∙ ap (λ S. fed S r) (atom_caret (atom lv) p)

-- ---- by induction on what the marks mean
reaches : {sort : Sort} {s : List Mark} {t : Tree} → Means sort s t → Reaches sort s t
unfolding Reaches byte_of fed step before_operand before_exponent after_power closed product_with sum_with negatives first_place end_place
reaches (one_product M) = λ o. let (π, k, u, same, h) = reaches M no_sum o in (no_sum, π, k, u, same, h)
reaches (joined_by_plus p {s} {r} {t} {u} M N) =
    sign_reaches adding sum plus_sign by_plus (λ σ π k o u at. refl) (λ a x. refl) p s r t u (some_byte M) (some_byte N) (reaches M) (reaches N)
reaches (joined_by_minus p {s} {r} {t} {u} M N) =
    sign_reaches subtracting difference minus_sign by_minus (λ σ π k o u at. refl) (λ a x. refl) p s r t u (some_byte M) (some_byte N) (reaches M) (reaches N)
reaches (one_factor M) = λ σ o. let (k, u, same, h) = reaches M σ no_product [] o in (no_product, k, u, same, h)
reaches (joined_by_star p {s} {r} {t} {u} M N) = star_reaches p s r t u (some_byte M) (some_byte N) (reaches M) (reaches N)
reaches (only_power {s} {t} M) = λ σ π m o. (m, over s t, refl, reaches M (level σ π m o))
reaches (leading_minus {p} {s} {t} M) = λ σ π m o.
    let (k, u, same, h) = reaches M σ π (p ∷ m) o in
    (k, u, same ∙ ap (λ z. negatives m (noded z (λ y. minus y t))) (sym (covered-behind p minus_sign s (some_byte M))), h)
reaches (only_atom M) = λ lv. at_atom (reaches M lv)
reaches (to_a_number p first {s} {ds} {t} {n} M N) = λ lv.
    power_at (caret_reaches p s (marked first ds) t (reaches M) lv)
    (power-is (ap (λ k. noded k (λ z. literal_power z t p n)) (sym (literal_covers p first s (some_byte M) N))) (literal_reaches N lv (over s t) p first))
reaches (to_a_sum p opens closes {s} {r} {t} {u} M N) = λ lv.
    power_at
    (ap (fed (operand lv)) (append_assoc s (mark p caret ∷ mark opens open_bracket ∷ r) (mark closes close_bracket ∷ []))
    ∙ caret_reaches p s (mark opens open_bracket ∷ r ++ mark closes close_bracket ∷ []) t (reaches M) lv
    ∙ closing_reaches closes r u (reaches N) (in_exponent lv (over s t) p))
    (power-is (ap (λ k. noded k (λ z. raise z t p u)) (sym (raise_covers p opens closes s r (some_byte M)))) after-power)
reaches (a_number {p} {ds} {v} N) = λ lv. atom_is (ap (λ k. noded k (λ z. number z p v)) (sym (number_covers p N))) (number_reaches N lv p)
reaches an_x = λ lv. after_atom_lem
reaches (bracketed_sum {opens} closes {s} {t} M) = λ lv.
    atom_at (closing_reaches closes s t (reaches M) (in_brackets lv opens))
    (atom_is (ap (λ k. piece k t) (sym (brackets_cover opens closes s))) after_atom_lem)

pub complete : {s : List ℕ} {t : Tree} → Formula s t → scanned s ≡ reads t
unfolding Reaches ended
complete {s} M =
    let (σ, π, k, u, same, h) = reaches M.as_a_sum bottom in
    run-ending (operand (fresh bottom)) 0 s ∙ power-ends h (0 + length s) ∙ ap (λ x. reads x.tree) same
