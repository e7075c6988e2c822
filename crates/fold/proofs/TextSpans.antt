-- The spans of a formula's tree: each is of some text, and those of operands lie within their operator's, left before right, without overlap. None
-- goes past the text.
use mathlib.Core.Path.{ap}
use mathlib.Core.List.{List, [], ◌∷◌, ◌++◌}
use Prim.Native.Nat.{ℕ, suc, ◌≤◌, ◌<◌}
use native.Mathlib.Nat.{le_refl}
use native.Mathlib.Omega.{arith}
use lib.ListN.{length}
use Rattle.formula.specs.Bytes.{open_bracket, close_bracket, star, plus_sign, minus_sign, caret}
use Rattle.formula.specs.Marks.{Mark, mark, marked}
use Rattle.formula.specs.Tree.{Span, first, end, Tree, span_of}
use Rattle.formula.specs.Grammar.{first_place, covered, Sort, Means, one_product, joined_by_plus, joined_by_minus, one_factor, joined_by_star, only_power, leading_minus, only_atom, to_a_number, to_a_sum, a_number, an_x, bracketed_sum}
use Rattle.formula.specs.Refusals.{Accepted, too_long}
use Rattle.formula.proofs.TextMarks.{Rising, next-mark, rising_parts, marked_rises}
use Rattle.formula.proofs.Places.{some_byte}
use Rattle.formula.proofs.Spans.{first-append, end-append, covered-behind, covered-joined, raise_covers, brackets_cover, covered_rises}
use Rattle.plan.specs.Measures.{longest_text}
use Rattle.fold.specs.Folding.{operands}
use Rattle.fold.proofs.Nesting.{Within, Beside, Spanned}

-- A tree of nested spans, its own within what the marks that mean it cover; with no brackets around it that is all of them.
record Placed (m : List Mark) (t : Tree) : Type 0 where
  spans : Spanned t
  inside : Within (span_of t) (covered m)

same : (s : Span) → Within s s
same s = record { from = le_refl (first s); upto = le_refl (end s) }

-- The first mark, and those behind it.
behind-first : {at upto p c : ℕ} {m : List Mark} → Rising at upto (mark p c ∷ m) → Rising (suc p) upto m
behind-first (next-mark h R) = R

from_first : {at upto p c : ℕ} {m : List Mark} → Rising at upto (mark p c ∷ m) → at ≤ p
from_first (next-mark h R) = h

-- ---- an operator between its operands
module _ {at upto : ℕ} (s : List Mark) (p c : ℕ) (r : List Mark) (t u : Tree) (some : 1 ≤ length s) (more : 1 ≤ length r)
    (R : Rising at upto (s ++ mark p c ∷ r)) (left : Within (span_of t) (covered s)) (right : Within (span_of u) (covered r)) where
  joined_beside : Beside (covered (s ++ mark p c ∷ r)) (operands t u)
  joined_beside =
      let (before, behind) = rising_parts s c r R in
      let whole = covered-joined s (mark p c) r some more in
      record {
        from = omega (arith, ap (λ k. first k) whole, left.from);
        apart = omega (arith, left.upto, covered_rises s before some, covered_rises r behind more, right.from);
        upto = omega (arith, ap (λ k. end k) whole, right.upto);
      }

-- ---- a power, whose exponent stands behind its ^
module _ {at upto : ℕ} (s : List Mark) (p c : ℕ) (r : List Mark) (t : Tree) (some : 1 ≤ length s) (R : Rising at upto (s ++ mark p c ∷ r))
    (left : Within (span_of t) (covered s)) where
  left-inside : Within (span_of t) (covered (s ++ mark p c ∷ r))
  unfolding first_place
  left-inside =
      let (before, behind) = rising_parts s c r R in
      record {
        from = omega (arith, first-append s (mark p c ∷ r) some, left.from);
        upto =
            omega (
              arith,
              left.upto,
              covered_rises s before some,
              covered_rises (mark p c ∷ r) (next-mark (le_refl p) behind) (omega arith),
              end-append s (mark p c ∷ r) (omega arith),
            );
      }

module _ {at : ℕ} (p opens closes : ℕ) (s r : List Mark) (t u : Tree) (some : 1 ≤ length s) (more : 1 ≤ length r)
    (before : Rising at p s) (behind : Rising (suc opens) closes r) (order : p < opens)
    (left : Within (span_of t) (covered s)) (right : Within (span_of u) (covered r)) where
  raise_beside : Beside (covered (s ++ mark p caret ∷ mark opens open_bracket ∷ r ++ mark closes close_bracket ∷ [])) (operands t u)
  raise_beside =
      let whole = raise_covers p opens closes s r some in
      record {
        from = omega (arith, ap (λ k. first k) whole, left.from);
        apart = omega (arith, left.upto, covered_rises s before some, covered_rises r behind more, right.from);
        upto = omega (arith, ap (λ k. end k) whole, right.upto, covered_rises r behind more);
      }

-- ---- every tree
placed : {sort : Sort} {at upto : ℕ} {m : List Mark} {t : Tree} → Means sort m t → Rising at upto m → Placed m t
unfolding Spanned
placed (one_product M) R = placed M R
placed (joined_by_plus p {s} {r} {t} {u} M N) R =
    let (before, behind) = rising_parts s plus_sign r R in
    let a = placed M before in
    let b = placed N behind in
    record {
      spans = (joined_beside s p plus_sign r t u (some_byte M) (some_byte N) R a.inside b.inside, a.spans, b.spans);
      inside = same _;
    }
placed (joined_by_minus p {s} {r} {t} {u} M N) R =
    let (before, behind) = rising_parts s minus_sign r R in
    let a = placed M before in
    let b = placed N behind in
    record {
      spans = (joined_beside s p minus_sign r t u (some_byte M) (some_byte N) R a.inside b.inside, a.spans, b.spans);
      inside = same _;
    }
placed (one_factor M) R = placed M R
placed (joined_by_star p {s} {r} {t} {u} M N) R =
    let (before, behind) = rising_parts s star r R in
    let a = placed M before in
    let b = placed N behind in
    record {
      spans = (joined_beside s p star r t u (some_byte M) (some_byte N) R a.inside b.inside, a.spans, b.spans);
      inside = same _;
    }
placed (only_power M) R = placed M R
placed (leading_minus {p} {s} {t} M) R =
    let behind = behind-first R in
    let a = placed M behind in
    let whole = covered-behind p minus_sign s (some_byte M) in
    let under : Within (span_of t) (covered (mark p minus_sign ∷ s)) = record {
      from = omega (arith, ap (λ k. first k) whole, covered_rises s behind (some_byte M), a.inside.from);
      upto = omega (arith, ap (λ k. end k) whole, a.inside.upto);
    } in
    record { spans = (under, a.spans); inside = same _ }
placed (only_atom M) R = placed M R
placed (to_a_number p place {s} {ds} {t} M N) R =
    let (before, behind) = rising_parts s caret (marked place ds) R in
    let a = placed M before in
    record { spans = (left-inside s p caret (marked place ds) t (some_byte M) R a.inside, a.spans); inside = same _ }
placed (to_a_sum p opens closes {s} {r} {t} {u} M N) R =
    let (inner, _) = rising_parts (s ++ mark p caret ∷ mark opens open_bracket ∷ r) close_bracket [] R in
    let (before, exponent) = rising_parts s caret (mark opens open_bracket ∷ r) inner in
    let behind = behind-first exponent in
    let a = placed M before in
    let b = placed N behind in
    record {
      spans = (
        raise_beside p opens closes s r t u (some_byte M) (some_byte N) before behind (from_first exponent) a.inside b.inside,
        a.spans,
        b.spans,
      );
      inside = same _;
    }
placed (a_number {p} {ds} N) R = record { spans = (covered_rises (marked p ds) R (some_byte (a_number {p = p} N))).1; inside = same _ }
placed an_x R = record { spans = (covered_rises _ R (omega arith)).1; inside = same _ }
placed (bracketed_sum {opens} closes {s} {t} M) R =
    let (inner, _) = rising_parts (mark opens open_bracket ∷ s) close_bracket [] R in
    let behind = behind-first inner in
    let a = placed M behind in
    let whole = brackets_cover opens closes s in
    let around : Within (span_of t) (covered (mark opens open_bracket ∷ s ++ mark closes close_bracket ∷ [])) = record {
      from = omega (arith, ap (λ k. first k) whole, covered_rises s behind (some_byte M), a.inside.from);
      upto = omega (arith, ap (λ k. end k) whole, covered_rises s behind (some_byte M), a.inside.upto);
    } in
    record { spans = a.spans; inside = around }

-- ---- an accepted formula
module _ {w : ℕ} {s : List ℕ} {t : Tree} (A : Accepted w s t) where
  rises : Rising 0 (length s) (marked 0 s)
  rises = marked_rises 0 s (omega arith)

  pub accepted_spans : Spanned t
  accepted_spans = (placed A.means.as_a_sum rises).spans

  -- The root's span, and so every span, ends within the text, which is no longer than 1,024 bytes.
  pub root_within : end (span_of t) ≤ length s
  root_within =
      omega (arith, (placed A.means.as_a_sum rises).inside.upto, covered_rises (marked 0 s) rises (some_byte A.means.as_a_sum))

  pub root_short : end (span_of t) ≤ longest_text
  root_short =
      let short : longest_text < length s → ⊥ = λ long. A.faultless _ _ (too_long long) in
      omega (arith, root_within)
