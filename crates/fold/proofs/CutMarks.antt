-- A part of a formula's tree has marks of its own, side by side in the text: what its span covers. Brackets stand level in front of them.
use mathlib.Core.Path.{◌≡◌, refl, sym, ap, ap₂, ◌∙◌}
use mathlib.Core.List.{List, [], ◌∷◌, ◌++◌, append_assoc, append-nil}
use Prim.Native.Nat.{ℕ, suc, ◌+◌, ◌≤◌, ◌<◌}
use native.Mathlib.Nat.{le_refl, zero-add}
use native.Mathlib.Omega.{arith}
use lib.ListN.{length, take, drop, length-append}
use lib.Seq.{take_at, drop_at}
use borrow.Author.Tests.{ne_eqb}
use Rattle.formula.specs.Bytes.{open_bracket, close_bracket, star, plus_sign, minus_sign, caret}
use Rattle.formula.specs.Marks.{Mark, mark, marked}
use Rattle.formula.specs.Tree.{Tree, span_of}
use Rattle.formula.specs.Grammar.{Digits, no_digit, digit, Number, nought, digits, covered, Sort}
use Rattle.formula.specs.Grammar.{Means, one_product, joined_by_plus, joined_by_minus, one_factor, joined_by_star, only_power, leading_minus, only_atom, to_a_number, to_a_sum, a_number, an_x, bracketed_sum}
use Rattle.formula.specs.Refusals.{count, Part, itself, sum_left, sum-right, difference-left, difference-right, product-left, product-right}
use Rattle.formula.specs.Refusals.{under-minus, under-power, in_base, in_exponent}
use Rattle.formula.proofs.TextMarks.{marked_append, marked-length}
use Rattle.formula_scan.proofs.BracketCount.{count-append}

-- ---- the bytes of marks
unfoldable pub bytes_of : List Mark → List ℕ
bytes_of [] = []
bytes_of (mark p c ∷ m) = c ∷ bytes_of m

pub bytes-both : (m k : List Mark) → bytes_of (m ++ k) ≡ bytes_of m ++ bytes_of k
unfolding bytes_of
bytes-both [] k = refl
bytes-both (mark p c ∷ m) k = ap {B = List ℕ} (λ l. c ∷ l) (bytes-both m k)

pub bytes-marked : (at : ℕ) (s : List ℕ) → bytes_of (marked at s) ≡ s
unfolding bytes_of marked
bytes-marked at [] = refl
bytes-marked at (c ∷ s) = ap {B = List ℕ} (λ l. c ∷ l) (bytes-marked (suc at) s)

pub length-bytes : (m : List Mark) → length (bytes_of m) ≡ length m
unfolding bytes_of
length-bytes [] = refl
length-bytes (mark p c ∷ m) = ap suc (length-bytes m)

-- ---- as many brackets are closed as are opened
abbrev pub closes : List Mark → ℕ
closes m = count close_bracket (bytes_of m)

abbrev pub opened : List Mark → ℕ
opened m = count open_bracket (bytes_of m)

counted-both : (b : ℕ) (m k : List Mark) → count b (bytes_of (m ++ k)) ≡ count b (bytes_of m) + count b (bytes_of k)
counted-both b m k = ap (count b) (bytes-both m k) ∙ count-append b (bytes_of m) (bytes_of k)

no_bracket : (b d : ℕ) (s : List ℕ) → b < 48 → 48 ≤ d → count b (d ∷ s) ≡ count b s
unfolding count
no_bracket b d s low high = rw (ne_eqb d b (λ e. absurd (omega (arith, e))))

digits-none : (b : ℕ) {s : List ℕ} → b < 48 → Digits s → count b s ≡ 0
unfolding count
digits-none b low no_digit = refl
digits-none b low (digit {d} {ds} D rest) = no_bracket b d ds low D.0 ∙ digits-none b low rest

number-none : (b p : ℕ) {s : List ℕ} {v : ℕ} → b < 48 → Number s v → count b (bytes_of (marked p s)) ≡ 0
unfolding count
number-none b p {s} low N = ap (count b) (bytes-marked p s) ∙ go N
  where
    go : {s : List ℕ} {v : ℕ} → Number s v → count b s ≡ 0
    go nought = no_bracket b 48 [] low (omega arith)
    go (digits {d} {ds} least most rest) = no_bracket b d ds low (omega arith) ∙ digits-none b low rest

module _ (s : List Mark) (p c : ℕ) (r : List Mark) where
  around : (b : ℕ) → count b (bytes_of (s ++ mark p c ∷ r)) ≡ count b (bytes_of s) + (count b (c ∷ []) + count b (bytes_of r))
  unfolding bytes_of
  around b =
      counted-both b s (mark p c ∷ r)
      ∙ ap (λ n. count b (bytes_of s) + n) (count-append b (c ∷ []) (bytes_of r))

pub level : {sort : Sort} {m : List Mark} {t : Tree} → Means sort m t → closes m ≡ opened m
unfolding count bytes_of
level (one_product M) = level M
level (joined_by_plus p {s} {r} M N) = omega (arith, around s p plus_sign r close_bracket, around s p plus_sign r open_bracket, level M, level N)
level (joined_by_minus p {s} {r} M N) = omega (arith, around s p minus_sign r close_bracket, around s p minus_sign r open_bracket, level M, level N)
level (one_factor M) = level M
level (joined_by_star p {s} {r} M N) = omega (arith, around s p star r close_bracket, around s p star r open_bracket, level M, level N)
level (only_power M) = level M
level (leading_minus M) = level M
level (only_atom M) = level M
level (to_a_number p first {s} {ds} M N) =
    omega (
      arith,
      around s p caret (marked first ds) close_bracket,
      around s p caret (marked first ds) open_bracket,
      number-none close_bracket first (omega arith) N,
      number-none open_bracket first (omega arith) N,
      level M,
    )
level (to_a_sum p opens shut {s} {r} M N) =
    omega (
      arith,
      around (s ++ mark p caret ∷ mark opens open_bracket ∷ r) shut close_bracket [] close_bracket,
      around (s ++ mark p caret ∷ mark opens open_bracket ∷ r) shut close_bracket [] open_bracket,
      around s p caret (mark opens open_bracket ∷ r) close_bracket,
      around s p caret (mark opens open_bracket ∷ r) open_bracket,
      level M,
      level N,
    )
level (a_number {p} N) = number-none close_bracket p (omega arith) N ∙ sym (number-none open_bracket p (omega arith) N)
level an_x = refl
level (bracketed_sum {opens} shut {s} M) =
    omega (
      arith,
      around (mark opens open_bracket ∷ s) shut close_bracket [] close_bracket,
      around (mark opens open_bracket ∷ s) shut close_bracket [] open_bracket,
      level M,
    )

-- ---- the marks of a part
pub record Cut (u : Tree) (m : List Mark) : Type 0 where
  pub before : List Mark
  pub own : List Mark
  pub behind : List Mark
  pub sort : Sort
  pub marks : m ≡ before ++ own ++ behind
  pub means : Means sort own u
  pub covers : covered own ≡ span_of u
  pub shut : closes before ≤ opened before

-- The whole of them.
whole : {sort : Sort} {m : List Mark} {t : Tree} → Means sort m t → covered m ≡ span_of t → Cut t m
unfolding count bytes_of
whole {sort} {m} M e = record {
  before = [];
  own = m;
  behind = [];
  sort = sort;
  marks = sym (append-nil m);
  means = M;
  covers = e;
  shut = le_refl 0;
}

-- More marks behind them, or in front.
in_front : {u : Tree} (m k : List Mark) → Cut u m → Cut u (m ++ k)
in_front m k cut = record {
  before = cut.before;
  own = cut.own;
  behind = cut.behind ++ k;
  sort = cut.sort;
  marks = ap (λ l. l ++ k) cut.marks ∙ append_assoc (cut.before ++ cut.own) cut.behind k;
  means = cut.means;
  covers = cut.covers;
  shut = cut.shut;
}

in_back : {u : Tree} (m k : List Mark) → closes m ≤ opened m → Cut u k → Cut u (m ++ k)
in_back m k lower cut = record {
  before = m ++ cut.before;
  own = cut.own;
  behind = cut.behind;
  sort = cut.sort;
  marks =
      ap (λ l. m ++ l) cut.marks
      ∙ sym (append_assoc m (cut.before ++ cut.own) cut.behind)
      ∙ ap (λ l. l ++ cut.behind) (sym (append_assoc m cut.before cut.own));
  means = cut.means;
  covers = cut.covers;
  shut = omega (arith, lower, cut.shut, counted-both close_bracket m cut.before, counted-both open_bracket m cut.before);
}

-- One byte in front that closes no bracket.
in_rest : {u : Tree} (p c : ℕ) (k : List Mark) → count close_bracket (c ∷ []) ≡ 0 → Cut u k → Cut u (mark p c ∷ k)
unfolding bytes_of
in_rest p c k none cut = in_back (mark p c ∷ []) k (omega (arith, none)) cut

-- An operand of an operator between two.
joined-right : {sort : Sort} {t u : Tree} (s : List Mark) (p c : ℕ) (r : List Mark) → Means sort s t → count close_bracket (c ∷ []) ≡ 0 → Cut u r
    → Cut u (s ++ mark p c ∷ r)
joined-right s p c r M none cut = in_back s (mark p c ∷ r) (omega (arith, level M)) (in_rest p c r none cut)

pub cut : {sort : Sort} {m : List Mark} {u t : Tree} → Means sort m t → Part u t → Cut u m
unfolding count
cut (one_product M) k = cut M k
cut (joined_by_plus p M N) itself = whole (joined_by_plus p M N) refl
cut (joined_by_plus p {s} {r} M N) (sum_left k) = in_front s (mark p plus_sign ∷ r) (cut M k)
cut (joined_by_plus p {s} {r} M N) (sum-right k) = joined-right s p plus_sign r M refl (cut N k)
cut (joined_by_minus p M N) itself = whole (joined_by_minus p M N) refl
cut (joined_by_minus p {s} {r} M N) (difference-left k) = in_front s (mark p minus_sign ∷ r) (cut M k)
cut (joined_by_minus p {s} {r} M N) (difference-right k) = joined-right s p minus_sign r M refl (cut N k)
cut (one_factor M) k = cut M k
cut (joined_by_star p M N) itself = whole (joined_by_star p M N) refl
cut (joined_by_star p {s} {r} M N) (product-left k) = in_front s (mark p star ∷ r) (cut M k)
cut (joined_by_star p {s} {r} M N) (product-right k) = joined-right s p star r M refl (cut N k)
cut (only_power M) k = cut M k
cut (leading_minus M) itself = whole (leading_minus M) refl
cut (leading_minus {p} {s} M) (under-minus k) = in_rest p minus_sign s refl (cut M k)
cut (only_atom M) k = cut M k
cut (to_a_number p first M N) itself = whole (to_a_number p first M N) refl
cut (to_a_number p first {s} {ds} M N) (under-power k) = in_front s (mark p caret ∷ marked first ds) (cut M k)
cut (to_a_sum p opens shut M N) itself = whole (to_a_sum p opens shut M N) refl
cut (to_a_sum p opens shut {s} {r} M N) (in_base k) =
    in_front (s ++ mark p caret ∷ mark opens open_bracket ∷ r) (mark shut close_bracket ∷ []) (in_front s (mark p caret ∷ mark opens open_bracket ∷ r) (cut M k))
cut (to_a_sum p opens shut {s} {r} M N) (in_exponent k) =
    in_front (s ++ mark p caret ∷ mark opens open_bracket ∷ r) (mark shut close_bracket ∷ [])
    (joined-right s p caret (mark opens open_bracket ∷ r) M refl (in_rest opens open_bracket r refl (cut N k)))
cut (a_number {p} N) itself = whole (a_number {p = p} N) refl
cut an_x itself = whole an_x refl
cut (bracketed_sum {opens} shut {s} M) k =
    in_front (mark opens open_bracket ∷ s) (mark shut close_bracket ∷ []) (in_rest opens open_bracket s refl (cut M k))

-- ---- they stand side by side
module _ (s : List ℕ) (u : Tree) (c : Cut u (marked 0 s)) where
  pub text_parts : s ≡ bytes_of c.before ++ bytes_of c.own ++ bytes_of c.behind
  text_parts =
      sym (bytes-marked 0 s)
      ∙ ap bytes_of c.marks
      ∙ bytes-both (c.before ++ c.own) c.behind
      ∙ ap (λ l. l ++ bytes_of c.behind) (bytes-both c.before c.own)

  pub own_marks : c.own ≡ marked (length c.before) (bytes_of c.own)
  own_marks =
      sym (drop_at c.before c.own (length c.before) refl)
      ∙ ap (drop (length c.before)) front
      ∙ drop_at (marked 0 front_bytes) (marked (0 + length front_bytes) own-bytes) (length c.before) (marked-length 0 front_bytes ∙ length-bytes c.before)
      ∙ ap (λ n. marked n own-bytes) (zero-add (length front_bytes) ∙ length-bytes c.before)
    where
      front_bytes : List ℕ
      front_bytes = bytes_of c.before

      own-bytes : List ℕ
      own-bytes = bytes_of c.own

      all : (c.before ++ c.own) ++ c.behind ≡ (marked 0 front_bytes ++ marked (0 + length front_bytes) own-bytes) ++ marked (0 + length (front_bytes ++ own-bytes)) (bytes_of c.behind)
      all =
          sym c.marks
          ∙ ap (marked 0) text_parts
          ∙ marked_append 0 (front_bytes ++ own-bytes) (bytes_of c.behind)
          ∙ ap (λ l. l ++ marked (0 + length (front_bytes ++ own-bytes)) (bytes_of c.behind)) (marked_append 0 front_bytes own-bytes)

      long : length (marked 0 front_bytes ++ marked (0 + length front_bytes) own-bytes) ≡ length (c.before ++ c.own)
      long =
          length-append (marked 0 front_bytes) (marked (0 + length front_bytes) own-bytes)
          ∙ ap₂ ◌+◌ (marked-length 0 front_bytes ∙ length-bytes c.before) (marked-length (0 + length front_bytes) own-bytes ∙ length-bytes c.own)
          ∙ sym (length-append c.before c.own)

      front : c.before ++ c.own ≡ marked 0 front_bytes ++ marked (0 + length front_bytes) own-bytes
      front =
          sym (take_at (c.before ++ c.own) c.behind (length (c.before ++ c.own)) refl)
          ∙ ap (take (length (c.before ++ c.own))) all
          ∙ take_at (marked 0 front_bytes ++ marked (0 + length front_bytes) own-bytes) (marked (0 + length (front_bytes ++ own-bytes)) (bytes_of c.behind))
          (length (c.before ++ c.own)) long
