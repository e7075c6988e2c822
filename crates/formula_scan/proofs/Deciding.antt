-- The end of reading: the least fault decides, and an accepted text's tree is what is written.
use mathlib.Core.Path.{◌≡◌, refl, sym, ap, ap₂, subst, ◌∙◌}
use mathlib.Core.Bool.{Bool, true, false, cond}
use mathlib.Core.List.{List, ◌∷◌, ◌++◌, append-nil}
use Prim.Native.Nat.{ℕ, suc, ◌/◌, ◌%◌, ◌≤◌, ◌<◌, min}
use native.Mathlib.Nat.{zero-add}
use native.Mathlib.Omega.{arith}
use lib.Dec.{ltb}
use lib.ListN.{length, take, drop, set, replicate, length-replicate, drop_of_length-le, take-append-drop}
use lib.Seq.{take-length, length-take-le}
use borrow.Author.Tests.{ne_eqb, ltb-true, ltb-false}
use Rattle.std.specs.Prelude.{Ok}
use Rattle.formula_scan.specs.Fields.{Found}
use Rattle.formula.specs.Tree.{Tree, nodes}
use Rattle.formula.specs.Words.{tree_words, tree_length, most_nodes}
use Rattle.formula.specs.Answer.{ReadAnswer, as_read_answer}
use Rattle.formula.specs.Grammar.{Formula}
use Rattle.formula.specs.Refusals.{TooDeep, Fault, too_long, too_deep, not-grammar, number-over, exponent-number-over, exponent-over, too_many, x_in_base, even_base, Refused, Accepted, Reading, refused, accepted}
use Rattle.formula_scan.specs.Readers.{fault_code, no_fault, code, noted_refusal, wrote, spanned_tree, spanned_words, SumRead, over_words, ReadOver, refused_over, accepted-over, Judged, refuses, accepts}
use Rattle.formula_scan.proofs.Ways.{WholeBracket}
use Rattle.formula_scan.proofs.Judging.{whole_formula, formula_got, fault_number}
use Rattle.formula_scan.proofs.Written.{tree-written, spanned-written}
use Rattle.formula_scan.proofs.Faults.{late, tree-refused, tree-accepted}
use Rattle.formula_scan.proofs.Answers.{accepted_fits}

-- ---- 5 to 8
-- A fault of 5 to 8 is told as its refusal, and any greater number as none.
fault_told : {w : ℕ} {s : List ℕ} {n p : ℕ} → Fault w s n p → 5 ≤ n → as_read_answer (noted_refusal n p) ≡ record { number = n; place = p }
fault_told (too_long h) low = absurd (omega arith)
fault_told (too_deep h) low = absurd (omega arith)
fault_told (not-grammar h) low = absurd (omega arith)
fault_told (number-over a b c) low = refl
fault_told (exponent-number-over a b c) low = refl
fault_told (exponent-over a b c) low = refl
fault_told (too_many a b) low = refl
fault_told (x_in_base a b c) low = refl
fault_told (even_base a b c) low = refl

none_told : (n p : ℕ) → 8 < n → noted_refusal n p ≡ Ok tt
none_told n p h =
    rw (ne_eqb n 5 (λ e. omega arith), ne_eqb n 6 (λ e. omega arith), ne_eqb n 7 (λ e. omega arith), ne_eqb n 8 (λ e. omega arith)) refl

module _ (l : List ℕ) (short : length l ≤ 1024) (flat : (q : ℕ) → TooDeep l q → ⊥) (out : List ℕ) (r : Found) (now : List ℕ)
    (whole : WholeBracket 64 l 0 0 no_fault out r now) (ends : length l ≤ r.at) (c : ℕ)
    (least : c ≡ min r.fault (cond (ltb most_nodes r.nodes) (fault_code 7 0) no_fault)) where
  coded : c ≡ code 64 whole.t
  coded =
      least
      ∙ ap₂ (λ f k. min f (cond (ltb most_nodes k) (fault_code 7 0) no_fault)) (ap (λ (x : Found). x.fault) whole.is) (whole.counted ∙ zero-add (nodes whole.t))

  -- The code decides.
  pub judged_code : Judged 64 l (as_read_answer (noted_refusal (c / 2048) (c % 2048)))
  judged_code = go (ltb c no_fault) refl
    where
      means : Formula l whole.t
      means = whole_formula l no_fault out r now whole ends

      go : (b : Bool) → ltb c no_fault ≡ b → Judged 64 l (as_read_answer (noted_refusal (c / 2048) (c % 2048)))
      go true e =
          let h = ltb-true c no_fault e in
          let refusal : Refused 64 l (c / 2048) (c % 2048) = rw coded (tree-refused 64 (omega arith) l whole.t means short flat (omega (arith, coded))) in
          subst (Judged 64 l) (sym (fault_told refusal.applies (late 64 (omega arith) l whole.t means short flat refusal.applies))) (refuses refusal)
      go false e =
          let h = ltb-false c no_fault e in
          subst (λ a. Judged 64 l (as_read_answer a)) (sym (none_told (c / 2048) (c % 2048) (omega arith)))
          (accepts (tree-accepted 64 (omega arith) l whole.t means short flat (omega (arith, coded))))

-- ---- the words of an accepted text
module _ (l zeros part : List ℕ) (k : ℕ) (r : Found) (t : Tree) (clear : zeros ≡ replicate (suc k) 0)
    (read : SumRead 64 l 0 0 no_fault (take k (drop 1 zeros)) r part) (taken : Accepted 64 l t) where
  -- The count and the nodes, over words that were cleared.
  pub over-written : set (take 1 zeros ++ (part ++ drop k (drop 1 zeros))) 0 r.nodes ≡ nodes t ∷ wrote 64 t 0 (replicate k 0)
  over-written =
      ap (λ z. set (take 1 z ++ (part ++ drop k (drop 1 z))) 0 r.nodes) clear
      ∙ ap (λ z. r.nodes ∷ part ++ z) (drop_of_length-le (replicate k 0) none)
      ∙ ap (λ z. r.nodes ∷ z) (append-nil part)
      ∙ ap₂ (λ n z. n ∷ z) got.0 (got.1 ∙ ap (λ z. wrote 64 t 0 z) cleared)
    where
      none : length (replicate {A = ℕ} k 0) ≤ k
      none = omega (arith, length-replicate {A = ℕ} k 0)

      got : (r.nodes ≡ nodes t) × (part ≡ wrote 64 t 0 (take k (drop 1 zeros)))
      got = formula_got l no_fault (take k (drop 1 zeros)) r part t read taken.means

      cleared : take k (drop 1 zeros) ≡ replicate k 0
      cleared = ap (λ z. take k (drop 1 z)) clear ∙ take_all (replicate k 0) (length-replicate {A = ℕ} k 0)
        where
          take_all : {n : ℕ} (z : List ℕ) → length z ≡ n → take n z ≡ z
          take_all z e = ap (λ n. take n z) (sym e) ∙ take-length z

-- Over 257 words they are the tree's words, over 513 the words with spans.
abbrev Exact : ℕ → (Tree → List ℕ) → Type 0
Exact size words = (s : List ℕ) (t : Tree) → Accepted 64 s t → over_words size t ≡ words t

pub plain_exact : Exact tree_length tree_words
plain_exact s t taken =
    let (numbers, exponents, few) = accepted_fits taken in
    tree-written t few numbers (λ k a p n h. omega (arith, exponents k a p n h))

pub spanned_exact : Exact spanned_tree spanned_words
spanned_exact s t taken =
    let (numbers, exponents, few) = accepted_fits taken in
    spanned-written t few numbers (λ k a p n h. omega (arith, exponents k a p n h))

-- ---- the answer
-- A judged text, over lent words that hold its tree's words if it is accepted.
pub over-refused : {words : Tree → List ℕ} (s lent : List ℕ) (answer : ReadAnswer) → Judged 64 s answer → (answer.number ≡ 0 → ⊥) → ReadOver words s lent answer lent
over-refused s lent _ (refuses r) some = refused_over r
over-refused s lent _ (accepts a) some = absurd (some refl)

pub over-accepted : {words : Tree → List ℕ} (s lent : List ℕ) (answer : ReadAnswer) (now : List ℕ) → Judged 64 s answer → answer.number ≡ 0
    → ((t : Tree) → Accepted 64 s t → now ≡ words t) → ReadOver words s lent answer now
over-accepted s lent _ now (refuses r) nought writes = absurd (omega (arith, fault_number r.applies))
over-accepted s lent _ now (accepts {t = t} a) nought writes = rw (writes t a) (accepted-over a)

-- Words that are the same for an accepted text.
over_exact : (n size : ℕ) {words : Tree → List ℕ} → n ≡ size → Exact size words → {s lent now : List ℕ} {r : ReadAnswer}
    → ReadOver (over_words n) s lent r now → ReadOver words s lent r now
over_exact n size same exact (refused_over r) = refused_over r
over_exact n size {words} same exact {s} {lent} (accepted-over {t = t} a) =
    subst (λ z. ReadOver words s lent (record { number = 0; place = 0 }) z) (sym (ap (λ k. over_words k t) same ∙ exact s t a)) (accepted-over a)

pub over-spanned : {s lent now : List ℕ} {r : ReadAnswer} → length lent ≡ spanned_tree → ReadOver (over_words (length lent)) s lent r now
    → ReadOver spanned_words s lent r now
over-spanned {lent = lent} long over = over_exact (length lent) spanned_tree long spanned_exact over

-- The first 257 words of a lent tree, read over and put back.
pub over_reading : {s lent part : List ℕ} {r : ReadAnswer} → tree_length ≤ length lent
    → ReadOver (over_words (length (take tree_length lent))) s (take tree_length lent) r part → Reading 64 s lent r (part ++ drop tree_length lent)
over_reading {s} {lent} long over = go (over_exact (length (take tree_length lent)) tree_length (length-take-le tree_length lent long) plain_exact over)
  where
    go : {part : List ℕ} {r : ReadAnswer} → ReadOver tree_words s (take tree_length lent) r part → Reading 64 s lent r (part ++ drop tree_length lent)
    go (refused_over {n} {p} r) =
        subst (λ z. Reading 64 s lent (record { number = n; place = p }) z) (sym (take-append-drop tree_length lent)) (refused long r)
    go (accepted-over a) = accepted long a
