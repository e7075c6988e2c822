-- The answer of the call, worked out: it is one that meets the contract, and the only one.
use mathlib.Core.Path.{◌≡◌, sym, ap, ap₂, subst, ◌∙◌}
use mathlib.Core.Bool.{Bool, cond}
use mathlib.Core.List.{List}
use Prim.Native.Nat.{ℕ, ◌≤◌, ◌<◌}
use native.Mathlib.Omega.{arith}
use lib.Dec.{eqb, ltb}
use borrow.Author.Tests.{ltb-true, ltb-false, lt-ltb, le-ltb, eqb-true, eqb-false, eq-eqb, ne_eqb}
use Rattle.word.proofs.Unique.{both_are}
use Rattle.plan.specs.Row.{kind, first_byte, end_byte}
use Rattle.plan.specs.Plan.{row_count, row, refusal}
use Rattle.plan.proofs.Accepting.{accepted}
use Rattle.fold.proofs.Rules.{picked}
use Rattle.reason.specs.Answer.{ReasonAnswer}
use Rattle.reason.specs.RowTrees.{row_tree}
use Rattle.reason.specs.Reasons.{Reason}
use Rattle.reason.specs.Explaining.{refusing, explaining, Explaining, refused, not-counted, no_operator, operator}
use Rattle.reason.proofs.Numbers.{reason_of}
use Rattle.reason.proofs.OneReason.{one_reason}
use Rattle.reason.proofs.SoundRows.{row_reason, row_has_reason}

unfoldable pub explained : List ℕ → ℕ → ReasonAnswer
explained p r =
    cond (eqb (refusal p) 0) (cond (ltb r (row_count p)) (explaining p r (row_reason p r)) (refusing 0)) (refusing (refusal p))

module _ (w : ℕ) (p : List ℕ) (r : ℕ) where
  -- ---- it meets the contract
  pub counted-explained : refusal p ≡ 0 → r < row_count p → Explaining w p r (explaining p r (row_reason p r))
  unfolding row_reason
  counted-explained e within =
      picked (λ n. Explaining w p r (explaining p r n)) (ltb (kind (row p r)) 3)
      (λ t. no_operator e within (ltb-true (kind (row p r)) 3 t))
      (λ t. let good = accepted p e in
      let least = ltb-false (kind (row p r)) 3 t in
      operator e within least (row_has_reason p good.0 good.1 r within least w))

  pub is-explained : Explaining w p r (explained p r)
  unfolding explained
  is-explained =
      picked (Explaining w p r) (eqb (refusal p) 0)
      (λ t. let e = eqb-true (refusal p) 0 t in
      picked (Explaining w p r) (ltb r (row_count p)) (λ u. counted-explained e (ltb-true r (row_count p) u))
      (λ u. not-counted e (ltb-false r (row_count p) u)))
      (λ t. refused (eqb-false (refusal p) 0 t))

  -- ---- no other does
  abbrev answered_by : Bool → Bool → ReasonAnswer
  answered_by good within = cond good (cond within (explaining p r (row_reason p r)) (refusing 0)) (refusing (refusal p))

  counted : refusal p ≡ 0 → r < row_count p → explained p r ≡ explaining p r (row_reason p r)
  unfolding explained
  counted e within = ap₂ answered_by (eq-eqb (refusal p) 0 e) (lt-ltb r (row_count p) within)

  pub explained_only : {a : ReasonAnswer} → Explaining w p r a → a ≡ explained p r
  unfolding explained row_reason
  explained_only (refused other) = sym (ap (λ t. answered_by t (ltb r (row_count p))) (ne_eqb (refusal p) 0 other))
  explained_only (not-counted e past) = sym (ap₂ answered_by (eq-eqb (refusal p) 0 e) (le-ltb r (row_count p) past))
  explained_only (no_operator e within few) =
      sym (counted e within ∙ ap (λ t. explaining p r (cond t 0 (reason_of (row_tree p r)))) (lt-ltb (kind (row p r)) 3 few))
  explained_only (operator e within least reason) =
      let good = accepted p e in
      sym (counted e within ∙ ap (λ t. explaining p r (cond t 0 (reason_of (row_tree p r)))) (le-ltb (kind (row p r)) 3 least)
      ∙ ap (explaining p r) (one_reason (row_has_reason p good.0 good.1 r within least w) reason))

  -- Any two answers that meet the contract are equal.
  pub explaining-unique : {a b : ReasonAnswer} → Explaining w p r a → Explaining w p r b → a ≡ b
  explaining-unique A B = both_are (explained_only A) (explained_only B)

  -- ---- "Every such row is proved to have exactly one reason on the list, the one shown"
  module _ (e : refusal p ≡ 0) (within : r < row_count p) (least : 3 ≤ kind (row p r)) where
    pub exactly_one : (n : ℕ) × Reason w (row_tree p r) n × ((m : ℕ) → Reason w (row_tree p r) m → m ≡ n)
    exactly_one =
        let good = accepted p e in
        let here = row_has_reason p good.0 good.1 r within least w in
        (reason_of (row_tree p r), here, λ m other. one_reason other here)

    pub the_one_shown : {a : ReasonAnswer} → Explaining w p r a → Reason w (row_tree p r) a.reason
    the_one_shown (refused other) = absurd (other e)
    the_one_shown (not-counted _ past) = absurd (omega arith)
    the_one_shown (no_operator _ _ few) = absurd (omega arith)
    the_one_shown (operator _ _ _ reason) = reason

  -- ---- what the code answers
  pub answer-refused : {n : ℕ} → n ≡ refusal p → (n ≡ 0 → ⊥) → Explaining w p r (refusing n)
  answer-refused e other = subst (λ n. Explaining w p r (refusing n)) (sym e) (refused (λ z. other (e ∙ z)))

  pub answer-counted : {n first end : ℕ} → refusal p ≡ 0 → r < row_count p → n ≡ row_reason p r → first ≡ first_byte (row p r) → end ≡ end_byte (row p r)
      → Explaining w p r (record { number = 0; place = 0; reason = n; first = first; end = end })
  answer-counted {n} {first} {end} e within number from upto =
      subst (Explaining w p r) same (counted-explained e within)
    where
      same : explaining p r (row_reason p r) ≡ record { number = 0; place = 0; reason = n; first = first; end = end }
      same = rw (number, from, upto)
