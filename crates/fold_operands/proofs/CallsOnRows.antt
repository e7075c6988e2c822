-- What a call on two sum chains answers where both are lent as rows: the chains need not be trimmed first.
use mathlib.Core.Path.{◌≡◌, refl, sym, ap, ap₂, ◌∙◌}
use mathlib.Core.Bool.{false}
use mathlib.Core.List.{List}
use Prim.Native.Nat.{ℕ, ◌-◌, ◌≤◌}
use native.Mathlib.Omega.{arith}
use lib.Dec.{ltb}
use lib.ListN.{length}
use borrow.Author.Tests.{le-ltb}
use Rattle.chain.specs.Chain.{trimmed, row}
use Rattle.chain.specs.SumChain.{sum_at}
use Rattle.chain.specs.Answer.{chain, unless_long, given}
use Rattle.chain.proofs.Trimming.{value-trimmed-sum, length-trimmed}
use Rattle.fold_operands.proofs.OperandLaws.{Chain, row-taken}

-- The operation goes by the chains' values.
module _ (op : List ℕ → List ℕ → List ℕ)
    (op-as : (f f' g g' : List ℕ) → ((i : ℕ) → sum_at f i ≡ sum_at f' i) → ((i : ℕ) → sum_at g i ≡ sum_at g' i)
    → length f' ≤ 17 → length g' ≤ 17 → trimmed 0 (row 17 (op f g)) ≡ trimmed 0 (op f' g'))
    (f g : List ℕ) (hf : Chain f) (hg : Chain g) where
  trimmed-short : (f : List ℕ) → Chain f → length (trimmed 0 f) ≤ 17
  trimmed-short f h = length-trimmed 0 f 16 h.most

  both-trimmed : trimmed 0 (op (trimmed 0 f) (trimmed 0 g)) ≡ trimmed 0 (op f g)
  both-trimmed =
      sym
      (op-as f (trimmed 0 f) g (trimmed 0 g) (λ i. sym (value-trimmed-sum f i)) (λ i. sym (value-trimmed-sum g i))
      (trimmed-short f hf) (trimmed-short g hg))
      ∙ op-as f f g g (λ i. refl) (λ i. refl) hf.most hg.most

  last_fits : (f : List ℕ) → Chain f → ltb 16 (length f - 1) ≡ false
  last_fits f h = le-ltb 16 (length f - 1) (omega (arith, h.most))

  given-row : (f : List ℕ) → Chain f → given (row 17 f) (length f - 1) ≡ trimmed 0 f
  given-row f h = ap (trimmed 0) (row-taken f h)

  pub call_answer : unless_long (length f - 1)
      (unless_long (length g - 1) (chain (trimmed 0 (op (given (row 17 f) (length f - 1)) (given (row 17 g) (length g - 1))))))
      ≡ chain (trimmed 0 (op f g))
  call_answer =
      rw (last_fits f hf, last_fits g hg)
      (ap chain (ap₂ (λ x y. trimmed 0 (op x y)) (given-row f hf) (given-row g hg) ∙ both-trimmed))
