-- `elements` holds all 17 elements. Invariant: the first m are stored.
use Rattle.std.proofs.Common.{◌≡◌, take}
use Rattle.chain.specs.Chain.{row, words}
use Rattle.chain.specs.Coefficients.{from_coefficients}
use Rattle.chain_coefficients.proofs.elements.Given as goal

abbrev pub invariant-loop-m : goal.invariant-loop-m
invariant-loop-m l = l.r ≡ row 17 (take l.m (words 64 (from_coefficients l.a)))
