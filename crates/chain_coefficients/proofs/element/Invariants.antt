-- `element` sums over the coefficients. Invariant: the total and what is left to add stay the same together.
use Rattle.std.proofs.Common.{◌≡◌, ◌+◌, ◌%◌, ◌^◌, drop}
use Rattle.chain.specs.Coefficients.{element_from}
use Rattle.chain_coefficients.proofs.element.Given as goal

abbrev pub invariant-loop-j : goal.invariant-loop-j
invariant-loop-j l = (l.total + element_from l.j (drop l.j l.a) l.m) % 2 ^ 64 ≡ element_from 0 l.a l.m % 2 ^ 64
