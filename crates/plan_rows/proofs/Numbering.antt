-- The numbers of row kinds: there are nine, and no two kinds have one number.
use Rattle.std.proofs.Common.{◌<◌, arith}
use Rattle.plan_rows.specs.declared.kinds.RowKind.{RowKind}
use Rattle.plan_rows.specs.declared.kinds.RowKind.TheVariants.{Constant, SumChain, ProductChain, Sum, Difference, Product, Minus, LiteralPower, Raise}
use Rattle.plan_rows.specs.Kinds.{kind_number}

pub kind_number_few : (kind : RowKind) → kind_number kind < 9
kind_number_few Constant = omega arith
kind_number_few SumChain = omega arith
kind_number_few ProductChain = omega arith
kind_number_few Sum = omega arith
kind_number_few Difference = omega arith
kind_number_few Product = omega arith
kind_number_few Minus = omega arith
kind_number_few LiteralPower = omega arith
kind_number_few Raise = omega arith
