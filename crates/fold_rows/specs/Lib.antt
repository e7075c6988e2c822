-- What the contracts of `fold_rows` cite: folded trees that stand in a lent plan.
pub mod Standing
