-- The demands, the starred table, the steps that lead to them, and that results are settled.
pub mod Bridges
pub mod Demands
pub mod PlanRows
pub mod Expectations
pub mod StarredTable
pub mod AnyGrid
pub mod Results
