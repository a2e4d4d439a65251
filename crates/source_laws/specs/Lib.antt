pub mod SourceHulls
pub mod CostsOfExpressions
pub mod CostsOfInstances
pub mod Sizes
pub mod EvaluationCosts
pub mod WorkedRuns
