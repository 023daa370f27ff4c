pub mod Lists
pub mod Ready
pub mod FormulaLaws
pub mod Growing
pub mod AdmissibleLaws
pub mod UnitLaws
