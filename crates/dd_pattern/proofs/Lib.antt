pub mod PeriodsLaws
