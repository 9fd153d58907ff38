pub mod RunFacts
pub mod AdmitFacts
pub mod Fates
pub mod CloseFacts
pub mod WithdrawFacts
pub mod InBalance
