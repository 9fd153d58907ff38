pub mod Results
pub mod Alone
pub mod FieldByField
pub mod Places
