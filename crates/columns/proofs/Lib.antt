pub mod ToRight
