pub mod AnyBoard
