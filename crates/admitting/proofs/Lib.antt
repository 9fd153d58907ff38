pub mod ByNumber
pub mod InSlot
pub mod OnSound
pub mod IfFree
pub mod InArrays
