pub mod OnSound
