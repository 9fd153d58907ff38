pub mod Agree
pub mod Numbers
pub mod Admitting
pub mod Closing
pub mod Beginning
pub mod Withdrawing
