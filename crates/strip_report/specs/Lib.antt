pub mod Shown
pub mod Printed
pub mod Joined
