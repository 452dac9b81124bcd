mod Lengths
mod Lawfully
mod Stops
mod Told
