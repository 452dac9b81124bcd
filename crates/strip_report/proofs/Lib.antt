mod Laid
mod Reading
mod Late
mod Only
mod JoinOnly
