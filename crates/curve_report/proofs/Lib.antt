mod Open
mod Once
mod Front
