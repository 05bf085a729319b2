-- What `map` and `map_err` make of an answer.
pub mod Mapped
