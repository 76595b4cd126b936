-- `Input` says what is printed of the program's input.
pub mod Input
