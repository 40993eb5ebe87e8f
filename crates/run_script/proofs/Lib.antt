mod Numerals
mod Cuts
mod Readings
mod Lines
mod Ends
mod Bounds
mod WrongWords
