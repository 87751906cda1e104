-- Lemmas of the proofs.
mod Naming
mod Numbers
mod Pairing
mod Plainly
mod Positionals
mod Reading
mod Simple
mod Telling
