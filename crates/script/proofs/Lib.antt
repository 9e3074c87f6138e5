-- Lemmas of the script's readers.
pub mod Laying
pub mod Numbers
pub mod Pairs
pub mod Spelling
pub mod Words
