-- Lemmas of the looks.
pub mod Looking
