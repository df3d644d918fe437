-- Lemmas on the lines of a trace.
pub mod Lines
