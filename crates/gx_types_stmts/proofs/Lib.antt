mod KnownLemmas
mod PartBounds
mod StatementLemmas
