pub mod EndAfter
pub mod Meanings
pub mod ParsedBounds
pub mod RoundTrip
pub mod Texts
