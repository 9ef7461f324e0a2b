mod SideLemmas
mod Spread
