mod Utf8Fields
mod WriterLemmas
